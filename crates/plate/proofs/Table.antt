-- Each reason of a plate's call is given exactly in the case that documents 01 and 02 state, with the side and the place stated there: the
-- changes, undo and the parts call, and each of them on any plate that stands for the history of some calls. `ChangeCase`, `UndoCase` and
-- `PartsCase` are the table, `plate_exactly` and `plate_parts_exactly` at the end the theorems; between them is their proof. Assumes nothing.
use mathlib.Core.Path.{◌≡◌, refl, sym, ap, ◌∙◌}
use mathlib.Core.Bool.{Bool, true, false, not, cond, true≢false}
use mathlib.Core.List.{List, [], ◌∷◌}
use mathlib.Core.Logic.{◌↔◌, ◌⊎◌, inl, inr}
use Prim.Native.Nat.{ℕ, zero, suc, ◌<◌, ◌≤◌}
use native.Mathlib.Omega.{arith}
use borrow.Author.Tests.{eqb-true, eqb-false, eq-eqb, ne_eqb, ltb-true, ltb-false, lt-ltb, le-ltb, not-true, not-false}
use lib.Dec.{eqb, ltb}
use lib.IntN.{ℤ}
use lib.ListN.{length, get_or, get_or-eq_default}
use Rattle.shape.specs.Points.{moved}
use Rattle.shape.specs.Flat.{Flat}
use Rattle.shape.specs.Verdicts.{Says}
use Rattle.shape.specs.Shells.{is_closed}
use Rattle.shape.proofs.VerdictLaws.{says_yes, says_no, says_fixed}
use Rattle.shape.proofs.Closed.{ClosedShell, closed_says}
use Rattle.checks.specs.Answers.{Answer, served, refused, Check, fine, ◌then◌, number_of, side_of, place_of}
use Rattle.checks.specs.Grid.{lowest_off, all_on}
use Rattle.checks.specs.Rules.{right_length, not_flat, refuses_flat, shape_checks}
use Rattle.checks.specs.Told.{told_check}
use Rattle.checks.proofs.GridLaws.{SomeOff, Lowest, one_off, lowest as lowest-off, lowest_some}
use Rattle.checks.proofs.CheckLaws.{LengthCase, right, wrong, length_case, GridCase, all, not_all, grid_case, OnGrid, all_on_grid_law, FlatCase, flat, never_flat, flat_case, long_fine, not_long_refused, on_fine, off_refused, not_flat_fine, flat_refused}
use Rattle.checks.proofs.Tables.{Gives, gives_as, then_gives, SomeCase, exactly, also_exactly, at_most_or_above}
use Rattle.slots.specs.Slots.{Slot, free, held, triangle, is_of}
use Rattle.slots.specs.Parts.{SkinsMeet, triangles_of}
use Rattle.slots.specs.Changes.{Change, place, lift, shift, thrice}
use Rattle.shape.specs.Lists.{some, lowest}
use Rattle.slots.specs.Leaving.{leaves}
use Rattle.slots.specs.Arrays.{mark_of}
use Rattle.shape.proofs.ListLaws.{some_at, some_found, lowest_at, lowest_none, below_lowest}
use Rattle.keeping.specs.declared.plates.Plate.{Plate}
use Rattle.reasons.specs.Rules.{slot_free, change_checks, parts_checks}
use Rattle.plate.specs.Histories.{History, slots_of, Call, change, undo, made, taken_back, outcome, run}
use Rattle.plate.specs.Plates.{Stands, Answered, Promise, present_answer, PartsRule, PartsPromise}
use Rattle.plate.specs.declared.calls.PlateAnswer.{PlateAnswer}
use Rattle.reasons.proofs.Placing.{placing, place_order}
use Rattle.reasons.proofs.Orders.{place_8, place_fine, lift_6, lift_9, lift_fine, shift_7, shift_10, shift_11, shift_fine}
use Rattle.plate.proofs.Demand.{undo_refused}

-- ---- words of the table
-- Slot s is empty. (So is every slot past the last.)
abbrev pub Empty : List Slot → ℕ → Type 0
Empty S s = get_or S s free ≡ free

-- Slot s is filled.
pub record Filled (S : List Slot) (s : ℕ) : Type 0 where
  pub part : ℕ
  pub numbers : List ℤ
  pub holds : get_or S s free ≡ held part numbers

-- Slot s holds this triangle, and it is of part q.
abbrev pub Holds : List Slot → (q s : ℕ) → List ℤ → Type 0
Holds S q s numbers = get_or S s free ≡ held q numbers

-- There is a triangle of part q.
pub record HasPart (S : List Slot) (q : ℕ) : Type 0 where
  pub slot : ℕ
  pub numbers : List ℤ
  pub holds : Holds S q slot numbers

-- There is none.
abbrev pub NoPart : List Slot → ℕ → Type 0
NoPart S q = (s : ℕ) (numbers : List ℤ) → Holds S q s numbers → ⊥

-- Moved by these steps, every triangle of part q has all its coordinates on the grid.
abbrev pub Stays : List Slot → ℕ → List ℤ → Type 0
Stays S q by = (s : ℕ) (numbers : List ℤ) → Holds S q s numbers → OnGrid (moved by numbers)

-- Slot i is the lowest whose triangle is of part q and, moved by these steps, has some coordinate off the grid.
pub record LowestLeaving (S : List Slot) (q : ℕ) (by : List ℤ) (i : ℕ) : Type 0 where
  pub numbers : List ℤ
  pub holds : Holds S q i numbers
  pub off : SomeOff (moved by numbers)
  pub before : (s : ℕ) → s < i → (others : List ℤ) → Holds S q s others → OnGrid (moved by others)

-- ---- the table: what goes with each number, side and place
-- A place is called `spot` here, because `place` is a change. Each case says that no fault before it is there, and so the first wins.
-- The changes, on the slots S.
pub data ChangeCase (S : List Slot) : Change → (number side spot : ℕ) → Type 0 where
  -- Place. 6: slot above 63.
  place_slot : (s q : ℕ) (numbers : List ℤ) → 63 < s → ChangeCase S (place s q numbers) 6 0 s
  -- 7: part above 15.
  place_part : (s q : ℕ) (numbers : List ℤ) → s ≤ 63 → 15 < q → ChangeCase S (place s q numbers) 7 0 q
  -- 3: the list is not nine numbers long.
  place_length : (s q : ℕ) (numbers : List ℤ) → s ≤ 63 → q ≤ 15 → (length numbers ≡ 9 → ⊥) →
      ChangeCase S (place s q numbers) 3 0 (length numbers)
  -- 1: a coordinate off the grid, the lowest at position k.
  place_off : (s q : ℕ) (numbers : List ℤ) (k : ℕ) → s ≤ 63 → q ≤ 15 → length numbers ≡ 9 → Lowest numbers k →
      ChangeCase S (place s q numbers) 1 0 k
  -- 2: a flat triangle.
  place_flat : (s q : ℕ) (numbers : List ℤ) → s ≤ 63 → q ≤ 15 → length numbers ≡ 9 → OnGrid numbers → Flat 3 (triangle numbers) →
      ChangeCase S (place s q numbers) 2 0 0
  -- 8: the slot is filled.
  place_filled : (s q : ℕ) (numbers : List ℤ) → s ≤ 63 → q ≤ 15 → length numbers ≡ 9 → OnGrid numbers →
      (Flat 3 (triangle numbers) → ⊥) → Filled S s → ChangeCase S (place s q numbers) 8 0 s
  -- Served: none of these.
  place_served : (s q : ℕ) (numbers : List ℤ) → s ≤ 63 → q ≤ 15 → length numbers ≡ 9 → OnGrid numbers →
      (Flat 3 (triangle numbers) → ⊥) → Empty S s → ChangeCase S (place s q numbers) 0 0 0
  -- Lift. 6: slot above 63.
  lift_slot : (s : ℕ) → 63 < s → ChangeCase S (lift s) 6 0 s
  -- 9: the slot is empty.
  lift_empty : (s : ℕ) → s ≤ 63 → Empty S s → ChangeCase S (lift s) 9 0 s
  -- Served: it is filled.
  lift_served : (s : ℕ) → s ≤ 63 → Filled S s → ChangeCase S (lift s) 0 0 0
  -- Shift. 7: part above 15.
  shift_part : (q : ℕ) (dx dy dz : ℤ) → 15 < q → ChangeCase S (shift q dx dy dz) 7 0 q
  -- 10: no triangle of that part.
  shift_none : (q : ℕ) (dx dy dz : ℤ) → q ≤ 15 → NoPart S q → ChangeCase S (shift q dx dy dz) 10 0 q
  -- 11: the shift would take a coordinate off the grid, slot i being the lowest such.
  shift_off : (q : ℕ) (dx dy dz : ℤ) (i : ℕ) → q ≤ 15 → LowestLeaving S q (thrice dx dy dz) i → ChangeCase S (shift q dx dy dz) 11 0 i
  -- Served: there is a triangle of that part, and each of them stays on the grid.
  shift_served : (q : ℕ) (dx dy dz : ℤ) → q ≤ 15 → HasPart S q → Stays S q (thrice dx dy dz) → ChangeCase S (shift q dx dy dz) 0 0 0

-- Undo, after a history.
pub data UndoCase (h : History) : (number side spot : ℕ) → Type 0 where
  -- 12: undo at reach 0.
  undo_none : h.reach ≡ 0 → UndoCase h 12 0 0
  -- Served: the reach is above 0.
  undo_served : 0 < h.reach → UndoCase h 0 0 0

-- The shell of part q is closed: each directed edge of its triangles occurs once and its reverse once. Else it is open.
abbrev pub Closed : List Slot → ℕ → Type 0
Closed S q = ClosedShell (triangles_of q S)

abbrev pub Open : List Slot → ℕ → Type 0
Open S q = Closed S q → ⊥

-- The question whether the parts p and q clash, on the slots S.
pub data PartsCase (S : List Slot) (p q : ℕ) : (number side spot : ℕ) → Type 0 where
  -- 7: the first part above 15, then the second.
  first_above : 15 < p → PartsCase S p q 7 0 p
  second_above : p ≤ 15 → 15 < q → PartsCase S p q 7 1 q
  -- 10: no triangle of the first part, then of the second.
  first_none : p ≤ 15 → q ≤ 15 → NoPart S p → PartsCase S p q 10 0 p
  second_none : p ≤ 15 → q ≤ 15 → HasPart S p → NoPart S q → PartsCase S p q 10 1 q
  -- 16: both are there, they are two, their skins don't meet, and the shell of the first is open, then of the second.
  first_open : p ≤ 15 → q ≤ 15 → HasPart S p → HasPart S q → (p ≡ q → ⊥) → (SkinsMeet S p q → ⊥) → Open S p → PartsCase S p q 16 0 p
  second_open : p ≤ 15 → q ≤ 15 → HasPart S p → HasPart S q → (p ≡ q → ⊥) → (SkinsMeet S p q → ⊥) → Closed S p → Open S q → PartsCase S p q 16 1 q
  -- Served: both are there, and they are one part, or their skins meet, or both shells are closed.
  parts_served : p ≤ 15 → q ≤ 15 → HasPart S p → HasPart S q → (p ≡ q) ⊎ (SkinsMeet S p q ⊎ (Closed S p × Closed S q)) → PartsCase S p q 0 0 0

-- ---- slots
module _ (S : List Slot) (s : ℕ) where
  empty_or_filled : Empty S s ⊎ Filled S s
  empty_or_filled = by_slot (get_or S s free) refl
    where
      by_slot : (x : Slot) → get_or S s free ≡ x → Empty S s ⊎ Filled S s
      by_slot free e = inl e
      by_slot (held part numbers) e = inr (record { part = part; numbers = numbers; holds = e })

  mark_empty : Empty S s → mark_of (get_or S s free) ≡ 0
  mark_empty e = ap mark_of e

  mark_filled : Filled S s → mark_of (get_or S s free) ≡ 0 → ⊥
  mark_filled f e = omega (arith, ap mark_of f.holds)

  -- A filled slot is one of the list.
  filled_inside : {q : ℕ} {numbers : List ℤ} → Holds S q s numbers → s < length S
  filled_inside {q} {numbers} e = by_test (ltb s (length S)) refl
    where
      by_test : (t : Bool) → ltb s (length S) ≡ t → s < length S
      by_test true f = ltb-true s (length S) f
      by_test false f = absurd (omega (arith, ap mark_of (sym e ∙ get_or-eq_default S free (ltb-false s (length S) f))))

-- ---- parts: the test in the rules, and its words
module _ (q : ℕ) where
  is_of_law : (x : Slot) {numbers : List ℤ} → x ≡ held q numbers → is_of q x ≡ true
  is_of_law x e = ap (is_of q) e ∙ eq-eqb q q refl

  of_is : (x : Slot) → is_of q x ≡ true → (S : List Slot) (s : ℕ) → get_or S s free ≡ x → HasPart S q
  of_is free t S s e = absurd (true≢false (sym t))
  of_is (held p numbers) t S s e =
      record { slot = s; numbers = numbers; holds = e ∙ ap (λ (r : ℕ). held r numbers) (eqb-true p q t) }

  -- Some slot passes the test exactly where there is a triangle of the part.
  module _ (S : List Slot) where
    has_some : HasPart S q → some (is_of q) S ≡ true
    has_some h =
        some_at (is_of q) free S h.slot (filled_inside S h.slot h.holds) (is_of_law (get_or S h.slot free) h.holds)

    some_has : some (is_of q) S ≡ true → HasPart S q
    some_has e = let f = some_found (is_of q) free S e in of_is (get_or S f.i free) f.passes S f.i refl

    none_some : NoPart S q → some (is_of q) S ≡ false
    none_some none = by_test (some (is_of q) S) refl
      where
        by_test : (t : Bool) → some (is_of q) S ≡ t → t ≡ false
        by_test true e = let h = some_has e in absurd (none h.slot h.numbers h.holds)
        by_test false e = refl

    has_or_none : HasPart S q ⊎ NoPart S q
    has_or_none = by_test (some (is_of q) S) refl
      where
        by_test : (t : Bool) → some (is_of q) S ≡ t → HasPart S q ⊎ NoPart S q
        by_test true e = inl (some_has e)
        by_test false e = inr (λ s numbers h. true≢false (sym (has_some (record { slot = s; numbers = numbers; holds = h })) ∙ e))

-- ---- the grid: the test in the rules, and its words
off_not_all : (l : List ℤ) → SomeOff l → all_on l ≡ false
off_not_all l off = by_test (all_on l) refl
  where
    by_test : (t : Bool) → all_on l ≡ t → t ≡ false
    by_test true e = absurd (omega (arith, off.off, all_on_grid_law l e off.position))
    by_test false e = refl

not_all_off : (l : List ℤ) → all_on l ≡ false → SomeOff l
not_all_off l e = lowest_some (lowest-off l (ltb-true (lowest_off l) (length l) (one_off l e)))

-- ---- a part that leaves the grid
-- The lowest index that passes a test does pass it.
lowest_passes : {A : Type 0} (f : A → Bool) (z : A) (l : List A) → lowest f l < length l → f (get_or l (lowest f l) z) ≡ true
lowest_passes f z [] h = absurd (omega arith)
lowest_passes f z (x ∷ xs) h = by_head (f x) refl h (lowest_passes f z xs)
  where
    by_head : (b : Bool) → f x ≡ b → cond b 0 (suc (lowest f xs)) < suc (length xs) →
        (lowest f xs < length xs → f (get_or xs (lowest f xs) z) ≡ true) → f (get_or (x ∷ xs) (cond b 0 (suc (lowest f xs))) z) ≡ true
    by_head true is h later = is
    by_head false is h later = later (omega arith)

module _ (S : List Slot) (q : ℕ) (by : List ℤ) where
  abbrev leaving : Slot → Bool
  leaving = leaves q by

  -- Of a slot.
  leaves_held : (s : ℕ) (numbers : List ℤ) → Holds S q s numbers → leaving (get_or S s free) ≡ not (all_on (moved by numbers))
  leaves_held s numbers e = ap leaving e ∙ ap (λ (t : Bool). cond t (not (all_on (moved by numbers))) false) (eq-eqb q q refl)

  stays_on : (s : ℕ) → leaving (get_or S s free) ≡ false → (numbers : List ℤ) → Holds S q s numbers → OnGrid (moved by numbers)
  stays_on s e numbers h = all_on_grid_law (moved by numbers) (not-false (all_on (moved by numbers)) (sym (leaves_held s numbers h) ∙ e))

  record Leaves (x : Slot) : Type 0 where
    numbers : List ℤ
    holds : x ≡ held q numbers
    off : SomeOff (moved by numbers)

  slot_leaves : (x : Slot) → leaving x ≡ true → Leaves x
  slot_leaves free e = absurd (true≢false (sym e))
  slot_leaves (held p numbers) e = by_test (eqb p q) refl e
    where
      by_test : (t : Bool) → eqb p q ≡ t → cond t (not (all_on (moved by numbers))) false ≡ true → Leaves (held p numbers)
      by_test true f g = record {
        numbers = numbers;
        holds = ap (λ (r : ℕ). held r numbers) (eqb-true p q f);
        off = not_all_off (moved by numbers) (not-true (all_on (moved by numbers)) g);
      }
      by_test false f g = absurd (true≢false (sym g))

  on_stays : (s : ℕ) → ((numbers : List ℤ) → Holds S q s numbers → OnGrid (moved by numbers)) → leaving (get_or S s free) ≡ false
  on_stays s on = by_test (leaving (get_or S s free)) refl
    where
      by_test : (t : Bool) → leaving (get_or S s free) ≡ t → t ≡ false
      by_test true e =
          let l = slot_leaves (get_or S s free) e in absurd (omega (arith, l.off.off, on l.numbers l.holds l.off.position))
      by_test false e = refl

  -- Of all slots: the index that the rule computes is the lowest such slot, where there is one.
  abbrev low : ℕ
  low = lowest leaving S

  leaving_lowest : {i : ℕ} → LowestLeaving S q by i → (low ≡ i) × (i < length S)
  leaving_lowest {i} h =
      let inside = filled_inside S i h.holds in
      let off = leaves_held i h.numbers h.holds ∙ ap not (off_not_all (moved by h.numbers) h.off) in
      (lowest_at leaving free S i (λ k l. on_stays k (h.before k l)) inside off, inside)

  leaving_part : {i : ℕ} → LowestLeaving S q by i → HasPart S q
  leaving_part {i} h = record { slot = i; numbers = h.numbers; holds = h.holds }

  stays_lowest : Stays S q by → length S ≤ low
  stays_lowest stays = omega (arith, lowest_none leaving free S (λ k l. on_stays k (stays k)))

  leaving_or_stays : LowestLeaving S q by low ⊎ Stays S q by
  leaving_or_stays = decide (at_most_or_above (length S) low)
    where
      decide : (length S ≤ low) ⊎ (low < length S) → LowestLeaving S q by low ⊎ Stays S q by
      decide (inl h) = inr each
        where
          each : Stays S q by
          each s numbers e =
              stays_on s (below_lowest leaving free S s (omega (arith, filled_inside S s e))) numbers e
      decide (inr h) =
          let l = slot_leaves (get_or S low free) (lowest_passes leaving free S h) in
          inl (record { numbers = l.numbers; holds = l.holds; off = l.off; before = λ s b. stays_on s (below_lowest leaving free S s b) })

-- ---- place
module _ (S : List Slot) (s q : ℕ) (numbers : List ℤ) where
  -- What the checks that look at no slot refuse is refused.
  place_refused : {number side spot : ℕ} → placing s q numbers ≡ refused number side spot →
      change_checks S (place s q numbers) ≡ refused number side spot
  place_refused e = place_order S s q numbers ∙ ap (λ (c : Check). c then slot_free S s) e

  place_6 : 63 < s → placing s q numbers ≡ refused 6 0 s
  place_6 a = rw (lt-ltb 63 s a)

  place_7 : s ≤ 63 → 15 < q → placing s q numbers ≡ refused 7 0 q
  place_7 a b = rw (le-ltb 63 s a, lt-ltb 15 q b)

  module _ (a : s ≤ 63) (b : q ≤ 15) where
    numbers_decide : placing s q numbers ≡ (right_length 0 9 numbers then shape_checks refuses_flat 3 3 0 numbers)
    numbers_decide = rw (le-ltb 63 s a, le-ltb 15 q b)

    place_3 : (length numbers ≡ 9 → ⊥) → placing s q numbers ≡ refused 3 0 (length numbers)
    place_3 h = numbers_decide ∙ ap (λ (c : Check). c then shape_checks refuses_flat 3 3 0 numbers) (not_long_refused 0 9 numbers h)

    module _ (long : length numbers ≡ 9) where
      shape_decides : placing s q numbers ≡ shape_checks refuses_flat 3 3 0 numbers
      shape_decides = numbers_decide ∙ ap (λ (c : Check). c then shape_checks refuses_flat 3 3 0 numbers) (long_fine 0 9 numbers long)

      place_1 : (k : ℕ) → Lowest numbers k → placing s q numbers ≡ refused 1 0 k
      place_1 k low =
          shape_decides ∙ ap (λ (c : Check). c then not_flat 3 0 (triangle numbers)) (off_refused 0 k numbers low)

      module _ (on : OnGrid numbers) where
        flat_decides : placing s q numbers ≡ not_flat 3 0 (triangle numbers)
        flat_decides = shape_decides ∙ ap (λ (c : Check). c then not_flat 3 0 (triangle numbers)) (on_fine 0 numbers on)

        place_2 : Flat 3 (triangle numbers) → placing s q numbers ≡ refused 2 0 0
        place_2 h = flat_decides ∙ flat_refused refuses_flat 3 0 (triangle numbers) h

        placing_fine : (Flat 3 (triangle numbers) → ⊥) → placing s q numbers ≡ fine
        placing_fine h = flat_decides ∙ not_flat_fine refuses_flat 3 0 (triangle numbers) h

-- ---- the changes
module _ (S : List Slot) where
  -- From the case to the checks.
  from_change : (c : Change) (number side spot : ℕ) → ChangeCase S c number side spot → Gives (change_checks S c) number side spot
  from_change c number side spot (place_slot s q numbers a) = gives_as (place_refused S s q numbers (place_6 S s q numbers a))
  from_change c number side spot (place_part s q numbers a b) = gives_as (place_refused S s q numbers (place_7 S s q numbers a b))
  from_change c number side spot (place_length s q numbers a b h) = gives_as (place_refused S s q numbers (place_3 S s q numbers a b h))
  from_change c number side spot (place_off s q numbers k a b long low) =
      gives_as (place_refused S s q numbers (place_1 S s q numbers a b long k low))
  from_change c number side spot (place_flat s q numbers a b long on h) =
      gives_as (place_refused S s q numbers (place_2 S s q numbers a b long on h))
  from_change c number side spot (place_filled s q numbers a b long on h f) =
      gives_as (place_8 S s q numbers (placing_fine S s q numbers a b long on h) (mark_filled S s f))
  from_change c number side spot (place_served s q numbers a b long on h e) =
      gives_as (place_fine S s q numbers (placing_fine S s q numbers a b long on h) (mark_empty S s e))
  from_change c number side spot (lift_slot s a) = gives_as (lift_6 S s a)
  from_change c number side spot (lift_empty s a e) = gives_as (lift_9 S s a (mark_empty S s e))
  from_change c number side spot (lift_served s a f) = gives_as (lift_fine S s a (mark_filled S s f))
  from_change c number side spot (shift_part q dx dy dz a) = gives_as (shift_7 S q dx dy dz a)
  from_change c number side spot (shift_none q dx dy dz a none) = gives_as (shift_10 S q dx dy dz a (none_some q S none))
  from_change c number side spot (shift_off q dx dy dz i a h) =
      let by = thrice dx dy dz in
      let l = leaving_lowest S q by h in
      gives_as (shift_11 S q dx dy dz a (has_some q S (leaving_part S q by h)) (omega (arith, l.0, l.1)) ∙ ap (refused 11 0) l.0)
  from_change c number side spot (shift_served q dx dy dz a h stays) =
      gives_as (shift_fine S q dx dy dz a (has_some q S h) (stays_lowest S q (thrice dx dy dz) stays))

  -- Some case holds.
  some_place : (s q : ℕ) (numbers : List ℤ) → SomeCase (ChangeCase S (place s q numbers))
  some_place s q numbers = by_numbers (at_most_or_above s 63) (at_most_or_above q 15) (length_case 0 9 numbers)
    where
      by_slot : s ≤ 63 → q ≤ 15 → length numbers ≡ 9 → OnGrid numbers → (Flat 3 (triangle numbers) → ⊥) → Empty S s ⊎ Filled S s →
          SomeCase (ChangeCase S (place s q numbers))
      by_slot a b long on h (inl e) = record { number = 0; side = 0; place = 0; found = place_served s q numbers a b long on h e }
      by_slot a b long on h (inr f) = record { number = 8; side = 0; place = s; found = place_filled s q numbers a b long on h f }

      by_shape : s ≤ 63 → q ≤ 15 → length numbers ≡ 9 → GridCase 0 numbers → FlatCase refuses_flat 3 0 (triangle numbers) →
          SomeCase (ChangeCase S (place s q numbers))
      by_shape a b long (not_all low e) g =
          record { number = 1; side = 0; place = lowest_off numbers; found = place_off s q numbers (lowest_off numbers) a b long low }
      by_shape a b long (all on e) (flat h g) = record { number = 2; side = 0; place = 0; found = place_flat s q numbers a b long on h }
      by_shape a b long (all on e) (never_flat h g) = by_slot a b long on h (empty_or_filled S s)

      by_numbers : (s ≤ 63) ⊎ (63 < s) → (q ≤ 15) ⊎ (15 < q) → LengthCase 0 9 numbers → SomeCase (ChangeCase S (place s q numbers))
      by_numbers (inr a) b l = record { number = 6; side = 0; place = s; found = place_slot s q numbers a }
      by_numbers (inl a) (inr b) l = record { number = 7; side = 0; place = q; found = place_part s q numbers a b }
      by_numbers (inl a) (inl b) (wrong h e) = record { number = 3; side = 0; place = length numbers; found = place_length s q numbers a b h }
      by_numbers (inl a) (inl b) (right long e) = by_shape a b long (grid_case 0 numbers) (flat_case refuses_flat 3 0 (triangle numbers))

  some_lift : (s : ℕ) → SomeCase (ChangeCase S (lift s))
  some_lift s = decide (at_most_or_above s 63) (empty_or_filled S s)
    where
      decide : (s ≤ 63) ⊎ (63 < s) → Empty S s ⊎ Filled S s → SomeCase (ChangeCase S (lift s))
      decide (inr a) f = record { number = 6; side = 0; place = s; found = lift_slot s a }
      decide (inl a) (inl e) = record { number = 9; side = 0; place = s; found = lift_empty s a e }
      decide (inl a) (inr f) = record { number = 0; side = 0; place = 0; found = lift_served s a f }

  some_shift : (q : ℕ) (dx dy dz : ℤ) → SomeCase (ChangeCase S (shift q dx dy dz))
  some_shift q dx dy dz = decide (at_most_or_above q 15) (has_or_none q S) (leaving_or_stays S q (thrice dx dy dz))
    where
      decide : (q ≤ 15) ⊎ (15 < q) → HasPart S q ⊎ NoPart S q →
          LowestLeaving S q (thrice dx dy dz) (lowest (leaves q (thrice dx dy dz)) S) ⊎ Stays S q (thrice dx dy dz) →
          SomeCase (ChangeCase S (shift q dx dy dz))
      decide (inr a) h g = record { number = 7; side = 0; place = q; found = shift_part q dx dy dz a }
      decide (inl a) (inr none) g = record { number = 10; side = 0; place = q; found = shift_none q dx dy dz a none }
      decide (inl a) (inl h) (inl off) =
          let i = lowest (leaves q (thrice dx dy dz)) S in
          record { number = 11; side = 0; place = i; found = shift_off q dx dy dz i a off }
      decide (inl a) (inl h) (inr stays) = record { number = 0; side = 0; place = 0; found = shift_served q dx dy dz a h stays }

  some_change : (c : Change) → SomeCase (ChangeCase S c)
  some_change (place s q numbers) = some_place s q numbers
  some_change (lift s) = some_lift s
  some_change (shift q dx dy dz) = some_shift q dx dy dz

  -- The checks of a change give a number, a side and a place exactly in their case.
  pub change_exactly : (c : Change) {number side spot : ℕ} → ChangeCase S c number side spot ↔ Gives (change_checks S c) number side spot
  change_exactly c = exactly (change_checks S c) (ChangeCase S c) (from_change c) (some_change c)

-- ---- the parts call
-- What the test in the rule says of a shell that is closed, or open.
test_closed : (S : List Slot) (q : ℕ) → Closed S q → is_closed (triangles_of q S) ≡ true
test_closed S q closed = says_fixed (closed_says (triangles_of q S)) (says_yes closed)

test_open : (S : List Slot) (q : ℕ) → Open S q → is_closed (triangles_of q S) ≡ false
test_open S q wide = says_fixed (closed_says (triangles_of q S)) (says_no wide)

module _ (S : List Slot) (p q : ℕ) {answer : Answer Bool} (rule : PartsRule S p q answer) where
  -- Where the checks refuse, and where they are fine.
  told_refused : {n s k : ℕ} → parts_checks S p q ≡ refused n s k → answer ≡ refused n s k
  told_refused e = rule.told ∙ ap (λ (c : Check). c then present_answer S p q rule.skins rule.inside) e

  told_fine : parts_checks S p q ≡ fine → answer ≡ present_answer S p q rule.skins rule.inside
  told_fine e = rule.told ∙ ap (λ (c : Check). c then present_answer S p q rule.skins rule.inside) e

  there : p ≤ 15 → q ≤ 15 → HasPart S p → HasPart S q → parts_checks S p q ≡ fine
  there a b h g = rw (le-ltb 15 p a, le-ltb 15 q b, has_some p S h, has_some q S g)

  from_parts : (number side spot : ℕ) → PartsCase S p q number side spot → Gives answer number side spot
  from_parts number side spot (first_above a) = gives_as (told_refused (rw (lt-ltb 15 p a)))
  from_parts number side spot (second_above a b) = gives_as (told_refused (rw (le-ltb 15 p a, lt-ltb 15 q b)))
  from_parts number side spot (first_none a b none) = gives_as (told_refused (rw (le-ltb 15 p a, le-ltb 15 q b, none_some p S none)))
  from_parts number side spot (second_none a b h none) =
      gives_as (told_refused (rw (le-ltb 15 p a, le-ltb 15 q b, has_some p S h, none_some q S none)))
  from_parts number side spot (first_open a b h g other apart wide) =
      let is : answer ≡ refused 16 0 p =
      told_fine (there a b h g) ∙ rw (ne_eqb p q other, says_fixed rule.skins_right (says_no apart), test_open S p wide) in gives_as is
  from_parts number side spot (second_open a b h g other apart closed wide) =
      let is : answer ≡ refused 16 1 q =
      told_fine (there a b h g) ∙ rw (ne_eqb p q other, says_fixed rule.skins_right (says_no apart), test_closed S p closed, test_open S q wide) in gives_as is
  from_parts number side spot (parts_served a b h g (inl e)) =
      let is : answer ≡ served false = told_fine (there a b h g) ∙ rw (eq-eqb p q e) in gives_as is
  from_parts number side spot (parts_served a b h g (inr (inl clash))) =
      also_served (eqb p q) (told_fine (there a b h g) ∙ rw (says_fixed rule.skins_right (says_yes clash)))
    where
      also_served : (b : Bool) → answer ≡ cond b (served false) (served true) → Gives answer 0 0 0
      also_served true e = gives_as e
      also_served false e = gives_as e
  from_parts number side spot (parts_served a b h g (inr (inr closed))) =
      also_served (eqb p q) rule.skins (told_fine (there a b h g) ∙ rw (test_closed S p closed.0, test_closed S q closed.1))
    where
      also_served : (b v : Bool) → answer ≡ cond b (served false) (cond v (served true) (served rule.inside)) → Gives answer 0 0 0
      also_served true v e = gives_as e
      also_served false true e = gives_as e
      also_served false false e = gives_as e

  some_parts : SomeCase (PartsCase S p q)
  some_parts = decide (at_most_or_above p 15) (at_most_or_above q 15) (has_or_none p S) (has_or_none q S)
    where
      closing : {v w : Bool} → Says v (Closed S p) → Says w (Closed S q) → p ≤ 15 → q ≤ 15 → HasPart S p → HasPart S q →
          (p ≡ q → ⊥) → (SkinsMeet S p q → ⊥) → SomeCase (PartsCase S p q)
      closing {v = false} s t a b h g other apart =
          record { number = 16; side = 0; place = p; found = first_open a b h g other apart (s.no refl) }
      closing {v = true} {w = false} s t a b h g other apart =
          record { number = 16; side = 1; place = q; found = second_open a b h g other apart (s.yes refl) (t.no refl) }
      closing {v = true} {w = true} s t a b h g other apart =
          record { number = 0; side = 0; place = 0; found = parts_served a b h g (inr (inr (s.yes refl, t.yes refl))) }

      skins : (same v : Bool) → eqb p q ≡ same → rule.skins ≡ v → p ≤ 15 → q ≤ 15 → HasPart S p → HasPart S q → SomeCase (PartsCase S p q)
      skins true v e f a b h g = record { number = 0; side = 0; place = 0; found = parts_served a b h g (inl (eqb-true p q e)) }
      skins false true e f a b h g =
          record { number = 0; side = 0; place = 0; found = parts_served a b h g (inr (inl (rule.skins_right.yes f))) }
      skins false false e f a b h g =
          closing (closed_says (triangles_of p S)) (closed_says (triangles_of q S)) a b h g (eqb-false p q e) (rule.skins_right.no f)

      decide : (p ≤ 15) ⊎ (15 < p) → (q ≤ 15) ⊎ (15 < q) → HasPart S p ⊎ NoPart S p → HasPart S q ⊎ NoPart S q → SomeCase (PartsCase S p q)
      decide (inr a) b h g = record { number = 7; side = 0; place = p; found = first_above a }
      decide (inl a) (inr b) h g = record { number = 7; side = 1; place = q; found = second_above a b }
      decide (inl a) (inl b) (inr none) g = record { number = 10; side = 0; place = p; found = first_none a b none }
      decide (inl a) (inl b) (inl h) (inr none) = record { number = 10; side = 1; place = q; found = second_none a b h none }
      decide (inl a) (inl b) (inl h) (inl g) = skins (eqb p q) rule.skins refl refl a b h g

  -- The parts call gives a number, a side and a place exactly in their case.
  pub parts_exactly : {number side spot : ℕ} → PartsCase S p q number side spot ↔ Gives answer number side spot
  parts_exactly = exactly answer (PartsCase S p q) from_parts some_parts

-- ---- undo
reach_above : (past : List Change) (k : ℕ) → 0 < k → Gives (taken_back past k) 0 0 0
reach_above past zero a = absurd (omega arith)
reach_above past (suc k) a = (refl, refl, refl)

module _ (h : History) where
  from_undo : (number side spot : ℕ) → UndoCase h number side spot → Gives (outcome h undo) number side spot
  unfolding outcome
  from_undo number side spot (undo_none e) = gives_as (undo_refused h e)
  from_undo number side spot (undo_served a) = reach_above h.past h.reach a

  some_undo : SomeCase (UndoCase h)
  some_undo = decide (at_most_or_above h.reach 0)
    where
      decide : (h.reach ≤ 0) ⊎ (0 < h.reach) → SomeCase (UndoCase h)
      decide (inl e) = record { number = 12; side = 0; place = 0; found = undo_none (omega arith) }
      decide (inr a) = record { number = 0; side = 0; place = 0; found = undo_served a }

  -- An undo gives a number, a side and a place exactly in their case.
  pub undo_exactly : {number side spot : ℕ} → UndoCase h number side spot ↔ Gives (outcome h undo) number side spot
  undo_exactly = exactly (outcome h undo) (UndoCase h) from_undo some_undo

-- ---- any plate that stands for a history
-- The case of a call on a history: that of its change, or of undo.
abbrev pub CallCase : History → Call → (number side spot : ℕ) → Type 0
CallCase h (change c) = ChangeCase (slots_of h) c
CallCase h undo = UndoCase h

-- What a call on a history gives.
pub outcome_exactly : (h : History) (c : Call) {number side spot : ℕ} → CallCase h c number side spot ↔ Gives (outcome h c) number side spot
unfolding outcome
outcome_exactly h (change c) =
    let checks = change_checks (slots_of h) c in
    also_exactly (checks then served (made h c)) checks (then_gives checks (made h c)) (change_exactly (slots_of h) c)
outcome_exactly h undo = undo_exactly h

-- Place, lift, shift and undo: an answer that keeps the promise tells a number, a side and a place exactly in their case.
pub plate_exactly : (before : List Call) {p : Plate} {c : Call} {r : PlateAnswer} → Stands (run before) p → Promise p c r →
    {number side spot : ℕ} → CallCase (run before) c number side spot ↔ Gives (told_check r.told) number side spot
plate_exactly before {p} {c} {r} s k =
    let o = outcome (run before) c in
    also_exactly (told_check r.told) o (told o (k.kept before s)) (outcome_exactly (run before) c)
  where
    told : (o : Answer History) → Answered o p r → Gives (told_check r.told) (number_of o) (side_of o) (place_of o)
    told (served h) a = gives_as a.0
    told (refused number side spot) a = gives_as a.0

-- Parts: likewise.
pub plate_parts_exactly : (before : List Call) {plate : Plate} {p q : ℕ} {answer : Answer Bool} → Stands (run before) plate →
    PartsPromise plate p q answer → {number side spot : ℕ} → PartsCase (slots_of (run before)) p q number side spot ↔ Gives answer number side spot
plate_parts_exactly before {p} {q} s k = parts_exactly (slots_of (run before)) p q (k.kept before s)
