-- A served listing has exactly the pairs that have a point in common, each once, rising in the first index and then in the second
-- (document 01, "Listing"). Assumes nothing.
use mathlib.Core.Path.{◌≡◌, refl, sym, ap, ap₂, ◌∙◌}
use mathlib.Core.Bool.{Bool, true, false}
use mathlib.Core.List.{List, [], ◌∷◌, ◌++◌}
use mathlib.Core.Logic.{◌↔◌, ◌⊎◌, inl, inr}
use Prim.Native.Nat.{ℕ, zero, suc, ◌+◌, ◌-◌, ◌*◌, ◌<◌, ◌≤◌}
use native.Mathlib.Nat.{eq-or-lt_of_le}
use native.Mathlib.Omega.{arith}
use lib.IntN.{ℤ}
use lib.ListN.{length, get_or, take, drop}
use Rattle.shape.specs.Points.{points_at}
use Rattle.shape.specs.Sharing.{Share}
use Rattle.shape.proofs.VerdictLaws.{says_yes, says_fixed}
use Rattle.kernel.specs.Meeting.{Judges}
use Rattle.checks.specs.Answers.{served, Check, fine, ◌then◌, with_served}
use Rattle.checks.specs.Rules.{all_on_grid}
use Rattle.checks.proofs.AnswerLaws.{then_assoc, served_later, then_served, then_fine}
use Rattle.boxes.specs.Triangles.{triangles, nine}
use Rattle.listing.specs.Pairs.{Pair, gathered, pair_if, pairs_of, two_each}
use Rattle.listing.specs.Rules.{start_within, list_length, input_checks, room_for, outcome, afterwards, ListRule}
use Rattle.listing.proofs.ListChecks.{fine_within, fine_room}

-- ---- what stands in a list
-- The element a stands in the list: it is the first, or stands among the rest.
pub data Among {A : Type 0} (a : A) : List A → Type 0 where
  here : {b : A} {l : List A} → a ≡ b → Among a (b ∷ l)
  there : {b : A} {l : List A} → Among a l → Among a (b ∷ l)

not_among_none : {A : Type 0} {a : A} {l : List A} → Among a l → length l ≡ 0 → ⊥
not_among_none (here e) none = omega arith
not_among_none (there h) none = omega arith

among_left : {A : Type 0} {a : A} {l : List A} (r : List A) → Among a l → Among a (l ++ r)
among_left r (here e) = here e
among_left r (there h) = there (among_left r h)

among_right : {A : Type 0} {a : A} (l : List A) {r : List A} → Among a r → Among a (l ++ r)
among_right [] h = h
among_right (b ∷ l) h = there (among_right l h)

among_either : {A : Type 0} {a : A} (l : List A) {r : List A} → Among a (l ++ r) → Among a l ⊎ Among a r
among_either [] h = inr h
among_either (b ∷ l) (here e) = inl (here e)
among_either {A} {a} (b ∷ l) {r} (there h) = later (among_either l h)
  where
    later : Among a l ⊎ Among a r → Among a (b ∷ l) ⊎ Among a r
    later (inl g) = inl (there g)
    later (inr g) = inr g

among_at : {A : Type 0} (l : List A) (k : ℕ) (d : A) → k < length l → Among (get_or l k d) l
among_at [] k d h = absurd (omega arith)
among_at (b ∷ l) zero d h = here refl
among_at (b ∷ l) (suc k) d h = there (among_at l k d (omega arith))

-- ---- what stands in a gathered list: it stands in one of the pieces
record Within {A : Type 0} (a : A) (f : ℕ → List A) (from n : ℕ) : Type 0 where
  piece : ℕ
  least : from ≤ piece
  below : piece < from + n
  inside : Among a (f piece)

among_gathered : {A : Type 0} {a : A} (f : ℕ → List A) (from n : ℕ) → Within a f from n → Among a (gathered f from n)
among_gathered f from zero w = absurd (omega (arith, w.least, w.below))
among_gathered {A} {a} f from (suc n) w = by_place (eq-or-lt_of_le w.least) (among_gathered f (suc from) n)
  where
    by_place : (from ≡ w.piece) ⊎ (from < w.piece) → (Within a f (suc from) n → Among a (gathered f (suc from) n)) →
        Among a (f from ++ gathered f (suc from) n)
    by_place (inl e) later = among_left (gathered f (suc from) n) (rw (← e) at w.inside)
    by_place (inr h) later =
        among_right (f from) (later (record { piece = w.piece; least = h; below = omega (arith, w.below); inside = w.inside }))

gathered_among : {A : Type 0} {a : A} (f : ℕ → List A) (from n : ℕ) → Among a (gathered f from n) → Within a f from n
gathered_among f from zero h = elim h [ ]
gathered_among {A} {a} f from (suc n) h = by_part (among_either (f from) h) (gathered_among f (suc from) n)
  where
    by_part : Among a (f from) ⊎ Among a (gathered f (suc from) n) → (Among a (gathered f (suc from) n) → Within a f (suc from) n) →
        Within a f from (suc n)
    by_part (inl g) later = record { piece = from; least = omega arith; below = omega arith; inside = g }
    by_part (inr g) later =
        let w = later g in
        record { piece = w.piece; least = omega (arith, w.least); below = omega (arith, w.below); inside = w.inside }

-- ---- exactly the pairs that meet
-- The one pair that may stand there does where the verdict is yes.
among_if : (v : Bool) (i j : ℕ) (p : Pair) → Among p (pair_if v i j) → (v ≡ true) × (p.0 ≡ i) × (p.1 ≡ j)
among_if false i j p h = elim h [ ]
among_if true i j p (there h) = elim h [ ]
among_if true i j p (here e) = (refl, ap (λ (q : Pair). q.0) e, ap (λ (q : Pair). q.1) e)

module _ (meets : ℕ → ℕ → Bool) (m : ℕ) where
  abbrev row : ℕ → List Pair
  row i = gathered (λ j. pair_if (meets i j) i j) 0 m

  row_exactly : (i : ℕ) (p : Pair) → Among p (row i) → (p.0 ≡ i) × (p.1 < m) × (meets i p.1 ≡ true)
  row_exactly i p h =
      let w = gathered_among (λ j. pair_if (meets i j) i j) 0 m h in
      let found = among_if (meets i w.piece) i w.piece p w.inside in
      (found.1, omega (arith, w.below, found.2), rw (← found.2) at found.0)

  in_row : (i j : ℕ) → j < m → meets i j ≡ true → Among (i, j) (row i)
  in_row i j h e =
      let pair : Among (i, j) (pair_if (meets i j) i j) = rw e (here refl) in
      among_gathered (λ j. pair_if (meets i j) i j) 0 m (record { piece = j; least = omega arith; below = omega arith; inside = pair })

pub pairs_exactly : (meets : ℕ → ℕ → Bool) (n m i j : ℕ) → Among (i, j) (pairs_of meets n m) ↔ ((i < n) × (j < m) × (meets i j ≡ true))
pairs_exactly meets n m i j = (out, back)
  where
    out : Among (i, j) (pairs_of meets n m) → (i < n) × (j < m) × (meets i j ≡ true)
    out h =
        let w = gathered_among (row meets m) 0 n h in
        let found = row_exactly meets m w.piece (i, j) w.inside in
        (omega (arith, w.below, found.0), found.1, rw (← found.0) at found.2)

    back : (i < n) × (j < m) × (meets i j ≡ true) → Among (i, j) (pairs_of meets n m)
    back h =
        among_gathered (row meets m) 0 n
        (record { piece = i; least = omega arith; below = omega (arith, h.0); inside = in_row meets m i j h.1 h.2 })

-- ---- the order
-- The pair p comes before q: by the first index, or by the second where the first is the same.
abbrev pub Before : Pair → Pair → Type 0
Before p q = (p.0 < q.0) ⊎ ((p.0 ≡ q.0) × (p.1 < q.1))

not_both_before : {p q : Pair} → Before p q → Before q p → ⊥
not_both_before (inl h) (inl g) = omega arith
not_both_before (inl h) (inr g) = omega (arith, g.0)
not_both_before (inr h) (inl g) = omega (arith, h.0)
not_both_before (inr h) (inr g) = omega (arith, h.1, g.1)

never_before_itself : (p q : Pair) → p ≡ q → Before p q → ⊥
never_before_itself p q e (inl h) =
    let first : p.0 ≡ q.0 = ap (λ (x : Pair). x.0) e in
    omega arith
never_before_itself p q e (inr h) =
    let second : p.1 ≡ q.1 = ap (λ (x : Pair). x.1) e in
    omega (arith, h.1)

-- Every pair of the list comes before each pair after it.
abbrev pub Rising : List Pair → Type 0
Rising [] = Unit {0}
Rising (p ∷ ps) = ((q : Pair) → Among q ps → Before p q) × Rising ps

rising_append : (ps qs : List Pair) → Rising ps → Rising qs → ((p q : Pair) → Among p ps → Among q qs → Before p q) → Rising (ps ++ qs)
rising_append [] qs r s across = s
rising_append (p ∷ ps) qs r s across = (first, rising_append ps qs r.1 s (λ p' q h g. across p' q (there h) g))
  where
    first : (q : Pair) → Among q (ps ++ qs) → Before p q
    first q h = by_part (among_either ps h)
      where
        by_part : Among q ps ⊎ Among q qs → Before p q
        by_part (inl g) = r.0 q g
        by_part (inr g) = across p q (here refl) g

-- Rising pieces, one before the other, give a rising list.
rising_gathered : (f : ℕ → List Pair) (from n : ℕ) → ((k : ℕ) → Rising (f k)) →
    ((k l : ℕ) → k < l → (p q : Pair) → Among p (f k) → Among q (f l) → Before p q) → Rising (gathered f from n)
rising_gathered f from zero each across = tt
rising_gathered f from (suc n) each across =
    rising_append (f from) (gathered f (suc from) n) (each from) (rising_gathered f (suc from) n each across) later
  where
    later : (p q : Pair) → Among p (f from) → Among q (gathered f (suc from) n) → Before p q
    later p q h g =
        let w = gathered_among f (suc from) n g in
        across from w.piece w.least p q h w.inside

pub pairs_rising : (meets : ℕ → ℕ → Bool) (n m : ℕ) → Rising (pairs_of meets n m)
pairs_rising meets n m = rising_gathered (row meets m) 0 n each across
  where
    one : (v : Bool) (i j : ℕ) → Rising (pair_if v i j)
    one true i j = (λ q h. absurd (not_among_none h refl), tt)
    one false i j = tt

    in_one : (i : ℕ) (k l : ℕ) → k < l → (p q : Pair) → Among p (pair_if (meets i k) i k) → Among q (pair_if (meets i l) i l) → Before p q
    in_one i k l h p q g g' =
        let found = among_if (meets i k) i k p g in
        let found' = among_if (meets i l) i l q g' in
        inr (found.1 ∙ sym found'.1, omega (arith, found.2, found'.2))

    each : (i : ℕ) → Rising (row meets m i)
    each i = rising_gathered (λ j. pair_if (meets i j) i j) 0 m (λ j. one (meets i j) i j) (in_one i)

    across : (k l : ℕ) → k < l → (p q : Pair) → Among p (row meets m k) → Among q (row meets m l) → Before p q
    across k l h p q g g' = inl (omega (arith, (row_exactly meets m k p g).0, (row_exactly meets m l q g').0))

-- By their places: a pair at a lower place comes before one at a higher place, so that no pair stands at two.
pub rising_at : (ps : List Pair) → Rising ps → (x y : ℕ) → x < y → y < length ps → Before (get_or ps x (0, 0)) (get_or ps y (0, 0))
rising_at [] r x y h g = absurd (omega arith)
rising_at (p ∷ ps) r x zero h g = absurd (omega arith)
rising_at (p ∷ ps) r zero (suc y) h g = r.0 (get_or ps y (0, 0)) (among_at ps y (0, 0) (omega arith))
rising_at (p ∷ ps) r (suc x) (suc y) h g = rising_at ps r.1 x y (omega arith) (omega arith)

pub once : (ps : List Pair) → Rising ps → (x y : ℕ) → x < y → y < length ps → get_or ps x (0, 0) ≡ get_or ps y (0, 0) → ⊥
once ps r x y h g e = never_before_itself (get_or ps x (0, 0)) (get_or ps y (0, 0)) e (rising_at ps r x y h g)

-- A rising list is fixed by what stands in it.
pub rising_fixed : (ps qs : List Pair) → Rising ps → Rising qs → ((p : Pair) → Among p ps ↔ Among p qs) → ps ≡ qs
rising_fixed [] [] r s same = refl
rising_fixed [] (q ∷ qs) r s same = absurd (not_among_none ((same q).1 (here refl)) refl)
rising_fixed (p ∷ ps) [] r s same = absurd (not_among_none ((same p).0 (here refl)) refl)
rising_fixed (p ∷ ps) (q ∷ qs) r s same =
    ap₂ {C = List Pair} (λ x l. x ∷ l) first (rising_fixed ps qs r.1 s.1 (λ x. (kept r first (same x).0, kept s (sym first) (same x).1)))
  where
    -- Each of the first two is the other, or stands after it.
    by_place : Among p (q ∷ qs) → Among q (p ∷ ps) → p ≡ q
    by_place (here e) g = e
    by_place (there h) (here e) = sym e
    by_place (there h) (there g) = absurd (not_both_before (s.0 p h) (r.0 q g))

    first : p ≡ q
    first = by_place ((same p).0 (here refl)) ((same q).1 (here refl))

    -- What stands after the one stands after the other, since it is not the first.
    kept : {y z x : Pair} {ys zs : List Pair} → Rising (y ∷ ys) → y ≡ z → (Among x (y ∷ ys) → Among x (z ∷ zs)) → Among x ys → Among x zs
    kept {y} {z} {x} {ys} {zs} rising e over h = later (over (there h))
      where
        later : Among x (z ∷ zs) → Among x zs
        later (here f) = absurd (never_before_itself y x (e ∙ sym f) (rising.0 x h))
        later (there g) = g

-- ---- the pairs of two lists
-- Triangle i of the first list and triangle j of the second have a point in common.
abbrev pub Meet : List ℤ → List ℤ → ℕ → ℕ → Type 0
Meet a b i j = (i < triangles a) × (j < triangles b) × Share 3 (points_at 3 3 0 (nine i a)) (points_at 3 3 0 (nine j b))

-- These are all such pairs, in their order.
pub record MeetingPairs (a b : List ℤ) (pairs : List Pair) : Type 0 where
  pub rising : Rising pairs
  pub exactly : (i j : ℕ) → Among (i, j) pairs ↔ Meet a b i j

-- There is one such list only.
pub meeting_fixed : {a b : List ℤ} {ps qs : List Pair} → MeetingPairs a b ps → MeetingPairs a b qs → ps ≡ qs
meeting_fixed {a} {b} {ps} {qs} m m' =
    rising_fixed ps qs m.rising m'.rising
    (λ p. (λ h. (m'.exactly p.0 p.1).1 ((m.exactly p.0 p.1).0 h), λ h. (m.exactly p.0 p.1).1 ((m'.exactly p.0 p.1).0 h)))

-- Right verdicts list it.
pub verdicts_list : (a b : List ℤ) (meets : ℕ → ℕ → Bool) →
    ((i j : ℕ) → i < triangles a → j < triangles b → Judges 3 3 3 (nine i a) (nine j b) (meets i j)) →
    MeetingPairs a b (pairs_of meets (triangles a) (triangles b))
verdicts_list a b meets right = record { rising = pairs_rising meets (triangles a) (triangles b); exactly = λ i j. (to_share i j, from_share i j) }
  where
    met : (i j : ℕ) → Among (i, j) (pairs_of meets (triangles a) (triangles b)) ↔ ((i < triangles a) × (j < triangles b) × (meets i j ≡ true))
    met = pairs_exactly meets (triangles a) (triangles b)

    to_share : (i j : ℕ) → Among (i, j) (pairs_of meets (triangles a) (triangles b)) → Meet a b i j
    to_share i j h =
        let found = (met i j).0 h in
        (found.0, found.1, (right i j found.0 found.1).yes found.2)

    from_share : (i j : ℕ) → Meet a b i j → Among (i, j) (pairs_of meets (triangles a) (triangles b))
    from_share i j h = (met i j).1 (h.0, h.1, says_fixed (right i j h.0 h.1) (says_yes h.2))

-- ---- a served listing
-- The pairs stand in the buffer from the start on, there is room for them, and the answer carries their count.
pub record ServedListing (a b : List ℤ) (buffer : List ℕ) (start count : ℕ) (after : List ℕ) : Type 0 where
  pub pairs : List Pair
  pub meeting : MeetingPairs a b pairs
  pub counted : length pairs ≡ count
  pub room : start + 2 * length pairs ≤ length buffer
  pub written : after ≡ take start buffer ++ two_each pairs ++ drop (start + 2 * length pairs) buffer

pub served_exactly : {a b : List ℤ} {buffer : List ℕ} {start count : ℕ} {after : List ℕ} →
    ListRule a b buffer start (served count) after → ServedListing a b buffer start count after
served_exactly {a} {b} {buffer} {start} {count} {after} rule = record {
  pairs = pairs;
  meeting = verdicts_list a b rule.meets (rule.right fine_both.0);
  counted = sym passed.1;
  room = omega (arith, fine_within start (length buffer) within, fine_room (length pairs) (length buffer - start) fine_both.1);
  written = rule.left ∙ ap (afterwards buffer start) (together ∙ ap (λ (c : Check). c then served pairs) passed.0);
}
  where
    pairs : List Pair
    pairs = pairs_of rule.meets (triangles a) (triangles b)

    checks : Check
    checks = input_checks a b buffer start

    room : Check
    room = room_for (length pairs) (length buffer - start)

    -- Nothing was refused, so that the pairs are served.
    together : outcome rule.meets a b buffer start ≡ ((checks then room) then served pairs)
    together = sym (then_assoc checks room (served pairs))

    passed : ((checks then room) ≡ fine) × (count ≡ length pairs)
    passed =
        then_served (checks then room) (length pairs) count
        (rule.told ∙ ap (with_served length) together ∙ served_later length (checks then room) (served pairs))

    fine_both : (checks ≡ fine) × (room ≡ fine)
    fine_both = then_fine checks room passed.0

    within : start_within start (length buffer) ≡ fine
    within =
        (then_fine (start_within start (length buffer)) (list_length 0 a then list_length 1 b then all_on_grid 0 a then all_on_grid 1 b) fine_both.0).0
