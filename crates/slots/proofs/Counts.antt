-- The count that code keeps (specs/Counting.antt), slot by slot and part by part: it takes both slots of a clash alike, a slot or a part can be
-- taken out of it and put in again, and so it stays the count when a slot is written or a part is moved. Assumes nothing.
use mathlib.Core.Path.{◌≡◌, refl, sym, ap, ◌∙◌}
use mathlib.Core.Bool.{Bool, true, false, cond}
use mathlib.Core.List.{List, [], ◌∷◌, map}
use Prim.Native.Nat.{ℕ, zero, suc, ◌+◌, ◌-◌, ◌*◌, ◌%◌, ◌^◌, ◌<◌, ◌≤◌}
use native.Mathlib.Nat.{mul-suc}
use native.Mathlib.Numerals.{add-one}
use native.Mathlib.Omega.{arith}
use borrow.Author.Tests.{eq-eqb, ne_eqb, eqb-true}
use lib.Dec.{eqb, eqb-suc-suc}
use lib.IntN.{ℤ}
use lib.ListN.{length, get_or, take, set, length-set, length-map}
use lib.Seq.{set-set, take_all}
use mir.Val.{bool_byte}
use Rattle.shape.specs.Points.{moved}
use Rattle.exact.proofs.Branches.{bit≤}
use Rattle.slots.specs.Slots.{Slot, free, held}
use Rattle.slots.specs.Changes.{shifted}
use Rattle.slots.specs.Arrays.{numbers_of, mark_of}
use Rattle.slots.specs.Counting.{meets, strikes, hit, row, tally, row_of, cross}
use Rattle.slots.proofs.Clashing.{strikes_sym}

-- ---- two slots
-- By their marks: an empty slot strikes none, nor do two of one part, and others strike where their triangles meet.
pub strikes_free : (x y : Slot) → mark_of x ≡ 0 → strikes x y ≡ false
unfolding strikes
strikes_free free y e = refl
strikes_free (held p s) y e = absurd (omega arith)

pub strikes_same : (x y : Slot) → mark_of x ≡ mark_of y → strikes x y ≡ false
unfolding strikes
strikes_same free y e = refl
strikes_same (held p s) free e = refl
strikes_same (held p s) (held q t) e = rw (eq-eqb p q (omega arith))

pub strikes_test : (x y : Slot) → (mark_of x ≡ 0 → ⊥) → (mark_of y ≡ 0 → ⊥) → (mark_of x ≡ mark_of y → ⊥) →
    strikes x y ≡ meets (numbers_of x) (numbers_of y)
unfolding strikes
strikes_test free y f g h = absurd (f refl)
strikes_test (held p s) free f g h = absurd (g refl)
strikes_test (held p s) (held q t) f g h = rw (ne_eqb p q (λ e. h (ap suc e)))

-- The same as numbers, 1 where they strike.
hit_sym : (x y : Slot) → hit x y ≡ hit y x
unfolding hit
hit_sym x y = ap bool_byte (strikes_sym x y)

hit_free : (x y : Slot) → mark_of x ≡ 0 → hit x y ≡ 0
unfolding hit
hit_free x y e = ap bool_byte (strikes_free x y e)

hit_same : (x y : Slot) → mark_of x ≡ mark_of y → hit x y ≡ 0
unfolding hit
hit_same x y e = ap bool_byte (strikes_same x y e)

hit≤ : (x y : Slot) → hit x y ≤ 1
unfolding hit
hit≤ x y = bit≤ (strikes x y)

-- ---- a slot against all
pub row_unmarked : (x : Slot) (S : List Slot) → mark_of x ≡ 0 → 0 ≡ row x S
unfolding row
row_unmarked x [] e = refl
row_unmarked x (y ∷ S) e = omega (arith, hit_free x y e, row_unmarked x S e)

row≤ : (x : Slot) (S : List Slot) → row x S ≤ length S
unfolding row
row≤ x [] = omega arith
row≤ x (y ∷ S) = omega (arith, hit≤ x y, row≤ x S)

row_take : (x : Slot) (S : List Slot) (j : ℕ) → j < length S → row x (take (suc j) S) ≡ row x (take j S) + hit x (get_or S j free)
unfolding row
row_take x [] j h = omega arith
row_take x (y ∷ S) zero h = omega arith
row_take x (y ∷ S) (suc j) h = omega (arith, row_take x S j (omega arith))

-- The clashes with the first slots, and with one more, also one that is known not to clash.
pub row_more : (x : Slot) (S : List Slot) (j : ℕ) {n : ℕ} {b : Bool} → j < length S → n ≡ row x (take j S) → b ≡ strikes x (get_or S j free) →
    n + bool_byte b ≡ row x (take (j + 1) S)
unfolding hit
row_more x S j h e f =
    (λ i. e i + bool_byte (f i)) ∙ sym (row_take x S j h) ∙ ap (λ (k : ℕ). row x (take k S)) (sym (add-one j))

pub row_none : (x : Slot) (S : List Slot) (j : ℕ) {n : ℕ} → j < length S → n ≡ row x (take j S) → strikes x (get_or S j free) ≡ false →
    n ≡ row x (take (j + 1) S)
unfolding hit
row_none x S j h e apart =
    let none : hit x (get_or S j free) ≡ 0 = ap bool_byte apart in
    e ∙ omega (arith, none, row_take x S j h) ∙ ap (λ (k : ℕ). row x (take k S)) (sym (add-one j))

pub row_all : (x : Slot) (S : List Slot) (j : ℕ) → length S ≤ j → row x (take j S) ≡ row x S
row_all x S j h = ap (row x) (take_all j S h)

row_out : (y : Slot) (S : List Slot) (i : ℕ) → i < length S → row y S ≡ hit y (get_or S i free) + row y (set S i free)
unfolding row
row_out y [] i h = omega arith
row_out y (z ∷ S) zero h = omega (arith, hit_sym y free, hit_free free y refl)
row_out y (z ∷ S) (suc i) h = omega (arith, row_out y S i (omega arith))

-- ---- all pairs
tally≤ : (S : List Slot) (n : ℕ) → length S ≤ n → tally S ≤ n * length S
unfolding tally
tally≤ [] n h = omega arith
tally≤ (y ∷ S) n h = more (length S) (row y S) (tally S) (omega (arith, row≤ y S)) (tally≤ S n (omega arith))
  where
    more : (l r t : ℕ) → r ≤ n → t ≤ n * l → r + t ≤ n * suc l
    more l r t a b = omega (arith, mul-suc n l)

-- A slot against all the others, and the rest without it.
tally_out : (S : List Slot) (i : ℕ) → i < length S → tally S ≡ row (get_or S i free) S + tally (set S i free)
unfolding tally row
tally_out [] i h = omega arith
tally_out (y ∷ S) zero h = omega (arith, hit_same y y refl, row_unmarked free S refl)
tally_out (y ∷ S) (suc i) h = omega (arith, tally_out S i (omega arith), row_out y S i (omega arith), hit_sym y (get_or S i free))

-- ---- a part against all
cross_take : (mark : ℕ) (T S : List Slot) (j : ℕ) → j < length T →
    cross mark (take (suc j) T) S ≡ cross mark (take j T) S + row_of mark (get_or T j free) S
unfolding cross
cross_take mark [] S j h = omega arith
cross_take mark (x ∷ T) S zero h = omega arith
cross_take mark (x ∷ T) S (suc j) h = omega (arith, cross_take mark T S j (omega arith))

-- One slot more, of the part or not.
pub cross_own : (mark : ℕ) (T S : List Slot) (j : ℕ) {n m : ℕ} → j < length T → n ≡ cross mark (take j T) S → mark_of (get_or T j free) ≡ mark →
    m ≡ row (get_or T j free) S → n + m ≡ cross mark (take (j + 1) T) S
unfolding row_of
cross_own mark T S j {m} h e own f =
    let x = get_or T j free in
    let here : m ≡ row_of mark x S = f ∙ rw (eq-eqb (mark_of x) mark own) refl in
    (λ i. e i + here i) ∙ sym (cross_take mark T S j h) ∙ ap (λ (k : ℕ). cross mark (take k T) S) (sym (add-one j))

pub cross_other : (mark : ℕ) (T S : List Slot) (j : ℕ) {n : ℕ} → j < length T → n ≡ cross mark (take j T) S → (mark_of (get_or T j free) ≡ mark → ⊥) →
    n ≡ cross mark (take (j + 1) T) S
unfolding row_of
cross_other mark T S j h e other =
    let x = get_or T j free in
    let none : row_of mark x S ≡ 0 = rw (ne_eqb (mark_of x) mark other) refl in
    e ∙ omega (arith, none, cross_take mark T S j h) ∙ ap (λ (k : ℕ). cross mark (take k T) S) (sym (add-one j))

pub cross_all : (mark : ℕ) (T S : List Slot) (j : ℕ) → length T ≤ j → cross mark (take j T) S ≡ cross mark T S
cross_all mark T S j h = ap (λ (l : List Slot). cross mark l S) (take_all j T h)

-- A slot, emptied if it has this mark.
unfoldable without : ℕ → Slot → Slot
without mark x = cond (eqb (mark_of x) mark) free x

-- The slots of T with this mark against one slot.
unfoldable against : ℕ → List Slot → Slot → ℕ
against mark [] y = 0
against mark (x ∷ T) y = cond (eqb (mark_of x) mark) (hit x y) 0 + against mark T y

cross_cons : (mark : ℕ) (T : List Slot) (y : Slot) (S : List Slot) → cross mark T (y ∷ S) ≡ against mark T y + cross mark T S
unfolding cross row_of row against
cross_cons mark [] y S = refl
cross_cons mark (x ∷ T) y S = omega (arith, cond_add (eqb (mark_of x) mark) (hit x y) (row x S), cross_cons mark T y S)
  where
    cond_add : (b : Bool) (m n : ℕ) → cond b (m + n) 0 ≡ cond b m 0 + cond b n 0
    cond_add true m n = refl
    cond_add false m n = refl

-- A part against a slot of its own: nothing.
against_own : (mark : ℕ) (T : List Slot) (y : Slot) → mark_of y ≡ mark → against mark T y ≡ 0
unfolding against
against_own mark [] y h = refl
against_own mark (x ∷ T) y h = omega (arith, head (eqb (mark_of x) mark) refl, against_own mark T y h)
  where
    head : (b : Bool) → eqb (mark_of x) mark ≡ b → cond b (hit x y) 0 ≡ 0
    head true e = hit_same x y (eqb-true (mark_of x) mark e ∙ sym h)
    head false e = refl

-- A slot against all: against the part, and against the rest.
row_split : (mark : ℕ) (y : Slot) (T : List Slot) → row y T ≡ against mark T y + row y (map (without mark) T)
unfolding against row without
row_split mark y [] = refl
row_split mark y (x ∷ T) = omega (arith, head (eqb (mark_of x) mark), row_split mark y T)
  where
    head : (b : Bool) → hit y x ≡ cond b (hit x y) 0 + hit y (cond b free x)
    head true = omega (arith, hit_sym y x, hit_sym y free, hit_free free y refl)
    head false = omega arith

-- All pairs: those of the part, and those of the rest.
tally_split : (mark : ℕ) (S : List Slot) → tally S ≡ cross mark S S + tally (map (without mark) S)
unfolding tally cross row_of without row
tally_split mark [] = refl
tally_split mark (y ∷ S) = head (eqb (mark_of y) mark) refl (tally_split mark S)
  where
    head : (b : Bool) → eqb (mark_of y) mark ≡ b → tally S ≡ cross mark S S + tally (map (without mark) S) →
        row y S + tally S
        ≡ (cond b (hit y y + row y S) 0 + cross mark S (y ∷ S)) + (row (cond b free y) (map (without mark) S) + tally (map (without mark) S))
    head true e later =
        let own = against_own mark S y (eqb-true (mark_of y) mark e) in
        omega (arith, hit_same y y refl, cross_cons mark S y S, own, row_unmarked free (map (without mark) S) refl)
    head false e later = omega (arith, cross_cons mark S y S, row_split mark y S)

-- ---- a part moved
-- A move leaves the marks, and whatever is not of the part.
pub mark_shifted : (q : ℕ) (by : List ℤ) (x : Slot) → mark_of (shifted q by x) ≡ mark_of x
mark_shifted q by free = refl
mark_shifted q by (held p numbers) = either (eqb p q)
  where
    either : (b : Bool) → mark_of (cond b (held p (moved by numbers)) (held p numbers)) ≡ suc p
    either true = refl
    either false = refl

pub marks_shifted : (q : ℕ) (by : List ℤ) (S : List Slot) → map mark_of (map (shifted q by) S) ≡ map mark_of S
marks_shifted q by [] = refl
marks_shifted q by (x ∷ S) = λ i. mark_shifted q by x i ∷ marks_shifted q by S i

without_shifted : (q : ℕ) (by : List ℤ) (S : List Slot) → map (without (suc q)) (map (shifted q by) S) ≡ map (without (suc q)) S
unfolding without
without_shifted q by [] = refl
without_shifted q by (x ∷ S) = λ i. one x i ∷ without_shifted q by S i
  where
    one : (x : Slot) → without (suc q) (shifted q by x) ≡ without (suc q) x
    one free = refl
    one (held p numbers) = either (eqb p q) (eqb-suc-suc p q)
      where
        either : (b : Bool) → eqb (suc p) (suc q) ≡ b →
            without (suc q) (cond b (held p (moved by numbers)) (held p numbers)) ≡ cond (eqb (suc p) (suc q)) free (held p numbers)
        either true e = rw e
        either false e = refl

-- ---- the count in 32 bits
-- Taken out by subtraction and put in by addition, both without the carry: t is what is left between.
replaced : (t less more n total : ℕ) → total ≡ less + t → n ≡ more + t → total ≤ 4096 → n ≤ 4096 →
    ((total + (2 ^ 32 - less)) % 2 ^ 32 + more) % 2 ^ 32 ≡ n
replaced t less more n total a b c d = omega arith

small : (S : List Slot) → length S ≡ 64 → tally S ≤ 4096
small S long = omega (arith, tally≤ S 64 (omega arith))

-- A slot is written.
pub write_count : (S : List Slot) (s : ℕ) (x : Slot) (less more count : ℕ) → length S ≡ 64 → s < 64
    → less ≡ row (get_or S s free) S → more ≡ row (get_or (set S s x) s free) (set S s x)
    → count ≡ tally S → ((count + (2 ^ 32 - less)) % 2 ^ 32 + more) % 2 ^ 32 ≡ tally (set S s x)
write_count S s x less more count long inside a b c =
    ap (λ (n : ℕ). ((n + (2 ^ 32 - less)) % 2 ^ 32 + more) % 2 ^ 32) c
    ∙ replaced (tally (set S s free)) less more (tally (set S s x)) (tally S)
    (tally_out S s (omega arith) ∙ ap (λ (n : ℕ). n + tally (set S s free)) (sym a))
    (tally_out (set S s x) s (simp length-set (omega arith)) ∙ (λ i. sym b i + tally (set-set S s x free i)))
    (small S long) (small (set S s x) (length-set S s x ∙ long))

-- A part is moved.
pub move_count : (q : ℕ) (by : List ℤ) (S : List Slot) (less more count : ℕ) → length S ≡ 64
    → less ≡ cross (suc q) S S → more ≡ cross (suc q) (map (shifted q by) S) (map (shifted q by) S)
    → count ≡ tally S → ((count + (2 ^ 32 - less)) % 2 ^ 32 + more) % 2 ^ 32 ≡ tally (map (shifted q by) S)
move_count q by S less more count long a b c =
    let M = map (shifted q by) S in
    ap (λ (n : ℕ). ((n + (2 ^ 32 - less)) % 2 ^ 32 + more) % 2 ^ 32) c
    ∙ replaced (tally (map (without (suc q)) S)) less more (tally M) (tally S)
    (tally_split (suc q) S ∙ ap (λ (n : ℕ). n + tally (map (without (suc q)) S)) (sym a))
    (tally_split (suc q) M ∙ (λ i. sym b i + tally (without_shifted q by S i)))
    (small S long) (small M (length-map S (shifted q by) ∙ long))
