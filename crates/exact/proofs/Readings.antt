-- Coordinates as the code holds them: each is the whole number that is meant, and no larger than the grid allows. Here stand
-- the readings of a coordinate, of a difference, of products, of a vector and of a plane's normal, which the leaves' proofs put together;
-- and lists whose numbers are stored one by one. Assumes nothing.
use Rattle.std.proofs.Common.{◌≡◌, ℕ, zero, suc, ◌+◌, ◌*◌, ◌^◌, ◌<◌, ◌≤◌, Bool, true, false, T, eqb, ltb, List, [], ◌∷◌, ◌++◌, length, ℤ, pos, ◌-ℤ◌, ◌*ℤ◌, nat_abs, sym, refl, ap, ◌∙◌, subst, append-nil, arith, drop_of_length-le, w64, to_z, of_z, eqb-true}
use borrow.Author.Tests.{eqb-false}
use lib.Seq.{sets, sets-eq}
use lib.Signed.{mag}
use mir.Val.{hbits}
use Rattle.algebra.proofs.Bound.{Within}
use Rattle.algebra.proofs.Machine.{Reads, exact, held, returned, size, difference, product}
use Rattle.shape.specs.Points.{Point, coord}
use Rattle.shape.specs.Signs.{turn, turn_in, row, minor}
use Rattle.shape.specs.Normals.{minors, normal_of}
use Rattle.shape.specs.Flat.{is_zero}
use Rattle.shape.proofs.FlatLaws.{zero_says}
use Rattle.shape.proofs.TurnSize.{turn_size}
use Rattle.shape.proofs.VerdictLaws.{says_no, says_fixed}
use Rattle.exact.specs.Grid.{limit}
use Rattle.exact.specs.Vectors.{Sized, difference_size, minor_size}

-- A number stored in 64 bits and read back.
abbrev pub kept : ℤ → ℤ
kept z = to_z w64 (of_z w64 z)

-- Coordinate i of a point whose coordinates are no larger than n.
pub coordinate : {n : ℕ} {a : Point} → T (ltb n (2 ^ hbits w64)) → Sized n a → (i : ℕ) →
    Reads (kept (coord i a)) (coord i a) n
coordinate t s i = held w64 (exact (record { abs = s.each i })) t

-- A difference of two coordinates, before and after it is stored.
pub gap : {a c : Point} → Sized limit a → Sized limit c → (i : ℕ) →
    Reads (kept (coord i a) -ℤ kept (coord i c)) (coord i a -ℤ coord i c) difference_size
gap s t i = difference (coordinate tt s i) (coordinate tt t i)

abbrev pub stored_gap : ℕ → Point → Point → ℤ
stored_gap i a c = kept (kept (coord i a) -ℤ kept (coord i c))

pub stored_gap_law : {a c : Point} → Sized limit a → Sized limit c → (i : ℕ) → Reads (stored_gap i a c) (coord i a -ℤ coord i c) difference_size
stored_gap_law s t i = held w64 (gap s t i) tt

-- A reading of a number that is known to be smaller.
known_size : {v z : ℤ} {m n : ℕ} → Reads v z m → Within n z → Reads v z n
known_size r h = record { is = r.is; within = h }

-- A turn of three points in any two coordinates: 2^62, where the bounds of its two products add up to 2^63, which a signed 64-bit number does not hold.
turn_within : {a b c : Point} → Sized limit a → Sized limit b → Sized limit c → (i j : ℕ) → Within minor_size (turn_in i j a b c)
turn_within {a} {b} {c} s r t i j = record { abs = omega (arith, turn_size a b c limit (omega arith) s.each r.each t.each i j) }

-- The turn of three points, whose differences and products were stored.
pub turn_read : {a b c : Point} → Sized limit a → Sized limit b → Sized limit c →
    Reads (kept (stored_gap 0 a c *ℤ stored_gap 1 b c) -ℤ kept (stored_gap 1 a c *ℤ stored_gap 0 b c)) (turn a b c) minor_size
turn_read p q r =
    known_size
    (difference
    (held w64 (product (stored_gap_law p r 0) (stored_gap_law q r 1)) tt)
    (held w64 (product (stored_gap_law p r 1) (stored_gap_law q r 0)) tt))
    (turn_within p q r 0 1)

-- A product of two coordinates.
pub times : {m n : ℕ} {u v : Point} → T (ltb m (2 ^ hbits w64)) → T (ltb n (2 ^ hbits w64)) → Sized m u → Sized n v → (i j : ℕ) →
    Reads (kept (coord i u) *ℤ kept (coord j v)) (coord i u *ℤ coord j v) (m * n)
times t t' s r i j = product (coordinate t s i) (coordinate t' r j)

-- A minor of two rows of differences, whose two products were stored, where it is known to be no larger than a normal's component.
pub minor_read : {u v : Point} → Sized difference_size u → Sized difference_size v → (i j : ℕ) → nat_abs (minor i j u v) ≤ minor_size →
    Reads (kept (kept (coord i u) *ℤ kept (coord j v)) -ℤ kept (kept (coord j u) *ℤ kept (coord i v))) (minor i j u v) minor_size
minor_read s r i j small = known_size (difference (held w64 (times tt tt s r i j) tt) (held w64 (times tt tt s r j i) tt)) (record { abs = small })

-- Three readings make a vector: it is the one meant, and no coordinate is larger than n.
pub vector : {x y z x' y' z' : ℤ} {n : ℕ} → Reads x x' n → Reads y y' n → Reads z z' n →
    (◌≡◌ {A = Point} (x ∷ y ∷ z ∷ []) (x' ∷ y' ∷ z' ∷ [])) × Sized n (x ∷ y ∷ z ∷ [])
vector {x} {y} {z} {n} p q r = ((λ i. p.is i ∷ q.is i ∷ r.is i ∷ []), record { each = each })
  where
    each : (i : ℕ) → nat_abs (coord i (x ∷ y ∷ z ∷ [])) ≤ n
    each zero = (size p).abs
    each (suc zero) = (size q).abs
    each (suc (suc zero)) = (size r).abs
    each (suc (suc (suc i))) = omega arith

-- A row of two points of the grid, and the minors of two rows, as code stores them.
pub row_read : {a d : Point} → Sized limit a → Sized limit d →
    (◌≡◌ {A = Point} (stored_gap 0 a d ∷ stored_gap 1 a d ∷ stored_gap 2 a d ∷ []) (row a d)) × Sized difference_size (stored_gap 0 a d ∷ stored_gap 1 a d ∷ stored_gap 2 a d ∷ [])
row_read s t = vector (stored_gap_law s t 0) (stored_gap_law s t 1) (stored_gap_law s t 2)

abbrev pub stored_minor : ℕ → ℕ → Point → Point → ℤ
stored_minor i j u v = kept (kept (kept (coord i u) *ℤ kept (coord j v)) -ℤ kept (kept (coord j u) *ℤ kept (coord i v)))

pub minors_read : {u v : Point} → Sized difference_size u → Sized difference_size v → Sized minor_size (minors u v) →
    (◌≡◌ {A = Point} (stored_minor 1 2 u v ∷ stored_minor 2 0 u v ∷ stored_minor 0 1 u v ∷ []) (minors u v))
    × Sized minor_size (stored_minor 1 2 u v ∷ stored_minor 2 0 u v ∷ stored_minor 0 1 u v ∷ [])
minors_read s r small =
    vector (held w64 (minor_read s r 1 2 (small.each 0)) tt) (held w64 (minor_read s r 2 0 (small.each 1)) tt) (held w64 (minor_read s r 0 1 (small.each 2)) tt)

-- ---- a list whose numbers are all stored anew, one by one
pub all_stored : {A : Type 0} (new old : List A) → length old ≡ length new → sets old 0 new ≡ new
all_stored {A} new old e =
    sets-eq new old 0 (omega arith)
    ∙ ap (λ (rest : List A). new ++ rest) (drop_of_length-le old {i = 0 + length new} (omega arith))
    ∙ append-nil new

-- ---- a row of differences, and the normal of a plane
pub sized_row : {a d : Point} → Sized limit a → Sized limit d → Sized difference_size (row a d)
sized_row s t = (vector (exact (gap s t 0).within) (exact (gap s t 1).within) (exact (gap s t 2).within)).1

-- Each component of a normal is a turn of the three points, in two of the coordinates.
pub sized_normal : {p q r : Point} → Sized limit p → Sized limit q → Sized limit r → Sized minor_size (normal_of p q r)
sized_normal a b c = (vector (exact (turn_within a b c 1 2)) (exact (turn_within a b c 2 0)) (exact (turn_within a b c 0 1))).1

-- The same of the minors of two rows as the code holds them.
pub sized_minors : {v w v' w' : Point} → Sized minor_size (minors v' w') → v ≡ v' → w ≡ w' → Sized minor_size (minors v w)
sized_minors s e f = subst (λ (n : Point). Sized minor_size n) (λ i. minors (sym e i) (sym f i)) s

-- ---- what the machine's tests of equality tell
-- A test of two numbers by their bits is one of the whole numbers.
by_bits : (x y : ℕ) (t : Bool) → (x ≡ y → t ≡ true) → ((x ≡ y → ⊥) → t ≡ false) → eqb x y ≡ t
by_bits x y t same other = by_test (eqb x y) refl
  where
    by_test : (b : Bool) → eqb x y ≡ b → eqb x y ≡ t
    by_test true e = e ∙ sym (same (eqb-true x y e))
    by_test false e = e ∙ sym (other (eqb-false x y e))

zero_test : {z : ℤ} → z ≡ pos 0 → is_zero z ≡ true
zero_test e = ap is_zero e

not_zero_test : (z : ℤ) → (z ≡ pos 0 → ⊥) → is_zero z ≡ false
not_zero_test z h = says_fixed (zero_says z) (says_no h)

-- A value that is the z of its contract, against 0.
module _ {r z : ℤ} (fits : mag r < 2 ^ hbits w64) (e : r ≡ z) where
  zero_kept : of_z w64 r ≡ 0 → z ≡ pos 0
  zero_kept h = sym (returned w64 fits e) ∙ ap (to_z w64) h

  not_zero_kept : (of_z w64 r ≡ 0 → ⊥) → z ≡ pos 0 → ⊥
  not_zero_kept h f = h (ap (of_z w64) (e ∙ f))

  pub zero_kept_test : eqb (of_z w64 r) 0 ≡ is_zero z
  zero_kept_test = by_bits (of_z w64 r) 0 (is_zero z) (λ h. zero_test (zero_kept h)) (λ h. not_zero_test z (not_zero_kept h))
