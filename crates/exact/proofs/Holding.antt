-- Rows and normals whose product is told by its low word, and what tells that it is. Assumes nothing.
use Rattle.std.proofs.Common.{ℕ, zero, suc, ◌+◌, ◌*◌, ◌^◌, ◌<◌, ◌≤◌, Bool, true, false, ◌&&◌, [], ◌∷◌, ℤ, ◌-ℤ◌, ◌*ℤ◌, nat_abs, refl, subst, arith, lit<, w64}
use lib.Signed.{mag}
use mir.Val.{hbits}
use Rattle.algebra.proofs.Bound.{Within, within_add, within_sub, within_mul}
use Rattle.algebra.proofs.Machine.{exact, returned}
use Rattle.shape.specs.Points.{Point, coord}
use Rattle.shape.specs.Signs.{turn_in, row}
use Rattle.shape.specs.Normals.{normal_of}
use Rattle.shape.specs.Verdicts.{Says}
use Rattle.shape.proofs.TurnSize.{turn_size}
use Rattle.shape.proofs.VerdictLaws.{says_both, says_same}
use Rattle.wide.specs.Low.{HasLowWord}
use Rattle.exact.specs.Small.{narrow}
use Rattle.exact.specs.Vectors.{Sized, difference_size, narrow_size, Holds}
use Rattle.exact.proofs.Readings.{kept, vector}

-- ---- by their sizes
-- No coordinate of the row is larger than m, and none of the normal than k.
holds : {m k : ℕ} {u n : Point} → m * k + m * k + m * k < 2 ^ 63 → Sized m u → Sized k n → Holds u n
holds {m} {k} {u} {n} h s r = record { below = omega (arith, (within_add (within_add (one 0) (one 1)) (one 2)).abs, h) }
  where
    one : (i : ℕ) → Within (m * k) (coord i u *ℤ coord i n)
    one i = within_mul {a = coord i u} {b = coord i n} (record { abs = s.each i }) (record { abs = r.each i })

-- A row of the grid and a narrow normal.
pub narrow_holds : {u n : Point} → Sized difference_size u → Sized narrow_size n → Holds u n
narrow_holds = holds (lit< tt)

-- Points of a list whose numbers are narrow: differences of up to 2^20, and turns of up to 2^40.
small_row : {p q : Point} → Sized narrow p → Sized narrow q → Sized (narrow + narrow) (row p q)
small_row {p} {q} s t = (vector (exact (one 0)) (exact (one 1)) (exact (one 2))).1
  where
    one : (i : ℕ) → Within (narrow + narrow) (coord i p -ℤ coord i q)
    one i = within_sub {a = coord i p} {b = coord i q} (record { abs = s.each i }) (record { abs = t.each i })

small_normal : {a b c : Point} → Sized narrow a → Sized narrow b → Sized narrow c → Sized (4 * (narrow * narrow)) (normal_of a b c)
small_normal {a} {b} {c} s r t = (vector (exact (one 1 2)) (exact (one 2 0)) (exact (one 0 1))).1
  where
    one : (i j : ℕ) → Within (4 * (narrow * narrow)) (turn_in i j a b c)
    one i j = record { abs = turn_size a b c narrow (lit< tt) s.each r.each t.each i j }

pub small_holds : {a b c p q : Point} → Sized narrow a → Sized narrow b → Sized narrow c → Sized narrow p → Sized narrow q → Holds (row p q) (normal_of a b c)
small_holds a b c p q = holds (lit< tt) (small_row p q) (small_normal a b c)

-- ---- what the tests of a normal's components tell
-- Two verdicts that are both asked.
says_and : {v w : Bool} {A B : Type 0} → Says v A → Says w B → Says (v && w) (A × B)
says_and {v = true} s t = says_both s t
says_and {v = false} s t = says_both s t

-- A number that was stored and read back.
pub says_read : (z : ℤ) {n : ℕ} {v : Bool} → mag z < 2 ^ hbits w64 → Says v (nat_abs (kept z) ≤ n) → Says v (nat_abs z ≤ n)
says_read z {n} {v} f = subst (λ (x : ℤ). Says v (nat_abs x ≤ n)) (returned w64 {r = z} {z = z} f refl)

-- Three verdicts on the components of a vector.
pub says_sized : {n : ℕ} {x y z : ℤ} {u v w : Bool} → Says u (nat_abs x ≤ n) → Says v (nat_abs y ≤ n) → Says w (nat_abs z ≤ n) →
    Says (u && v && w) (Sized n (x ∷ y ∷ z ∷ []))
says_sized {n} {x} {y} {z} p q r = says_same ((λ h. record { each = each h }), λ s. ((s.each 0, s.each 1), s.each 2)) (says_and (says_and p q) r)
  where
    each : ((nat_abs x ≤ n) × (nat_abs y ≤ n)) × (nat_abs z ≤ n) → (i : ℕ) → nat_abs (coord i (x ∷ y ∷ z ∷ [])) ≤ n
    each h zero = h.0.0
    each h (suc zero) = h.0.1
    each h (suc (suc zero)) = h.1
    each h (suc (suc (suc i))) = omega arith

-- ---- what the machine reads
-- The low word of a product of two numbers that were stored and read back.
pub product_read : (x y : ℤ) {w : ℕ} → mag x < 2 ^ hbits w64 → mag y < 2 ^ hbits w64 → HasLowWord (kept x *ℤ kept y) w → HasLowWord (x *ℤ y) w
product_read x y {w} f g = subst (λ (z : ℤ). HasLowWord z w) (λ i. returned w64 {r = x} {z = x} f refl i *ℤ returned w64 {r = y} {z = y} g refl i)
