-- The order of ℤ as that of an ordered ring: the kit's `a ≤ℤ b` and `a <ℤ b` as signs of the difference b − a, signs of sums and
-- products, squares, a positive factor taken out, no divisors of zero, and two numbers compared.
--
-- Use them to prove an order by its difference: `le_of_sub` and `lt_of_sub` turn the goal into one about the sign of b − a,
-- `sub_nonneg` and `sub_pos` turn the hypotheses into such, and the laws `0≤-..` and `0<-..` combine signs. A longer
-- argument is a line of Certificate.antt. `◌≤ℤ◌` and `◌<ℤ◌` bind tighter than `◌+ℤ◌`: write `pos 0 ≤ℤ (a +ℤ b)`.
--
-- Example (`scaled_difference` of Examples.antt):
--
--   scaled-difference : {k a b : ℤ} → pos 0 ≤ℤ k → a ≤ℤ b → pos 0 ≤ℤ (k *ℤ (b -ℤ a))
--   scaled-difference h g = 0≤-mul h (sub-nonneg g)
use mathlib.Core.Path.{◌≡◌, refl, sym, ◌∙◌, ap, subst}
use mathlib.Core.Bool.{Bool, true, false, not, cond}
use mathlib.Core.Logic.{◌⊎◌, inl, inr}
use Prim.Native.Nat.{ℕ, zero, suc, ◌+◌, ◌*◌, ◌-◌, ◌≤◌, ◌<◌}
use native.Mathlib.Omega.{arith}
use native.Mathlib.Nat.{not-suc-le-zero, mul-le-mul}
use lib.Dec.{T, ltb, leb→le, le→leb, ltb→lt, lt→ltb, nltb→le}
use lib.Arith.{le→nltb}
use lib.IntN.{ℤ, pos, negsuc, neg_ℤ, sub_ℕ, ◌+ℤ◌, ◌-ℤ◌, ◌*ℤ◌, +ℤ_idl, +ℤ_comm, -ℤ-+ℤ_cancel}
use lib.Signed.{◌≤ℤ◌, ◌<ℤ◌, le_z, lt_z, non_neg, lt_z_yes, lt_z_no, <ℤ-≤ℤ_trans, <ℤ_irrefl, clash_ℤ}
use Rattle.algebra.proofs.Ring.{*ℤ-neg}

-- ---- the difference of two natural numbers, and of two whole numbers

cond_nonneg : (c : Bool) (x y : ℕ) → T (not c) → T (non_neg (cond c (negsuc x) (pos y)))
cond_nonneg true x y t = t
cond_nonneg false x y t = tt

cond-nonneg⁻ : (c : Bool) (x y : ℕ) → T (non_neg (cond c (negsuc x) (pos y))) → T (not c)
cond-nonneg⁻ true x y t = t
cond-nonneg⁻ false x y t = tt

subℕ_nonneg : (x y : ℕ) → y ≤ x → T (non_neg (sub_ℕ x y))
subℕ_nonneg x y h = cond_nonneg (ltb x y) (y - suc x) (x - y) (le→nltb x y h)

subℕ-nonneg⁻ : (x y : ℕ) → T (non_neg (sub_ℕ x y)) → y ≤ x
subℕ-nonneg⁻ x y t = nltb→le x y (cond-nonneg⁻ (ltb x y) (y - suc x) (x - y) t)

diff_nonneg : (b a : ℤ) → T (le_z a b) → T (non_neg (b -ℤ a))
diff_nonneg (pos b) (pos zero) t = tt
diff_nonneg (pos b) (pos (suc a)) t = subℕ_nonneg b (suc a) (leb→le (suc a) b t)
diff_nonneg (pos b) (negsuc a) t = tt
diff_nonneg (negsuc b) (pos a) t = absurd t
diff_nonneg (negsuc b) (negsuc a) t = subℕ_nonneg (suc a) (suc b) (omega (arith, leb→le b a t))

diff-nonneg⁻ : (b a : ℤ) → T (non_neg (b -ℤ a)) → T (le_z a b)
diff-nonneg⁻ (pos b) (pos zero) t = le→leb 0 b (omega arith)
diff-nonneg⁻ (pos b) (pos (suc a)) t = le→leb (suc a) b (subℕ-nonneg⁻ b (suc a) t)
diff-nonneg⁻ (pos b) (negsuc a) t = tt
diff-nonneg⁻ (negsuc b) (pos zero) t = absurd (not-suc-le-zero (subℕ-nonneg⁻ zero (suc b) t))
diff-nonneg⁻ (negsuc b) (pos (suc a)) t = absurd t
diff-nonneg⁻ (negsuc b) (negsuc a) t = le→leb b a (omega (arith, subℕ-nonneg⁻ (suc a) (suc b) t))

nonneg→le : (z : ℤ) → T (non_neg z) → T (le_z (pos 0) z)
nonneg→le (pos n) t = le→leb 0 n (omega arith)
nonneg→le (negsuc n) t = t

le→nonneg : (z : ℤ) → T (le_z (pos 0) z) → T (non_neg z)
le→nonneg (pos n) t = tt
le→nonneg (negsuc n) t = t

-- a ≤ b exactly where b - a is not negative
pub sub_nonneg : {a b : ℤ} → a ≤ℤ b → pos 0 ≤ℤ (b -ℤ a)
sub_nonneg {a} {b} h = record { le = nonneg→le (b -ℤ a) (diff_nonneg b a h.le) }

pub le_of_sub : {a b : ℤ} → pos 0 ≤ℤ (b -ℤ a) → a ≤ℤ b
le_of_sub {a} {b} h = record { le = diff-nonneg⁻ b a (le→nonneg (b -ℤ a) h.le) }

-- a < b exactly where 1 ≤ b - a

cond_one : (c : Bool) (x y : ℕ) → T (not c) → 1 ≤ y → T (le_z (pos 1) (cond c (negsuc x) (pos y)))
cond_one true x y t h = t
cond_one false x y t h = le→leb 1 y h

cond-one⁻ : (c : Bool) (x y : ℕ) → T (le_z (pos 1) (cond c (negsuc x) (pos y))) → 1 ≤ y
cond-one⁻ true x y t = absurd t
cond-one⁻ false x y t = leb→le 1 y t

subℕ_one : (x y : ℕ) → y < x → T (le_z (pos 1) (sub_ℕ x y))
subℕ_one x y h = cond_one (ltb x y) (y - suc x) (x - y) (le→nltb x y (omega arith)) (omega arith)

subℕ-one⁻ : (x y : ℕ) → T (le_z (pos 1) (sub_ℕ x y)) → y < x
subℕ-one⁻ x y t = omega (arith, cond-one⁻ (ltb x y) (y - suc x) (x - y) t)

diff_one : (a b : ℤ) → T (lt_z a b) → T (le_z (pos 1) (b -ℤ a))
diff_one (pos a) (pos zero) t = absurd (not-suc-le-zero (ltb→lt a 0 t))
diff_one (pos zero) (pos (suc b)) t = le→leb 1 (suc b + 0) (omega arith)
diff_one (pos (suc a)) (pos (suc b)) t = subℕ_one (suc b) (suc a) (ltb→lt (suc a) (suc b) t)
diff_one (pos a) (negsuc b) t = absurd t
diff_one (negsuc a) (pos b) t = le→leb 1 (b + suc a) (omega arith)
diff_one (negsuc a) (negsuc b) t = subℕ_one (suc a) (suc b) (omega (arith, ltb→lt b a t))

diff-one⁻ : (a b : ℤ) → T (le_z (pos 1) (b -ℤ a)) → T (lt_z a b)
diff-one⁻ (pos zero) (pos b) t = lt→ltb 0 b (omega (arith, leb→le 1 (b + 0) t))
diff-one⁻ (pos (suc a)) (pos b) t = lt→ltb (suc a) b (subℕ-one⁻ b (suc a) t)
diff-one⁻ (negsuc a) (pos b) t = tt
diff-one⁻ (pos zero) (negsuc b) t = absurd (not-suc-le-zero (subℕ-one⁻ 0 (suc b) t))
diff-one⁻ (pos (suc a)) (negsuc b) t = absurd t
diff-one⁻ (negsuc a) (negsuc b) t = lt→ltb b a (omega (arith, subℕ-one⁻ (suc a) (suc b) t))

one_le→lt : (z : ℤ) → T (le_z (pos 1) z) → T (lt_z (pos 0) z)
one_le→lt (pos n) t = t
one_le→lt (negsuc n) t = t

lt→one_le : (z : ℤ) → T (lt_z (pos 0) z) → T (le_z (pos 1) z)
lt→one_le (pos n) t = t
lt→one_le (negsuc n) t = t

-- a < b exactly where b - a is positive
pub sub_pos : {a b : ℤ} → a <ℤ b → pos 0 <ℤ (b -ℤ a)
sub_pos {a} {b} h = record { lt = one_le→lt (b -ℤ a) (diff_one a b h.lt) }

pub lt_of_sub : {a b : ℤ} → pos 0 <ℤ (b -ℤ a) → a <ℤ b
lt_of_sub {a} {b} h = record { lt = diff-one⁻ a b (lt→one_le (b -ℤ a) h.lt) }

-- above zero is at least one: these are whole numbers
pub one_le : {z : ℤ} → pos 0 <ℤ z → pos 1 ≤ℤ z
one_le {z} h = record { le = lt→one_le z h.lt }

-- ---- the three signs

-- z is negative, zero or positive
pub data ThreeWay (z : ℤ) : Type 0 where
  minus : z <ℤ pos 0 → ThreeWay z
  none : z ≡ pos 0 → ThreeWay z
  plus : pos 0 <ℤ z → ThreeWay z

-- which of them
pub three_way : (z : ℤ) → ThreeWay z
three_way (pos zero) = none refl
three_way (pos (suc n)) = plus (record { lt = lt→ltb 0 (suc n) (omega arith) })
three_way (negsuc n) = minus (record { lt = tt })

-- ---- sums and products

-- a natural number as a whole number
pub 0≤-pos : (n : ℕ) → pos 0 ≤ℤ pos n
0≤-pos n = record { le = le→leb 0 n (omega arith) }

pub 0<-pos : (n : ℕ) → 0 < n → pos 0 <ℤ pos n
0<-pos n h = record { lt = lt→ltb 0 n h }

0<-of-pos : (n : ℕ) → pos 0 <ℤ pos n → 0 < n
0<-of-pos n h = ltb→lt 0 n h.lt

-- positive, so not negative
pub weak : {z : ℤ} → pos 0 <ℤ z → pos 0 ≤ℤ z
weak {z = pos n} h = 0≤-pos n
weak {z = negsuc n} h = absurd h.lt

-- the sign of a sum; `l` and `r` say which side is positive
pub 0≤-add : {a b : ℤ} → pos 0 ≤ℤ a → pos 0 ≤ℤ b → pos 0 ≤ℤ (a +ℤ b)
0≤-add {a = pos m} {b = pos n} h g = 0≤-pos (m + n)
0≤-add {a = pos m} {b = negsuc n} h g = absurd g.le
0≤-add {a = negsuc m} {b} h g = absurd h.le

pub 0<-addl : {a b : ℤ} → pos 0 <ℤ a → pos 0 ≤ℤ b → pos 0 <ℤ (a +ℤ b)
0<-addl {a = pos m} {b = pos n} h g = 0<-pos (m + n) (omega (arith, 0<-of-pos m h))
0<-addl {a = pos m} {b = negsuc n} h g = absurd g.le
0<-addl {a = negsuc m} {b} h g = absurd h.lt

pub 0<-addr : {a b : ℤ} → pos 0 ≤ℤ a → pos 0 <ℤ b → pos 0 <ℤ (a +ℤ b)
0<-addr {a} {b} h g = subst (λ (z : ℤ). pos 0 <ℤ z) (+ℤ_comm b a) (0<-addl g h)

-- the sign of a product
pub 0≤-mul : {a b : ℤ} → pos 0 ≤ℤ a → pos 0 ≤ℤ b → pos 0 ≤ℤ (a *ℤ b)
0≤-mul {a = pos m} {b = pos n} h g = 0≤-pos (m * n)
0≤-mul {a = pos m} {b = negsuc n} h g = absurd g.le
0≤-mul {a = negsuc m} {b} h g = absurd h.le

pub 0<-mul : {a b : ℤ} → pos 0 <ℤ a → pos 0 <ℤ b → pos 0 <ℤ (a *ℤ b)
0<-mul {a = pos m} {b = pos n} h g = 0<-pos (m * n) (mul-le-mul (0<-of-pos m h) (0<-of-pos n g))
0<-mul {a = pos m} {b = negsuc n} h g = absurd g.lt
0<-mul {a = negsuc m} {b} h g = absurd h.lt

-- a square is not negative
pub 0≤-sq : (a : ℤ) → pos 0 ≤ℤ (a *ℤ a)
0≤-sq (pos n) = 0≤-pos (n * n)
0≤-sq (negsuc n) = 0≤-pos (suc n * suc n)

-- ---- a factor taken out

-- a positive one, of a product that is not negative; one that is not negative, of a positive product
pub 0≤-div : {a b : ℤ} → pos 0 <ℤ a → pos 0 ≤ℤ (a *ℤ b) → pos 0 ≤ℤ b
0≤-div {a = pos m} {b = pos n} h g = 0≤-pos n
0≤-div {a = pos zero} {b = negsuc n} h g = absurd (not-suc-le-zero (0<-of-pos 0 h))
0≤-div {a = pos (suc m)} {b = negsuc n} h g = absurd (absurd_neg (suc m * suc n) (mul-le-mul {n₁ = 1} {m₁ = 1} {n₂ = suc m} {m₂ = suc n} (omega arith) (omega arith)) g.le)
  where
    absurd_neg : (x : ℕ) → 1 * 1 ≤ x → T (le_z (pos 0) (neg_ℤ (pos x))) → ⊥
    absurd_neg zero h t = not-suc-le-zero h
    absurd_neg (suc x) h t = t
0≤-div {a = negsuc m} {b} h g = absurd h.lt

pub 0<-div : {a b : ℤ} → pos 0 ≤ℤ a → pos 0 <ℤ (a *ℤ b) → pos 0 <ℤ b
0<-div {a = pos m} {b = pos zero} h g = absurd (contra (m * 0) (omega arith) g.lt)
  where
    contra : (x : ℕ) → x ≡ 0 → T (ltb 0 x) → ⊥
    contra x e t = not-suc-le-zero (subst (λ (y : ℕ). 1 ≤ y) e (ltb→lt 0 x t))
0<-div {a = pos m} {b = pos (suc n)} h g = 0<-pos (suc n) (omega arith)
0<-div {a = pos m} {b = negsuc n} h g = absurd (neg_neg (m * suc n) g.lt)
  where
    neg_neg : (x : ℕ) → T (lt_z (pos 0) (neg_ℤ (pos x))) → ⊥
    neg_neg zero t = not-suc-le-zero (ltb→lt 0 0 t)
    neg_neg (suc x) t = t
0<-div {a = negsuc m} {b} h g = absurd h.le

-- ---- no divisors of zero

-- equal where the difference is zero
pub eq_of_sub : (x y : ℤ) → y -ℤ x ≡ pos 0 → x ≡ y
eq_of_sub x y e = sym (sym (-ℤ-+ℤ_cancel y x) ∙ ap (λ (z : ℤ). z +ℤ x) e ∙ +ℤ_idl x)

-- a product is zero and one factor is positive: the other is zero
pub zero_of_mul : (a b : ℤ) → pos 0 <ℤ a → a *ℤ b ≡ pos 0 → b ≡ pos 0
zero_of_mul a b h e = go (three_way b)
  where
    go : ThreeWay b → b ≡ pos 0
    go (none z) = z
    go (plus p) = absurd (<ℤ_irrefl (subst (λ (z : ℤ). pos 0 <ℤ z) e (0<-mul h p)))
    go (minus p) = absurd (<ℤ_irrefl (subst (λ (z : ℤ). pos 0 <ℤ z) (ap (λ (z : ℤ). a *ℤ z) (+ℤ_idl (neg_ℤ b)) ∙ *ℤ-neg a b ∙ ap neg_ℤ e) (0<-mul h (sub_pos p))))

-- ---- two numbers compared

-- by the test that computes
pub lt_true : {a b : ℤ} → lt_z a b ≡ true → a <ℤ b
lt_true e = lt_z_yes (subst T (sym e) tt)

pub lt_test : {a b : ℤ} → a <ℤ b → lt_z a b ≡ true
lt_test {a} {b} h = by_test (lt_z a b) h.lt
  where
    by_test : (t : Bool) → T t → t ≡ true
    by_test true h = refl
    by_test false h = absurd h

pub lt_false : {a b : ℤ} → lt_z a b ≡ false → b ≤ℤ a
lt_false e = lt_z_no (subst T (sym (ap not e)) tt)

-- the first is below the second, or not
pub lt_or_ge : (a b : ℤ) → (a <ℤ b) ⊎ (b ≤ℤ a)
lt_or_ge a b = by_test (lt_z a b) refl
  where
    by_test : (t : Bool) → lt_z a b ≡ t → (a <ℤ b) ⊎ (b ≤ℤ a)
    by_test true e = inl (lt_true e)
    by_test false e = inr (lt_false e)

-- neither is below the other: equal
pub le_antisym : {a b : ℤ} → a ≤ℤ b → b ≤ℤ a → a ≡ b
le_antisym {a} {b} h g = go (three_way (b -ℤ a))
  where
    go : ThreeWay (b -ℤ a) → a ≡ b
    go (minus p) = clash_ℤ p (sub_nonneg h)
    go (none z) = eq_of_sub a b z
    go (plus p) = clash_ℤ (lt_of_sub p) g

-- below, so not above
pub le_of_lt : {a b : ℤ} → a <ℤ b → a ≤ℤ b
le_of_lt h = le_of_sub (weak (sub_pos h))

-- what is not above b is below what b is below
pub ≤ℤ-<ℤ-trans : {a b c : ℤ} → a ≤ℤ b → b <ℤ c → a <ℤ c
≤ℤ-<ℤ-trans {a} {c} h g = go (lt_or_ge a c)
  where
    go : (a <ℤ c) ⊎ (c ≤ℤ a) → a <ℤ c
    go (inl p) = p
    go (inr p) = clash_ℤ (<ℤ-≤ℤ_trans g p) h

pub ≤ℤ-trans : {a b c : ℤ} → a ≤ℤ b → b ≤ℤ c → a ≤ℤ c
≤ℤ-trans {a} {c} g h = go (lt_or_ge c a)
  where
    go : (c <ℤ a) ⊎ (a ≤ℤ c) → a ≤ℤ c
    go (inl p) = clash_ℤ (<ℤ-≤ℤ_trans p g) h
    go (inr p) = p
