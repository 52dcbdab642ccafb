-- The normal form of an expression, a sorted list of monomials with their coefficients, and the proof that it has the same value.
--
-- A monomial is one native number, its key: the digit i of the key, in base 16, is the exponent of variable i. So the product of
-- two monomials is the sum of their keys, and sorting uses the native comparison. That is right while no exponent passes 15,
-- which holds where the degree of the expression is below 16.
-- `term key coefficient rest` is one monomial before the others: `term 17 (negsuc 0) nil` is −1 · var 0 · var 1, since
-- 17 = 1 · 16 + 1 and negsuc 0 = −1; `term 3 (pos 2) nil` is 2 · (var 0)³; `term 0 (pos 5) nil` is 5.
--
-- `sound` is what the other files use: the normal form `normal n e`, read back by `sum`, is worth the same as e. The number n is
-- fuel: where it runs out, terms stay unmerged, and that is right too.
--
-- Example (`normal_form` of Examples.antt), (a + 2) · b = 2b + ab:
--
--   normal-form : normal 100 ((var 0 ⊞ lit (pos 2)) ⊠ var 1) ≡ term 16 (pos 2) (term 17 (pos 1) nil)
--   normal-form = refl
use mathlib.Core.Path.{◌≡◌, refl, sym, ◌∙◌, ap, ap₂, subst}
use mathlib.Core.List.{List, [], ◌∷◌}
use Prim.Native.Nat.{ℕ, zero, suc, ◌+◌, ◌*◌, ◌/◌, ◌%◌, ◌≤◌, ◌<◌, max, compare, Ordering}
use native.Mathlib.Nat.{zero-add, suc-add}
use native.Mathlib.Omega.{arith}
use lib.Dec.{T, compare_is_eq, eqb→eq}
use lib.IntN.{ℤ, pos, negsuc, neg_ℤ, ◌+ℤ◌, ◌*ℤ◌, +ℤ_idl, +ℤ_idr, +ℤ_assoc, neg_ℤ-+ℤ, zero-*ℤ, *ℤ-zero}
use Rattle.algebra.proofs.Ring.{+ℤ-left-comm, +ℤ-swap4, *ℤ-distr, *ℤ-distl, neg-*ℤ, *ℤ-assoc, *ℤ-swap4, *ℤ-onel, *ℤ-oner}
use Rattle.algebra.proofs.Expression.{Ex, var, lit, ◌⊞◌, ◌⊟◌, ◌⊠◌, neg, lookup, value, degree}

-- ---- polynomials

-- monomials by their keys, with their coefficients
pub data Poly : Type 0 where
  nil : Poly
  term : ℕ → ℤ → Poly → Poly

-- one of three polynomials, by a comparison. They are functions so that only the one taken is computed
abbrev pub by_order : Ordering → (Unit {0} → Poly) → (Unit {0} → Poly) → (Unit {0} → Poly) → Poly
by_order Ordering.lt f g h = f tt
by_order Ordering.eq f g h = g tt
by_order Ordering.gt f g h = h tt

-- a term, unless its coefficient is zero
abbrev pub term_unless_zero : ℕ → ℤ → Poly → Poly
term_unless_zero m (pos zero) p = p
term_unless_zero m (pos (suc n)) p = term m (pos (suc n)) p
term_unless_zero m (negsuc n) p = term m (negsuc n) p

-- the terms of both, one list behind the other
abbrev pub joined : Poly → Poly → Poly
joined nil q = q
joined (term m c p) q = term m c (joined p q)

-- the sum, by a merge. The first argument is fuel; where it ends the lists are just joined, which is right too
abbrev pub add : ℕ → Poly → Poly → Poly
add zero p q = joined p q
add (suc n) nil q = q
add (suc n) (term m c p) nil = term m c p
add (suc n) (term m c p) (term m' c' q) = by_order (compare m m')
    (λ _. term m c (add n p (term m' c' q)))
    (λ _. term_unless_zero m (c +ℤ c') (add n p q))
    (λ _. term m' c' (add n (term m c p) q))

-- one monomial times a polynomial
abbrev pub scale : ℕ → ℤ → Poly → Poly
scale m c nil = nil
scale m c (term m' c' q) = term (m + m') (c *ℤ c') (scale m c q)

-- minus a polynomial
abbrev pub opposite : Poly → Poly
opposite nil = nil
opposite (term m c p) = term m (neg_ℤ c) (opposite p)

-- the product, term by term
abbrev pub mul : ℕ → Poly → Poly → Poly
mul f nil q = nil
mul f (term m c p) q = add f (scale m c q) (mul f p q)

-- the terms at the even places, and those at the odd ones
abbrev pub evens : Poly → Poly
evens nil = nil
evens (term m c nil) = term m c nil
evens (term m c (term m' c' p)) = term m c (evens p)

abbrev pub odds : Poly → Poly
odds nil = nil
odds (term m c nil) = nil
odds (term m c (term m' c' p)) = term m' c' (odds p)

-- the product by halves, which merges lists of like lengths. The first argument is fuel
abbrev pub times : ℕ → ℕ → Poly → Poly → Poly
times zero f p q = mul f p q
times (suc n) f nil q = nil
times (suc n) f (term m c nil) q = scale m c q
times (suc n) f (term m c (term m' c' p)) q = add f (times n f (term m c (evens p)) q) (times n f (term m' c' (odds p)) q)

-- the key of a variable alone
abbrev pub variable_key : ℕ → ℕ
variable_key zero = 1
variable_key (suc i) = 16 * variable_key i

-- a number as a polynomial
abbrev pub constant_poly : ℤ → Poly
constant_poly c = term_unless_zero 0 c nil

-- the normal form of an expression
abbrev pub normal : ℕ → Ex → Poly
normal f (var i) = term (variable_key i) (pos 1) nil
normal f (lit c) = constant_poly c
normal f (a ⊞ b) = add f (normal f a) (normal f b)
normal f (a ⊟ b) = add f (normal f a) (opposite (normal f b))
normal f (a ⊠ b) = times 20 f (normal f a) (normal f b)
normal f (neg a) = opposite (normal f a)

-- ---- what a polynomial is worth

power : ℤ → ℕ → ℤ
power x zero = pos 1
power x (suc n) = x *ℤ power x n

monomial : List ℤ → ℕ → ℤ
monomial [] m = pos 1
monomial (x ∷ ρ) m = power x (m % 16) *ℤ monomial ρ (m / 16)

-- the value of a polynomial
pub sum : List ℤ → Poly → ℤ
sum ρ nil = pos 0
sum ρ (term m c p) = c *ℤ monomial ρ m +ℤ sum ρ p

-- the empty polynomial is zero
pub sum_nil : (ρ : List ℤ) → sum ρ nil ≡ pos 0
unfolding sum
sum_nil ρ = refl

power_add : (x : ℤ) (m n : ℕ) → power x (m + n) ≡ power x m *ℤ power x n
unfolding power
power_add x zero n = ap (power x) (zero-add n) ∙ sym (*ℤ-onel (power x n))
power_add x (suc m) n = ap (power x) (suc-add m n) ∙ ap (λ (y : ℤ). x *ℤ y) (power_add x m n) ∙ sym (*ℤ-assoc x (power x m) (power x n))

-- ---- no exponent passes d

-- in one monomial
DigitsFit : ℕ → List ℤ → ℕ → Type 0
DigitsFit d [] m = Unit {0}
DigitsFit d (x ∷ ρ) m = (m % 16 ≤ d) × DigitsFit d ρ (m / 16)

-- in every monomial of a polynomial
AllFit : ℕ → List ℤ → Poly → Type 0
AllFit d ρ nil = Unit {0}
AllFit d ρ (term m c p) = DigitsFit d ρ m × AllFit d ρ p

fits_widen : (d e : ℕ) (ρ : List ℤ) (m : ℕ) → d ≤ e → DigitsFit d ρ m → DigitsFit e ρ m
unfolding DigitsFit
fits_widen d e [] m h f = tt
fits_widen d e (x ∷ ρ) m h f = (omega (arith, f.0), fits_widen d e ρ (m / 16) h f.1)

all_widen : (d e : ℕ) (ρ : List ℤ) (p : Poly) → d ≤ e → AllFit d ρ p → AllFit e ρ p
unfolding AllFit
all_widen d e ρ nil h f = tt
all_widen d e ρ (term m c p) h f = (fits_widen d e ρ m h f.0, all_widen d e ρ p h f.1)

last_digit_of_sum : (m n d e : ℕ) → m % 16 ≤ d → n % 16 ≤ e → d + e < 16 → (m + n) % 16 ≡ m % 16 + n % 16
last_digit_of_sum m n d e p q h = omega arith

other_digits_of_sum : (m n d e : ℕ) → m % 16 ≤ d → n % 16 ≤ e → d + e < 16 → (m + n) / 16 ≡ m / 16 + n / 16
other_digits_of_sum m n d e p q h = omega arith

fits_add : (d e : ℕ) (ρ : List ℤ) (m n : ℕ) → d + e < 16 → DigitsFit d ρ m → DigitsFit e ρ n → DigitsFit (d + e) ρ (m + n)
unfolding DigitsFit
fits_add d e [] m n h f g = tt
fits_add d e (x ∷ ρ) m n h f g = (
  omega (arith, last_digit_of_sum m n d e f.0 g.0 h, f.0, g.0),
  subst (DigitsFit (d + e) ρ) (sym (other_digits_of_sum m n d e f.0 g.0 h)) (fits_add d e ρ (m / 16) (n / 16) h f.1 g.1),
)

monomial_add : (d e : ℕ) (ρ : List ℤ) (m n : ℕ) → d + e < 16 → DigitsFit d ρ m → DigitsFit e ρ n → monomial ρ (m + n) ≡ monomial ρ m *ℤ monomial ρ n
unfolding DigitsFit monomial
monomial_add d e [] m n h f g = refl
monomial_add d e (x ∷ ρ) m n h f g =
    ap₂ ◌*ℤ◌ (ap (power x) (last_digit_of_sum m n d e f.0 g.0 h) ∙ power_add x (m % 16) (n % 16))
    (ap (monomial ρ) (other_digits_of_sum m n d e f.0 g.0 h) ∙ monomial_add d e ρ (m / 16) (n / 16) h f.1 g.1)
    ∙ *ℤ-swap4 (power x (m % 16)) (power x (n % 16)) (monomial ρ (m / 16)) (monomial ρ (n / 16))

monomial_zero : (ρ : List ℤ) → monomial ρ 0 ≡ pos 1
unfolding monomial power
monomial_zero [] = refl
monomial_zero (x ∷ ρ) = ap (λ (y : ℤ). pos 1 *ℤ y) (monomial_zero ρ)

fits_zero : (d : ℕ) (ρ : List ℤ) → DigitsFit d ρ 0
unfolding DigitsFit
fits_zero d [] = tt
fits_zero d (x ∷ ρ) = (omega arith, fits_zero d ρ)

last_digit_of_shift : (n : ℕ) → (16 * n) % 16 ≡ 0
last_digit_of_shift n = omega arith

other_digits_of_shift : (n : ℕ) → (16 * n) / 16 ≡ n
other_digits_of_shift n = omega arith

monomial_variable : (ρ : List ℤ) (i : ℕ) → monomial ρ (variable_key i) ≡ lookup ρ i
unfolding monomial power
monomial_variable [] i = refl
monomial_variable (x ∷ ρ) zero = ap₂ ◌*ℤ◌ (*ℤ-oner x) (monomial_zero ρ) ∙ *ℤ-oner x
monomial_variable (x ∷ ρ) (suc i) = ap₂ (λ (m n : ℕ). power x m *ℤ monomial ρ n) (last_digit_of_shift (variable_key i)) (other_digits_of_shift (variable_key i)) ∙ *ℤ-onel (monomial ρ (variable_key i)) ∙ monomial_variable ρ i

fits_variable : (ρ : List ℤ) (i : ℕ) → DigitsFit 1 ρ (variable_key i)
unfolding DigitsFit
fits_variable [] i = tt
fits_variable (x ∷ ρ) zero = (omega arith, fits_zero 1 ρ)
fits_variable (x ∷ ρ) (suc i) = (omega arith, subst (DigitsFit 1 ρ) (sym (other_digits_of_shift (variable_key i))) (fits_variable ρ i))

-- ---- the operations have the right values

sum_joined : (ρ : List ℤ) (p q : Poly) → sum ρ (joined p q) ≡ sum ρ p +ℤ sum ρ q
unfolding sum
sum_joined ρ nil q = sym (+ℤ_idl (sum ρ q))
sum_joined ρ (term m c p) q = ap (λ (y : ℤ). c *ℤ monomial ρ m +ℤ y) (sum_joined ρ p q) ∙ sym (+ℤ_assoc (c *ℤ monomial ρ m) (sum ρ p) (sum ρ q))

sum_term_unless_zero : (ρ : List ℤ) (m : ℕ) (c : ℤ) (p : Poly) → sum ρ (term_unless_zero m c p) ≡ c *ℤ monomial ρ m +ℤ sum ρ p
unfolding sum
sum_term_unless_zero ρ m (pos zero) p = sym (ap (λ (y : ℤ). y +ℤ sum ρ p) (zero-*ℤ (monomial ρ m)) ∙ +ℤ_idl (sum ρ p))
sum_term_unless_zero ρ m (pos (suc n)) p = refl
sum_term_unless_zero ρ m (negsuc n) p = refl

by_order_cases : (o : Ordering) (f g h : Unit {0} → Poly) (P : Poly → Type 0) → P (f tt) → (T (compare_is_eq o) → P (g tt)) → P (h tt) → P (by_order o f g h)
by_order_cases Ordering.lt f g h P a b c = a
by_order_cases Ordering.eq f g h P a b c = b tt
by_order_cases Ordering.gt f g h P a b c = c

sum_add : (ρ : List ℤ) (n : ℕ) (p q : Poly) → sum ρ (add n p q) ≡ sum ρ p +ℤ sum ρ q
unfolding sum
sum_add ρ zero p q = sum_joined ρ p q
sum_add ρ (suc n) nil q = sym (+ℤ_idl (sum ρ q))
sum_add ρ (suc n) (term m c p) nil = sym (+ℤ_idr (c *ℤ monomial ρ m +ℤ sum ρ p))
sum_add ρ (suc n) (term m c p) (term m' c' q) = by_order_cases (compare m m')
    (λ _. term m c (add n p (term m' c' q)))
    (λ _. term_unless_zero m (c +ℤ c') (add n p q))
    (λ _. term m' c' (add n (term m c p) q))
    (λ (r : Poly). sum ρ r ≡ (c *ℤ monomial ρ m +ℤ sum ρ p) +ℤ (c' *ℤ monomial ρ m' +ℤ sum ρ q))
    (ap (λ (y : ℤ). c *ℤ monomial ρ m +ℤ y) (sum_add ρ n p (term m' c' q)) ∙ sym (+ℤ_assoc (c *ℤ monomial ρ m) (sum ρ p) (c' *ℤ monomial ρ m' +ℤ sum ρ q)))
    (λ t. sum_term_unless_zero ρ m (c +ℤ c') (add n p q)
    ∙ ap₂ ◌+ℤ◌ (*ℤ-distr c c' (monomial ρ m) ∙ ap (λ (y : ℕ). c *ℤ monomial ρ m +ℤ c' *ℤ monomial ρ y) (eqb→eq m m' t)) (sum_add ρ n p q)
    ∙ +ℤ-swap4 (c *ℤ monomial ρ m) (c' *ℤ monomial ρ m') (sum ρ p) (sum ρ q))
    (ap (λ (y : ℤ). c' *ℤ monomial ρ m' +ℤ y) (sum_add ρ n (term m c p) q) ∙ +ℤ-left-comm (c' *ℤ monomial ρ m') (c *ℤ monomial ρ m +ℤ sum ρ p) (sum ρ q))

sum_opposite : (ρ : List ℤ) (p : Poly) → sum ρ (opposite p) ≡ neg_ℤ (sum ρ p)
unfolding sum
sum_opposite ρ nil = refl
sum_opposite ρ (term m c p) = ap₂ ◌+ℤ◌ (neg-*ℤ c (monomial ρ m)) (sum_opposite ρ p) ∙ sym (neg_ℤ-+ℤ (c *ℤ monomial ρ m) (sum ρ p))

sum_scale : (d e : ℕ) (ρ : List ℤ) (m : ℕ) (c : ℤ) (q : Poly) → d + e < 16 → DigitsFit d ρ m → AllFit e ρ q → sum ρ (scale m c q) ≡ (c *ℤ monomial ρ m) *ℤ sum ρ q
unfolding sum AllFit
sum_scale d e ρ m c nil h f g = sym (*ℤ-zero (c *ℤ monomial ρ m))
sum_scale d e ρ m c (term m' c' q) h f g =
    ap₂ ◌+ℤ◌ (ap (λ (y : ℤ). c *ℤ c' *ℤ y) (monomial_add d e ρ m m' h f g.0) ∙ *ℤ-swap4 c c' (monomial ρ m) (monomial ρ m')) (sum_scale d e ρ m c q h f g.1)
    ∙ sym (*ℤ-distl (c *ℤ monomial ρ m) (c' *ℤ monomial ρ m') (sum ρ q))

sum_mul : (d e : ℕ) (ρ : List ℤ) (n : ℕ) (p q : Poly) → d + e < 16 → AllFit d ρ p → AllFit e ρ q → sum ρ (mul n p q) ≡ sum ρ p *ℤ sum ρ q
unfolding sum AllFit
sum_mul d e ρ n nil q h f g = sym (zero-*ℤ (sum ρ q))
sum_mul d e ρ n (term m c p) q h f g =
    sum_add ρ n (scale m c q) (mul n p q) ∙ ap₂ ◌+ℤ◌ (sum_scale d e ρ m c q h f.0 g) (sum_mul d e ρ n p q h f.1 g)
    ∙ sym (*ℤ-distr (c *ℤ monomial ρ m) (sum ρ p) (sum ρ q))

sum_halves : (ρ : List ℤ) (p : Poly) → sum ρ p ≡ sum ρ (evens p) +ℤ sum ρ (odds p)
unfolding sum
sum_halves ρ nil = refl
sum_halves ρ (term m c nil) = sym (+ℤ_idr (c *ℤ monomial ρ m +ℤ pos 0))
sum_halves ρ (term m c (term m' c' p)) =
    ap (λ (y : ℤ). c *ℤ monomial ρ m +ℤ (c' *ℤ monomial ρ m' +ℤ y)) (sum_halves ρ p)
    ∙ ap (λ (y : ℤ). c *ℤ monomial ρ m +ℤ y) (+ℤ-left-comm (c' *ℤ monomial ρ m') (sum ρ (evens p)) (sum ρ (odds p)))
    ∙ sym (+ℤ_assoc (c *ℤ monomial ρ m) (sum ρ (evens p)) (c' *ℤ monomial ρ m' +ℤ sum ρ (odds p)))

all_evens : (d : ℕ) (ρ : List ℤ) (p : Poly) → AllFit d ρ p → AllFit d ρ (evens p)
unfolding AllFit
all_evens d ρ nil f = tt
all_evens d ρ (term m c nil) f = f
all_evens d ρ (term m c (term m' c' p)) f = (f.0, all_evens d ρ p f.1.1)

all_odds : (d : ℕ) (ρ : List ℤ) (p : Poly) → AllFit d ρ p → AllFit d ρ (odds p)
unfolding AllFit
all_odds d ρ nil f = tt
all_odds d ρ (term m c nil) f = tt
all_odds d ρ (term m c (term m' c' p)) f = (f.1.0, all_odds d ρ p f.1.1)

sum_times : (d e : ℕ) (ρ : List ℤ) (n f : ℕ) (p q : Poly) → d + e < 16 → AllFit d ρ p → AllFit e ρ q → sum ρ (times n f p q) ≡ sum ρ p *ℤ sum ρ q
unfolding sum AllFit
sum_times d e ρ zero f p q h a b = sum_mul d e ρ f p q h a b
sum_times d e ρ (suc n) f nil q h a b = sym (zero-*ℤ (sum ρ q))
sum_times d e ρ (suc n) f (term m c nil) q h a b = sum_scale d e ρ m c q h a.0 b ∙ ap (λ (y : ℤ). y *ℤ sum ρ q) (sym (+ℤ_idr (c *ℤ monomial ρ m)))
sum_times d e ρ (suc n) f (term m c (term m' c' p)) q h a b =
    sum_add ρ f (times n f (term m c (evens p)) q) (times n f (term m' c' (odds p)) q)
    ∙ ap₂ ◌+ℤ◌ (sum_times d e ρ n f (term m c (evens p)) q h (a.0, all_evens d ρ p a.1.1) b) (sum_times d e ρ n f (term m' c' (odds p)) q h (a.1.0, all_odds d ρ p a.1.1) b)
    ∙ sym (*ℤ-distr (c *ℤ monomial ρ m +ℤ sum ρ (evens p)) (c' *ℤ monomial ρ m' +ℤ sum ρ (odds p)) (sum ρ q))
    ∙ ap (λ (y : ℤ). y *ℤ sum ρ q) (sym (sum_halves ρ (term m c (term m' c' p))))

-- ---- and keep the exponents small

all_joined : (d : ℕ) (ρ : List ℤ) (p q : Poly) → AllFit d ρ p → AllFit d ρ q → AllFit d ρ (joined p q)
unfolding AllFit
all_joined d ρ nil q f g = g
all_joined d ρ (term m c p) q f g = (f.0, all_joined d ρ p q f.1 g)

all_term_unless_zero : (d : ℕ) (ρ : List ℤ) (m : ℕ) (c : ℤ) (p : Poly) → DigitsFit d ρ m → AllFit d ρ p → AllFit d ρ (term_unless_zero m c p)
unfolding AllFit
all_term_unless_zero d ρ m (pos zero) p f g = g
all_term_unless_zero d ρ m (pos (suc n)) p f g = (f, g)
all_term_unless_zero d ρ m (negsuc n) p f g = (f, g)

all_add : (d : ℕ) (ρ : List ℤ) (n : ℕ) (p q : Poly) → AllFit d ρ p → AllFit d ρ q → AllFit d ρ (add n p q)
unfolding AllFit
all_add d ρ zero p q f g = all_joined d ρ p q f g
all_add d ρ (suc n) nil q f g = g
all_add d ρ (suc n) (term m c p) nil f g = f
all_add d ρ (suc n) (term m c p) (term m' c' q) f g = by_order_cases (compare m m')
    (λ _. term m c (add n p (term m' c' q)))
    (λ _. term_unless_zero m (c +ℤ c') (add n p q))
    (λ _. term m' c' (add n (term m c p) q))
    (AllFit d ρ)
    (f.0, all_add d ρ n p (term m' c' q) f.1 g)
    (λ t. all_term_unless_zero d ρ m (c +ℤ c') (add n p q) f.0 (all_add d ρ n p q f.1 g.1))
    (g.0, all_add d ρ n (term m c p) q f g.1)

all_opposite : (d : ℕ) (ρ : List ℤ) (p : Poly) → AllFit d ρ p → AllFit d ρ (opposite p)
unfolding AllFit
all_opposite d ρ nil f = tt
all_opposite d ρ (term m c p) f = (f.0, all_opposite d ρ p f.1)

all_scale : (d e : ℕ) (ρ : List ℤ) (m : ℕ) (c : ℤ) (q : Poly) → d + e < 16 → DigitsFit d ρ m → AllFit e ρ q → AllFit (d + e) ρ (scale m c q)
unfolding AllFit
all_scale d e ρ m c nil h f g = tt
all_scale d e ρ m c (term m' c' q) h f g = (fits_add d e ρ m m' h f g.0, all_scale d e ρ m c q h f g.1)

all_mul : (d e : ℕ) (ρ : List ℤ) (n : ℕ) (p q : Poly) → d + e < 16 → AllFit d ρ p → AllFit e ρ q → AllFit (d + e) ρ (mul n p q)
unfolding AllFit
all_mul d e ρ n nil q h f g = tt
all_mul d e ρ n (term m c p) q h f g = all_add (d + e) ρ n (scale m c q) (mul n p q) (all_scale d e ρ m c q h f.0 g) (all_mul d e ρ n p q h f.1 g)

all_times : (d e : ℕ) (ρ : List ℤ) (n f : ℕ) (p q : Poly) → d + e < 16 → AllFit d ρ p → AllFit e ρ q → AllFit (d + e) ρ (times n f p q)
unfolding AllFit
all_times d e ρ zero f p q h a b = all_mul d e ρ f p q h a b
all_times d e ρ (suc n) f nil q h a b = tt
all_times d e ρ (suc n) f (term m c nil) q h a b = all_scale d e ρ m c q h a.0 b
all_times d e ρ (suc n) f (term m c (term m' c' p)) q h a b =
    all_add (d + e) ρ f (times n f (term m c (evens p)) q) (times n f (term m' c' (odds p)) q)
    (all_times d e ρ n f (term m c (evens p)) q h (a.0, all_evens d ρ p a.1.1) b)
    (all_times d e ρ n f (term m' c' (odds p)) q h (a.1.0, all_odds d ρ p a.1.1) b)

all_normal : (ρ : List ℤ) (n : ℕ) (e : Ex) → degree e < 16 → AllFit (degree e) ρ (normal n e)
unfolding AllFit
all_normal ρ n (var i) h = (fits_variable ρ i, tt)
all_normal ρ n (lit c) h = all_term_unless_zero 0 ρ 0 c nil (fits_zero 0 ρ) tt
all_normal ρ n (a ⊞ b) h = all_add (max (degree a) (degree b)) ρ n (normal n a) (normal n b)
    (all_widen (degree a) (max (degree a) (degree b)) ρ (normal n a) (omega arith) (all_normal ρ n a (omega arith)))
    (all_widen (degree b) (max (degree a) (degree b)) ρ (normal n b) (omega arith) (all_normal ρ n b (omega arith)))
all_normal ρ n (a ⊟ b) h = all_add (max (degree a) (degree b)) ρ n (normal n a) (opposite (normal n b))
    (all_widen (degree a) (max (degree a) (degree b)) ρ (normal n a) (omega arith) (all_normal ρ n a (omega arith)))
    (all_opposite (max (degree a) (degree b)) ρ (normal n b) (all_widen (degree b) (max (degree a) (degree b)) ρ (normal n b) (omega arith) (all_normal ρ n b (omega arith))))
all_normal ρ n (a ⊠ b) h = all_times (degree a) (degree b) ρ 20 n (normal n a) (normal n b) h (all_normal ρ n a (omega arith)) (all_normal ρ n b (omega arith))
all_normal ρ n (neg a) h = all_opposite (degree a) ρ (normal n a) (all_normal ρ n a h)

-- ---- the soundness theorem

-- the normal form is worth the same as the expression, where no exponent can pass 15
pub sound : (ρ : List ℤ) (n : ℕ) (e : Ex) → degree e < 16 → sum ρ (normal n e) ≡ value ρ e
unfolding sum
sound ρ n (var i) h = +ℤ_idr (pos 1 *ℤ monomial ρ (variable_key i)) ∙ *ℤ-onel (monomial ρ (variable_key i)) ∙ monomial_variable ρ i
sound ρ n (lit c) h = sum_term_unless_zero ρ 0 c nil ∙ +ℤ_idr (c *ℤ monomial ρ 0) ∙ ap (λ (y : ℤ). c *ℤ y) (monomial_zero ρ) ∙ *ℤ-oner c
sound ρ n (a ⊞ b) h = sum_add ρ n (normal n a) (normal n b) ∙ ap₂ ◌+ℤ◌ (sound ρ n a (omega arith)) (sound ρ n b (omega arith))
sound ρ n (a ⊟ b) h = sum_add ρ n (normal n a) (opposite (normal n b)) ∙ ap₂ ◌+ℤ◌ (sound ρ n a (omega arith)) (sum_opposite ρ (normal n b) ∙ ap neg_ℤ (sound ρ n b (omega arith)))
sound ρ n (a ⊠ b) h = sum_times (degree a) (degree b) ρ 20 n (normal n a) (normal n b) h (all_normal ρ n a (omega arith)) (all_normal ρ n b (omega arith)) ∙ ap₂ ◌*ℤ◌ (sound ρ n a (omega arith)) (sound ρ n b (omega arith))
sound ρ n (neg a) h = sum_opposite ρ (normal n a) ∙ ap neg_ℤ (sound ρ n a h)
