-- Inequalities and equations from a certificate: the goal's gap, times a positive factor, is a sum of products of the
-- hypotheses' gaps, of squares and of natural numbers. The prover only checks that identity, by `ring` (Solver.antt).
--
-- Hypotheses and goal are written over expressions (Expression.antt): `a ≦ b` is a ≤ b, `a ≺ b` is a < b, `a ≐ b` is a = b. The gap
-- of each is b − a. A certificate `Cert` is built of
--   hyp i    the gap of hypothesis i, counted from 0: not negative for ≦, positive for ≺, zero for ≐
--   eqn i e  the gap of equation i, which is zero, times any expression e, of any sign
--   sqr e    the square of the expression e: not negative
--   num n    the natural number n: positive unless n is 0
--   c ⊕ d    the sum, positive where one side is
--   c ⊗ d    the product, positive where both sides are
--
-- For the goal of a and b, a factor s and a certificate c with the identity s · (b − a) = c:
--   prove≤ ρ hypotheses a b s c tt tt refl     a ≤ b. The first tt: s is positive
--   prove< ρ hypotheses a b s c tt tt refl     a < b. The first tt: c is positive (s may be any certificate)
--   prove≡ ρ hypotheses a b s c tt tt tt refl  a = b. The first tt: s is positive, the second: c is zero
--   prove⊥ ρ hypotheses c tt tt refl           the hypotheses cannot all hold: c is positive, and the identity is c = 0
-- Here ρ lists what var 0, var 1, .. stand for, the last tt says that the degree is below 16, and refl is the identity. The
-- result is a function of the hypotheses' proofs, in their order. Where nothing has to be divided out, s is `num 1`.
--
-- Example (`cancel-factor-≤` of Examples.antt): with 0 < c and c · a ≤ c · b also a ≤ b, as c · (b − a) is the gap of the second.
--
--   cancel-factor-≤ : (a b c : ℤ) → pos 0 <ℤ c → (c *ℤ a) ≤ℤ (c *ℤ b) → a ≤ℤ b
--   cancel-factor-≤ a b c = prove≤ (a ∷ b ∷ c ∷ []) ((lit (pos 0) ≺ var 2) ∷ (var 2 ⊠ var 0 ≦ var 2 ⊠ var 1) ∷ [])
--       (var 0) (var 1) (hyp 0) (hyp 1) tt tt refl
--
-- Pitfalls:
--   `◌≤ℤ◌` and `◌<ℤ◌` bind tighter than `◌+ℤ◌` and `◌*ℤ◌`: write `(a +ℤ b) ≤ℤ c`.
--   So does `◌∷◌`: a term that is no variable stands in ρ in parentheses, as `(a *ℤ b) ∷ c ∷ []`.
--   A wrong certificate shows in the refusal of `refl`: it names the monomials of s · (b − a) − c that are left over, against
--   `nil`. `term 17 (negsuc 0) nil` is −1 · var 0 · var 1: the digits of 17 in base 16, from the last, are the exponents of
--   var 0, var 1, .., and negsuc 0 is −1 (negsuc n is −(n + 1)). So the certificate c has one var 0 · var 1 too many.
--   A refusal of `tt` is about a sign (a factor s or a certificate c that is not seen to be positive, or zero), not about the
--   identity: `sqr e` is never seen as positive, and `hyp i` only where hypothesis i has ≺.
use mathlib.Core.Path.{◌≡◌, refl, sym, ◌∙◌, ap, ap₂, subst}
use mathlib.Core.Bool.{Bool, true, false, ◌&&◌, ◌||◌}
use mathlib.Core.List.{List, [], ◌∷◌}
use Prim.Native.Nat.{ℕ, zero, suc}
use native.Mathlib.Omega.{arith}
use lib.Dec.{T}
use lib.IntN.{ℤ, pos, negsuc, ◌+ℤ◌, ◌-ℤ◌, ◌*ℤ◌, +ℤ_invr, zero-*ℤ, *ℤ-zero}
use lib.Signed.{◌≤ℤ◌, ◌<ℤ◌, ≤ℤ_refl, <ℤ_irrefl}
use Rattle.algebra.proofs.Order.{ThreeWay, minus, none, plus, three_way, eq_of_sub, zero_of_mul, sub_nonneg, le_of_sub, sub_pos, lt_of_sub, weak, 0≤-pos, 0<-pos, 0≤-add, 0<-addl, 0<-addr, 0≤-mul, 0<-mul, 0≤-sq, 0≤-div, 0<-div}
use Rattle.algebra.proofs.Expression.{Ex, var, lit, ◌⊞◌, ◌⊟◌, ◌⊠◌, value}
use Rattle.algebra.proofs.Solver.{ring, low_degree, Same}

-- ---- hypotheses

-- a relation between two expressions
infix 5 ◌≦◌ ◌≺◌ ◌≐◌
pub data Rel : Type 0 where
  ◌≦◌ : Ex → Ex → Rel
  ◌≺◌ : Ex → Ex → Rel
  ◌≐◌ : Ex → Ex → Rel

-- what it says of the numbers
abbrev pub Means : List ℤ → Rel → Type 0
Means ρ (a ≦ b) = value ρ a ≤ℤ value ρ b
Means ρ (a ≺ b) = value ρ a <ℤ value ρ b
Means ρ (a ≐ b) = value ρ a ≡ value ρ b

-- all of a list of relations hold
abbrev pub Holds : List ℤ → List Rel → Type 0
Holds ρ [] = Unit {0}
Holds ρ (h ∷ hs) = Means ρ h × Holds ρ hs

-- the goal G as a function of their proofs
abbrev pub Imp : List ℤ → List Rel → Type 0 → Type 0
Imp ρ [] G = G
Imp ρ (h ∷ hs) G = Means ρ h → Imp ρ hs G

curry : (ρ : List ℤ) (hs : List Rel) (G : Type 0) → (Holds ρ hs → G) → Imp ρ hs G
curry ρ [] G f = f tt
curry ρ (h ∷ hs) G f = λ p. curry ρ hs G (λ ps. f (p, ps))

-- relation i of a list
abbrev pub nth_rel : List Rel → ℕ → Rel
nth_rel [] i = lit (pos 0) ≐ lit (pos 0)
nth_rel (h ∷ hs) zero = h
nth_rel (h ∷ hs) (suc i) = nth_rel hs i

nth_holds : (ρ : List ℤ) (hs : List Rel) (i : ℕ) → Holds ρ hs → Means ρ (nth_rel hs i)
nth_holds ρ [] i p = refl
nth_holds ρ (h ∷ hs) zero p = p.0
nth_holds ρ (h ∷ hs) (suc i) p = nth_holds ρ hs i p.1

-- ---- certificates

-- a sum of products, which is not negative: the header has the legend
infixl 6 ◌⊕◌
infixl 7 ◌⊗◌
pub data Cert : Type 0 where
  hyp : ℕ → Cert
  eqn : ℕ → Ex → Cert
  sqr : Ex → Cert
  num : ℕ → Cert
  ◌⊕◌ : Cert → Cert → Cert
  ◌⊗◌ : Cert → Cert → Cert

-- the right side minus the left one
abbrev pub gap : Rel → Ex
gap (a ≦ b) = b ⊟ a
gap (a ≺ b) = b ⊟ a
gap (a ≐ b) = b ⊟ a

-- an equation's gap, which is zero, times a factor; zero where it is no equation
abbrev pub slack : Rel → Ex → Ex
slack (a ≦ b) e = lit (pos 0)
slack (a ≺ b) e = lit (pos 0)
slack (a ≐ b) e = (b ⊟ a) ⊠ e

-- the gap is positive
abbrev pub is_strict : Rel → Bool
is_strict (a ≦ b) = false
is_strict (a ≺ b) = true
is_strict (a ≐ b) = false

-- a certificate as an expression
abbrev pub sum_of : List Rel → Cert → Ex
sum_of hs (hyp i) = gap (nth_rel hs i)
sum_of hs (eqn i e) = slack (nth_rel hs i) e
sum_of hs (sqr e) = e ⊠ e
sum_of hs (num n) = lit (pos n)
sum_of hs (a ⊕ b) = sum_of hs a ⊞ sum_of hs b
sum_of hs (a ⊗ b) = sum_of hs a ⊠ sum_of hs b

-- a certificate that is seen to be positive
abbrev pub strict : List Rel → Cert → Bool
strict hs (hyp i) = is_strict (nth_rel hs i)
strict hs (eqn i e) = false
strict hs (sqr e) = false
strict hs (num zero) = false
strict hs (num (suc n)) = true
strict hs (a ⊕ b) = strict hs a || strict hs b
strict hs (a ⊗ b) = strict hs a && strict hs b

eq_gap : (x y : ℤ) → x ≡ y → y -ℤ x ≡ pos 0
eq_gap x y e = ap (λ (z : ℤ). y -ℤ z) e ∙ +ℤ_invr y

gap_nonneg : (ρ : List ℤ) (r : Rel) → Means ρ r → pos 0 ≤ℤ value ρ (gap r)
gap_nonneg ρ (a ≦ b) p = sub_nonneg p
gap_nonneg ρ (a ≺ b) p = weak (sub_pos p)
gap_nonneg ρ (a ≐ b) p = subst (λ (z : ℤ). pos 0 ≤ℤ z) (sym (eq_gap (value ρ a) (value ρ b) p)) (≤ℤ_refl (pos 0))

gap_pos : (ρ : List ℤ) (r : Rel) → Means ρ r → T (is_strict r) → pos 0 <ℤ value ρ (gap r)
gap_pos ρ (a ≦ b) p t = absurd t
gap_pos ρ (a ≺ b) p t = sub_pos p
gap_pos ρ (a ≐ b) p t = absurd t

slack_zero : (ρ : List ℤ) (r : Rel) (e : Ex) → Means ρ r → value ρ (slack r e) ≡ pos 0
slack_zero ρ (a ≦ b) e p = refl
slack_zero ρ (a ≺ b) e p = refl
slack_zero ρ (a ≐ b) e p = ap (λ (z : ℤ). z *ℤ value ρ e) (eq_gap (value ρ a) (value ρ b) p) ∙ zero-*ℤ (value ρ e)

slack_nonneg : (ρ : List ℤ) (r : Rel) (e : Ex) → Means ρ r → pos 0 ≤ℤ value ρ (slack r e)
slack_nonneg ρ r e p = subst (λ (z : ℤ). pos 0 ≤ℤ z) (sym (slack_zero ρ r e p)) (≤ℤ_refl (pos 0))

nonneg : (ρ : List ℤ) (hs : List Rel) (c : Cert) → Holds ρ hs → pos 0 ≤ℤ value ρ (sum_of hs c)
nonneg ρ hs (hyp i) p = gap_nonneg ρ (nth_rel hs i) (nth_holds ρ hs i p)
nonneg ρ hs (eqn i e) p = slack_nonneg ρ (nth_rel hs i) e (nth_holds ρ hs i p)
nonneg ρ hs (sqr e) p = 0≤-sq (value ρ e)
nonneg ρ hs (num n) p = 0≤-pos n
nonneg ρ hs (a ⊕ b) p = 0≤-add (nonneg ρ hs a p) (nonneg ρ hs b p)
nonneg ρ hs (a ⊗ b) p = 0≤-mul (nonneg ρ hs a p) (nonneg ρ hs b p)

or_positive : (s t : Bool) (x y : ℤ) → pos 0 ≤ℤ x → pos 0 ≤ℤ y → (T s → pos 0 <ℤ x) → (T t → pos 0 <ℤ y) → T (s || t) → pos 0 <ℤ (x +ℤ y)
or_positive true t x y h g f e u = 0<-addl (f tt) g
or_positive false t x y h g f e u = 0<-addr h (e u)

and_positive : (s t : Bool) (x y : ℤ) → (T s → pos 0 <ℤ x) → (T t → pos 0 <ℤ y) → T (s && t) → pos 0 <ℤ (x *ℤ y)
and_positive true t x y f e u = 0<-mul (f tt) (e u)
and_positive false t x y f e u = absurd u

positive : (ρ : List ℤ) (hs : List Rel) (c : Cert) → Holds ρ hs → T (strict hs c) → pos 0 <ℤ value ρ (sum_of hs c)
positive ρ hs (hyp i) p t = gap_pos ρ (nth_rel hs i) (nth_holds ρ hs i p) t
positive ρ hs (eqn i e) p t = absurd t
positive ρ hs (sqr e) p t = absurd t
positive ρ hs (num zero) p t = absurd t
positive ρ hs (num (suc n)) p t = 0<-pos (suc n) (omega arith)
positive ρ hs (a ⊕ b) p t =
    or_positive (strict hs a) (strict hs b) (value ρ (sum_of hs a)) (value ρ (sum_of hs b))
    (nonneg ρ hs a p) (nonneg ρ hs b p) (positive ρ hs a p) (positive ρ hs b p) t
positive ρ hs (a ⊗ b) p t = and_positive (strict hs a) (strict hs b) (value ρ (sum_of hs a)) (value ρ (sum_of hs b)) (positive ρ hs a p) (positive ρ hs b p) t

-- ---- inequalities

-- a ≤ b, where s · (b − a) = c, s is positive and c is not negative
pub prove≤ : (ρ : List ℤ) (hs : List Rel) (a b : Ex) (s c : Cert) → T (strict hs s) →
    T (low_degree (sum_of hs s ⊠ (b ⊟ a)) (sum_of hs c)) → Same (sum_of hs s ⊠ (b ⊟ a)) (sum_of hs c) →
    Imp ρ hs (value ρ a ≤ℤ value ρ b)
prove≤ ρ hs a b s c t l e =
    curry ρ hs (value ρ a ≤ℤ value ρ b)
    (λ p. le_of_sub (0≤-div (positive ρ hs s p t)
    (subst (λ (z : ℤ). pos 0 ≤ℤ z) (sym (ring ρ (sum_of hs s ⊠ (b ⊟ a)) (sum_of hs c) l e)) (nonneg ρ hs c p))))

-- a < b, where s · (b − a) = c, s is not negative and c is positive
pub prove< : (ρ : List ℤ) (hs : List Rel) (a b : Ex) (s c : Cert) → T (strict hs c) →
    T (low_degree (sum_of hs s ⊠ (b ⊟ a)) (sum_of hs c)) → Same (sum_of hs s ⊠ (b ⊟ a)) (sum_of hs c) →
    Imp ρ hs (value ρ a <ℤ value ρ b)
prove< ρ hs a b s c t l e =
    curry ρ hs (value ρ a <ℤ value ρ b)
    (λ p. lt_of_sub (0<-div (nonneg ρ hs s p)
    (subst (λ (z : ℤ). pos 0 <ℤ z) (sym (ring ρ (sum_of hs s ⊠ (b ⊟ a)) (sum_of hs c) l e)) (positive ρ hs c p t))))

-- the hypotheses cannot all hold: a positive certificate is zero
pub prove⊥ : (ρ : List ℤ) (hs : List Rel) (c : Cert) → T (strict hs c) → T (low_degree (sum_of hs c) (lit (pos 0))) → Same (sum_of hs c) (lit (pos 0)) → Imp ρ hs ⊥
prove⊥ ρ hs c t l e = curry ρ hs ⊥ (λ p. <ℤ_irrefl (subst (λ (z : ℤ). pos 0 <ℤ z) (ring ρ (sum_of hs c) (lit (pos 0)) l e) (positive ρ hs c p t)))

-- ---- equations

-- the relation is an equation
abbrev pub is_eqn : Rel → Bool
is_eqn (a ≦ b) = false
is_eqn (a ≺ b) = false
is_eqn (a ≐ b) = true

-- a certificate that is seen to be zero
abbrev pub is_zero : List Rel → Cert → Bool
is_zero hs (hyp i) = is_eqn (nth_rel hs i)
is_zero hs (eqn i e) = true
is_zero hs (sqr e) = false
is_zero hs (num zero) = true
is_zero hs (num (suc n)) = false
is_zero hs (a ⊕ b) = is_zero hs a && is_zero hs b
is_zero hs (a ⊗ b) = is_zero hs a || is_zero hs b

gap_zero : (ρ : List ℤ) (r : Rel) → Means ρ r → T (is_eqn r) → value ρ (gap r) ≡ pos 0
gap_zero ρ (a ≦ b) p t = absurd t
gap_zero ρ (a ≺ b) p t = absurd t
gap_zero ρ (a ≐ b) p t = eq_gap (value ρ a) (value ρ b) p

and_zero : (s t : Bool) (x y : ℤ) → (T s → x ≡ pos 0) → (T t → y ≡ pos 0) → T (s && t) → x +ℤ y ≡ pos 0
and_zero true t x y f g u = ap₂ ◌+ℤ◌ (f tt) (g u)
and_zero false t x y f g u = absurd u

or_zero : (s t : Bool) (x y : ℤ) → (T s → x ≡ pos 0) → (T t → y ≡ pos 0) → T (s || t) → x *ℤ y ≡ pos 0
or_zero true t x y f g u = ap (λ (z : ℤ). z *ℤ y) (f tt) ∙ zero-*ℤ y
or_zero false t x y f g u = ap (λ (z : ℤ). x *ℤ z) (g u) ∙ *ℤ-zero x

is_zero_law : (ρ : List ℤ) (hs : List Rel) (c : Cert) → Holds ρ hs → T (is_zero hs c) → value ρ (sum_of hs c) ≡ pos 0
is_zero_law ρ hs (hyp i) p t = gap_zero ρ (nth_rel hs i) (nth_holds ρ hs i p) t
is_zero_law ρ hs (eqn i e) p t = slack_zero ρ (nth_rel hs i) e (nth_holds ρ hs i p)
is_zero_law ρ hs (sqr e) p t = absurd t
is_zero_law ρ hs (num zero) p t = refl
is_zero_law ρ hs (num (suc n)) p t = absurd t
is_zero_law ρ hs (a ⊕ b) p t = and_zero (is_zero hs a) (is_zero hs b) (value ρ (sum_of hs a)) (value ρ (sum_of hs b)) (is_zero_law ρ hs a p) (is_zero_law ρ hs b p) t
is_zero_law ρ hs (a ⊗ b) p t = or_zero (is_zero hs a) (is_zero hs b) (value ρ (sum_of hs a)) (value ρ (sum_of hs b)) (is_zero_law ρ hs a p) (is_zero_law ρ hs b p) t

-- a = b, where s · (b − a) = c, s is positive and c is zero
pub prove≡ : (ρ : List ℤ) (hs : List Rel) (a b : Ex) (s c : Cert) → T (strict hs s) → T (is_zero hs c) →
    T (low_degree (sum_of hs s ⊠ (b ⊟ a)) (sum_of hs c)) → Same (sum_of hs s ⊠ (b ⊟ a)) (sum_of hs c) →
    Imp ρ hs (value ρ a ≡ value ρ b)
prove≡ ρ hs a b s c t z l e =
    curry ρ hs (value ρ a ≡ value ρ b)
    (λ p. eq_of_sub (value ρ a) (value ρ b)
    (zero_of_mul (value ρ (sum_of hs s)) (value ρ b -ℤ value ρ a) (positive ρ hs s p t)
    (ring ρ (sum_of hs s ⊠ (b ⊟ a)) (sum_of hs c) l e ∙ is_zero_law ρ hs c p z)))

-- ---- an equation divided by a factor of either sign: where the factor is not zero, it can be taken out
pub factor_out : (c x y : ℤ) → (c ≡ pos 0 → ⊥) → c *ℤ x ≡ c *ℤ y → x ≡ y
factor_out c x y not-zero = by_sign (three_way c)
  where
    by_sign : ThreeWay c → c *ℤ x ≡ c *ℤ y → x ≡ y
    by_sign (minus h) =
        prove≡ (c ∷ x ∷ y ∷ []) ((var 0 ≺ lit (pos 0)) ∷ (var 0 ⊠ var 1 ≐ var 0 ⊠ var 2) ∷ []) (var 1) (var 2) (hyp 0) (eqn 1 (lit (negsuc 0))) tt tt tt refl h
    by_sign (none e) = absurd (not-zero e)
    by_sign (plus h) =
        prove≡ (c ∷ x ∷ y ∷ []) ((lit (pos 0) ≺ var 0) ∷ (var 0 ⊠ var 1 ≐ var 0 ⊠ var 2) ∷ []) (var 1) (var 2) (hyp 0) (eqn 1 (lit (pos 1))) tt tt tt refl h
