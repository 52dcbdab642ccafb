-- A decision by tests (`cond`), read off the branch that code took; and a number by cases. Assumes nothing.
use Rattle.std.proofs.Common.{◌≡◌, ℕ, zero, suc, ◌+◌, ◌<◌, ◌≤◌, Bool, true, false, cond, not, ◌&&◌, eqb, sym, refl, ap, ◌∙◌, true≢false, arith, eq-eqb, ne_eqb}
use native.Mathlib.Decide.{ℕ_discrete}
use mir.Val.{bool_byte}

-- The machine's test r is the decision's test t: the answer is that of the branch.
pub if_taken : {A : Type 0} {r t : Bool} (x y : A) {answer : A} → r ≡ t → r ≡ true → answer ≡ x → answer ≡ cond t x y
if_taken x y e h a = a ∙ sym (ap (λ (b : Bool). cond b x y) (sym e ∙ h))

pub if_left : {A : Type 0} {r t : Bool} (x y : A) {answer : A} → r ≡ t → r ≡ false → answer ≡ y → answer ≡ cond t x y
if_left x y e h a = a ∙ sym (ap (λ (b : Bool). cond b x y) (sym e ∙ h))

-- The same where the test is of equality with a number k, and the machine compared the number r.
pub if_equal : {A : Type 0} (k : ℕ) {r t : ℕ} (x y : A) {answer : A} → r ≡ t → r ≡ k → answer ≡ x → answer ≡ cond (eqb t k) x y
if_equal k {r} x y e h = if_taken x y (ap (λ (n : ℕ). eqb n k) e) (eq-eqb r k h)

pub if_different : {A : Type 0} (k : ℕ) {r t : ℕ} (x y : A) {answer : A} → r ≡ t → (r ≡ k → ⊥) → answer ≡ y → answer ≡ cond (eqb t k) x y
if_different k {r} x y e h = if_left x y (ap (λ (n : ℕ). eqb n k) e) (ne_eqb r k h)

-- The answer is the opposite of the test.
pub opposite : {r t : Bool} → r ≡ t → not r ≡ cond t false true
opposite {t} e = ap not e ∙ turned t
  where
    turned : (t : Bool) → not t ≡ cond t false true
    turned true = refl
    turned false = refl

-- The answer is the test.
pub as_it_is : {r t : Bool} → r ≡ t → r ≡ cond t true false
as_it_is {t} e = e ∙ itself t
  where
    itself : (t : Bool) → t ≡ cond t true false
    itself true = refl
    itself false = refl

-- A test as a number.
pub bit≤ : (b : Bool) → bool_byte b ≤ 1
bit≤ true = omega arith
bit≤ false = omega arith

-- Two tests that are passed together are passed each.
pub both_true : (a b : Bool) → a && b ≡ true → (a ≡ true) × (b ≡ true)
both_true true b e = (refl, e)
both_true false b e = absurd (true≢false (sym e))

-- A number in a window of k numbers from a on: an answer for each of them.
abbrev pub Cases : Type 0 → ℕ → ℕ → ℕ → Type 0
Cases X p a zero = X
Cases X p a (suc k) = (p ≡ a → X) → Cases X p (suc a) k

answered : (X : Type 0) (p a k : ℕ) → X → Cases X p a k
answered X p a zero x = x
answered X p a (suc k) x = λ e. answered X p (suc a) k x

pub by_cases : (X : Type 0) (p a k : ℕ) → a ≤ p → p < a + k → Cases X p a k
by_cases X p a zero h l = absurd (omega arith)
by_cases X p a (suc k) h l = λ f. first f (ℕ_discrete p a) (λ n. by_cases X p (suc a) k (omega (arith, n)) (omega arith))
  where
    first : (p ≡ a → X) → Dec (p ≡ a) → ((p ≡ a → ⊥) → Cases X p (suc a) k) → Cases X p (suc a) k
    first f (yes e) rest = answered X p (suc a) k (f e)
    first f (no n) rest = rest n
