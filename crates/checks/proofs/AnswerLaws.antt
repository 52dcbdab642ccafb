-- Laws of answers: what they tell, and the checks that stand before them (specs/Answers.antt, specs/Told.antt). Assumes nothing.
use mathlib.Core.Path.{◌≡◌, refl, sym, ap, ◌∙◌}
use mathlib.Core.Bool.{Bool}
use Prim.Native.Nat.{ℕ}
use Rattle.std.specs.Prelude.{Result, Ok, Err}
use native.Mathlib.Omega.{arith}
use Rattle.shape.specs.Verdicts.{Says}
use Rattle.shape.proofs.VerdictLaws.{says_fixed}
use Rattle.checks.specs.Answers.{Answer, served, refused, Check, fine, ◌then◌, with_served}
use Rattle.checks.specs.Told.{told_refusal, told_check}
use Rattle.checks.specs.declared.answer.Refusal.{Refusal}

-- Served and refused are never the same.
pub served_apart : {A : Type 0} (a : A) (number side place : ℕ) → ◌≡◌ {A = Answer A} (served a) (refused number side place) → ⊥
served_apart a number side place e = let z : ◌≡◌ {A = ℕ} 0 1 = cc in omega arith

pub served_not_refused : {A : Type 0} (a : A) (why : Refusal) → ◌≡◌ {A = Answer A} (served a) (told_refusal why) → ⊥
served_not_refused a why e = served_apart a _ _ _ e

-- A check is never both fine and refused.
pub never_fine : {c : Check} {number side place : ℕ} → c ≡ fine → c ≡ refused number side place → ⊥
never_fine {number} {side} {place} e f = served_apart tt number side place (sym e ∙ f)

-- What follows two checks taken together follows them one by one.
pub then_assoc : {A : Type 0} (x y : Check) (a : Answer A) → ((x then y) then a) ≡ (x then (y then a))
then_assoc (served u) y a = refl
then_assoc (refused n s p) y a = refl

-- The checks before it do not touch what becomes of the served value.
pub served_later : {A B : Type 0} (f : A → B) (c : Check) (a : Answer A) → with_served f (c then a) ≡ (c then with_served f a)
served_later f (served u) a = refl
served_later f (refused n s p) a = refl

-- A check, and then what is served: where that is served, the check was fine.
pub then_served : {A : Type 0} (c : Check) (a b : A) → served b ≡ (c then served a) → (c ≡ fine) × (b ≡ a)
then_served (served u) a b e = (refl, cc)
then_served (refused number side place) a b e = let z : ◌≡◌ {A = ℕ} 0 1 = cc in absurd (omega arith)

-- A check, and then a verdict: it is the same for every verdict that is right where the check is fine.
pub one_verdict : {v w : Bool} {Claim : Type 0} (c : Check) → (c ≡ fine → Says v Claim) → (c ≡ fine → Says w Claim) →
    (c then served v) ≡ (c then served w)
one_verdict (served u) f g = ap served (says_fixed (f refl) (g refl))
one_verdict (refused number side place) f g = refl

-- A check x, as code found it, and then y: what it refuses is refused, and where it is fine y answers.
pub stopped : {A : Type 0} {found : Result (Unit {0}) Refusal} {x : Check} (y : Answer A) (why : Refusal) → told_check found ≡ x → found ≡ Err why →
    told_refusal why ≡ (x then y)
stopped y why e f = sym (ap (λ (z : Check). z then y) (sym e ∙ ap told_check f))

pub passed_on : {A : Type 0} {found : Result (Unit {0}) Refusal} {x : Check} (y : Answer A) {a : Answer A} → told_check found ≡ x → found ≡ Ok tt → a ≡ y → a ≡ (x then y)
passed_on y e f g = g ∙ sym (ap (λ (z : Check). z then y) (sym e ∙ ap told_check f))

-- Two checks are fine together where each is.
pub then_fine : (x y : Check) → (x then y) ≡ fine → (x ≡ fine) × (y ≡ fine)
then_fine (served u) y e = (refl, e)
then_fine (refused number side place) y e = let z : ◌≡◌ {A = ℕ} 0 1 = cc in absurd (omega arith)

-- Nothing after a check leaves it as it is.
pub then_nothing : (c : Check) → (c then fine) ≡ c
then_nothing (served u) = refl
then_nothing (refused number side place) = refl
