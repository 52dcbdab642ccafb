-- Laws of what a verdict says (specs/Verdicts.antt). Assumes nothing.
use mathlib.Core.Path.{◌≡◌, refl, sym, subst, ◌∙◌}
use mathlib.Core.Bool.{Bool, true, false, not, cond}
use mathlib.Core.Logic.{◌⊎◌, inl, inr, ⊎_elim, ◌↔◌}
use lib.Dec.{T}
use lib.IntN.{ℤ, pos}
use lib.Signed.{◌≤ℤ◌, ◌<ℤ◌, lt_z, lt_z_yes, lt_z_no}
use Rattle.shape.specs.Verdicts.{Says}

true_is_not_false : true ≡ false → ⊥
true_is_not_false e = subst T e tt

-- The claim is shown, or shown not to hold.
pub says_yes : {Claim : Type 0} → Claim → Says true Claim
says_yes claim = record { yes = λ e. claim; no = λ e. absurd (true_is_not_false e) }

pub says_no : {Claim : Type 0} → (Claim → ⊥) → Says false Claim
says_no never = record { yes = λ e. absurd (true_is_not_false (sym e)); no = λ e. never }

-- A test says whether it is passed.
pub says_itself : (v : Bool) → Says v (v ≡ true)
says_itself v = record { yes = λ e. e; no = λ e f. true_is_not_false (sym f ∙ e) }

-- A decision by a sign: what is right below zero, and what is right elsewhere.
pub says_by_sign : {Claim : Type 0} {v w : Bool} (z : ℤ) → (z <ℤ pos 0 → Says v Claim) → (pos 0 ≤ℤ z → Says w Claim) →
    Says (cond (lt_z z (pos 0)) v w) Claim
says_by_sign {Claim} {v} {w} z below above = by_test (lt_z z (pos 0)) refl
  where
    by_test : (t : Bool) → lt_z z (pos 0) ≡ t → Says (cond t v w) Claim
    by_test true e = below (lt_z_yes (subst T (sym e) tt))
    by_test false e = above (lt_z_no (subst (λ (t : Bool). T (not t)) (sym e) tt))

-- A comparison says whether the one number is below the other.
pub says_less : (x y : ℤ) → Says (lt_z x y) (x <ℤ y)
says_less x y = record { yes = λ e. lt_z_yes (subst T (sym e) tt); no = λ e h. subst T e h.lt }

-- Two verdicts, asked one after the other: whether both claims hold, whether one does, and whether neither does.
pub says_both : {v w : Bool} {A B : Type 0} → Says v A → Says w B → Says (cond v w false) (A × B)
says_both {v = true} {w = true} s t = says_yes (s.yes refl, t.yes refl)
says_both {v = true} {w = false} s t = says_no (λ h. t.no refl h.1)
says_both {v = false} s t = says_no (λ h. s.no refl h.0)

pub says_either : {v w : Bool} {A B : Type 0} → Says v A → Says w B → Says (cond v true w) (A ⊎ B)
says_either {v = true} s t = says_yes (inl (s.yes refl))
says_either {v = false} {w = true} s t = says_yes (inr (t.yes refl))
says_either {v = false} {w = false} s t = says_no (⊎_elim (s.no refl) (t.no refl))

pub says_neither : {v w : Bool} {A B : Type 0} → Says v A → Says w B → Says (cond v false (not w)) ((A → ⊥) × (B → ⊥))
says_neither {v = true} s t = says_no (λ h. h.0 (s.yes refl))
says_neither {v = false} {w = true} s t = says_no (λ h. h.1 (t.yes refl))
says_neither {v = false} {w = false} s t = says_yes (s.no refl, t.no refl)

-- A decision by a verdict: what is right where its claim holds, and what is right elsewhere.
pub says_by : {f v w : Bool} {Case Claim : Type 0} → Says f Case → (Case → Says v Claim) → ((Case → ⊥) → Says w Claim) → Says (cond f v w) Claim
says_by {f = true} s there elsewhere = there (s.yes refl)
says_by {f = false} s there elsewhere = elsewhere (s.no refl)

-- The same verdict on claims that hold together.
pub says_same : {v : Bool} {Claim Other : Type 0} → Claim ↔ Other → Says v Claim → Says v Other
says_same same s = record { yes = λ e. same.0 (s.yes e); no = λ e other. s.no e (same.1 other) }

-- Two verdicts on one claim are the same.
pub says_fixed : {v w : Bool} {Claim : Type 0} → Says v Claim → Says w Claim → v ≡ w
says_fixed {v = true} {w = true} s t = refl
says_fixed {v = true} {w = false} s t = absurd (t.no refl (s.yes refl))
says_fixed {v = false} {w = true} s t = absurd (s.no refl (t.yes refl))
says_fixed {v = false} {w = false} s t = refl
