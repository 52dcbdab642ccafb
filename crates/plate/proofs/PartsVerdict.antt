-- What a verdict on two parts says, and what it does not depend on: of two different parts it is yes exactly when they clash (`parts_clash`), of a part
-- against itself no (`parts_itself`), and the same whichever is named first (`parts_traded`). Assumes nothing.
use mathlib.Core.Path.{◌≡◌, refl, sym, subst, ◌∙◌}
use mathlib.Core.Bool.{Bool, true, false, cond}
use mathlib.Core.List.{List}
use mathlib.Core.Logic.{inl, inr, ⊎_elim}
use Prim.Native.Nat.{ℕ}
use native.Mathlib.Decide.{ℕ_discrete}
use native.Mathlib.Omega.{arith}
use borrow.Author.Tests.{eq-eqb, ne_eqb}
use lib.ListN.{get_or}
use Rattle.shape.specs.Verdicts.{Says}
use Rattle.shape.proofs.VerdictLaws.{says_yes, says_same, says_fixed}
use Rattle.checks.specs.Answers.{Answer, served, refused, Check, ◌then◌}
use Rattle.slots.specs.Slots.{Slot, free}
use Rattle.slots.specs.Parts.{SkinsMeet, EitherInside, PartsClash}
use Rattle.slots.proofs.Clashing.{clash_trade}
use Rattle.reasons.specs.Rules.{parts_checks, shell_checks}
use Rattle.plate.specs.Plates.{present_answer, PartsRule}

-- What is served after a check is what stands behind it.
behind : {A : Type 0} (c : Check) (a : Answer A) (v : A) → (c then a) ≡ served v → a ≡ served v
behind (served u) a v e = e
behind (refused number side place) a v e = let z : ◌≡◌ {A = ℕ} 0 1 = cc in absurd (omega arith)

one_served : {A : Type 0} (v w : A) → ◌≡◌ {A = Answer A} (served v) (served w) → v ≡ w
one_served v w e = cc

-- Two parts clash both ways alike.
clash_traded : (S : List Slot) (p q : ℕ) → PartsClash S p q → PartsClash S q p
clash_traded S p q (inl s) =
    inl (record { i = s.j; j = s.i; of_p = s.of_q; of_q = s.of_p; clash = clash_trade (get_or S s.i free) (get_or S s.j free) s.clash })
clash_traded S p q (inr (inl c)) = inr (inr c)
clash_traded S p q (inr (inr c)) = inr (inl c)

module _ (S : List Slot) (p q : ℕ) {answer : Answer Bool} (rule : PartsRule S p q answer) {v : Bool} (told : answer ≡ served v) where
  present : present_answer S p q rule.skins rule.inside ≡ served v
  present = behind (parts_checks S p q) (present_answer S p q rule.skins rule.inside) v (sym rule.told ∙ told)

  pub parts_itself : p ≡ q → v ≡ false
  parts_itself same =
      let is : present_answer S p q rule.skins rule.inside ≡ served false = rw (eq-eqb p q same) in
      sym (one_served false v (sym is ∙ present))

  pub parts_clash : (p ≡ q → ⊥) → Says v (PartsClash S p q)
  parts_clash other =
      let is : present_answer S p q rule.skins rule.inside ≡ cond rule.skins (served true) (shell_checks S p q then served rule.inside) =
      rw (ne_eqb p q other) in
      by_skins rule.skins rule.inside rule.skins_right rule.inside_right (sym is ∙ present)
    where
      by_skins : (s i : Bool) → Says s (SkinsMeet S p q) → Says i (EitherInside S p q) →
          cond s (served true) (shell_checks S p q then served i) ≡ served v → Says v (PartsClash S p q)
      by_skins true i skins inside e = subst (λ (w : Bool). Says w (PartsClash S p q)) (one_served true v e) (says_yes (inl (skins.yes refl)))
      by_skins false i skins inside e =
          subst (λ (w : Bool). Says w (PartsClash S p q)) (one_served i v (behind (shell_checks S p q) (served i) v e))
          (says_same ((λ h. inr h), ⊎_elim (λ h. absurd (skins.no refl h)) (λ h. h)) inside)

-- Wherever both questions are served they have one verdict.
pub parts_traded : {S : List Slot} {p q : ℕ} {a b : Answer Bool} {v w : Bool} → PartsRule S p q a → PartsRule S q p b → a ≡ served v → b ≡ served w → v ≡ w
parts_traded {S} {p} {q} {v} {w} x y e f = by_parts (ℕ_discrete p q)
  where
    by_parts : Dec (p ≡ q) → v ≡ w
    by_parts (yes same) = parts_itself S p q x e same ∙ sym (parts_itself S q p y f (sym same))
    by_parts (no other) =
        says_fixed (parts_clash S p q x e other)
        (says_same (clash_traded S q p, clash_traded S p q) (parts_clash S q p y f (λ same. other (sym same))))
