-- What the checks of a call find, by its outcome. Assumes nothing.
use mathlib.Core.Path.{◌≡◌, refl, sym, ap, ◌∙◌}
use Prim.Native.Nat.{ℕ}
use Rattle.checks.specs.Answers.{served, refused, Check, ◌then◌, number_of}
use Rattle.slots.specs.Changes.{Change}
use Rattle.reasons.specs.Findings.{undo_found}
use Rattle.reasons.specs.Rules.{change_checks}
use Rattle.plate.specs.Histories.{History, slots_of, change, undo, outcome}
use Rattle.plate.proofs.Outcomes.{change_outcome, undo_outcome}

-- What the checks find has the number of the outcome.
number_then : {A : Type 0} (c : Check) (a : A) → number_of (c then served a) ≡ number_of c
number_then (served u) a = refl
number_then (refused number side place) a = refl

module _ (h : History) {found : Check} where
  pub change_number : (c : Change) → found ≡ change_checks (slots_of h) c → number_of found ≡ number_of (outcome h (change c))
  change_number c e = sym (ap number_of (change_outcome h c (sym e)) ∙ number_then found _)

  pub undo_number : {reach : ℕ} → found ≡ undo_found reach → reach ≡ h.reach → number_of found ≡ number_of (outcome h undo)
  undo_number e r = sym (ap number_of (undo_outcome h (sym (e ∙ ap undo_found r))) ∙ number_then found _)
