-- `keeping::plates::slid` meets its contract: the part and its steps are noted, and then the part is moved forth. Assumes nothing.
use Rattle.std.proofs.Common.{ℕ, suc, min, List, ◌∷◌, take, ℤ, ap, subst}
use Rattle.moving.proofs.MoveLaws.{steps_forth}
use Rattle.keeping.specs.Steps.{Shows, Nudged}
use Rattle.keeping.specs.declared.journal.Entry.{Entry}
use Rattle.keeping.specs.declared.journal.Entry.TheVariants.{Shift}
use Rattle.keeping.proofs.plates.slid.Goals as goal

pub returns : goal.returns
returns c = record {
  is = λ {S} {j} {k} q h mark fit.
      let a = c.args in
      let noted = c.noted in
      let moved : Nudged noted.result a.mark a.by c.nudged.result =
      subst (λ (by : List ℤ). Nudged noted.result a.mark by c.nudged.result) (steps_forth a.by) c.nudged.ensures in
      let before = subst (λ (e : Entry). Shows S (e ∷ take 31 j) (min 32 (suc k)) noted.result) (ap (λ (n : ℕ). Shift n a.by) mark) (noted.ensures.is h) in
      moved.is q before mark fit;
}
