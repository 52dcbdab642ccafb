-- `door::bytes::verdict_number` meets its contract: the grid is looked at, and then the test decides. Assumes nothing.
use Rattle.std.proofs.Common.{◌≡◌, ℕ, ◌+◌, Bool, true, false, refl, sym, ◌∙◌, subst, arith}
use mir.Val.{bool_byte}
use Rattle.telling.specs.Numbers.{verdict_code}
use Rattle.door.specs.Doors.{VerdictTold}
use Rattle.door.proofs.NineNumbers.{first_off, second_off, both_ready, both_on}
use Rattle.door.proofs.bytes.verdict_number.Goals as goal
use Rattle.door.proofs.bytes.verdict_number.Goals.{then-not-all_on-via-then-not-all_on, then-not-all_on-via-else-not-all_on+then-not-all_on-2}

pub returns-then-not-all_on : goal.returns-then-not-all_on
returns-then-not-all_on c =
    let is : 101 ≡ 100 + c.number.result = omega (arith, c.number.ensures) in
    subst (λ (r : ℕ). VerdictTold c.args.first.now c.args.second.now r) is
    (elim c.then-not-all_on.branch [
      | then-not-all_on-via-then-not-all_on w ↦ first_off _ _ c.requires.0 c.requires.1 (sym c.all_on.ensures ∙ w.if-not-all_on.true)
      | then-not-all_on-via-else-not-all_on+then-not-all_on-2 w ↦
          second_off _ _ c.requires.0 c.requires.1 (sym c.all_on.ensures ∙ w.if-not-all_on.false) (sym w.all_on-else-not-all_on.ensures ∙ w.if-not-all_on-2.true)
    ])

pub triangles_meet-requires : goal.triangles_meet-requires
triangles_meet-requires c = both_ready _ _ c.requires.0 c.requires.1 (sym c.if-not-all_on.ensures) (sym c.if-not-all_on-2.ensures)

-- A verdict as a number.
coded : (v : Bool) → verdict_code v ≡ bool_byte v
coded true = refl
coded false = refl

pub returns : goal.returns
returns c =
    subst (λ (r : ℕ). VerdictTold c.args.first.now c.args.second.now r) (coded c.triangles_meet.result ∙ sym c.from.ensures)
    (both_on _ _ c.requires.0 c.requires.1 (sym c.if-not-all_on.ensures) (sym c.if-not-all_on-2.ensures) _ c.triangles_meet.ensures)
