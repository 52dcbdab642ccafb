-- `space::meeting::without_coordinate` meets its contract: the two coordinates that are kept are those of a point of the grid. Assumes nothing.
use Rattle.space.proofs.SpaceLaws.{kept_two}
use Rattle.space.proofs.meeting.without_coordinate.Goals.{in-0, in-1, in_default}
use Rattle.space.proofs.meeting.without_coordinate.Goals as goal

pub invariant_of-result : goal.invariant_of-result
invariant_of-result c =
    let s = c.args.a.on_grid in
    record {
      on_grid = elim c.match-k.branch [
        | in-0 w ↦ kept_two 0 s (λ i. (w.result-is i).0) (λ i. (w.result-is i).1.0)
        | in-1 w ↦ kept_two 1 s (λ i. (w.result-is i).0) (λ i. (w.result-is i).1.0)
        | in_default w ↦ kept_two 2 s (λ i. (w.result-is i).0) (λ i. (w.result-is i).1.0)
      ];
    }
