-- `lines::writing::put_line` meets its contract: four texts, one after the other. Assumes nothing.
use Prim.Native.Nat.{◌≤◌}
use native.Mathlib.Omega.{arith}
use lib.ListN.{length}
use Rattle.lines.proofs.LineLaws.{Put, put_more, line_put}
use Rattle.lines.proofs.writing.put_line.Goals as goal

-- The texts stand one after the other: first, second and third are those so far.
pub returns : goal.returns
returns c =
    let inside : c.args.at ≤ length c.args.out.now = omega arith in
    let first : Put c.args.out.now c.args.at _ c.put_number-a.result c.put_number-a.new.out =
    record { place = c.put_number-a.ensures.0; is = c.put_number-a.ensures.1 } in
    let second = put_more inside first (record { place = c.put-b.ensures.0; is = c.put-b.ensures.1 }) in
    let third = put_more inside second (record { place = c.put_number-c.ensures.0; is = c.put_number-c.ensures.1 }) in
    let all = line_put c.args.number c.args.count (put_more inside third (record { place = c.put.ensures.0; is = c.put.ensures.1 })) in
    (all.place, all.is)
