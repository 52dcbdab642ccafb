-- `slots::flat::Slots::write` meets its contract: the nine numbers stand in their place, and the mark in its. Assumes nothing.
use Rattle.std.proofs.Common.{◌+◌, ◌-◌, ◌*◌, ◌∙◌, arith}
use Rattle.slots.proofs.Arrays.{coords_written, write_shown}
use Rattle.slots.proofs.flat.Slots.write.Goals as goal

pub returns : goal.returns
returns c = λ S x h fit mark numbers.
    let i = c.args.i in
    write_shown h i x fit mark (coords_written h i x (9 * i + 9 - 9 * i) c.requires.0 (omega arith) (c.copy_from_slice.ensures.after ∙ numbers))
