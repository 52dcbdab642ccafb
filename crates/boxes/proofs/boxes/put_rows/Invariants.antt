-- `boxes::boxes::put_rows` meets its contract: the rows before i are written, and the next leaves them. Assumes nothing.
use Rattle.std.proofs.Common.{◌≡◌}
use Rattle.std.specs.Iterator.Adapters.{enumerate_source, enumerate_count}
use Rattle.std.specs.Slice.Iter.{chunks_exact_rest, chunks_exact_size}
use Rattle.boxes.proofs.Rows.{Left, Written}
use Rattle.boxes.proofs.boxes.put_rows.Given as goal

abbrev pub invariant-loop-i : goal.invariant-loop-i
invariant-loop-i g l =
    (goal.iterator-loop-i g).can_next l.i-iterator × (goal.iterator-loop-i g).is_finite l.i-iterator
    × (chunks_exact_size (enumerate_source l.i-iterator) ≡ 9)
    × Left l.numbers (chunks_exact_rest (enumerate_source l.i-iterator)) (enumerate_count l.i-iterator)
    × Written (goal.F-post g l.put) l.width l.numbers l.initial.rows l.rows (enumerate_count l.i-iterator)
