-- `listing::pairs::list_found` meets its contract: the part of the buffer from the start on is lent to the pair writer where it has room. Assumes nothing.
use native.Mathlib.Omega.{arith}
use lib.ListN.{length}
use Rattle.listing.proofs.Filling.{length_free}
use Rattle.listing.proofs.Found.{length_numbers, enough_room}
use Rattle.listing.proofs.Telling.{few_told}
use Rattle.listing.proofs.pairs.list_found.Goals as goal

pub overflow_mul-found : goal.overflow_mul-found
overflow_mul-found c =
    let a = c.args in
    omega (arith, c.requires.1, c.requires.0, few_told a.words.now (length a.words.now))

pub put_pairs-requires : goal.put_pairs-requires
put_pairs-requires c =
    let a = c.args in
    let long = length_numbers a.words.now (length a.words.now) a.buffer.now a.start a.found c.requires.1 in
    (c.requires.0, omega (arith, long, length_free a.start a.buffer.now, c.if-buffer-start.false))

pub returns : goal.returns
returns c =
    let a = c.args in
    enough_room a.words.now (length a.words.now) a.buffer.now a.start a.found c.requires.1 c.if-buffer-start.false c.put_pairs.ensures
