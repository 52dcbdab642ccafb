-- `door::listings::zg_list` meets its contract: it writes the numbers of what the listing tells, which is the right answer. Assumes nothing.
use Rattle.std.proofs.Common.{◌≡◌, ℕ, List, length, refl, ap, ◌∙◌, subst, arith, Result, Ok, Err}
use borrow.Author.Tests.{lt-ltb, le-ltb}
use Rattle.checks.specs.declared.answer.Refusal.{Refusal}
use Rattle.listing.specs.Told.{told_list}
use Rattle.telling.specs.Numbers.{told_by, four_numbers}
use Rattle.telling.specs.Buffer.{Written}
use Rattle.door.specs.Doors.{undone, done}
use Rattle.door.proofs.listings.zg_list.Goals as goal

-- The count of the pairs is its own number.
list_coded : (told : Result ℕ Refusal) → told_by (λ n. n) told ≡ told_list told
list_coded (Ok pairs) = refl
list_coded (Err why) = refl

pub returns-then-answer-lt4 : goal.returns-then-answer-lt4
returns-then-answer-lt4 c = undone (lt-ltb (length c.args.answer.now) 4 (omega arith))

pub returns : goal.returns
returns c =
    let before = c.args.answer.now in
    done (told_list c.list_pairs.result) (le-ltb (length before) 4 (omega arith)) c.list_pairs.ensures
    (subst (λ (numbers : List ℕ). Written numbers before c.put.result c.put.new.answer)
    (c.numbers_of.ensures ∙ ap four_numbers (list_coded c.list_pairs.result)) c.put.ensures)
