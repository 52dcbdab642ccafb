-- `boxes::boxes::put_box` meets its contract: at the coordinates before c the least and the greatest stand. Assumes nothing.
use mathlib.Core.Path.{◌≡◌, refl}
use native.Mathlib.Omega.{arith}
use borrow.Author.Rules.{rules}
use borrow.Author.Differences.{ints}
use lib.IntN.{ℤ}
use Rattle.std.specs.Int.{int_min, int_max}
use Rattle.boxes.specs.Boxes.{smaller, larger, better}
use Rattle.boxes.proofs.BoxLaws.{best_read, bounded_more, all_bounded}
use Rattle.boxes.proofs.boxes.put_box.Goals as goal

-- The library's lesser and greater of two numbers are the better of them.
lesser_is : (x y : ℤ) → int_min x y ≡ better smaller x y
lesser_is x y = refl

greater_is : (x y : ℤ) → int_max x y ≡ better larger x y
greater_is x y = grind (arith, ints)

pub loop-c-preserved : goal.loop-c-preserved
loop-c-preserved c =
    let l = c.args.corners.now in
    let i = c.loop-c.c in
    bounded_more (omega arith) c.loop-c-test.true
    (best_read smaller i l int_min lesser_is (search rules) (search rules) (search rules) (search rules) (search rules) c.min.ensures.value c.min-in-loop-c.ensures.value)
    (best_read larger i l int_max greater_is (search rules) (search rules) (search rules) (search rules) (search rules) c.max.ensures.value c.max-in-loop-c.ensures.value)
    c.loop-c.invariant

pub returns : goal.returns
returns c = all_bounded (omega arith) (λ k less. c.loop-c.invariant k (omega arith))
