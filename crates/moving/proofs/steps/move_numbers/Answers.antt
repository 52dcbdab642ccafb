-- `moving::steps::move_numbers` meets its contract: after k numbers the first k are those of the list moved, and the others are still
-- the old ones. This is known only where the whole list stays on the grid. Assumes nothing.
use Rattle.std.proofs.Common.{◌≡◌, true, cond, ℕ, ◌+◌, ◌<◌, Bool, List, ℤ, pos, ◌+ℤ◌, length, get_or, set, refl, sym, ap, ◌∙◌, add-one, arith, rules, FitsSigned, w32, to_z, of_z, Option, Some, None}
use Rattle.std.specs.Option.{unwrap_or}
use mir.Facts.{to_z-of_z}
use Rattle.algebra.proofs.Copying.{over, over_at, over_more, over_all}
use Rattle.checks.specs.Grid.{on_grid}
use Rattle.checks.proofs.GridLaws.{all_on_says}
use Rattle.moving.specs.Moves.{step, steps}
use Rattle.moving.proofs.MoveLaws.{length_moved, moved_at, steps_long, sum_read}
use Rattle.moving.proofs.steps.move_numbers.Invariants.{out}
use Rattle.moving.proofs.steps.move_numbers.Goals as goal

out-long : (numbers by : List ℤ) (back : Bool) → length by ≡ length numbers → length (out numbers by back) ≡ length numbers
out-long numbers by back e = length_moved (steps back by) numbers (steps_long back by ∙ e)

-- The list l has its first k numbers moved, and number k is next.
module _ (numbers by : List ℤ) (back : Bool) (e : length by ≡ length numbers) (k : ℕ) (inside : k < length numbers)
    {l : List ℤ} (begun : l ≡ over numbers (out numbers by back) k) where
  next-inside : k < length (out numbers by back)
  next-inside = omega (arith, out-long numbers by back e)

  -- It is still the old one, so the sum of what the code reads is the number that is to come out.
  next-sum : FitsSigned w32 (get_or by k (pos 0)) → FitsSigned w32 (get_or l k (pos 0)) →
      step back (to_z w32 (of_z w32 (get_or by k (pos 0)))) +ℤ to_z w32 (of_z w32 (get_or l k (pos 0))) ≡ get_or (out numbers by back) k (pos 0)
  next-sum f g =
      sum_read back f g
      ∙ ap (λ (z : ℤ). step back (get_or by k (pos 0)) +ℤ z)
      (ap (λ (r : List ℤ). get_or r k (pos 0)) begun ∙ over_at numbers (out numbers by back) k (pos 0) inside next-inside)
      ∙ sym (moved_at back by numbers k)

  -- Stored, it makes one moved number more.
  next-set : {v : ℤ} → v ≡ get_or (out numbers by back) k (pos 0) → set l k v ≡ over numbers (out numbers by back) (k + 1)
  next-set is =
      (λ i. set (begun i) k (is i))
      ∙ over_more numbers (out numbers by back) k (pos 0) inside next-inside
      ∙ ap (over numbers (out numbers by back)) (sym (add-one k))

-- What landed on the grid is taken.
taken : {z y : ℤ} {r : Option ℤ} (other : ℤ) → r ≡ cond (on_grid z) (Some z) None → z ≡ y → on_grid y ≡ true → unwrap_or r other ≡ y
taken {z} {y} other is e on = ap (λ (r : Option ℤ). unwrap_or r other) is ∙ (λ i. unwrap_or (cond (on_grid (e i)) (Some (e i)) None) other) ∙ rw on refl

pub loop-k-preserved : goal.loop-k-preserved
loop-k-preserved c = λ all.
    let old = c.args.numbers.now in
    let by = c.args.by.now in
    let back = c.args.back in
    let k = c.loop-k.k in
    let e = c.requires in
    let inside = c.loop-k-test.true in
    let begun = c.loop-k.invariant all in
    let made = next-sum old by back e k inside begun (search rules) (search rules) in
    let on = (all_on_says (out old by back)).yes all k (next-inside old by back e k inside begun) in
    let fits : FitsSigned w32 c.unwrap_or.result = search rules in
    next-set old by back e k inside begun (to_z-of_z fits ∙ c.unwrap_or.ensures ∙ taken _ c.landed.ensures made on)

pub returns : goal.returns
returns c = λ all.
    let old = c.args.numbers.now in
    let s = out old c.args.by.now c.args.back in
    let long : length s ≡ length old = out-long old c.args.by.now c.args.back c.requires in
    let end = c.loop-k-test.false in
    c.loop-k.invariant all ∙ over_all old s c.loop-k.k end (omega arith)
