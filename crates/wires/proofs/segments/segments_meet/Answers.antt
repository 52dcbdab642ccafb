-- `wires::segments::segments_meet` meets its contract: the stretches, the plane and the shadows are asked in the order of the decision. Assumes
-- nothing.
use Rattle.std.proofs.Common.{◌≡◌, ℕ, Bool, true, false, ◌&&◌, cond, sym, refl, ◌∙◌, eqb, ap, true≢false, rules, tests}
use Rattle.std.specs.List.{list_all, range_with_len}
use Rattle.std.proofs.lemmas.Iterator.{YieldsList-from_range}
use Rattle.std.proofs.lemmas.Iterator.Search.{all_from_yields_List}
use Rattle.shape.specs.Flat.{all_below}
use Rattle.shape.specs.WireTest.{shadows_meet}
use Rattle.exact.specs.Vectors.{spatial}
use Rattle.exact.proofs.Branches.{if_taken}
use Rattle.wires.proofs.segments.segments_meet.Goals as goal
use Rattle.wires.proofs.segments.segments_meet.Goals.{then-along_meet, else-along_meet}

-- The three shadows in whatever order.

all_three : (test : ℕ → Bool) → list_all test (range_with_len 0 3) ≡ all_below 3 test
all_three test = by_tests (test 0) (test 1) (test 2)
  where
    by_tests : (x y z : Bool) → x && (y && (z && true)) ≡ cond z (cond y (cond x true false) false) false
    by_tests true true true = refl
    by_tests true true false = refl
    by_tests true false true = refl
    by_tests true false false = refl
    by_tests false true true = refl
    by_tests false true false = refl
    by_tests false false true = refl
    by_tests false false false = refl

pub returns-then-level_at-eq1 : goal.returns-then-level_at-eq1
returns-then-level_at-eq1 c =
    let s = c.args.s in
    let t = c.args.t in
    let test : ℕ → Bool = λ k. shadows_meet k (spatial s.p) (spatial s.q) (spatial t.p) (spatial t.q) in
    let asked : c.all.result ≡ list_all test (range_with_len 0 3) =
    all_from_yields_List test _ _ c.all.result c.all.ensures.ran (YieldsList-from_range 0 3 3 (cc) refl) (λ x b q k. search (rules, tests)) in
    elim c.if-along_meet.branch [
      | then-along_meet w ↦
          if_taken _ _ c.along_meet.ensures w.if-along_meet.true
          (if_taken _ _ (ap (λ (n : ℕ). eqb n 1) w.level_at.ensures.0) (sym w.value-is ∙ c.if-level_at-eq1.true) (asked ∙ all_three test))
      | else-along_meet w ↦ absurd (true≢false (sym c.if-level_at-eq1.true ∙ w.value-is ∙ w.if-along_meet.false))
    ]
