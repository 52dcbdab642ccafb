-- The verdict on an accepted pair does not change when the two shapes trade places or corners are reordered. Assumes nothing.
use mathlib.Core.Path.{◌≡◌, sym, subst}
use mathlib.Core.Bool.{Bool}
use mathlib.Core.List.{List}
use Prim.Native.Nat.{ℕ}
use lib.IntN.{ℤ}
use Rattle.shape.specs.Points.{points_at}
use Rattle.shape.specs.Sharing.{Share}
use Rattle.shape.specs.Verdicts.{Says}
use Rattle.shape.proofs.Trading.{Among, share_trade, share_reorder}
use Rattle.shape.proofs.VerdictLaws.{says_same, says_fixed}
use Rattle.checks.specs.Answers.{served}
use Rattle.checks.specs.Rules.{FlatShapes, pair_checks}
use Rattle.predicate.specs.Rules.{VerdictRule}
use Rattle.checks.proofs.AnswerLaws.{then_served}

-- What is served is right.
pub served_right : {flats : FlatShapes} {n k m : ℕ} {first second : List ℤ} {v : Bool} → VerdictRule flats n k m first second (served v) →
    Says v (Share n (points_at n k 0 first) (points_at n m 0 second))
served_right {flats} {n} {k} {m} {first} {second} {v} rule =
    let e = then_served (pair_checks flats n k m first second) rule.verdict v rule.told in
    subst (λ (w : Bool). Says w (Share n (points_at n k 0 first) (points_at n m 0 second))) (sym e.1) (rule.right e.0)

pub verdict_traded : {flats : FlatShapes} {n k m : ℕ} {first second : List ℤ} {v w : Bool} →
    VerdictRule flats n k m first second (served v) → VerdictRule flats n m k second first (served w) → v ≡ w
verdict_traded r s = says_fixed (served_right r) (says_same (share_trade, share_trade) (served_right s))

-- The corners of each shape are the same ones, in whatever order.
pub verdict_reordered : {flats : FlatShapes} {n k m : ℕ} {first second first' second' : List ℤ} {v w : Bool} →
    Among (points_at n k 0 first) (points_at n k 0 first') → Among (points_at n k 0 first') (points_at n k 0 first) →
    Among (points_at n m 0 second) (points_at n m 0 second') → Among (points_at n m 0 second') (points_at n m 0 second) →
    VerdictRule flats n k m first second (served v) → VerdictRule flats n k m first' second' (served w) → v ≡ w
verdict_reordered a a' b b' r s = says_fixed (says_same (share_reorder a a' b b') (served_right r)) (served_right s)
