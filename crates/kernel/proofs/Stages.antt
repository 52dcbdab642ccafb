-- What standings and last signs are worth (specs/Standings.antt): from them to the definition. Assumes nothing.
use mathlib.Core.Path.{◌≡◌, refl}
use mathlib.Core.Bool.{Bool, true, false}
use mathlib.Core.List.{List}
use Prim.Native.Nat.{ℕ}
use lib.IntN.{ℤ}
use native.Mathlib.Omega.{arith}
use Rattle.shape.specs.Points.{points_at}
use Rattle.shape.specs.Sharing.{Share}
use Rattle.shape.specs.WireTest.{close_test}
use Rattle.shape.proofs.VerdictLaws.{says_same}
use Rattle.shape.proofs.Trading.{share_trade}
use Rattle.space.specs.Spaces.{of_lists, last_signs_by}
use Rattle.space.proofs.SpaceLaws.{if_beside, if_within, if_alone}
use Rattle.kernel.specs.Meeting.{Judges}
use Rattle.kernel.specs.Standings.{StandsTo}
use Rattle.kernel.proofs.Judging.{judged}

-- A verdict on two triangles is one on them the other way round.
pub judged_other_way : (t u : List ℤ) {v : Bool} → Judges 3 3 3 u t v → Judges 3 3 3 t u v
judged_other_way t u = says_same (share_trade, share_trade)

-- The first is beside the plane of the second.
pub judged_beside : (t u : List ℤ) {s : ℕ} → StandsTo t u s → s ≡ 0 → Judges 3 3 3 t u false
judged_beside t u found e = judged t u (if_beside found _ _ e refl)

-- The first is within the plane of the second.
pub judged_within : (t u : List ℤ) {s : ℕ} {v : Bool} → StandsTo t u s → s ≡ 1 → v ≡ of_lists close_test t u → Judges 3 3 3 t u v
judged_within t u found e test = judged t u (if_within found _ _ e test)

-- Each has a corner alone.
pub judged_crossing : (t u : List ℤ) {s r : ℕ} {v : Bool} → StandsTo t u s → StandsTo u t r → (s ≡ 0 → ⊥) → (s ≡ 1 → ⊥) → (r ≡ 0 → ⊥) → (r ≡ 1 → ⊥) →
    v ≡ last_signs_by s r t u → Judges 3 3 3 t u v
judged_crossing t u first second s0 s1 r0 r1 test = judged t u (if_alone first _ _ s0 s1 (if_alone second _ _ r0 r1 test))

-- So triangles of which one is beside the other's plane have no point in common.
pub beside_apart : (t u : List ℤ) {s : ℕ} → StandsTo t u s → s ≡ 0 → Share 3 (points_at 3 3 0 t) (points_at 3 3 0 u) → ⊥
beside_apart t u found e = (judged_beside t u found e).no refl

-- A flag that is not set says nothing.
pub no_flag : {X : Type 0} → ◌≡◌ {A = Bool} false true → X
no_flag e =
    let same : ◌≡◌ {A = ℕ} 0 1 = cc in
    absurd (omega arith)
