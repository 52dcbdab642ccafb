-- How what is promised of a buffer is met: by the test on its length.
-- Assumes nothing.
use mathlib.Core.Path.{◌≡◌, sym, ap, ◌∙◌}
use mathlib.Core.Bool.{Bool, cond}
use mathlib.Core.List.{List, ◌++◌}
use Prim.Native.Nat.{ℕ}
use lib.ListN.{drop}
use Rattle.telling.specs.Buffer.{too_short, Written}

-- What the test on the length found decides both the result and the buffer.
pub by_test : (numbers before : List ℕ) (t : Bool) {r : ℕ} {after : List ℕ} → too_short before ≡ t →
    r ≡ cond t 1 0 → after ≡ cond t before (numbers ++ drop 4 before) → Written numbers before r after
by_test numbers before t e f g =
    record {
      gives = f ∙ sym (ap (λ (b : Bool). cond b 1 0) e);
      leaves = g ∙ sym (ap (λ (b : Bool). cond b before (numbers ++ drop 4 before)) e);
    }
