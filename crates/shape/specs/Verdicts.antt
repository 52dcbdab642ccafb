-- What a verdict says.
use Rattle.std.specs.Prelude.{◌≡◌, Bool, true, false}

-- The verdict v says yes exactly when the claim holds.
pub record Says (v : Bool) (Claim : Type 0) : Type 0 where
  pub yes : v ≡ true → Claim
  pub no : v ≡ false → Claim → ⊥
