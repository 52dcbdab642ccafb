-- Rows of one width, one for each triangle of a list, and what is asked of a function that writes one of them.
use Rattle.std.specs.Prelude.{◌≡◌, List, ℕ, ◌*◌, ◌<◌, ℤ, length, take, drop}
use Rattle.std.specs.Borrow.{Bor, MutBor}
use Rattle.boxes.specs.Triangles.{triangles, nine}

-- The row with index i.
abbrev pub row_at : {X : Type 0} → (width i : ℕ) → List X → List X
row_at width i rows = take width (drop (width * i) rows)

-- It may be called at a row of that width and each triangle of the list.
abbrev pub Takes : {X : Type 0} → (MutBor (List X) → Bor (List ℤ) → Type 0) → ℕ → List ℤ → Type 0
Takes {X} pre width numbers =
    (i : ℕ) (row : MutBor (List X)) (corners : Bor (List ℤ)) → i < triangles numbers → length row.now ≡ width → corners.now ≡ nine i numbers →
    pre row corners

-- A call at some row and these corners may have left this row.
pub record Wrote {X : Type 0} (post : MutBor (List X) → Bor (List ℤ) → Unit {0} → MutBor (List X) → Type 0) (corners : List ℤ) (row : List X) : Type 0 where
  pub shown : MutBor (List X)
  pub of : Bor (List ℤ)
  pub shows : of.now ≡ corners
  pub left : MutBor (List X)
  pub met : post shown of tt left
  pub leaves : left.now ≡ row
