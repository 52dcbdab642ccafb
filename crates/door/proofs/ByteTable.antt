-- The door of bytes by its cases: 103, 101 and the verdict are each given exactly in their case, the verdict by `Share`, and trading the two
-- slices leaves the number. Assumes nothing.
use mathlib.Core.Path.{◌≡◌, refl, sym, subst}
use mathlib.Core.Bool.{Bool, true, false}
use mathlib.Core.List.{List}
use mathlib.Core.Logic.{◌↔◌, ◌⊎◌, inl, inr}
use Prim.Native.Nat.{ℕ}
use native.Mathlib.Omega.{arith}
use lib.IntN.{ℤ}
use lib.ListN.{length}
use Rattle.shape.specs.Points.{points_at}
use Rattle.shape.specs.Sharing.{Share}
use Rattle.shape.proofs.Trading.{share_trade}
use Rattle.checks.specs.Answers.{Answer, with_served}
use Rattle.checks.proofs.GridLaws.{SomeOff}
use Rattle.checks.proofs.CheckLaws.{OnGrid}
use Rattle.packing.specs.Reading.{numbers_in}
use Rattle.packing.proofs.ByteLaws.{length_numbers}
use Rattle.telling.specs.Numbers.{verdict_code, one_number}
use Rattle.door.specs.Doors.{VerdictTold, BytesTold, wrong_length, judged}
use Rattle.door.proofs.NineNumbers.{Found, off, on, found}

-- Of the two slices that the door is lent.
module _ (a b : List ℕ) where
  -- Their numbers.
  abbrev first : List ℤ
  first = numbers_in 9 a

  abbrev second : List ℤ
  second = numbers_in 9 b

  -- Both are 36 bytes long.
  abbrev Long : Type 0
  Long = (length a ≡ 36) × (length b ≡ 36)

  -- What goes with each number.
  pub data BytesCase : (result : ℕ) → Type 0 where
    -- 103: a slice isn't 36 bytes.
    short_or_long : (Long → ⊥) → BytesCase 103
    -- 101: both are, and some number is off the grid.
    off_grid : Long → SomeOff first ⊎ SomeOff second → BytesCase 101
    -- Both are, all numbers are on it, and the two triangles have a point in common: 1; or they have none: 0.
    meeting : Long → OnGrid first → OnGrid second → Share 3 (points_at 3 3 0 first) (points_at 3 3 0 second) → BytesCase 1
    apart : Long → OnGrid first → OnGrid second → (Share 3 (points_at 3 3 0 first) (points_at 3 3 0 second) → ⊥) → BytesCase 0

  -- No number is off the grid where all are on it.
  never_off : OnGrid first → OnGrid second → SomeOff first ⊎ SomeOff second → ⊥
  never_off h h' (inl p) = omega (arith, h p.position, p.off)
  never_off h h' (inr p) = omega (arith, h' p.position, p.off)

  told_case : {r : ℕ} → Long → VerdictTold first second r → BytesCase r
  told_case {r} long t = subst BytesCase (sym t.tells) (by_found (found first second (length_numbers 9 a) (length_numbers 9 b) t.right))
    where
      with_told : {told : Answer Bool} → t.told ≡ told → BytesCase (one_number (with_served verdict_code told)) → BytesCase (one_number (with_served verdict_code t.told))
      with_told e = subst (λ (told : Answer Bool). BytesCase (one_number (with_served verdict_code told))) (sym e)

      by_found : Found first second (length_numbers 9 a) (length_numbers 9 b) t.told → BytesCase (one_number (with_served verdict_code t.told))
      by_found (off side place p e) = with_told e (off_grid long p)
      by_found (on h h' true says e) = with_told e (meeting long h h' (says.yes refl))
      by_found (on h h' false says e) = with_told e (apart long h h' (says.no refl))

-- ---- the table
module _ {a b : List ℕ} where
  to_case : {r : ℕ} → BytesTold a b r → BytesCase a b r
  to_case (wrong_length h e) = subst (BytesCase a b) (sym e) (short_or_long h)
  to_case (judged long-a long-b told) = told_case a b (long-a, long-b) told

  case_fixed : {r s : ℕ} → BytesCase a b r → BytesCase a b s → r ≡ s
  case_fixed (short_or_long h) (short_or_long g) = refl
  case_fixed (short_or_long h) (off_grid long p) = absurd (h long)
  case_fixed (short_or_long h) (meeting long g g' share) = absurd (h long)
  case_fixed (short_or_long h) (apart long g g' none) = absurd (h long)
  case_fixed (off_grid long p) (short_or_long g) = absurd (g long)
  case_fixed (off_grid long p) (off_grid long' q) = refl
  case_fixed (off_grid long p) (meeting long' h h' share) = absurd (never_off a b h h' p)
  case_fixed (off_grid long p) (apart long' h h' none) = absurd (never_off a b h h' p)
  case_fixed (meeting long h h' share) (short_or_long g) = absurd (g long)
  case_fixed (meeting long h h' share) (off_grid long' q) = absurd (never_off a b h h' q)
  case_fixed (meeting long h h' share) (meeting long' g g' share') = refl
  case_fixed (meeting long h h' share) (apart long' g g' none) = absurd (none share)
  case_fixed (apart long h h' none) (short_or_long g) = absurd (g long)
  case_fixed (apart long h h' none) (off_grid long' q) = absurd (never_off a b h h' q)
  case_fixed (apart long h h' none) (meeting long' g g' share) = absurd (none share)
  case_fixed (apart long h h' none) (apart long' g g' none') = refl

  -- The door's number is a number exactly in the case of that number.
  pub bytes_exactly : {r : ℕ} → BytesTold a b r → (s : ℕ) → BytesCase a b s ↔ (r ≡ s)
  bytes_exactly told s = (λ c. case_fixed (to_case told) c, λ e. subst (BytesCase a b) e (to_case told))

-- ---- the two slices traded
case_traded : {a b : List ℕ} {r : ℕ} → BytesCase a b r → BytesCase b a r
case_traded (short_or_long h) = short_or_long (λ long. h (long.1, long.0))
case_traded (off_grid long (inl p)) = off_grid (long.1, long.0) (inr p)
case_traded (off_grid long (inr p)) = off_grid (long.1, long.0) (inl p)
case_traded (meeting long h h' share) = meeting (long.1, long.0) h' h (share_trade share)
case_traded (apart long h h' none) = apart (long.1, long.0) h' h (λ share. none (share_trade share))

-- Side and place aren't carried, so the number is the same.
pub bytes_traded : {a b : List ℕ} {r s : ℕ} → BytesTold a b r → BytesTold b a s → r ≡ s
bytes_traded told told' = case_fixed (to_case told) (case_traded (to_case told'))
