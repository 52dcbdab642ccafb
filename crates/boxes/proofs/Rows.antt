-- A row of numbers for each triangle of a list, its box, its normal or its plane: rows of one width, written one after the other. Assumes nothing.
use mathlib.Core.Path.{◌≡◌, refl, sym, ap, ◌∙◌}
use mathlib.Core.List.{List, ◌++◌}
use Prim.Native.Nat.{ℕ, ◌+◌, ◌-◌, ◌*◌, ◌≤◌, ◌<◌}
use native.Mathlib.Omega.{arith}
use borrow.Author.Count.{below_none}
use borrow.Rule.Slice.PartMut.{put_mid, same_len_mid}
use lib.IntN.{ℤ}
use lib.ListN.{length, length-append, take, drop, length-drop}
use lib.Seq.{take_at, drop_at, drop-drop}
use Rattle.std.specs.Borrow.{Bor, MutBor}
use Rattle.algebra.proofs.Parts.{length_lent, parts_hold}
use Rattle.boxes.specs.Rows.{Wrote}
use Rattle.boxes.specs.Triangles.{triangles, nine}

-- ---- the triangles that are taken from a list one after the other, nine numbers each
-- After i of them this is left.
pub record Left (numbers rest : List ℤ) (i : ℕ) : Type 0 where
  pub left : rest ≡ drop (9 * i) numbers

pub all_left : {numbers : List ℤ} → Left numbers numbers 0
all_left = record { left = refl }

module _ {numbers rest : List ℤ} {i : ℕ} (so_far : Left numbers rest i) where
  -- The next.
  pub next_is : {corners later : List ℤ} → rest ≡ corners ++ later → length corners ≡ 9 →
      (i < triangles numbers) × (corners ≡ nine i numbers) × Left numbers later (i + 1)
  next_is {corners} {later} e long = (omega (arith, room), this, record { left = after })
    where
      whole : drop (9 * i) numbers ≡ corners ++ later
      whole = sym so_far.left ∙ e

      room : length numbers - 9 * i ≡ 9 + length later
      room = sym (length-drop (9 * i) numbers) ∙ ap length whole ∙ length-append corners later ∙ ap (λ (n : ℕ). n + length later) long

      this : corners ≡ nine i numbers
      this = sym (take_at corners later 9 long) ∙ ap (take 9) (sym whole)

      after : later ≡ drop (9 * (i + 1)) numbers
      after = sym (drop_at corners later 9 long) ∙ ap (drop 9) (sym whole) ∙ drop-drop 9 (9 * i) numbers ∙ ap (λ (n : ℕ). drop n numbers) {x = 9 * i + 9} {y = 9 * (i + 1)} (omega arith)

  -- The last was taken where fewer than nine numbers are left.
  pub none_left : length rest < 9 → triangles numbers ≤ i
  none_left few = omega (arith, length-drop (9 * i) numbers, ap length so_far.left)

-- ---- the rows that are written
-- Those of the first i triangles, in a list that is as long as it was.
pub record Written {X : Type 0} (post : MutBor (List X) → Bor (List ℤ) → Unit {0} → MutBor (List X) → Type 0) (width : ℕ) (numbers : List ℤ) (rows₀ rows : List X) (i : ℕ) : Type 0 where
  pub long : length rows ≡ length rows₀
  pub each : (k : ℕ) → k < i → Wrote post (nine k numbers) (take width (drop (width * k) rows))

module _ {X : Type 0} {post : MutBor (List X) → Bor (List ℤ) → Unit {0} → MutBor (List X) → Type 0} {width : ℕ} {numbers : List ℤ} where
  pub none_written : {rows : List X} → Written post width numbers rows rows 0
  none_written = record { long = refl; each = below_none _ }

  -- The next row is put in its place.
  pub one_more : {rows₀ rows new : List X} {i : ℕ} → Written post width numbers rows₀ rows i → width * i + width ≤ length rows →
      length new ≡ width → Wrote post (nine i numbers) new →
      Written post width numbers rows₀ (put_mid (width * i) (width * i + width - width * i) rows new) (i + 1)
  one_more {rows₀} {rows} {new} {i} so_far room as_wide this =
      let n = width * i + width - width * i in
      record {
        long = same_len_mid (width * i) n rows new (as_wide ∙ sym (length_lent (width * i) width rows room)) ∙ so_far.long;
        each = parts_hold width i n rows new (λ k. Wrote post (nine k numbers)) (omega arith) as_wide this so_far.each;
      }
