-- A buffer that is filled from the front, some numbers at a time: stored one by one, as those of a pair are, or by way of the part that is still
-- free, as those of a word are. Assumes nothing.
use mathlib.Core.Path.{◌≡◌, refl, sym, ap, ◌∙◌}
use mathlib.Core.List.{List, [], ◌++◌, append_assoc, append-nil}
use Prim.Native.Nat.{ℕ, ◌+◌, ◌-◌, ◌≤◌}
use native.Mathlib.Omega.{arith}
use borrow.Rule.Slice.PartMut.{put_mid}
use lib.ListN.{length, take, drop, length-append, length-drop, take-append-drop, drop_of_length-le}
use lib.Seq.{take_all, take_at, drop_at, drop-drop, length-take-le, sets, sets-eq}
use Rattle.listing.specs.Writing.{Wrote}

-- Of all the numbers that are to be written, those before `at` stand in the buffer, and the rest is still to come.
pub record Filling (all before rest out : List ℕ) (at : ℕ) : Type 0 where
  pub inside : at ≤ length out
  pub same : length out ≡ length before
  pub begun : all ≡ take at out ++ rest
  pub free : drop at out ≡ drop at before

pub filling_starts : (all out : List ℕ) → Filling all out all out 0
filling_starts all out = record { inside = omega arith; same = refl; begun = refl; free = refl }

-- ---- the free part, lent on and put back
module _ (at : ℕ) (out : List ℕ) where
  abbrev pub free_part : List ℕ
  free_part = take (length out - at) (drop at out)

  whole : free_part ≡ drop at out
  whole = take_all (length out - at) (drop at out) (simp length-drop (omega arith))

  nothing_after : drop (length out - at) (drop at out) ≡ []
  nothing_after = drop_of_length-le (drop at out) {i = length out - at} (simp length-drop (omega arith))

  pub length_free : length free_part ≡ length out - at
  length_free = ap length whole ∙ length-drop at out

  pub put_back : {numbers new : List ℕ} {count : ℕ} → Wrote numbers free_part count new →
      put_mid at (length out - at) out new ≡ (take at out ++ numbers) ++ drop (at + length numbers) out
  put_back {numbers} w =
      (λ i. take at out ++ ((w.left ∙ ap (λ (n : ℕ). numbers ++ drop n free_part) w.many) i ++ nothing_after i))
      ∙ ap (λ (l : List ℕ). take at out ++ l) (append-nil (numbers ++ drop (length numbers) free_part))
      ∙ ap (λ (l : List ℕ). take at out ++ (numbers ++ drop (length numbers) l)) whole
      ∙ ap (λ (l : List ℕ). take at out ++ (numbers ++ l)) (drop-drop (length numbers) at out)
      ∙ sym (append_assoc (take at out) numbers (drop (at + length numbers) out))

-- ---- some numbers more
module _ {all before out : List ℕ} {at : ℕ} (numbers rest : List ℕ) (f : Filling all before (numbers ++ rest) out at) (fits : length all ≤ length before) where
  begun_length : length (take at out) ≡ at
  begun_length = length-take-le at out f.inside

  -- There is room for them, since there is for all.
  pub room_for_more : length numbers ≤ length out - at
  room_for_more =
      let total = ap length f.begun ∙ length-append (take at out) (numbers ++ rest) in
      omega (arith, total, length-append numbers rest, begun_length, f.same, fits)

  -- They stand after those that were written before, and all after them stays.
  filled_by : {after : List ℕ} → after ≡ (take at out ++ numbers) ++ drop (at + length numbers) out → Filling all before rest after (at + length numbers)
  filled_by {after} is = record { inside = inside; same = same_out ∙ f.same; begun = begun; free = free }
    where
      front : length (take at out ++ numbers) ≡ at + length numbers
      front = length-append (take at out) numbers ∙ ap (λ (n : ℕ). n + length numbers) begun_length

      same_out : length after ≡ length out
      same_out =
          let total = ap length is ∙ length-append (take at out ++ numbers) (drop (at + length numbers) out) in
          omega (arith, total, front, length-drop (at + length numbers) out, room_for_more, f.inside)

      inside : at + length numbers ≤ length after
      inside = omega (arith, same_out, room_for_more, f.inside)

      begun : all ≡ take (at + length numbers) after ++ rest
      begun =
          f.begun
          ∙ sym (append_assoc (take at out) numbers rest)
          ∙ ap (λ (l : List ℕ). l ++ rest) (sym (ap (take (at + length numbers)) is ∙ take_at (take at out ++ numbers) (drop (at + length numbers) out) (at + length numbers) front))

      free : drop (at + length numbers) after ≡ drop (at + length numbers) before
      free =
          ap (drop (at + length numbers)) is
          ∙ drop_at (take at out ++ numbers) (drop (at + length numbers) out) (at + length numbers) front
          ∙ sym (drop-drop (length numbers) at out)
          ∙ ap (drop (length numbers)) f.free
          ∙ drop-drop (length numbers) at before

  -- They were written to the free part,
  pub filled_on : {count : ℕ} {new : List ℕ} → Wrote numbers (free_part at out) count new →
      Filling all before rest (put_mid at (length out - at) out new) (at + count)
  filled_on w = rw w.many (filled_by (put_back at out w))

  -- or stored one by one.
  pub filled_one_by_one : Filling all before rest (sets out at numbers) (at + length numbers)
  filled_one_by_one = filled_by (sets-eq numbers out at (omega (arith, room_for_more, f.inside)))

-- Nothing is left to come: all were written.
pub filling_ends : {all before out : List ℕ} {at : ℕ} → Filling all before [] out at → Wrote all before at out
filling_ends {all} {before} {out} {at} f =
    let is : all ≡ take at out = f.begun ∙ append-nil (take at out) in
    record {
      many = sym (ap length is ∙ length-take-le at out f.inside);
      left = sym (take-append-drop at out) ∙ (λ i. sym is i ++ f.free i);
    }
