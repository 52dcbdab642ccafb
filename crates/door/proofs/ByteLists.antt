-- The door of bytes and the list form agree on every input: its number is that of what the pair call tells of the lists that the bytes are.
-- Assumes nothing.
use mathlib.Core.Path.{◌≡◌, refl, sym, ap, ◌∙◌}
use mathlib.Core.Bool.{Bool, true, false, cond}
use mathlib.Core.List.{List, []}
use Prim.Native.Nat.{ℕ, suc, ◌+◌}
use native.Mathlib.Omega.{arith}
use borrow.Author.Tests.{eqb-true, eqb-false}
use lib.Dec.{eqb}
use lib.IntN.{ℤ}
use lib.ListN.{length}
use Rattle.checks.specs.Answers.{Answer, served, refused, number_of, with_served}
use Rattle.checks.specs.Rules.{takes_flat}
use Rattle.checks.proofs.CheckLaws.{LengthCase, right, wrong, length_case}
use Rattle.packing.specs.Reading.{numbers_in}
use Rattle.packing.specs.Writing.{bytes_of}
use Rattle.packing.proofs.RoundTrip.{Words, numbers_alone, length_bytes}
use Rattle.predicate.specs.Rules.{VerdictRule}
use Rattle.predicate.proofs.PairTable.{PairCase, first_length, second_length, pair_exactly}
use Rattle.telling.specs.Numbers.{verdict_code, one_number}
use Rattle.door.specs.Doors.{BytesTold, wrong_length, judged}
use Rattle.door.proofs.NineNumbers.{told_alike}
use Rattle.door.proofs.Unique.{told_fixed}

-- The list that bytes are: of 36 bytes the nine numbers, of any others no list of nine.
pub record Decoded (bytes : List ℕ) (numbers : List ℤ) : Type 0 where
  pub nine : length bytes ≡ 36 → numbers_in 9 bytes ≡ numbers
  pub other : (length bytes ≡ 36 → ⊥) → length numbers ≡ 9 → ⊥

-- Every slice has one,
pub list_of : List ℕ → List ℤ
list_of bytes = cond (eqb (length bytes) 36) (numbers_in 9 bytes) []

pub decoded : (bytes : List ℕ) → Decoded bytes (list_of bytes)
unfolding list_of
decoded bytes = by_test (eqb (length bytes) 36) refl
  where
    by_test : (t : Bool) → eqb (length bytes) 36 ≡ t → Decoded bytes (cond t (numbers_in 9 bytes) [])
    by_test true e = record { nine = λ long. refl; other = λ not-long. absurd (not-long (eqb-true (length bytes) 36 e)) }
    by_test false e = record { nine = λ long. absurd (eqb-false (length bytes) 36 e long); other = λ not-long long. omega (arith, long) }

-- and the bytes of every list, four of each number, are decoded as that list, however long it is.
pub bytes_decoded : {numbers : List ℤ} → Words numbers → Decoded (bytes_of numbers) numbers
bytes_decoded {numbers} words =
    let size = length_bytes numbers in
    record {
      nine = λ long. numbers_alone (omega (arith, long, size)) words;
      other = λ not-long long. not-long (omega (arith, long, size));
    }

-- What refuses is told by its number and 100.
refusal_number : (told : Answer Bool) (n : ℕ) → number_of told ≡ suc n → one_number (with_served verdict_code told) ≡ 100 + suc n
refusal_number (served v) n e = absurd (omega (arith, e))
refusal_number (refused number side place) n e = ap (λ (k : ℕ). 100 + k) e

-- On any two slices the door's number is that of what the pair call tells of the decoded lists: its verdict, or 100 plus its refusal number.
pub as_lists : {a b : List ℕ} {first second : List ℤ} {r : ℕ} {told : Answer Bool} → Decoded a first → Decoded b second →
    BytesTold a b r → VerdictRule takes_flat 3 3 3 first second told → r ≡ one_number (with_served verdict_code told)
as_lists {told} d d' (judged long-a long-b t) rule =
    told_fixed (told_alike (d.nine long-a) (d'.nine long-b) t) (record { told = told; right = rule; tells = refl })
as_lists {first} {second} {told} d d' (wrong_length h e) rule = e ∙ by_length (length_case 0 9 first) (length_case 1 9 second)
  where
    -- the case of the pair call's table decides its number
    told_three : {side place : ℕ} → PairCase takes_flat 3 3 3 first second 3 side place → 103 ≡ one_number (with_served verdict_code told)
    told_three {side} {place} c = sym (refusal_number told 2 ((pair_exactly takes_flat 3 3 3 first second told rule 3 side place).0 c).0)

    by_length : LengthCase 0 9 first → LengthCase 1 9 second → 103 ≡ one_number (with_served verdict_code told)
    by_length (wrong g p) c = told_three (first_length g)
    by_length (right g p) (wrong g' q) = told_three (second_length g g')
    by_length (right g p) (right g' q) = absurd (d.other (λ long-a. d'.other (λ long-b. h (long-a, long-b)) g') g)
