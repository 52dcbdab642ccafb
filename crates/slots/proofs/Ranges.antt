-- What code finds in the range of the 64 slots it finds in the list of them. Assumes nothing.
use Rattle.std.proofs.Common.{◌≡◌, refl, sym, ap, ◌∙◌, Bool, true, false, cond, ◌||◌, ℕ, suc, ◌+◌, ◌<◌, List, [], ◌∷◌, length, get_or, arith}
use Rattle.std.specs.List.{list_any, range_with_len}
use borrow.Author.Tests.{eq-eqb, ne_eqb}
use Rattle.std.proofs.Common.{ℤ}
use Rattle.std.proofs.Common.{◌≤◌, Option, Some, None, MatchOption}
use Rattle.shape.specs.Lists.{some, lowest}
use Rattle.shape.proofs.ListLaws.{lowest_at, lowest_none}
use Rattle.slots.specs.Slots.{Slot, free}
use Rattle.slots.specs.Arrays.{mark_of}
use lib.Dec.{eqb}
use Rattle.slots.specs.Showing.{Shown}
use Rattle.slots.proofs.Arrays.{mark_is}

module _ {A : Type 0} (test : A → Bool) (z : A) where
  some_range : (l : List A) (a : ℕ) (at : ℕ → Bool) → ((j : ℕ) → at (a + j) ≡ test (get_or l j z)) → list_any at (range_with_len a (length l)) ≡ some test l
  some_range [] a at is = refl
  some_range (x ∷ l) a at is =
      (λ i. first i || rest) ∙ either (test x) ∙ ap (λ (b : Bool). cond (test x) true b) (some_range l (a + 1) at (λ j. ap at (omega arith) ∙ is (suc j)))
    where
      rest : Bool
      rest = list_any at (range_with_len (a + 1) (length l))

      first : at a ≡ test x
      first = ap at (omega arith) ∙ is 0

      either : (b : Bool) → (b || rest) ≡ cond b true rest
      either true = refl
      either false = refl

  -- Whether some slot passes a test.
  pub some_in_range : (l : List A) (n : ℕ) → length l ≡ n → list_any (λ j. test (get_or l j z)) (range_with_len 0 n) ≡ some test l
  some_in_range l n long =
      ap (λ (m : ℕ). list_any (λ j. test (get_or l j z)) (range_with_len 0 m)) (sym long)
      ∙ some_range l 0 (λ j. test (get_or l j z)) (λ j. ap (λ (k : ℕ). test (get_or l k z)) (omega arith))

  -- The lowest slot that passes one.
  pub lowest_in_range : (l : List A) (n : ℕ) → length l ≡ n → (r : Option ℕ)
      → MatchOption r ((k : ℕ) → 0 ≤ k → k < n → test (get_or l k z) ≡ false)
      (λ i. (0 ≤ i) × (i < n) × (test (get_or l i z) ≡ true) × ((k : ℕ) → 0 ≤ k → k < i → test (get_or l k z) ≡ false))
      → MatchOption r (lowest test l ≡ n) (λ i. (i < n) × (lowest test l ≡ i))
  lowest_in_range l n long None none = lowest_none test z l (λ k h. none k (omega arith) (omega (arith, h, long))) ∙ long
  lowest_in_range l n long (Some i) (_, inside, passes, before) =
      (inside, lowest_at test z l i (λ k h. before k (omega arith) h) (omega (arith, inside, long)) passes)

-- Two words for one thing.
pub any_is_some : {A : Type 0} (test : A → Bool) (l : List A) → list_any test l ≡ some test l
any_is_some test [] = refl
any_is_some test (x ∷ l) = either (test x) ∙ ap (λ (b : Bool). cond (test x) true b) (any_is_some test l)
  where
    either : (b : Bool) → (b || list_any test l) ≡ cond b true (list_any test l)
    either true = refl
    either false = refl

-- ---- a test of a slot that asks its mark first
module _ {S : List Slot} {coords : List ℤ} {parts : List ℕ} (h : Shown S coords parts) (mark j : ℕ) (v : Bool) where
  pub other_marked : (get_or parts j 0 ≡ mark → ⊥) → false ≡ cond (eqb (mark_of (get_or S j free)) mark) v false
  other_marked other = rw (ne_eqb (mark_of (get_or S j free)) mark (λ e. other (mark_is h j ∙ e))) refl

  pub same_marked : {b : Bool} → get_or parts j 0 ≡ mark → b ≡ v → b ≡ cond (eqb (mark_of (get_or S j free)) mark) v false
  same_marked same e = e ∙ rw (eq-eqb (mark_of (get_or S j free)) mark (sym (mark_is h j) ∙ same)) refl
