-- A list that is written over from the front by another, and one that is written element by element. Assumes nothing.
use mathlib.Core.Path.{◌≡◌, sym, ap, ◌∙◌, subst}
use mathlib.Core.List.{List, ◌++◌, append-nil}
use Prim.Native.Nat.{ℕ, suc, ◌+◌, ◌≤◌, ◌<◌}
use native.Mathlib.Omega.{arith}
use borrow.Author.Count.{below_more}
use lib.ListN.{set, get_or, length, take, drop, drop_of_length-le}
use lib.Seq.{drop-cons, set_at, get_or_at, append_snoc, take-suc, length-take-le, take_all, get_or-set_same, get_or-set_other}

module _ {A : Type 0} where
  -- The list `old` with its first k elements those of `new`.
  abbrev pub over : List A → List A → ℕ → List A
  over old new k = take k new ++ drop k old

  -- The next element is still that of `old`.
  pub over_at : (old new : List A) (k : ℕ) (z : A) → k < length old → k < length new → get_or (over old new k) k z ≡ get_or old k z
  over_at old new k z hold hnew =
      ap (λ (r : List A). get_or (take k new ++ r) k z) (drop-cons old k z hold)
      ∙ get_or_at (take k new) (get_or old k z) (drop (suc k) old) z k (length-take-le k new (omega arith))

  -- One element more.
  pub over_more : (old new : List A) (k : ℕ) (z : A) → k < length old → k < length new → set (over old new k) k (get_or new k z) ≡ over old new (suc k)
  over_more old new k z hold hnew =
      ap (λ (r : List A). set (take k new ++ r) k (get_or new k z)) (drop-cons old k z hold)
      ∙ set_at (take k new) (get_or old k z) (drop (suc k) old) (get_or new k z) k (length-take-le k new (omega arith))
      ∙ sym (append_snoc (take k new) (get_or new k z) (drop (suc k) old))
      ∙ ap (λ (r : List A). r ++ drop (suc k) old) (sym (take-suc new k z hnew))

  -- All of them.
  pub over_end : (old new : List A) (k : ℕ) → length old ≤ k → over old new k ≡ take k new
  over_end old new k h = ap (λ (r : List A). take k new ++ r) (drop_of_length-le old h) ∙ append-nil (take k new)

  pub over_all : (old new : List A) (k : ℕ) → length old ≤ k → length new ≤ k → over old new k ≡ new
  over_all old new k h g = over_end old new k h ∙ take_all k new g

  -- ---- elements written one after the other
  -- What holds of the first k, and of the next, holds of all that are there, where each has a place of its own.
  pub written_at : (place : ℕ → ℕ) (k : ℕ) (xs : List A) (new z : A) (P : ℕ → A → Type 0) → ((j : ℕ) → j < k → place j ≡ place k → ⊥) →
      place k < length xs → P k new → ((j : ℕ) → j < k → P j (get_or xs (place j) z)) →
      (j : ℕ) → j < k + 1 → P j (get_or (set xs (place k) new) (place j) z)
  written_at place k xs new z P other inside this earlier =
      below_more (λ j. P j (get_or (set xs (place k) new) (place j) z)) k
      (λ j h. subst (P j) (sym (get_or-set_other xs (place k) (place j) new z (other j h))) (earlier j h))
      (subst (P k) (sym (get_or-set_same xs (place k) new z inside)) this)

  -- The same from the front on.
  pub written_hold : (k : ℕ) (xs : List A) (new z : A) (P : ℕ → A → Type 0) → k < length xs → P k new →
      ((j : ℕ) → j < k → P j (get_or xs j z)) → (j : ℕ) → j < k + 1 → P j (get_or (set xs k new) j z)
  written_hold k xs new z P = written_at (λ j. j) k xs new z P (λ j h e. omega arith)
