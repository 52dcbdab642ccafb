-- Words about lists of anything: whether some element passes a test, the lowest index whose element does, what the elements hold, one after the
-- other, and how many of them have a property.
use Rattle.std.specs.Prelude.{Bool, true, false, cond, List, [], ◌∷◌, ◌++◌, ℕ, suc}

-- Whether some element passes the test.
abbrev pub some : {A : Type 0} → (A → Bool) → List A → Bool
some test [] = false
some test (x ∷ xs) = cond (test x) true (some test xs)

-- The lowest index whose element passes the test, or the length where none does.
abbrev pub lowest : {A : Type 0} → (A → Bool) → List A → ℕ
lowest test [] = 0
lowest test (x ∷ xs) = cond (test x) 0 (suc (lowest test xs))

-- What each element holds, one after the other.
abbrev pub held_by : {A B : Type 0} → (A → List B) → List A → List B
held_by holds [] = []
held_by holds (x ∷ xs) = holds x ++ held_by holds xs

-- So many elements have the property. Each is looked at once: it has it, and counts, or it does not have it.
pub data HowMany {A : Type 0} (Has : A → Type 0) : List A → ℕ → Type 0 where
  none : HowMany Has [] 0
  one : {x : A} {xs : List A} {n : ℕ} → Has x → HowMany Has xs n → HowMany Has (x ∷ xs) (suc n)
  pass : {x : A} {xs : List A} {n : ℕ} → (Has x → ⊥) → HowMany Has xs n → HowMany Has (x ∷ xs) n
