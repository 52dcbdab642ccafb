-- Laws of the words of specs/Lists.antt: some element that passes a test, the lowest one, what the elements hold, and how many have a property.
-- Where elements are named by their index, z stands past the end. Assumes nothing.
use mathlib.Core.Path.{◌≡◌, refl, sym, ap, subst, ◌∙◌}
use mathlib.Core.Bool.{Bool, true, false, cond}
use mathlib.Core.List.{List, [], ◌∷◌, ◌++◌, append_assoc}
use mathlib.Core.Logic.{◌↔◌}
use Prim.Native.Nat.{ℕ, zero, suc, ◌<◌, ◌≤◌}
use native.Mathlib.Omega.{arith}
use lib.ListN.{length, get_or}
use Rattle.shape.specs.Verdicts.{Says}
use Rattle.shape.specs.Lists.{some, lowest, held_by, HowMany, none, one, pass}

-- An element that passes the test.
pub record Found {A : Type 0} (f : A → Bool) (z : A) (l : List A) : Type 0 where
  pub i : ℕ
  pub inside : i < length l
  pub passes : f (get_or l i z) ≡ true

module _ {A : Type 0} (f : A → Bool) (z : A) where
  pub some_at : (l : List A) (i : ℕ) → i < length l → f (get_or l i z) ≡ true → some f l ≡ true
  some_at [] i h e = absurd (omega arith)
  some_at (x ∷ xs) zero h e = rw e
  some_at (x ∷ xs) (suc i) h e = by_head (f x) (some_at xs i (omega arith) e)
    where
      by_head : (b : Bool) → some f xs ≡ true → cond b true (some f xs) ≡ true
      by_head true later = refl
      by_head false later = later

  pub some_none : (l : List A) → ((k : ℕ) → k < length l → f (get_or l k z) ≡ false) → some f l ≡ false
  some_none [] g = refl
  some_none (x ∷ xs) g = rw (g 0 (omega arith)) (some_none xs (λ k h. g (suc k) (omega arith)))

  pub some_found : (l : List A) → some f l ≡ true → Found f z l
  some_found [] e = let y : ◌≡◌ {A = ℕ} 0 1 = cc in absurd (omega arith)
  some_found (x ∷ xs) e = by_head (f x) refl e (some_found xs)
    where
      by_head : (b : Bool) → f x ≡ b → cond b true (some f xs) ≡ true → (some f xs ≡ true → Found f z xs) → Found f z (x ∷ xs)
      by_head true is e later = record { i = 0; inside = omega arith; passes = is }
      by_head false is e later = let w = later e in record { i = suc w.i; inside = omega (arith, w.inside); passes = w.passes }

  pub lowest_at : (l : List A) (i : ℕ) → ((k : ℕ) → k < i → f (get_or l k z) ≡ false) → i < length l → f (get_or l i z) ≡ true → lowest f l ≡ i
  lowest_at [] i g h e = absurd (omega arith)
  lowest_at (x ∷ xs) zero g h e = rw e
  lowest_at (x ∷ xs) (suc i) g h e = rw (g 0 (omega arith)) (ap suc (lowest_at xs i (λ k b. g (suc k) (omega arith)) (omega arith) e))

  pub lowest_none : (l : List A) → ((k : ℕ) → k < length l → f (get_or l k z) ≡ false) → lowest f l ≡ length l
  lowest_none [] g = refl
  lowest_none (x ∷ xs) g = rw (g 0 (omega arith)) (ap suc (lowest_none xs (λ k b. g (suc k) (omega arith))))

  pub below_lowest : (l : List A) (i : ℕ) → i < lowest f l → f (get_or l i z) ≡ false
  below_lowest [] i h = absurd (omega arith)
  below_lowest (x ∷ xs) i h = by_head (f x) refl i h (below_lowest xs)
    where
      by_head : (b : Bool) → f x ≡ b → (i : ℕ) → i < cond b 0 (suc (lowest f xs)) →
          ((k : ℕ) → k < lowest f xs → f (get_or xs k z) ≡ false) → f (get_or (x ∷ xs) i z) ≡ false
      by_head true is i h later = absurd (omega arith)
      by_head false is zero h later = is
      by_head false is (suc i) h later = later i (omega arith)

-- ---- two lists one after the other
module _ {A : Type 0} (f : A → Bool) where
  pub some_append : (x y : List A) → some f (x ++ y) ≡ cond (some f x) true (some f y)
  some_append [] y = refl
  some_append (a ∷ x) y = by_head (f a) (some_append x y)
    where
      by_head : (b : Bool) → some f (x ++ y) ≡ cond (some f x) true (some f y) → cond b true (some f (x ++ y)) ≡ cond (cond b true (some f x)) true (some f y)
      by_head true e = refl
      by_head false e = e

  -- Something that is held passes exactly where some element holds such a thing.
  pub some_held : {B : Type 0} (holds : B → List A) (l : List B) → some f (held_by holds l) ≡ some (λ x. some f (holds x)) l
  some_held holds [] = refl
  some_held holds (x ∷ l) = some_append (holds x) (held_by holds l) ∙ ap (λ (v : Bool). cond (some f (holds x)) true v) (some_held holds l)

pub held_append : {A B : Type 0} (holds : A → List B) (x y : List A) → held_by holds (x ++ y) ≡ held_by holds x ++ held_by holds y
held_append holds [] y = refl
held_append {B} holds (a ∷ x) y =
    ap (λ (l : List B). holds a ++ l) (held_append holds x y) ∙ sym (append_assoc (holds a) (held_by holds x) (held_by holds y))

-- ---- how many
-- There is one such number, and it is no larger than the length.
pub how_many_unique : {A : Type 0} {Has : A → Type 0} {l : List A} {m n : ℕ} → HowMany Has l m → HowMany Has l n → m ≡ n
how_many_unique none none = refl
how_many_unique (one c h) (one d k) = ap suc (how_many_unique h k)
how_many_unique (one c h) (pass d k) = absurd (d c)
how_many_unique (pass c h) (one d k) = absurd (c d)
how_many_unique (pass c h) (pass d k) = how_many_unique h k

-- An element more: a test says whether it is counted, and the number goes by the test.
pub how_many_next : {A : Type 0} {Has : A → Type 0} {x : A} {xs : List A} {n : ℕ} (number : Bool → ℕ) → number true ≡ suc n → number false ≡ n →
    {v : Bool} → Says v (Has x) → HowMany Has xs n → HowMany Has (x ∷ xs) (number v)
how_many_next {Has} {x} {xs} number more same {v = true} says later = subst (HowMany Has (x ∷ xs)) (sym more) (one (says.yes refl) later)
how_many_next {Has} {x} {xs} number more same {v = false} says later = subst (HowMany Has (x ∷ xs)) (sym same) (pass (says.no refl) later)

-- Properties that hold together are counted alike.
pub how_many_as : {A : Type 0} {Has Other : A → Type 0} {l : List A} {n : ℕ} → ((x : A) → Has x ↔ Other x) → HowMany Has l n → HowMany Other l n
how_many_as same none = none
how_many_as same (one {x} c h) = one ((same x).0 c) (how_many_as same h)
how_many_as same (pass {x} c h) = pass (λ d. c ((same x).1 d)) (how_many_as same h)

pub how_many_most : {A : Type 0} {Has : A → Type 0} {l : List A} {n : ℕ} → HowMany Has l n → n ≤ length l
how_many_most none = omega arith
how_many_most (one c h) = omega (arith, how_many_most h)
how_many_most (pass c h) = omega (arith, how_many_most h)
