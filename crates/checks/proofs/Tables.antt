-- Tables of reasons: a case for each number, side and place, and what an answer gives. Where every case fixes what the answer gives and some case holds,
-- the answer gives a number, a side and a place exactly in their case (`exactly`). Assumes nothing.
use mathlib.Core.Path.{◌≡◌, refl, sym, ap, subst₃, ◌∙◌}
use mathlib.Core.Bool.{Bool, true, false}
use mathlib.Core.Logic.{◌↔◌, ◌⊎◌, inl, inr}
use Prim.Native.Nat.{ℕ, ◌<◌, ◌≤◌}
use borrow.Author.Tests.{leb-true, leb-false}
use lib.Dec.{leb}
use Rattle.checks.specs.Answers.{Answer, served, refused, Check, ◌then◌, number_of, side_of, place_of}

-- An answer gives this number, side and place.
abbrev pub Gives : {A : Type 0} → Answer A → (number side place : ℕ) → Type 0
Gives answer number side place = (number_of answer ≡ number) × (side_of answer ≡ side) × (place_of answer ≡ place)

-- The same answer gives the same.
pub gives_as : {A : Type 0} {a b : Answer A} → a ≡ b → Gives a (number_of b) (side_of b) (place_of b)
gives_as e = (ap number_of e, ap side_of e, ap place_of e)

-- An answer gives what the checks before it give.
pub then_gives : {A : Type 0} (c : Check) (v : A) → Gives (c then served v) (number_of c) (side_of c) (place_of c)
then_gives (served u) v = (refl, refl, refl)
then_gives (refused number side place) v = (refl, refl, refl)

-- Some case holds.
pub record SomeCase (Case : (number side place : ℕ) → Type 0) : Type 0 where
  pub number : ℕ
  pub side : ℕ
  pub place : ℕ
  pub found : Case number side place

-- What every case fixes, where some case holds, is given exactly in its case.
pub exactly : {A : Type 0} (answer : Answer A) (Case : (number side place : ℕ) → Type 0) →
    ((number side place : ℕ) → Case number side place → Gives answer number side place) → SomeCase Case →
    {number side place : ℕ} → Case number side place ↔ Gives answer number side place
exactly answer Case from s {number} {side} {place} = (from number side place, to)
  where
    to : Gives answer number side place → Case number side place
    to e =
        let given = from s.number s.side s.place s.found in
        subst₃ Case (sym given.0 ∙ e.0) (sym given.1 ∙ e.1) (sym given.2 ∙ e.2) s.found

-- What one answer gives exactly in its case, another that gives the same does too.
module _ {A B : Type 0} (a : Answer A) (b : Answer B) (same : Gives a (number_of b) (side_of b) (place_of b)) where
  pub also_exactly : {Case : Type 0} {number side place : ℕ} → Case ↔ Gives b number side place → Case ↔ Gives a number side place
  also_exactly {Case} {number} {side} {place} e = (to, from)
    where
      to : Case → Gives a number side place
      to c = let g = e.0 c in (same.0 ∙ g.0, same.1 ∙ g.1, same.2 ∙ g.2)

      from : Gives a number side place → Case
      from g = e.1 (sym same.0 ∙ g.0, sym same.1 ∙ g.1, sym same.2 ∙ g.2)

-- ---- to find the case
-- A number is at most another, or above it.
pub at_most_or_above : (x y : ℕ) → (x ≤ y) ⊎ (y < x)
at_most_or_above x y = by_test (leb x y) refl
  where
    by_test : (t : Bool) → leb x y ≡ t → (x ≤ y) ⊎ (y < x)
    by_test true e = inl (leb-true x y e)
    by_test false e = inr (leb-false x y e)
