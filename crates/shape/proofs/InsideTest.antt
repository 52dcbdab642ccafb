-- Inside, decided by signs: of triangles the number that is counted for every n large enough is odd exactly where the number of those whose
-- levels are alike is odd. Assumes nothing.
use mathlib.Core.Path.{◌≡◌, refl, sym, ◌∙◌, ap}
use mathlib.Core.Bool.{Bool, true, false, not, cond}
use mathlib.Core.List.{List, [], ◌∷◌}
use Prim.Native.Nat.{ℕ, suc, ◌+◌, ◌≤◌}
use native.Mathlib.Omega.{arith}
use Rattle.shape.specs.Points.{Point, Shape}
use Rattle.shape.specs.Verdicts.{Says}
use Rattle.shape.specs.Lists.{HowMany, none}
use Rattle.shape.specs.Inside.{Counted, is_odd, Inside}
use Rattle.shape.specs.InsideTest.{is_ahead, odd_with, odd_ahead}
use Rattle.shape.proofs.VerdictLaws.{says_same, says_itself}
use Rattle.shape.proofs.ListLaws.{how_many_unique, how_many_next}
use Rattle.shape.proofs.AheadTest.{enough_ahead, counted_says}

-- Shapes of three corners each.
abbrev pub Triangles : List Shape → Type 0
Triangles [] = Unit {0}
Triangles ([] ∷ Ps) = ⊥
Triangles ((a ∷ []) ∷ Ps) = ⊥
Triangles ((a ∷ b ∷ []) ∷ Ps) = ⊥
Triangles ((a ∷ b ∷ c ∷ []) ∷ Ps) = Triangles Ps
Triangles ((a ∷ b ∷ c ∷ d ∷ more) ∷ Ps) = ⊥

abbrev enough_all : Point → List Shape → ℕ
enough_all p [] = 1
enough_all p (P ∷ Ps) = enough_ahead p P + enough_all p Ps

-- So many are counted for n, an odd number where the decision says so.
record Counts (n : ℕ) (p : Point) (Ps : List Shape) : Type 0 where
  count : ℕ
  counted : HowMany (Counted n p) Ps count
  parity : is_odd count ≡ odd_ahead p Ps

module _ (n : ℕ) (p : Point) where
  next : (P : Shape) (Ps : List Shape) → Says (is_ahead p P) (Counted n p P) → Counts n p Ps → Counts n p (P ∷ Ps)
  next P Ps says c = record {
    count = number (is_ahead p P);
    counted = how_many_next number refl refl says c.counted;
    parity = by_test (is_ahead p P);
  }
    where
      number : Bool → ℕ
      number v = cond v (suc c.count) c.count

      by_test : (v : Bool) → is_odd (number v) ≡ odd_with v (odd_ahead p Ps)
      by_test true = ap not c.parity
      by_test false = c.parity

  counts : (Ps : List Shape) → Triangles Ps → enough_all p Ps ≤ n → Counts n p Ps
  counts [] t l = record { count = 0; counted = none; parity = refl }
  counts ([] ∷ Ps) t l = absurd t
  counts ((a ∷ []) ∷ Ps) t l = absurd t
  counts ((a ∷ b ∷ []) ∷ Ps) t l = absurd t
  counts ((a ∷ b ∷ c ∷ []) ∷ Ps) t l = next (a ∷ b ∷ c ∷ []) Ps (counted_says n p a b c (omega (arith, l))) (counts Ps t (omega (arith, l)))
  counts ((a ∷ b ∷ c ∷ d ∷ more) ∷ Ps) t l = absurd t

-- The decision says whether the point is inside.
pub inside_says : (p : Point) (Ps : List Shape) → Triangles Ps → Says (odd_ahead p Ps) (Inside p Ps)
inside_says p Ps t = says_same (to, from) (says_itself (odd_ahead p Ps))
  where
    to : odd_ahead p Ps ≡ true → Inside p Ps
    to e = record {
      enough = enough_all p Ps;
      from_there = λ n l. let c = counts n p Ps t l in record { count = c.count; counted = c.counted; odd = c.parity ∙ e };
    }

    from : Inside p Ps → odd_ahead p Ps ≡ true
    from h =
        let n = enough_all p Ps + h.enough in
        let c = counts n p Ps t (omega arith) in
        let o = h.from_there n (omega arith) in
        sym c.parity ∙ ap is_odd (how_many_unique c.counted o.counted) ∙ o.odd
