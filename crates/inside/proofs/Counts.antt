-- Whether a number is odd, counted; and the triangles of a list of numbers on the grid. Assumes nothing.
use Rattle.std.proofs.Common.{◌≡◌, refl, ap, ◌∙◌, ℕ, zero, suc, ◌+◌, ◌%◌, ◌<◌, Bool, true, false, cond, not, eqb, List, [], ◌∷◌, filter, length, arith, ℤ}
use Rattle.shape.specs.Points.{Point}
use Rattle.shape.specs.InsideTest.{is_ahead, odd_with, odd_ahead}
use Rattle.shape.specs.TriangleLists.{triangle_of, triangles_of}

abbrev pub is_odd : ℕ → Bool
is_odd n = eqb (n % 2) 1

odd_next : (n : ℕ) → is_odd (suc n) ≡ not (is_odd n)
odd_next n = by_rest (n % 2) (suc n % 2) (omega arith) (omega arith)
  where
    by_rest : (r s : ℕ) → r < 2 → r + s ≡ 1 → eqb s 1 ≡ not (eqb r 1)
    by_rest zero s h e = let one : s ≡ 1 = omega arith in ap (λ (k : ℕ). eqb k 1) one
    by_rest (suc zero) s h e = let none : s ≡ 0 = omega arith in ap (λ (k : ℕ). eqb k 1) none
    by_rest (suc (suc r)) s h e = absurd (omega arith)

-- Those that are ahead of p, counted: an odd number or not.
pub odd_counted : (p : Point) (ts : List (List ℤ)) → is_odd (length (filter (λ t. is_ahead p (triangle_of t)) ts)) ≡ odd_ahead p (triangles_of ts)
odd_counted p [] = refl
odd_counted p (t ∷ ts) = by_head (is_ahead p (triangle_of t)) (odd_counted p ts)
  where
    ahead : List (List ℤ)
    ahead = filter (λ u. is_ahead p (triangle_of u)) ts

    by_head : (b : Bool) → is_odd (length ahead) ≡ odd_ahead p (triangles_of ts) →
        is_odd (length (cond b (t ∷ ahead) ahead)) ≡ odd_with b (odd_ahead p (triangles_of ts))
    by_head true h = odd_next (length ahead) ∙ ap not h
    by_head false h = h
