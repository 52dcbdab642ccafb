-- A point and a shell moved by one vector: the point is inside exactly where it was, and the shell is closed exactly where it was. What decides are
-- differences of coordinates, which stay. Assumes nothing.
use mathlib.Core.Path.{◌≡◌, refl, sym, ap, ◌∙◌}
use mathlib.Core.Bool.{false, cond}
use mathlib.Core.List.{List, [], ◌∷◌, ◌++◌, map}
use mathlib.Core.Logic.{◌↔◌}
use Prim.Native.Nat.{ℕ, suc}
use lib.Dec.{eqb}
use lib.IntN.{pos, ◌-ℤ◌, ◌*ℤ◌}
use Rattle.algebra.proofs.Expression.{var, ◌⊞◌, ◌⊟◌}
use Rattle.algebra.proofs.Solver.{ring}
use Rattle.shape.specs.Points.{Point, Shape, coord, moved, moved_all}
use Rattle.shape.specs.Signs.{row}
use Rattle.shape.specs.Flat.{is_zero, all_below}
use Rattle.shape.specs.Lists.{held_by}
use Rattle.shape.specs.Normals.{minors}
use Rattle.shape.specs.Inside.{Inside}
use Rattle.shape.specs.Shells.{Edge, reverse, same_edge, edges_of, occurs, each_once, is_closed}
use Rattle.shape.specs.InsideTest.{leading, edge_level, plane_level, all_alike, is_ahead, odd_with, odd_ahead}
use Rattle.shape.proofs.VerdictLaws.{says_yes, says_fixed}
use Rattle.shape.proofs.Trading.{coord_moved}
use Rattle.shape.proofs.SignLaws.{bracket_moved}
use Rattle.shape.proofs.InsideTest.{Triangles, inside_says}

module _ (d : Point) where
  -- A difference of coordinates stays.
  gap_moved : (i : ℕ) (a b : Point) → coord i (moved d b) -ℤ coord i (moved d a) ≡ coord i b -ℤ coord i a
  gap_moved i a b =
      (λ k. coord_moved i d b k -ℤ coord_moved i d a k)
      ∙ ring (coord i d ∷ coord i a ∷ coord i b ∷ []) ((var 0 ⊞ var 2) ⊟ (var 0 ⊞ var 1)) (var 2 ⊟ var 1) tt refl

  row_moved : (a c : Point) → row (moved d a) (moved d c) ≡ row a c
  row_moved a c k = gap_moved 0 c a k ∷ gap_moved 1 c a k ∷ gap_moved 2 c a k ∷ []

  -- ---- inside
  edge_level_moved : (a b p : Point) → edge_level (moved d a) (moved d b) (moved d p) ≡ edge_level a b p
  edge_level_moved a b p k =
      leading
      ((gap_moved 1 p a k *ℤ gap_moved 2 p b k -ℤ gap_moved 2 p a k *ℤ gap_moved 1 p b k) ∷ gap_moved 2 b a k ∷ gap_moved 1 a b k ∷ [])

  plane_level_moved : (a b c p : Point) → plane_level (moved d a) (moved d b) (moved d c) (moved d p) ≡ plane_level a b c p
  plane_level_moved a b c p k =
      leading
      (bracket_moved d (a ∷ b ∷ c ∷ p ∷ []) k ∷ (pos 0 -ℤ coord 1 (minors (row_moved a c k) (row_moved b c k)))
      ∷ (pos 0 -ℤ coord 2 (minors (row_moved a c k) (row_moved b c k))) ∷ [])

  ahead_moved : (p : Point) (P : Shape) → is_ahead (moved d p) (moved_all d P) ≡ is_ahead p P
  ahead_moved p [] = refl
  ahead_moved p (a ∷ []) = refl
  ahead_moved p (a ∷ b ∷ []) = refl
  ahead_moved p (a ∷ b ∷ c ∷ []) =
      λ k. all_alike (edge_level_moved a b p k) (edge_level_moved b c p k) (edge_level_moved c a p k) (plane_level_moved a b c p k)
  ahead_moved p (a ∷ b ∷ c ∷ e ∷ more) = refl

  odd_moved : (p : Point) (Ps : List Shape) → odd_ahead (moved d p) (map (moved_all d) Ps) ≡ odd_ahead p Ps
  odd_moved p [] = refl
  odd_moved p (P ∷ Ps) = λ k. odd_with (ahead_moved p P k) (odd_moved p Ps k)

  triangles_moved : (Ps : List Shape) → Triangles Ps → Triangles (map (moved_all d) Ps)
  triangles_moved [] t = t
  triangles_moved ([] ∷ Ps) t = t
  triangles_moved ((a ∷ []) ∷ Ps) t = t
  triangles_moved ((a ∷ b ∷ []) ∷ Ps) t = t
  triangles_moved ((a ∷ b ∷ c ∷ []) ∷ Ps) t = triangles_moved Ps t
  triangles_moved ((a ∷ b ∷ c ∷ e ∷ more) ∷ Ps) t = t

  pub inside_moved : (p : Point) (Ps : List Shape) → Triangles Ps → Inside (moved d p) (map (moved_all d) Ps) ↔ Inside p Ps
  inside_moved p Ps t =
      let here = inside_says p Ps t in
      let there = inside_says (moved d p) (map (moved_all d) Ps) (triangles_moved Ps t) in (
        (λ h. here.yes (sym (odd_moved p Ps) ∙ says_fixed there (says_yes h))),
        (λ h. there.yes (odd_moved p Ps ∙ says_fixed here (says_yes h))),
      )

  -- ---- closed
  abbrev moved_edge : Edge → Edge
  moved_edge e = (moved d e.0, moved d e.1)

  same_edge_moved : (e f : Edge) → same_edge (moved_edge e) (moved_edge f) ≡ same_edge e f
  same_edge_moved e f k =
      cond (all_below 3 (λ i. is_zero (gap_moved i e.0 f.0 k))) (all_below 3 (λ i. is_zero (gap_moved i e.1 f.1 k))) false

  occurs_moved : (e : Edge) (es : List Edge) → occurs (moved_edge e) (map moved_edge es) ≡ occurs e es
  occurs_moved e [] = refl
  occurs_moved e (f ∷ es) = λ k. cond (same_edge_moved e f k) (suc (occurs_moved e es k)) (occurs_moved e es k)

  once_moved : (es all : List Edge) → each_once (map moved_edge es) (map moved_edge all) ≡ each_once es all
  once_moved [] all = refl
  once_moved (e ∷ es) all =
      λ k. cond (eqb (occurs_moved e all k) 1) (cond (eqb (occurs_moved (reverse e) all k) 1) (once_moved es all k) false) false

  edges_moved : (P : Shape) (es : List Edge) → edges_of (moved_all d P) ++ map moved_edge es ≡ map moved_edge (edges_of P ++ es)
  edges_moved [] es = refl
  edges_moved (a ∷ []) es = refl
  edges_moved (a ∷ b ∷ []) es = refl
  edges_moved (a ∷ b ∷ c ∷ []) es = refl
  edges_moved (a ∷ b ∷ c ∷ e ∷ more) es = refl

  all_moved : (Ps : List Shape) → held_by edges_of (map (moved_all d) Ps) ≡ map moved_edge (held_by edges_of Ps)
  all_moved [] = refl
  all_moved (P ∷ Ps) = ap (λ (es : List Edge). edges_of (moved_all d P) ++ es) (all_moved Ps) ∙ edges_moved P (held_by edges_of Ps)

  pub closed_moved : (Ps : List Shape) → is_closed (map (moved_all d) Ps) ≡ is_closed Ps
  closed_moved Ps = (λ k. each_once (all_moved Ps k) (all_moved Ps k)) ∙ once_moved (held_by edges_of Ps) (held_by edges_of Ps)
