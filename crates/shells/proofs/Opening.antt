-- A shell is open exactly where some edge of some triangle is. Assumes nothing.
use mathlib.Core.Path.{◌≡◌, refl, sym, ◌∙◌}
use mathlib.Core.Bool.{Bool, true, false, not, cond}
use mathlib.Core.List.{List, [], ◌∷◌}
use lib.Dec.{eqb}
use Rattle.shape.specs.Points.{Shape}
use Rattle.shape.specs.Lists.{some, held_by}
use Rattle.shape.specs.Shells.{Edge, reverse, edges_of, occurs, each_once, is_closed}
use Rattle.shape.proofs.ListLaws.{some_held}
use Rattle.shells.specs.Opening.{edge_open}

module _ (Ps : List Shape) where
  abbrev all : List Edge
  all = held_by edges_of Ps

  not_once : (es : List Edge) → some (edge_open Ps) es ≡ not (each_once es all)
  not_once [] = refl
  not_once (e ∷ es) = by_tests (eqb (occurs e all) 1) (eqb (occurs (reverse e) all) 1) (not_once es)
    where
      by_tests : (v w : Bool) → some (edge_open Ps) es ≡ not (each_once es all) →
          cond (cond v (not w) true) true (some (edge_open Ps) es) ≡ not (cond v (cond w (each_once es all) false) false)
      by_tests true true h = h
      by_tests true false h = refl
      by_tests false w h = refl

  pub open_says : some (λ P. some (edge_open Ps) (edges_of P)) Ps ≡ not (is_closed Ps)
  open_says = sym (some_held (edge_open Ps) edges_of Ps) ∙ not_once all
