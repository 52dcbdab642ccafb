-- Closed shells in document 02's words (Q-4): each directed edge occurs once and its reverse once. Nothing computes by them; `closed_says` shows that the
-- test of specs/Shells.antt tells the closed shells. Assumes nothing.
use mathlib.Core.Path.{refl, sym, subst, ◌∙◌}
use mathlib.Core.Bool.{Bool, true, false, cond}
use mathlib.Core.List.{List, [], ◌∷◌}
use mathlib.Core.Logic.{◌↔◌}
use Prim.Native.Nat.{ℕ, suc}
use native.Mathlib.Omega.{arith}
use borrow.Author.Tests.{eqb-true, eqb-false}
use lib.Dec.{eqb}
use Rattle.shape.specs.Points.{Shape}
use Rattle.shape.specs.Flat.{Equal}
use Rattle.shape.specs.Verdicts.{Says}
use Rattle.shape.specs.Lists.{held_by, HowMany, none, one, pass}
use Rattle.shape.specs.Shells.{Edge, reverse, same_edge, edges_of, occurs, each_once, is_closed}
use Rattle.shape.proofs.VerdictLaws.{says_both, says_same, says_yes}
use Rattle.shape.proofs.Steps.{each_once_step}
use Rattle.shape.proofs.FlatLaws.{is_flat_law}
use Rattle.shape.proofs.ListLaws.{how_many_unique, how_many_next, how_many_most, how_many_as}

-- Two directed edges are one: they begin at the same point, and end at the same point.
pub record OneEdge (e f : Edge) : Type 0 where
  pub begins : Equal 3 e.0 f.0
  pub ends : Equal 3 e.1 f.1

-- A directed edge occurs so many times among the edges of these triangles, three each.
abbrev pub Times : List Shape → Edge → ℕ → Type 0
Times Ps e = HowMany (OneEdge e) (held_by edges_of Ps)

-- The shell of these triangles is closed: a directed edge that occurs at all occurs once, and its reverse once. (So a shell of no triangles is closed, and
-- one in which a triangle is there twice is not. An edge whose ends are one point, which no triangle of a plate has, is its own reverse.)
abbrev pub ClosedShell : List Shape → Type 0
ClosedShell Ps = (e : Edge) (n : ℕ) → Times Ps e (suc n) → Times Ps e 1 × Times Ps (reverse e) 1

-- ---- the test tells them
edge_says : (e f : Edge) → Says (same_edge e f) (OneEdge e f)
edge_says e f =
    says_same ((λ h. record { begins = h.0; ends = h.1 }), (λ h. (h.begins, h.ends)))
    (says_both (is_flat_law 3 (e.0 ∷ f.0 ∷ [])) (is_flat_law 3 (e.1 ∷ f.1 ∷ [])))

edge_itself : (e : Edge) → OneEdge e e
edge_itself e = record { begins = λ i l. refl; ends = λ i l. refl }

edge_turned : {e f : Edge} → OneEdge e f → OneEdge (reverse e) (reverse f)
edge_turned h = record { begins = h.ends; ends = h.begins }

-- What is one with the one is one with the other.
edge_as : {e f : Edge} → OneEdge e f → (g : Edge) → OneEdge f g ↔ OneEdge e g
edge_as h g = (
  (λ k. record { begins = λ i l. h.begins i l ∙ k.begins i l; ends = λ i l. h.ends i l ∙ k.ends i l }),
  (λ k. record { begins = λ i l. sym (h.begins i l) ∙ k.begins i l; ends = λ i l. sym (h.ends i l) ∙ k.ends i l }),
)

-- The test counts them.
counted : (e : Edge) (es : List Edge) → HowMany (OneEdge e) es (occurs e es)
counted e [] = none
counted e (f ∷ es) = how_many_next (λ v. cond v (suc (occurs e es)) (occurs e es)) refl refl (edge_says e f) (counted e es)

abbrev Once : Edge → List Edge → Type 0
Once e es = HowMany (OneEdge e) es 1

once_says : (e : Edge) (es : List Edge) → Says (eqb (occurs e es) 1) (Once e es)
once_says e es = record {
  yes = λ v. subst (HowMany (OneEdge e) es) (eqb-true (occurs e es) 1 v) (counted e es);
  no = λ v h. eqb-false (occurs e es) 1 v (how_many_unique (counted e es) h);
}

-- Every edge that occurs in the one list occurs once in the other, and its reverse once.
abbrev EachOnce : (es all : List Edge) → Type 0
EachOnce es all = (e : Edge) (n : ℕ) → HowMany (OneEdge e) es (suc n) → Once e all × Once (reverse e) all

each_says : (es all : List Edge) → Says (each_once es all) (EachOnce es all)
each_says [] all = says_yes (λ e n h. absurd (omega (arith, how_many_most h)))
each_says (f ∷ es) all = says_same (to, from) (each_once_step f es all (once_says f all) (once_says (reverse f) all) (each_says es all))
  where
    to : Once f all × (Once (reverse f) all × EachOnce es all) → EachOnce (f ∷ es) all
    to h e n (one is k) = (how_many_as (edge_as is) h.0, how_many_as (edge_as (edge_turned is)) h.1.0)
    to h e n (pass is k) = h.1.1 e n k

    from : EachOnce (f ∷ es) all → Once f all × (Once (reverse f) all × EachOnce es all)
    from h =
        let first = h f (occurs f es) (one (edge_itself f) (counted f es)) in
        (first.0, (first.1, λ e n k. by_test e n k (same_edge e f) (edge_says e f)))
      where
        by_test : (e : Edge) (n : ℕ) → HowMany (OneEdge e) es (suc n) → (v : Bool) → Says v (OneEdge e f) → Once e all × Once (reverse e) all
        by_test e n k true s = h e (suc n) (one (s.yes refl) k)
        by_test e n k false s = h e n (pass (s.no refl) k)

-- The test says whether the shell is closed.
pub closed_says : (Ps : List Shape) → Says (is_closed Ps) (ClosedShell Ps)
closed_says Ps = each_says (held_by edges_of Ps) (held_by edges_of Ps)
