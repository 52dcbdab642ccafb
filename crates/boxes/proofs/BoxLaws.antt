-- Boxes: what the code reads of a list, the best of three numbers, and boxes that are apart, so that the triangles in them are. Assumes nothing.
use mathlib.Core.Path.{◌≡◌, refl, sym, ap, subst, ◌∙◌}
use mathlib.Core.Bool.{Bool, true, false, cond}
use mathlib.Core.List.{List, [], ◌∷◌}
use Prim.Native.Nat.{ℕ, zero, suc, ◌+◌, ◌^◌, ◌<◌}
use native.Mathlib.Omega.{arith}
use borrow.Author.Count.{below_more}
use borrow.Author.Rules.{sfits_of}
use lib.IntN.{ℤ, pos}
use lib.ListN.{length, set, length-set, get_or}
use lib.Signed.{lt_z, mag, ◌≤ℤ◌, ◌<ℤ◌, ≤ℤ_refl, <ℤ-≤ℤ_trans}
use mir.Syntax.{w32}
use mir.Val.{to_z, of_z, hbits}
use mir.Facts.{to_z-of_z}
use Rattle.std.proofs.lemmas.List.{get_or-set_same, get_or-set_other}
use Rattle.algebra.proofs.Order.{lt_true, lt_false, le_of_lt, ≤ℤ-trans}
use Rattle.shape.specs.Points.{coord, point_at, points_at}
use Rattle.shape.specs.Sharing.{Share}
use Rattle.shape.proofs.Apart.{apart_along_law}
use Rattle.shape.proofs.Weights.{Every}
use Rattle.boxes.specs.Boxes.{smaller, larger, better, best_at, box_of}

-- ---- numbers that the code reads
-- A number of a list, stored in 32 bits and read back, is the number.
abbrev kept : ℤ → ℤ
kept z = to_z w32 (of_z w32 z)

abbrev Fits : ℤ → Type 0
Fits z = mag z < 2 ^ hbits w32

pub read : (z : ℤ) → Fits z → kept z ≡ z
read z fits = to_z-of_z (sfits_of {w = w32} {z = z} fits)

-- What a test says of two numbers that were read, it says of the numbers.
pub read_same : (test : ℤ → ℤ → Bool) (x y : ℤ) → Fits x → Fits y → test (kept x) (kept y) ≡ test x y
read_same test x y f g = λ i. test (read x f i) (read y g i)

-- ---- the best of three numbers
module _ (wins : ℤ → ℤ → Bool) (c : ℕ) (l : List ℤ) where
  abbrev x : ℤ
  x = get_or l c (pos 0)

  abbrev y : ℤ
  y = get_or l (c + 3) (pos 0)

  abbrev z : ℤ
  z = get_or l (c + 6) (pos 0)

  -- The better of the first two, and then the better of that and the third, each read where it stands, by an operation that gives the better.
  pub best_read : (pick : ℤ → ℤ → ℤ) → ((x y : ℤ) → pick x y ≡ better wins x y) → {two r : ℤ} → Fits x → Fits y → Fits z → Fits two → Fits r →
      two ≡ pick (kept x) (kept y) → r ≡ pick (kept two) (kept z) → kept r ≡ best_at wins c l
  best_read pick is {two} {r} f g h first last e d =
      read r last
      ∙ d
      ∙ (λ i. pick (read two first i) (read z h i))
      ∙ is two z
      ∙ ap (λ (t : ℤ). better wins t z) (e ∙ (λ i. pick (read x f i) (read y g i)) ∙ is x y)

-- It is as good as each of them, by whatever order the test decides.
module _ (R : ℤ → ℤ → Type 0) (wins : ℤ → ℤ → Bool) (reflexive : (x : ℤ) → R x x) (transitive : (x y z : ℤ) → R x y → R y z → R x z)
    (won : (x y : ℤ) → wins y x ≡ true → R x y) (lost : (x y : ℤ) → wins y x ≡ false → R y x) where
  over_first : (x y : ℤ) → R x (better wins x y)
  over_first x y = by_test (wins y x) refl
    where
      by_test : (t : Bool) → wins y x ≡ t → R x (cond t y x)
      by_test true e = won x y e
      by_test false e = reflexive x

  over_second : (x y : ℤ) → R y (better wins x y)
  over_second x y = by_test (wins y x) refl
    where
      by_test : (t : Bool) → wins y x ≡ t → R y (cond t y x)
      by_test true e = reflexive y
      by_test false e = lost x y e

  over_all : (c : ℕ) (l : List ℤ) → let g = best_at wins c l in
      R (get_or l c (pos 0)) g × R (get_or l (c + 3) (pos 0)) g × R (get_or l (c + 6) (pos 0)) g
  over_all c l =
      let x = get_or l c (pos 0) in
      let y = get_or l (c + 3) (pos 0) in
      let z = get_or l (c + 6) (pos 0) in
      let two = better wins x y in
      let last = over_first two z in
      (transitive x two (better wins two z) (over_first x y) last, transitive y two (better wins two z) (over_second x y) last, over_second two z)

-- ---- the box that is written
-- The least and the greatest coordinate k of the corners.
pub record Bounded (bounds corners : List ℤ) (k : ℕ) : Type 0 where
  pub least : get_or bounds k (pos 0) ≡ best_at smaller k corners
  pub greatest : get_or bounds (k + 3) (pos 0) ≡ best_at larger k corners

module _ {bounds corners : List ℤ} (long : length bounds ≡ 6) where
  -- Those of one coordinate more.
  pub bounded_more : {c : ℕ} {low high : ℤ} → c < 3 → low ≡ best_at smaller c corners → high ≡ best_at larger c corners →
      ((k : ℕ) → k < c → Bounded bounds corners k) → (k : ℕ) → k < c + 1 → Bounded (set (set bounds c low) (c + 3) high) corners k
  bounded_more {c} {low} {high} inside is_low is_high earlier =
      below_more _ c
      (λ k less. record { least = left k (omega arith) (omega arith) ∙ (earlier k less).least; greatest = left (k + 3) (omega arith) (omega arith) ∙ (earlier k less).greatest })
      (record {
        least = get_or-set_other low_put (c + 3) c high (pos 0) (omega arith) ∙ get_or-set_same bounds c low (pos 0) (omega arith) ∙ is_low;
        greatest = get_or-set_same low_put (c + 3) high (pos 0) (omega (arith, length-set bounds c low)) ∙ is_high;
      })
    where
      low_put : List ℤ
      low_put = set bounds c low

      left : (k : ℕ) → (k ≡ c → ⊥) → (k ≡ c + 3 → ⊥) → get_or (set low_put (c + 3) high) k (pos 0) ≡ get_or bounds k (pos 0)
      left k f g = get_or-set_other low_put (c + 3) k high (pos 0) g ∙ get_or-set_other bounds c k low (pos 0) f

  -- All six numbers.
  pub all_bounded : ((k : ℕ) → k < 3 → Bounded bounds corners k) → bounds ≡ box_of corners
  all_bounded each =
      let x = each 0 (omega arith) in
      let y = each 1 (omega arith) in
      let z = each 2 (omega arith) in
      are_all bounds long ∙ (λ i. x.least i ∷ y.least i ∷ z.least i ∷ x.greatest i ∷ y.greatest i ∷ z.greatest i ∷ [])
    where
      are_all : (l : List ℤ) → length l ≡ 6 →
          l ≡ get_or l 0 (pos 0) ∷ get_or l 1 (pos 0) ∷ get_or l 2 (pos 0) ∷ get_or l 3 (pos 0) ∷ get_or l 4 (pos 0) ∷ get_or l 5 (pos 0) ∷ []
      are_all [] h = absurd (omega arith)
      are_all (a ∷ []) h = absurd (omega arith)
      are_all (a ∷ b ∷ []) h = absurd (omega arith)
      are_all (a ∷ b ∷ c ∷ []) h = absurd (omega arith)
      are_all (a ∷ b ∷ c ∷ d ∷ []) h = absurd (omega arith)
      are_all (a ∷ b ∷ c ∷ d ∷ e ∷ []) h = absurd (omega arith)
      are_all (a ∷ b ∷ c ∷ d ∷ e ∷ f ∷ []) h = refl
      are_all (a ∷ b ∷ c ∷ d ∷ e ∷ f ∷ g ∷ l) h = absurd (omega arith)

-- ---- the best of three
-- The least is at most each of the three, and the greatest at least.
least : (c : ℕ) (l : List ℤ) → let g = best_at smaller c l in
    (g ≤ℤ get_or l c (pos 0)) × (g ≤ℤ get_or l (c + 3) (pos 0)) × (g ≤ℤ get_or l (c + 6) (pos 0))
least = over_all (λ x g. g ≤ℤ x) smaller ≤ℤ_refl (λ x y z p q. ≤ℤ-trans q p) (λ x y e. le_of_lt (lt_true e)) (λ x y e. lt_false e)

greatest : (c : ℕ) (l : List ℤ) → let g = best_at larger c l in
    (get_or l c (pos 0) ≤ℤ g) × (get_or l (c + 3) (pos 0) ≤ℤ g) × (get_or l (c + 6) (pos 0) ≤ℤ g)
greatest = over_all (λ x g. x ≤ℤ g) larger ≤ℤ_refl (λ x y z p q. ≤ℤ-trans p q) (λ x y e. le_of_lt (lt_true e)) (λ x y e. lt_false e)

-- ---- triangles that are apart
-- At coordinate c the three numbers of one triangle end before those of the other begin.
abbrev Corners : (ℤ → Type 0) → ℕ → List ℤ → Type 0
Corners F c l = F (get_or l c (pos 0)) × F (get_or l (c + 3) (pos 0)) × F (get_or l (c + 6) (pos 0))

ends_before : (c : ℕ) (P Q : List ℤ) → lt_z (best_at larger c P) (best_at smaller c Q) ≡ true →
    Corners (λ x. x ≤ℤ best_at larger c P) c P × Corners (λ x. best_at larger c P <ℤ x) c Q
ends_before c P Q e =
    let g = greatest c P in
    let l = least c Q in
    let h = lt_true e in
    (g, (<ℤ-≤ℤ_trans h l.0, <ℤ-≤ℤ_trans h l.1, <ℤ-≤ℤ_trans h l.2))

-- They are coordinate c of the corners.
at_corner : (n c p k : ℕ) (l : List ℤ) → c < n → c + p ≡ k → coord c (point_at n p l) ≡ get_or l k (pos 0)
at_corner zero c p k l h e = absurd (omega arith)
at_corner (suc n) zero p k l h e = ap (λ (i : ℕ). get_or l i (pos 0)) (omega arith)
at_corner (suc n) (suc c) p k l h e = at_corner n c (suc p) k l (omega arith) (omega arith)

every_corner : (F : ℤ → Type 0) (c : ℕ) (l : List ℤ) → c < 3 → Corners F c l → Every (λ a. F (coord c a)) (points_at 3 3 0 l)
every_corner F c l h f = (
  subst F (sym (at_corner 3 c 0 c l h (omega arith))) f.0,
  (subst F (sym (at_corner 3 c 3 (c + 3) l h refl)) f.1, (subst F (sym (at_corner 3 c 6 (c + 6) l h refl)) f.2, tt)),
)

pub apart_at : (c : ℕ) → c < 3 → (P Q : List ℤ) → lt_z (best_at larger c P) (best_at smaller c Q) ≡ true →
    Share 3 (points_at 3 3 0 P) (points_at 3 3 0 Q) → ⊥
apart_at c h P Q e =
    let g = best_at larger c P in
    let b = ends_before c P Q e in
    apart_along_law c g h (every_corner (λ x. x ≤ℤ g) c P h b.0) (every_corner (λ x. g <ℤ x) c Q h b.1)
