-- The weighted sum of a function over the corners of a shape is linear and monotone in that function. Coordinates,
-- functionals and moves are all such functions, so these few laws carry the rest. Assumes nothing.
use mathlib.Core.Path.{◌≡◌, refl, sym, ◌∙◌, ap, ap₂}
use mathlib.Core.List.{List, [], ◌∷◌, map}
use Prim.Native.Nat.{ℕ}
use native.Mathlib.Omega.{arith}
use lib.ListN.{length}
use lib.IntN.{ℤ, pos, ◌+ℤ◌, ◌*ℤ◌, *ℤ-zero, zero-*ℤ}
use lib.Signed.{◌≤ℤ◌, ≤ℤ_refl}
use Rattle.algebra.proofs.Expression.{var, lit, ◌⊞◌, ◌⊠◌}
use Rattle.algebra.proofs.Solver.{◌≗◌, solve}
use Rattle.algebra.proofs.Order.{0≤-pos}
use Rattle.algebra.proofs.Certificate.{◌≦◌, hyp, num, ◌⊕◌, ◌⊗◌, prove≤}
use Rattle.shape.specs.Points.{Point, Shape}
use Rattle.shape.specs.Sharing.{total, weigh}

-- What holds of every corner.
abbrev pub Every : (Point → Type 0) → Shape → Type 0
Every F [] = Unit {0}
Every F (a ∷ P) = F a × Every F P

pub weigh_add : (f g : Point → ℤ) (ws : List ℕ) (P : Shape) →
    weigh (λ a. f a +ℤ g a) ws P ≡ weigh f ws P +ℤ weigh g ws P
weigh_add f g [] P = refl
weigh_add f g (w ∷ ws) [] = refl
weigh_add f g (w ∷ ws) (a ∷ P) =
    ap (λ (z : ℤ). pos w *ℤ (f a +ℤ g a) +ℤ z) (weigh_add f g ws P)
    ∙ solve 5 (λ w x y X Y. w ⊠ (x ⊞ y) ⊞ (X ⊞ Y) ≗ (w ⊠ x ⊞ X) ⊞ (w ⊠ y ⊞ Y)) (tt, refl)
    (pos w) (f a) (g a) (weigh f ws P) (weigh g ws P)

pub weigh_scale : (c : ℤ) (f : Point → ℤ) (ws : List ℕ) (P : Shape) → weigh (λ a. c *ℤ f a) ws P ≡ c *ℤ weigh f ws P
weigh_scale c f [] P = sym (*ℤ-zero c)
weigh_scale c f (w ∷ ws) [] = sym (*ℤ-zero c)
weigh_scale c f (w ∷ ws) (a ∷ P) =
    ap (λ (z : ℤ). pos w *ℤ (c *ℤ f a) +ℤ z) (weigh_scale c f ws P)
    ∙ solve 4 (λ w c x X. w ⊠ (c ⊠ x) ⊞ c ⊠ X ≗ c ⊠ (w ⊠ x ⊞ X)) (tt, refl) (pos w) c (f a) (weigh f ws P)

pub weigh_const : (m : ℤ) (ws : List ℕ) (P : Shape) → length ws ≡ length P → weigh (λ a. m) ws P ≡ pos (total ws) *ℤ m
weigh_const m [] P e = sym (zero-*ℤ m)
weigh_const m (w ∷ ws) [] e = absurd (omega (arith, e))
weigh_const m (w ∷ ws) (a ∷ P) e =
    ap (λ (z : ℤ). pos w *ℤ m +ℤ z) (weigh_const m ws P (omega (arith, e)))
    ∙ solve 3 (λ w t m. w ⊠ m ⊞ t ⊠ m ≗ (w ⊞ t) ⊠ m) (tt, refl) (pos w) (pos (total ws)) m

pub weigh_zero : (ws : List ℕ) (P : Shape) → weigh (λ a. pos 0) ws P ≡ pos 0
weigh_zero [] P = refl
weigh_zero (w ∷ ws) [] = refl
weigh_zero (w ∷ ws) (a ∷ P) = ap₂ ◌+ℤ◌ (*ℤ-zero (pos w)) (weigh_zero ws P)

-- Functions that agree at every corner have the same sum.
pub weigh_every : (f g : Point → ℤ) (ws : List ℕ) (P : Shape) → Every (λ a. f a ≡ g a) P → weigh f ws P ≡ weigh g ws P
weigh_every f g [] P h = refl
weigh_every f g (w ∷ ws) [] h = refl
weigh_every f g (w ∷ ws) (a ∷ P) h = ap₂ (λ (y z : ℤ). pos w *ℤ y +ℤ z) h.0 (weigh_every f g ws P h.1)

-- What holds of every point holds of every corner.
pub every_point : {F : Point → Type 0} → ((a : Point) → F a) → (P : Shape) → Every F P
every_point h [] = tt
every_point h (a ∷ P) = (h a, every_point h P)

-- What follows at each corner from what holds there.
pub every_so : {F G : Point → Type 0} → ((a : Point) → F a → G a) → (P : Shape) → Every F P → Every G P
every_so f [] h = tt
every_so f (a ∷ P) h = (f a h.0, every_so f P h.1)

pub weigh_map : (f : Point → ℤ) (h : Point → Point) (ws : List ℕ) (P : Shape) →
    weigh f ws (map h P) ≡ weigh (λ a. f (h a)) ws P
weigh_map f h [] P = refl
weigh_map f h (w ∷ ws) [] = refl
weigh_map f h (w ∷ ws) (a ∷ P) = ap (λ (z : ℤ). pos w *ℤ f (h a) +ℤ z) (weigh_map f h ws P)

pub weigh_le : (f g : Point → ℤ) (ws : List ℕ) (P : Shape) → Every (λ a. f a ≤ℤ g a) P → weigh f ws P ≤ℤ weigh g ws P
weigh_le f g [] P h = ≤ℤ_refl (pos 0)
weigh_le f g (w ∷ ws) [] h = ≤ℤ_refl (pos 0)
weigh_le f g (w ∷ ws) (a ∷ P) h =
    prove≤ (pos w ∷ f a ∷ g a ∷ weigh f ws P ∷ weigh g ws P ∷ [])
    ((lit (pos 0) ≦ var 0) ∷ (var 1 ≦ var 2) ∷ (var 3 ≦ var 4) ∷ [])
    (var 0 ⊠ var 1 ⊞ var 3) (var 0 ⊠ var 2 ⊞ var 4) (num 1) (hyp 0 ⊗ hyp 1 ⊕ hyp 2) tt tt refl
    (0≤-pos w) h.0 (weigh_le f g ws P h.1)
