-- Meeting by a dependence. For n + 2 points in n coordinates the brackets that leave out one point each, with alternating
-- signs, add up to zero, and so do the points with them as weights (`Balanced`). Cut the list of points in two. Where the
-- numbers of the first part are not negative and not all zero, and those of the second not positive, they are the weights of
-- a common point of the two parts. Every "yes" of the tests is an instance of `meet_by_dependence`. Assumes nothing.
use mathlib.Core.Path.{◌≡◌, refl, sym, ◌∙◌, ap}
use mathlib.Core.List.{List, [], ◌∷◌, ◌++◌, map}
use Prim.Native.Nat.{ℕ, zero, suc, ◌+◌, ◌<◌}
use native.Mathlib.Omega.{arith}
use lib.ListN.{length, take, drop, length-map, length-take, length-drop, length-append}
use lib.IntN.{ℤ, pos, neg_ℤ, ◌+ℤ◌, ◌*ℤ◌, +ℤ_idl, +ℤ_assoc, neg_ℤ-+ℤ}
use lib.Signed.{◌<ℤ◌}
use Rattle.algebra.proofs.Expression.{Ex, var, lit, ◌⊞◌, ◌⊠◌, neg}
use Rattle.algebra.proofs.Solver.{ring, ◌≗◌, solve}
use Rattle.algebra.proofs.Certificate.{◌≐◌, eqn, num, prove≡}
use Rattle.shape.specs.Points.{Point, Shape, coord}
use Rattle.shape.specs.Signs.{bracket}
use Rattle.shape.specs.Sharing.{Share}
use Rattle.shape.proofs.Meeting.{NonNegative, totalℤ, weighℤ, meet}
use Rattle.shape.proofs.Symbols.{values, O, point, bracket_e}

-- The lists that leave out one element each, the first element first.
abbrev pub omit : {A : Type 0} → List A → List (List A)
omit [] = []
omit (a ∷ xs) = xs ∷ map (λ l. a ∷ l) (omit xs)

-- Every second number negated.
abbrev pub alternating : List ℤ → List ℤ
alternating [] = []
alternating (z ∷ zs) = z ∷ map neg_ℤ (alternating zs)

abbrev pub dependence : List Point → List ℤ
dependence xs = alternating (map bracket (omit xs))

-- The numbers of the dependence add up to zero, also as weights of the points.
pub record Balanced (n : ℕ) (xs : List Point) : Type 0 where
  pub sum : totalℤ (dependence xs) ≡ pos 0
  pub mixed : (i : ℕ) → i < n → weighℤ (coord i) (dependence xs) xs ≡ pos 0

-- ---- one polynomial identity a coordinate, in the plane and in space
abbrev alternating_e : List Ex → List Ex
alternating_e [] = []
alternating_e (e ∷ es) = e ∷ map neg (alternating_e es)

abbrev dependence_e : List ℕ → List Ex
dependence_e is = alternating_e (map bracket_e (omit is))

abbrev total_e : List Ex → Ex
total_e [] = O
total_e (e ∷ es) = e ⊞ total_e es

abbrev weigh_e : ℕ → List Ex → List ℕ → Ex
weigh_e k [] is = O
weigh_e k (e ∷ es) [] = O
weigh_e k (e ∷ es) (i ∷ is) = e ⊠ point i k ⊞ weigh_e k es is

pub plane_dependence : (a b c d : Point) → Balanced 2 (a ∷ b ∷ c ∷ d ∷ [])
plane_dependence a b c d = record { sum = ring ρ (total_e D) O tt refl; mixed = each }
  where
    ρ : List ℤ
    ρ = values (a ∷ b ∷ c ∷ d ∷ [])

    all : List ℕ
    all = 0 ∷ 1 ∷ 2 ∷ 3 ∷ []

    D : List Ex
    D = dependence_e all

    each : (i : ℕ) → i < 2 → weighℤ (coord i) (dependence (a ∷ b ∷ c ∷ d ∷ [])) (a ∷ b ∷ c ∷ d ∷ []) ≡ pos 0
    each zero l = ring ρ (weigh_e 0 D all) O tt refl
    each (suc zero) l = ring ρ (weigh_e 1 D all) O tt refl
    each (suc (suc i)) l = absurd (omega arith)

pub space_dependence : (a b c d e : Point) → Balanced 3 (a ∷ b ∷ c ∷ d ∷ e ∷ [])
space_dependence a b c d e = record { sum = ring ρ (total_e D) O tt refl; mixed = each }
  where
    ρ : List ℤ
    ρ = values (a ∷ b ∷ c ∷ d ∷ e ∷ [])

    all : List ℕ
    all = 0 ∷ 1 ∷ 2 ∷ 3 ∷ 4 ∷ []

    D : List Ex
    D = dependence_e all

    each : (i : ℕ) → i < 3 → weighℤ (coord i) (dependence (a ∷ b ∷ c ∷ d ∷ e ∷ [])) (a ∷ b ∷ c ∷ d ∷ e ∷ []) ≡ pos 0
    each zero l = ring ρ (weigh_e 0 D all) O tt refl
    each (suc zero) l = ring ρ (weigh_e 1 D all) O tt refl
    each (suc (suc zero)) l = ring ρ (weigh_e 2 D all) O tt refl
    each (suc (suc (suc i))) l = absurd (omega arith)

-- ---- the numbers of the first few points, and those of the others negated, are the weights
length_omit : (xs : List Point) → length (omit xs) ≡ length xs
length_omit [] = refl
length_omit (a ∷ xs) = ap suc (length-map (omit xs) (λ l. a ∷ l) ∙ length_omit xs)

length_alternating : (zs : List ℤ) → length (alternating zs) ≡ length zs
length_alternating [] = refl
length_alternating (z ∷ zs) = ap suc (length-map (alternating zs) neg_ℤ ∙ length_alternating zs)

length_dependence : (xs : List Point) → length (dependence xs) ≡ length xs
length_dependence xs = length_alternating (map bracket (omit xs)) ∙ length-map (omit xs) bracket ∙ length_omit xs

total_split : (k : ℕ) (zs : List ℤ) → totalℤ zs ≡ totalℤ (take k zs) +ℤ totalℤ (drop k zs)
total_split zero zs = sym (+ℤ_idl (totalℤ zs))
total_split (suc k) [] = refl
total_split (suc k) (z ∷ zs) =
    ap (λ (t : ℤ). z +ℤ t) (total_split k zs) ∙ sym (+ℤ_assoc z (totalℤ (take k zs)) (totalℤ (drop k zs)))

total_negated : (zs : List ℤ) → totalℤ (map neg_ℤ zs) ≡ neg_ℤ (totalℤ zs)
total_negated [] = refl
total_negated (z ∷ zs) = ap (λ (t : ℤ). neg_ℤ z +ℤ t) (total_negated zs) ∙ sym (neg_ℤ-+ℤ z (totalℤ zs))

weigh_split : (f : Point → ℤ) (zs : List ℤ) (P Q : Shape) →
    weighℤ f zs (P ++ Q) ≡ weighℤ f (take (length P) zs) P +ℤ weighℤ f (drop (length P) zs) Q
weigh_split f zs [] Q = sym (+ℤ_idl (weighℤ f zs Q))
weigh_split f [] (a ∷ P) Q = refl
weigh_split f (z ∷ zs) (a ∷ P) Q =
    ap (λ (t : ℤ). z *ℤ f a +ℤ t) (weigh_split f zs P Q)
    ∙ sym (+ℤ_assoc (z *ℤ f a) (weighℤ f (take (length P) zs) P) (weighℤ f (drop (length P) zs) Q))

weigh_negated : (f : Point → ℤ) (zs : List ℤ) (Q : Shape) → weighℤ f (map neg_ℤ zs) Q ≡ neg_ℤ (weighℤ f zs Q)
weigh_negated f [] Q = refl
weigh_negated f (z ∷ zs) [] = refl
weigh_negated f (z ∷ zs) (a ∷ Q) =
    ap (λ (t : ℤ). neg_ℤ z *ℤ f a +ℤ t) (weigh_negated f zs Q)
    ∙ solve 3 (λ z x t. neg z ⊠ x ⊞ neg t ≗ neg (z ⊠ x ⊞ t)) (tt, refl) z (f a) (weighℤ f zs Q)

-- What adds up to zero is the other's opposite.
opposite : (a b : ℤ) → a +ℤ b ≡ pos 0 → a ≡ neg_ℤ b
opposite a b =
    prove≡ (a ∷ b ∷ []) ((var 0 ⊞ var 1 ≐ O) ∷ []) (var 0) (neg (var 1)) (num 1) (eqn 0 (lit (pos 1))) tt tt tt refl

-- The weights that the dependence of the corners of both shapes gives the first, and the second.
abbrev pub first_weights : Shape → Shape → List ℤ
first_weights P Q = take (length P) (dependence (P ++ Q))

abbrev pub second_weights : Shape → Shape → List ℤ
second_weights P Q = map neg_ℤ (drop (length P) (dependence (P ++ Q)))

-- The numbers are the weights. That they are not all zero is asked as a positive sum of the first part.
pub meet_by_dependence : {n : ℕ} (P Q : Shape) → Balanced n (P ++ Q) →
    NonNegative (first_weights P Q) → NonNegative (second_weights P Q) → pos 0 <ℤ totalℤ (first_weights P Q) → Share n P Q
meet_by_dependence P Q b hP hQ some =
    let D = dependence (P ++ Q) in
    let rest = drop (length P) D in
    let all : length D ≡ length P + length Q = length_dependence (P ++ Q) ∙ length-append P Q in
    meet (first_weights P Q) (second_weights P Q)
    (length-take (length P) D ∙ omega (arith, all))
    (length-map rest neg_ℤ ∙ length-drop (length P) D ∙ omega (arith, all))
    hP hQ
    (opposite (totalℤ (first_weights P Q)) (totalℤ rest) (sym (total_split (length P) D) ∙ b.sum) ∙ sym (total_negated rest))
    some
    (λ i l.
    opposite (weighℤ (coord i) (first_weights P Q) P) (weighℤ (coord i) rest Q) (sym (weigh_split (coord i) D P Q) ∙ b.mixed i l)
    ∙ sym (weigh_negated (coord i) rest Q))
