-- Laws of what is gathered one after the other, and of the two numbers that stand for a pair (specs/Pairs.antt). Assumes nothing.
use mathlib.Core.Path.{◌≡◌, refl, sym, ap, ap₂, ◌∙◌}
use mathlib.Core.List.{List, [], ◌∷◌, ◌++◌, append-nil, append_assoc}
use Prim.Native.Nat.{ℕ, zero, suc, ◌+◌, ◌*◌, ◌<◌}
use native.Mathlib.Omega.{arith}
use lib.ListN.{length}
use Rattle.listing.specs.Pairs.{gathered, Pair, two_each}

-- ---- the same pieces give the same list
pub gathered_same : {A : Type 0} (f g : ℕ → List A) (from n : ℕ) → ((t : ℕ) → t < n → f (from + t) ≡ g (from + t)) →
    gathered f from n ≡ gathered g from n
gathered_same f g from zero same = refl
gathered_same f g from (suc n) same = ap₂ ◌++◌ first (gathered_same f g (suc from) n later)
  where
    first : f from ≡ g from
    first =
        let start : from + 0 ≡ from = omega arith in
        rw start at (same 0 (omega arith))

    later : (t : ℕ) → t < n → f (suc from + t) ≡ g (suc from + t)
    later t h =
        let next : from + suc t ≡ suc from + t = omega arith in
        rw next at (same (suc t) (omega arith))

-- ---- the places of the pieces
gathered_shift : {A : Type 0} (f : ℕ → List A) (a from n : ℕ) → gathered f (a + from) n ≡ gathered (λ t. f (a + t)) from n
gathered_shift f a from zero = refl
gathered_shift f a from (suc n) =
    ap (λ r. f (a + from) ++ r) (ap (λ (k : ℕ). gathered f k n) (omega arith) ∙ gathered_shift f a (suc from) n)

-- ---- a part of the pieces, and then the others
pub gathered_split : {A : Type 0} (f : ℕ → List A) (from m n : ℕ) → gathered f from (m + n) ≡ gathered f from m ++ gathered f (from + m) n
gathered_split f from zero n =
    let all : 0 + n ≡ n = omega arith in
    let start : from + 0 ≡ from = omega arith in
    rw (all, start)
gathered_split f from (suc m) n =
    let all : suc m + n ≡ suc (m + n) = omega arith in
    ap (gathered f from) all
    ∙ ap (λ r. f from ++ r) (gathered_split f (suc from) m n ∙ ap (λ (k : ℕ). gathered f (suc from) m ++ gathered f k n) (omega arith))
    ∙ sym (append_assoc (f from) (gathered f (suc from) m) (gathered f (from + suc m) n))

pub gathered_last : {A : Type 0} (f : ℕ → List A) (from n : ℕ) → gathered f from (suc n) ≡ gathered f from n ++ f (from + n)
gathered_last f from n =
    let all : suc n ≡ n + 1 = omega arith in
    ap (gathered f from) all ∙ gathered_split f from n 1 ∙ ap (λ r. gathered f from n ++ r) (append-nil (f (from + n)))

-- Pieces k at a time.
pub gathered_blocks : {A : Type 0} (f : ℕ → List A) (n k : ℕ) → gathered f 0 (n * k) ≡ gathered (λ i. gathered (λ w. f (i * k + w)) 0 k) 0 n
gathered_blocks f zero k =
    let none : 0 * k ≡ 0 = omega arith in
    rw none
gathered_blocks {A} f (suc n) k =
    let all : suc n * k ≡ n * k + k = omega arith in
    let last : n ≡ 0 + n = omega arith in
    ap (gathered f 0) all
    ∙ gathered_split f 0 (n * k) k
    ∙ ap₂ ◌++◌ (gathered_blocks f n k) (ap (λ (p : ℕ). gathered f p k) (omega arith) ∙ gathered_shift f (n * k) 0 k)
    ∙ ap (λ (i : ℕ). gathered block 0 n ++ block i) last
    ∙ sym (gathered_last block 0 n)
  where
    block : ℕ → List A
    block i = gathered (λ w. f (i * k + w)) 0 k

-- ---- two numbers a pair
pub length_two_each : (ps : List Pair) → length (two_each ps) ≡ 2 * length ps
length_two_each [] = omega arith
length_two_each (p ∷ ps) = omega (arith, length_two_each ps)

pub two_each_append : (ps qs : List Pair) → two_each (ps ++ qs) ≡ two_each ps ++ two_each qs
two_each_append [] qs = refl
two_each_append (p ∷ ps) qs = ap (λ r. p.0 ∷ p.1 ∷ r) (two_each_append ps qs)
