-- The triangles at the front of a list of numbers, one after the other: a search among them, where their numbers stand, and the same nine numbers at a
-- time. Assumes nothing.
use mathlib.Core.Path.{◌≡◌, refl, sym, ap, ◌∙◌}
use mathlib.Core.Bool.{Bool, true, false, cond, ◌||◌}
use mathlib.Core.List.{List, [], ◌∷◌, ◌++◌, map}
use Prim.Native.Nat.{ℕ, zero, suc, ◌+◌, ◌-◌, ◌*◌, ◌/◌, ◌<◌, ◌≤◌}
use native.Mathlib.Numerals.{add-one}
use native.Mathlib.Omega.{arith}
use lib.IntN.{ℤ, pos}
use lib.ListN.{length, get_or, take, drop}
use lib.Seq.{get_or-take, get_or-drop}
use Rattle.shape.specs.Points.{points_at}
use Rattle.shape.specs.Lists.{some}
use Rattle.std.specs.List.{list_any}
use Rattle.std.specs.Simd.{first_chunks}
use Rattle.std.proofs.lemmas.List.{map-append, drop-drop, drop-take, take-take, length-take-le}
use Rattle.shape.specs.TriangleLists.{triangle_at, triangles_in, triangles_of}

-- ---- a search: what an iterator's `any` answers, where each element stands for something that is tested
pub any_some : {A B : Type 0} (stands : A → B) (test : B → Bool) (l : List A) → list_any (λ a. test (stands a)) l ≡ some test (map stands l)
any_some stands test [] = refl
any_some stands test (a ∷ l) = by_head (test (stands a)) (any_some stands test l)
  where
    by_head : (b : Bool) → list_any (λ a. test (stands a)) l ≡ some test (map stands l) →
        b || list_any (λ a. test (stands a)) l ≡ cond b true (some test (map stands l))
    by_head true e = refl
    by_head false e = e

-- ---- a triangle is read where it stands
number_at : (numbers : List ℤ) (i k at : ℕ) → k < 9 → 9 * i + k ≡ at → get_or (take 9 (drop (9 * i) numbers)) k (pos 0) ≡ get_or numbers at (pos 0)
number_at numbers i k at h e =
    get_or-take 9 (drop (9 * i) numbers) k (pos 0) h ∙ get_or-drop (9 * i) numbers k (pos 0) ∙ ap (λ (p : ℕ). get_or numbers p (pos 0)) e

-- The triangle of the nine numbers is the one that stands in the list from position 9 i on.
pub triangle_at_law : (numbers : List ℤ) (i : ℕ) → points_at 3 3 0 (take 9 (drop (9 * i) numbers)) ≡ triangle_at i numbers
triangle_at_law numbers i =
    let p : ℕ = 9 * i in
    let n : (k at : ℕ) → k < 9 → p + k ≡ at → get_or (take 9 (drop (9 * i) numbers)) k (pos 0) ≡ get_or numbers at (pos 0) = number_at numbers i in
    let a = n 0 p (omega arith) (omega arith) in
    let b = n 1 (suc p) (omega arith) (omega arith) in
    let c = n 2 (suc (suc p)) (omega arith) (omega arith) in
    let d = n 3 (p + 3) (omega arith) (omega arith) in
    let e = n 4 (suc (p + 3)) (omega arith) (omega arith) in
    let f = n 5 (suc (suc (p + 3))) (omega arith) (omega arith) in
    let g = n 6 (p + 3 + 3) (omega arith) (omega arith) in
    let h = n 7 (suc (p + 3 + 3)) (omega arith) (omega arith) in
    let k = n 8 (suc (suc (p + 3 + 3))) (omega arith) (omega arith) in
    λ x. (a x ∷ b x ∷ c x ∷ []) ∷ (d x ∷ e x ∷ f x ∷ []) ∷ (g x ∷ h x ∷ k x ∷ []) ∷ []

-- Lists with the same nine numbers at each of the first n triangles have these in common; and one triangle more at the end.
pub triangles_same : (n : ℕ) (l m : List ℤ) → ((j : ℕ) → j < n → take 9 (drop (9 * j) l) ≡ take 9 (drop (9 * j) m)) → triangles_in n l ≡ triangles_in n m
unfolding triangles_in
triangles_same zero l m h = refl
triangles_same (suc n) l m h =
    let rest = triangles_same n l m (λ j k. h j (omega arith)) in
    let last : triangle_at n l ≡ triangle_at n m = sym (triangle_at_law l n) ∙ ap (points_at 3 3 0) (h n (omega arith)) ∙ triangle_at_law m n in
    λ i. rest i ++ (last i ∷ [])

pub triangles_more : (n : ℕ) (l m : List ℤ) {nine : List ℤ} → ((j : ℕ) → j < n → take 9 (drop (9 * j) m) ≡ take 9 (drop (9 * j) l)) →
    take 9 (drop (9 * n) m) ≡ nine → triangles_in (n + 1) m ≡ triangles_in n l ++ (points_at 3 3 0 nine ∷ [])
unfolding triangles_in
triangles_more n l m earlier new =
    let last = sym (triangle_at_law m n) ∙ ap (points_at 3 3 0) new in
    ap (λ (k : ℕ). triangles_in k m) (add-one n) ∙ (λ i. triangles_same n m l earlier i ++ (last i ∷ []))

-- The first n lists of nine numbers hold the first n triangles.
chunks_next : (n : ℕ) (numbers : List ℤ) → first_chunks 9 (suc n) numbers ≡ first_chunks 9 n numbers ++ (take 9 (drop (9 * n) numbers) ∷ [])
chunks_next zero numbers = refl
chunks_next (suc n) numbers =
    ap (λ (l : List (List ℤ)). take 9 numbers ∷ l) (chunks_next n (drop 9 numbers))
    ∙ ap (λ (l : List ℤ). first_chunks 9 (suc n) numbers ++ (take 9 l ∷ [])) (drop-drop (9 * n) 9 numbers ∙ ap (λ (k : ℕ). drop k numbers) (omega arith))

pub chunks_hold : (n : ℕ) (numbers : List ℤ) → triangles_of (first_chunks 9 n numbers) ≡ triangles_in n numbers
unfolding triangles_in
chunks_hold zero numbers = refl
chunks_hold (suc n) numbers =
    ap triangles_of (chunks_next n numbers)
    ∙ map-append (points_at 3 3 0) (first_chunks 9 n numbers) (take 9 (drop (9 * n) numbers) ∷ [])
    ∙ (λ i. chunks_hold n numbers i ++ (triangle_at_law numbers n i ∷ []))

-- A part from the front on that has the numbers of n triangles has those n, and no other.
pub front_triangles : (n : ℕ) (numbers : List ℤ) → 9 * n ≤ length numbers → triangles_in (length (take (9 * n) numbers) / 9) (take (9 * n) numbers) ≡ triangles_in n numbers
front_triangles n numbers h =
    ap (λ (k : ℕ). triangles_in k (take (9 * n) numbers)) so_many
    ∙ triangles_same n (take (9 * n) numbers) numbers (λ j k. here j k)
  where
    so_many : length (take (9 * n) numbers) / 9 ≡ n
    so_many = rw (length-take-le (9 * n) numbers h) (omega arith)

    here : (j : ℕ) → j < n → take 9 (drop (9 * j) (take (9 * n) numbers)) ≡ take 9 (drop (9 * j) numbers)
    here j k =
        let more : 9 * j + 9 * (n - j) ≡ 9 * n = omega arith in
        let enough : 9 ≤ 9 * (n - j) = omega arith in
        ap (λ (m : ℕ). take 9 (drop (9 * j) (take m numbers))) (sym more)
        ∙ ap (take 9) (drop-take (9 * j) (9 * (n - j)) numbers)
        ∙ take-take 9 (9 * (n - j)) (drop (9 * j) numbers) enough
