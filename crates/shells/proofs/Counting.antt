-- How often an edge occurs: among the three edges that the code compares, in one triangle, and in all. Assumes nothing.
use Rattle.std.proofs.Common.{◌≡◌, refl, sym, ℕ, suc, ◌+◌, ◌*◌, ◌≤◌, Bool, true, false, cond, List, [], ◌∷◌, ◌++◌, length, ℤ, arith}
use mir.Val.{bool_byte}
use Rattle.std.specs.List.{sum_by}
use Rattle.std.proofs.lemmas.List.Recursion.{is_sum_by}
use Rattle.shape.specs.Lists.{held_by}
use Rattle.shape.specs.Shells.{Edge, same_edge, edges_of, occurs}
use Rattle.shape.specs.TriangleLists.{triangle_of, triangles_of}

-- Three tests counted, as `occurs` counts them.
abbrev pub three : Bool → Bool → Bool → ℕ
three x y z = cond x (suc (cond y (suc (cond z 1 0)) (cond z 1 0))) (cond y (suc (cond z 1 0)) (cond z 1 0))

pub three_times : (x y z : Bool) → bool_byte x + bool_byte y + bool_byte z ≡ three x y z
three_times true true true = refl
three_times true true false = refl
three_times true false true = refl
three_times true false false = refl
three_times false true true = refl
three_times false true false = refl
three_times false false true = refl
three_times false false false = refl

-- How often in one triangle: at most three times.
abbrev pub times_there : Edge → List ℤ → ℕ
times_there e t = occurs e (edges_of (triangle_of t))

occurs_most : (e : Edge) (fs : List Edge) → occurs e fs ≤ length fs
occurs_most e [] = omega arith
occurs_most e (f ∷ fs) = by_head (same_edge e f) (occurs_most e fs)
  where
    by_head : (b : Bool) → occurs e fs ≤ length fs → cond b (suc (occurs e fs)) (occurs e fs) ≤ suc (length fs)
    by_head true h = omega arith
    by_head false h = omega arith

-- And in all.
occurs_append : (e : Edge) (x y : List Edge) → occurs e (x ++ y) ≡ occurs e x + occurs e y
occurs_append e [] y = omega arith
occurs_append e (f ∷ x) y = by_head (same_edge e f) (occurs_append e x y)
  where
    by_head : (b : Bool) → occurs e (x ++ y) ≡ occurs e x + occurs e y →
        cond b (suc (occurs e (x ++ y))) (occurs e (x ++ y)) ≡ cond b (suc (occurs e x)) (occurs e x) + occurs e y
    by_head true h = omega (arith, h)
    by_head false h = h

abbrev in_all : Edge → List (List ℤ) → ℕ
in_all e ts = occurs e (held_by edges_of (triangles_of ts))

one_more : (e : Edge) (t : List ℤ) (ts : List (List ℤ)) → in_all e (t ∷ ts) ≡ times_there e t + in_all e ts
one_more e t ts = occurs_append e (edges_of (triangle_of t)) (held_by edges_of (triangles_of ts))

pub times_in_all : (e : Edge) (ts : List (List ℤ)) → sum_by (times_there e) ts ≡ occurs e (held_by edges_of (triangles_of ts))
times_in_all e ts = sym (is_sum_by (in_all e) (times_there e) refl (one_more e) ts)

all_most : (e : Edge) (ts : List (List ℤ)) → in_all e ts ≤ 3 * length ts
all_most e [] = omega arith
all_most e (t ∷ ts) = by_numbers (length ts) (occurs_most e (edges_of (triangle_of t))) (all_most e ts) (one_more e t ts)
  where
    by_numbers : {m n k : ℕ} (l : ℕ) → m ≤ 3 → n ≤ 3 * l → k ≡ m + n → k ≤ 3 * suc l
    by_numbers l x y z = omega arith

pub times_most : (e : Edge) (ts : List (List ℤ)) → sum_by (times_there e) ts ≤ 3 * length ts
times_most e ts = rw (times_in_all e ts) (all_most e ts)
