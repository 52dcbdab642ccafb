-- The vocabulary of src/boxes.rt: the box of a triangle, six numbers, the least x, y and z of its corners and then the greatest; its normal, three
-- numbers; and its plane, three doubles.
use Rattle.std.specs.Prelude.{◌≡◌, Bool, true, cond, List, [], ◌∷◌, ℕ, ◌+◌, ◌*◌, ◌≤◌, ◌<◌, Float, ℤ, pos, length, get_or, take, drop}
use Rattle.std.specs.Int.Signed.{lt_z}
use Rattle.exact.specs.Grid.{Ready}
use Rattle.exact.specs.Vectors.{normal_in}
use Rattle.kernel.specs.Standings.{IsPlane}
use Rattle.boxes.specs.Triangles.{triangles, nine}

abbrev pub smaller : ℤ → ℤ → Bool
smaller x y = lt_z x y

abbrev pub larger : ℤ → ℤ → Bool
larger x y = lt_z y x

-- The better of two numbers, the first where neither is.
abbrev pub better : (ℤ → ℤ → Bool) → ℤ → ℤ → ℤ
better wins x y = cond (wins y x) y x

-- The best coordinate c of the three corners: the least, where the smaller number wins.
abbrev pub best_at : (ℤ → ℤ → Bool) → ℕ → List ℤ → ℤ
best_at wins c corners = better wins (better wins (get_or corners c (pos 0)) (get_or corners (c + 3) (pos 0))) (get_or corners (c + 6) (pos 0))

abbrev pub box_of : List ℤ → List ℤ
box_of corners =
    best_at smaller 0 corners ∷ best_at smaller 1 corners ∷ best_at smaller 2 corners
    ∷ best_at larger 0 corners ∷ best_at larger 1 corners ∷ best_at larger 2 corners ∷ []

-- The first box ends before the second begins, at coordinate c.
abbrev pub before : ℕ → List ℤ → List ℤ → Bool
before c first second = lt_z (get_or first (c + 3) (pos 0)) (get_or second c (pos 0))

abbrev pub apart_along : ℕ → List ℤ → List ℤ → Bool
apart_along c first second = cond (before c first second) true (before c second first)

-- At some coordinate one of the boxes ends before the other begins. Boxes that touch are not apart.
abbrev pub boxes_apart : List ℤ → List ℤ → Bool
boxes_apart first second = cond (apart_along 0 first second) true (cond (apart_along 1 first second) true (apart_along 2 first second))

-- The box with index i.
abbrev pub six : ℕ → List ℤ → List ℤ
six i boxes = take 6 (drop (6 * i) boxes)

-- The boxes of all triangles of a list.
abbrev pub Boxed : List ℤ → List ℤ → Type 0
Boxed numbers boxes = (i : ℕ) → i < triangles numbers → six i boxes ≡ box_of (nine i numbers)

-- A list of few enough triangles, each on the grid.
pub record Sound (numbers : List ℤ) : Type 0 where
  pub few : triangles numbers ≤ 1024
  pub ready : (i : ℕ) → i < triangles numbers → Ready 9 (nine i numbers)

-- ---- the normals of triangles
-- The normal with index i.
abbrev pub three : {A : Type 0} → ℕ → List A → List A
three i normals = take 3 (drop (3 * i) normals)

-- The normals of all triangles of a list.
abbrev pub Normals : List ℤ → List ℤ → Type 0
Normals numbers normals = (i : ℕ) → i < triangles numbers → three i normals ≡ normal_in (nine i numbers)

-- The planes in doubles of all triangles of a list, three numbers each.
abbrev pub Planes : List ℤ → List Float → Type 0
Planes numbers planes = (i : ℕ) → i < triangles numbers → IsPlane (nine i numbers) (three i planes)

-- A triangle on the grid, and its normal.
pub record Known (corners normal : List ℤ) : Type 0 where
  pub ready : Ready 9 corners
  pub is_normal : normal ≡ normal_in corners

-- A sound list, and the normals of its triangles.
pub record Prepared (numbers normals : List ℤ) : Type 0 where
  pub sound : Sound numbers
  pub room : 3 * triangles numbers ≤ length normals
  pub normal : Normals numbers normals

-- The planes of its triangles in doubles.
pub record Planned (numbers : List ℤ) (planes : List Float) : Type 0 where
  pub room : 3 * triangles numbers ≤ length planes
  pub plane : Planes numbers planes
