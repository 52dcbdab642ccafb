-- What a call can answer (document 01, "Reasons for saying no"): it serves with a value, or it refuses with a number, a side
-- (0 first or only, 1 second) and a place, and then carries no value.
use Rattle.std.specs.Prelude.{ℕ}

pub data Answer (A : Type 0) : Type 0 where
  served : A → Answer A
  refused : (number side place : ℕ) → Answer A

-- The number, side and place that document 01's table gives an answer: 0, 0 and 0 where it serves.
abbrev pub number_of : {A : Type 0} → Answer A → ℕ
number_of (served a) = 0
number_of (refused number side place) = number

abbrev pub side_of : {A : Type 0} → Answer A → ℕ
side_of (served a) = 0
side_of (refused number side place) = side

abbrev pub place_of : {A : Type 0} → Answer A → ℕ
place_of (served a) = 0
place_of (refused number side place) = place

-- A check serves nothing: it finds nothing to refuse, or it refuses.
abbrev pub Check : Type 0
Check = Answer (Unit {0})

abbrev pub fine : Check
fine = served tt

-- Several faults at once: the first wins.
infixr 5 ◌then◌
abbrev pub ◌then◌ : {A : Type 0} → Check → Answer A → Answer A
◌then◌ (served u) next = next
◌then◌ (refused number side place) next = refused number side place

-- The same answer, with f of what is served.
abbrev pub with_served : {A B : Type 0} → (A → B) → Answer A → Answer B
with_served f (served a) = served (f a)
with_served f (refused number side place) = refused number side place
