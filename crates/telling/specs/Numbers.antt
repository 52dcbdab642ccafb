-- The numbers in which an answer is told. Four where there is a buffer: refusal number, side, place, and the value, which is 0 where the
-- call refuses; one where there is none. What a call serves is given by a number of its own: a sign by its digit, a verdict by
-- `verdict_code`. A change of a plate has no value.
use Rattle.std.specs.Prelude.{Bool, true, false, List, [], ◌∷◌, ℕ, ◌+◌, Result, Ok, Err}
use Rattle.checks.specs.Answers.{Answer, served, refused, number_of, side_of, place_of, with_served}
use Rattle.checks.specs.Told.{told_refusal}
use Rattle.checks.specs.declared.answer.Refusal.{Refusal}
use Rattle.telling.specs.declared.numbers.Numbers.{Numbers}

-- Apart, no, as 0; meeting, yes, as 1.
abbrev pub verdict_code : Bool → ℕ
verdict_code false = 0
verdict_code true = 1

-- What is served has no value of its own.
abbrev pub without_value : {A : Type 0} → Answer A → Answer ℕ
without_value = with_served (λ a. 0)

-- What a call told, with each thing that it can serve as its number.
abbrev pub told_by : {A : Type 0} → (A → ℕ) → Result A Refusal → Answer ℕ
told_by code (Ok a) = served (code a)
told_by code (Err why) = told_refusal why

abbrev pub value_of : Answer ℕ → ℕ
value_of (served value) = value
value_of (refused number side place) = 0

abbrev pub four_numbers : Answer ℕ → List ℕ
four_numbers a = number_of a ∷ side_of a ∷ place_of a ∷ value_of a ∷ []

-- An answer in one number (document 02, Q-5): the value, or 100 plus the refusal number. Side and place aren't carried.
abbrev pub one_number : Answer ℕ → ℕ
one_number (served value) = value
one_number (refused number side place) = 100 + number

-- The four numbers as the code holds them.
abbrev pub listed : Numbers → List ℕ
listed n = n.number ∷ n.side ∷ n.place ∷ n.value ∷ []
