-- A refusal is read back off the number, the side and the place that it tells, and so is what a check found. Assumes nothing.
use mathlib.Core.Path.{◌≡◌, refl, ap}
use mathlib.Core.Bool.{cond}
use Prim.Native.Nat.{ℕ}
use Rattle.std.specs.Prelude.{Result, Ok, Err, eqb}
use Rattle.checks.specs.Answers.{Check, served, refused}
use Rattle.checks.specs.Reasons.{number_of_reason}
use Rattle.checks.specs.Told.{told_check}
use Rattle.checks.specs.declared.answer.Reason.{Reason}
use Rattle.checks.specs.declared.answer.Reason.TheVariants.{OffGrid, FlatShape, WrongLength, StartBeyondEnd, TooLittleRoom, NoSuchSlot, NoSuchPart, SlotFilled, SlotEmpty, PartAbsent, LeavesGrid, NothingToUndo, UnknownField, CutField, SheetTooLong, ShellOpen}
use Rattle.checks.specs.declared.answer.Refusal.{Refusal}

reason_back : ℕ → Reason
reason_back n =
    cond (eqb n 1) OffGrid
    (cond (eqb n 2) FlatShape
    (cond (eqb n 3) WrongLength
    (cond (eqb n 4) StartBeyondEnd
    (cond (eqb n 5) TooLittleRoom
    (cond (eqb n 6) NoSuchSlot
    (cond (eqb n 7) NoSuchPart
    (cond (eqb n 8) SlotFilled
    (cond (eqb n 9) SlotEmpty
    (cond (eqb n 10) PartAbsent
    (cond (eqb n 11) LeavesGrid
    (cond (eqb n 12) NothingToUndo
    (cond (eqb n 13) UnknownField
    (cond (eqb n 14) CutField
    (cond (eqb n 15) SheetTooLong ShellOpen))))))))))))))

reason_back_law : (r : Reason) → reason_back (number_of_reason r) ≡ r
unfolding reason_back
reason_back_law OffGrid = refl
reason_back_law FlatShape = refl
reason_back_law WrongLength = refl
reason_back_law StartBeyondEnd = refl
reason_back_law TooLittleRoom = refl
reason_back_law NoSuchSlot = refl
reason_back_law NoSuchPart = refl
reason_back_law SlotFilled = refl
reason_back_law SlotEmpty = refl
reason_back_law PartAbsent = refl
reason_back_law LeavesGrid = refl
reason_back_law NothingToUndo = refl
reason_back_law UnknownField = refl
reason_back_law CutField = refl
reason_back_law SheetTooLong = refl
reason_back_law ShellOpen = refl

pub refusal_back : (number side place : ℕ) → Refusal
refusal_back number side place = record { reason = reason_back number; side = side; place = place }

pub refusal_back_law : (why : Refusal) → refusal_back (number_of_reason why.reason) why.side why.place ≡ why
unfolding refusal_back
refusal_back_law why = ap (λ (r : Reason). record { reason = r; side = why.side; place = why.place }) (reason_back_law why.reason)

pub check_back : Check → Result (Unit {0}) Refusal
check_back (served u) = Ok tt
check_back (refused number side place) = Err (refusal_back number side place)

pub check_back_law : (r : Result (Unit {0}) Refusal) → check_back (told_check r) ≡ r
unfolding check_back
check_back_law (Ok tt) = refl
check_back_law (Err why) = ap Err (refusal_back_law why)
