-- The number of each reason for saying no, in document 01's table and document 02's.
use Rattle.std.specs.Prelude.{ℕ}
use Rattle.checks.specs.declared.answer.Reason.{Reason}
use Rattle.checks.specs.declared.answer.Reason.TheVariants.{OffGrid, FlatShape, WrongLength, StartBeyondEnd, TooLittleRoom, NoSuchSlot, NoSuchPart, SlotFilled, SlotEmpty, PartAbsent, LeavesGrid, NothingToUndo, UnknownField, CutField, SheetTooLong, ShellOpen}

abbrev pub number_of_reason : Reason → ℕ
number_of_reason OffGrid = 1
number_of_reason FlatShape = 2
number_of_reason WrongLength = 3
number_of_reason StartBeyondEnd = 4
number_of_reason TooLittleRoom = 5
number_of_reason NoSuchSlot = 6
number_of_reason NoSuchPart = 7
number_of_reason SlotFilled = 8
number_of_reason SlotEmpty = 9
number_of_reason PartAbsent = 10
number_of_reason LeavesGrid = 11
number_of_reason NothingToUndo = 12
number_of_reason UnknownField = 13
number_of_reason CutField = 14
number_of_reason SheetTooLong = 15
number_of_reason ShellOpen = 16
