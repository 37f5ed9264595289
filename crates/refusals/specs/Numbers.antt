-- The numbers that a clerk may see (document 01, the table under that name; document 02, E1, E5 and E7), by the reasons that the code gives
-- them for. Assumes nothing.
use Rattle.std.specs.Prelude.{ℕ}
use Rattle.refusals.specs.declared.Reason.{Reason}
use Rattle.refusals.specs.declared.Reason.TheVariants.{WrongLength, BadByte, WrongType, Ended, NotDigits, NotPermitted, Absent, NoSuchDay, WrongNumber, NotTheHeaders, OtherCompany, WrongCount, WrongTotal, WrongRecords, NoDisposition, NotAnAmount, TotalTooLarge, OnlyDisposition, NoItem, NoRoom, OtherKind, ZeroAmount, TooManyRequests, KindsDiffer, WorkingMemory}

abbrev pub number_of : Reason → ℕ
number_of WrongLength = 1
number_of BadByte = 2
number_of WrongType = 3
number_of Ended = 4
number_of NotDigits = 5
number_of NotPermitted = 6
number_of Absent = 7
number_of NoSuchDay = 8
number_of WrongNumber = 9
number_of NotTheHeaders = 10
number_of OtherCompany = 11
number_of WrongCount = 12
number_of WrongTotal = 13
number_of WrongRecords = 14
number_of NoDisposition = 15
number_of NotAnAmount = 16
number_of TotalTooLarge = 17
number_of OnlyDisposition = 18
number_of NoItem = 20
number_of NoRoom = 21
number_of OtherKind = 22
number_of ZeroAmount = 25
number_of TooManyRequests = 27
number_of KindsDiffer = 28
number_of WorkingMemory = 34
