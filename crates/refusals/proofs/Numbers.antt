-- A number tells its reason: what is read from the number of a reason is the reason. Assumes nothing.
use Prim.Native.Nat.{ℕ}
use mathlib.Core.Path.{◌≡◌, refl, sym, ◌∙◌, ap}
use lib.Dec.{eqb}
use mathlib.Core.Bool.{cond}
use Rattle.refusals.specs.Laws.{NumberTold}
use Rattle.refusals.specs.Numbers.{number_of}
use Rattle.refusals.specs.declared.Reason.{Reason}
use Rattle.refusals.specs.declared.Reason.TheVariants.{WrongLength, BadByte, WrongType, Ended, NotDigits, NotPermitted, Absent, NoSuchDay, WrongNumber, NotTheHeaders, OtherCompany, WrongCount, WrongTotal, WrongRecords, NoDisposition, NotAnAmount, TotalTooLarge, OnlyDisposition, NoItem, NoRoom, OtherKind, ZeroAmount, TooManyRequests, KindsDiffer, WorkingMemory}

-- the reason that a number is of; of a number that is none, the last
reason_of : ℕ → Reason
reason_of n =
    cond (eqb n 1) WrongLength (
    cond (eqb n 2) BadByte (
    cond (eqb n 3) WrongType (
    cond (eqb n 4) Ended (
    cond (eqb n 5) NotDigits (
    cond (eqb n 6) NotPermitted (
    cond (eqb n 7) Absent (
    cond (eqb n 8) NoSuchDay (
    cond (eqb n 9) WrongNumber (
    cond (eqb n 10) NotTheHeaders (
    cond (eqb n 11) OtherCompany (
    cond (eqb n 12) WrongCount (
    cond (eqb n 13) WrongTotal (
    cond (eqb n 14) WrongRecords (
    cond (eqb n 15) NoDisposition (
    cond (eqb n 16) NotAnAmount (
    cond (eqb n 17) TotalTooLarge (
    cond (eqb n 18) OnlyDisposition (
    cond (eqb n 20) NoItem (
    cond (eqb n 21) NoRoom (
    cond (eqb n 22) OtherKind (
    cond (eqb n 25) ZeroAmount (
    cond (eqb n 27) TooManyRequests (
    cond (eqb n 28) KindsDiffer (
    WorkingMemory
    ))))))))))))))))))))))))

told : (r : Reason) → reason_of (number_of r) ≡ r
unfolding reason_of
told WrongLength = refl
told BadByte = refl
told WrongType = refl
told Ended = refl
told NotDigits = refl
told NotPermitted = refl
told Absent = refl
told NoSuchDay = refl
told WrongNumber = refl
told NotTheHeaders = refl
told OtherCompany = refl
told WrongCount = refl
told WrongTotal = refl
told WrongRecords = refl
told NoDisposition = refl
told NotAnAmount = refl
told TotalTooLarge = refl
told OnlyDisposition = refl
told NoItem = refl
told NoRoom = refl
told OtherKind = refl
told ZeroAmount = refl
told TooManyRequests = refl
told KindsDiffer = refl
told WorkingMemory = refl

pub number_told : NumberTold
number_told r s e = sym (told r) ∙ (ap reason_of e ∙ told s)
