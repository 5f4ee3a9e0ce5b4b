-- The number and the part of each cause, how each part is printed, and a refusal.
use Rattle.std.specs.Prelude.{◌≡◌, ℕ, List, ◌++◌, codes, decimal}
use Rattle.refusals.specs.declared.Cause.{Cause}
use Rattle.refusals.specs.declared.Cause.TheVariants as cause
use Rattle.refusals.specs.declared.Refusal.{Refusal}
use Rattle.refusals.specs.declared.Part.{Part}
use Rattle.refusals.specs.declared.Part.TheVariants as part_of

abbrev pub number : Cause → ℕ
number cause.JobTooLong = 1
number cause.JobCutShort = 2
number cause.TextTooLong = 3
number cause.StrayByte = 4
number cause.UnknownWord = 5
number cause.Ungrammatical = 6
number cause.TooDeep = 7
number cause.TooManyNodes = 8
number cause.UnlawfulRecord = 9
number cause.PartialRecord = 10
number cause.PumpTooLarge = 11
number cause.BadWindow = 12
number cause.TooFewCells = 13
number cause.TooManyWaits = 14
number cause.TapeFull = 15
number cause.TrailingBytes = 16

abbrev pub part : Cause → Part
part cause.JobTooLong = part_of.Job
part cause.JobCutShort = part_of.Job
part cause.TextTooLong = part_of.Text
part cause.StrayByte = part_of.Text
part cause.UnknownWord = part_of.Text
part cause.Ungrammatical = part_of.Text
part cause.TooDeep = part_of.Text
part cause.TooManyNodes = part_of.Text
part cause.UnlawfulRecord = part_of.Record
part cause.PartialRecord = part_of.Tape
part cause.PumpTooLarge = part_of.Record
part cause.BadWindow = part_of.Window
part cause.TooFewCells = part_of.Reader
part cause.TooManyWaits = part_of.Watch
part cause.TapeFull = part_of.Tape
part cause.TrailingBytes = part_of.Job

abbrev pub part_text : Part → List ℕ
part_text part_of.Text = codes "text"
part_text part_of.Record = codes "record"
part_text part_of.Tape = codes "tape"
part_text part_of.Window = codes "window"
part_text part_of.Reader = codes "reader"
part_text part_of.Watch = codes "watch"
part_text part_of.Job = codes "job"

-- a refusal by the cause of this number, at this place
abbrev pub By : ℕ → ℕ → Refusal → Type 0
By n place e = (number e.cause ≡ n) × (e.place ≡ place)

abbrev pub line : ℕ → ℕ → Part → List ℕ
line n place p = codes "refused " ++ decimal n ++ codes " at " ++ decimal place ++ codes " in " ++ part_text p
