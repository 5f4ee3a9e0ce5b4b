-- What each verdict says, how it is printed, and verdicts as a tally.
use Rattle.std.specs.Prelude.{ℕ, Bool, true, false, List, codes}
use Rattle.temporal.specs.Tallies.{Worths}
use Rattle.tallies.specs.declared.verdict.Verdict.{Verdict}
use Rattle.tallies.specs.declared.verdict.Verdict.TheVariants.{No, Yes}

abbrev pub says : Verdict → Bool
says No = false
says Yes = true

abbrev pub verdict_text : Verdict → List ℕ
verdict_text No = codes "no"
verdict_text Yes = codes "yes"

abbrev pub either : Verdict → Verdict → Verdict
either No y = y
either Yes y = Yes

abbrev pub both : Verdict → Verdict → Verdict
both No y = No
both Yes y = y

abbrev pub verdicts : Worths Verdict
verdicts = record { none = No; unit = Yes; joined = either; combined = both; weighs = λ v. Yes }
