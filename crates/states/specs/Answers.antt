-- What each answer says, and how it is printed.
use Rattle.std.specs.Prelude.{ℕ, Bool, true, false, List, codes}
use Rattle.states.specs.declared.answer.Answer.{Answer}
use Rattle.states.specs.declared.answer.Answer.TheVariants.{Yes, No}

abbrev pub said : Answer → Bool
said Yes = true
said No = false

-- the answer that says so
abbrev pub answered : Bool → Answer
answered true = Yes
answered false = No

abbrev pub answer_text : Answer → List ℕ
answer_text Yes = codes "yes"
answer_text No = codes "no"
