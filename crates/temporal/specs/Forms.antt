-- What each operator acts as, positive and negative, and which are accepting. A formula is negative (n is true)
-- under an odd number of `not`s, where the left side of `implies` counts as one.
use Rattle.std.specs.Prelude.{Bool, true, false, not}
use Rattle.temporal.specs.Formula.{Formula, atom, negation, unary, binary}
use Rattle.temporal.specs.declared.operators.Form.{Form}
use Rattle.temporal.specs.declared.operators.Form.TheVariants as form
use Rattle.temporal.specs.declared.operators.Unary.{Unary}
use Rattle.temporal.specs.declared.operators.Unary.TheVariants.{Next, Always, Eventually}
use Rattle.temporal.specs.declared.operators.Binary.{Binary}
use Rattle.temporal.specs.declared.operators.Binary.TheVariants.{And, Or, Implies, Until, Unless}

-- a negative `next` is weak next, which has the form of next
abbrev pub unary_form : Unary → Bool → Form
unary_form Next n = form.Next
unary_form Always false = form.Always
unary_form Always true = form.Eventually
unary_form Eventually false = form.Eventually
unary_form Eventually true = form.Always

-- `unless` has the form of until; a negative `until` is release, and a negative `unless` strong release, which has the form
-- of release
abbrev pub binary_form : Binary → Bool → Form
binary_form And false = form.And
binary_form And true = form.Or
binary_form Or false = form.Or
binary_form Or true = form.And
binary_form Implies false = form.Or
binary_form Implies true = form.And
binary_form Until false = form.Until
binary_form Until true = form.Release
binary_form Unless false = form.Until
binary_form Unless true = form.Release

abbrev pub left_sign : Binary → Bool → Bool
left_sign And n = n
left_sign Or n = n
left_sign Implies n = not n
left_sign Until n = n
left_sign Unless n = n

-- the operators that wait; every unary one does
abbrev pub binary_waits : Binary → Bool
binary_waits And = false
binary_waits Or = false
binary_waits Implies = false
binary_waits Until = true
binary_waits Unless = true

-- Always, unless, weak next and release are accepting; next, eventually, until and strong release are rejecting.
-- An atom's visit counts as accepting; an operator that does not wait has no visit, so its value here is never used.
abbrev pub unary_accepts : Unary → Bool → Bool
unary_accepts Next n = n
unary_accepts Always n = not n
unary_accepts Eventually n = n

abbrev pub binary_accepts : Binary → Bool → Bool
binary_accepts And n = true
binary_accepts Or n = true
binary_accepts Implies n = true
binary_accepts Until n = n
binary_accepts Unless n = not n

abbrev pub accepts : Bool → Formula → Bool
accepts n (atom a) = true
accepts n (negation f) = accepts (not n) f
accepts n (unary o f) = unary_accepts o n
accepts n (binary o f g) = binary_accepts o n
