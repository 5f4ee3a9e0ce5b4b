-- By the verdict tally the joint worth tells whether there is an accepting run.
use Rattle.std.proofs.Common.{◌≡◌, false, ◌&&◌, ◌||◌, List, sym, refl, ap, ◌∙◌, ap₂}
use Rattle.temporal.specs.Formula.{Formula}
use Rattle.temporal.specs.Reading.{Counts}
use Rattle.temporal.specs.Suffices.{truths}
use Rattle.temporal.proofs.Related.{Keeps, related}
use Rattle.temporal.proofs.Truth.{truth_tells}
use Rattle.temporal.proofs.Worth.{joint_worth}
use Rattle.tallies.specs.Statements.{VerdictTells}
use Rattle.tallies.specs.VerdictLaws.{verdict_laws}
use Rattle.tallies.specs.Verdicts.{both, either, says, verdicts}
use Rattle.tallies.specs.declared.verdict.Verdict.{Verdict}
use Rattle.tallies.specs.declared.verdict.Verdict.TheVariants.{No, Yes}

says_either : (x y : Verdict) → says (either x y) ≡ says x || says y
says_either No y = refl
says_either Yes y = refl

says_both : (x y : Verdict) → says (both x y) ≡ says x && says y
says_both No y = refl
says_both Yes y = refl

keeps_says : Keeps verdicts truths (λ v t. says v ≡ t)
keeps_says = record {
  none = refl;
  joined = λ x u y v p q. says_either x u ∙ ap₂ ◌||◌ p q;
  combined = λ x u y v p q. says_both x u ∙ ap₂ ◌&&◌ p q;
  weighs = λ v. refl;
}

pub verdict_tells : (tape : List Counts) (f : Formula) → VerdictTells tape f
verdict_tells tape f =
    let same = ap says (joint_worth verdicts verdict_laws tape false 0 f) ∙ related _ keeps_says tape false 0 f in
    let tells = truth_tells tape f in
    (λ e. tells.0 (sym same ∙ e), λ a. same ∙ tells.1 a)
