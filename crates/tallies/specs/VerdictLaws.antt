-- Verdicts keep the laws of a tally.
use Rattle.std.specs.Prelude.{◌≡◌, refl}
use Rattle.std.proofs.Common.{ap}
use Rattle.std.proofs.lemmas.Bool.{false≢true}
use Rattle.temporal.specs.Tallies.{Laws}
use Rattle.tallies.specs.Verdicts.{both, either, says, verdicts}
use Rattle.tallies.specs.declared.verdict.Verdict.{Verdict}
use Rattle.tallies.specs.declared.verdict.Verdict.TheVariants.{No, Yes}

-- what holds of both verdicts holds of each
each : (P : Verdict → Type 0) → P No → P Yes → (v : Verdict) → P v
each P n y No = n
each P n y Yes = y

either_both : (x y z : Verdict) → both (either x y) z ≡ either (both x z) (both y z)
either_both No y z = refl
either_both Yes No No = refl
either_both Yes No Yes = refl
either_both Yes Yes No = refl
either_both Yes Yes Yes = refl

pub verdict_laws : Laws verdicts
verdict_laws = record {
  joined_assoc = λ x y z. each (λ v. either (either v y) z ≡ either v (either y z)) refl refl x;
  combined_assoc = λ x y z. each (λ v. both (both v y) z ≡ both v (both y z)) refl refl x;
  none_joined = λ x. refl;
  joined_none = each (λ v. either v No ≡ v) refl refl;
  unit_combined = λ x. refl;
  combined_unit = each (λ v. both v Yes ≡ v) refl refl;
  none_combined = λ x. refl;
  combined_none = each (λ v. both v No ≡ No) refl refl;
  combined_joined = λ x y z. each (λ v. both v (either y z) ≡ either (both v y) (both v z)) refl refl x;
  joined_combined = either_both;
  none_is_not_unit = λ e. false≢true (ap says e);
}
