-- What the sets that suffice tell: the end, and that kept and broken never turn.
use Rattle.std.proofs.Common.{◌≡◌, ℕ, Bool, true, false, ◌&&◌, ◌||◌, List, [], ◌∷◌, ◌++◌, reverse, sym, refl, ap, ◌∙◌, ap₂, true≢false}
use mathlib.Core.List.{reverse_aux, reverse_aux-eq}
use Rattle.std.proofs.lemmas.Bool.{cond_both, false_from_ne_true, false≢true}
use Rattle.std.proofs.lemmas.List.{reverse-append}
use Rattle.temporal.specs.Formula.{Formula}
use Rattle.temporal.specs.Forms.{accepts}
use Rattle.temporal.specs.Reading.{Counts, awaited, reading, waiting_part}
use Rattle.temporal.specs.Statements.{EndIsVerdict, SetsGrow, SettledNeverTurns}
use Rattle.temporal.specs.Suffices.{Broken, Kept, Marks, Within, accepting_operators, earlier, everything, nothing, suffices, truths}
use Rattle.temporal.proofs.Related.{Keeps, related_here}
use Rattle.temporal.proofs.Truth.{truth_tells}

-- the set that has to suffice before a tape, for this one to suffice after it
abbrev before : Formula → List Counts → Marks → Marks
before f [] v = v
before f (s ∷ tape) v = earlier f s (before f tape v)

suffices_before : (f : Formula) (tape noted : List Counts) (v : Marks) → suffices f (reverse_aux tape noted) v ≡ suffices f noted (before f tape v)
suffices_before f [] noted v = refl
suffices_before f (s ∷ tape) noted v = suffices_before f tape (s ∷ noted) v

keeps_equal : Keeps truths truths (λ x y. x ≡ y)
keeps_equal = record { none = refl; joined = λ x u y v p q. ap₂ ◌||◌ p q; combined = λ x u y v p q. ap₂ ◌&&◌ p q; weighs = λ v. refl }

-- before a tape, the accepting operators ask for the waiting parts that a reading of the tape finds true
waits_reading : (f : Formula) (later : List Counts) (n : Bool) (b : ℕ) (g : Formula) → (before f later accepting_operators).waits n b g ≡ waiting_part truths later (reading truths later) n b g
waits_reading f [] n b g = cond_both (accepts n g) true false (λ t. accepts n g ≡ t) (λ e. e) (λ e. e)
waits_reading f (t ∷ later) n b g = related_here _ keeps_equal (waits_reading f later) t n b (awaited g)

pub end_is_reading : (tape : List Counts) (f : Formula) → suffices f (reverse tape) accepting_operators ≡ reading truths tape false 0 f
end_is_reading [] f = refl
end_is_reading (s ∷ tape) f = suffices_before f (s ∷ tape) [] accepting_operators ∙ related_here _ keeps_equal (waits_reading f tape) s false 0 f

pub end_is_verdict : EndIsVerdict
end_is_verdict tape f =
    let same = end_is_reading tape f in
    (λ e. (truth_tells tape f).0 (sym same ∙ e), λ a. same ∙ (truth_tells tape f).1 a)

-- sets that suffice grow with the set
abbrev Implies : Bool → Bool → Type 0
Implies x y = x ≡ true → y ≡ true

or_grows : (x u y v : Bool) → Implies x y → Implies u v → Implies (x || u) (y || v)
or_grows true u y v p q e = ap (λ z. z || v) (p refl)
or_grows false u true v p q e = refl
or_grows false u false v p q e = q e

and_grows : (x u y v : Bool) → Implies x y → Implies u v → Implies (x && u) (y && v)
and_grows true u y v p q e = ap (λ z. z && v) (p refl) ∙ q e
and_grows false u y v p q e = absurd (false≢true e)

keeps_implied : Keeps truths truths Implies
keeps_implied = record { none = λ e. e; joined = or_grows; combined = and_grows; weighs = λ v e. e }

earlier_grows : (f : Formula) (s : Counts) (v w : Marks) → Within v w → Within (earlier f s v) (earlier f s w)
earlier_grows f s v w h =
    let given = related_here Implies keeps_implied {wx = v.waits} {wy = w.waits} h.waits s in
    record { start = given false 0 f; waits = λ n b g. given n b (awaited g) }

pub sets_grow : SetsGrow
sets_grow f [] v w h e = h.start e
sets_grow f (s ∷ noted) v w h e = sets_grow f noted (earlier f s v) (earlier f s w) (earlier_grows f s v w h) e

nothing_within : (v : Marks) → Within nothing v
nothing_within v = record { start = λ e. absurd (false≢true e); waits = λ n b g e. absurd (false≢true e) }

within_everything : (v : Marks) → Within v everything
within_everything v = record { start = λ e. refl; waits = λ n b g e. refl }

module _ (tape more : List Counts) (f : Formula) where
  -- once more states are noted, a set suffices if the set before them did
  suffices_more : (v : Marks) → suffices f (reverse (tape ++ more)) v ≡ suffices f (reverse tape) (before f more v)
  suffices_more v = ap (λ noted. suffices f noted v) (reverse-append tape more ∙ sym (reverse_aux-eq more (reverse tape))) ∙ suffices_before f more (reverse tape) v

  -- once the empty set suffices every set does, and once the full set does not none does
  kept_later : Kept tape f → (v : Marks) → suffices f (reverse (tape ++ more)) v ≡ true
  kept_later kept v = suffices_more v ∙ sets_grow f (reverse tape) nothing (before f more v) (nothing_within _) kept

  broken_later : Broken tape f → (v : Marks) → suffices f (reverse (tape ++ more)) v ≡ true → ⊥
  broken_later broken v e = true≢false (sym (sets_grow f (reverse tape) (before f more v) everything (within_everything _) (sym (suffices_more v) ∙ e)) ∙ broken)

pub settled_never_turns : SettledNeverTurns
settled_never_turns tape f = record {
  kept_stays = λ more kept. kept_later tape more f kept nothing;
  kept_ends_in_yes = λ more kept. (end_is_verdict (tape ++ more) f).0 (kept_later tape more f kept accepting_operators);
  broken_stays = λ more broken. false_from_ne_true _ (broken_later tape more f broken everything);
  broken_ends_in_no = λ more broken a. broken_later tape more f broken accepting_operators ((end_is_verdict (tape ++ more) f).1 a);
  not_both = λ kept broken. true≢false (sym (sets_grow f (reverse tape) nothing everything (nothing_within everything) kept) ∙ broken);
}
