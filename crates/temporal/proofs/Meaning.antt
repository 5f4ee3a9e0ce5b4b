-- What the runs tell is what holds: position by position from the last one back, for both signs at once.
use Rattle.std.proofs.Common.{◌≡◌, ℕ, ◌+◌, ◌<◌, ◌≤◌, Bool, true, false, cond, not, ◌&&◌, ◌||◌, ◌⊎◌, ◌↔◌, List, [], ◌∷◌, map, length, get_or, drop, refl, ap, subst, inl, inr, ⊎_elim, eq-or-lt_of_le, arith, length-drop}
use Rattle.std.proofs.lemmas.Bool.{false≢true}
use Rattle.std.proofs.lemmas.List.{drop_more}
use Rattle.temporal.specs.Formula.{Formula, atom, negation, unary, binary, nodes}
use Rattle.temporal.specs.Holds.{Answers, Holds, Throughout, Somewhere, Reached}
use Rattle.temporal.specs.Reading.{counted, here, reading, waiting_part}
use Rattle.temporal.specs.Statements.{Meaning}
use Rattle.temporal.specs.Suffices.{truths}
use Rattle.temporal.specs.declared.operators.Unary.TheVariants.{Next, Always, Eventually}
use Rattle.temporal.specs.declared.operators.Binary.TheVariants.{And, Or, Implies, Until, Unless}
use Rattle.temporal.proofs.Truth.{truth_tells}

-- two tests, of a positive and a negative reading, tell whether P holds
data Told (P : Type 0) : Bool → Bool → Type 0 where
  holds : P → Told P true false
  fails : (P → ⊥) → Told P false true

told_true : {P : Type 0} {x y : Bool} → Told P x y → x ≡ true ↔ P
told_true (holds p) = (λ e. p, λ q. refl)
told_true (fails p) = (λ e. absurd (false≢true e), λ q. absurd (p q))

told_answer : (x : Bool) → Told (x ≡ true) (cond x true false) (cond (not x) true false)
told_answer true = holds refl
told_answer false = fails false≢true

told_not : {P : Type 0} {x y : Bool} → Told P x y → Told (P → ⊥) y x
told_not (holds p) = fails (λ n. n p)
told_not (fails p) = holds p

told_same : {P Q : Type 0} {x y : Bool} → P ↔ Q → Told P x y → Told Q x y
told_same e (holds p) = holds (e.0 p)
told_same e (fails p) = fails (λ q. p (e.1 q))

told_and : {P Q : Type 0} {x y u v : Bool} → Told P x y → Told Q u v → Told (P × Q) (x && u) (y || v)
told_and (holds p) (holds q) = holds (p, q)
told_and (holds p) (fails q) = fails (λ h. q h.1)
told_and (fails p) t = fails (λ h. p h.0)

told_or : {P Q : Type 0} {x y u v : Bool} → Told P x y → Told Q u v → Told (P ⊎ Q) (x || u) (y && v)
told_or (holds p) t = holds (inl p)
told_or (fails p) (holds q) = holds (inr q)
told_or (fails p) (fails q) = fails (⊎_elim p q)

-- what is asked from a position on is asked there, and from the next one on
at_or_after : (R : ℕ → Type 0) {i j : ℕ} → i ≤ j → R i → (i + 1 ≤ j → R j) → R j
at_or_after R l p after = ⊎_elim (λ e. subst R e p) (λ m. after (omega arith)) (eq-or-lt_of_le l)

module _ (tape : List Answers) {i : ℕ} (inside : i < length tape) (P : ℕ → Type 0) where
  throughout : (Throughout tape P (i + 1) × P i) ↔ Throughout tape P i
  throughout = (λ (h, p) j a. at_or_after P a.0 p (λ l. h j (l, a.1)), λ h. (λ j a. h j (omega arith), h i (omega arith)))

  somewhere : (Somewhere tape P (i + 1) ⊎ P i) ↔ Somewhere tape P i
  somewhere = (
    ⊎_elim (λ (j, a, p). (j, omega arith, p)) (λ p. (i, omega arith, p)),
    λ (j, a, p). at_or_after (λ k. P k → Somewhere tape P (i + 1) ⊎ P i) a.0 inr (λ l r. inl (j, (l, a.1), r)) p,
  )

  module _ (Q : ℕ → Type 0) where
    reached : (Q i ⊎ (Reached tape P Q (i + 1) × P i)) ↔ Reached tape P Q i
    reached = (
      ⊎_elim
          (λ q. (i, omega arith, q, λ j l m. absurd (omega arith)))
          (λ ((k, a, q, before), p). (k, omega arith, q, λ j l m. at_or_after P l p (λ n. before j n m))),
      λ (k, a, q, before). at_or_after (λ j. Q j → Q i ⊎ (Reached tape P Q (i + 1) × P i)) a.0
          inl (λ l r. inr ((k, (l, a.1), r, λ j n m. before j (omega arith) m), before i (omega arith) (omega arith))) q,
    )

    reached_or_throughout : (Q i ⊎ ((Reached tape P Q (i + 1) ⊎ Throughout tape P (i + 1)) × P i)) ↔ (Reached tape P Q i ⊎ Throughout tape P i)
    reached_or_throughout = (
      ⊎_elim
          (λ q. inl (reached.0 (inl q)))
          (λ (h, p). ⊎_elim (λ r. inl (reached.0 (inr (r, p)))) (λ t. inr (throughout.0 (t, p))) h),
      ⊎_elim
          (λ r. ⊎_elim inl (λ (n, p). inr (inl n, p)) (reached.1 r))
          (λ t. let (n, p) = throughout.1 t in inr (inr n, p)),
    )

abbrev Reading : Type 0
Reading = Bool → ℕ → Formula → Bool

-- a reading's two signs tell P
abbrev Tells : Reading → ℕ → Formula → Type 0 → Type 0
Tells r b f P = Told P (r false b f) (r true b f)

module _ (tape : List Answers) where
  abbrev truth : List Answers → Reading
  truth rest = reading truths (map counted rest)

  abbrev TellsFrom : ℕ → List Answers → Type 0
  TellsFrom i rest = (b : ℕ) (f : Formula) → Tells (truth rest) b f (Holds tape f i)

  abbrev state : ℕ → Answers
  state i = get_or tape i (λ a. false)

  module _ (i : ℕ) where
    -- a reading of the waiting parts tells what they ask after position i
    record Later (r : Reading) : Type 0 where
      for_next : (b : ℕ) (f : Formula) → Tells r b (unary Next f) (Holds tape (unary Next f) i)
      for_always : (b : ℕ) (f : Formula) → Tells r b (unary Always f) (Holds tape (unary Always f) (i + 1))
      for_eventually : (b : ℕ) (f : Formula) → Tells r b (unary Eventually f) (Holds tape (unary Eventually f) (i + 1))
      for_until : (b : ℕ) (f g : Formula) → Tells r b (binary Until f g) (Holds tape (binary Until f g) (i + 1))
      for_unless : (b : ℕ) (f g : Formula) → Tells r b (binary Unless f g) (Holds tape (binary Unless f g) (i + 1))

    abbrev waits : List Answers → Reading
    waits rest = waiting_part truths (map counted rest) (truth rest)

    -- where no position is left, the accepting ones hold
    at_last : length tape ≤ i + 1 → Later (waits [])
    at_last l = record {
      for_next = λ b f. fails (λ h. omega arith);
      for_always = λ b f. holds (λ j a. absurd (omega arith));
      for_eventually = λ b f. fails (λ h. omega arith);
      for_until = λ b f g. fails (λ h. omega arith);
      for_unless = λ b f g. holds (inr (λ j a. absurd (omega arith)));
    }

    -- else it is what the next position's reading tells
    before_last : (s : Answers) (rest : List Answers) → i + 1 < length tape → TellsFrom (i + 1) (s ∷ rest) → Later (waits (s ∷ rest))
    before_last s rest l t = record {
      for_next = λ b f. told_same (λ h. (l, h), λ h. h.1) (t b f);
      for_always = λ b f. t b (unary Always f);
      for_eventually = λ b f. t b (unary Eventually f);
      for_until = λ b f g. t b (binary Until f g);
      for_unless = λ b f g. t b (binary Unless f g);
    }

    module _ (inside : i < length tape) {r : Reading} (later : Later r) where
      -- a position's reading tells what holds there
      told_here : (b : ℕ) (f : Formula) → Tells (here truths (counted (state i)) r) b f (Holds tape f i)
      told_here b (atom a) = told_answer (state i a)
      told_here b (negation f) = told_not (told_here b f)
      told_here b (unary Next f) = later.for_next b f
      told_here b (unary Always f) = told_same (throughout tape inside (Holds tape f)) (told_and (later.for_always b f) (told_here b f))
      told_here b (unary Eventually f) = told_same (somewhere tape inside (Holds tape f)) (told_or (later.for_eventually b f) (told_here b f))
      told_here b (binary And f g) = told_and (told_here b f) (told_here (b + nodes f) g)
      told_here b (binary Or f g) = told_or (told_here b f) (told_here (b + nodes f) g)
      told_here b (binary Implies f g) = told_or (told_not (told_here b f)) (told_here (b + nodes f) g)
      told_here b (binary Until f g) = told_same (reached tape inside (Holds tape f) (Holds tape g)) (told_or (told_here (b + nodes f) g) (told_and (later.for_until b f g) (told_here b f)))
      told_here b (binary Unless f g) = told_same (reached_or_throughout tape inside (Holds tape f) (Holds tape g)) (told_or (told_here (b + nodes f) g) (told_and (later.for_unless b f g) (told_here b f)))

  -- so does the reading of the tape from there on, of which the rest is what follows position i
  told : (rest : List Answers) (i : ℕ) → i < length tape → drop (i + 1) tape ≡ rest → TellsFrom i (state i ∷ rest)
  told [] i l e = told_here i l (at_last i (omega (arith, length-drop (i + 1) tape, ap length e)))
  told (s ∷ rest) i l e =
      let m : i + 1 < length tape = omega (arith, length-drop (i + 1) tape, ap length e) in
      let d = drop_more tape (i + 1) (λ a. false) m in
      told_here i l (before_last i s rest m (subst (λ t. TellsFrom (i + 1) (t ∷ rest)) (cc) (told rest (i + 1) m (cc))))

pub truth_means : (tape : List Answers) (f : Formula) → reading truths (map counted tape) false 0 f ≡ true ↔ ((0 < length tape) × Holds tape f 0)
truth_means [] f = told_true (fails (λ h. omega arith))
truth_means (s ∷ tape) f = told_true (told_same (λ h. (omega arith, h), λ h. h.1) (told (s ∷ tape) tape 0 (omega arith) refl 0 f))

pub meaning : Meaning
meaning tape f =
    let tells = truth_tells (map counted tape) f in
    let means = truth_means tape f in
    (λ a. means.0 (tells.1 a), λ h. tells.0 (means.1 h))
