-- The list of runs and the relation agree: every listed run is accepting, and every accepting run is listed.
use Rattle.std.proofs.Common.{◌≡◌, ℕ, suc, ◌+◌, Bool, true, false, cond, not, ◌↔◌, List, [], ◌∷◌, ◌++◌, map, sym, refl, ap, inl, inr, ⊎_elim, arith}
use mathlib.Core.List.Memᴰ.{append_left as in_left}
use mathlib.Core.List.Memᴰ.{append_right as in_right}
use mathlib.Core.List.Memᴰ.{cast as in_cast}
use mathlib.Core.List.Memᴰ.{head as in_head}
use mathlib.Core.List.Memᴰ.{map as in_map}
use mathlib.Core.List.Memᴰ.{tail as in_tail}
use mathlib.Core.List.{Memᴰ as In}
use Rattle.std.specs.List.{AllByRecursion, Contains}
use Rattle.std.proofs.lemmas.Bool.{cond_both}
use Rattle.temporal.specs.Accepts.{Alone, alone, Onward, onward, Formed, and, or_left, or_right, next, always, eventually_later, eventually_now, until_now, until_later, release_later, release_now, Accepts, AcceptsHere, AcceptsFrom, Waits}
use Rattle.temporal.specs.Formula.{Formula, atom, negation, unary, binary, nodes}
use Rattle.temporal.specs.Forms.{unary_form, binary_form, left_sign, accepts}
use Rattle.temporal.specs.Nodes.{root}
use Rattle.temporal.specs.Reading.{Counts, awaited, formed, here, waiting_part}
use Rattle.temporal.specs.Runs.{followed, run_lists, runs, runs_from}
use Rattle.temporal.specs.Tallies.{Run, visit}
use Rattle.temporal.specs.declared.operators.Form.{Form}
use Rattle.temporal.specs.declared.operators.Form.TheVariants as form
use Rattle.temporal.specs.declared.visits.Visit.{Visit}
use Rattle.temporal.proofs.Lists.{all_append, all_contained, all_mapped, all_weaker}

-- what holds of the runs of two lists joined, and of each run of one followed by each run of the other
module _ {P Q : Run → Type 0} (R : Run → Type 0) where
  all_joined : ((x : Run) → P x → R x) → ((y : Run) → Q y → R y) → (xs ys : List Run) → AllByRecursion P xs → AllByRecursion Q ys → AllByRecursion R (xs ++ ys)
  all_joined f g xs ys ps qs = all_append R xs ys (all_weaker f xs ps) (all_weaker g ys qs)

  pub all_followed : ((x y : Run) → P x → Q y → R (x ++ y)) → (xs ys : List Run) → AllByRecursion P xs → AllByRecursion Q ys → AllByRecursion R (followed xs ys)
  all_followed make [] ys ps qs = tt
  all_followed make (x ∷ xs) ys ps qs =
      all_append R (map (λ y. x ++ y) ys) (followed xs ys) (all_mapped R (λ y. x ++ y) (λ y q. make x y ps.0 q) ys qs)
      (all_followed make xs ys ps.1 qs)

-- a run of one list, followed by a run of another, is in the list of these; what is in a list has a place there
in_followed : {x y : Run} {xs ys : List Run} → In x xs → In y ys → In (x ++ y) (followed xs ys)
in_followed {y = y} {ys = ys} (in_head {x = z} {xs = zs} e) q = in_cast (ap (λ v. v ++ y) e) (in_left (followed zs ys) (in_map (λ v. z ++ v) q))
in_followed {ys = ys} (in_tail {x = z} p) q = in_right (map (λ v. z ++ v) ys) (in_followed p q)

has : {x : Run} {xs : List Run} → In x xs → Contains xs x
has (in_head e) = (0, omega arith, sym e)
has (in_tail p) = let h = has p in (suc h.0, omega arith, h.2)

-- a list has exactly the runs of a relation
record Exact (P : Run → Type 0) (rs : List Run) : Type 0 where
  sound : AllByRecursion P rs
  complete : {r : Run} → P r → In r rs

-- form by form, and way by way
module _ {W X Y : Run → Type 0} {ws xs ys : List Run} (ew : Exact W ws) (ex : Exact X xs) (ey : Exact Y ys) where
  sound_formed : (o : Form) → AllByRecursion (Formed W X Y o) (formed run_lists o ws xs ys)
  sound_formed form.And = all_followed _ (λ x y p q. and p q) xs ys ex.sound ey.sound
  sound_formed form.Or = all_joined _ (λ x p. or_left p) (λ y q. or_right q) xs ys ex.sound ey.sound
  sound_formed form.Next = all_weaker (λ w p. next p) ws ew.sound
  sound_formed form.Always = all_followed _ (λ w x p q. always p q) ws xs ew.sound ex.sound
  sound_formed form.Eventually = all_joined _ (λ w p. eventually_later p) (λ x q. eventually_now q) ws xs ew.sound ex.sound
  sound_formed form.Until = all_joined _ (λ y p. until_now p) (λ z q. q) ys (followed ws xs) ey.sound (all_followed _ (λ w x p q. until_later p q) ws xs ew.sound ex.sound)
  sound_formed form.Release =
      all_followed _ (λ y z p q. ⊎_elim (λ w. release_later p w) (λ x. release_now p x) q) ys (ws ++ xs) ey.sound
      (all_joined _ (λ w p. inl p) (λ x q. inr q) ws xs ew.sound ex.sound)

  complete_formed : {o : Form} {r : Run} → Formed W X Y o r → In r (formed run_lists o ws xs ys)
  complete_formed (and p q) = in_followed (ex.complete p) (ey.complete q)
  complete_formed (or_left p) = in_left ys (ex.complete p)
  complete_formed (or_right q) = in_right xs (ey.complete q)
  complete_formed (next p) = ew.complete p
  complete_formed (always p q) = in_followed (ew.complete p) (ex.complete q)
  complete_formed (eventually_later p) = in_left xs (ew.complete p)
  complete_formed (eventually_now q) = in_right ws (ex.complete q)
  complete_formed (until_now p) = in_left (followed ws xs) (ey.complete p)
  complete_formed (until_later p q) = in_right ys (in_followed (ew.complete p) (ex.complete q))
  complete_formed (release_later p q) = in_followed (ey.complete p) (in_left xs (ew.complete q))
  complete_formed (release_now p q) = in_followed (ey.complete p) (in_right ws (ex.complete q))

  exact_formed : (o : Form) → Exact (Formed W X Y o) (formed run_lists o ws xs ys)
  exact_formed o = record { sound = sound_formed o; complete = complete_formed }

-- a visit alone, if a test says so
sound_alone : (k : ℕ) (test : Bool) → AllByRecursion (Alone k test) (cond test ((visit k true ∷ []) ∷ []) [])
sound_alone k test = cond_both test _ _ (AllByRecursion (Alone k test)) (λ e. (alone e, tt)) (λ e. tt)

complete_alone : {k : ℕ} {test : Bool} {r : Run} → Alone k test r → In r (cond test ((visit k true ∷ []) ∷ []) [])
complete_alone (alone e) = rw e (in_head refl)

exact_alone : (k : ℕ) (test : Bool) → Exact (Alone k test) (cond test ((visit k true ∷ []) ∷ []) [])
exact_alone k test = record { sound = sound_alone k test; complete = complete_alone }

-- a visit before each run of a list
module _ (v : Visit) {P : Run → Type 0} {rs : List Run} (e : Exact P rs) where
  complete_onward : {r : Run} → Onward v P r → In r (followed ((v ∷ []) ∷ []) rs)
  complete_onward (onward p) = in_followed {x = v ∷ []} (in_head {xs = []} refl) (e.complete p)

  exact_onward : Exact (Onward v P) (followed ((v ∷ []) ∷ []) rs)
  exact_onward = record {
    sound = all_followed {P = λ x. x ≡ (v ∷ [])} _ (λ x y p q. rw p (onward q)) ((v ∷ []) ∷ []) rs (refl, tt) e.sound;
    complete = complete_onward;
  }

-- one state, and then the tape from its last state back
module _ {Waiting : Bool → ℕ → Formula → Run → Type 0} {waiting : Bool → ℕ → Formula → List Run}
    (ew : (n : Bool) (b : ℕ) (f : Formula) → Exact (Waiting n b f) (waiting n b f)) where
  exact_here : (s : Counts) (n : Bool) (b : ℕ) (f : Formula) → Exact (AcceptsHere s Waiting n b f) (here run_lists s waiting n b f)
  exact_here s n b (atom a) = exact_alone b (s n a)
  exact_here s n b (negation f) = exact_here s (not n) b f
  exact_here s n b (unary o f) = exact_formed (ew n b (unary o f)) (exact_here s n b f) (exact_here s n b f) (unary_form o n)
  exact_here s n b (binary o f g) = exact_formed (ew n b (binary o f g)) (exact_here s (left_sign o n) b f) (exact_here s n (b + nodes f) g) (binary_form o n)

  exact_waiting : (later : List Counts) (n : Bool) (b : ℕ) (f : Formula) → Exact (Waits later Waiting n b f) (waiting_part run_lists later waiting n b f)
  exact_waiting [] n b f = exact_alone (root b f) (accepts n f)
  exact_waiting (t ∷ later) n b f = exact_onward (visit (root b f) (accepts n f)) (ew n b (awaited f))

exact : (tape : List Counts) (n : Bool) (b : ℕ) (f : Formula) → Exact (AcceptsFrom tape n b f) (runs_from tape n b f)
exact [] n b f = record { sound = tt; complete = λ p. absurd p }
exact (s ∷ later) n b f = exact_here (exact_waiting (exact later) later) s n b f

pub exactly : (tape : List Counts) (f : Formula) (run : Run) → Contains (runs tape f) run ↔ Accepts tape f run
exactly tape f run = (all_contained _ (runs tape f) run (exact tape false 0 f).sound, λ p. has ((exact tape false 0 f).complete p))
