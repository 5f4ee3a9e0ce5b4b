-- Two readings over worths whose operations keep a relation are related: the one induction over formulas and tapes.
use Rattle.std.proofs.Common.{ℕ, ◌+◌, Bool, true, false, cond, not, List, [], ◌∷◌}
use Rattle.temporal.specs.Formula.{Formula, atom, negation, unary, binary, nodes}
use Rattle.temporal.specs.Forms.{unary_form, binary_form, left_sign, accepts}
use Rattle.temporal.specs.Nodes.{root}
use Rattle.temporal.specs.Reading.{Counts, awaited, formed, here, reading, waiting_part}
use Rattle.temporal.specs.Tallies.{Worths, visit}
use Rattle.temporal.specs.declared.operators.Form.{Form}
use Rattle.temporal.specs.declared.operators.Form.TheVariants as form
use Rattle.temporal.specs.declared.visits.Visit.{Visit}

pub record Keeps {X Y : Type 0} (p : Worths X) (q : Worths Y) (R : X → Y → Type 0) : Type 0 where
  pub none : R p.none q.none
  pub joined : (x u : X) (y v : Y) → R x y → R u v → R (p.joined x u) (q.joined y v)
  pub combined : (x u : X) (y v : Y) → R x y → R u v → R (p.combined x u) (q.combined y v)
  pub weighs : (v : Visit) → R (p.weighs v) (q.weighs v)

module _ {X Y : Type 0} {p : Worths X} {q : Worths Y} (R : X → Y → Type 0) (k : Keeps p q R) where
  related_formed : (o : Form) {w x u : X} {v y z : Y} → R w v → R x y → R u z → R (formed p o w x u) (formed q o v y z)
  related_formed form.And rw rx ru = k.combined _ _ _ _ rx ru
  related_formed form.Or rw rx ru = k.joined _ _ _ _ rx ru
  related_formed form.Next rw rx ru = rw
  related_formed form.Always rw rx ru = k.combined _ _ _ _ rw rx
  related_formed form.Eventually rw rx ru = k.joined _ _ _ _ rw rx
  related_formed form.Until rw rx ru = k.joined _ _ _ _ ru (k.combined _ _ _ _ rw rx)
  related_formed form.Release rw rx ru = k.combined _ _ _ _ ru (k.joined _ _ _ _ rw rx)

  -- a visit alone, if a test says so
  related_alone : (test : Bool) (v : Visit) → R (cond test (p.weighs v) p.none) (cond test (q.weighs v) q.none)
  related_alone true v = k.weighs v
  related_alone false v = k.none

  module _ {wx : Bool → ℕ → Formula → X} {wy : Bool → ℕ → Formula → Y} (rw : (n : Bool) (b : ℕ) (f : Formula) → R (wx n b f) (wy n b f)) where
    pub related_here : (s : Counts) (n : Bool) (b : ℕ) (f : Formula) → R (here p s wx n b f) (here q s wy n b f)
    related_here s n b (atom a) = related_alone (s n a) (visit b true)
    related_here s n b (negation f) = related_here s (not n) b f
    related_here s n b (unary o f) = related_formed (unary_form o n) (rw n b (unary o f)) (related_here s n b f) (related_here s n b f)
    related_here s n b (binary o f g) = related_formed (binary_form o n) (rw n b (binary o f g)) (related_here s (left_sign o n) b f) (related_here s n (b + nodes f) g)

    related_waiting : (later : List Counts) (n : Bool) (b : ℕ) (f : Formula) → R (waiting_part p later wx n b f) (waiting_part q later wy n b f)
    related_waiting [] n b f = related_alone (accepts n f) (visit (root b f) true)
    related_waiting (t ∷ later) n b f = k.combined _ _ _ _ (k.weighs (visit (root b f) (accepts n f))) (rw n b (awaited f))

  pub related : (tape : List Counts) (n : Bool) (b : ℕ) (f : Formula) → R (reading p tape n b f) (reading q tape n b f)
  related [] n b f = k.none
  related (s ∷ later) n b f = related_here (related_waiting (related later) later) s n b f
