-- Every visit of an accepting run is the visit of one of the rule's nodes.
use Rattle.std.proofs.Common.{◌≡◌, ℕ, ◌+◌, Bool, true, false, cond, not, List, [], ◌∷◌, ◌++◌, map, sym, refl, ap, subst, arith}
use Rattle.std.proofs.lemmas.Bool.{cond_both}
use Rattle.std.proofs.lemmas.List.{map-append}
use Rattle.std.specs.List.{AllByRecursion, Contains}
use Rattle.std.proofs.lemmas.List.Elements.{All-from_recursion, Contains-append_left, Contains-append_right}
use Rattle.temporal.specs.Formula.{Formula, atom, negation, unary, binary, nodes}
use Rattle.temporal.specs.Forms.{accepts, binary_form, left_sign, unary_form}
use Rattle.temporal.specs.Nodes.{Node, in_order, node, root, visit_of}
use Rattle.temporal.specs.Reading.{Counts, awaited, formed, here, waiting_part}
use Rattle.temporal.specs.Runs.{followed, run_lists, runs, runs_from}
use Rattle.temporal.specs.Statements.{VisitsAreOfNodes}
use Rattle.temporal.specs.Tallies.{Run, visit}
use Rattle.temporal.specs.declared.operators.Form.{Form}
use Rattle.temporal.specs.declared.operators.Form.TheVariants as form
use Rattle.temporal.specs.declared.operators.Unary.TheVariants.{Next, Always, Eventually}
use Rattle.temporal.specs.declared.visits.Visit.{Visit}
use Rattle.temporal.proofs.Exact.{all_followed, exactly}
use Rattle.temporal.proofs.Lists.{all_append, all_contained, all_weaker}

-- the visits of a formula's nodes
abbrev visits : Bool → ℕ → Formula → List Visit
visits n b f = map visit_of (in_order n b f)

-- runs whose visits are all of a formula's nodes
abbrev Of : Bool → ℕ → Formula → List Run → Type 0
Of n b f rs = AllByRecursion (AllByRecursion (Contains (visits n b f))) rs

abbrev Inside : List Visit → List Visit → Type 0
Inside xs ys = (v : Visit) → Contains xs v → Contains ys v

wider : (xs ys : List Visit) → Inside xs ys → (rs : List Run) → AllByRecursion (AllByRecursion (Contains xs)) rs → AllByRecursion (AllByRecursion (Contains ys)) rs
wider xs ys i rs = all_weaker (all_weaker i) rs

-- the nodes of an operand are nodes of its formula, and so is the operator's own
inside_left : (xs ys : List Node) → Inside (map visit_of xs) (map visit_of (xs ++ ys))
inside_left xs ys v h = subst (λ vs. Contains vs v) (sym (map-append visit_of xs ys)) (Contains-append_left (map visit_of xs) (map visit_of ys) v h)

inside_right : (xs ys : List Node) → Inside (map visit_of ys) (map visit_of (xs ++ ys))
inside_right xs ys v h = subst (λ vs. Contains vs v) (sym (map-append visit_of xs ys)) (Contains-append_right (map visit_of xs) (map visit_of ys) v h)

own : (xs : List Node) (x : Node) → Contains (map visit_of (xs ++ (x ∷ []))) (visit_of x)
own xs x = inside_right xs (x ∷ []) (visit_of x) (0, omega arith, refl)

own_visit : (n : Bool) (b : ℕ) (f : Formula) → Contains (visits n b f) (visit (root b f) (accepts n f))
own_visit n b (atom a) = (0, omega arith, refl)
own_visit n b (negation f) = own_visit (not n) b f
own_visit n b (unary o f) = own (in_order n b f) (node n b (unary o f))
own_visit n b (binary o f g) = inside_right (in_order (left_sign o n) b f) _ _ (own (in_order n (b + nodes f) g) (node n b (binary o f g)))

awaited_inside : (n : Bool) (b : ℕ) (f : Formula) → Inside (visits n b (awaited f)) (visits n b f)
awaited_inside n b (atom a) v h = h
awaited_inside n b (negation f) v h = h
awaited_inside n b (unary Next f) v h = inside_left (in_order n b f) _ v h
awaited_inside n b (unary Always f) v h = h
awaited_inside n b (unary Eventually f) v h = h
awaited_inside n b (binary o f g) v h = h

-- a form makes runs of no other visits
of_both : (P : Visit → Type 0) (xs ys : List Run) → AllByRecursion (AllByRecursion P) xs → AllByRecursion (AllByRecursion P) ys → AllByRecursion (AllByRecursion P) (followed xs ys)
of_both P xs ys = all_followed (AllByRecursion P) (all_append P) xs ys

module _ (P : Visit → Type 0) (ws xs ys : List Run) (pw : AllByRecursion (AllByRecursion P) ws) (px : AllByRecursion (AllByRecursion P) xs) (py : AllByRecursion (AllByRecursion P) ys) where
  of_formed : (o : Form) → AllByRecursion (AllByRecursion P) (formed run_lists o ws xs ys)
  of_formed form.And = of_both P xs ys px py
  of_formed form.Or = all_append _ xs ys px py
  of_formed form.Next = pw
  of_formed form.Always = of_both P ws xs pw px
  of_formed form.Eventually = all_append _ ws xs pw px
  of_formed form.Until = all_append _ ys _ py (of_both P ws xs pw px)
  of_formed form.Release = of_both P ys (ws ++ xs) py (all_append _ ws xs pw px)

of_alone : (n : Bool) (b : ℕ) (f : Formula) (k : ℕ) (allowed : Bool) → (allowed ≡ true → Contains (visits n b f) (visit k true)) → Of n b f (cond allowed ((visit k true ∷ []) ∷ []) [])
of_alone n b f k allowed h = cond_both allowed _ _ (Of n b f) (λ e. ((h e, tt), tt)) (λ e. tt)

-- one state, and then the tape from its last state back
module _ (waiting : Bool → ℕ → Formula → List Run) where
  of_here : (s : Counts) → ((n : Bool) (b : ℕ) (f : Formula) → Of n b f (waiting n b f)) → (n : Bool) (b : ℕ) (f : Formula) → Of n b f (here run_lists s waiting n b f)
  of_here s ow n b (atom a) = of_alone n b (atom a) b (s n a) (λ e. (0, omega arith, ap (λ k. visit k true) (omega arith)))
  of_here s ow n b (negation f) = of_here s ow (not n) b f
  of_here s ow n b (unary o f) =
      let x = wider _ (visits n b (unary o f)) (inside_left (in_order n b f) _) _ (of_here s ow n b f) in
      of_formed _ _ _ _ (ow n b (unary o f)) x x (unary_form o n)
  of_here s ow n b (binary o f g) =
      let right = in_order n (b + nodes f) g in
      of_formed _ _ _ _ (ow n b (binary o f g))
      (wider _ _ (inside_left (in_order (left_sign o n) b f) _) _ (of_here s ow (left_sign o n) b f))
      (wider _ _ (λ v h. inside_right (in_order (left_sign o n) b f) _ v (inside_left right _ v h)) _ (of_here s ow n (b + nodes f) g))
      (binary_form o n)

  of_waiting : (later : List Counts) → ((n : Bool) (b : ℕ) (f : Formula) → Of n b f (waiting n b f)) → (n : Bool) (b : ℕ) (f : Formula) → Of n b f (waiting_part run_lists later waiting n b f)
  of_waiting [] o n b f = of_alone n b f (root b f) (accepts n f) (λ e. subst (λ a. Contains (visits n b f) (visit (root b f) a)) e (own_visit n b f))
  of_waiting (t ∷ later) o n b f =
      of_both _ ((visit (root b f) (accepts n f) ∷ []) ∷ []) (waiting n b (awaited f))
      ((own_visit n b f, tt), tt) (wider _ _ (awaited_inside n b f) _ (o n b (awaited f)))

of_runs : (tape : List Counts) (n : Bool) (b : ℕ) (f : Formula) → Of n b f (runs_from tape n b f)
of_runs [] n b f = tt
of_runs (s ∷ later) n b f = of_here _ s (of_waiting _ later (of_runs later)) n b f

pub visits_are_of_nodes : VisitsAreOfNodes
visits_are_of_nodes tape f run a = All-from_recursion _ run (all_contained _ (runs tape f) run (of_runs tape false 0 f) ((exactly tape f run).1 a))
