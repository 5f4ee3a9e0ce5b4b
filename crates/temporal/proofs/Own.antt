-- Sets that agree on the rule's own waiting operators suffice alike.
use Rattle.std.proofs.Common.{◌≡◌, ℕ, ◌+◌, Bool, true, false, cond, not, List, [], ◌∷◌, ◌++◌, filter, sym, refl, ◌∙◌, subst, true≢false}
use Rattle.std.specs.List.{AllByRecursion}
use Rattle.std.proofs.lemmas.Bool.{cond_both}
use Rattle.std.proofs.lemmas.List.Elements.{All-from_recursion, filter-append, recursion_from_All}
use Rattle.temporal.specs.Formula.{Formula, atom, negation, unary, binary, nodes}
use Rattle.temporal.specs.Forms.{binary_form, binary_waits, left_sign, unary_form}
use Rattle.temporal.specs.Nodes.{Node, in_order, node, waiting_operators, waits}
use Rattle.temporal.specs.Reading.{Counts, awaited, formed}
use Rattle.temporal.specs.Statements.{OwnOperatorsDecide}
use Rattle.temporal.specs.Suffices.{Marks, earlier, true_given, truths}
use Rattle.temporal.specs.declared.operators.Binary.{Binary}
use Rattle.temporal.specs.declared.operators.Binary.TheVariants.{And, Or, Implies, Until, Unless}
use Rattle.temporal.specs.declared.operators.Form.{Form}
use Rattle.temporal.specs.declared.operators.Unary.{Unary}
use Rattle.temporal.specs.declared.operators.Unary.TheVariants.{Next, Always, Eventually}
use Rattle.temporal.proofs.Lists.{all_append}

-- of two lists of nodes, one after the other, the waiting ones are those of each
abbrev waiting : List Node → List Node
waiting xs = filter (λ x. waits x.formula) xs

module _ (P : Node → Type 0) where
  all_apart : (xs ys : List Node) → AllByRecursion P (xs ++ ys) → AllByRecursion P xs × AllByRecursion P ys
  all_apart [] ys h = (tt, h)
  all_apart (x ∷ xs) ys h = let (p, q) = all_apart xs ys h.1 in ((h.0, p), q)

  split : (xs ys : List Node) → AllByRecursion P (waiting (xs ++ ys)) → AllByRecursion P (waiting xs) × AllByRecursion P (waiting ys)
  split xs ys h = all_apart (waiting xs) (waiting ys) (subst (AllByRecursion P) (filter-append (λ x. waits x.formula) xs ys) h)

  joined : (xs ys : List Node) → AllByRecursion P (waiting xs) → AllByRecursion P (waiting ys) → AllByRecursion P (waiting (xs ++ ys))
  joined xs ys p q = subst (AllByRecursion P) (sym (filter-append (λ x. waits x.formula) xs ys)) (all_append P (waiting xs) (waiting ys) p q)

abbrev Same : Marks → Marks → Node → Type 0
Same v w x = v.waits x.negative x.first x.formula ≡ w.waits x.negative x.first x.formula

abbrev Agree : Marks → Marks → Bool → ℕ → Formula → Type 0
Agree v w n b f = AllByRecursion (Same v w) (waiting_operators n b f)

-- an operator that does not wait makes nothing of its waiting part
unused : (o : Binary) (n : Bool) → binary_waits o ≡ false → (u t x y : Bool) → formed truths (binary_form o n) u x y ≡ formed truths (binary_form o n) t x y
unused And false e u t x y = refl
unused And true e u t x y = refl
unused Or false e u t x y = refl
unused Or true e u t x y = refl
unused Implies false e u t x y = refl
unused Implies true e u t x y = refl
unused Until n e u t x y = absurd (true≢false e)
unused Unless n e u t x y = absurd (true≢false e)

same_formed : (o : Form) {u t x p y q : Bool} → u ≡ t → x ≡ p → y ≡ q → formed truths o u x y ≡ formed truths o t p q
same_formed o a b c = λ i. formed truths o (a i) (b i) (c i)

module _ (v w : Marks) (n : Bool) (b : ℕ) where
  -- a binary operator's waiting part is the same, or unused
  same_binary : (o : Binary) (f g : Formula) (t : Bool) → binary_waits o ≡ t → AllByRecursion (Same v w) (cond t (node n b (binary o f g) ∷ []) []) → (x y : Bool)
      → formed truths (binary_form o n) (v.waits n b (binary o f g)) x y ≡ formed truths (binary_form o n) (w.waits n b (binary o f g)) x y
  same_binary o f g true e own x y = same_formed (binary_form o n) own.0 refl refl
  same_binary o f g false e own x y = unused o n e _ _ x y

given_same : (s : Counts) (v w : Marks) (n : Bool) (b : ℕ) (f : Formula) → Agree v w n b f → true_given s v n b f ≡ true_given s w n b f
given_same s v w n b (atom a) h = refl
given_same s v w n b (negation f) h = given_same s v w (not n) b f h
given_same s v w n b (unary o f) h =
    let (below, own) = split (Same v w) (in_order n b f) (node n b (unary o f) ∷ []) h in
    let x = given_same s v w n b f below in
    same_formed (unary_form o n) own.0 x x
given_same s v w n b (binary o f g) h =
    let (left, rest) = split (Same v w) (in_order (left_sign o n) b f) _ h in
    let (right, own) = split (Same v w) (in_order n (b + nodes f) g) (node n b (binary o f g) ∷ []) rest in
    same_binary v w n b o f g (binary_waits o) refl own _ _
    ∙ same_formed (binary_form o n) refl (given_same s v w (left_sign o n) b f left) (given_same s v w n (b + nodes f) g right)

-- what sets ask for before a state agrees where they do
awaited_same : (s : Counts) (v w : Marks) (n : Bool) (b : ℕ) (o : Unary) (f : Formula) → Agree v w n b (unary o f) → true_given s v n b (awaited (unary o f)) ≡ true_given s w n b (awaited (unary o f))
awaited_same s v w n b Next f h = given_same s v w n b f (split (Same v w) (in_order n b f) _ h).0
awaited_same s v w n b Always f h = given_same s v w n b (unary Always f) h
awaited_same s v w n b Eventually f h = given_same s v w n b (unary Eventually f) h

earlier_agrees : (g : Formula) (s : Counts) (v w : Marks) (n : Bool) (b : ℕ) (f : Formula) → Agree v w n b f → Agree (earlier g s v) (earlier g s w) n b f
earlier_agrees e s v w n b (atom a) h = tt
earlier_agrees e s v w n b (negation f) h = earlier_agrees e s v w (not n) b f h
earlier_agrees e s v w n b (unary o f) h =
    joined (Same (earlier e s v) (earlier e s w)) (in_order n b f) _ (earlier_agrees e s v w n b f (split (Same v w) (in_order n b f) _ h).0) (awaited_same s v w n b o f h, tt)
earlier_agrees e s v w n b (binary o f g) h =
    let (left, rest) = split (Same v w) (in_order (left_sign o n) b f) _ h in
    let (right, own) = split (Same v w) (in_order n (b + nodes f) g) (node n b (binary o f g) ∷ []) rest in
    joined (Same (earlier e s v) (earlier e s w)) (in_order (left_sign o n) b f) _ (earlier_agrees e s v w (left_sign o n) b f left)
    (joined (Same (earlier e s v) (earlier e s w)) (in_order n (b + nodes f) g) _ (earlier_agrees e s v w n (b + nodes f) g right) (cond_both (binary_waits o) _ _ (AllByRecursion _) (λ e. (given_same s v w n b (binary o f g) h, tt)) (λ e. tt)))

pub own_operators_decide : OwnOperatorsDecide
own_operators_decide f [] v w start own = start
own_operators_decide f (s ∷ noted) v w start own =
    let agree = recursion_from_All (Same v w) (waiting_operators false 0 f) own in
    own_operators_decide f noted (earlier f s v) (earlier f s w) (given_same s v w false 0 f agree) (All-from_recursion _ (waiting_operators false 0 f) (earlier_agrees f s v w false 0 f agree))
