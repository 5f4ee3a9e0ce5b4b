-- No run is listed twice. The runs of a formula at one state are a prefix code: none begins another, since where the
-- formula leaves a choice, the nodes that may be visited first lie apart.
use Rattle.std.proofs.Common.{◌≡◌, ℕ, zero, suc, ◌+◌, ◌<◌, ◌≤◌, Bool, true, false, cond, not, List, [], ◌∷◌, ◌++◌, map, length, get_or, sym, refl, ap, append_assoc, arith}
use mathlib.Core.List.{head-eq_of_cons-eq}
use Rattle.std.proofs.lemmas.Bool.{cond_both, false≢true}
use Rattle.std.proofs.lemmas.List.{append_cancel_left}
use Rattle.std.specs.List.{AllByRecursion, Contains}
use Rattle.std.proofs.lemmas.List.Elements.{All-contains_itself, All-from_recursion, recursion_from_All}
use Rattle.temporal.specs.Formula.{Formula, atom, negation, unary, binary, nodes}
use Rattle.temporal.specs.Forms.{unary_form, binary_form, left_sign, accepts}
use Rattle.temporal.specs.Nodes.{root}
use Rattle.temporal.specs.Reading.{Counts, awaited, formed, here, waiting_part}
use Rattle.temporal.specs.Runs.{followed, run_lists, runs_from}
use Rattle.temporal.specs.Statements.{RunsAreListed}
use Rattle.temporal.specs.Tallies.{Run, visit}
use Rattle.temporal.specs.declared.operators.Form.{Form}
use Rattle.temporal.specs.declared.operators.Form.TheVariants as form
use Rattle.temporal.specs.declared.operators.Unary.{Unary}
use Rattle.temporal.specs.declared.operators.Unary.TheVariants.{Next, Always, Eventually}
use Rattle.temporal.specs.declared.visits.Visit.{Visit}
use Rattle.temporal.proofs.Exact.{all_followed, exactly}
use Rattle.temporal.proofs.Lists.{all_append, all_mapped, all_weaker}

-- two runs of which neither begins the other
abbrev Apart : Run → Run → Type 0
Apart x y = (u v : Run) → x ++ u ≡ y ++ v → ⊥

apart_after : (x y z : Run) → Apart y z → Apart (x ++ y) (x ++ z)
apart_after x y z a u v e = a u v (append_cancel_left x (y ++ u) (z ++ v) (simp append_assoc at e))

apart_before : (x y z w : Run) → Apart x z → Apart (x ++ y) (z ++ w)
apart_before x y z w a u v e = a (y ++ u) (w ++ v) (simp append_assoc at e)

-- a list of runs that are all apart
abbrev Code : List Run → Type 0
Code [] = Unit {0}
Code (x ∷ xs) = AllByRecursion (Apart x) xs × Code xs

code_append : (xs ys : List Run) → Code xs → Code ys → AllByRecursion (λ x. AllByRecursion (Apart x) ys) xs → Code (xs ++ ys)
code_append [] ys cx cy a = cy
code_append (x ∷ xs) ys cx cy a = (all_append _ xs ys cx.0 a.0, code_append xs ys cx.1 cy a.1)

code_map : (x : Run) (ys : List Run) → Code ys → Code (map (λ y. x ++ y) ys)
code_map x [] c = tt
code_map x (y ∷ ys) c = (all_mapped _ (λ z. x ++ z) (apart_after x y) ys c.0, code_map x ys c.1)

code_followed : (xs ys : List Run) → Code xs → Code ys → Code (followed xs ys)
code_followed [] ys cx cy = tt
code_followed (x ∷ xs) ys cx cy =
    let own = recursion_from_All (Contains ys) ys (All-contains_itself ys) in
    code_append (map (λ y. x ++ y) ys) (followed xs ys) (code_map x ys cy) (code_followed xs ys cx.1 cy)
    (all_mapped _ (λ y. x ++ y) (λ y h. all_followed _ (λ z w a q. apart_before x y z w a) xs ys cx.0 own) ys own)

-- in such a list no run has two places
once : (rs : List Run) → Code rs → (i j : ℕ) → i < length rs → j < length rs → get_or rs i [] ≡ get_or rs j [] → i ≡ j
once [] c i j p q e = omega arith
once (r ∷ rs) c zero zero p q e = refl
once (r ∷ rs) c zero (suc j) p q e = absurd (All-from_recursion _ rs c.0 j [] (omega arith) [] [] (ap (λ z. z ++ []) e))
once (r ∷ rs) c (suc i) zero p q e = absurd (All-from_recursion _ rs c.0 i [] (omega arith) [] [] (ap (λ z. z ++ []) (sym e)))
once (r ∷ rs) c (suc i) (suc j) p q e = ap suc (once rs c.1 i j (omega arith) (omega arith) e)

-- nodes from l up to h: inside those from lo up to hi, and with none in common with those from m up to k
abbrev Inside : ℕ → ℕ → ℕ → ℕ → Type 0
Inside l h lo hi = (lo ≤ l) × (h ≤ hi)

abbrev Disjoint : ℕ → ℕ → ℕ → ℕ → Type 0
Disjoint l h m k = (n : ℕ) → l ≤ n → n < h → m ≤ n → n < k → ⊥

-- the first node visited lies in the interval from lo up to hi
data Begins (lo hi : ℕ) : Run → Type 0 where
  begin : {v : Visit} {x : Run} → lo ≤ v.node → v.node < hi → Begins lo hi (v ∷ x)

begins_wider : {l h lo hi : ℕ} → Inside l h lo hi → (x : Run) → Begins l h x → Begins lo hi x
begins_wider i _ (begin p q) = begin (omega arith) (omega arith)

begins_longer : {lo hi : ℕ} (x y : Run) → Begins lo hi x → Begins lo hi (x ++ y)
begins_longer _ y (begin p q) = begin p q

begins_apart : {l h m k : ℕ} → Disjoint l h m k → (x y : Run) → Begins l h x → Begins m k y → Apart x y
begins_apart d _ _ (begin {v = a} p q) (begin {v = b} r s) u v e =
    let same : a.node ≡ b.node = ap (λ z. z.node) (head-eq_of_cons-eq e) in d a.node p q (omega arith) (omega arith)

-- a code whose first nodes lie in an interval, and how the ways to make runs keep it so
record Coded (lo hi : ℕ) (rs : List Run) : Type 0 where
  code : Code rs
  begins : AllByRecursion (Begins lo hi) rs

coded_none : {lo hi : ℕ} → Coded lo hi []
coded_none = record { code = tt; begins = tt }

coded_visit : (k : ℕ) (a : Bool) → Coded k (k + 1) ((visit k a ∷ []) ∷ [])
coded_visit k a = record { code = (tt, tt); begins = (begin (omega arith) (omega arith), tt) }

coded_alone : (k : ℕ) (test : Bool) → Coded k (k + 1) (cond test ((visit k true ∷ []) ∷ []) [])
coded_alone k test = cond_both test _ _ (Coded k (k + 1)) (λ e. coded_visit k true) (λ e. coded_none)

coded_wider : {l h lo hi : ℕ} {rs : List Run} → Inside l h lo hi → Coded l h rs → Coded lo hi rs
coded_wider {rs = rs} i c = record { code = c.code; begins = all_weaker (begins_wider i) rs c.begins }

coded_followed : {lo hi m k : ℕ} {xs ys : List Run} → Coded lo hi xs → Coded m k ys → Coded lo hi (followed xs ys)
coded_followed {xs = xs} {ys = ys} cx cy = record { code = code_followed xs ys cx.code cy.code; begins = all_followed _ (λ x y p q. begins_longer x y p) xs ys cx.begins cy.begins }

coded_append : {lo hi l h m k : ℕ} {xs ys : List Run} → (Inside l h lo hi × Inside m k lo hi × Disjoint l h m k) → Coded l h xs → Coded m k ys → Coded lo hi (xs ++ ys)
coded_append {xs = xs} {ys = ys} i cx cy =
    record {
      code = code_append xs ys cx.code cy.code (all_weaker (λ x p. all_weaker (λ y. begins_apart i.2 x y p) ys cy.begins) xs cx.begins);
      begins = all_append _ xs ys (coded_wider i.0 cx).begins (coded_wider i.1 cy).begins;
    }

-- a waiting part begins at its operator's node k, past its operands' nodes, and these lie apart where the form is a choice between them
module _ {lo hi k l h m g : ℕ} {ws xs ys : List Run} (cw : Coded k (k + 1) ws) (cx : Coded l h xs) (cy : Coded m g ys)
    (i : Inside l h lo k × Inside m g lo k × Inside k (k + 1) lo hi) where
  coded_formed : (o : Form) → (o ≡ form.Or → h ≤ m) → Coded lo hi (formed run_lists o ws xs ys)
  coded_formed form.And d = coded_wider (omega arith) (coded_followed cx cy)
  coded_formed form.Or d = let left_first : h ≤ m = d refl in coded_append (omega arith) cx cy
  coded_formed form.Next d = coded_wider (omega arith) cw
  coded_formed form.Always d = coded_wider (omega arith) (coded_followed cw cx)
  coded_formed form.Eventually d = coded_append (omega arith) cw cx
  coded_formed form.Until d = coded_append (omega arith) cy (coded_followed cw cx)
  coded_formed form.Release d = coded_wider (omega arith) (coded_followed cy (coded_append {lo = lo} {hi = hi} (omega arith) cw cx))

unary_is_no_choice : (o : Unary) (n : Bool) → unary_form o n ≡ form.Or → ⊥
unary_is_no_choice Next n e = false≢true (cc)
unary_is_no_choice Always false e = false≢true (cc)
unary_is_no_choice Always true e = false≢true (cc)
unary_is_no_choice Eventually false e = false≢true (cc)
unary_is_no_choice Eventually true e = false≢true (cc)

-- one state, and then the tape from its last state back
module _ {waiting : Bool → ℕ → Formula → List Run} where
  coded_here : (s : Counts) → ((n : Bool) (b : ℕ) (f : Formula) → Coded (root b f) (root b f + 1) (waiting n b f)) → (n : Bool) (b : ℕ) (f : Formula) → Coded b (b + nodes f) (here run_lists s waiting n b f)
  coded_here s cw n b (atom a) = coded_alone b (s n a)
  coded_here s cw n b (negation f) = coded_here s cw (not n) b f
  coded_here s cw n b (unary o f) =
      coded_formed (cw n b (unary o f)) (coded_here s cw n b f) (coded_here s cw n b f) (omega arith)
      (unary_form o n) (λ e. absurd (unary_is_no_choice o n e))
  coded_here s cw n b (binary o f g) =
      coded_formed (cw n b (binary o f g)) (coded_here s cw (left_sign o n) b f) (coded_here s cw n (b + nodes f) g) (omega arith)
      (binary_form o n) (λ e. omega arith)

  coded_waiting : (later : List Counts) → ((n : Bool) (b : ℕ) (f : Formula) → Coded b (b + nodes f) (waiting n b f)) → (n : Bool) (b : ℕ) (f : Formula) → Coded (root b f) (root b f + 1) (waiting_part run_lists later waiting n b f)
  coded_waiting [] c n b f = coded_alone (root b f) (accepts n f)
  coded_waiting (t ∷ later) c n b f = coded_followed (coded_visit (root b f) (accepts n f)) (c n b (awaited f))

coded : (tape : List Counts) (n : Bool) (b : ℕ) (f : Formula) → Coded b (b + nodes f) (runs_from tape n b f)
coded [] n b f = coded_none
coded (s ∷ later) n b f = coded_here s (coded_waiting later (coded later)) n b f

pub runs_are_listed : RunsAreListed
runs_are_listed tape f = record { exactly = exactly tape f; once = once _ (coded tape false 0 f).code }
