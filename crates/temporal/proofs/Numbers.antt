-- The nodes in order have the numbers from the first on, without a gap.
use Rattle.std.proofs.Common.{◌≡◌, ℕ, zero, suc, ◌+◌, Bool, false, not, List, [], ◌∷◌, ◌++◌, map, ap, ◌∙◌, ap₂, arith}
use Rattle.std.proofs.lemmas.List.{map-append}
use Rattle.std.specs.List.{range_with_len}
use Rattle.temporal.specs.Formula.{Formula, atom, negation, unary, binary, nodes}
use Rattle.temporal.specs.Forms.{left_sign}
use Rattle.temporal.specs.Nodes.{Node, in_order, node, number}
use Rattle.temporal.specs.Statements.{NumberedInOrder}

range_with_len-++ : (b m n : ℕ) → range_with_len b m ++ range_with_len (b + m) n ≡ range_with_len b (m + n)
range_with_len-++ b zero n = ap₂ range_with_len (omega arith) (omega arith)
range_with_len-++ b (suc m) n =
    let from : b + suc m ≡ b + 1 + m = omega arith in
    let many : suc m + n ≡ suc (m + n) = omega arith in
    rw (from, many) (ap (λ xs. b ∷ xs) (range_with_len-++ (b + 1) m n))

-- the last node, after as many as the operands have
then_root : (b m : ℕ) (xs : List Node) (x : Node) → map number xs ≡ range_with_len b m → number x ≡ b + m → map number (xs ++ (x ∷ [])) ≡ range_with_len b (m + 1)
then_root b m xs x before here = map-append number xs (x ∷ []) ∙ ap₂ ◌++◌ before (ap (λ k. k ∷ []) here) ∙ range_with_len-++ b m 1

numbers : (n : Bool) (b : ℕ) (f : Formula) → map number (in_order n b f) ≡ range_with_len b (nodes f)
numbers n b (atom a) = ap (λ k. k ∷ []) (omega arith)
numbers n b (negation f) = numbers (not n) b f
numbers n b (unary o f) = then_root b (nodes f) (in_order n b f) _ (numbers n b f) (omega arith)
numbers n b (binary o f g) =
    let right = then_root (b + nodes f) (nodes g) (in_order n (b + nodes f) g) (node n b (binary o f g)) (numbers n (b + nodes f) g) (omega arith) in
    map-append number (in_order (left_sign o n) b f) _ ∙ ap₂ ◌++◌ (numbers (left_sign o n) b f) right ∙ range_with_len-++ b (nodes f) (nodes g + 1) ∙ ap (range_with_len b) (omega arith)

pub numbered_in_order : NumberedInOrder
numbered_in_order f = numbers false 0 f
