-- Which nodes each set has.
use Rattle.std.proofs.Common.{◌≡◌, ℕ, zero, suc, ◌+◌, ◌*◌, ◌%◌, ◌^◌, ◌<◌, Bool, true, false, cond, ◌&&◌, eqb, ltb, ◌==◌, sym, refl, ap, ap₂, ◌∙◌, inl, inr, mod-eq_of_lt, arith}
use Rattle.std.proofs.Math.Nat.{mod-one}
use Rattle.std.proofs.lemmas.Bool.{cases_eq}
use Rattle.std.proofs.lemmas.Bool.Decides.{nat_tests}
use Rattle.std.proofs.lemmas.Nat.{mod-pow-add}
use Rattle.std.proofs.lemmas.Nat.Bits.{bit_at-lt, bit_at-pow_other, bit_at-pow_same, bit_at-zero}
use Rattle.std.specs.Int.{bit_at}
use Rattle.tallies.specs.Limits.{most_nodes}
use Rattle.tallies.specs.SharedLaws.{intersected, same_nodes, united}
use Rattle.tallies.specs.Shared.{has, of_bits, power_sum}
use Rattle.tallies.specs.Statements.{SetsOfNodes}

-- a power of two has the one bit of its exponent
power_bit : (n k : ℕ) → has (of_bits (2 ^ n)) k ≡ eqb k n
power_bit n k = elim (cases_eq k n) [
  | inl same ↦ let bit : bit_at (2 ^ n) k ≡ 1 = ap (bit_at (2 ^ n)) same ∙ bit_at-pow_same n in grind (arith, nat_tests)
  | inr other ↦ let bit : bit_at (2 ^ n) k ≡ 0 = bit_at-pow_other n k other in grind (arith, nat_tests)
]

weight_bit : (n k : ℕ) (small : Bool) → ltb n 64 ≡ small → has (of_bits (cond small (2 ^ n) 0)) k ≡ eqb k n && ltb k 64
weight_bit n k true e = power_bit n k ∙ grind (arith, nat_tests)
weight_bit n k false e = ap (λ d. eqb d 1) (bit_at-zero k) ∙ grind (arith, nat_tests)

-- a number is the sum of the powers of its bits
digit_part : (d p : ℕ) → d < 2 → cond (d == 1) p 0 ≡ d * p
digit_part zero p h = omega arith
digit_part (suc d) p h = grind (arith, nat_tests)

pub power_sum_is : (n w : ℕ) → power_sum (has (of_bits n)) w ≡ n % 2 ^ w
unfolding power_sum
power_sum_is n zero = sym (mod-one n)
power_sum_is n (suc k) =
    let more : suc k ≡ 1 + k = omega arith in
    ap₂ ◌+◌ (digit_part (bit_at n k) (2 ^ k) (bit_at-lt n k)) (power_sum_is n k) ∙ sym (ap (λ (w : ℕ). n % 2 ^ w) more ∙ mod-pow-add n 1 k)

pub sets_of_nodes : SetsOfNodes
sets_of_nodes = record {
  empty = λ k. ap (λ d. eqb d 1) (bit_at-zero k);
  weight = λ v k. weight_bit v.node k (ltb v.node 64) refl;
  intersected = intersected;
  united = united;
  equal = same_nodes;
  summed = λ x small. sym (power_sum_is x.bits most_nodes ∙ mod-eq_of_lt small);
}
