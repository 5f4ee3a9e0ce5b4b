-- Which heap records are lawful.
use Rattle.std.specs.Prelude.{ℕ, Bool, ◌&&◌, ◌||◌, ◌==◌, nat_le, nat_lt}
use Rattle.std.specs.Bool.{beq}

-- the most bytes that can be free or wanted
abbrev most : ℕ
most = 16777216

-- the largest block lies within the free bytes, and there is one exactly where bytes are free
abbrev lawful_block : ℕ → ℕ → Bool
lawful_block free largest = nat_le largest free && beq (largest == 0) (free == 0)

-- outcomes are 0 idle, 1 dispensed and 2 refused; only an idle record wants nothing
abbrev lawful_outcome : ℕ → ℕ → Bool
lawful_outcome wanted outcome = nat_le outcome 2 && (nat_lt 0 wanted || outcome == 0)

abbrev pub lawful_heap : ℕ → ℕ → ℕ → ℕ → Bool
lawful_heap free largest wanted outcome = nat_le free most && (nat_le wanted most && (lawful_block free largest && lawful_outcome wanted outcome))
