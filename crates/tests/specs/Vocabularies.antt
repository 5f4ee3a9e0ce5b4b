-- The law of a vocabulary on both sides of each of its limits.
use Rattle.std.specs.Prelude.{◌≡◌, ℕ, true, false, List, [], ◌∷◌, map, replicate, codes}
use Rattle.temporal.specs.Vocabulary.{lawful_vocabulary}
use Rattle.std.specs.List.{range_with_len}

-- the word of n letters a
abbrev long : ℕ → List ℕ
long n = replicate n 97

-- n different words
abbrev many : ℕ → List (List ℕ)
many n = map long (range_with_len 1 n)

abbrev one : List ℕ → List (List ℕ)
one w = w ∷ []

pub record Limits : Type 0 where
  pub none : lawful_vocabulary [] ≡ false
  pub sixteen : lawful_vocabulary (many 16) ≡ true
  pub seventeen : lawful_vocabulary (many 17) ≡ false
  pub no_letter : lawful_vocabulary (one []) ≡ false
  pub one_letter : lawful_vocabulary (one (codes "z")) ≡ true
  pub thirty_two_letters : lawful_vocabulary (one (long 32)) ≡ true
  pub thirty_three_letters : lawful_vocabulary (one (long 33)) ≡ false
  pub twice : lawful_vocabulary (codes "asked" ∷ codes "fits" ∷ codes "asked" ∷ []) ≡ false
  pub capital : lawful_vocabulary (one (codes "Asked")) ≡ false
  pub before_a : lawful_vocabulary (one (codes "asked`")) ≡ false
  pub after_z : lawful_vocabulary (one (codes "asked{")) ≡ false
  pub negation : lawful_vocabulary (one (codes "not")) ≡ false
  pub next : lawful_vocabulary (one (codes "next")) ≡ false
  pub always : lawful_vocabulary (one (codes "always")) ≡ false
  pub eventually : lawful_vocabulary (one (codes "eventually")) ≡ false
  pub conjunction : lawful_vocabulary (one (codes "and")) ≡ false
  pub disjunction : lawful_vocabulary (one (codes "or")) ≡ false
  pub implication : lawful_vocabulary (one (codes "implies")) ≡ false
  pub until : lawful_vocabulary (one (codes "until")) ≡ false
  pub unless : lawful_vocabulary (one (codes "unless")) ≡ false
  pub like_until : lawful_vocabulary (one (codes "unti")) ≡ true
