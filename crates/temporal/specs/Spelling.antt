-- What each piece of a text stands for, and how a formula is spelled.
use Rattle.std.specs.Prelude.{◌≡◌, ℕ, if◌then◌else◌, List, [], ◌∷◌, ◌++◌, map, length, slice_index_or}
use Rattle.std.specs.List.{range_with_len}
use Rattle.std.specs.Str.{bytes_eq}
use Rattle.temporal.specs.Formula.{Formula, atom, negation, unary, binary}
use Rattle.temporal.specs.Pieces.{Piece, open_bracket, close_bracket, word, stray, pieces_from}
use Rattle.temporal.specs.Vocabulary.{binary_word, not_word, unary_word}
use Rattle.temporal.specs.declared.operators.Unary.{Unary}
use Rattle.temporal.specs.declared.operators.Unary.TheVariants.{Next, Always, Eventually}
use Rattle.temporal.specs.declared.operators.Binary.{Binary}
use Rattle.temporal.specs.declared.operators.Binary.TheVariants.{And, Or, Implies, Until, Unless}

-- a token that a formula begins with: an atom's word, `not`, a bracket, or an operator before one formula
pub data Start : Type 0 where
  names : ℕ → Start
  negates opens : Start
  leads : Unary → Start

-- a token begins a formula, or links two or closes a bracket; a word may be unknown, and another byte is foreign
pub data Token : Type 0 where
  begins : Start → Token
  links : Binary → Token
  closes unknown foreign : Token

pub record PlacedToken : Type 0 where
  pub place : ℕ
  pub token : Token

-- a word, and what it stands for
abbrev pub Entry : Type 0
Entry = List ℕ × Token

abbrev leading : Unary → Entry
leading o = (unary_word o, begins (leads o))

abbrev linking : Binary → Entry
linking o = (binary_word o, links o)

abbrev pub operator_entries : List Entry
operator_entries = (not_word, begins negates) ∷ leading Next ∷ leading Always ∷ leading Eventually ∷ linking And ∷ linking Or ∷ linking Implies ∷ linking Until ∷ linking Unless ∷ []

abbrev pub looked_up : List Entry → List ℕ → Token
looked_up [] w = unknown
looked_up (e ∷ es) w = if bytes_eq e.0 w then e.1 else looked_up es w

module _ (vocabulary : List (List ℕ)) where
  -- an atom is its word's place in the vocabulary
  abbrev pub named : ℕ → Entry
  named a = (slice_index_or vocabulary a [], begins (names a))

  abbrev pub dictionary : List Entry
  dictionary = operator_entries ++ map named (range_with_len 0 (length vocabulary))

  abbrev pub meant : Piece → Token
  meant open_bracket = begins opens
  meant close_bracket = closes
  meant (word w) = looked_up dictionary w
  meant (stray c) = foreign

  -- a text's tokens, at their places
  abbrev pub tokens : List ℕ → List PlacedToken
  tokens text = map (λ p. record { place = p.place; token = meant p.piece }) (pieces_from 0 text)

-- the grammar: a formula's one spelling, with what follows it
abbrev pub spelled : Formula → List Token → List Token
spelled (atom a) rest = begins (names a) ∷ rest
spelled (negation f) rest = begins negates ∷ spelled f rest
spelled (unary o f) rest = begins (leads o) ∷ spelled f rest
spelled (binary o f g) rest = begins opens ∷ spelled f (links o ∷ spelled g (closes ∷ rest))

-- a text spells a formula
abbrev pub Spells : List (List ℕ) → List ℕ → Formula → Type 0
Spells vocabulary text f = map (λ t. t.token) (tokens vocabulary text) ≡ spelled f []
