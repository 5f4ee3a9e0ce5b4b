-- The pieces of a rule text, at their places. A piece is a bracket or a longest run of letters; spaces may stand around
-- pieces, and any other byte is a piece of its own, which no text may have.
use Rattle.std.specs.Prelude.{ℕ, ◌+◌, Bool, true, false, if◌then◌else◌, List, [], ◌∷◌, ◌==◌}
use Rattle.temporal.specs.Vocabulary.{letter}

pub data Piece : Type 0 where
  open_bracket close_bracket : Piece
  word : List ℕ → Piece
  stray : ℕ → Piece

pub record Placed : Type 0 where
  pub place : ℕ
  pub piece : Piece

abbrev pub put : ℕ → Piece → List Placed → List Placed
put i p ps = record { place = i; piece = p } ∷ ps

abbrev pub starts_with_letter : List ℕ → Bool
starts_with_letter [] = false
starts_with_letter (c ∷ cs) = letter c

abbrev pub letters : Piece → List ℕ
letters open_bracket = []
letters close_bracket = []
letters (word w) = w
letters (stray c) = []

-- a letter at place i before the pieces that follow it; where the text goes on with a letter, the first of them is the rest
-- of its word
abbrev pub longer : ℕ → ℕ → Bool → List Placed → List Placed
longer i c false ps = put i (word (c ∷ [])) ps
longer i c true [] = put i (word (c ∷ [])) []
longer i c true (p ∷ ps) = put i (word (c ∷ letters p.piece)) ps

-- the pieces of a text whose first byte has the place i
abbrev pub pieces_from : ℕ → List ℕ → List Placed
pieces_from i [] = []
pieces_from i (c ∷ cs) =
    if c == 32 then pieces_from (i + 1) cs
    else if letter c then longer i c (starts_with_letter cs) (pieces_from (i + 1) cs)
    else if c == 40 then put i open_bracket (pieces_from (i + 1) cs)
    else if c == 41 then put i close_bracket (pieces_from (i + 1) cs)
    else put i (stray c) (pieces_from (i + 1) cs)
