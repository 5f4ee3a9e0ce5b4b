-- Letters and words: the operator words, and which vocabularies are lawful. A lawful one has one to sixteen different
-- words of 1 to 32 letters a to z, none of them an operator word.
use Rattle.std.specs.Prelude.{ℕ, Bool, true, not, ◌&&◌, List, [], ◌∷◌, ◌++◌, length, codes, nat_le}
use Rattle.std.specs.List.{list_all, list_any}
use Rattle.std.specs.Str.{bytes_eq}
use Rattle.temporal.specs.declared.operators.Unary.{Unary}
use Rattle.temporal.specs.declared.operators.Unary.TheVariants.{Next, Always, Eventually}
use Rattle.temporal.specs.declared.operators.Binary.{Binary}
use Rattle.temporal.specs.declared.operators.Binary.TheVariants.{And, Or, Implies, Until, Unless}

abbrev pub letter : ℕ → Bool
letter c = nat_le 97 c && nat_le c 122

abbrev pub not_word : List ℕ
not_word = codes "not"

abbrev pub unary_word : Unary → List ℕ
unary_word Next = codes "next"
unary_word Always = codes "always"
unary_word Eventually = codes "eventually"

abbrev pub binary_word : Binary → List ℕ
binary_word And = codes "and"
binary_word Or = codes "or"
binary_word Implies = codes "implies"
binary_word Until = codes "until"
binary_word Unless = codes "unless"

abbrev pub operators : List (List ℕ)
operators = not_word ∷ unary_word Next ∷ unary_word Always ∷ unary_word Eventually ∷ binary_word And ∷ binary_word Or ∷ binary_word Implies ∷ binary_word Until ∷ binary_word Unless ∷ []

abbrev in_range : ℕ → ℕ → ℕ → Bool
in_range least most n = nat_le least n && nat_le n most

abbrev pub among : List (List ℕ) → List ℕ → Bool
among words w = list_any (λ v. bytes_eq v w) words

abbrev different : List (List ℕ) → Bool
different [] = true
different (w ∷ ws) = not (among ws w) && different ws

abbrev lawful_word : List ℕ → Bool
lawful_word w = in_range 1 32 (length w) && (list_all letter w && not (among operators w))

abbrev pub lawful_vocabulary : List (List ℕ) → Bool
lawful_vocabulary words = in_range 1 16 (length words) && (list_all lawful_word words && different words)

-- the words in order, one space between neighbours
abbrev pub listed_words : List (List ℕ) → List ℕ
listed_words [] = []
listed_words (w ∷ []) = w
listed_words (w ∷ v ∷ vs) = w ++ 32 ∷ listed_words (v ∷ vs)
