-- How a heap record is printed, its vocabulary, and what each of its atoms means.
use Rattle.std.specs.Prelude.{ℕ, Bool, List, [], ◌∷◌, ◌++◌, codes, decimal, ◌==◌, nat_le, nat_lt}
use Rattle.states.specs.Atoms.{Atom}
use Rattle.states.specs.declared.heap.HeapRecord.{HeapRecord}

-- the four numbers, with a slash between neighbours
abbrev pub heap_text : HeapRecord → List ℕ
heap_text h = decimal h.free ++ codes "/" ++ decimal h.largest ++ codes "/" ++ decimal h.wanted ++ codes "/" ++ decimal h.outcome

abbrev pub asked : HeapRecord → Bool
asked h = nat_lt 0 h.wanted

abbrev pub enough : HeapRecord → Bool
enough h = nat_le h.wanted h.free

abbrev pub fits : HeapRecord → Bool
fits h = nat_le h.wanted h.largest

abbrev pub refused : HeapRecord → Bool
refused h = h.outcome == 2

abbrev pub dispensed : HeapRecord → Bool
dispensed h = h.outcome == 1

abbrev pub heap_atoms : List (Atom HeapRecord)
heap_atoms =
    record { word = codes "asked"; means = asked }
    ∷ record { word = codes "enough"; means = enough }
    ∷ record { word = codes "fits"; means = fits }
    ∷ record { word = codes "refused"; means = refused }
    ∷ record { word = codes "dispensed"; means = dispensed } ∷ []
