-- Marks that are set for the entries of a term, one after another.
use Rattle.std.specs.Prelude.{◌<◌, ℕ, Bool, true, List, [], Option, Some, None, All, slice_set}
use Rattle.std.specs.List.{fold}
use Rattle.lu_model.specs.Index.{IndexedTerm, IndexedEntry}

-- the marks, and those of the documents of these entries
abbrev pub with_marks : List Bool → List IndexedEntry → List Bool
with_marks marks entries = fold (λ fs e. slice_set fs e.document true) marks entries

-- the entries of a term, where there is one
abbrev pub entries_of_term : Option IndexedTerm → List IndexedEntry
entries_of_term None = []
entries_of_term (Some term) = term.entries

-- the documents of these entries are among so many
abbrev pub AreBelow : ℕ → List IndexedEntry → Type 0
AreBelow size entries = All (λ e. e.document < size) entries
