-- The entry where a walk stands (docs/FORMAT.md, "Printed texts").
use Rattle.std.specs.Prelude.{◌≡◌, ◌≤◌, ℕ, Bool, true, false, List, ◌++◌, codes, map, filter, All, Some}
use Rattle.std.specs.Fmt.{decimal}
use Rattle.std.specs.List.{flat_map}
use Rattle.std.specs.List.Sorted.{IsStrictlySortedBy}
use Rattle.std.specs.Ordering.{nat_cmp}
use Rattle.lu_model.specs.Index.{KeptOccurrences, given, omitted, IndexedEntry}
use Rattle.seg_reader.specs.Postings.{PostingsWalk, occurrences_kept, may_answer}
use Rattle.lu_listing.specs.Lines.{line, ◌▹◌}
use Rattle.lu_listing.specs.Listing.{entry_line}

-- occurrences are omitted exactly where this is true
abbrev pub IsOmittedBy : Bool → KeptOccurrences → Type 0
IsOmittedBy omits (given occurrences) = omits ≡ false
IsOmittedBy omits omitted = omits ≡ true

-- the walk answered the entry with this document, took none of its occurrences, and these are omitted exactly where this is true
pub record StandsOn (walk : PostingsWalk) (omits : Bool) (document : ℕ) (e : IndexedEntry) : Type 0 where
  pub here : walk.here ≡ Some e
  pub left : walk.left ≡ occurrences_kept e.occurrences
  pub document_is : document ≡ e.document
  pub omitted_by : IsOmittedBy omits e.occurrences

-- entries of one term: their documents rise, and their occurrences are omitted exactly where this is true
pub record AreOfTerm (omits : Bool) (entries : List IndexedEntry) : Type 0 where
  pub rise : IsStrictlySortedBy nat_cmp (map (λ e. e.document) entries)
  pub omitted_by : All (λ e. IsOmittedBy omits e.occurrences) entries

-- the lines of the jump and of the entries that are reached by it: within this bound of its steps
pub record AreReachedLines (walk : PostingsWalk) (from bound : ℕ) (lines : List ℕ) : Type 0 where
  pub advance : ℕ
  pub within : advance ≤ bound
  pub lines_are : lines ≡ line (codes "advance" ▹ decimal advance) ++ flat_map (entry_line (codes "doc")) (filter (may_answer walk.hidden 0 from) walk.entries)
