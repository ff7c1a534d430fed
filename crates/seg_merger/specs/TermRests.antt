-- What segments that are merged have left, and the terms that this makes.
use Rattle.std.specs.Prelude.{◌≡◌, ℕ, ◌+◌, ◌<◌, ◌&&◌, Bool, not, false, cond, List, [], ◌∷◌, length, map, filter, flat_map, Option, Some, None, IsUtf8}
use Rattle.std.specs.Global.{Global}
use Rattle.std.specs.declared.vec.Vec.{Vec}
use Rattle.std.specs.List.{find, AllByRecursion, AllZip}
use Rattle.std.specs.List.Sorted.{IsStrictlySortedBy}
use Rattle.std.specs.Ordering.{is_gt, nat_cmp}
use Rattle.std.specs.Str.{bytes_eq}
use Rattle.lu_types.specs.Joins.{is_empty}
use Rattle.lu_types.specs.Tables.{TableField}
use Rattle.lu_model.specs.Index.{Term, term_cmp, in_order, IndexedEntry, IndexedTerm, Index}
use Rattle.lu_model.specs.Contents.{bits_of, field_number, live, renumbered}
use Rattle.lu_model.specs.Valid.{IsKept, IsSmall}
use Rattle.seg_merger.specs.TermHeads.{IsBefore}
use Rattle.seg_merger.specs.TermSources.{SourceTerm, first_term, name_of_term, source_terms}

-- the first new number of a segment, how many documents it has, those that are deleted, and the terms that are left
pub record Rest : Type 0 where
  pub base : ℕ
  pub size : ℕ
  pub deleted : List ℕ
  pub left : List SourceTerm

-- an index with all its terms left, numbered from here on, whose fields have these new numbers
abbrev pub whole_rest : ℕ → Index → List ℕ → Rest
whole_rest base index numbers = record { base = base; size = index.size; deleted = index.deleted; left = source_terms index numbers }

-- indexes with all their terms left, numbered one after another
abbrev pub whole_rests : ℕ → List Index → List (Vec ℕ Global) → List Rest
whole_rests base [] numbers = []
whole_rests base (index ∷ indexes) [] = []
whole_rests base (index ∷ indexes) (ns ∷ numbers) = whole_rest base index ns.items ∷ whole_rests (base + length (live index)) indexes numbers

-- these are the numbers that the fields of each index have in a table
abbrev pub AreNumbersIn : List TableField → List Index → List (Vec ℕ Global) → Type 0
AreNumbersIn table indexes numbers = AllZip (λ index ns. ns.items ≡ map (λ field. field_number field.name table) index.fields) indexes numbers

-- the first terms
abbrev pub rest_heads : List Rest → List (Option Term)
rest_heads rests = map (λ rest. first_term rest.left) rests

-- segments, and the number of the one whose first term comes first
pub record Contested : Type 0 where
  pub rests : List Rest
  pub first : ℕ

-- no segment comes before this one
pub record ComesFirst (rests : List Rest) (k : ℕ) : Type 0 where
  pub inside : k < length rests
  pub least : (j : ℕ) → j < length rests → IsBefore (rest_heads rests) k j

-- how many terms are left
abbrev pub count : List Rest → ℕ
count [] = 0
count (rest ∷ rests) = length rest.left + count rests

-- the names of the terms that are left
abbrev pub names : List Rest → List Term
names rests = flat_map (λ rest. map name_of_term rest.left) rests

-- two terms have the same names
abbrev pub same_term : Term → Term → Bool
same_term a b = bytes_eq a.field b.field && bytes_eq a.text b.text

-- a term that may be there is this one
abbrev pub is_head : Term → Option Term → Bool
is_head term None = false
is_head term (Some head) = same_term term head

-- the entries of a term that may be there
abbrev pub entries_if_any : Option SourceTerm → List IndexedEntry
entries_if_any None = []
entries_if_any (Some t) = t.entries

-- the entries of a term among those that are left
abbrev pub entries_for : Term → List SourceTerm → List IndexedEntry
entries_for term left = entries_if_any (find (λ t. same_term term t.term) left)

-- what a segment gives to a term, in a field with these bits
abbrev pub given_by : ℕ → Term → Rest → List IndexedEntry
given_by bits term rest = renumbered bits rest.base rest.deleted (entries_for term rest.left)

-- what all segments give to a term
abbrev pub entries_of_all : ℕ → List Rest → Term → List IndexedEntry
entries_of_all bits rests term = flat_map (given_by bits term) rests

-- a term of all segments
abbrev pub term_of_all : List TableField → List Rest → Term → IndexedTerm
term_of_all table rests term = record {
  field = field_number term.field table;
  text = term.text;
  entries = entries_of_all (bits_of term.field table) rests term;
}

-- the term has an entry
abbrev pub has_entries : IndexedTerm → Bool
has_entries term = not (is_empty term.entries)

-- the terms that the segments make, in order, without those that have no entry
unfoldable pub terms_of_all : List TableField → List Rest → List IndexedTerm
terms_of_all table rests = filter has_entries (map (term_of_all table rests) (in_order term_cmp (names rests)))

-- the terms without this one, if it is the first
abbrev pub without_first : Term → List SourceTerm → List SourceTerm
without_first term [] = []
without_first term (t ∷ ts) = cond (same_term term t.term) ts (t ∷ ts)

-- a segment past a term
abbrev pub past : Term → Rest → Rest
past term rest = record { base = rest.base; size = rest.size; deleted = rest.deleted; left = without_first term rest.left }

-- a term whose names are texts, its text one that files can hold
pub record IsName (term : Term) : Type 0 where
  pub field : IsUtf8 term.field
  pub text : IsUtf8 term.text
  pub small : IsSmall (length term.text)

-- the terms rise, they have names, and the documents of their entries are in the segment
pub record IsGood (rest : Rest) : Type 0 where
  pub rise : IsStrictlySortedBy term_cmp (map name_of_term rest.left)
  pub named : AllByRecursion (λ t. IsName t.term) rest.left
  pub low : AllByRecursion (λ t. AllByRecursion (λ entry. entry.document < rest.size) t.entries) rest.left

-- the new number of a term's field is that of its name, which the table has
abbrev pub IsNumbered : List TableField → SourceTerm → Type 0
IsNumbered table t = (t.number ≡ field_number t.term.field table) × (t.number < length table)

-- entries of a term in a field with these bits: they rise, and are few and small
pub record AreEntries (bits : ℕ) (entries : List IndexedEntry) : Type 0 where
  pub rise : IsStrictlySortedBy nat_cmp (map (λ entry. entry.document) entries)
  pub few : IsSmall (length entries)
  pub kept : AllByRecursion (λ entry. IsSmall entry.document × IsKept bits entry.occurrences) entries

-- segments that can be merged under a table
pub record CanMerge (table : List TableField) (rests : List Rest) : Type 0 where
  pub few : IsSmall (length table)
  pub good : AllByRecursion IsGood rests
  pub numbered : AllByRecursion (λ rest. AllByRecursion (IsNumbered table) rest.left) rests
  pub entries : AllByRecursion (λ t. AreEntries (bits_of t.field table) (entries_of_all (bits_of t.field table) rests t)) (names rests)

-- no term that is left comes before this one
abbrev pub IsLeast : Term → List Rest → Type 0
IsLeast term rests = AllByRecursion (λ t. is_gt (term_cmp term t) ≡ false) (names rests)
