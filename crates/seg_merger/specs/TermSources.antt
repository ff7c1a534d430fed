-- The terms of a segment that is merged, as they come.
use Rattle.std.specs.Prelude.{ℕ, ◌-◌, not, List, [], ◌∷◌, map, filter, drop, slice_index, Option, Some, None}
use Rattle.lu_types.specs.Tables.{TableField}
use Rattle.lu_types.specs.declared.term.TermInfo.{TermInfo}
use Rattle.lu_model.specs.Index.{Term, IndexedEntry, IndexedTerm, Index}
use Rattle.lu_model.specs.Contents.{is_deleted, term_of}
use Rattle.seg_merger.specs.declared.terms.slot.TermName.{TermName}

-- a term by names, the new number of its field, and its entries in all documents
pub record SourceTerm : Type 0 where
  pub term : Term
  pub number : ℕ
  pub entries : List IndexedEntry

-- a term of an index whose fields have these new numbers
abbrev pub source_term : List TableField → List ℕ → IndexedTerm → SourceTerm
source_term fields numbers t = record { term = term_of fields t; number = slice_index numbers t.field; entries = t.entries }

-- the terms of an index
abbrev pub source_terms : Index → List ℕ → List SourceTerm
source_terms index numbers = map (source_term index.fields numbers) index.terms

-- a term as the code names it
abbrev pub term_named : TermName → Term
term_named name = record { field = name.field.now; text = name.text.now }

-- the name of a term
abbrev pub name_of_term : SourceTerm → Term
name_of_term t = t.term

-- the first of some terms, if there is one
abbrev pub first_term : List SourceTerm → Option Term
first_term [] = None
first_term (t ∷ ts) = Some t.term

-- the new number of its field
abbrev pub number_of_first : List SourceTerm → ℕ
number_of_first [] = 0
number_of_first (t ∷ ts) = t.number

-- its entries
abbrev pub entries_of_first : List SourceTerm → List IndexedEntry
entries_of_first [] = []
entries_of_first (t ∷ ts) = t.entries

-- the others
abbrev pub after_first : List SourceTerm → List SourceTerm
after_first [] = []
after_first (t ∷ ts) = ts

-- the entries of documents that are not deleted
abbrev pub live_entries : List ℕ → List IndexedEntry → List IndexedEntry
live_entries deleted entries = filter (λ entry. not (is_deleted deleted entry.document)) entries

-- the terms from the one on that a walk passed last, if it passed one
abbrev pub terms_from : Option TermInfo → ℕ → List IndexedTerm → List IndexedTerm
terms_from None passed terms = []
terms_from (Some info) passed terms = drop (passed - 1) terms
