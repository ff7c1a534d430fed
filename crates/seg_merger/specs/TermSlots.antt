-- A segment in its place among those that are merged.
use Rattle.std.specs.Prelude.{◌≡◌, ◌≤◌, ℕ, ◌+◌, List, map, length, Option, Some, None, option_map, slice_get}
use Rattle.lu_types.specs.declared.term.TermInfo.{TermInfo}
use Rattle.lu_model.specs.Valid.{IsValid}
use Rattle.term_dict.specs.Terms.{DictionaryTerm}
use Rattle.seg_reader.specs.Terms.{AreSaid}
use Rattle.seg_merger.specs.TermNumbers.{IsMap}
use Rattle.seg_merger.specs.TermRests.{Rest}
use Rattle.seg_merger.specs.TermSources.{source_term, terms_from}
use Rattle.seg_merger.specs.declared.terms.slot.Slot.TheInside.{Inside}

-- what is left of it
abbrev pub rest_of : Inside → Rest
rest_of s = record {
  base = s.numbered.base;
  size = s.reader.now.index.size;
  deleted = s.reader.now.index.deleted;
  left = map (source_term s.reader.now.index.fields s.fields.now) (terms_from s.head s.cursor.passed s.reader.now.index.terms);
}

-- this is what is said of the last term that a walk passed; or nothing, and it passed all
abbrev pub IsSaidLast : List DictionaryTerm → ℕ → Option TermInfo → Type 0
IsSaidLast terms passed None = length terms ≤ passed
IsSaidLast terms passed (Some info) = (n : ℕ) × (passed ≡ n + 1) × (option_map (λ t. t.info) (slice_get terms n) ≡ Some info)

-- its cursor is one over its terms, and stands behind the first that is left
pub record IsSlot (s : Inside) : Type 0 where
  pub valid : IsValid s.reader.now.index
  pub said : AreSaid s.reader.now
  pub walk : s.cursor.dictionary ≡ s.reader.now.dictionary
  pub head : IsSaidLast s.reader.now.dictionary.terms s.cursor.passed s.head
  pub docs : IsMap s.numbered.base s.reader.now.index.deleted s.reader.now.index.size s.numbered.docs
  pub fields : length s.fields.now ≡ length s.reader.now.index.fields
