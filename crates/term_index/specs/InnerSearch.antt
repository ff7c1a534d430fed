-- What the search keeps in memory.
use Rattle.std.specs.Prelude.{◌≡◌, ℕ, zero, suc, ◌+◌, ◌<◌, ◌≤◌, ◌^◌, Ok, List, [], ◌∷◌, ◌++◌, map, length, All, AllPairs, Some, slice_get, nat_lt}
use Rattle.std.specs.Borrow.{Bor}
use Rattle.std.specs.Str.{IsUtf8}
use Rattle.std.specs.declared.cmp.Ordering.{Ordering}
use Rattle.std.specs.declared.cmp.Ordering.TheVariants.{Less}
use Rattle.std.specs.Ordering.{ordering_then, is_lt}
use Rattle.lu_grammar.specs.Bytes.{Cursor}
use Rattle.lu_grammar.specs.Records.{read_shape}
use Rattle.lu_prims.specs.Order.{text_cmp}
use Rattle.term_dict.specs.Terms.{DictionaryTerm}
use Rattle.term_dict.specs.Dictionary.{Dictionary}
use Rattle.term_dict.specs.Checks.{AreBounded}
use Rattle.term_dict.specs.Index.{IndexEntry, index_shape, index_entry_term, indexed_place}
use Rattle.term_index.specs.declared.mark.Mark.{Mark}
use Rattle.term_index.specs.declared.search.Sought.{Sought}
use Rattle.term_index.specs.Seeking.{Searched, field_name_of}

-- the bytes of a text that is lent
abbrev pub lent : Bor (List ℕ) → List ℕ
lent text = text.now

-- how two terms stand to each other
abbrev pub terms_cmp : List (List ℕ) → DictionaryTerm → DictionaryTerm → Ordering
terms_cmp names a b = ordering_then (text_cmp (field_name_of names a.info.field) (field_name_of names b.info.field)) (text_cmp a.text b.text)

-- the terms can be searched: their texts are UTF-8, they rise, and the numbers are theirs
pub record IsSearchable (s : Searched) : Type 0 where
  pub texts : All (λ t. IsUtf8 t.text) s.dictionary.terms
  pub rise : AllPairs (λ a b. terms_cmp s.names a b ≡ Less) s.dictionary.terms
  pub freqs : All (λ t. t.info.freq < 2 ^ 31) s.dictionary.terms
  pub proxs : All (λ t. t.info.prox < 2 ^ 31) s.dictionary.terms
  pub places : All (λ place. place < 2 ^ 31) s.dictionary.starts
  pub bounded : AreBounded s.dictionary.numbers
  pub count : length s.dictionary.terms ≡ s.dictionary.numbers.count
  pub starts : length s.dictionary.starts ≡ s.dictionary.numbers.count

-- an entry of the index above entry 0: the name of its term's field, its term, and where the interval behind that term starts
pub record IndexMark : Type 0 where
  pub name : List ℕ
  pub term : DictionaryTerm
  pub place : ℕ

-- an entry as the program keeps it
abbrev pub index_mark_of : Mark → IndexMark
index_mark_of m = record { name = m.name.now; term = record { text = m.text; info = m.info }; place = m.place }

-- what the entry with a number stands for
abbrev pub mark_at : Searched → ℕ → IndexMark
mark_at s i = record {
  name = field_name_of s.names (index_entry_term s.dictionary i).info.field;
  term = index_entry_term s.dictionary i;
  place = indexed_place s.dictionary i;
}

-- what the first so many entries behind entry 0 stand for
abbrev pub marks_to : Searched → ℕ → List IndexMark
marks_to s zero = []
marks_to s (suc n) = marks_to s n ++ mark_at s (suc n) ∷ []

-- how an entry stands to what is sought
abbrev pub mark_cmp : Sought → IndexMark → Ordering
mark_cmp sought m = ordering_then (text_cmp m.name sought.field.now) (text_cmp m.term.text sought.text.now)

-- the first so many entries are below what is sought, and no others
pub record AreBelow (sought : Sought) (marks : List Mark) (below : ℕ) : Type 0 where
  pub few : below ≤ length marks
  pub split : (i : ℕ) (m : Mark) → slice_get marks i ≡ Some m → is_lt (mark_cmp sought (index_mark_of m)) ≡ nat_lt i below

-- a good entry stands here, and what it says after the last one is within the limits of the program
pub record HasEntry (interval : ℕ) (last : DictionaryTerm) (place : ℕ) (here : Cursor) : Type 0 where
  pub e : IndexEntry
  pub new : Cursor
  pub read : read_shape (index_shape interval) here ≡ Ok (e, new)
  pub freq : last.info.freq + e.term.freq < 2 ^ 32
  pub prox : last.info.prox + e.term.prox < 2 ^ 32
  pub place_after : place + e.step < 2 ^ 32
