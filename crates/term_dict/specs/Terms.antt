-- Terms, how each follows from the one before, and their order.
use Rattle.std.specs.Prelude.{ℕ, ◌+◌, ◌-◌, ◌%◌, Bool, ◌||◌, ◌==◌, List, [], ◌++◌, length, take, slice_index_or}
use Rattle.std.specs.declared.cmp.Ordering.{Ordering}
use Rattle.std.specs.Ordering.{ordering_then, is_lt}
use Rattle.lu_prims.specs.Order.{text_cmp}
use Rattle.lu_types.specs.declared.term.TermInfo.{TermInfo}
use Rattle.lu_types.specs.Bits.{indexed, has_bit}
use Rattle.lu_types.specs.Tables.{TableField}
use Rattle.term_dict.specs.Entries.{TermRecord}

-- a term: the bytes of its text, and what the dictionary says of it
pub record DictionaryTerm : Type 0 where
  pub text : List ℕ
  pub info : TermInfo

-- what the first term follows: no text, and both places 0
abbrev pub no_term : DictionaryTerm
no_term = record { text = []; info = record { field = 0; doc_freq = 0; freq = 0; prox = 0; skip = 0 } }

-- the last of some terms
abbrev pub last_term : List DictionaryTerm → DictionaryTerm
last_term terms = slice_index_or terms (length terms - 1) no_term

-- the term of an entry: so many bytes of the text before and the suffix, and the places before with the differences added
abbrev pub term_after : DictionaryTerm → TermRecord → DictionaryTerm
term_after before e = record {
  text = take e.prefix before.text ++ e.suffix;
  info = record { field = e.field; doc_freq = e.doc_freq; freq = before.info.freq + e.freq; prox = before.info.prox + e.prox; skip = e.skip };
}

-- where there is no field of the number
abbrev pub no_field : TableField
no_field = record { name = []; bits = 0 }

-- the field with the number
abbrev pub field_of : List TableField → ℕ → TableField
field_of fields number = slice_index_or fields number no_field

-- there is a field of the number, and it has bit 01
abbrev pub is_indexed : List TableField → ℕ → Bool
is_indexed fields number = has_bit indexed (field_of fields number).bits

-- how two terms stand to each other: by the names of their fields, and then by their texts, in UTF-16 order
abbrev pub dictionary_term_cmp : List TableField → DictionaryTerm → DictionaryTerm → Ordering
dictionary_term_cmp fields a b = ordering_then (text_cmp (field_of fields a.info.field).name (field_of fields b.info.field).name) (text_cmp a.text b.text)

-- the term is above all before, which rise
abbrev pub is_above : List TableField → List DictionaryTerm → DictionaryTerm → Bool
is_above fields before t = length before == 0 || is_lt (dictionary_term_cmp fields (last_term before) t)
