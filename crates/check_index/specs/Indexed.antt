-- The terms of an index, from what the dictionary, `.frq` and `.prx` stand for (format page, "Indexes").
use Rattle.std.specs.Prelude.{ℕ, List, [], ◌∷◌, map, cond}
use Rattle.lu_types.specs.Bits as bit
use Rattle.lu_types.specs.Bits.{has_bit}
use Rattle.lu_types.specs.Tables.{TableField, bits_at}
use Rattle.lu_model.specs.Index.{given, omitted, IndexedEntry, IndexedTerm}
use Rattle.term_dict.specs.Terms.{DictionaryTerm}
use Rattle.freq_skips.specs.Entries.{Posting}
use Rattle.freq_skips.specs.Terms.{TermData}
use Rattle.check_index.specs.Positions.{TermOccurrences}

-- a document of which is known only that it has the term
abbrev pub omitted_entry : Posting → IndexedEntry
omitted_entry p = record { document = p.doc; occurrences = omitted }

-- documents with the occurrences of the term
abbrev pub given_entries : List Posting → TermOccurrences → List IndexedEntry
given_entries [] all = []
given_entries (p ∷ ps) [] = []
given_entries (p ∷ ps) (here ∷ all) = (record { document = p.doc; occurrences = given here }) ∷ given_entries ps all

-- the entries of a term in a field with these bits
abbrev pub indexed_entries : ℕ → List Posting → TermOccurrences → List IndexedEntry
indexed_entries bits postings all = cond (has_bit bit.omit_tf bits) (map omitted_entry postings) (given_entries postings all)

-- a term of the dictionary, with what its parts of `.frq` and `.prx` stand for
abbrev pub indexed_term_of : List TableField → DictionaryTerm → TermData → TermOccurrences → IndexedTerm
indexed_term_of fields t value all = record {
  field = t.info.field;
  text = t.text;
  entries = indexed_entries (bits_at fields t.info.field) value.postings all;
}

-- all of them
abbrev pub indexed_terms : List TableField → List DictionaryTerm → List TermData → List TermOccurrences → List IndexedTerm
indexed_terms fields [] values occurrences = []
indexed_terms fields (t ∷ ts) [] occurrences = []
indexed_terms fields (t ∷ ts) (v ∷ vs) [] = []
indexed_terms fields (t ∷ ts) (v ∷ vs) (o ∷ os) = indexed_term_of fields t v o ∷ indexed_terms fields ts vs os
