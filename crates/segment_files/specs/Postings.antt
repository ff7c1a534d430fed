-- The canonical bytes of the terms of an index, term by term: the lines of the dictionary, `.frq` and `.prx` (format page, "Canonical files").
use Rattle.std.specs.Prelude.{ℕ, ◌+◌, Bool, List, [], ◌∷◌, ◌++◌, length, map, None}
use Rattle.std.specs.List.{fold}
use Rattle.lu_types.specs.Bits as bit
use Rattle.lu_types.specs.Bits.{has_bit}
use Rattle.lu_types.specs.Tables.{TableField, bits_at}
use Rattle.lu_model.specs.Index.{KeptOccurrences, given, omitted, frequency, IndexedEntry, IndexedTerm}
use Rattle.lu_types.specs.Occurrences.{Occurrence as IndexedOccurrence}
use Rattle.freq_skips.specs.declared.writer.Handed.{Handed}
use Rattle.freq_skips.specs.Writing.{FrqWriting, finished, skip_delta}
use Rattle.lu_types.specs.Occurrences.{Occurrence}
use Rattle.positions.specs.Written.{document_occurrence_bytes, occurrences_bytes}
use Rattle.term_dict.specs.Terms.{DictionaryTerm}
use Rattle.term_dict.specs.Writing.{TermsWritten, numbers_written}
use Rattle.term_dict.specs.Canonical.{canonical_tis, canonical_tii}

-- ---- the entries of a term

-- an occurrence as it stands in `.prx`
abbrev pub prx_occurrence : IndexedOccurrence → Occurrence
prx_occurrence o = record { position = o.position; payload = o.payload }

-- the occurrences that stand in `.prx`: none where they are omitted
abbrev pub prx_occurrences : KeptOccurrences → List Occurrence
prx_occurrences (given occurrences) = map prx_occurrence occurrences
prx_occurrences omitted = []

-- those of some entries, entry by entry
abbrev pub prx_entries : List IndexedEntry → List (List Occurrence)
prx_entries entries = map (λ e. prx_occurrences e.occurrences) entries

-- their bytes
abbrev pub prx_bytes : Bool → List IndexedEntry → List ℕ
prx_bytes payloads entries = occurrences_bytes payloads (prx_entries entries)

-- entries as a writer of `.frq` is handed them, the first behind so many bytes of positions of its term
abbrev pub handed_from : Bool → ℕ → List IndexedEntry → List Handed
handed_from payloads before [] = []
handed_from payloads before (e ∷ es) =
    (record { doc = e.document; freq = frequency e.occurrences; prox = before })
    ∷ handed_from payloads (before + length (document_occurrence_bytes payloads None 0 (prx_occurrences e.occurrences))) es

-- ---- terms

-- every how many terms the index of terms has one, every how many entries there is skip data, and the most levels of it
pub record PostingIntervals : Type 0 where
  pub index : ℕ
  pub skip : ℕ
  pub levels : ℕ

-- a writer of `.frq` behind these bytes that holds these entries of a term
abbrev pub frq_writing : PostingIntervals → Bool → Bool → List ℕ → List IndexedEntry → FrqWriting
frq_writing intervals omit payloads bytes entries = record {
  interval = intervals.skip;
  most = intervals.levels;
  bytes = bytes;
  omit = omit;
  payloads = payloads;
  entries = handed_from payloads 0 entries;
}

-- what stands for terms: the lines of the dictionary, and the bytes of `.frq` and `.prx`
pub record PostingParts : Type 0 where
  pub lines : List DictionaryTerm
  pub frq : List ℕ
  pub prx : List ℕ

-- of no terms
abbrev pub no_parts : PostingParts
no_parts = record { lines = []; frq = []; prx = [] }

-- a term with what its field keeps: whether it omits frequencies and positions, and whether it has payloads
pub record KeptTerm : Type 0 where
  pub omit : Bool
  pub payloads : Bool
  pub term : IndexedTerm

-- a term of a field with these bits
abbrev pub kept_term : ℕ → IndexedTerm → KeptTerm
kept_term bits term = record { omit = has_bit bit.omit_tf bits; payloads = has_bit bit.payloads bits; term = term }

-- terms under a field table
abbrev pub kept_terms : List TableField → List IndexedTerm → List KeptTerm
kept_terms fields terms = map (λ term. kept_term (bits_at fields term.field) term) terms

-- the writer of `.frq` behind these parts that holds the entries of a term
abbrev pub term_writing : PostingIntervals → PostingParts → KeptTerm → FrqWriting
term_writing intervals parts t = frq_writing intervals t.omit t.payloads parts.frq t.term.entries

-- the line of the dictionary on a term behind these parts: its places are where both files end so far
abbrev pub dictionary_line : PostingIntervals → PostingParts → KeptTerm → DictionaryTerm
dictionary_line intervals parts t = record {
  text = t.term.text;
  info = record {
    field = t.term.field;
    doc_freq = length t.term.entries;
    freq = length parts.frq;
    prox = length parts.prx;
    skip = skip_delta (term_writing intervals parts t);
  };
}

-- one term more
abbrev pub with_postings : PostingIntervals → PostingParts → KeptTerm → PostingParts
with_postings intervals parts t = record {
  lines = parts.lines ++ dictionary_line intervals parts t ∷ [];
  frq = (finished (term_writing intervals parts t)).bytes;
  prx = parts.prx ++ prx_bytes t.payloads t.term.entries;
}

-- some terms behind these parts
abbrev pub with_all_postings : PostingIntervals → PostingParts → List KeptTerm → PostingParts
with_all_postings intervals parts terms = fold (with_postings intervals) parts terms

-- what stands for some terms
abbrev pub parts_of : PostingIntervals → List KeptTerm → PostingParts
parts_of intervals terms = with_all_postings intervals no_parts terms

-- ---- the dictionary

-- what a writer of terms holds that was handed these lines
abbrev pub lines_written : PostingIntervals → List DictionaryTerm → TermsWritten
lines_written intervals lines = record {
  index_interval = intervals.index;
  skip_interval = intervals.skip;
  max_levels = intervals.levels;
  terms = lines;
}

-- `.tis` and `.tii` of what a writer holds
abbrev pub tis_bytes : TermsWritten → List ℕ
tis_bytes w = canonical_tis (numbers_written w) w.terms

abbrev pub tii_bytes : TermsWritten → List ℕ
tii_bytes w = canonical_tii (numbers_written w) w.terms
