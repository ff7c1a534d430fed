-- A term that is written is read as itself, in the dictionary, `.frq` and `.prx`.
use Rattle.std.proofs.Common.{◌≡◌, ℕ, ◌+◌, Bool, true, false, List, [], ◌∷◌, length, map, None, refl, sym, ap, ◌∙◌}
use Rattle.std.specs.List.Sorted.{IsStrictlySortedBy}
use Rattle.std.specs.Ordering.{nat_cmp}
use Rattle.lu_grammar.specs.Bytes.{place_in}
use Rattle.lu_grammar.specs.Meaning.{ReadsTo}
use Rattle.lu_types.specs.Bits as bit
use Rattle.lu_types.specs.Bits.{has_bit}
use Rattle.lu_types.specs.Tables.{TableField, bits_at}
use Rattle.lu_types.specs.Terms.{term_rules}
use Rattle.lu_types.specs.declared.term.TermNumbers.{TermNumbers}
use Rattle.lu_model.specs.Index.{KeptOccurrences, given, omitted, frequency, IndexedEntry, IndexedTerm}
use Rattle.lu_types.specs.Occurrences.{Occurrence as IndexedOccurrence}
use Rattle.lu_model.proofs.Words.{Each}
use Rattle.freq_skips.specs.declared.rules.RuledTerm.{RuledTerm}
use Rattle.freq_skips.specs.declared.writer.Handed.{Handed}
use Rattle.freq_skips.specs.Written.{entry_bytes, written_postings}
use Rattle.freq_skips.specs.Terms.{TermData, ruled_by, term_plan}
use Rattle.positions.specs.Terms.{term_plan as prx_term_plan}
use Rattle.positions.specs.Written.{document_occurrence_bytes}
use Rattle.positions.specs.Cursors.{posted_term}
use Rattle.term_dict.specs.Terms.{DictionaryTerm}
use Rattle.term_dict.specs.Writing.{numbers_of}
use Rattle.check_index.specs.Positions.{TermOccurrences}
use Rattle.check_index.specs.Indexed.{omitted_entry, given_entries, indexed_term_of}
use Rattle.segment_files.specs.Postings.{PostingIntervals, PostingParts, KeptTerm, kept_term, dictionary_line, with_postings, prx_occurrence, prx_occurrences, prx_entries, handed_from}
use Rattle.segment_files.proofs.Handing.{IsGoodEntry, documents_of}
use Rattle.segment_files.proofs.PrxBytes.{IsGiven}

-- ---- what is read is what the index has

-- the entry of an index that its parts make
entry_made : ℕ → KeptOccurrences → IndexedEntry
entry_made document o = record { document = document; occurrences = o }

pub again-omitted : (payloads : Bool) (place last before : ℕ) (es : List IndexedEntry) → Each (λ (e : IndexedEntry). e.occurrences ≡ omitted) es → map omitted_entry (written_postings true place last (handed_from payloads before es)) ≡ es
unfolding entry_made
again-omitted payloads place last before [] h = refl
again-omitted payloads place last before (e ∷ es) h =
    let h_now : Handed = record { doc = e.document; freq = frequency e.occurrences; prox = before } in
    let here = place + length (entry_bytes true last h_now) in
    let more = before + length (document_occurrence_bytes payloads None 0 (prx_occurrences e.occurrences)) in
    let rest = map omitted_entry (written_postings true here e.document (handed_from payloads more es)) in
    ap (λ (o : KeptOccurrences). entry_made e.document o ∷ rest) (sym h.0) ∙ ap (λ (tail : List IndexedEntry). e ∷ tail) (again-omitted payloads here e.document more es h.1)

occurrences-again : (os : List IndexedOccurrence) → map prx_occurrence os ≡ os
occurrences-again [] = refl
occurrences-again (o ∷ os) = ap (λ (tail : List IndexedOccurrence). o ∷ tail) (occurrences-again os)

given-again : (o : KeptOccurrences) (os : List IndexedOccurrence) → o ≡ given os → given (prx_occurrences o) ≡ o
given-again o os is = rw is (ap given (occurrences-again os))

pub again-given : (bits place last before : ℕ) (es : List IndexedEntry) → Each (IsGiven bits) es
    → given_entries (written_postings false place last (handed_from (has_bit bit.payloads bits) before es)) (prx_entries es) ≡ es
unfolding entry_made
again-given bits place last before [] h = refl
again-given bits place last before (e ∷ es) h =
    let payloads = has_bit bit.payloads bits in
    let h_now : Handed = record { doc = e.document; freq = frequency e.occurrences; prox = before } in
    let here = place + length (entry_bytes false last h_now) in
    let more = before + length (document_occurrence_bytes payloads None 0 (prx_occurrences e.occurrences)) in
    let rest = given_entries (written_postings false here e.document (handed_from payloads more es)) (prx_entries es) in
    ap (λ (o : KeptOccurrences). entry_made e.document o ∷ rest) (given-again e.occurrences h.0.0 h.0.1) ∙ ap (λ (tail : List IndexedEntry). e ∷ tail) (again-given bits here e.document more es h.1)

-- ---- one term

-- the numbers of a dictionary of so many terms
abbrev pub numbers_for : PostingIntervals → ℕ → TermNumbers
numbers_for o count = numbers_of o.index o.skip o.levels count

module _ (fields : List TableField) (size : ℕ) (o : PostingIntervals) (count : ℕ) where
  -- the term, with what its field keeps
  abbrev pub kept_here : IndexedTerm → KeptTerm
  kept_here t = kept_term (bits_at fields t.field) t

  -- what the dictionary says of a term behind some parts, and what its entries are read by
  abbrev pub line_here : PostingParts → IndexedTerm → DictionaryTerm
  line_here f t = dictionary_line o f (kept_here t)

  abbrev pub ruled_here : PostingParts → IndexedTerm → RuledTerm
  ruled_here f t = ruled_by (line_here f t).info (term_rules (numbers_for o count) (bits_at fields t.field) size)

  abbrev pub parts_behind : PostingParts → IndexedTerm → PostingParts
  parts_behind f t = with_postings o f (kept_here t)

  -- what is so of a term that an index can have
  pub record CanStand (t : IndexedTerm) : Type 0 where
    pub rise : IsStrictlySortedBy nat_cmp (documents_of t.entries)
    pub good : Each (IsGoodEntry size (bits_at fields t.field)) t.entries

  -- a term behind some parts is read in both files, and is the term of the index
  pub record TermRead (f : PostingParts) (t : IndexedTerm) (frq prx : List ℕ) : Type 0 where
    pub value : TermData
    pub entries : ReadsTo (term_plan (ruled_here f t)) (place_in frq (length f.frq)) value (place_in frq (length (parts_behind f t).frq))
    pub occurrences : TermOccurrences
    pub positions : ReadsTo (prx_term_plan (posted_term (ruled_here f t) value)) (place_in prx (length f.prx)) occurrences (place_in prx (length (parts_behind f t).prx))
    pub again : indexed_term_of fields (line_here f t) value occurrences ≡ t
    pub unposted : has_bit bit.omit_tf (bits_at fields t.field) ≡ true → (others : TermOccurrences) → indexed_term_of fields (line_here f t) value others ≡ t
