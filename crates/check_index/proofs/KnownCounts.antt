-- How many entries, and occurrences of these, there are of each term of a segment that was checked.
use Rattle.std.proofs.Common.{◌≡◌, ℕ, false, List, [], length, Option, Some, None, refl, sym, ap, ◌∙◌, arith}
use Rattle.std.specs.Prelude.{slice_get, slice_index_or, option_map}
use Rattle.std.proofs.lemmas.List.{length-map}
use Rattle.lu_grammar.specs.Bytes.{Cursor, place_in}
use Rattle.lu_grammar.specs.Plans.{done, read_plan}
use Rattle.lu_grammar.proofs.Records.{same_pair}
use Rattle.lu_grammar.proofs.Loops.{then_ok, read_plan-and_then}
use Rattle.lu_grammar.proofs.Codecs.{ok_pair, read_plan-ReadsTo}
use Rattle.lu_types.specs.Bits as bit
use Rattle.lu_types.specs.Bits.{has_bit}
use Rattle.lu_types.specs.Tables.{TableField, bits_at}
use Rattle.lu_types.specs.Occurrences.{Occurrence}
use Rattle.lu_types.specs.declared.term.TermInfo.{TermInfo}
use Rattle.term_dict.specs.Terms.{DictionaryTerm}
use Rattle.term_dict.specs.Dictionary.{Dictionary}
use Rattle.freq_skips.specs.Terms.{TermData, ruled_by}
use Rattle.positions.specs.Records.{OccurrenceRecord}
use Rattle.positions.specs.Occurrences.{PostedTerm, Held, entries_plan}
use Rattle.positions.specs.Terms.{term_plan}
use Rattle.positions.specs.Cursors.{posted_term}
use Rattle.positions.proofs.AgainLemmas.{Stands-upto}
use Rattle.positions.proofs.FrequencyLemmas.{term-count}
use Rattle.check_index.specs.Terms.{AreListed}
use Rattle.check_index.specs.Positions.{occurrences_in, no_positions, ArePositions, bytes_if_any}
use Rattle.check_index.specs.Opened.{no_data}
use Rattle.check_index.proofs.TermLemmas.{rules_for, ruled-length}
use Rattle.check_index.proofs.PositionLemmas.{postings-length}
use Rattle.check_index.proofs.KnownTerms.{held, held-is, stands-kept}

-- a term that is read has occurrences for each entry
posted-count : (p : PostedTerm) (start : Cursor) (v : List (List Occurrence)) (end : Cursor) → read_plan (term_plan p) start ≡ ok_pair v end → length v ≡ p.term.info.doc_freq
unfolding read_plan
posted-count p start v end all =
    let count = p.term.info.doc_freq in
    let plan = entries_plan p count in
    let last = (Stands-upto p start v end all count (omega arith)).stands in
    let x = then_ok (read_plan plan start) (λ x. read_plan {R = OccurrenceRecord} (done x.0.before) x.1) (v, end) (sym (read_plan-and_then plan (λ (s : Held). done s.before) start) ∙ all) in
    let same = same_pair last.mid x.0.0 last.behind x.0.1 (sym last.entries_read ∙ x.1) in
    let is = (same_pair x.0.0.before v x.0.1 end x.2).0 in
    sym (ap length is) ∙ ap (λ (s : Held). length s.before) (sym same.0) ∙ last.begun

module _ (fields : List TableField) (size : ℕ) (d : Dictionary) (frq : List ℕ) (lists : List TermData) (listed : AreListed fields size d frq lists) where
  pub lists-count : length lists ≡ length d.terms
  lists-count = listed.count ∙ ruled-length fields size d

  pub occurrences-count : (prx : Option (List ℕ)) → ArePositions fields size d lists prx → length (occurrences_in fields size d lists prx) ≡ length d.terms
  occurrences-count None omitted = let e : length (no_positions lists) ≡ length lists = simp length-map in e ∙ lists-count
  occurrences-count (Some prx) (fits, few, all) = all.count ∙ postings-length fields size d frq lists listed prx fits

  module _ (n : ℕ) (info : TermInfo) (there : option_map (λ (t : DictionaryTerm). t.info) (slice_get d.terms n) ≡ Some info) where
    pub entries-count : length (slice_index_or lists n no_data).postings ≡ info.doc_freq
    entries-count =
        let rules = rules_for fields size d info in
        let here = held fields size d frq lists listed n info rules there refl in
        ap (λ (v : TermData). length v.postings) (sym (held-is fields size d frq lists listed n info rules there refl no_data))
        ∙ term-count (ruled_by info rules) (place_in frq info.freq) here.0 here.2.end here.2.reads

    pub kept-count : (prx : Option (List ℕ)) → ArePositions fields size d lists prx → has_bit bit.omit_tf (bits_at fields info.field) ≡ false → length (slice_index_or (occurrences_in fields size d lists prx) n []) ≡ info.doc_freq
    kept-count prx posted kept =
        let rules = rules_for fields size d info in
        let here = held fields size d frq lists listed n info rules there refl in
        let p = posted_term (ruled_by info rules) here.0 in
        let v = slice_index_or (occurrences_in fields size d lists prx) n [] in
        let stands = stands-kept fields size d frq lists listed n info rules there refl prx posted kept in
        let start = place_in (bytes_if_any prx) info.prox in
        posted-count p start v stands.end (read_plan-ReadsTo (term_plan p) start v stands.end stands.reads)
