-- A term of the dictionary, with what its parts of `.frq` and `.prx` stand for, is a term that an index can have.
use Rattle.std.proofs.Common.{◌≡◌, ℕ, ◌<◌, ◌≤◌, ◌^◌, Bool, true, false, List, [], length, get_or, sym, subst, arith}
use Rattle.std.specs.Prelude.{if◌then◌else◌, slice_index_or}
use Rattle.std.proofs.lemmas.List.{get_or_default}
use Rattle.lu_grammar.specs.Bytes.{IsBytes, place_in}
use Rattle.lu_grammar.specs.Meaning.{ReadsTo}
use Rattle.lu_grammar.proofs.Parts.{IsBytes-drop}
use Rattle.lu_grammar.proofs.Codecs.{read_plan-ReadsTo}
use Rattle.lu_types.specs.Bits as bit
use Rattle.lu_types.specs.Bits.{has_bit}
use Rattle.lu_types.specs.Tables.{TableField, bits_at}
use Rattle.lu_types.specs.Terms.{term_rules}
use Rattle.lu_types.specs.declared.term.TermNumbers.{TermNumbers}
use Rattle.lu_model.specs.Contents.{field_at}
use Rattle.lu_model.specs.Valid.{IsIndexedTerm}
use Rattle.lu_model.proofs.Words.{Each, EachPair}
use Rattle.lu_model.proofs.Each.{all-from_each, each-from_all, each-from_pairs}
use Rattle.term_dict.specs.Terms.{DictionaryTerm}
use Rattle.term_dict.specs.Facts.{IsTermOfSegment}
use Rattle.freq_skips.specs.declared.rules.RuledTerm.{RuledTerm}
use Rattle.freq_skips.specs.Entries.{Posting, no_posting}
use Rattle.freq_skips.specs.Terms.{TermData, term_plan, ruled_by}
use Rattle.freq_skips.specs.Sound.{IsSoundTermData}
use Rattle.freq_skips.proofs.TermLemmas.{TermParts-ReadsTo}
use Rattle.freq_skips.proofs.WalkLemmas.{entries-start}
use Rattle.freq_skips.proofs.SoundLemmas.{IsSoundTermData-good}
use Rattle.positions.specs.Occurrences.{count_at}
use Rattle.positions.specs.Cursors.{StandsInBoth, posted_term}
use Rattle.positions.specs.Terms.{term_plan as posted_plan}
use Rattle.positions.specs.Written.{AreGoodOccurrences}
use Rattle.positions.proofs.AgainLemmas.{term-starts}
use Rattle.positions.proofs.GoodLemmas.{entry-good}
use Rattle.check_index.specs.Positions.{TermOccurrences}
use Rattle.check_index.specs.Indexed.{indexed_term_of}
use Rattle.check_index.proofs.ValidBits.{bits-same}
use Rattle.check_index.proofs.ValidTurns.{StandsSomewhere}
use Rattle.check_index.proofs.ValidPostings.{IsFew, postings-few}
use Rattle.check_index.proofs.ValidOccurrences.{AllFit, all-fit, IsGoodEntry, entries-good}

module _ (fields : List TableField) (size : ℕ) (numbers : TermNumbers) where
  -- the term, with what its entries are read by
  abbrev pub ruled : DictionaryTerm → RuledTerm
  ruled t = ruled_by t.info (term_rules numbers (bits_at fields t.info.field) size)

  -- the occurrences of a term in a field that keeps them, entry by entry
  abbrev pub AreKept : DictionaryTerm → TermData → TermOccurrences → Type 0
  AreKept t v o = has_bit bit.omit_tf (bits_at fields t.info.field) ≡ false → (k : ℕ) → k < t.info.doc_freq
      → AreGoodOccurrences (has_bit bit.payloads (bits_at fields t.info.field)) 0 (slice_index_or o k []) × (length (slice_index_or o k []) ≡ (slice_index_or v.postings k no_posting).freq)

  module _ (frq : List ℕ) (frq_fits : IsBytes frq) (interval : 2 ≤ numbers.skip_interval) (t : DictionaryTerm) (v : TermData) (some : 0 < t.info.doc_freq) (stands : StandsSomewhere term_plan frq (ruled t) v) where
    begins : stands.place ≡ t.info.freq
    begins =
        let parts = TermParts-ReadsTo (ruled t) (place_in frq stands.place) v stands.end stands.reads in
        entries-start (ruled t) (place_in frq stands.place) parts.mid parts.all some

    there : ReadsTo (term_plan (ruled t)) (place_in frq t.info.freq) v stands.end
    there = subst (λ (n : ℕ). ReadsTo (term_plan (ruled t)) (place_in frq n) v stands.end) begins stands.reads

    pub term-sound : IsSoundTermData (ruled t) v
    term-sound = IsSoundTermData-good (ruled t) frq v stands.end frq_fits interval (omega (arith, begins, stands.within)) there

    pub term-few : Each IsFew v.postings
    term-few = each-from_all IsFew v.postings (postings-few (ruled t) (place_in frq stands.place) v stands.end (IsBytes-drop stands.place frq frq_fits) stands.reads)

    pub term-kept : (prx : List ℕ) (o : TermOccurrences) → IsBytes prx → StandsSomewhere posted_plan prx (posted_term (ruled t) v) o → AreKept t v o
    term-kept prx o fits posted kept k lt =
        let p = posted_term (ruled t) v in
        let first = term-sound.some 0 some in
        let due : 0 < count_at p 0 = subst (λ (b : Bool). 0 < (if b then 0 else (slice_index_or v.postings 0 no_posting).freq)) (sym kept) (omega (arith, first)) in
        let start = term-starts p (place_in prx posted.place) o posted.end (read_plan-ReadsTo (posted_plan p) (place_in prx posted.place) o posted.end posted.reads) some due in
        let both : StandsInBoth (ruled t) v prx o = record {
          interval = interval;
          frq = frq;
          behind = stands.end;
          entries = there;
          end = posted.end;
          reads = subst (λ (n : ℕ). ReadsTo (posted_plan p) (place_in prx n) o posted.end) start posted.reads;
          within = λ _. omega (arith, start, posted.within);
        } in
        entry-good (ruled t) v prx o k fits both kept lt

  -- ---- the term of the index

  module _ (t : DictionaryTerm) (v : TermData) (o : TermOccurrences) (good : IsTermOfSegment fields size numbers.skip_interval t) (short : length t.text < 2 ^ 31) (sound : IsSoundTermData (ruled t) v) (few : Each IsFew v.postings) (kept : AreKept t v o) where
    abbrev bits : ℕ
    bits = bits_at fields t.info.field

    postings-rise : EachPair (λ p q. p.doc < q.doc) v.postings
    postings-rise = each-from_pairs (λ (p q : Posting). p.doc < q.doc) v.postings (λ i j d low high.
        let at : (k : ℕ) → k < length v.postings → get_or v.postings k no_posting ≡ get_or v.postings k d = λ k lt. get_or_default v.postings k no_posting d lt in
        let rise : (get_or v.postings i no_posting).doc < (get_or v.postings j no_posting).doc = sound.rise i j low (omega (arith, high, sound.count)) in
        subst (λ (p : Posting). p.doc < (get_or v.postings j d).doc) (at i (omega (arith, low, high))) (subst (λ (q : Posting). (get_or v.postings i no_posting).doc < q.doc) (at j high) rise))

    postings-below : Each (λ (p : Posting). p.doc < size) v.postings
    postings-below = each-from_all (λ (p : Posting). p.doc < size) v.postings (λ k d lt.
        subst (λ (p : Posting). p.doc < size) (get_or_default v.postings k no_posting d lt) (sound.below k (omega (arith, lt, sound.count))))

    fit : has_bit bit.omit_tf bits ≡ false → AllFit bits v.postings o
    fit keeps = all-fit bits v.postings o (λ k lt.
        let inside : k < t.info.doc_freq = omega (arith, lt, sound.count) in
        let here = kept keeps k inside in
        record { document = here.0; count = here.1; some = sound.some k inside; few = all-from_each IsFew v.postings few k no_posting lt })

    pub term-indexed : IsIndexedTerm size (field_at t.info.field fields).bits (indexed_term_of fields t v o)
    term-indexed =
        let is : bits ≡ (field_at t.info.field fields).bits = bits-same t.info.field fields in
        let entries = entries-good size bits v.postings o (omega (arith, sound.count, good.some)) postings-rise postings-below fit in
        subst (λ (b : ℕ). IsIndexedTerm size b (indexed_term_of fields t v o)) is (record {
          indexed = subst (λ (b : ℕ). has_bit bit.indexed b ≡ true) (sym is) good.indexed;
          text = (good.text, short);
          some = entries.some;
          rise = entries.rise;
          entries = all-from_each (IsGoodEntry size bits) (indexed_term_of fields t v o).entries entries.each;
        })
