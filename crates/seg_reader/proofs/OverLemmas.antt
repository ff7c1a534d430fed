-- A cursor before the first entry of a term of a segment.
use Rattle.std.proofs.Common.{◌≡◌, ℕ, suc, ◌<◌, ◌≤◌, ◌^◌, Bool, true, false, List, [], Some, None, inl, refl, sym, ap, subst, ◌∙◌, arith}
use Rattle.std.specs.Prelude.{slice_get, slice_index_or}
use Rattle.std.proofs.lemmas.Option.{get_or_from_slice_get, slice_get_within}
use Rattle.lu_grammar.specs.Bytes.{Cursor, place_in}
use Rattle.lu_grammar.specs.Meaning.{ReadsTo}
use Rattle.lu_types.specs.Bits as bit
use Rattle.lu_types.specs.Bits.{has_bit}
use Rattle.lu_types.specs.Occurrences.{Occurrence}
use Rattle.lu_types.specs.Tables.{bits_at}
use Rattle.lu_types.specs.declared.term.TermInfo.{TermInfo}
use Rattle.lu_model.specs.Index.{IndexedEntry, IndexedTerm}
use Rattle.term_dict.specs.Terms.{DictionaryTerm}
use Rattle.term_dict.specs.Checks.{AreBounded}
use Rattle.term_dict.specs.Facts.{AreGoodTerms}
use Rattle.freq_skips.specs.declared.rules.RuledTerm.{RuledTerm}
use Rattle.freq_skips.specs.declared.skip_point.SkipPoint.{SkipPoint}
use Rattle.freq_skips.specs.Entries.{Posting, no_posting}
use Rattle.freq_skips.specs.Terms.{TermData, term_plan}
use Rattle.freq_skips.specs.Walks.{WalkState}
use Rattle.freq_skips.specs.Points.{KnownTerm, IsPoint}
use Rattle.freq_skips.proofs.TermLemmas.{TermParts-ReadsTo}
use Rattle.freq_skips.proofs.PostingLemmas.{posting-good, docs-rise}
use Rattle.positions.specs.Cursors.{CursorState, IsAmong}
use Rattle.positions.proofs.FrequencyLemmas.{term-count}
use Rattle.doc_marks.specs.Walking.{MarkWalk}
use Rattle.check_index.specs.Positions.{TermOccurrences}
use Rattle.check_index.specs.Indexed.{indexed_terms}
use Rattle.check_index.specs.Segments.{SegmentValue}
use Rattle.check_index.specs.Opened.{IsTermOf, ruled_term, data_of, entries_of, skips_of, IsPointOf, KeepsPositions, StandsAt, occurrences_of}
use Rattle.check_index.specs.Known.{AreKnown}
use Rattle.check_index.proofs.TurnLemmas.{element}
use Rattle.seg_reader.specs.declared.scan.Scan.{Scan}
use Rattle.seg_reader.specs.declared.beside.Beside.{Beside}
use Rattle.seg_reader.specs.declared.place.Place.TheVariants.{Start}
use Rattle.seg_reader.specs.Terms.{no_term, term_at}
use Rattle.seg_reader.specs.Postings.{postings_of}
use Rattle.seg_reader.specs.InnerScan.{AreInOrder}
use Rattle.seg_reader.specs.InnerBeside.{occurrences_read}
use Rattle.seg_reader.specs.InnerCursor.{entries_kept, entries_seen, walk_at, AreTogether}
use Rattle.seg_reader.proofs.DictionaryTerms.{indexed_terms-at}
use Rattle.seg_reader.proofs.EntriesSeen.{occurrences_read-is}

-- the entries of a term that is read are in order
pub AreInOrder-read : (t : RuledTerm) (start : Cursor) (value : TermData) (end : Cursor) → ReadsTo (term_plan t) start value end → t.info.doc_freq < 2 ^ 31 → AreInOrder t value
AreInOrder-read t start value end reads few =
    let parts = TermParts-ReadsTo t start value end reads in
    let back = sym parts.postings in
    record {
      count = term-count t start value end reads;
      few = few;
      rise = λ i j lt below. subst (λ (ps : List Posting). (slice_index_or ps i no_posting).doc < (slice_index_or ps j no_posting).doc) back (docs-rise t start parts.mid i j parts.all lt below);
      below = λ i lt. subst (λ (ps : List Posting). (slice_index_or ps i no_posting).doc < t.rules.documents) back (posting-good t start parts.mid i parts.all lt).below;
      before = λ i lt. subst (λ (ps : List Posting). (slice_index_or ps (suc i) no_posting).before ≡ (slice_index_or ps i no_posting).doc) back ((posting-good t start parts.mid (suc i) parts.all lt).next i refl);
    }

module _ (s : SegmentValue) (n : ℕ) (info : TermInfo) (is : IsTermOf s n info) where
  said : (t : DictionaryTerm) × (slice_get s.dictionary.terms n ≡ Some t) × (t.info ≡ info)
  said = element (λ (t : DictionaryTerm). t.info) (slice_get s.dictionary.terms n) info is

  -- a term has as many entries at most as the segment has documents
  pub few-entries : AreGoodTerms s.index.fields s.index.size s.dictionary → s.index.size < 2 ^ 31 → info.doc_freq < 2 ^ 31
  few-entries good small =
      let t = said.0 in
      let at = (good.each n t (slice_get_within s.dictionary.terms n t said.1)).most in
      let here : t.info.doc_freq ≤ s.index.size = subst (λ (u : DictionaryTerm). u.info.doc_freq ≤ s.index.size) (get_or_from_slice_get s.dictionary.terms n t t said.1) at in
      omega (arith, here, small, ap (λ (i : TermInfo). i.doc_freq) said.2)

  -- where a cursor over its occurrences stands
  pub record StandsFirst (c : CursorState) : Type 0 where
    pub kept : KeepsPositions s info → IsAmong (ruled_term s info) (data_of s n) (occurrences_of s n) 0 [] c
    pub all : List (List Occurrence)
    pub stands : IsAmong (ruled_term s info) (data_of s n) all 0 [] c

  module _ (c : CursorState) (h : StandsFirst c) where
    abbrev pub first_scan : List ℕ → Scan
    first_scan hidden = record { entries = entries_of s n info; live = record { documents = hidden; from = 0 }; passed = 0; between = 0 }

    abbrev pub first_beside : Beside
    first_beside = record { occurrences = c; ahead = None }

    abbrev t : RuledTerm
    t = ruled_term s info

    pub together-first : (hidden : List ℕ) → AreGoodTerms s.index.fields s.index.size s.dictionary → s.index.size < 2 ^ 31 → AreBounded s.dictionary.numbers
        → AreTogether (first_scan hidden) (skips_of s n info) first_beside Start (has_bit bit.omit_tf (bits_at s.index.fields info.field))
    together-first hidden good small bounded =
        let both = h.stands.good in
        record {
          scan = record {
            order = AreInOrder-read t (place_in both.frq info.freq) (data_of s n) both.behind both.entries (few-entries good small);
            passed = refl;
            within = omega arith;
            asked = λ i le lt. omega arith;
            few = omega arith;
          };
          skips = refl;
          omits = refl;
          interval = bounded.skip_interval.0;
          levels = bounded.max_levels.0;
          place = refl;
          beside = λ kept.
              let among = h.kept kept in
              record {
                passed = 0;
                leads = ([], subst (λ (o : TermOccurrences). IsAmong t (data_of s n) o 0 [] c) (sym (occurrences_read-is t (data_of s n) c.prx (occurrences_of s n) among.good)) among);
                within = omega arith;
                counts = refl;
              };
        }

    -- the entries are those of the term of the index
    entries-first : s.index.terms ≡ indexed_terms s.index.fields s.dictionary.terms s.lists s.occurrences → AreKnown s → entries_seen t (data_of s n) c.prx ≡ (term_at s n).entries
    entries-first indexed known =
        same t.rules.omit_tf refl
        ∙ ap (λ (i : TermInfo). entries_kept (has_bit bit.omit_tf (bits_at s.index.fields i.field)) (data_of s n).postings (occurrences_of s n)) (sym said.2)
        ∙ ap (λ (x : IndexedTerm). x.entries) (sym (ap (λ (ts : List IndexedTerm). slice_index_or ts n no_term) indexed
        ∙ indexed_terms-at s.index.fields s.dictionary.terms s.lists s.occurrences n said.0 (known.lists, known.occurrences) said.1))
      where
        same : (b : Bool) → t.rules.omit_tf ≡ b → entries_seen t (data_of s n) c.prx ≡ entries_kept t.rules.omit_tf (data_of s n).postings (occurrences_of s n)
        same true omit =
            ap (λ (b : Bool). entries_kept b (data_of s n).postings (occurrences_read t (data_of s n) c.prx)) omit
            ∙ ap (λ (b : Bool). entries_kept b (data_of s n).postings (occurrences_of s n)) (sym omit)
        same false kept = ap (entries_kept t.rules.omit_tf (data_of s n).postings) (occurrences_read-is t (data_of s n) c.prx (occurrences_of s n) (h.kept kept).good)

    pub walk-first : (hidden : List ℕ) → s.index.terms ≡ indexed_terms s.index.fields s.dictionary.terms s.lists s.occurrences → AreKnown s → walk_at (first_scan hidden) first_beside Start ≡ postings_of s n info hidden
    walk-first hidden indexed known = ap (λ (es : List IndexedEntry). record (walk_at (first_scan hidden) first_beside Start) { entries = es }) (entries-first indexed known)

    -- the same of parts that are so
    module _ (hidden : List ℕ) (entries : WalkState) (of_entries : entries ≡ entries_of s n info) (live : MarkWalk) (of_live : live ≡ record { documents = hidden; from = 0 }) where
      scan-first : record { entries = entries; live = live; passed = 0; between = 0 } ≡ first_scan hidden
      scan-first =
          ap (λ (w : WalkState). made w live) of_entries
          ∙ ap (made (entries_of s n info)) of_live
        where
          made : WalkState → MarkWalk → Scan
          made w l = record { entries = w; live = l; passed = 0; between = 0 }

      pub together-over : (k : KnownTerm) (flag : Bool) → k ≡ skips_of s n info → flag ≡ has_bit bit.omit_tf (bits_at s.index.fields info.field) → AreGoodTerms s.index.fields s.index.size s.dictionary → s.index.size < 2 ^ 31
          → AreBounded s.dictionary.numbers → AreTogether (record { entries = entries; live = live; passed = 0; between = 0 }) k first_beside Start flag
      together-over k flag of_skips of_flag good small bounded =
          subst (λ (x : Scan). AreTogether x k first_beside Start flag) (sym scan-first)
          (subst (λ (x : KnownTerm). AreTogether (first_scan hidden) x first_beside Start flag) (sym of_skips)
          (subst (AreTogether (first_scan hidden) (skips_of s n info) first_beside Start) (sym of_flag) (together-first hidden good small bounded)))

      pub walk-over : s.index.terms ≡ indexed_terms s.index.fields s.dictionary.terms s.lists s.occurrences → AreKnown s
          → walk_at (record { entries = entries; live = live; passed = 0; between = 0 }) first_beside Start ≡ postings_of s n info hidden
      walk-over indexed known = ap (λ (x : Scan). walk_at x first_beside Start) scan-first ∙ walk-first hidden indexed known

-- the start of a term is one of its points
pub start-is : (t : RuledTerm) (value : TermData) (point : SkipPoint) → point ≡ record { passed = 0; doc = 0; freq = t.info.freq; prox = t.info.prox } → IsPoint t value point
start-is t value point is = record { number = 0; exists = inl refl; point = is }

-- where a cursor stands that begins at the start
pub StandsFirst-made : (s : SegmentValue) (n : ℕ) (info : TermInfo) (is : IsTermOf s n info) (point : SkipPoint) (c : CursorState) → point ≡ record { passed = 0; doc = 0; freq = info.freq; prox = info.prox }
    → ((m : ℕ) → IsPointOf s m info point → KeepsPositions s info → StandsAt s m info point (occurrences_of s m) c) → ((m : ℕ) → IsPointOf s m info point → (some : List (List Occurrence)) × StandsAt s m info point some c) → StandsFirst s n info is c
StandsFirst-made s n info is point c start kept stands =
    let there : IsPointOf s n info point = (is, start-is (ruled_term s info) (data_of s n) point start) in
    let passed : point.passed ≡ 0 = ap (λ (p : SkipPoint). p.passed) start in
    let some = stands n there in
    record {
      kept = λ keeps. subst (λ (m : ℕ). IsAmong (ruled_term s info) (data_of s n) (occurrences_of s n) m [] c) passed (kept n there keeps);
      all = some.0;
      stands = subst (λ (m : ℕ). IsAmong (ruled_term s info) (data_of s n) some.0 m [] c) passed some.1;
    }
