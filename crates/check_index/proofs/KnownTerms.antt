-- What is known of each term of a segment that was checked: it stands in `.prx` too, and its skip data tell the places there.
use Rattle.std.proofs.Common.{◌≡◌, ℕ, ◌<◌, ◌≤◌, ◌^◌, true, false, List, [], length, Option, Some, None, sym, ap, subst, ◌∙◌, arith}
use Rattle.std.specs.Prelude.{slice_get, slice_index_or, option_map, unwrap_or}
use Rattle.std.proofs.lemmas.Option.{get_or_from_slice_get, slice_get_within}
use Rattle.lu_grammar.specs.Bytes.{IsBytes, Cursor, place_in}
use Rattle.lu_grammar.specs.Meaning.{ReadsTo}
use Rattle.lu_grammar.proofs.Parts.{IsBytes-drop}
use Rattle.lu_grammar.proofs.Codecs.{reads-read_plan, IsBytes-nil}
use Rattle.lu_types.specs.Bits as bit
use Rattle.lu_types.specs.Bits.{has_bit}
use Rattle.lu_types.specs.Tables.{TableField, bits_at}
use Rattle.lu_types.specs.declared.term.TermInfo.{TermInfo}
use Rattle.lu_types.specs.declared.term.TermRules.{TermRules}
use Rattle.term_dict.specs.Terms.{DictionaryTerm}
use Rattle.term_dict.specs.Dictionary.{Dictionary}
use Rattle.term_dict.specs.Facts.{AreGoodTerms}
use Rattle.freq_skips.specs.declared.rules.RuledTerm.{RuledTerm}
use Rattle.freq_skips.specs.Terms.{TermData, ruled_by, term_plan as frq_term_plan}
use Rattle.freq_skips.specs.Points.{KnownTerm, HasKnownPlaces, IsPoint}
use Rattle.freq_skips.specs.declared.skip_point.SkipPoint.{SkipPoint}
use Rattle.positions.specs.Terms.{posted, term_plan}
use Rattle.positions.specs.Cursors.{posted_term, CursorState, StandsInBoth, IsPointIn, IsAmong}
use Rattle.positions.proofs.OmittedLemmas.{omitted-read}
use Rattle.positions.proofs.KnownPlaces.{known_places}
use Rattle.check_index.specs.Terms.{IsListed, AreListed}
use Rattle.check_index.specs.Positions.{TermOccurrences, occurrences_in, AreOmitted, bytes_if_any, ArePositions}
use Rattle.check_index.proofs.TurnLemmas.{element}
use Rattle.check_index.proofs.TermLemmas.{used_at, rules_for, ruled_at}
use Rattle.check_index.proofs.PositionLemmas.{entries_at, posted-at}

-- the term stands in these bytes of `.prx`
pub record StandsThere (t : RuledTerm) (value : TermData) (prx : List ℕ) : Type 0 where
  pub fits : IsBytes prx
  pub few : length prx < 2 ^ 31
  pub occurrences : TermOccurrences
  pub stands : StandsInBoth t value prx occurrences

-- a term of a field without positions does, in any bytes
omitted-stands : (t : RuledTerm) (value : TermData) (prx frq : List ℕ) (behind : Cursor) → IsBytes prx → t.rules.omit_tf ≡ true → 2 ≤ t.rules.skip_interval → ReadsTo (frq_term_plan t) (place_in frq t.info.freq) value behind
    → (occurrences : TermOccurrences) × StandsInBoth t value prx occurrences
omitted-stands t value prx frq behind fits omit interval entries =
    let p = posted_term t value in
    let start = place_in prx t.info.prox in
    let read = omitted-read p start omit in (
      read.0,
      record {
        interval = interval;
        frq = frq;
        behind = behind;
        entries = entries;
        end = start;
        reads = reads-read_plan (term_plan p) start read.0 start (IsBytes-drop t.info.prox prx fits) read.1;
        within = λ kept. absurd (let two = sym omit ∙ kept in cc);
      },
    )

module _ (fields : List TableField) (size : ℕ) (d : Dictionary) (frq : List ℕ) (lists : List TermData) (listed : AreListed fields size d frq lists) (n : ℕ) (info : TermInfo) (rules : TermRules) (there : option_map (λ (t : DictionaryTerm). t.info) (slice_get d.terms n) ≡ Some info) (is : rules ≡ rules_for fields size d info) where
  -- what stands in `.frq` of the term
  abbrev pub held : (v : TermData) × (slice_get lists n ≡ Some v) × IsListed frq (ruled_by info rules) v
  held = entries_at fields size d frq lists listed n info rules there is

  -- in a segment without `.prx` its field keeps no positions
  is-omitted : AreOmitted fields d → rules.omit_tf ≡ true
  is-omitted omitted =
      let found = element (λ (t : DictionaryTerm). t.info) (slice_get d.terms n) info there in
      let t = found.0 in
      let here : has_bit bit.omit_tf (bits_at fields t.info.field) ≡ true =
      subst (λ (u : DictionaryTerm). has_bit bit.omit_tf (bits_at fields u.info.field) ≡ true) (get_or_from_slice_get d.terms n t t found.1) (omitted n t (slice_get_within d.terms n t found.1)) in
      ap (λ (r : TermRules). r.omit_tf) is ∙ ap (λ (i : TermInfo). has_bit bit.omit_tf (bits_at fields i.field)) (sym found.2) ∙ here

  pub stands-there : (prx : Option (List ℕ)) → ArePositions fields size d lists prx → StandsThere (ruled_by info rules) held.0 (bytes_if_any prx)
  stands-there None omitted =
      let all = omitted-stands (ruled_by info rules) held.0 [] frq held.2.end IsBytes-nil (is-omitted omitted) held.2.good.interval held.2.reads in
      record { fits = IsBytes-nil; few = omega arith; occurrences = all.0; stands = all.1 }
  stands-there (Some prx) (fits, few, all) =
      let p = all.each n (posted info rules held.0) (posted-at _ lists n (ruled_by info rules) held.0 (ruled_at fields size d n info rules there is) held.1) in
      record { fits = fits; few = few; occurrences = p.2.seen; stands = p.2.stands }

  -- where its field keeps positions, its occurrences are those of the file
  pub stands-kept : (prx : Option (List ℕ)) → ArePositions fields size d lists prx → rules.omit_tf ≡ false → StandsInBoth (ruled_by info rules) held.0 (bytes_if_any prx) (slice_index_or (occurrences_in fields size d lists prx) n [])
  stands-kept None omitted kept = absurd (let two = sym (is-omitted omitted) ∙ kept in cc)
  stands-kept (Some prx) (fits, few, all) kept =
      let p = all.each n (posted info rules held.0) (posted-at _ lists n (ruled_by info rules) held.0 (ruled_at fields size d n info rules there is) held.1) in
      subst (StandsInBoth (ruled_by info rules) held.0 prx) (sym (get_or_from_slice_get (occurrences_in fields size d lists (Some prx)) n p.0 [] p.1)) (p.2.kept kept)

  -- its skip data tell where the positions of its entries start
  pub places-known : (prx : Option (List ℕ)) → AreGoodTerms fields size d → ArePositions fields size d lists prx → HasKnownPlaces info rules frq
  places-known prx good posted =
      let k = stands-there prx posted in
      let places = known_places (ruled_by info rules) held.0 (bytes_if_any prx) k.occurrences k.fits k.stands (used_at fields size d n info good there).1 k.few in
      record { value = held.0; end = held.2.end; reads = held.2.reads; prox = places.0; places = places.1 }

  -- what stands in `.frq` of it is what the file stands for
  pub held-is : (default : TermData) → held.0 ≡ slice_index_or lists n default
  held-is default = sym (get_or_from_slice_get lists n held.0 default held.1)

  pub skips_at : (default : TermData) (s : KnownTerm) → ((value : TermData) (end : Cursor) → ReadsTo (frq_term_plan (ruled_by info rules)) (place_in frq info.freq) value end → s ≡ record { term = ruled_by info rules; value = value })
      → s ≡ record { term = ruled_by info (rules_for fields size d info); value = slice_index_or lists n default }
  skips_at default s answers =
      answers held.0 held.2.end held.2.reads
      ∙ ap (λ (v : TermData). record { term = ruled_by info rules; value = v }) (held-is default)
      ∙ ap (λ (r : TermRules). record { term = ruled_by info r; value = slice_index_or lists n default }) is

  module _ (default : TermData) (prx : Option (List ℕ)) (posted_all : ArePositions fields size d lists prx) (bytes : List ℕ) (bytes_are : bytes ≡ bytes_if_any prx) (point : SkipPoint) (is_point : IsPoint (ruled_by info (rules_for fields size d info)) (slice_index_or lists n default) point) where
    -- a point of the term
    point-here : IsPoint (ruled_by info rules) held.0 point
    point-here = subst (λ (v : TermData). IsPoint (ruled_by info rules) v point) (sym (held-is default)) (subst (λ (r : TermRules). IsPoint (ruled_by info r) (slice_index_or lists n default) point) (sym is) is_point)

    pub point-in : IsPointIn (ruled_by info rules) bytes point
    point-in =
        let k = stands-there prx posted_all in
        record { value = held.0; occurrences = k.occurrences; good = subst (λ (b : List ℕ). StandsInBoth (ruled_by info rules) held.0 b k.occurrences) (sym bytes_are) k.stands; is_point = point-here }

    module _ (c : CursorState) (answers : (value : TermData) (occurrences : TermOccurrences) → StandsInBoth (ruled_by info rules) value bytes occurrences → IsPoint (ruled_by info rules) value point → IsAmong (ruled_by info rules) value occurrences point.passed [] c) where
      -- a cursor that stands there is one over what the files stand for
      among-these : (occurrences : TermOccurrences) → StandsInBoth (ruled_by info rules) held.0 (bytes_if_any prx) occurrences → IsAmong (ruled_by info (rules_for fields size d info)) (slice_index_or lists n default) occurrences point.passed [] c
      among-these occurrences stands =
          let here = answers held.0 occurrences (subst (λ (b : List ℕ). StandsInBoth (ruled_by info rules) held.0 b occurrences) (sym bytes_are) stands) point-here in
          subst (λ (v : TermData). IsAmong (ruled_by info (rules_for fields size d info)) v occurrences point.passed [] c) (held-is default) (subst (λ (r : TermRules). IsAmong (ruled_by info r) held.0 occurrences point.passed [] c) is here)

      pub among-kept : has_bit bit.omit_tf (bits_at fields info.field) ≡ false → IsAmong (ruled_by info (rules_for fields size d info)) (slice_index_or lists n default) (slice_index_or (occurrences_in fields size d lists prx) n []) point.passed [] c
      among-kept kept = among-these (slice_index_or (occurrences_in fields size d lists prx) n []) (stands-kept prx posted_all (ap (λ (r : TermRules). r.omit_tf) is ∙ kept))

      pub among-some : (occurrences : TermOccurrences) × IsAmong (ruled_by info (rules_for fields size d info)) (slice_index_or lists n default) occurrences point.passed [] c
      among-some = let k = stands-there prx posted_all in (k.occurrences, among-these k.occurrences k.stands)
