-- The frequency and the occurrences of the entry where a cursor stands.
use Rattle.std.proofs.Common.{◌≡◌, ℕ, ◌+◌, ◌-◌, ◌<◌, Bool, true, false, List, [], ◌∷◌, length, drop, Option, Some, None, refl, sym, ap, subst, ◌∙◌, arith}
use Rattle.std.specs.Prelude.{slice_index_or, MatchOption}
use Rattle.lu_types.specs.Occurrences.{Occurrence}
use Rattle.lu_model.specs.Index.{omitted, IndexedEntry, frequency}
use Rattle.freq_skips.specs.declared.rules.RuledTerm.{RuledTerm}
use Rattle.freq_skips.specs.declared.entry.Entry.{Entry}
use Rattle.freq_skips.specs.Entries.{entry_of}
use Rattle.freq_skips.specs.Terms.{TermData}
use Rattle.freq_skips.specs.Points.{KnownTerm}
use Rattle.positions.specs.Occurrences.{count_at}
use Rattle.positions.specs.Cursors.{CursorState, posted_term, StandsInBoth, IsAmong}
use Rattle.positions.specs.declared.occurrences.Occ.{Occ}
use Rattle.positions.specs.Views.{occurrence_seen}
use Rattle.positions.proofs.FrequencyLemmas.{count_at-kept}
use Rattle.check_index.specs.Positions.{TermOccurrences}
use Rattle.seg_reader.specs.declared.scan.Scan.{Scan}
use Rattle.seg_reader.specs.declared.beside.Beside.{Beside}
use Rattle.seg_reader.specs.declared.place.Place.{Place}
use Rattle.seg_reader.specs.declared.place.Place.TheVariants.{Start, At, Within, End}
use Rattle.seg_reader.specs.Postings.{PostingsWalk, occurrences_kept}
use Rattle.seg_reader.specs.InnerScan.{posting_in, IsScan}
use Rattle.seg_reader.specs.InnerBeside.{occurrences_read}
use Rattle.seg_reader.specs.InnerCursor.{entry_in, entries_kept, entries_seen, here_at, last_so_many, walk_at, AreTogether}
use Rattle.seg_reader.proofs.EntriesSeen.{given_entry, occurrences_read-is, occurrences-length, entry-given, entry-omitted}
use Rattle.seg_reader.proofs.TogetherLemmas.{together-good}

-- the last so many of a list of which some are dropped
last-dropped : (xs left : List Occurrence) (count n : ℕ) → drop count xs ≡ left → n ≡ length left → count + length left ≡ length xs → last_so_many n xs ≡ left
last-dropped xs left count n is size sum = ap (λ (k : ℕ). drop k xs) (let k : length xs - n ≡ count = omega (arith, size, sum) in k) ∙ is

none-last : (xs : List Occurrence) (n : ℕ) → n ≡ 0 → last_so_many n xs ≡ []
none-last xs n is = ap (λ (k : ℕ). drop k xs) (let k : length xs - n ≡ length xs = omega (arith, is) in k) ∙ go xs
  where
    go : (xs : List Occurrence) → drop (length xs) xs ≡ []
    go [] = refl
    go (x ∷ xs) = go xs

-- those that a cursor has left of the open document
left-among : (t : RuledTerm) (value : TermData) (all : TermOccurrences) (index : ℕ) (left : List Occurrence) (c : CursorState) → t.rules.omit_tf ≡ false → index < t.info.doc_freq → IsAmong t value all (index + 1) left c
    → last_so_many c.left (slice_index_or all index []) ≡ left
left-among t value all index [] c kept lt h = none-last (slice_index_or all index []) c.left h.count
left-among t value all index (o ∷ os) c kept lt h =
    let s = h.stands in
    let here : s.entry ≡ index = omega (arith, s.passed_is) in
    let is : drop s.count (slice_index_or all index []) ≡ o ∷ os = subst (λ (n : ℕ). drop s.count (slice_index_or all n []) ≡ o ∷ os) here s.left_is in
    let due : s.count + length (o ∷ os) ≡ count_at (posted_term t value) index = subst (λ (n : ℕ). s.count + length (o ∷ os) ≡ count_at (posted_term t value) n) here s.due in
    last-dropped (slice_index_or all index []) (o ∷ os) s.count c.left is h.count (due ∙ sym (occurrences-length t value c.prx all h.good kept index lt))

-- a cursor at the entry with an index, in a field that keeps occurrences
module _ (s : Scan) (b : Beside) (index : ℕ) (scan : IsScan s) (passed : s.passed ≡ index + 1) where
  abbrev t : RuledTerm
  t = s.entries.term

  abbrev value : TermData
  value = s.entries.value

  abbrev all : TermOccurrences
  all = occurrences_read t value b.occurrences.prx

  pub inside : index < t.info.doc_freq
  inside = let within = scan.within in omega (arith, within, passed)

  before-last : s.passed - 1 ≡ index
  before-last = omega (arith, passed)

  -- the entry that was read last, where the field omits occurrences
  pub omitted-here : t.rules.omit_tf ≡ true → (entry_in (entries_seen t value b.occurrences.prx) (s.passed - 1)).occurrences ≡ omitted
  omitted-here omit = ap (λ (n : ℕ). (entry_in (entries_seen t value b.occurrences.prx) n).occurrences) before-last ∙ ap (λ (x : IndexedEntry). x.occurrences) (entry-omitted t value b.occurrences.prx scan.order omit index inside)

  module _ (kept : t.rules.omit_tf ≡ false) (good : StandsInBoth t value b.occurrences.prx all) where
    entry-here : entry_in (entries_seen t value b.occurrences.prx) (s.passed - 1) ≡ given_entry (posting_in value index) (slice_index_or all index [])
    entry-here = ap (entry_in (entries_seen t value b.occurrences.prx)) before-last ∙ entry-given t value b.occurrences.prx scan.order good kept index inside

    pub frequency-here : frequency (entry_in (entries_seen t value b.occurrences.prx) (s.passed - 1)).occurrences ≡ (posting_in value index).freq
    frequency-here =
        ap (λ (x : IndexedEntry). frequency x.occurrences) entry-here
        ∙ occurrences-length t value b.occurrences.prx all good kept index inside
        ∙ count_at-kept (posted_term t value) index kept

    pub kept-here : occurrences_kept (entry_in (entries_seen t value b.occurrences.prx) (s.passed - 1)).occurrences ≡ slice_index_or all index []
    kept-here = ap (λ (x : IndexedEntry). occurrences_kept x.occurrences) entry-here

    -- the same entries, by a cursor that stands among them
    entries-same : (left : List Occurrence) (c : CursorState) → IsAmong t value all (index + 1) left c → entries_seen t value c.prx ≡ entries_seen t value b.occurrences.prx
    entries-same left c among = ap (entries_kept t.rules.omit_tf value.postings) (occurrences_read-is t value c.prx all among.good)

    pub left-open : (left : List Occurrence) (c : CursorState) → IsAmong t value all (index + 1) left c → last_so_many c.left (occurrences_kept (entry_in (entries_seen t value c.prx) (s.passed - 1)).occurrences) ≡ left
    left-open left c among =
        ap (λ (es : List IndexedEntry). last_so_many c.left (occurrences_kept (entry_in es (s.passed - 1)).occurrences)) (entries-same left c among)
        ∙ ap (last_so_many c.left) kept-here
        ∙ left-among t value all index left c kept inside among

    module _ (e : Entry) (w : PostingsWalk) (is : w ≡ record (walk_at s b (At e)) { left = w.left }) where
      -- the walk over these entries, with these occurrences left
      abbrev made : List Occurrence → List IndexedEntry → PostingsWalk
      made l es = record (walk_at s b (At e)) { entries = es; here = Some (entry_in es (s.passed - 1)); left = l }

      walk-open : (left : List Occurrence) (c : Beside) → IsAmong t value all (index + 1) left c.occurrences → walk_at s c (Within e) ≡ record w { left = left }
      walk-open left c among =
          ap (λ (l : List Occurrence). record (walk_at s c (At e)) { left = l }) (left-open left c.occurrences among)
          ∙ ap (made left) (entries-same left c.occurrences among)
          ∙ ap (λ (u : PostingsWalk). record u { left = left }) (sym is)

      -- what the next occurrence is, of those that are left
      pub taken : (left : List Occurrence) (c : Beside) (r : Option Occ) → w.left ≡ left
          → MatchOption r ((left ≡ []) × IsAmong t value all (index + 1) [] c.occurrences) (λ (o : Occ). (rest : List Occurrence) × (left ≡ occurrence_seen o ∷ rest) × IsAmong t value all (index + 1) rest c.occurrences)
          → MatchOption r ((w.left ≡ []) × (walk_at s c (Within e) ≡ w)) (λ (o : Occ). (w.left ≡ occurrence_seen o ∷ (walk_at s c (Within e)).left) × (walk_at s c (Within e) ≡ record w { left = (walk_at s c (Within e)).left }))
      taken left c None same (none, among) =
          let empty = same ∙ none in
          (empty, walk-open [] c among ∙ ap (λ (l : List Occurrence). record w { left = l }) (sym empty))
      taken left c (Some o) same (rest, first, among) =
          let opened = walk-open rest c among in
          let new : (walk_at s c (Within e)).left ≡ rest = ap (λ (u : PostingsWalk). u.left) opened in
          (same ∙ first ∙ ap (λ (l : List Occurrence). occurrence_seen o ∷ l) (sym new), opened ∙ ap (λ (l : List Occurrence). record w { left = l }) (sym new))

    -- where the cursor stands then
    pub taken-among : (left : List Occurrence) (c : CursorState) (r : Option Occ)
        → MatchOption r ((left ≡ []) × IsAmong t value all (index + 1) [] c) (λ (o : Occ). (rest : List Occurrence) × (left ≡ occurrence_seen o ∷ rest) × IsAmong t value all (index + 1) rest c) → (rest : List Occurrence) × IsAmong t value all (index + 1) rest c
    taken-among left c None (none, among) = ([], among)
    taken-among left c (Some o) (rest, first, among) = (rest, among)

-- ---- the frequency

abbrev some : IndexedEntry → Option IndexedEntry
some x = Some x

module _ (s : Scan) (k : KnownTerm) (b : Beside) (flag : Bool) where
  abbrev seen : List IndexedEntry
  seen = entries_seen s.entries.term s.entries.value b.occurrences.prx

  same-frequency : (n : ℕ) (y x : IndexedEntry) → n ≡ frequency y.occurrences → some y ≡ some x → n ≡ frequency x.occurrences
  same-frequency n y x is same = let one : y ≡ x = cc in is ∙ ap (λ (z : IndexedEntry). frequency z.occurrences) one

  pub frequency-omitted : (stand : Place) → AreTogether s k b stand flag → flag ≡ true → (x : IndexedEntry) → here_at seen s.passed stand ≡ Some x → 1 ≡ frequency x.occurrences
  frequency-omitted Start h omit x is = absurd (cc)
  frequency-omitted (At e) h omit x is =
      let place = h.place in
      same-frequency 1 (entry_in seen (s.passed - 1)) x (sym (ap frequency (omitted-here s b place.0 h.scan place.1 (sym h.omits ∙ omit)))) is
  frequency-omitted (Within e) h omit x is = absurd (let kept = h.place.3 in let flag_is = h.omits in cc)
  frequency-omitted End h omit x is = absurd (cc)

  frequency-given : (stand : Place) (e : Entry) → AreTogether s k b stand flag → flag ≡ false → (place : (index : ℕ) × (s.passed ≡ index + 1) × (e ≡ entry_of (posting_in s.entries.value index))) → (x : IndexedEntry) → some (entry_in seen (s.passed - 1)) ≡ some x → e.freq ≡ frequency x.occurrences
  frequency-given stand e h kept (index, passed, entry) x is =
      let no_omit = sym h.omits ∙ kept in
      same-frequency e.freq (entry_in seen (s.passed - 1)) x (ap (λ (y : Entry). y.freq) entry ∙ sym (frequency-here s b index h.scan passed no_omit (together-good s k b stand flag h no_omit))) is

  pub frequency-at : (e : Entry) → AreTogether s k b (At e) flag → flag ≡ false → (x : IndexedEntry) → here_at seen s.passed (At e) ≡ Some x → e.freq ≡ frequency x.occurrences
  frequency-at e h kept x is = frequency-given (At e) e h kept h.place x is

  pub frequency-within : (e : Entry) → AreTogether s k b (Within e) flag → flag ≡ false → (x : IndexedEntry) → here_at seen s.passed (Within e) ≡ Some x → e.freq ≡ frequency x.occurrences
  frequency-within e h kept x is = let place = h.place in frequency-given (Within e) e h kept (place.0, place.1, place.2) x is
