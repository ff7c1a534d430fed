-- A cursor that opens the document of the entry where it stands, and takes the next occurrence.
use Rattle.std.proofs.Common.{◌≡◌, ℕ, add-one, ◌+◌, ◌-◌, ◌<◌, ◌≤◌, Bool, false, List, [], ◌∷◌, Option, None, refl, sym, ap, subst, ◌∙◌, arith}
use Rattle.std.specs.Prelude.{slice_index_or, MatchOption}
use Rattle.lu_types.specs.Occurrences.{Occurrence}
use Rattle.freq_skips.specs.declared.rules.RuledTerm.{RuledTerm}
use Rattle.freq_skips.specs.declared.entry.Entry.{Entry}
use Rattle.freq_skips.specs.declared.skip_point.SkipPoint.{SkipPoint}
use Rattle.freq_skips.specs.Entries.{entry_of}
use Rattle.freq_skips.specs.Terms.{TermData}
use Rattle.freq_skips.specs.Points.{KnownTerm}
use Rattle.positions.specs.Occurrences.{count_at}
use Rattle.positions.specs.Standing.{count_before}
use Rattle.positions.specs.Cursors.{CursorState, posted_term, IsAmong}
use Rattle.positions.specs.declared.occurrences.Occ.{Occ}
use Rattle.positions.specs.Views.{occurrence_seen}
use Rattle.positions.proofs.FrequencyLemmas.{count_at-kept}
use Rattle.check_index.specs.Positions.{TermOccurrences}
use Rattle.seg_reader.specs.declared.scan.Scan.{Scan}
use Rattle.seg_reader.specs.declared.beside.Beside.{Beside}
use Rattle.seg_reader.specs.declared.place.Place.{Place}
use Rattle.seg_reader.specs.declared.place.Place.TheVariants.{At, Within}
use Rattle.seg_reader.specs.Postings.{PostingsWalk}
use Rattle.seg_reader.specs.InnerScan.{posting_in}
use Rattle.seg_reader.specs.InnerBeside.{CanJump, occurrences_read, IsBeside}
use Rattle.seg_reader.specs.InnerCursor.{walk_at, AreTogether}
use Rattle.seg_reader.proofs.BesideLemmas.{can-jump, count_before-rises}
use Rattle.seg_reader.proofs.EntriesSeen.{occurrences_read-is}
use Rattle.seg_reader.proofs.TogetherLemmas.{together-good}
use Rattle.seg_reader.proofs.OccurrenceLemmas.{inside, kept-here, left-open, taken, taken-among}

-- what opening the document of an entry answers
abbrev pub Opens : ℕ → ℕ → Beside → CursorState → Type 0
Opens between freq b c = (t : RuledTerm) (value : TermData) (all : TermOccurrences) (entry : ℕ) → IsBeside t value all entry (entry + 1) between b → t.rules.omit_tf ≡ false → entry < t.info.doc_freq
    → freq ≡ count_at (posted_term t value) entry → IsAmong t value all (entry + 1) (slice_index_or all entry []) c

-- what the next occurrence is
abbrev pub Takes : CursorState → CursorState → Option Occ → Type 0
Takes old new r = (t : RuledTerm) (value : TermData) (all : TermOccurrences) (passed : ℕ) (left : List Occurrence) → IsAmong t value all passed left old
    → MatchOption r ((left ≡ []) × IsAmong t value all passed [] new) (λ (o : Occ). (rest : List Occurrence) × (left ≡ occurrence_seen o ∷ rest) × IsAmong t value all passed rest new)

-- the walk that is left
abbrev pub IsTaken : PostingsWalk → PostingsWalk → Option Occ → Type 0
IsTaken w new r = MatchOption r ((w.left ≡ []) × (new ≡ w)) (λ (o : Occ). (w.left ≡ occurrence_seen o ∷ new.left) × (new ≡ record w { left = new.left }))

module _ (s : Scan) (k : KnownTerm) (b : Beside) (flag : Bool) (kept_flag : flag ≡ false) where
  abbrev t : RuledTerm
  t = s.entries.term

  abbrev value : TermData
  value = s.entries.value

  abbrev all : TermOccurrences
  all = occurrences_read t value b.occurrences.prx

  -- a cursor that stands among the occurrences of the entry with an index, in a document that is open
  module _ (stand : Place) (h : AreTogether s k b stand flag) (e : Entry) (index : ℕ) (passed : s.passed ≡ index + 1) (entry : e ≡ entry_of (posting_in value index)) where
    kept : t.rules.omit_tf ≡ false
    kept = sym h.omits ∙ kept_flag

    pub together-open : (n : ℕ) (c : Beside) (rest : List Occurrence) → n ≡ 0 → IsAmong t value all (index + 1) rest c.occurrences → c.ahead ≡ None → AreTogether (record s { between = n }) k c (Within e) flag
    together-open n c rest none among settled = record {
      scan = record { order = h.scan.order; passed = h.scan.passed; within = h.scan.within; asked = h.scan.asked; few = omega (arith, none) };
      skips = h.skips;
      omits = h.omits;
      interval = h.interval;
      levels = h.levels;
      place = (index, passed, entry, kept);
      beside = λ _. record {
        left = rest;
        among = subst (λ (m : ℕ). IsAmong t value (occurrences_read t value c.occurrences.prx) m rest c.occurrences) (sym passed)
            (subst (λ (o : TermOccurrences). IsAmong t value o (index + 1) rest c.occurrences) (sym (occurrences_read-is t value c.occurrences.prx all among.good)) among);
        settled = settled;
        none = none;
      };
    }

    -- the entry's frequency
    freq-is : e.freq ≡ count_at (posted_term t value) index
    freq-is = ap (λ (x : Entry). x.freq) entry ∙ sym (count_at-kept (posted_term t value) index kept)

  module _ (e : Entry) (h : AreTogether s k b (At e) flag) where
    index : ℕ
    index = let place = h.place in place.0

    passed : s.passed ≡ index + 1
    unfolding index
    passed = let place = h.place in place.1

    entry : e ≡ entry_of (posting_in value index)
    unfolding index
    entry = let place = h.place in place.2

    omit : t.rules.omit_tf ≡ false
    omit = sym h.omits ∙ kept_flag

    pub can-open : CanJump b.ahead b.occurrences
    can-open = let beside = h.beside omit in can-jump t value all beside.passed b.ahead b.occurrences beside.leads

    pub counted : e.freq ≤ s.between
    counted =
        let beside = h.beside omit in
        let within = beside.within in
        let rises = count_before-rises t value beside.passed index (omega (arith, within, passed)) in
        let next : count_before (posted_term t value) s.passed ≡ count_before (posted_term t value) index + count_at (posted_term t value) index =
        ap (count_before (posted_term t value)) (passed ∙ add-one index) in
        omega (arith, rises, next, beside.counts, freq-is (At e) h e index passed entry)

    among-open : (c : CursorState) → Opens s.between e.freq b c → IsAmong t value all (index + 1) (slice_index_or all index []) c
    among-open c opens =
        let beside = h.beside omit in
        let reach : s.passed - 1 ≡ index = omega (arith, passed) in
        let here = subst (λ (m : ℕ). IsBeside t value all m (index + 1) s.between b) reach (subst (λ (m : ℕ). IsBeside t value all (s.passed - 1) m s.between b) passed beside) in
        opens t value all index here omit (inside s b index h.scan passed) (freq-is (At e) h e index passed entry)

    pub together-at : (c new : CursorState) (ahead : Option SkipPoint) (r : Option Occ) → Opens s.between e.freq b c → Takes c new r → ahead ≡ None → AreTogether (record s { between = 0 }) k (record { occurrences = new; ahead = ahead }) (Within e) flag
    together-at c new ahead r opens takes settled =
        let left = slice_index_or all index [] in
        let good = together-good s k b (At e) flag h omit in
        let rest = taken-among s b index h.scan passed omit good left new r (takes t value all (index + 1) left (among-open c opens)) in
        together-open (At e) h e index passed entry 0 (record { occurrences = new; ahead = ahead }) rest.0 refl rest.1 settled

    pub taken-at : (c new : CursorState) (ahead : Option SkipPoint) (r : Option Occ) → Opens s.between e.freq b c → Takes c new r → IsTaken (walk_at s b (At e)) (walk_at s (record { occurrences = new; ahead = ahead }) (Within e)) r
    taken-at c new ahead r opens takes =
        let left = slice_index_or all index [] in
        let good = together-good s k b (At e) flag h omit in
        taken s b index h.scan passed omit good e (walk_at s b (At e)) refl left (record { occurrences = new; ahead = ahead }) r (kept-here s b index h.scan passed omit good) (takes t value all (index + 1) left (among-open c opens))

  module _ (e : Entry) (h : AreTogether s k b (Within e) flag) where
    here : ℕ
    here = let place = h.place in place.0

    at_here : s.passed ≡ here + 1
    unfolding here
    at_here = let place = h.place in place.1

    of_here : e ≡ entry_of (posting_in value here)
    unfolding here
    of_here = let place = h.place in place.2

    keeps : t.rules.omit_tf ≡ false
    keeps = sym h.omits ∙ kept_flag

    among-here : (left : List Occurrence) × IsAmong t value all (here + 1) left b.occurrences
    among-here = let beside = h.beside keeps in (beside.left, subst (λ (m : ℕ). IsAmong t value all m beside.left b.occurrences) at_here beside.among)

    pub together-within : (new : CursorState) (r : Option Occ) → Takes b.occurrences new r → AreTogether s k (record { occurrences = new; ahead = b.ahead }) (Within e) flag
    together-within new r takes =
        let good = together-good s k b (Within e) flag h keeps in
        let rest = taken-among s b here h.scan at_here keeps good among-here.0 new r (takes t value all (here + 1) among-here.0 among-here.1) in
        let beside = h.beside keeps in
        together-open (Within e) h e here at_here of_here s.between (record { occurrences = new; ahead = b.ahead }) rest.0 beside.none rest.1 beside.settled

    pub taken-within : (new : CursorState) (r : Option Occ) → Takes b.occurrences new r → IsTaken (walk_at s b (Within e)) (walk_at s (record { occurrences = new; ahead = b.ahead }) (Within e)) r
    taken-within new r takes =
        let good = together-good s k b (Within e) flag h keeps in
        taken s b here h.scan at_here keeps good e (walk_at s b (Within e)) refl among-here.0 (record { occurrences = new; ahead = b.ahead }) r (left-open s b here h.scan at_here keeps good among-here.0 b.occurrences among-here.1) (takes t value all (here + 1) among-here.0 among-here.1)
