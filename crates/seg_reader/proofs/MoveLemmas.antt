-- A cursor that has moved on to an answer, or to the end.
use Rattle.std.proofs.Common.{◌≡◌, ℕ, ◌+◌, ◌-◌, ◌<◌, ◌≤◌, Bool, true, false, List, Option, Some, None, inl, inr, refl, sym, ap, subst, ◌∙◌, arith}
use Rattle.std.specs.Prelude.{option_map}
use Rattle.std.proofs.lemmas.Bool.{cases_lt}
use Rattle.lu_model.specs.Index.{IndexedEntry}
use Rattle.freq_skips.specs.declared.rules.RuledTerm.{RuledTerm}
use Rattle.freq_skips.specs.declared.entry.Entry.{Entry}
use Rattle.freq_skips.specs.Entries.{entry_of}
use Rattle.freq_skips.specs.Terms.{TermData}
use Rattle.freq_skips.specs.Points.{KnownTerm, most_steps}
use Rattle.positions.specs.Occurrences.{PostedTerm}
use Rattle.positions.specs.Standing.{count_before}
use Rattle.positions.specs.Cursors.{CursorState, posted_term}
use Rattle.seg_reader.specs.declared.scan.Scan.{Scan}
use Rattle.seg_reader.specs.declared.beside.Beside.{Beside}
use Rattle.seg_reader.specs.declared.place.Place.{Place}
use Rattle.seg_reader.specs.declared.place.Place.TheVariants.{At, End}
use Rattle.seg_reader.specs.Postings.{PostingsWalk, occurrences_kept, next_entry, answered, most_steps_to}
use Rattle.seg_reader.specs.InnerScan.{posting_in, may_stop, IsScan, HasRead, ArePassed, IsFound, IsEnded}
use Rattle.seg_reader.specs.InnerBeside.{occurrences_read, IsBeside}
use Rattle.seg_reader.specs.InnerCursor.{entry_in, entries_seen, from_at, here_at, left_at, walk_at, AreTogether}
use Rattle.seg_reader.proofs.EntriesSeen.{AreSeen}
use Rattle.seg_reader.proofs.AnswerLemmas.{StandsBehind, IsNextAt, HasNoNext, next_entry-first, next_entry-none}
use Rattle.seg_reader.proofs.StepLemmas.{IsNear, steps-first, steps-none}
use Rattle.seg_reader.proofs.TogetherLemmas.{all_read, together-seen, stands-behind}

-- a scan over these entries
abbrev scan_of : RuledTerm → TermData → Scan → Scan
scan_of t value s = record { entries = record { term = t; value = value; passed = s.entries.passed }; live = s.live; passed = s.passed; between = s.between }

-- a scan has gone on over entries none of which may be answered
pub record HasSkipped (target : ℕ) (old new : Scan) : Type 0 where
  pub term : new.entries.term ≡ old.entries.term
  pub value : new.entries.value ≡ old.entries.value
  pub hidden : new.live.documents ≡ old.live.documents
  pub grows : old.passed ≤ new.passed
  pub skipped : ArePassed old target old.passed new.passed

pub HasSkipped-none : (target : ℕ) (s : Scan) → HasSkipped target s s
HasSkipped-none target s = record { term = refl; value = refl; hidden = refl; grows = omega arith; skipped = record { none = λ i low lt. absurd (omega (arith, low, lt)) } }

-- a walk by its parts
abbrev walk_with : RuledTerm → TermData → CursorState → List ℕ → ℕ → Place → PostingsWalk
walk_with t value c hidden passed stand = record {
  entries = entries_seen t value c.prx;
  hidden = hidden;
  from = from_at t.rules.documents stand;
  here = here_at (entries_seen t value c.prx) passed stand;
  left = left_at (entries_seen t value c.prx) passed c.left stand;
  size = t.rules.documents;
  search = most_steps t;
  interval = t.rules.skip_interval;
}

-- a cursor, which has skipped entries, and read more
pub record HasMoved (s : Scan) (k : KnownTerm) (b : Beside) (stand : Place) (flag : Bool) (target : ℕ) (mid new : Scan) (c : Beside) : Type 0 where
  pub together : AreTogether s k b stand flag
  pub skipped : HasSkipped target s mid
  pub read : HasRead mid new
  pub scan : IsScan new
  pub same : c.occurrences ≡ b.occurrences
  pub beside : s.entries.term.rules.omit_tf ≡ false → IsBeside s.entries.term s.entries.value (all_read s k b stand flag together) mid.passed mid.passed mid.between c

module _ (s : Scan) (k : KnownTerm) (b : Beside) (stand : Place) (flag : Bool) (target : ℕ) (mid new : Scan) (c : Beside) (m : HasMoved s k b stand flag target mid new c) where
  abbrev t : RuledTerm
  t = s.entries.term

  abbrev value : TermData
  value = s.entries.value

  abbrev w : PostingsWalk
  w = walk_at s b stand

  seen : AreSeen t value w.entries
  seen = together-seen s k b stand flag m.together

  pub stands : StandsBehind w s.passed
  stands = stands-behind s k b stand flag m.together

  term-same : new.entries.term ≡ t
  term-same = m.read.term ∙ m.skipped.term

  value-same : new.entries.value ≡ value
  value-same = m.read.value ∙ m.skipped.value

  new-same : new ≡ scan_of t value new
  new-same = ap (λ (u : RuledTerm). scan_of u new.entries.value new) term-same ∙ ap (λ (v : TermData). scan_of t v new) value-same

  -- the test of an entry
  test-at : (i : ℕ) (r : Bool) → i < t.info.doc_freq → may_stop mid.live.documents target (posting_in mid.entries.value i).doc ≡ r → may_stop w.hidden target (entry_in w.entries i).document ≡ r
  test-at i r lt e =
      ap (λ (d : ℕ). may_stop w.hidden target d) (seen.documents i lt)
      ∙ ap (λ (v : TermData). may_stop w.hidden target (posting_in v i).doc) (sym m.skipped.value)
      ∙ ap (λ (h : List ℕ). may_stop h target (posting_in mid.entries.value i).doc) (sym m.skipped.hidden)
      ∙ e

  -- none up to where the last was tested
  none-upto : (end : ℕ) → end ≤ t.info.doc_freq → ArePassed mid target mid.passed end → (i : ℕ) → s.passed ≤ i → i < end → may_stop w.hidden target (entry_in w.entries i).document ≡ false
  none-upto end le passed i low lt = elim (cases_lt i mid.passed) [
    | inl skipped ↦ ap (λ (d : ℕ). may_stop w.hidden target d) (seen.documents i (omega (arith, lt, le))) ∙ m.skipped.skipped.none i low skipped
    | inr read ↦ test-at i false (omega (arith, lt, le)) (passed.none i read lt)
  ]

  -- the entries are the term's
  within-new : new.passed ≤ t.info.doc_freq
  within-new = let le = m.scan.within in omega (arith, le, ap (λ (u : RuledTerm). u.info.doc_freq) term-same)

  doc_freq-mid : mid.entries.term.info.doc_freq ≡ t.info.doc_freq
  doc_freq-mid = ap (λ (u : RuledTerm). u.info.doc_freq) m.skipped.term

  together-with : (next : Place) → AreTogether (scan_of t value new) k c next flag → AreTogether new k c next flag
  together-with next h = subst (λ (x : Scan). AreTogether x k c next flag) (sym new-same) h

  scan-with : IsScan (scan_of t value new)
  scan-with = subst IsScan new-same m.scan

  -- the occurrences up to the entry that was read last are counted
  beside-new : (reach : ℕ) → mid.passed ≤ reach → t.rules.omit_tf ≡ false → IsBeside t value (occurrences_read t value c.occurrences.prx) reach new.passed new.between c
  beside-new reach le kept =
      let h = m.beside kept in
      let p = posted_term t value in
      let same : posted_term mid.entries.term mid.entries.value ≡ p = ap (λ (u : RuledTerm). posted_term u mid.entries.value) m.skipped.term ∙ ap (λ (v : TermData). posted_term t v) m.skipped.value in
      let more = m.read.counts (ap (λ (u : RuledTerm). u.rules.omit_tf) m.skipped.term ∙ kept) in
      let counts : count_before p new.passed + mid.between ≡ count_before p mid.passed + new.between =
      subst (λ (q : PostedTerm). count_before q new.passed + mid.between ≡ count_before q mid.passed + new.between) same more in
      let within = h.within in
      subst (λ (o : CursorState). IsBeside t value (occurrences_read t value o.prx) reach new.passed new.between c) (sym m.same) (record {
        passed = h.passed;
        leads = h.leads;
        within = omega (arith, within, le);
        counts = omega (arith, counts, h.counts);
      })

  -- ---- an entry was found

  module _ (e : Entry) (f : IsFound target mid new e) where
    pub next-found : IsNextAt w target s.passed f.index
    next-found =
        let far = m.skipped.grows in
        let from = f.from in
        let here : f.index < t.info.doc_freq = omega (arith, f.last, within-new) in
        record {
          within = omega (arith, here, seen.count);
          from = omega (arith, far, from);
          stops = test-at f.index true here (ap (λ (h : List ℕ). may_stop h target (posting_in mid.entries.value f.index).doc) refl ∙ f.stops);
          none = none-upto f.index (omega (arith, here)) f.passed;
        }

    entry-found : next_entry w target ≡ Some (entry_in w.entries f.index)
    entry-found = next_entry-first w target s.passed stands f.index next-found

    doc-found : e.doc ≡ (entry_in w.entries f.index).document
    doc-found =
        let here : f.index < t.info.doc_freq = omega (arith, f.last, within-new) in
        ap (λ (x : Entry). x.doc) f.entry ∙ ap (λ (v : TermData). (posting_in v f.index).doc) m.skipped.value ∙ sym (seen.documents f.index here)

    pub document-found : Some e.doc ≡ option_map (λ (x : IndexedEntry). x.document) (next_entry w target)
    document-found = ap (λ (d : ℕ). some d) doc-found ∙ ap (option_map (λ (x : IndexedEntry). x.document)) (sym entry-found)
      where
        some : ℕ → Option ℕ
        some d = Some d

    -- the walk at the entry with an index, of a document
    abbrev made : ℕ → ℕ → PostingsWalk
    made d n = record w { from = d + 1; here = Some (entry_in w.entries n); left = occurrences_kept (entry_in w.entries n).occurrences }

    pub walk-at : walk_at new c (At e) ≡ answered w (Some (entry_in w.entries f.index))
    walk-at =
        ap (λ (u : RuledTerm). walk_with u new.entries.value c.occurrences new.live.documents new.passed (At e)) term-same
        ∙ ap (λ (v : TermData). walk_with t v c.occurrences new.live.documents new.passed (At e)) value-same
        ∙ ap (λ (o : CursorState). walk_with t value o new.live.documents new.passed (At e)) m.same
        ∙ ap (λ (h : List ℕ). walk_with t value b.occurrences h new.passed (At e)) (m.read.hidden ∙ m.skipped.hidden)
        ∙ ap (λ (d : ℕ). made d (new.passed - 1)) doc-found
        ∙ ap (made (entry_in w.entries f.index).document) (let n : new.passed - 1 ≡ f.index = omega (arith, f.last) in n)

    pub walk-found : walk_at new c (At e) ≡ answered w (next_entry w target)
    walk-found = walk-at ∙ ap (answered w) (sym entry-found)

    pub together-found : AreTogether new k c (At e) flag
    together-found = together-with (At e) (record {
      scan = scan-with;
      skips = m.together.skips;
      omits = m.together.omits;
      interval = m.together.interval;
      levels = m.together.levels;
      place = (f.index, omega (arith, f.last), f.entry ∙ ap (λ (v : TermData). entry_of (posting_in v f.index)) m.skipped.value);
      beside = beside-new (new.passed - 1) (let from = f.from in omega (arith, f.last, from));
    })

    pub bound-found : (begun found read : ℕ) → IsNear w target mid.passed → found ≤ begun + w.search → read + mid.passed ≤ found + new.passed → read ≤ begun + most_steps_to w target
    bound-found begun found read near le steps =
        let grows = m.skipped.grows in
        let count = steps-first w target s.passed mid.passed stands grows near f.index next-found in
        omega (arith, count, le, steps, f.last)

  -- ---- none was found

  module _ (f : IsEnded target mid new) where
    pub next-none : HasNoNext w target s.passed
    next-none = record { none = λ i low lt. none-upto t.info.doc_freq (omega arith) passed i low (omega (arith, lt, seen.count)) }
      where
        passed : ArePassed mid target mid.passed t.info.doc_freq
        passed = subst (ArePassed mid target mid.passed) doc_freq-mid f.passed

    entry-none : next_entry w target ≡ None
    entry-none = next_entry-none w target s.passed stands next-none

    pub document-none : None ≡ option_map (λ (x : IndexedEntry). x.document) (next_entry w target)
    document-none = ap (option_map (λ (x : IndexedEntry). x.document)) (sym entry-none)

    pub walk-end : walk_at new c End ≡ answered w None
    walk-end =
        ap (λ (u : RuledTerm). walk_with u new.entries.value c.occurrences new.live.documents new.passed End) term-same
        ∙ ap (λ (v : TermData). walk_with t v c.occurrences new.live.documents new.passed End) value-same
        ∙ ap (λ (o : CursorState). walk_with t value o new.live.documents new.passed End) m.same
        ∙ ap (λ (h : List ℕ). walk_with t value b.occurrences h new.passed End) (m.read.hidden ∙ m.skipped.hidden)

    pub walk-none : walk_at new c End ≡ answered w (next_entry w target)
    walk-none = walk-end ∙ ap (answered w) (sym entry-none)

    pub together-none : AreTogether new k c End flag
    together-none = together-with End (record {
      scan = scan-with;
      skips = m.together.skips;
      omits = m.together.omits;
      interval = m.together.interval;
      levels = m.together.levels;
      place = f.last ∙ doc_freq-mid;
      beside = beside-new new.passed m.read.grows;
    })

    pub bound-none : (begun found read : ℕ) → IsNear w target mid.passed → found ≤ begun + w.search → read + mid.passed ≤ found + new.passed + 1 → read ≤ begun + most_steps_to w target
    bound-none begun found read near le steps =
        let grows = m.skipped.grows in
        let count = steps-none w target s.passed mid.passed stands grows near next-none in
        omega (arith, count, le, steps, f.last, doc_freq-mid, seen.count)
