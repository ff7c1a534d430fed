-- Where a cursor stands among its entries.
use Rattle.std.proofs.Common.{◌≡◌, ℕ, ◌+◌, ◌-◌, ◌<◌, ◌≤◌, Bool, false, Option, inl, inr, refl, sym, ap, subst, arith}
use Rattle.std.proofs.lemmas.Bool.{cases_lt}
use Rattle.freq_skips.specs.declared.rules.RuledTerm.{RuledTerm}
use Rattle.freq_skips.specs.declared.entry.Entry.{Entry}
use Rattle.freq_skips.specs.declared.skip_point.SkipPoint.{SkipPoint}
use Rattle.freq_skips.specs.Entries.{entry_of}
use Rattle.freq_skips.specs.Terms.{TermData}
use Rattle.freq_skips.specs.Points.{KnownTerm}
use Rattle.positions.specs.Cursors.{StandsInBoth}
use Rattle.check_index.specs.Positions.{TermOccurrences}
use Rattle.seg_reader.specs.declared.scan.Scan.{Scan}
use Rattle.seg_reader.specs.declared.beside.Beside.{Beside}
use Rattle.seg_reader.specs.declared.place.Place.{Place}
use Rattle.seg_reader.specs.declared.place.Place.TheVariants.{Start, At, Within, End}
use Rattle.seg_reader.specs.InnerScan.{posting_in, IsScan}
use Rattle.seg_reader.specs.InnerBeside.{LeadsTo, occurrences_read, IsBeside}
use Rattle.seg_reader.specs.InnerCursor.{entries_seen, from_at, walk_at, IsPlace, StandsBeside, AreTogether}
use Rattle.seg_reader.proofs.BesideLemmas.{leads-among}
use Rattle.seg_reader.proofs.EntriesSeen.{AreSeen, entries-seen}
use Rattle.seg_reader.proofs.AnswerLemmas.{StandsBehind}

-- the occurrences stand in the file
beside-good : (t : RuledTerm) (value : TermData) (all : TermOccurrences) (reach entries between : ℕ) (b : Beside) → IsBeside t value all reach entries between b → StandsInBoth t value b.occurrences.prx all
beside-good t value all reach entries between b h = let among = leads-among t value all h.passed b.ahead b.occurrences h.leads in among.2.good

pub stands-good : (s : Scan) (all : TermOccurrences) (b : Beside) (stand : Place) → StandsBeside s all b stand → StandsInBoth s.entries.term s.entries.value b.occurrences.prx all
stands-good s all b Start h = beside-good s.entries.term s.entries.value all s.passed s.passed s.between b h
stands-good s all b (At e) h = beside-good s.entries.term s.entries.value all (s.passed - 1) s.passed s.between b h
stands-good s all b (Within e) h = h.among.good
stands-good s all b End h = beside-good s.entries.term s.entries.value all s.passed s.passed s.between b h

-- wherever they stand, the occurrences up to the next entry are counted
pub stands-beside : (s : Scan) (all : TermOccurrences) (b : Beside) (stand : Place) → StandsBeside s all b stand → IsBeside s.entries.term s.entries.value all s.passed s.passed s.between b
stands-beside s all b Start h = h
stands-beside s all b (At e) h = record { passed = h.passed; leads = h.leads; within = let le = h.within in omega (arith, le); counts = h.counts }
stands-beside s all b (Within e) h = record {
  passed = s.passed;
  leads = subst (λ (o : Option SkipPoint). LeadsTo s.entries.term s.entries.value all s.passed o b.occurrences) (sym h.settled) (h.left, h.among);
  within = omega arith;
  counts = omega (arith, h.none);
}
stands-beside s all b End h = h

module _ (s : Scan) (k : KnownTerm) (b : Beside) (stand : Place) (flag : Bool) (h : AreTogether s k b stand flag) where
  abbrev pub all_read : TermOccurrences
  all_read = occurrences_read s.entries.term s.entries.value b.occurrences.prx

  pub together-good : s.entries.term.rules.omit_tf ≡ false → StandsInBoth s.entries.term s.entries.value b.occurrences.prx all_read
  together-good kept = stands-good s all_read b stand (h.beside kept)

  pub together-seen : AreSeen s.entries.term s.entries.value (entries_seen s.entries.term s.entries.value b.occurrences.prx)
  together-seen = entries-seen s.entries.term s.entries.value b.occurrences.prx h.scan.order together-good

-- the documents before where a walk goes on, and behind
pub record GoesOn (s : Scan) (stand : Place) : Type 0 where
  pub before : (i : ℕ) → i < s.passed → (posting_in s.entries.value i).doc < from_at s.entries.term.rules.documents stand
  pub behind : (i : ℕ) → s.passed ≤ i → i < s.entries.term.info.doc_freq → from_at s.entries.term.rules.documents stand ≤ (posting_in s.entries.value i).doc

-- those of an entry that was read last
goes-behind : (s : Scan) (e : Entry) (stand : Place) → IsScan s → (index : ℕ) × (s.passed ≡ index + 1) × (e ≡ entry_of (posting_in s.entries.value index)) → from_at s.entries.term.rules.documents stand ≡ e.doc + 1 → GoesOn s stand
goes-behind s e stand scan (index, passed, is) from =
    let doc : e.doc ≡ (posting_in s.entries.value index).doc = ap (λ (x : Entry). x.doc) is in
    let within = scan.within in
    record {
      before = λ i lt. elim (cases_lt i index) [
        | inl low ↦ let up = scan.order.rise i index low (omega (arith, passed, within)) in omega (arith, up, doc, from)
        | inr high ↦ let same : i ≡ index = omega (arith, lt, high, passed) in omega (arith, ap (λ (n : ℕ). (posting_in s.entries.value n).doc) same, doc, from)
      ];
      behind = λ i le lt. let up = scan.order.rise index i (omega (arith, le, passed)) lt in omega (arith, up, doc, from);
    }

pub goes-on : (s : Scan) (stand : Place) → IsScan s → IsPlace s stand → GoesOn s stand
goes-on s Start scan is = record { before = λ i lt. absurd (omega (arith, is, lt)); behind = λ i le lt. omega arith }
goes-on s (At e) scan is = goes-behind s e (At e) scan is refl
goes-on s (Within e) scan (index, passed, entry, kept) = goes-behind s e (Within e) scan (index, passed, entry) refl
goes-on s End scan is = record {
  before = λ i lt. scan.order.below i (let le = scan.within in omega (arith, lt, le));
  behind = λ i le lt. absurd (omega (arith, is, le, lt));
}

module _ (s : Scan) (k : KnownTerm) (b : Beside) (stand : Place) (flag : Bool) (h : AreTogether s k b stand flag) where
  pub stands-behind : StandsBehind (walk_at s b stand) s.passed
  stands-behind =
      let seen = together-seen s k b stand flag h in
      let on = goes-on s stand h.scan h.place in
      let order = h.scan.order in
      let es = entries_seen s.entries.term s.entries.value b.occurrences.prx in
      record {
        rise = λ i j less lt.
            let here : j < s.entries.term.info.doc_freq = omega (arith, lt, seen.count) in
            let up = order.rise i j less here in
            omega (arith, up, seen.documents i (omega (arith, less, here)), seen.documents j here);
        below = λ i lt. let here : i < s.entries.term.info.doc_freq = omega (arith, lt, seen.count) in let low = order.below i here in omega (arith, low, seen.documents i here);
        before = λ i lt. let within = h.scan.within in let here : i < s.entries.term.info.doc_freq = omega (arith, lt, within) in let low = on.before i lt in omega (arith, low, seen.documents i here);
        behind = λ i le lt. let here : i < s.entries.term.info.doc_freq = omega (arith, lt, seen.count) in let high = on.behind i le here in omega (arith, high, seen.documents i here);
      }
