use Rattle.std.proofs.Common.{ap, sym, subst}
use Rattle.lu_grammar.specs.Bytes.{Cursor}
use Rattle.freq_skips.specs.Entries.{IsBehindEntries}
use Rattle.freq_skips.specs.Points.{IsPoint}
use Rattle.freq_skips.specs.Walks.{WalkState, start_in, value_from}
use Rattle.freq_skips.proofs.JumpLemmas.{point-stands}
use Rattle.freq_skips.proofs.entries.Entries.jump.Goals as goal

pub at-requires : goal.at-requires
at-requires c =
    let t = c.self.inside.term in
    let frq = c.self.inside.frq.now in
    let i = c.self.invariant in
    let v = value_from t (start_in t frq) in
    (point-stands t frq v c.args.point.now i.bytes i.interval i.begin_within i.all i.postings (subst (λ (s : WalkState). IsPoint s.term s.value c.args.point.now) (sym c.self.view_is) c.requires.point)).place_within

pub invariant_of-self : goal.invariant_of-self
invariant_of-self c =
    let t = c.self.inside.term in
    let frq = c.self.inside.frq.now in
    let i = c.self.invariant in
    let v = value_from t (start_in t frq) in
    let p = c.args.point.now in
    let there = point-stands t frq v p i.bytes i.interval i.begin_within i.all i.postings (subst (λ (s : WalkState). IsPoint s.term s.value p) (sym c.self.view_is) c.requires.point) in
    record {
      interval = i.interval;
      bytes = i.bytes;
      begin_within = i.begin_within;
      all = i.all;
      postings = i.postings;
      stands = subst (λ (d : Cursor). IsBehindEntries t (start_in t frq) p.passed p.doc d) (sym c.at.ensures) there.stands;
      within = there.within;
    }

pub returns : goal.returns
returns c =
    let p = c.args.point.now in
    let to : WalkState → WalkState = λ s. record { term = s.term; value = s.value; passed = p.passed } in
    ap to c.self.view_is
