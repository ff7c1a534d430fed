use Rattle.std.proofs.Common.{◌≡◌, ℕ, ◌+◌, ◌^◌, ◌<◌, ◌≤◌, Bool, false, length, Ok, Err, refl, sym, ap, subst, ◌∙◌, arith}
use Rattle.lu_grammar.specs.Bytes.{Cursor, place_in}
use Rattle.lu_grammar.specs.Plans.{read_plan}
use Rattle.lu_grammar.specs.Meaning.{ReadsTo}
use Rattle.lu_grammar.proofs.Parts.{IsBytes-drop}
use Rattle.lu_grammar.proofs.Codecs.{reads-read_plan}
use Rattle.freq_skips.specs.declared.rules.RuledTerm.{RuledTerm}
use Rattle.freq_skips.specs.Terms.{TermData, ruled_by}
use Rattle.freq_skips.specs.Walks.{WalkState, start_in}
use Rattle.positions.specs.Occurrences.{PostedTerm, count_at}
use Rattle.positions.specs.Terms.{posted, term_plan}
use Rattle.positions.specs.Standing.{StandsIn}
use Rattle.positions.specs.Walked.{posted_by}
use Rattle.positions.proofs.LevelTests.{level_count-most}
use Rattle.positions.proofs.FrequencyLemmas.{term-count, term-frequent, count_at-some}
use Rattle.positions.proofs.StandLemmas.{Stands-none, Stands-all}
use Rattle.positions.proofs.AgainLemmas.{term-starts}
use Rattle.positions.proofs.OmittedLemmas.{omitted-read}
use Rattle.positions.proofs.JudgeLemmas.{term-good, term-bad}
use Rattle.positions.proofs.WalkedLemmas.{posted-is, answered}
use Rattle.positions.proofs.check.check_term.Goals as goal

pub returns-then-rules-clause-term : goal.returns-then-rules-clause-term
returns-then-rules-clause-term c = λ value behind h.
    let p = posted c.args.info.now c.args.rules.now value in
    let start = place_in c.args.prx.now c.args.at in
    let read = omitted-read p start c.if-rules.true in
    (term-good p c.args.prx.now c.args.at read.0 start c.args.at (λ i. (c.type_inv.prx i).fits) c.requires.at_within read.1 refl).0

pub loop-walked-init : goal.loop-walked-init
loop-walked-init c =
    let t = ruled_by c.args.info.now c.args.rules.now in
    let good = c.requires.good in
    let w = c.at-walk.result in
    let is = c.at-walk.ensures good.value good.end good.reads in
    let passed : w.passed ≡ 0 = ap (λ (x : WalkState). x.passed) is in
    let term = ap (λ (x : WalkState). x.term) is in
    let start = place_in c.args.prx.now c.args.at in
    record {
      term = term;
      value = refl;
      count = ap (λ (x : WalkState). length x.value.postings) is ∙ term-count t (start_in t c.args.frq.now) good.value good.end good.reads ∙ ap (λ (x : RuledTerm). x.info.doc_freq) (sym term);
      within = omega arith;
      payloads = ap (λ (x : RuledTerm). x.rules.payloads) (sym term);
      stands = subst (λ (d : Cursor). StandsIn (posted_by w) start w.passed 0 0 0 d) (sym c.at.ensures) (subst (λ (n : ℕ). StandsIn (posted_by w) start n 0 0 0 start) (sym passed) (Stands-none (posted_by w) start));
    }

-- the field keeps positions
kept : (w : WalkState) (t : RuledTerm) → w.term ≡ t → t.rules.omit_tf ≡ false → w.term.rules.omit_tf ≡ false
kept w t e omit = ap (λ (x : RuledTerm). x.rules.omit_tf) e ∙ omit

pub check_entry-requires : goal.check_entry-requires
check_entry-requires c =
    let i = c.loop-walked.invariant in
    let w = c.loop-walked.walk in
    let n = c.next.new.self in
    let t = ruled_by c.args.info.now c.args.rules.now in
    let step = c.in-Some.ensures.2 in
    let answer = answered w n c.in-Some.walked step c.in-Some.ensures.1 c.in-Some.ensures.0 i.count (kept w t i.term c.if-rules.false) in
    let term : n.term ≡ t = ap (λ (x : WalkState). x.term) step ∙ i.term in
    let most = level_count-most n.term in
    let levels = ap (λ (x : RuledTerm). x.rules.max_levels) term in
    record {
      passed = answer.passed;
      info_is = ap (λ (x : RuledTerm). x.info) (sym term);
      payloads_are = i.payloads ∙ ap (λ (x : WalkState). x.term.rules.payloads) (sym step);
      few = omega arith;
    }

pub returns-in-Err-clause-term : goal.returns-in-Err-clause-term
returns-in-Err-clause-term c = λ value behind h.
    let i = c.loop-walked.invariant in
    let w = c.loop-walked.walk in
    let n = c.next.new.self in
    let r = c.loop-walked.reading in
    let t = ruled_by c.args.info.now c.args.rules.now in
    let p = posted c.args.info.now c.args.rules.now value in
    let start = place_in c.args.prx.now c.args.at in
    let spot = c.in-Err.spot in
    let step = c.in-Some.ensures.2 in
    let answer = answered w n c.in-Some.walked step c.in-Some.ensures.1 c.in-Some.ensures.0 i.count (kept w t i.term c.if-rules.false) in
    let broken = c.in-Err.ensures.entry start (answer.stands start r.force r.cur i.stands) answer.below answer.freq in
    let same = posted-is n t value (ap (λ (x : WalkState). x.term) step ∙ i.term) (ap (λ (x : WalkState). x.value) step ∙ i.value ∙ ap (λ (x : WalkState). x.value) (c.at-walk.ensures value behind h)) in (
      broken.0,
      term-bad p c.args.prx.now c.args.at spot.offset spot.rule (λ i. (c.type_inv.prx i).fits)
          (subst (λ (q : PostedTerm). read_plan (term_plan q) start ≡ Err (record { offset = spot.offset; rule = spot.rule })) same broken.1),
    )

pub loop-walked-smaller : goal.loop-walked-smaller
loop-walked-smaller c =
    let step = c.in-Some.ensures.2 in
    let passed = ap (λ (x : WalkState). x.passed) step in
    let size = ap (λ (x : WalkState). length x.value.postings) step in
    let lt = c.in-Some.ensures.0 in
    omega arith

pub loop-walked-preserved : goal.loop-walked-preserved
loop-walked-preserved c =
    let i = c.loop-walked.invariant in
    let w = c.loop-walked.walk in
    let n = c.next.new.self in
    let r = c.loop-walked.reading in
    let t = ruled_by c.args.info.now c.args.rules.now in
    let start = place_in c.args.prx.now c.args.at in
    let step = c.in-Some.ensures.2 in
    let answer = answered w n c.in-Some.walked step c.in-Some.ensures.1 c.in-Some.ensures.0 i.count (kept w t i.term c.if-rules.false) in
    let passed = ap (λ (x : WalkState). x.passed) step in
    let size = ap (λ (x : WalkState). length x.value.postings) step in
    let lt = c.in-Some.ensures.0 in
    record {
      term = ap (λ (x : WalkState). x.term) step ∙ i.term;
      value = ap (λ (x : WalkState). x.value) step ∙ i.value;
      count = size ∙ i.count ∙ ap (λ (x : WalkState). x.term.info.doc_freq) (sym step);
      within = omega arith;
      payloads = c.in-Ok.ensures.payloads ∙ i.payloads ∙ ap (λ (x : WalkState). x.term.rules.payloads) (sym step);
      stands = c.in-Ok.ensures.entry start (answer.stands start r.force r.cur i.stands) answer.below answer.freq;
    }

pub returns-clause-term : goal.returns-clause-term
returns-clause-term c = λ value behind h.
    let i = c.loop-walked.invariant in
    let w = c.loop-walked.walk in
    let r = c.loop-walked.reading in
    let t = ruled_by c.args.info.now c.args.rules.now in
    let p = posted c.args.info.now c.args.rules.now value in
    let start = place_in c.args.prx.now c.args.at in
    let all = Stands-all (posted_by w) start w.passed r.force 0 r.cur i.stands (c.in_default.ensures.0 ∙ i.count) in
    let same = posted-is w t value i.term (i.value ∙ ap (λ (x : WalkState). x.value) (c.at-walk.ensures value behind h)) in
    (term-good p c.args.prx.now c.args.at i.stands.mid.before r.cur c.place.result (λ i. (c.type_inv.prx i).fits) c.requires.at_within
    (subst (λ (q : PostedTerm). read_plan (term_plan q) start ≡ Ok (i.stands.mid.before, r.cur)) same all) c.place.ensures).0

pub returns-clause-within : goal.returns-clause-within
returns-clause-within c =
    let i = c.loop-walked.invariant in
    let w = c.loop-walked.walk in
    let r = c.loop-walked.reading in
    let start = place_in c.args.prx.now c.args.at in
    let all = Stands-all (posted_by w) start w.passed r.force 0 r.cur i.stands (c.in_default.ensures.0 ∙ i.count) in
    (term-good (posted_by w) c.args.prx.now c.args.at i.stands.mid.before r.cur c.place.result (λ i. (c.type_inv.prx i).fits) c.requires.at_within all c.place.ensures).1

pub returns-clause-starts : goal.returns-clause-starts
returns-clause-starts c = λ omit some.
    let i = c.loop-walked.invariant in
    let w = c.loop-walked.walk in
    let r = c.loop-walked.reading in
    let t = ruled_by c.args.info.now c.args.rules.now in
    let good = c.requires.good in
    let p = posted c.args.info.now c.args.rules.now good.value in
    let start = place_in c.args.prx.now c.args.at in
    let all = Stands-all (posted_by w) start w.passed r.force 0 r.cur i.stands (c.in_default.ensures.0 ∙ i.count) in
    let same = posted-is w t good.value i.term (i.value ∙ ap (λ (x : WalkState). x.value) (c.at-walk.ensures good.value good.end good.reads)) in
    let read = subst (λ (q : PostedTerm). read_plan (term_plan q) start ≡ Ok (i.stands.mid.before, r.cur)) same all in
    let count = term-count t (start_in t c.args.frq.now) good.value good.end good.reads in
    let due = count_at-some p 0 omit ((term-frequent t (start_in t c.args.frq.now) good.value good.end good.reads).some 0 (omega arith)) in
    term-starts p start i.stands.mid.before r.cur read some due

pub returns-then-rules-clause-stands : goal.returns-then-rules-clause-stands
returns-then-rules-clause-stands c = λ some value behind h.
    let t = ruled_by c.args.info.now c.args.rules.now in
    let start = place_in c.args.prx.now t.info.prox in
    let p = posted c.args.info.now c.args.rules.now value in
    let read = omitted-read p start c.if-rules.true in (
      read.0,
      record {
        interval = c.requires.good.interval;
        frq = c.args.frq.now;
        behind = behind;
        entries = h;
        end = start;
        reads = reads-read_plan (term_plan p) start read.0 start (IsBytes-drop t.info.prox c.args.prx.now (λ i. (c.type_inv.prx i).fits)) read.1;
        within = λ kept. absurd (let two = sym c.if-rules.true ∙ kept in cc);
      },
    )

pub returns-clause-stands : goal.returns-clause-stands
returns-clause-stands c = λ some value behind h.
    let i = c.loop-walked.invariant in
    let w = c.loop-walked.walk in
    let r = c.loop-walked.reading in
    let t = ruled_by c.args.info.now c.args.rules.now in
    let p = posted c.args.info.now c.args.rules.now value in
    let prx = c.args.prx.now in
    let start = place_in prx c.args.at in
    let all = Stands-all (posted_by w) start w.passed r.force 0 r.cur i.stands (c.in_default.ensures.0 ∙ i.count) in
    let same = posted-is w t value i.term (i.value ∙ ap (λ (x : WalkState). x.value) (c.at-walk.ensures value behind h)) in
    let read = subst (λ (q : PostedTerm). read_plan (term_plan q) start ≡ Ok (i.stands.mid.before, r.cur)) same all in
    let count = term-count t (start_in t c.args.frq.now) value behind h in
    let due = count_at-some p 0 c.if-rules.false ((term-frequent t (start_in t c.args.frq.now) value behind h).some 0 (omega arith)) in
    let at : c.args.at ≡ t.info.prox = term-starts p start i.stands.mid.before r.cur read some due in (
      i.stands.mid.before,
      record {
        interval = c.requires.good.interval;
        frq = c.args.frq.now;
        behind = behind;
        entries = h;
        end = r.cur;
        reads = subst (λ (n : ℕ). ReadsTo (term_plan p) (place_in prx n) i.stands.mid.before r.cur) at
            (reads-read_plan (term_plan p) start i.stands.mid.before r.cur (IsBytes-drop c.args.at prx (λ i. (c.type_inv.prx i).fits)) read);
        within = λ kept. omega (arith, at);
      },
    )
