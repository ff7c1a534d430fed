use Rattle.std.proofs.Common.{◌≡◌, ℕ, Ok, refl, sym, ap, subst, ◌∙◌, arith}
use Rattle.lu_grammar.specs.Bytes.{Cursor}
use Rattle.lu_grammar.specs.Plans.{one, times, read_plan}
use Rattle.lu_grammar.proofs.Records.{same_pair}
use Rattle.lu_grammar.proofs.Loops.{each-none}
use Rattle.positions.specs.Views.{occurrence_record_of}
use Rattle.positions.specs.Standing.{passed_kind}
use Rattle.positions.proofs.PassLemmas.{passes-more, passes-never}
use Rattle.positions.proofs.reading.Reading.pass.Goals as goal

pub loop-turn-init : goal.loop-turn-init
loop-turn-init c = record { payloads = refl; passes = λ f d all. each-none (one (passed_kind c.args.self.now.payloads)) c.args.self.now.force c.args.self.now.cur }

pub returns-in-Err-clause-passes : goal.returns-in-Err-clause-passes
returns-in-Err-clause-passes c = record {
  leads = λ f d all.
      let i = c.loop-turn.invariant in
      let s = c.args.self.now in
      absurd (passes-never s.payloads c.loop-turn.self.payloads c.loop-turn._turn c.args.count s.force s.cur c.loop-turn.self.force c.loop-turn.self.cur c.in-Err._bad f d i.payloads (i.passes f d all) (omega arith) all c.in-Err.ensures.taken);
}

pub loop-turn-preserved : goal.loop-turn-preserved
loop-turn-preserved c =
    let i = c.loop-turn.invariant in
    let s = c.args.self.now in
    let r = c.loop-turn.self in
    let new = c.take.new.self in
    let read = c.in-Ok.ensures in
    record {
      payloads = read.payloads ∙ i.payloads;
      passes = λ f d all. passes-more s.payloads r.payloads c.loop-turn._turn s.force s.cur r.force r.cur (occurrence_record_of c.in-Ok._parts) new.cur new.force i.payloads (i.passes f d all) read.taken.0 read.taken.1;
    }

pub returns-clause-passes : goal.returns-clause-passes
returns-clause-passes c = record {
  leads = λ f d all.
      let s = c.args.self.now in
      let same : c.loop-turn._turn ≡ c.args.count = omega arith in
      same_pair c.loop-turn.self.force f c.loop-turn.self.cur d (sym (c.loop-turn.invariant.passes f d all) ∙ ap (λ (n : ℕ). read_plan (times (passed_kind s.payloads) n s.force) s.cur) same ∙ all);
}
