use Rattle.std.proofs.Common.{◌≡◌, ℕ, ◌+◌, ◌<◌, ◌==◌, Bool, Result, Err, Ok, refl, sym, ap, subst, ◌∙◌, arith}
use Rattle.lu_grammar.specs.Bytes.{Cursor}
use Rattle.positions.specs.Records.{position_gap}
use Rattle.positions.specs.Occurrences.{count_at}
use Rattle.positions.specs.Standing.{StandsIn}
use Rattle.positions.specs.Walked.{posted_by}
use Rattle.positions.proofs.StandLemmas.{expected_as, Stands-as, Stands-more, Stands-closed, Stands-fault}
use Rattle.positions.proofs.check.check_entry.Goals as goal

pub loop-read-init : goal.loop-read-init
loop-read-init c = record { within = omega arith; payloads = refl; stands = λ start h lt is. h }

pub check_next-requires : goal.check_next-requires
check_next-requires c = record { passed = c.requires.passed; info_is = c.requires.info_is; payloads_are = c.loop-read.invariant.payloads ∙ c.requires.payloads_are; few = c.requires.few }

pub returns-in-Err-clause-entry : goal.returns-in-Err-clause-entry
returns-in-Err-clause-entry c = λ start h lt is.
    let p = posted_by c.args.walk.now in
    let k = c.args.walked.now.index in
    let i = c.loop-read.invariant in
    let r = c.loop-read.reading in
    let due : c.loop-read.read < count_at p k = omega arith in
    let e = expected_as p r.payloads k c.loop-read.read r.force r.position r.cur (Err c.in-Err.rule) (i.payloads ∙ c.requires.payloads_are) c.in-Err.ensures in
    rw (c.at.ensures, c.place-place.ensures) (refl, Stands-fault p start k c.loop-read.read r.force r.position r.cur c.in-Err.rule (i.stands start h lt is) lt due e)

pub loop-read-preserved : goal.loop-read-preserved
loop-read-preserved c =
    let p = posted_by c.args.walk.now in
    let k = c.args.walked.now.index in
    let i = c.loop-read.invariant in
    let r = c.loop-read.reading in
    let same = i.payloads ∙ c.requires.payloads_are in
    let read = c.in-Ok.ensures in
    let new = c.check_next.new.self in
    record {
      within = omega arith;
      payloads = read.4 ∙ i.payloads;
      stands = λ start h lt is.
          let e = expected_as p r.payloads k c.loop-read.read r.force r.position r.cur (Ok (read.0, new.cur)) same read.1 in
          Stands-as p start k (c.loop-read.read + 1) _ (r.position + position_gap p.term.rules.payloads read.0.delta) new.cur k (c.loop-read.read + 1) new.force new.position refl refl read.2
          (read.3 ∙ ap (λ (b : Bool). r.position + position_gap b read.0.delta) same)
          (Stands-more p start k c.loop-read.read r.force r.position r.cur read.0 new.cur (i.stands start h lt is) e);
    }

pub returns-clause-payloads : goal.returns-clause-payloads
returns-clause-payloads c = c.loop-read.invariant.payloads

pub returns-clause-entry : goal.returns-clause-entry
returns-clause-entry c = λ start h lt is.
    let p = posted_by c.args.walk.now in
    let k = c.args.walked.now.index in
    let i = c.loop-read.invariant in
    let r = c.loop-read.reading in
    let all : c.loop-read.read ≡ count_at p k = omega (arith, i.within) in
    Stands-as p start (k + 1) 0 r.force 0 r.cur c.args.walk.now.passed 0 r.force 0 c.requires.passed refl refl refl
    (Stands-closed p start k c.loop-read.read r.force r.position r.cur (i.stands start h lt is) all)
