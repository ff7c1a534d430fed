use Rattle.std.proofs.Common.{ℕ, ◌^◌, ◌<◌, sym, subst, arith}
use Rattle.lu_grammar.specs.Bytes.{Cursor}
use Rattle.freq_skips.specs.Entries.{postings_from}
use Rattle.freq_skips.specs.Walks.{start_in, points_in}
use Rattle.freq_skips.proofs.Powers.{stride-two, quotient-half}
use Rattle.freq_skips.proofs.LevelPlaceLemmas.{TakesNext, IsOnLevel-next, IsDatumOfLast-next}
use Rattle.freq_skips.proofs.walk.pass_datum.Goals as goal

pub invariant_of-following : goal.invariant_of-following
invariant_of-following c =
    let few = subst (λ (n : ℕ). n < 2 ^ 31) (sym c.requires.on.number) (quotient-half c.args.before _ (stride-two c.args.term.now.rules.skip_interval c.args.level c.requires.interval) (omega arith)) in
    record { few = omega (arith, few); small = c.requires.on.small }

pub returns-clause-on : goal.returns-clause-on
returns-clause-on c =
    let t = c.args.term.now in
    let frq = c.args.frq.now in
    let r = c.args.place_before.now in
    let f = c.pass.new.self in
    let ps = postings_from t (start_in t frq) in
    let takes = subst (λ (d : Cursor). TakesNext t ps c.args.level r.count r.last d f.count f.last f.cur) c.at.ensures (c.pass.ensures.goes_on ps) in
    IsOnLevel-next t ps c.args.level (points_in t frq c.args.level) frq c.args.before r f.count c.place.result f.last f.cur (λ i. (c.type_inv.frq i).fits) c.requires.interval c.requires.multiple c.requires.within c.requires.on takes
    c.pass.new.self.small c.place.ensures

pub returns-clause-fresh : goal.returns-clause-fresh
returns-clause-fresh c =
    let t = c.args.term.now in
    let frq = c.args.frq.now in
    let r = c.args.place_before.now in
    let f = c.pass.new.self in
    let ps = postings_from t (start_in t frq) in
    let takes = subst (λ (d : Cursor). TakesNext t ps c.args.level r.count r.last d f.count f.last f.cur) c.at.ensures (c.pass.ensures.goes_on ps) in
    IsDatumOfLast-next t frq c.args.level c.args.before r f.count f.last f.cur c.requires.interval c.requires.level c.requires.multiple c.requires.within c.requires.on takes
