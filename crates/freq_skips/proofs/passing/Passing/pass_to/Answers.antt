use Rattle.std.proofs.Common.{◌≡◌, arith}
use Rattle.freq_skips.proofs.EntryLemmas.{never_broken, IsBehindEntries-as}
use Rattle.freq_skips.proofs.passing.Passing.pass_to.Goals as goal

pub returns-in-Err : goal.returns-in-Err
returns-in-Err c = λ start end all h le.
    absurd (never_broken c.args.term.now start end _ _ all (c.in-Err.ensures start (c.loop-self.invariant.stands start end all h)))

pub loop-self-preserved : goal.loop-self-preserved
loop-self-preserved c = record {
  within = λ le. let within = c.loop-self.invariant.within le in omega (arith, c.in-Ok.ensures.0);
  stands = λ start end all h. IsBehindEntries-as c.args.term.now start _ _ c.step.new.self.cur c.step.new.self.index c.step.new.self.doc c.in-Ok.ensures.0 c.in-Ok.ensures.1 (c.in-Ok.ensures.2 start (c.loop-self.invariant.stands start end all h)).stands;
}

pub returns : goal.returns
returns c = λ start end all h le.
    let within = c.loop-self.invariant.within le in
    let is : c.loop-self.self.index ≡ c.args.target = omega arith in
    (c.loop-self.invariant.stands start end all h, is)
