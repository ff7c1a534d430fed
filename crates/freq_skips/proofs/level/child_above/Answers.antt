use Rattle.freq_skips.proofs.AboveLemmas.{above-skips, above-passes}
use Rattle.freq_skips.proofs.level.child_above.Goals as goal

pub returns-then-passed-term-ne0 : goal.returns-then-passed-term-ne0
returns-then-passed-term-ne0 c = record {
  goes_on = λ postings n points at h lt.
      above-skips c.args.term.now postings c.args.level points c.args.passed c.args.above.now c.in-Some.above c.in-Some.is c.requires.interval c.if-passed-term-ne0.true h;
}

pub returns-else-passed-term-ne0 : goal.returns-else-passed-term-ne0
returns-else-passed-term-ne0 c = record {
  goes_on = λ postings n points at h lt.
      above-passes c.args.term.now postings c.args.level n points c.args.passed c.args.above.now c.in-Some.above c.pass.new.self c.in-Some.is at c.requires.interval c.if-passed-term-ne0.false lt (c.pass.ensures.goes_on postings) h;
}
