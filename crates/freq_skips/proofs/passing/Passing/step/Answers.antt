use Rattle.freq_skips.proofs.EntryLemmas.{IsNext-read, IsBehindEntries-fault}
use Rattle.std.proofs.Common.{refl}
use Rattle.freq_skips.proofs.passing.Passing.step.Goals as goal

pub returns-in-Err : goal.returns-in-Err
returns-in-Err c = λ start h. IsBehindEntries-fault c.args.term.now start c.args.self.now.index c.args.self.now.doc c.args.self.now.cur c.in-Err.rule h c.requires c.in-Err.ensures

pub returns : goal.returns
returns c = (refl, refl, λ start h. IsNext-read c.args.term.now start c.args.self.now.index c.args.self.now.doc c.args.self.now.cur c.in-Ok.ensures.0 _ c.next_entry.new.cur c.in-Ok.ensures.1 c.in-Ok.ensures.2 c.requires h)
