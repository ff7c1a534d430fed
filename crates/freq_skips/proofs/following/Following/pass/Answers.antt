use Rattle.std.proofs.Common.{refl, arith}
use Rattle.freq_skips.specs.Levels.{level_of}
use Rattle.freq_skips.proofs.Powers.{stride-two, quotient-half}
use Rattle.freq_skips.proofs.LevelLemmas.{IsNextDatum-read, never_unread}
use Rattle.freq_skips.proofs.following.Following.pass.Goals as goal

pub returns-in-Some : goal.returns-in-Some
returns-in-Some c = record {
  goes_on = λ postings stated above begin points end all h lt.
      let f = c.args.self.now in
      let read = c.in-Some.ensures.read in
      (IsNextDatum-read c.args.term.now postings (level_of c.args.level stated above) begin points end f.count f.last f.cur read.0 c.in-Some.point c.good_datum.new.cur read.1 read.2 c.in-Some.ensures.point.0 all h lt, refl);
}

pub returns-in_default : goal.returns-in_default
returns-in_default c = record {
  goes_on = λ postings stated above begin points end all h lt.
      let f = c.args.self.now in
      let read = c.in_default.ensures.read in
      absurd (never_unread c.args.term.now postings (level_of c.args.level stated above) begin points end f.count f.last f.cur read.0 read.1 all h lt);
}

-- no level has so many data
pub returns-then-self : goal.returns-then-self
returns-then-self c = record {
  goes_on = λ postings stated above begin points end all h lt.
      let t = c.args.term.now in
      let few = quotient-half t.info.doc_freq _ (stride-two t.rules.skip_interval c.args.level c.requires.interval) (omega arith) in absurd (omega (arith, lt, few));
}
