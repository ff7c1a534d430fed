use Rattle.std.proofs.Common.{suc, ◌∙◌}
use Rattle.freq_skips.specs.Levels.{level_of, wanted}
use Rattle.freq_skips.proofs.LevelLemmas.{datum_at-as, Follows-more, Follows-fault}
use Rattle.freq_skips.proofs.level_check.LevelCheck.check_next.Goals as goal

pub returns-in-Err-clause-goes_on : goal.returns-in-Err-clause-goes_on
returns-in-Err-clause-goes_on c = λ postings stated above begin at is h lt.
    let t = c.args.term.now in
    let l = level_of c.args.self.start.number stated above in
    let f = c.args.self.walk in
    Follows-fault t postings l begin f.count f.last f.cur c.in-Err.rule h lt
    (datum_at-as t l (wanted t postings l (suc f.count)) c.args.wanted.now begin.place c.args.self.start.place f.last f.cur is at ∙ c.in-Err.ensures.read)

pub returns-in-Ok-clause-goes_on : goal.returns-in-Ok-clause-goes_on
returns-in-Ok-clause-goes_on c = λ postings stated above begin at is h.
    let t = c.args.term.now in
    let l = level_of c.args.self.start.number stated above in
    let f = c.args.self.walk in
    let read = c.in-Ok.ensures.read in
    Follows-more t postings l begin f.count f.last f.cur read.0 c.in-Ok.point c.next_datum.new.cur h
    (datum_at-as t l (wanted t postings l (suc f.count)) c.args.wanted.now begin.place c.args.self.start.place f.last f.cur is at ∙ read.1) read.2 c.in-Ok.ensures.point.0
