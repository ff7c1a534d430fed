use Rattle.std.proofs.Common.{Option, subst}
use Rattle.freq_skips.specs.declared.skip_point.SkipPoint.{SkipPoint}
use Rattle.seg_reader.specs.InnerBeside.{LeadsTo}
use Rattle.seg_reader.proofs.BesideLemmas.{leads-jumped}
use Rattle.seg_reader.proofs.beside.Beside.settle.Goals as goal

pub returns-in-Some-clause-leads : goal.returns-in-Some-clause-leads
returns-in-Some-clause-leads c = λ t value all passed h.
    let occurrences = c.args.self.now.occurrences in
    leads-jumped t value all passed c.in-Some.point occurrences c.jump.new.self (subst (λ (o : Option SkipPoint). LeadsTo t value all passed o occurrences) c.in-Some.is h) c.jump.ensures
