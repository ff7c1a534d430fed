use Rattle.std.proofs.Common.{subst}
use Rattle.seg_reader.specs.Terms.{AreSaid}
use Rattle.seg_reader.proofs.SaidTerms.{are-said}
use Rattle.seg_reader.proofs.reader.SegReader.terms.Goals as goal

pub returns-clause-said : goal.returns-clause-said
returns-clause-said c = subst AreSaid c.self.view_is (are-said c.self.inside.standing c.terms.ensures.indexed c.terms.ensures.known)
