use Rattle.lu_changes.proofs.StandingLemmas.{build-adds}
use Rattle.lu_changes.proofs.build_laws.build_adds_an_index.Goals as goal

pub returns : goal.returns
returns c = build-adds
