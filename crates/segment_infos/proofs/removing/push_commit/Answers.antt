use Rattle.std.proofs.Common.{All, subst}
use Rattle.segment_infos.specs.Values.{CommitValue}
use Rattle.segment_infos.specs.Referring.{referred_names}
use Rattle.segment_infos.specs.Keeping.{HasOwnSpelling}
use Rattle.segment_infos.proofs.KeptNames.{own-referred_names, on_ok}
use Rattle.segment_infos.proofs.removing.push_commit.Goals as goal

pub returns-clause-own : goal.returns-clause-own
returns-clause-own c = on_ok c.push_lines.result (subst (λ (v : CommitValue). All HasOwnSpelling (referred_names v)) c.commit.view_is (own-referred_names _ c.commit.invariant))
