use Rattle.segment_files.proofs.CanonicalStand.{canonical-stand, canonical-only}
use Rattle.segment_files.proofs.laws.canonical_files_stand.Goals as goal

pub returns : goal.returns
returns c = record {
  stand = λ options index diagnostics valid none fit. canonical-stand options index valid fit diagnostics none;
  only = λ options index other diagnostics valid none fit stands. canonical-only options index diagnostics valid fit none other stands;
}
