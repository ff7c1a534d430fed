use Rattle.freq_skips.proofs.SoundLemmas.{IsSoundTermData-good}
use Rattle.freq_skips.proofs.laws.good_is_sound.Goals as goal

pub returns : goal.returns
returns c = IsSoundTermData-good
