use Rattle.freq_skips.proofs.SoundLemmas.{places-written}
use Rattle.freq_skips.proofs.laws.written_has_places.Goals as goal

pub returns : goal.returns
returns c = places-written
