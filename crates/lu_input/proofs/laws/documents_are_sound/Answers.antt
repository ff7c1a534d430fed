use Rattle.lu_input.proofs.SoundLemmas.{input-sound}
use Rattle.lu_input.proofs.laws.documents_are_sound.Goals as goal

pub returns : goal.returns
returns c = input-sound
