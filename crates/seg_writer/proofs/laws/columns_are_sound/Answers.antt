use Rattle.seg_writer.proofs.SoundColumns.{column-sound}
use Rattle.seg_writer.proofs.laws.columns_are_sound.Goals as goal

pub returns : goal.returns
returns c = column-sound
