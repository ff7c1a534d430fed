use Rattle.positions.proofs.KnownPlaces.{known_places}
use Rattle.positions.proofs.laws.skip_data_lead.Goals as goal

pub returns : goal.returns
returns c = known_places
