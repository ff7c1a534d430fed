use Rattle.positions.proofs.WritingLemmas.{holds-begun, holds-document, holds-so_far, holds-added}
use Rattle.positions.proofs.laws.what_is_held.Goals as goal

pub returns : goal.returns
returns c = record { begun = holds-begun; document = holds-document; so_far = holds-so_far; added = holds-added }
