use Rattle.stored_fields.proofs.PlaceLemmas.{PassedPlaces}
use Rattle.stored_fields.proofs.places.check_places.Given as goal

-- so many places are passed
abbrev pub invariant-loop-number : goal.invariant-loop-number
invariant-loop-number l = PassedPlaces l.initial.here l._number l.before l.here
