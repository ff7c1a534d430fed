-- The parts of an occurrence, as the record that they are.
use Rattle.lu_types.specs.Occurrences.{Occurrence}
use Rattle.positions.specs.declared.record.OccurrenceParts.{OccurrenceParts}
use Rattle.positions.specs.declared.occurrences.Occ.{Occ}
use Rattle.positions.specs.Records.{OccurrenceRecord}

-- the record of some parts
abbrev pub occurrence_record_of : OccurrenceParts → OccurrenceRecord
occurrence_record_of x = record { delta = x.delta; stated = x.stated; payload = x.payload.now }

-- an occurrence that a cursor answers
abbrev pub occurrence_seen : Occ → Occurrence
occurrence_seen o = record { position = o.position; payload = o.payload.now }
