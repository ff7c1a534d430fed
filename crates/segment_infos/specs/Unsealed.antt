-- What is read before the checksum, and why reading stops.
use Rattle.std.specs.Prelude.{◌≡◌, ℕ, List, ℤ, Result, Ok, Err}
use Rattle.lu_grammar.specs.Bytes.{Cursor}
use Rattle.lu_grammar.specs.declared.bad.Bad.{Bad}
use Rattle.lu_grammar.specs.Records.{rule_of, record_at}
use Rattle.lu_types.specs.declared.kind.FileKind.TheVariants.{Commit}
use Rattle.lu_types.specs.declared.fault.CodecFault.{CodecFault}
use Rattle.lu_types.specs.declared.fault.CodecFault.TheVariants as faults
use Rattle.segment_infos.specs.declared.stop.Stop.{Stop}
use Rattle.segment_infos.specs.declared.stop.Stop.TheVariants as stops
use Rattle.segment_infos.specs.declared.reading.Unsealed.{Unsealed}
use Rattle.segment_infos.specs.Values.{CommitValue}
use Rattle.segment_infos.specs.Records.{seal, seal_record}
use Rattle.segment_infos.specs.Format.{of_seal}

-- what a commit says whose checksum is not read
abbrev pub unsealed_value : Unsealed → CommitValue
unsealed_value u = record { version = u.version; counter = u.counter; segments = u.segments; user = u.user }

-- the fault of a commit at a place where reading stopped
abbrev pub fault_of_stop : ℕ → Stop ℕ → CodecFault
fault_of_stop place (stops.Wrong rule) = faults.Spot (record { kind = Commit; offset = place; rule = rule })
fault_of_stop place stops.OutOfMemory = faults.OutOfMemory

-- the rule that an unread part breaks
abbrev pub rule_of_stop : Stop Bad → Stop ℕ
rule_of_stop (stops.Wrong bad) = stops.Wrong (rule_of bad)
rule_of_stop stops.OutOfMemory = stops.OutOfMemory

-- the checksum of the bytes before stood at the old place and the new one is behind it; or this rule is broken there
abbrev pub Seals : List ℕ → Cursor → Cursor → Result (Unit {0}) ℕ → Type 0
Seals before old new (Ok x) = (z : ℤ) × (record_at seal_record (of_seal before) old ≡ Ok (seal z, new))
Seals before old new (Err rule) = record_at seal_record (of_seal before) old ≡ Err rule
