use Rattle.std.proofs.Common.{◌≡◌, take, drop, map, []}
use Rattle.std.specs.Prelude.{All}
use Rattle.lu_types.specs.DocFaults.{fields_fault}
use Rattle.lu_types.specs.Documents.{IsIndexedField}
use Rattle.lu_types.proofs.TwiceLemmas.{named}
use Rattle.lu_types.proofs.validation.first_field_fault.Given as goal

-- what is left decides, after what was passed, which is made of texts and bytes, and whose names are those of the table
abbrev pub invariant-loop-field : goal.invariant-loop-field
invariant-loop-field l = record {
  fault : fields_fault l.limits [] l.fields ≡ fields_fault l.limits (take l.field-index l.fields) (drop l.field-index l.fields);
  texts : All IsIndexedField (take l.field-index l.fields);
  names : l.names ≡ map named (take l.field-index l.fields);
}
