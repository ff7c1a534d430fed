-- Why a command is refused, as it is printed.
use Rattle.std.specs.Prelude.{ℕ, List, ◌++◌, codes}
use Rattle.std.specs.Fmt.{decimal}
use Rattle.lu_types.specs.Kinds.{extension}
use Rattle.lu_types.specs.declared.document.DocFault.{DocFault}
use Rattle.lu_types.specs.declared.document.DocFault.TheVariants.{NameLong, TextLong, PositionOrder, OffsetOrder, PayloadLong, FieldTwice, TokensMany}
use Rattle.lu_input.specs.declared.fault.LineFault.{LineFault}
use Rattle.lu_input.specs.declared.fault.LineFault.TheVariants.{NotJson, BadShape, Doc}
use Rattle.lu_outcomes.specs.declared.status.Status.TheVariants.{Refused}
use Rattle.lu_outcomes.specs.declared.status.Refusal.{Refusal}
use Rattle.lu_outcomes.specs.declared.status.Refusal.TheVariants.{FileTooLarge, Line, InputTooLarge, TooLarge, TooMany, GenerationFull, VersionFull, CounterFull, DelGenFull}
use Rattle.lu_outcomes.specs.declared.outcome.Outcome.{Outcome}
use Rattle.lu_listing.specs.Lines.{line, ◌▹◌}
use Rattle.lu_outcomes.specs.Outcomes.{without_effect}

-- the name of a fault of a document
abbrev pub doc_fault_name : DocFault → List ℕ
doc_fault_name NameLong = codes "NameLong"
doc_fault_name TextLong = codes "TextLong"
doc_fault_name PositionOrder = codes "PositionOrder"
doc_fault_name OffsetOrder = codes "OffsetOrder"
doc_fault_name PayloadLong = codes "PayloadLong"
doc_fault_name FieldTwice = codes "FieldTwice"
doc_fault_name TokensMany = codes "TokensMany"

-- the name of a fault of a line
abbrev pub line_fault_name : LineFault → List ℕ
line_fault_name NotJson = codes "NotJson"
line_fault_name BadShape = codes "BadShape"
line_fault_name (Doc fault) = doc_fault_name fault

-- a refusal, as it is named behind `refused:`
abbrev pub refusal_name : Refusal → List ℕ
refusal_name (FileTooLarge kind) = codes "FileTooLarge" ▹ extension kind
refusal_name (Line number fault) = codes "line"
refusal_name InputTooLarge = codes "InputTooLarge"
refusal_name (TooLarge kind) = codes "TooLarge" ▹ extension kind
refusal_name TooMany = codes "TooMany"
refusal_name GenerationFull = codes "GenerationFull"
refusal_name VersionFull = codes "VersionFull"
refusal_name CounterFull = codes "CounterFull"
refusal_name (DelGenFull place) = codes "DelGenFull"

-- the line of a refusal
abbrev pub refusal_text : Refusal → List ℕ
refusal_text (Line number fault) = codes "refused: line " ++ (decimal number ++ (codes " " ++ (line_fault_name fault ++ codes "\n")))
refusal_text refusal = line (codes "refused: " ++ refusal_name refusal)

-- the outcome of a refusal
abbrev pub refused_outcome : Refusal → Outcome
refused_outcome refusal = without_effect (Refused refusal) (refusal_text refusal)
