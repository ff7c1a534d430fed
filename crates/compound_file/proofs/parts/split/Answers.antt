use Rattle.std.proofs.Common.{◌≡◌, ℕ, List, [], length, Ok, Err, ◌∙◌, refl, arith}
use Rattle.lu_grammar.specs.Bytes.{Cursor, start_of}
use Rattle.lu_grammar.specs.Parts.{num}
use Rattle.lu_grammar.specs.Reading.{read_part}
use Rattle.lu_grammar.specs.Plans.{times, read_plan}
use Rattle.lu_grammar.specs.Meaning.{FirstFault}
use Rattle.lu_types.specs.Judging.{Checks, GivesIn}
use Rattle.lu_types.specs.declared.kind.FileKind.{FileKind}
use Rattle.lu_types.specs.declared.fault.CodecFault.{CodecFault}
use Rattle.lu_types.specs.declared.fault.CodecFault.TheVariants as faults
use Rattle.compound_file.specs.Entries.{NamedPart, PartEntry}
use Rattle.compound_file.specs.Cfs.{entry_kind, cfs_plan}
use Rattle.compound_file.proofs.SplitLemmas.{header-fault, directory-fault, none-left, all-read}
use Rattle.compound_file.proofs.parts.split.Goals as goal
use Rattle.compound_file.proofs.parts.split.Goals.{else-count-eq0-via-then-count-eq0+else-left-gt0, else-count-eq0-via-else-count-eq0}

pub returns-in-Err : goal.returns-in-Err
returns-in-Err c =
    let unread : read_part num (start_of c.args.bytes.now) ≡ Err c.in-Err.bad = rw c.at-cur.ensures at c.in-Err.ensures.takes.0 in
    rw (c.at.ensures, c.rule_of.ensures) (refl, header-fault c.args.bytes.now (λ i. (c.type_inv.bytes i).fits) c.in-Err.bad unread)

-- a fault of the directory is one of the file
fails : (kind : FileKind) (bytes : List ℕ) (count : ℕ) (here there : Cursor) (found : CodecFault)
    → ((offset rule : ℕ) → read_plan (times (entry_kind (length bytes) count) count []) here ≡ Err (record { offset = offset; rule = rule }) → FirstFault (cfs_plan (length bytes)) bytes offset rule)
    → GivesIn {X = List PartEntry} kind (λ d. d) (read_plan (times (entry_kind (length bytes) count) count []) here) there (Err found) → Checks {X = List NamedPart} (λ parts. parts) kind (cfs_plan (length bytes)) bytes (Err found)
fails kind bytes count here there (faults.Spot spot) fault h = (h.0, fault spot.offset spot.rule h.1)
fails kind bytes count here there faults.OutOfMemory fault h = tt

pub returns-in-Err-read_directory : goal.returns-in-Err-read_directory
returns-in-Err-read_directory c =
    let counted : read_part num (start_of c.args.bytes.now) ≡ Ok (c.in-Ok.count, c.num.new.self) = rw c.at-cur.ensures at c.in-Ok.ensures.takes in
    fails c.args.kind c.args.bytes.now c.in-Ok.count c.num.new.self c.read_directory.new.cur c.in-Err-read_directory.found
    (directory-fault c.args.bytes.now (λ i. (c.type_inv.bytes i).fits) c.in-Ok.count c.num.new.self counted) c.in-Err-read_directory.ensures.gives

pub returns-then-left-gt0 : goal.returns-then-left-gt0
returns-then-left-gt0 c =
    let counted : read_part num (start_of c.args.bytes.now) ≡ Ok (c.in-Ok.count, c.num.new.self) = rw c.at-cur.ensures at c.in-Ok.ensures.takes in
    rw (c.at-then-left-gt0.ensures, c.place.ensures) (
      refl,
      none-left c.args.bytes.now (λ i. (c.type_inv.bytes i).fits) c.in-Ok.count c.num.new.self counted c.in-Ok-read_directory.directory c.read_directory.new.cur c.in-Ok-read_directory.ensures.gives
          (c.in-Ok-read_directory.ensures.count ∙ c.if-count-eq0.true) (omega (arith, c.left.ensures, c.if-left-gt0.true)),
    )

pub returns : goal.returns
returns c =
    let counted : read_part num (start_of c.args.bytes.now) ≡ Ok (c.in-Ok.count, c.num.new.self) = rw c.at-cur.ensures at c.in-Ok.ensures.takes in
    let end : c.in-Ok.count ≡ 0 → length c.read_directory.new.cur.rest ≡ 0 =
    λ none. elim c.else-count-eq0.branch [
      | else-count-eq0-via-then-count-eq0+else-left-gt0 w ↦ omega (arith, w.left.ensures, w.if-left-gt0.false)
      | else-count-eq0-via-else-count-eq0 w ↦ absurd (w.if-count-eq0.false none)
    ] in
    all-read c.args.bytes.now (λ i. (c.type_inv.bytes i).fits) c.in-Ok.count c.num.new.self counted c.in-Ok-read_directory.directory c.read_directory.new.cur c.in-Ok-read_directory.ensures.gives
    c.in-Ok-read_directory.ensures.count c.in-Ok-read_directory.ensures.good end
