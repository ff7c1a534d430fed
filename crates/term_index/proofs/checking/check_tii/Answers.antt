use Rattle.std.specs.Prelude.{Result, Ok, Err, IfOk, IfErr}
use Rattle.std.proofs.Common.{◌≡◌, ℕ, List}
use Rattle.lu_grammar.specs.Bytes.{IsBytes}
use Rattle.lu_grammar.specs.Meaning.{Reads}
use Rattle.lu_grammar.specs.Plans.{Plan, read_file}
use Rattle.lu_grammar.proofs.Files.{Reads-from}
use Rattle.lu_types.specs.declared.fault.CodecFault.{CodecFault}
use Rattle.lu_types.specs.declared.kind.FileKind.TheVariants.{Tii}
use Rattle.lu_types.specs.declared.kind.FileKind.{FileKind}
use Rattle.lu_types.specs.Judging.{IsBrokenSo, IsFault}
use Rattle.term_dict.specs.Index.{tii_plan}
use Rattle.term_dict.proofs.FileLemmas.{IsFault-from}
use Rattle.term_index.proofs.checking.check_tii.Goals as goal

reads : {A R : Type 0} (plan : Plan (Unit {0}) R) (bytes : List ℕ) (r : Result A CodecFault) → IsBytes bytes → IfOk r (λ _. read_file plan bytes ≡ Ok tt) → IfOk r (λ _. Reads plan bytes tt)
reads plan bytes (Ok x) fits e = Reads-from plan bytes tt fits e
reads plan bytes (Err x) fits e = tt

faults : {A R : Type 0} (kind : FileKind) (plan : Plan (Unit {0}) R) (bytes : List ℕ) (r : Result A CodecFault) → IsBytes bytes → IfErr r (IsBrokenSo kind (read_file plan bytes)) → IfErr r (IsFault kind plan bytes)
faults kind plan bytes (Ok x) fits e = tt
faults kind plan bytes (Err fault) fits e = IsFault-from kind plan bytes fault fits e

pub returns-clause-ok : goal.returns-clause-ok
returns-clause-ok c = reads (tii_plan c.args.terms.now) c.args.tii.now c.check_bytes.result (λ i. (c.type_inv.tii i).fits) c.check_bytes.ensures.ok

pub returns-clause-err : goal.returns-clause-err
returns-clause-err c = faults Tii (tii_plan c.args.terms.now) c.args.tii.now c.check_bytes.result (λ i. (c.type_inv.tii i).fits) c.check_bytes.ensures.err
