use Rattle.std.proofs.Common.{ℕ, subst}
use Rattle.std.specs.Option.{option_copied}
use Rattle.std.proofs.lemmas.Result.{IfOk-weaker}
use Rattle.lu_types.specs.FilePlans.{StandFor}
use Rattle.stored_fields.specs.Stores.{all_files}
use Rattle.lu_reads.specs.Needs.{document_files}
use Rattle.lu_reads.specs.FilesDue.{IsFaultIn}
use Rattle.lu_reads.proofs.OpeningLemmas.{fault-store, stand-store}
use Rattle.lu_reads.proofs.StopLemmas.{stops-wider}
use Rattle.lu_reads.proofs.judging.opened_documents.Goals as goal

pub returns-in-Ok-clause-stands : goal.returns-in-Ok-clause-stands
returns-in-Ok-clause-stands c =
    let fdx = option_copied c.args.fdx in
    let fdt = option_copied c.args.fdt in
    IfOk-weaker c.opened_store.result _ _
    (λ view stand. stand-store fdx fdt (option_copied c.args.fnm) c.in-Ok.table view c.in-Ok.ensures.stands (subst (λ (fields : ℕ). StandFor (all_files fields fdx fdt) view) c.count.ensures.count stand))
    c.opened_store.ensures.stands

pub returns-in-Ok-clause-said : goal.returns-in-Ok-clause-said
returns-in-Ok-clause-said c =
    let segment = c.args.segment.now in
    let fnm = option_copied c.args.fnm in
    let fdx = option_copied c.args.fdx in
    let fdt = option_copied c.args.fdt in
    stops-wider (IsFaultIn segment (all_files c.count.result fdx fdt)) (IsFaultIn segment (document_files fnm fdx fdt))
    (λ outcome fault. fault-store segment fdx fdt outcome fnm c.in-Ok.table c.in-Ok.ensures.stands (subst (λ (fields : ℕ). IsFaultIn segment (all_files fields fdx fdt) outcome) c.count.ensures.count fault))
    c.opened_store.result c.opened_store.ensures.said
