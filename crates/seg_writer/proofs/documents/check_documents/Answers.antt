use Rattle.std.proofs.Common.{◌≡◌, ap, sym, ◌∙◌, subst, All, Ok, None}
use Rattle.std.proofs.lemmas.List.{take_all}
use Rattle.std.proofs.lemmas.List.Elements.{All-more}
use Rattle.lu_types.specs.Documents.{IsDocument}
use Rattle.lu_types.specs.DocFaults.{doc_fault}
use Rattle.seg_writer.proofs.FaultLemmas.{faulty-next, faulty-here, faulty-end}
use Rattle.seg_writer.proofs.documents.check_documents.Goals as goal

pub loop-number-preserved : goal.loop-number-preserved
loop-number-preserved c =
    let doc = c.index-docs-number.result in
    let docs = c.args.docs.now in
    let i = c.loop-number.number in
    let none : doc_fault doc c.args.limits.now ≡ None = sym c.in-Ok-None.ensures.fault ∙ c.in-Ok-None.field-0-is in
    let texts : IsDocument doc = c.first_fault.ensures.texts (c.in-Ok-None.is ∙ ap Ok c.in-Ok-None.field-0-is) in (
      c.loop-number.invariant.0 ∙ faulty-next c.args.limits.now docs i doc c.loop-number-test.true c.index-docs-number.is none,
      All-more IsDocument docs i doc c.loop-number-test.true c.loop-number.invariant.1 (subst IsDocument c.index-docs-number.is texts),
    )

pub returns-in-Ok-Some : goal.returns-in-Ok-Some
returns-in-Ok-Some c =
    let doc = c.index-docs-number.result in
    c.loop-number.invariant.0 ∙ faulty-here c.args.limits.now c.args.docs.now c.loop-number.number doc c.in-Ok-Some.fault c.loop-number-test.true c.index-docs-number.is (sym c.in-Ok-Some.ensures.fault ∙ c.in-Ok-Some.field-0-is)

pub returns : goal.returns
returns c = (
  c.loop-number.invariant.0 ∙ faulty-end c.args.limits.now c.args.docs.now c.loop-number.number c.loop-number-test.false,
  subst (All IsDocument) (take_all c.loop-number.number c.args.docs.now c.loop-number-test.false) c.loop-number.invariant.1,
)
