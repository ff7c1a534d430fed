use Rattle.std.proofs.Common.{◌≡◌, ◌<◌, ◌+◌, ℕ, List, length, Some, Ok, Err, true, sym, ap, subst, ◌∙◌, refl, arith}
use Rattle.std.specs.Prelude.{slice_set}
use Rattle.std.proofs.lemmas.List.{length-set}
use Rattle.std.specs.Borrow.{Bor}
use Rattle.lu_types.specs.FilePlans.{StandFor}
use Rattle.lu_types.proofs.FileLaws.{each_file-none}
use Rattle.check_index.specs.Norms.{FieldNorms, is_separate, needed_file, separate_file, separate_files}
use Rattle.check_index.proofs.FileSteps.{judges-asked, stand-unasked}
use Rattle.check_index.proofs.NormLemmas.{numbered-more, numbered-fault}
use Rattle.check_index.proofs.norms.open_separate.Goals as goal
use Rattle.check_index.proofs.norms.open_separate.Goals.{then-is_separate+in-Ok, else-is_separate}

pub loop-number-init : goal.loop-number-init
loop-number-init c = (c.requires, each_file-none (separate_file c.args.info.now.norm_gens c.args.fields.now c.args.info.now.size c.args.files.now) c.args.norms)

pub returns-in-Err-clause-judged : goal.returns-in-Err-clause-judged
returns-in-Err-clause-judged c =
    let gens = c.args.info.now.norm_gens in
    let fields = c.args.fields.now in
    let size = c.args.info.now.size in
    let files = c.args.files.now in
    let number = c.loop-number.number in
    let norms = c.loop-number.norms in
    let lt : number < length fields = omega (arith, c.count-number-end.ensures.count) in
    let view = λ (column : Bor (List ℕ)). slice_set norms number (Some column.now) in
    let asked : is_separate gens fields number ≡ true = sym c.is_separate.ensures ∙ c.if-is_separate.true in
    numbered-fault (separate_file gens fields size files) c.args.norms view (λ (n : FieldNorms). n) number (length fields) norms c.in-Err.fault lt c.loop-number.invariant.1
    (judges-asked view (is_separate gens fields number) norms (needed_file size files number norms) (Err c.in-Err.fault) asked (c.in-Err.ensures.judged norms))

pub loop-number-preserved : goal.loop-number-preserved
loop-number-preserved c =
    let gens = c.args.info.now.norm_gens in
    let fields = c.args.fields.now in
    let size = c.args.info.now.size in
    let files = c.args.files.now in
    let number = c.loop-number.number in
    let norms = c.loop-number.norms in
    let test = is_separate gens fields number in
    let file = needed_file size files number norms in
    let all = separate_file gens fields size files in
    elim c.if-is_separate.branch [
      | then-is_separate+in-Ok w ↦
          let column = w.in-Ok.column in
          let set = slice_set norms number (Some column.now) in
          let is : c.if-is_separate.norms ≡ set = w.norms-is ∙ w.set.ensures in
          let here = judges-asked (λ (b : Bor (List ℕ)). slice_set norms number (Some b.now)) test norms file (Ok column) (sym c.is_separate.ensures ∙ w.if-is_separate.true) (w.in-Ok.ensures.judged norms) in (
            ap length is ∙ length-set norms number (Some column.now) ∙ c.loop-number.invariant.0,
            subst (λ (found : FieldNorms). StandFor (separate_files gens fields size files (number + 1) c.args.norms) found) (sym is) (numbered-more all c.args.norms number norms set c.loop-number.invariant.1 here),
          )
      | else-is_separate w ↦
          let here = stand-unasked test norms norms file (sym c.is_separate.ensures ∙ w.if-is_separate.false) refl in (
            ap length w.norms-is ∙ c.loop-number.invariant.0,
            subst (λ (found : FieldNorms). StandFor (separate_files gens fields size files (number + 1) c.args.norms) found) (sym w.norms-is) (numbered-more all c.args.norms number norms norms c.loop-number.invariant.1 here),
          )
    ]
