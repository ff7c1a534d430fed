use Rattle.std.proofs.Common.{◌≡◌, ◌+◌, ◌++◌, [], ◌∷◌, ap, sym, ◌∙◌, Option, List, ℕ, map, arith}
use Rattle.std.specs.Option.{option_copied}
use Rattle.std.specs.List.{range_with_len}
use Rattle.std.proofs.lemmas.List.FromFn.{map-range_with_len_more}
use Rattle.lu_types.specs.declared.kind.FileKind.TheVariants as kinds
use Rattle.lu_reads.specs.Finding.{file_among}
use Rattle.lu_reads.proofs.finding.separate.Goals as goal

pub loop-field-preserved : goal.loop-field-preserved
loop-field-preserved c =
    let file : ℕ → Option (List ℕ) = λ field. file_among c.args.loaded.now.names c.args.loaded.now.found c.args.info.now (kinds.Sep field) in
    let field = c.loop-field.field in
    let from : 0 + field ≡ field = omega arith in
    let more = map-range_with_len_more file 0 field field from in
    let here = c.in_ok-file.ensures in
    let pushed = c.in_ok-push.ensures.ok in
    (omega (arith, c.loop-field-test.true), pushed ∙ ap (λ (files : List (Option (List ℕ))). files ++ option_copied c.in_ok-file.field-0 ∷ []) c.loop-field.invariant.1 ∙ ap (λ (f : Option (List ℕ)). map file (range_with_len 0 field) ++ f ∷ []) here ∙ sym more)
