use Rattle.std.proofs.Common.{◌<◌, [], ◌∷◌, ◌++◌, length, map, None, sym, ap, ◌∙◌, arith}
use Rattle.std.specs.Prelude.{option_copied}
use Rattle.std.proofs.lemmas.List.{map-append}
use Rattle.check_index.specs.Norms.{FieldNorms}
use Rattle.check_index.proofs.NormLemmas.{no_column, none-more}
use Rattle.check_index.proofs.norms.no_norms.Goals as goal

pub loop-number-preserved : goal.loop-number-preserved
loop-number-preserved c =
    let lt : c.loop-number._number < length c.args.fields.now = omega (arith, c.count-number-end.ensures.count) in
    ap (map option_copied) c.in_ok-push.ensures.items
    ∙ map-append option_copied c.loop-number.columns.items (None ∷ [])
    ∙ ap (λ (norms : FieldNorms). norms ++ no_column ∷ []) c.loop-number.invariant
    ∙ sym (none-more c.loop-number._number c.args.fields.now lt)
