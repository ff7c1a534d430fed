use Rattle.std.proofs.Common.{List, ℕ, Option, Some, ap, ◌∙◌}
use Rattle.std.specs.Prelude.{option_copied, slice_set}
use Rattle.std.proofs.lemmas.List.{map-set}
use Rattle.check_index.proofs.norms.FieldNorms.set.Goals as goal

pub returns : goal.returns
returns c =
    map-set option_copied c.self.inside.columns.items c.args.number (Some c.args.column)
    ∙ ap (λ (norms : List (Option (List ℕ))). slice_set norms c.args.number (Some c.args.column.now)) c.self.view_is
