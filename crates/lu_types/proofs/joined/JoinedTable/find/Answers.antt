use Rattle.std.proofs.Common.{◌<◌, Option, ℕ, length, ap, ◌∙◌, sym, subst}
use Rattle.std.specs.Prelude.{IfSome}
use Rattle.lu_types.specs.Tables.{number_of}
use Rattle.lu_types.proofs.NumberLemmas.{number_of-lt}
use Rattle.lu_types.proofs.joined.JoinedTable.find.Goals as goal

-- the number of a name is below the number of fields
pub returns-clause-below : goal.returns-clause-below
returns-clause-below c =
    let found = c.copied.ensures ∙ c.get.ensures.value ∙ c.self.invariant c.args.name.now ∙ ap (number_of c.args.name.now) c.self.view_is in
    subst (λ (o : Option ℕ). IfSome o (λ number. number < length c.args.self.now)) (sym found) (number_of-lt c.args.name.now c.args.self.now)
