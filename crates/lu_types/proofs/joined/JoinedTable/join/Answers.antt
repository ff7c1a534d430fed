use Rattle.std.proofs.Common.{◌≡◌, List, Some, map, ap, subst, sym, ◌∙◌}
use Rattle.lu_types.specs.Tables.{TableField, number_of, HasNumbers}
use Rattle.lu_types.specs.Fields.{table_field}
use Rattle.lu_types.specs.Joins.{join_field}
use Rattle.lu_types.proofs.JoinLemmas.{join_field-lent, number_of-join_field, HasNumbers_join}
use Rattle.lu_types.proofs.joined.JoinedTable.join.Goals as goal

-- names keep their numbers
pub invariant_of-self : goal.invariant_of-self
invariant_of-self c =
    let old : List TableField = map table_field c.self.inside.fields.items in
    let new : TableField = record { name = c.args.name.now; bits = c.args.bits } in
    let there : number_of new.name old ≡ Some c.in-Some.number = ap (number_of new.name) c.self.view_is ∙ sym c.in-Some.ensures.found in
    let is = join_field-lent c.self.inside.fields.items new c.in-Some.number c.join_bits-field.result c.index_mut-field.result.now there c.index_mut-field.ensures.value c.join_bits-field.ensures in
    subst (HasNumbers c.self.inside.numbers) (sym is) (HasNumbers_join c.self.inside.numbers old new c.in-Some.number c.self.invariant there)

-- the bits of the field are joined
pub returns-in-Some-clause-joined : goal.returns-in-Some-clause-joined
returns-in-Some-clause-joined c =
    let new : TableField = record { name = c.args.name.now; bits = c.args.bits } in
    let there = ap (number_of new.name) c.self.view_is ∙ sym c.in-Some.ensures.found in
    join_field-lent c.self.inside.fields.items new c.in-Some.number c.join_bits-field.result c.index_mut-field.result.now there c.index_mut-field.ensures.value c.join_bits-field.ensures
    ∙ ap (λ (t : List TableField). join_field t new) c.self.view_is

-- the name has the number that it had
pub returns-in-Some-clause-number : goal.returns-in-Some-clause-number
returns-in-Some-clause-number c =
    let old : List TableField = map table_field c.self.inside.fields.items in
    let new : TableField = record { name = c.args.name.now; bits = c.args.bits } in
    let there : number_of new.name old ≡ Some c.in-Some.number = ap (number_of new.name) c.self.view_is ∙ sym c.in-Some.ensures.found in
    ap (number_of new.name) (join_field-lent c.self.inside.fields.items new c.in-Some.number c.join_bits-field.result c.index_mut-field.result.now there c.index_mut-field.ensures.value c.join_bits-field.ensures)
    ∙ number_of-join_field new.name old new c.in-Some.number there ∙ there
