use Rattle.std.proofs.Common.{◌≡◌, ◌∷◌, ◌++◌, [], List, Some, None, map, length, ap, subst, sym, ◌∙◌, arith}
use Rattle.std.proofs.lemmas.List.{map-append, length-map}
use Rattle.lu_types.specs.Tables.{TableField, number_of, HasNumbers}
use Rattle.lu_types.specs.Fields.{table_field}
use Rattle.lu_types.proofs.JoinLemmas.{join_field-new}
use Rattle.lu_types.proofs.NumberLemmas.{HasNumbers_push, number_of-new}
use Rattle.lu_types.proofs.joined.JoinedTable.push.Goals as goal

-- the new name has the number of fields before, and the other names keep theirs
pub invariant_of-self-in-Ok : goal.invariant_of-self-in-Ok
invariant_of-self-in-Ok c =
    let old : List TableField = map table_field c.self.inside.fields.items in
    let last : TableField = record { name = c.args.name.now; bits = c.args.bits } in
    let items : map table_field c.push.new.self.items ≡ old ++ last ∷ [] = ap (map table_field) c.in_ok-push.ensures.items ∙ map-append table_field c.self.inside.fields.items _ in
    let new : number_of c.args.name.now old ≡ None = ap (number_of c.args.name.now) c.self.view_is ∙ c.requires in
    let number : c.len-number.result ≡ length old = omega (arith, length-map c.self.inside.fields.items table_field) in
    subst (HasNumbers c.insert.new.self) (sym items) (HasNumbers_push c.args.name c.args.bits _ old c.self.inside.numbers c.insert.new.self new number c.self.invariant c.in-Ok.ensures.updates)

-- the new name goes last
pub returns-in-Ok-clause-joined : goal.returns-in-Ok-clause-joined
returns-in-Ok-clause-joined c =
    let last : TableField = record { name = c.args.name.now; bits = c.args.bits } in
    ap (map table_field) c.in_ok-push.ensures.items ∙ map-append table_field c.self.inside.fields.items _ ∙ ap (λ (t : List TableField). t ++ last ∷ []) c.self.view_is ∙ sym (join_field-new c.args.self.now last c.requires)

pub returns-in-Ok-clause-number : goal.returns-in-Ok-clause-number
returns-in-Ok-clause-number c =
    let old : List TableField = map table_field c.self.inside.fields.items in
    let last : TableField = record { name = c.args.name.now; bits = c.args.bits } in
    let new : number_of c.args.name.now old ≡ None = ap (number_of c.args.name.now) c.self.view_is ∙ c.requires in
    let number : length old ≡ c.len-number.result = omega (arith, length-map c.self.inside.fields.items table_field) in
    ap (number_of c.args.name.now) (ap (map table_field) c.in_ok-push.ensures.items ∙ map-append table_field c.self.inside.fields.items _)
    ∙ number_of-new c.args.name.now c.args.bits old new ∙ ap Some number
