use Rattle.std.proofs.Common.{◌≡◌, ◌^◌, ◌-◌, ◌<◌, ◌∷◌, ◌++◌, [], List, length, None, ap, subst, sym, ◌∙◌}
use Rattle.std.specs.Prelude.{OnOk}
use Rattle.lu_types.specs.Tables.{TableField, number_of, IsTable}
use Rattle.lu_types.proofs.JoinLemmas.{join_field-new}
use Rattle.lu_types.proofs.NumberLemmas.{IsTable_push}
use Rattle.lu_types.proofs.table.FieldTable.push.Goals as goal
use Rattle.lu_types.proofs.table.FieldTable.push.Goals.{in-Ok, in-Err}

-- a table with a field of a new name is a table
pub invariant_of-self : goal.invariant_of-self
invariant_of-self c =
    let old = c.self.inside.fields in
    let last : TableField = record { name = c.args.name.now; bits = c.args.bits } in
    let new : number_of last.name old ≡ None = ap (number_of last.name) c.self.view_is ∙ c.requires.new in
    let room : length old < 2 ^ 31 - 1 = subst (λ n. n < 2 ^ 31 - 1) (sym (ap length c.self.view_is)) c.requires.room in
    elim c.match-push.branch [
      | in-Ok w ↦ subst IsTable (sym (w.in-Ok.ensures.joined ∙ join_field-new old last new)) (IsTable_push last.name last.bits old new c.requires.clear room c.self.invariant)
      | in-Err w ↦ subst IsTable (sym w.in-Err.ensures.err) c.self.invariant
    ]

-- the new name goes last
pub returns-clause-ok : goal.returns-clause-ok
returns-clause-ok c =
    let last : TableField = record { name = c.args.name.now; bits = c.args.bits } in
    let new : number_of last.name c.self.inside.fields ≡ None = ap (number_of last.name) c.self.view_is ∙ c.requires.new in
    elim c.match-push.branch [
      | in-Ok w ↦ subst (λ r. OnOk r (c.push.new.self ≡ c.args.self.now ++ last ∷ [])) (sym w.result-is)
          (w.in-Ok.ensures.joined ∙ join_field-new c.self.inside.fields last new ∙ ap (λ (t : List TableField). t ++ last ∷ []) c.self.view_is)
      | in-Err w ↦ subst (λ r. OnOk r (c.push.new.self ≡ c.args.self.now ++ last ∷ [])) (sym w.result-is) tt
    ]
