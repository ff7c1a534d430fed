use Rattle.std.proofs.Common.{sym, ap, ◌∙◌}
use Rattle.std.specs.Prelude.{List, option_map, slice_get}
use Rattle.lu_types.specs.Fields.{table_field}
use Rattle.lu_types.specs.Tables.{TableField}
use Rattle.seg_merger.specs.TermRests.{Rest}
use Rattle.seg_merger.specs.TermSources.{first_term}
use Rattle.seg_merger.proofs.SlotLemmas.{head-term, no-field}
use Rattle.seg_merger.proofs.terms.slot.Slot.head.Goals as goal

pub unreachable-requires : goal.unreachable-requires
unreachable-requires c =
    no-field c.self.inside c.self.invariant c.in-Some.info c.in-Some.is
    (ap (option_map table_field) (sym c.in-None-field.is) ∙ c.field.ensures ∙ ap (λ (fs : List TableField). slice_get fs c.in-Some.info.field) c.fields.ensures)

pub returns-in-Some-field : goal.returns-in-Some-field
returns-in-Some-field c =
    head-term c.self.inside c.self.invariant c.in-Some.info c.in-Some.is c.in-Some-field.field c.text.result.now
    (ap (option_map table_field) (sym c.in-Some-field.is) ∙ c.field.ensures ∙ ap (λ (fs : List TableField). slice_get fs c.in-Some.info.field) c.fields.ensures)
    c.text.ensures
    ∙ ap (λ (r : Rest). first_term r.left) c.self.view_is
