use Rattle.std.proofs.Common.{ap, sym, ◌∙◌}
use Rattle.segment_infos.specs.Generations.{generation_named}
use Rattle.segment_infos.proofs.NameSpelled.{TellsName-lucene_name_in}
use Rattle.segment_infos.proofs.listing.generation_in.Goals as goal

pub returns : goal.returns
returns c = c.generation_of.ensures ∙ ap generation_named (sym c.in_ok-name.was ∙ TellsName-lucene_name_in c.args.text.now c.name_value.result c.name_value.ensures)

pub returns-in_err-name : goal.returns-in_err-name
returns-in_err-name c = c.from_residual.ensures ∙ ap generation_named (sym c.in_err-name.was ∙ TellsName-lucene_name_in c.args.text.now c.name_value.result c.name_value.ensures)
