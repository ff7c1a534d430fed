use Rattle.std.proofs.Common.{sym, ◌∙◌}
use Rattle.segment_infos.proofs.NameSpelled.{TellsName-lucene_name_in}
use Rattle.segment_infos.proofs.KeptNames.{free-named, free-unnamed}
use Rattle.segment_infos.proofs.removing.is_free.Goals as goal

pub returns-in-None : goal.returns-in-None
returns-in-None c all own same = free-unnamed c.args.text.now all (sym (TellsName-lucene_name_in c.args.text.now c.name_value.result c.name_value.ensures) ∙ c.in-None.is)

pub returns-in-Some : goal.returns-in-Some
returns-in-Some c all own same =
    free-named c.args.text.now c.in-Some.name c.has.result c.args.kept.now all c.in-Some.ensures c.has.ensures own same (sym (TellsName-lucene_name_in c.args.text.now c.name_value.result c.name_value.ensures) ∙ c.in-Some.is)
