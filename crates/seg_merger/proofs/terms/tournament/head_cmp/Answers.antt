use Rattle.std.proofs.Common.{ap, sym, ◌∙◌, None}
use Rattle.std.specs.Prelude.{option_map}
use Rattle.std.proofs.lemmas.Cmp.{tied_itself}
use Rattle.lu_model.proofs.Alike.{term_order}
use Rattle.seg_merger.specs.TermHeads.{head_order, name_or_empty}
use Rattle.seg_merger.specs.TermSources.{term_named}
use Rattle.seg_merger.proofs.terms.tournament.head_cmp.Goals as goal

pub returns-in-None-None : goal.returns-in-None-None
returns-in-None-None c = sym (ap (λ p. head_order (option_map term_named p) (option_map term_named c.args.b)) c.in-None-None.is-0 ∙ ap (λ p. head_order None (option_map term_named p)) c.in-None-None.is-1 ∙ tied_itself term_order (name_or_empty None))
