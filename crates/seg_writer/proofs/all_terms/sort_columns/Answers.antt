use Rattle.std.proofs.Common.{rules, is_lt}
use Rattle.std.proofs.lemmas.List.Sorted.{answers_always, ranks_by}
use Rattle.lu_prims.specs.Order.{text_cmp}
use Rattle.lu_prims.proofs.Units.{text_order}
use Rattle.seg_writer.specs.declared.terms.KeptColumn.{KeptColumn}
use Rattle.seg_writer.proofs.all_terms.sort_columns.Goals as goal

pub returns-clause-sorted : goal.returns-clause-sorted
returns-clause-sorted c =
    c.sort_unstable_by.ensures.sorted (λ (x y : KeptColumn). is_lt (text_cmp x.name.now y.name.now)) (ranks_by text_order (λ (x : KeptColumn). x.name.now)) (answers_always _ _ _ (λ f a r g h. search rules))
