use Rattle.std.proofs.Common.{get_or, ap, ◌∙◌}
use Rattle.std.specs.BTreeSet.{contains}
use Rattle.std.specs.List.{list_any}
use Rattle.std.proofs.lemmas.List.{take_all}
use Rattle.segment_infos.specs.declared.naming.LuceneName.{LuceneName}
use Rattle.segment_infos.specs.declared.naming.LuceneName.TheVariants.{Commit}
use Rattle.segment_infos.proofs.PutLemmas.{get_or-any}
use Rattle.segment_infos.specs.contracts.naming.LuceneNameOrd.TheImpl.{cmp-value as name_order}
use Rattle.segment_infos.proofs.NameSets.{is_same, any-more, keys-HasNames}
use Rattle.segment_infos.proofs.name_set.NameSet.of.Goals as goal

pub loop-name-preserved : goal.loop-name-preserved
loop-name-preserved c q =
    let names = c.args.names.now in
    let i = c.loop-name.name-index in
    let name : LuceneName = get_or names i (Commit 0) in
    any-more q name names i (contains name_order.it c.loop-name.set q) (contains name_order.it c.insert.new.self q) c.loop-name-test.true (get_or-any names i (Commit 0) name c.loop-name-test.true) (c.loop-name.invariant q) (c.in_ok-insert.ensures.updates.0 q)

pub returns : goal.returns
returns c = keys-HasNames c.loop-name.set.keys c.args.names.now (λ q. c.loop-name.invariant q ∙ ap (list_any (is_same q)) (take_all c.loop-name.name-index c.args.names.now c.loop-name-test.false))
