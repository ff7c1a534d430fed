use Rattle.std.proofs.Common.{◌≡◌, take}
use Rattle.std.specs.BTreeSet.{contains}
use Rattle.std.specs.List.{list_any}
use Rattle.segment_infos.specs.declared.naming.LuceneName.{LuceneName}
use Rattle.segment_infos.specs.contracts.naming.LuceneNameOrd.TheImpl.{cmp-value as name_order}
use Rattle.segment_infos.proofs.NameSets.{is_same}
use Rattle.segment_infos.proofs.name_set.NameSet.of.Given as goal

-- the set has the names so far
abbrev pub invariant-loop-name : goal.invariant-loop-name
invariant-loop-name l = (q : LuceneName) → contains name_order.it l.set q ≡ list_any (is_same q) (take l.name-index l.names)
