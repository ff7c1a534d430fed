use Rattle.std.proofs.Common.{rules, is_lt}
use Rattle.std.proofs.lemmas.Fn.{always_returns_same}
use Rattle.std.proofs.lemmas.List.Sorted.{ranks_by}
use Rattle.seg_writer.specs.declared.inverted.Use.{Use}
use Rattle.seg_writer.specs.SortedUses.{use_cmp}
use Rattle.seg_writer.proofs.UseOrder.{use_total}
use Rattle.seg_writer.proofs.sorted_uses.sort.Goals as goal

pub returns-clause-sorted : goal.returns-clause-sorted
returns-clause-sorted c =
    c.sort_unstable_by.ensures.sorted (λ (x y : Use). is_lt (use_cmp c.args.column.now x y)) (ranks_by (use_total c.args.column.now) (λ (u : Use). u)) (always_returns_same _ _ _ (λ a r g h. search rules))
