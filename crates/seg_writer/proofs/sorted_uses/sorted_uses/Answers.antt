use Rattle.std.proofs.Common.{◌≡◌, subst, IsPermutation, IsUtf8}
use Rattle.std.proofs.lemmas.List.Sorted.{All-permutation}
use Rattle.seg_writer.specs.declared.inverted.Use.{Use}
use Rattle.seg_writer.specs.Heads.{text_head}
use Rattle.seg_writer.specs.Columns.{all_uses}
use Rattle.seg_writer.specs.SortedUses.{text_at}
use Rattle.seg_writer.proofs.AllUsesLemmas.{all-own, all-utf8}
use Rattle.seg_writer.proofs.sorted_uses.sorted_uses.Goals as goal

pub returns : goal.returns
returns c =
    let column = c.args.column.now in
    let sorted = c.sort.new.uses.items in
    let moved = subst (λ w. IsPermutation w sorted) c.in_ok-uses.ensures.uses c.sort.ensures.permutation in
    record {
      all = moved;
      sorted = c.sort.ensures.sorted;
      utf8 = All-permutation (λ here. IsUtf8 (text_at column here)) (all_uses column) sorted moved (all-utf8 column c.in_ok-uses.ensures.utf8);
      own = All-permutation (λ (here : Use). here.head ≡ text_head (text_at column here)) (all_uses column) sorted moved (all-own column);
    }
