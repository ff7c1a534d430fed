use Rattle.std.proofs.Common.{pos}
use Rattle.lu_grammar.specs.Parts.{int32, int64, text, spelling}
use Rattle.lu_types.specs.Names.{segment_name}
use Rattle.segment_infos.specs.Numbers.{number_or_none}
use Rattle.segment_infos.specs.Spelling.{store_bytes}
use Rattle.segment_infos.proofs.PutLemmas.{if_ok, put-four}
use Rattle.segment_infos.proofs.writing.put_front.Goals as goal

pub returns : goal.returns
returns c =
    let s = c.args.info.now in
    if_ok c.put_store.result
    (put-four c.args.out.now.items (spelling text (segment_name s.number)) (spelling int32 (pos s.size)) (spelling int64 (number_or_none s.del_gen)) (store_bytes s.store) c.put_name.new.out.items c.put_count.new.out.items
    c.put_generation.new.out.items c.put_store.new.out.items c.in_ok-put_name.ensures c.in_ok-put_count.ensures c.in_ok-put_generation.ensures)
    c.put_store.ensures
