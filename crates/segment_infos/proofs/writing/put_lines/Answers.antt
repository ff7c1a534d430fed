use Rattle.std.proofs.Common.{[], sym}
use Rattle.segment_infos.specs.Spelling.{line_bytes}
use Rattle.segment_infos.proofs.PutLemmas.{put-more}
use Rattle.segment_infos.proofs.writing.put_lines.Goals as goal

pub loop-info-preserved : goal.loop-info-preserved
loop-info-preserved c =
    put-more line_bytes c.args.out.now.items [] c.args.segments.now c.loop-info.info-index c.info-item.result c.loop-info.out.items c.put_line.new.out.items c.loop-info-test.true (sym c.info-item.is) c.loop-info.invariant c.in_ok-put_line.ensures
