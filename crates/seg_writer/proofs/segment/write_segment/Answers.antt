use Rattle.std.proofs.Common.{length, refl}
use Rattle.seg_writer.proofs.SegmentLemmas.{packing-fault, parts-fault, segment-told}
use Rattle.seg_writer.proofs.segment.write_segment.Goals as goal

pub returns-in-Err-parts_of : goal.returns-in-Err-parts_of
returns-in-Err-parts_of c = parts-fault c.args.options.now c.args.docs.now (record { none = c.in-Ok.ensures.0; made = c.in-Ok.ensures.1 }) c.in-Err-parts_of.fault c.in-Err-parts_of.ensures

pub returns-in-Err-files_of : goal.returns-in-Err-files_of
returns-in-Err-files_of c =
    packing-fault c.args.options.now c.args.docs.now (record { none = c.in-Ok.ensures.0; made = c.in-Ok.ensures.1 }) c.in-Ok-parts_of.parts c.in-Err-files_of.fault c.in-Ok-parts_of.ensures c.in-Err-files_of.ensures

pub returns : goal.returns
returns c =
    segment-told c.args.options.now c.args.docs.now (record { none = c.in-Ok.ensures.0; made = c.in-Ok.ensures.1 }) c.in-Ok-parts_of.parts c.in-Ok-files_of.files c.new.result (length c.args.docs.now) c.in-Ok-parts_of.ensures c.in-Ok-files_of.ensures c.new.ensures refl
