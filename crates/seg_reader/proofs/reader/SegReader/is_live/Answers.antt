use Rattle.std.proofs.Common.{Bool, false, not, List, length, get_or, ap, ◌∙◌, arith}
use Rattle.doc_marks.specs.Marking.{is_in}
use Rattle.doc_marks.proofs.MarkLemmas.{length-flags_of}
use Rattle.check_index.specs.Segments.{SegmentValue}
use Rattle.seg_reader.proofs.ReaderLemmas.{is_in-marked}
use Rattle.seg_reader.proofs.reader.SegReader.is_live.Goals as goal

pub is_set-requires : goal.is_set-requires
is_set-requires c =
    let s = c.self.inside.standing in
    omega (arith, ap length c.self.invariant.deleted, length-flags_of 0 s.index.size s.index.deleted, ap (λ (x : SegmentValue). x.index.size) c.self.view_is, c.requires)

pub returns : goal.returns
returns c =
    let s = c.self.inside.standing in
    let doc = c.args.doc in
    let marked = is_in-marked s.index.size doc s.index.deleted (omega (arith, ap (λ (x : SegmentValue). x.index.size) c.self.view_is, c.requires)) in
    ap not (c.is_set.ensures ∙ ap (λ (fs : List Bool). get_or fs doc false) c.self.invariant.deleted ∙ marked ∙ ap (λ (x : SegmentValue). is_in doc x.index.deleted) c.self.view_is)
