use Rattle.std.proofs.Common.{sym, ap, arith}
use Rattle.check_index.specs.Segments.{SegmentValue}
use Rattle.seg_reader.proofs.ReaderLemmas.{length-file_at}
use Rattle.seg_reader.proofs.reader.SegReader.norm.Goals as goal

pub bounds-column-doc : goal.bounds-column-doc
bounds-column-doc c =
    let i = c.self.inside.standing.index in
    let long = length-file_at i.size i.fields i.norms c.args.field c.in-Some.column.now c.size-size.ensures.valid.norms (sym c.in-Some.ensures) in
    omega (arith, long, ap (λ (x : SegmentValue). x.index.size) c.self.view_is, c.requires)
