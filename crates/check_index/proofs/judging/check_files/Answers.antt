use Rattle.std.proofs.Common.{refl}
use Rattle.lu_types.specs.FilePlans.{StandFor}
use Rattle.check_index.specs.Files.{folder_of}
use Rattle.check_index.specs.Locating.{part_files_of}
use Rattle.check_index.specs.Segments.{SegmentValue, segment_value, segment_files}
use Rattle.check_index.specs.Opened.{contents_of, columns_of}
use Rattle.check_index.proofs.LocatedLemmas.{located-short}
use Rattle.check_index.proofs.ContentFiles.{located-fault, contents-fault, columns-fault, segment-stands}
use Rattle.check_index.proofs.VectorFiles.{contents-within}
use Rattle.check_index.proofs.ValidSegment.{index-valid}
use Rattle.check_index.proofs.judging.check_files.Goals as goal

pub open_contents-requires-clause-short : goal.open_contents-requires-clause-short
open_contents-requires-clause-short c = located-short (folder_of c.args.parts.now) c.args.info.now (part_files_of c.in-Ok.files) c.requires.short c.in-Ok.ensures

pub open_columns-requires-clause-short : goal.open_columns-requires-clause-short
open_columns-requires-clause-short c = (located-short (folder_of c.args.parts.now) c.args.info.now (part_files_of c.in-Ok.files) c.requires.short c.in-Ok.ensures).fdx

pub open_columns-requires-clause-within : goal.open_columns-requires-clause-within
open_columns-requires-clause-within c =
    contents-within (part_files_of c.in-Ok.files) c.args.info.now (contents_of c.args.info.now.size c.in-Ok-open_contents.contents) c.in-Ok-open_contents.ensures.judged

pub returns-in-Err-open_contents : goal.returns-in-Err-open_contents
returns-in-Err-open_contents c =
    contents-fault (λ (s : SegmentValue). s) (folder_of c.args.parts.now) c.args.info.now (part_files_of c.in-Ok.files) c.in-Ok.ensures (contents_of c.args.info.now.size) c.in-Err-open_contents.fault c.in-Err-open_contents.ensures.judged

pub returns-in-Err-open_columns : goal.returns-in-Err-open_columns
returns-in-Err-open_columns c =
    let size = c.args.info.now.size in
    columns-fault (λ (s : SegmentValue). s) (folder_of c.args.parts.now) c.args.info.now (part_files_of c.in-Ok.files) c.in-Ok.ensures (contents_of size c.in-Ok-open_contents.contents) c.in-Ok-open_contents.ensures.judged
    (columns_of size) c.in-Err-open_columns.fault c.in-Err-open_columns.ensures.judged

pub returns : goal.returns
returns c =
    let size = c.args.info.now.size in
    let contents = contents_of size c.in-Ok-open_contents.contents in
    let columns = columns_of size c.in-Ok-open_columns.columns in
    segment-stands (λ (s : SegmentValue). s) (folder_of c.args.parts.now) c.args.info.now (part_files_of c.in-Ok.files) c.in-Ok.ensures contents c.in-Ok-open_contents.ensures.judged columns (segment_value size contents columns) c.in-Ok-open_columns.ensures.judged refl

pub returns-in-Err : goal.returns-in-Err
returns-in-Err c = located-fault (λ (s : SegmentValue). s) (folder_of c.args.parts.now) c.args.info.now part_files_of c.in-Err.fault c.in-Err.ensures

pub invariant_of-result : goal.invariant_of-result
invariant_of-result c =
    let folder = folder_of c.args.parts.now in
    let line = c.args.info.now in
    let contents = contents_of line.size c.in-Ok-open_contents.contents in
    let columns = columns_of line.size c.in-Ok-open_columns.columns in
    let whole = segment_value line.size contents columns in
    let stands : StandFor (segment_files folder line) whole =
    segment-stands (λ (s : SegmentValue). s) folder line (part_files_of c.in-Ok.files) c.in-Ok.ensures contents c.in-Ok-open_contents.ensures.judged columns whole c.in-Ok-open_columns.ensures.judged refl in
    record {
      valid = index-valid folder line whole c.requires.short stands c.requires.line;
      checked = c.in-Ok-open_contents.ensures.checked;
      listed = c.in-Ok-open_contents.ensures.listed;
      good = c.in-Ok-open_contents.ensures.good;
      small = c.in-Ok-open_contents.ensures.small;
      posted = c.in-Ok-open_contents.ensures.posted;
      norms = c.in-Ok-open_columns.ensures.norms;
      live = c.in-Ok-open_columns.ensures.live;
      vectors = c.in-Ok-open_columns.ensures.vectors;
    }
