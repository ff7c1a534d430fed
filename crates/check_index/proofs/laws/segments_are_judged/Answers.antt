use Rattle.lu_types.proofs.FileLaws.{one_meaning}
use Rattle.check_index.specs.Segments.{segment_files}
use Rattle.check_index.proofs.MadeFiles.{no_fault, one_fault, stand_or_fault}
use Rattle.check_index.proofs.SegmentMade.{segment-made}
use Rattle.check_index.proofs.laws.segments_are_judged.Goals as goal

pub returns : goal.returns
returns c = record {
  one_index = λ folder line. one_meaning (segment_files folder line);
  no_fault = λ folder line. no_fault (segment_files folder line);
  one_fault = λ folder line a b made. one_fault (segment_files folder line) a b (segment-made folder line made);
  one_of_both = λ folder line made. stand_or_fault (segment_files folder line) (segment-made folder line made);
}
