use Rattle.std.proofs.Common.{◌≡◌, ℕ, List, Option, Some, None, sym}
use Rattle.std.specs.Prelude.{MatchOption}
use Rattle.lu_types.specs.Names.{Names, IsSegmentName}
use Rattle.segment_infos.specs.Numbers.{segment_number_in}
use Rattle.segment_infos.proofs.SegmentNumberIn.{segment_number_in-Names, segment_number_in-none}
use Rattle.segment_infos.proofs.numbers.segment_number_in.Goals as goal

number_is : (text : List ℕ) (o : Option ℕ) → MatchOption o (¬ IsSegmentName text) (Names text) → o ≡ segment_number_in text
number_is text None h = sym (segment_number_in-none text h)
number_is text (Some n) h = sym (segment_number_in-Names text n h)

pub returns : goal.returns
returns c = number_is c.args.name.now c.segment_number.result c.segment_number.ensures
