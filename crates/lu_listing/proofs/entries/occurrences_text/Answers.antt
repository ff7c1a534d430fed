use Rattle.std.proofs.Common.{ap, ◌∙◌}
use Rattle.std.specs.List.{flat_map}
use Rattle.positions.specs.Views.{occurrence_seen}
use Rattle.seg_reader.specs.Postings.{PostingsWalk}
use Rattle.lu_listing.specs.Listing.{occurrence_text}
use Rattle.lu_listing.proofs.PrintingLemmas.{lacks-less}
use Rattle.lu_listing.proofs.entries.occurrences_text.Goals as goal

pub loop-occurrence-preserved : goal.loop-occurrence-preserved
loop-occurrence-preserved g c =
    let left = c.occurrence.new.self.left in
    let so_far = c.loop-occurrence.invariant in (
      ◌∙◌ {b = record c.loop-occurrence.entries { left = left }} c.in-Some.ensures.1 (ap (λ (w : PostingsWalk). record w { left = left }) so_far.0),
      lacks-less _ _ _ (occurrence_text (occurrence_seen c.in-Some.occurrence)) (flat_map occurrence_text left) (flat_map occurrence_text c.loop-occurrence.entries.left) _ so_far.1 c.occurrence_text.ensures
          (ap (flat_map occurrence_text) c.in-Some.ensures.0),
    )
