use Rattle.std.proofs.Common.{◌≡◌}
use Rattle.freq_skips.specs.InnerLevels.{marked_bytes, places_after, marks_of_input, AreSmallPlaces}
use Rattle.freq_skips.proofs.writer.written_level.Given as goal

abbrev pub invariant-loop-index : goal.invariant-loop-index
invariant-loop-index l =
    let r = marks_of_input l.level in
    record {
      written : l.bytes.items ≡ marked_bytes r l.index;
      pointed : l.places.items ≡ places_after r l.index;
      small : AreSmallPlaces l.places.items;
    }
