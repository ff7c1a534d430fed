-- What every codec needs of records, conditions, places, plans and spellings, from one place.
pub use Rattle.lu_grammar.proofs.Records.{ok_pair, same_pair, read_shape-part, read_shape-part_err, record_at-read, record_at-breaks, record_at-unread, record_at-good, Spells-followed, Spells-repeated}
pub use Rattle.lu_grammar.proofs.WasRead.{alone, alone_read, alone_breaks, alone_unread, record_at-was, alone_was, due_was}
pub use Rattle.lu_grammar.proofs.Conditions.{AreUnbroken, all_unbroken, same-of, record_at-kept, first_broken-front, first_broken-after}
pub use Rattle.lu_grammar.proofs.Places.{read_part-place, IsBytes-after, place_in-after}
pub use Rattle.lu_grammar.proofs.Plans.{ok_of, settled, err_of, err_is_not_ok, read_due, read_due_broken, read_plan-ReadsTo, reads-read_plan}
pub use Rattle.lu_grammar.proofs.Loops.{then_ok, read_plan-and_then, each-more, each-fault, each-none, times-more, times-fault, times-again, times-keeps, in_turn-more, in_turn-fault}
pub use Rattle.lu_grammar.proofs.Files.{read_file-Reads, Reads-from, FirstFault-from, file-fault, file-left, file-read}
pub use Rattle.lu_grammar.proofs.FileEnds.{nothing_left, trailing, file_was}
pub use Rattle.lu_grammar.proofs.Turns.{AreUpTo, turns-none, turns-more, turns-whole, turns-fault, turns-trailing}
pub use Rattle.lu_grammar.proofs.SplitRecords.{ends, value_of, split_records}
pub use Rattle.lu_grammar.proofs.Writers.{Writes, read_file-Writes, Writes-due, Writes-done, Writes-and_then, Writes-none, Writes-turn, Writes-record, Writes-in_turn}
pub use Rattle.lu_grammar.proofs.SpelledBytes.{IsBytes-nil, IsBytes-cons, IsBytes-append, IsBytes-flat_map, IsBytes-groups, IsBytes-utf8, IsBytes-four, IsBytes-eight, IsBytes-spelling, IsBytes-Spells}
pub use Rattle.lu_grammar.proofs.FixedLemmas.{int64_there, int64_short, int64_read, int64_not_bad, int32_read}
