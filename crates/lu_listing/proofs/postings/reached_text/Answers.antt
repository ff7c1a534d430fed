use Rattle.std.proofs.Common.{◌≡◌, [], ◌++◌, List, ℕ, codes, refl, ap, sym}
use Rattle.std.specs.Prelude.{filter}
use Rattle.std.specs.Fmt.{decimal}
use Rattle.std.specs.List.{flat_map}
use Rattle.std.proofs.lemmas.List.Elements.{All-same}
use Rattle.lu_model.specs.Index.{IndexedEntry}
use Rattle.seg_reader.specs.Postings.{may_answer, entries_left}
use Rattle.lu_listing.specs.InnerEntries.{IsOmittedBy}
use Rattle.lu_listing.specs.Lines.{line, ◌▹◌}
use Rattle.lu_listing.specs.Listing.{entry_line}
use Rattle.lu_listing.proofs.EntryLemmas.{lines-split}
use Rattle.lu_listing.proofs.PrintingLemmas.{prints-nothing, prints-both, prints-same}
use Rattle.lu_listing.proofs.ReachedLemmas.{has-jumped, none-reached}
use Rattle.lu_listing.proofs.postings.reached_text.Goals as goal

pub returns-in_default : goal.returns-in_default
returns-in_default g c =
    let walk = c.args.entries in
    let from = c.args.reach.from in
    let head = prints-same _ _ _ _ (ap (λ (n : ℕ). line (codes "advance" ▹ decimal n)) c.count.ensures) c.number_line.ensures in
    let none = ap (λ (es : List IndexedEntry). flat_map (entry_line (codes "doc")) es) (none-reached walk from c.requires.start (sym c.in_default.ensures.document)) in (
      line (codes "advance" ▹ decimal c.advance-first.new.steps) ++ flat_map (entry_line (codes "doc")) (filter (may_answer walk.hidden 0 from) walk.entries),
      record { advance = c.advance-first.new.steps; within = c.advance-first.ensures.bound; lines_are = refl },
      prints-both _ _ _ _ _ head (prints-same _ _ [] _ (sym none) (prints-nothing _)),
    )

pub entries_text-requires : goal.entries_text-requires
entries_text-requires g c =
    let same : entries_left c.entry_text.new.entries ≡ entries_left c.advance-first.new.self = ap entries_left c.entry_text.ensures.taken in
    let jump = has-jumped c.args.entries c.advance-first.new.self c.args.reach.from c.args.reach.omits c.in-Some.document c.requires.start c.requires.entries (sym c.in-Some.ensures.document) c.advance-first.ensures.walk in
    All-same (λ (e : IndexedEntry). IsOmittedBy c.args.reach.omits e.occurrences) (entries_left c.entry_text.new.entries) (entries_left c.advance-first.new.self) same jump.left

pub returns : goal.returns
returns g c =
    let walk = c.args.entries in
    let from = c.args.reach.from in
    let same : entries_left c.entry_text.new.entries ≡ entries_left c.advance-first.new.self = ap entries_left c.entry_text.ensures.taken in
    let jump = has-jumped walk c.advance-first.new.self from c.args.reach.omits c.in-Some.document c.requires.start c.requires.entries (sym c.in-Some.ensures.document) c.advance-first.ensures.walk in
    let head = prints-same _ _ _ _ (ap (λ (n : ℕ). line (codes "advance" ▹ decimal n)) c.count.ensures) c.number_line.ensures in
    let split = lines-split (entry_line (codes "doc")) (filter (may_answer walk.hidden 0 from) walk.entries) jump.entry (entries_left c.advance-first.new.self) (entries_left c.entry_text.new.entries) jump.reached same in (
      line (codes "advance" ▹ decimal c.advance-first.new.steps) ++ flat_map (entry_line (codes "doc")) (filter (may_answer walk.hidden 0 from) walk.entries),
      record { advance = c.advance-first.new.steps; within = c.advance-first.ensures.bound; lines_are = refl },
      prints-both _ _ _ _ _ head (prints-same _ _ _ _ (sym split) (prints-both _ _ _ _ _ (c.entry_text.ensures.printed jump.entry jump.stands) c.entries_text.ensures)),
    )
