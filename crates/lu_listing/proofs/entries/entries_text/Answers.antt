use Rattle.std.proofs.Common.{◌≡◌, ◌∷◌, ap, sym, rules}
use Rattle.std.specs.List.{flat_map}
use Rattle.std.proofs.lemmas.List.Elements.{All-head, All-rest, All-same}
use Rattle.lu_model.specs.Index.{IndexedEntry}
use Rattle.seg_reader.specs.Postings.{next_entry, entries_left}
use Rattle.lu_listing.specs.InnerEntries.{IsOmittedBy}
use Rattle.lu_listing.specs.Listing.{entry_line}
use Rattle.lu_listing.proofs.EntryLemmas.{stands-next, lines-split}
use Rattle.lu_listing.proofs.PrintingLemmas.{lacks-all, lacks-less, lacks-failed}
use Rattle.lu_listing.proofs.entries.entries_text.Goals as goal

pub loop-document-init : goal.loop-document-init
loop-document-init g c = (c.requires, lacks-all _ _)

pub returns-then-has_failed : goal.returns-then-has_failed
returns-then-has_failed g c = lacks-failed _ _ _ _ c.loop-document.invariant.1 (search rules)

pub loop-document-preserved : goal.loop-document-preserved
loop-document-preserved g c =
    let old = c.loop-document.entries in
    let here = c.next.new.self in
    let so_far = c.loop-document.invariant in
    let moved = c.in-Some.ensures.left in
    let kept = All-same (λ (e : IndexedEntry). IsOmittedBy c.args.form.omits e.occurrences) (moved.0 ∷ entries_left here) (entries_left old) (sym moved.2) so_far.0 in
    let stands = stands-next old here (next_entry old 0) c.args.form.omits c.in-Some.document moved.0 c.next.ensures.walk c.in-Some.ensures.document moved.1
    (All-head (λ (e : IndexedEntry). IsOmittedBy c.args.form.omits e.occurrences) moved.0 (entries_left here) kept) in
    let same : entries_left c.entry_text.new.entries ≡ entries_left here = ap entries_left c.entry_text.ensures.taken in (
      All-same (λ (e : IndexedEntry). IsOmittedBy c.args.form.omits e.occurrences) (entries_left c.entry_text.new.entries) (entries_left here) same
          (All-rest (λ (e : IndexedEntry). IsOmittedBy c.args.form.omits e.occurrences) moved.0 (entries_left here) (entries_left old) moved.2 so_far.0),
      lacks-less _ _ _ (entry_line c.args.form.word.now moved.0) (flat_map (entry_line c.args.form.word.now) (entries_left c.entry_text.new.entries)) (flat_map (entry_line c.args.form.word.now) (entries_left old)) _ so_far.1
          (c.entry_text.ensures.printed moved.0 stands) (lines-split (entry_line c.args.form.word.now) (entries_left old) moved.0 (entries_left here) (entries_left c.entry_text.new.entries) moved.2 same),
    )
