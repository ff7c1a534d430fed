use Rattle.std.proofs.Common.{◌≡◌, ◌-◌, length, List, Some, slice_get, sym, ap, subst, ◌∙◌}
use Rattle.compound_file.specs.declared.entry.DirectoryEntry.{DirectoryEntry}
use Rattle.compound_file.specs.Entries.{last_start}
use Rattle.compound_file.proofs.EntryLemmas.{last_start-items}
use Rattle.compound_file.proofs.directory.Directory.last_start.Goals as goal

pub returns-in-Some : goal.returns-in-Some
returns-in-Some c =
    let items = c.self.inside.entries.items in
    let is : slice_get items (length items - 1) ≡ Some c.in-Some.entry.now = subst (λ (xs : List DirectoryEntry). slice_get xs (length xs - 1) ≡ Some c.in-Some.entry.now) c.deref.ensures.value (sym c.in-Some.ensures.value) in
    sym (ap (last_start 0) (sym c.self.view_is) ∙ last_start-items items c.in-Some.entry.now is)
