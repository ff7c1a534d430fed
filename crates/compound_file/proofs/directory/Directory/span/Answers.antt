use Rattle.std.proofs.Common.{◌≡◌, ◌+◌, ◌<◌, ◌≤◌, suc, List, length, Some, None, slice_get, sym, ap, subst, ◌∙◌, arith}
use Rattle.std.proofs.lemmas.List.{length-map}
use Rattle.std.proofs.lemmas.Option.{slice_get-get_or, slice_get_past}
use Rattle.compound_file.specs.declared.entry.DirectoryEntry.{DirectoryEntry}
use Rattle.compound_file.specs.Entries.{PartEntry, spans}
use Rattle.compound_file.specs.Directories.{part_entry_of}
use Rattle.compound_file.proofs.EntryLemmas.{ends_of, ends_of-next, ends_of-last}
use Rattle.compound_file.proofs.directory.Directory.span.Goals as goal

pub returns-in-Some : goal.returns-in-Some
returns-in-Some c =
    let items = c.self.inside.entries.items in
    let k = c.args.number in
    let lookup = c.in-Some.ensures.lookup in
    let within : k < length items = omega (arith, ap length c.self.view_is, length-map items part_entry_of, c.requires) in
    let first : slice_get items k ≡ Some c.index.result.now = slice_get-get_or items k c.index.result.now within ∙ ap (λ (e : DirectoryEntry). Some e) (sym c.index.ensures) in
    let there : slice_get c.deref.result.now (k + 1) ≡ Some c.in-Some.next.now =
    slice_get-get_or c.deref.result.now (k + 1) c.in-Some.next.now lookup.3.0 ∙ ap (λ (e : DirectoryEntry). Some e) (sym (lookup.3.1 c.in-Some.next.now)) in
    let number : k + 1 ≡ suc k = omega arith in
    let next : slice_get items (suc k) ≡ Some c.in-Some.next.now =
    subst (λ n. slice_get items n ≡ Some c.in-Some.next.now) number (subst (λ (xs : List DirectoryEntry). slice_get xs (k + 1) ≡ Some c.in-Some.next.now) c.deref.ensures.value there) in
    ap (λ (es : List PartEntry). ends_of (slice_get (spans c.args.size es) k)) (sym c.self.view_is) ∙ ends_of-next items c.args.size k c.index.result.now c.in-Some.next.now first next

pub returns-in-None : goal.returns-in-None
returns-in-None c =
    let items = c.self.inside.entries.items in
    let k = c.args.number in
    let within : k < length items = omega (arith, ap length c.self.view_is, length-map items part_entry_of, c.requires) in
    let first : slice_get items k ≡ Some c.index.result.now = slice_get-get_or items k c.index.result.now within ∙ ap (λ (e : DirectoryEntry). Some e) (sym c.index.ensures) in
    let past : length c.deref.result.now ≤ k + 1 = c.in-None.ensures.lookup.3 in
    let none : slice_get items (suc k) ≡ None = slice_get_past items (suc k) (omega (arith, past, ap length c.deref.ensures.value)) in
    ap (λ (es : List PartEntry). ends_of (slice_get (spans c.args.size es) k)) (sym c.self.view_is) ∙ ends_of-last items c.args.size k c.index.result.now first none
