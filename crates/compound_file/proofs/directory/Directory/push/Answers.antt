use Rattle.std.proofs.Common.{◌≡◌, ◌∷◌, ◌++◌, [], List, map, length, None, ap, subst, sym, ◌∙◌, arith, refl}
use Rattle.std.proofs.lemmas.List.{map-append, length-map}
use Rattle.compound_file.specs.Entries.{PartEntry, entry_number_of}
use Rattle.compound_file.specs.Directories.{part_entry_of, HasEntryNumbers}
use Rattle.compound_file.proofs.EntryLemmas.{HasEntryNumbers-push}
use Rattle.compound_file.proofs.directory.Directory.push.Goals as goal

-- the entries are those before and the new one, and its name has the number of entries before
pub invariant_of-self-in-Ok : goal.invariant_of-self-in-Ok
invariant_of-self-in-Ok c =
    let old : List PartEntry = map part_entry_of c.self.inside.entries.items in
    let last : PartEntry = part_entry_of c.args.entry in
    let items : map part_entry_of c.push.new.self.items ≡ old ++ last ∷ [] = ap (map part_entry_of) c.in_ok-push.ensures.items ∙ map-append part_entry_of c.self.inside.entries.items _ in
    let new : entry_number_of c.args.entry.name.now old ≡ None = ap (entry_number_of c.args.entry.name.now) c.self.view_is ∙ c.requires in
    let number : c.len-number.result ≡ length old = omega (arith, length-map c.self.inside.entries.items part_entry_of) in
    subst (HasEntryNumbers c.insert.new.self) (sym items)
    (HasEntryNumbers-push c.args.entry.name last c.len-number.result old c.self.inside.numbers c.insert.new.self (let e : last.name ≡ c.args.entry.name.now = refl in e) new number c.self.invariant c.in-Ok.ensures.updates)
