use Rattle.std.proofs.Common.{length, sym, ap, ◌∙◌}
use Rattle.compound_file.specs.Entries.{part_named}
use Rattle.compound_file.proofs.NameLemmas.{part_named-none, part_named-some, ends-rise}
use Rattle.compound_file.proofs.parts.CfsEntries.get.Goals as goal

pub slice_bounds-result-count : goal.slice_bounds-result-count
slice_bounds-result-count c =
    (ends-rise 0 (length c.self.inside.bytes.now) c.self.inside.directory c.in-Some.number c.span-start.result.0 c.span-start.result.1 c.self.invariant c.span-start.ensures).0

pub slice_bounds-result-start : goal.slice_bounds-result-start
slice_bounds-result-start c =
    (ends-rise 0 (length c.self.inside.bytes.now) c.self.inside.directory c.in-Some.number c.span-start.result.0 c.span-start.result.1 c.self.invariant c.span-start.ensures).0

pub slice_bounds-result-end : goal.slice_bounds-result-end
slice_bounds-result-end c =
    (ends-rise 0 (length c.self.inside.bytes.now) c.self.inside.directory c.in-Some.number c.span-start.result.0 c.span-start.result.1 c.self.invariant c.span-start.ensures).1

pub returns-in-None : goal.returns-in-None
returns-in-None c = sym (ap (part_named c.args.name.now) (sym c.self.view_is) ∙ part_named-none c.self.inside.bytes.now c.args.name.now c.self.inside.directory (sym c.in-None.ensures))

pub returns-in-Some : goal.returns-in-Some
returns-in-Some c =
    sym (ap (part_named c.args.name.now) (sym c.self.view_is)
    ∙ part_named-some c.self.inside.bytes.now c.args.name.now c.self.inside.directory c.in-Some.number c.span-start.result.0 c.span-start.result.1 (sym c.in-Some.ensures) c.span-start.ensures)
