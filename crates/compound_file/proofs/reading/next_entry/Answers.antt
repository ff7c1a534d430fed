use Rattle.std.proofs.Common.{◌≡◌, ℤ, ℕ, Some, None, Ok, Err, sym, ap, subst, ◌∙◌, rules, to_z, of_z, w64}
use Rattle.lu_grammar.specs.Records.{first_broken, read_shape}
use Rattle.lu_grammar.proofs.Codecs.{record_at-unread}
use Rattle.compound_file.specs.Cfs.{entry, entry_shape, conditions_after, entry_conditions}
use Rattle.compound_file.proofs.ReadLemmas.{entry-bytes, entry-breaks, entry-read, entry-good}
use Rattle.compound_file.proofs.reading.next_entry.Goals as goal

pub returns-in-Err-clause-gives : goal.returns-in-Err-clause-gives
returns-in-Err-clause-gives c =
    record_at-unread entry_shape (entry_conditions c.args.bounds.size c.args.bounds.count c.args.before.now c.args.cur.now.place) c.args.cur.now c.in-Err.bad c.in-Err.ensures ∙ ap (λ (n : ℕ). Err n) (sym c.rule_of.ensures)

pub returns-in-Some-clause-gives : goal.returns-in-Some-clause-gives
returns-in-Some-clause-gives c =
    let z = to_z w64 (of_z w64 c.in-Ok.parts.0) in
    let name = c.in-Ok.parts.1.now in
    let same : z ≡ c.in-Ok.parts.0 = search rules in
    let d = c.entry_parts.new.cur in
    let read : read_shape entry_shape c.args.cur.now ≡ Ok (entry z name, d) = subst (λ (x : ℤ). read_shape entry_shape c.args.cur.now ≡ Ok (entry x name, d)) (sym same) c.in-Ok.ensures in
    let broken : Some c.in-Some.rule ≡ first_broken (conditions_after c.args.bounds.size c.args.bounds.count c.args.before.now d.place z name) = rw (← c.place.ensures) c.in-Some.ensures in
    entry-breaks c.args.cur.now d z name c.requires.bytes read c.args.bounds.size c.args.bounds.count c.args.before.now c.in-Some.rule broken

pub returns-in-None-clause-gives : goal.returns-in-None-clause-gives
returns-in-None-clause-gives c =
    let z = to_z w64 (of_z w64 c.in-Ok.parts.0) in
    let name = c.in-Ok.parts.1.now in
    let same : z ≡ c.in-Ok.parts.0 = search rules in
    let d = c.entry_parts.new.cur in
    let read : read_shape entry_shape c.args.cur.now ≡ Ok (entry z name, d) = subst (λ (x : ℤ). read_shape entry_shape c.args.cur.now ≡ Ok (entry x name, d)) (sym same) c.in-Ok.ensures in
    let good : None ≡ first_broken (conditions_after c.args.bounds.size c.args.bounds.count c.args.before.now d.place z name) = rw (← c.place.ensures) c.in-None.ensures in
    entry-read c.args.cur.now d z name c.requires.bytes read c.args.bounds.size c.args.bounds.count c.args.before.now good

pub returns-in-None-clause-good : goal.returns-in-None-clause-good
returns-in-None-clause-good c =
    let z = to_z w64 (of_z w64 c.in-Ok.parts.0) in
    let name = c.in-Ok.parts.1.now in
    let same : z ≡ c.in-Ok.parts.0 = search rules in
    let d = c.entry_parts.new.cur in
    let read : read_shape entry_shape c.args.cur.now ≡ Ok (entry z name, d) = subst (λ (x : ℤ). read_shape entry_shape c.args.cur.now ≡ Ok (entry x name, d)) (sym same) c.in-Ok.ensures in
    let good : None ≡ first_broken (conditions_after c.args.bounds.size c.args.bounds.count c.args.before.now d.place z name) = rw (← c.place.ensures) c.in-None.ensures in
    entry-good c.args.cur.now d z name c.requires.bytes read c.args.bounds.size c.args.bounds.count c.args.before.now good

pub returns-in-None-clause-bytes : goal.returns-in-None-clause-bytes
returns-in-None-clause-bytes c = entry-bytes c.args.cur.now c.entry_parts.new.cur c.in-Ok.parts.0 c.in-Ok.parts.1.now c.requires.bytes c.in-Ok.ensures
