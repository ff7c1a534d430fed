use Rattle.std.proofs.Common.{◌<◌, subst, length, arith}
use Rattle.posting_files.specs.States.{term_begun}
use Rattle.seg_writer.specs.Terms.{term_in}
use Rattle.seg_writer.proofs.PostedLemmas.{entries-few, entries-some, term-may, term-fresh, term-not-begun, term-not-added, term-entries, term-written, between-after}
use Rattle.seg_writer.proofs.terms.write_term.Goals as goal

pub begin_term-requires : goal.begin_term-requires
begin_term-requires c = record { none = term-may c.args.writer.now c.requires.between }

pub returns-in-Err-clause-terms : goal.returns-in-Err-clause-terms
returns-in-Err-clause-terms c i limit ts h =
    term-not-begun i limit ts (term_in c.args.kept c.args.column.now c.args.term.now.text.now) (term_begun c.args.writer.now c.args.kept.omit_tf c.args.kept.payloads) c.args.writer.now c.begin_term.new.self c.in-Err.fault c.fault_of.result c.fault_of.ensures c.in-Err.ensures h

pub add_entries-requires-clause-begun : goal.add_entries-requires-clause-begun
add_entries-requires-clause-begun c = term-fresh c.args.kept.omit_tf c.args.kept.payloads c.args.writer.now c.begin_term.new.self c.requires.between c.in-Ok.ensures

pub returns-in-Err-add_entries-clause-terms : goal.returns-in-Err-add_entries-clause-terms
returns-in-Err-add_entries-clause-terms c i limit ts h =
    term-not-added i limit ts (term_in c.args.kept c.args.column.now c.args.term.now.text.now) c.args.writer.now c.begin_term.new.self c.add_entries.new.writer c.in-Err-add_entries.fault c.in-Ok.ensures c.in-Err-add_entries.ensures h

pub finish_term-requires-clause-some : goal.finish_term-requires-clause-some
finish_term-requires-clause-some c within =
    let text = c.args.term.now.text.now in
    let column = c.args.column.now in
    let same = term-entries c.args.writer.now c.begin_term.new.self c.add_entries.new.writer c.args.kept column text c.requires.between c.in-Ok.ensures c.in-Ok-add_entries.ensures within in
    let some = entries-some c.args.kept.omit_tf text 0 column (subst (λ w. 0 < length w) c.requires.uses c.requires.some) in
    omega (arith, same, some)

pub finish_term-requires-clause-few : goal.finish_term-requires-clause-few
finish_term-requires-clause-few c within =
    let text = c.args.term.now.text.now in
    let column = c.args.column.now in
    let same = term-entries c.args.writer.now c.begin_term.new.self c.add_entries.new.writer c.args.kept column text c.requires.between c.in-Ok.ensures c.in-Ok-add_entries.ensures within in
    let few = entries-few c.args.kept.omit_tf text column in
    let small = c.requires.column.numberable.fields in
    omega (arith, same, few, small)

pub returns-in-Ok-finish_term-clause-terms : goal.returns-in-Ok-finish_term-clause-terms
returns-in-Ok-finish_term-clause-terms c i limit ts h =
    term-written i limit ts c.args.kept c.args.column.now c.args.term.now.text.now c.args.writer.now c.begin_term.new.self c.add_entries.new.writer c.finish_term.new.self c.in-Ok.ensures c.in-Ok-add_entries.ensures c.in-Ok-finish_term.ensures h

pub returns-in-Ok-finish_term-clause-between : goal.returns-in-Ok-finish_term-clause-between
returns-in-Ok-finish_term-clause-between c =
    between-after c.args.kept c.args.column.now c.args.term.now.text.now c.args.writer.now c.finish_term.new.self c.requires.between
    (λ i limit ts h. term-written i limit ts c.args.kept c.args.column.now c.args.term.now.text.now c.args.writer.now c.begin_term.new.self c.add_entries.new.writer c.finish_term.new.self c.in-Ok.ensures c.in-Ok-add_entries.ensures c.in-Ok-finish_term.ensures h)
