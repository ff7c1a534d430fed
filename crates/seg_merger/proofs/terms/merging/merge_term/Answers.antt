use Rattle.std.proofs.Common.{◌≡◌, ◌++◌, false, [], sym, ap, ◌∙◌, refl, arith}
use Rattle.std.specs.Prelude.{not}
use Rattle.lu_types.specs.Joins.{is_empty}
use Rattle.posting_files.specs.States.{term_begun, term_finished}
use Rattle.seg_merger.specs.TermRests.{entries_of_all}
use Rattle.seg_merger.specs.TermSteps.{term_if_any}
use Rattle.seg_merger.proofs.PutLemmas.{between-of, going-fresh, place_behind, some-entries, term-dropped, term-entries, term-finished, term-fresh, term-not-added, term-not-begun}
use Rattle.seg_merger.proofs.terms.merging.merge_term.Goals as goal

pub returns-in-Err-clause-terms : goal.returns-in-Err-clause-terms
returns-in-Err-clause-terms g c i limit all left h =
    term-not-begun i limit all (term_if_any c.args.field c.args.current.now.text (entries_of_all c.args.field.bits c.args.contest.now.rests c.args.current.now) ++ left) (term_begun c.args.writer.now c.has_bit.result c.has_bit-2.result) c.args.writer.now c.begin_term.new.self c.in-Err.fault c.fault_of.result c.fault_of.ensures c.in-Err.ensures h

pub merge_entries-requires-clause-going : goal.merge_entries-requires-clause-going
merge_entries-requires-clause-going g c =
    going-fresh c.args.field.bits c.has_bit.result c.has_bit-2.result (entries_of_all c.args.field.bits c.args.contest.now.rests c.args.current.now) c.args.writer.now c.begin_term.new.self c.has_bit.ensures c.has_bit-2.ensures c.in-Ok.ensures c.requires.entries c.requires.between

pub returns-in-Ok-false-clause-terms : goal.returns-in-Ok-false-clause-terms
returns-in-Ok-false-clause-terms g c i limit all left h =
    let field = c.args.field in
    let entries = entries_of_all field.bits c.args.contest.now.rests c.args.current.now in
    let none : false ≡ not (is_empty entries) = sym c.in-Ok-false.field-0-test ∙ c.in-Ok-false.ensures.some in
    term-dropped i limit field c.args.current.now.text entries all left c.args.writer.now c.merge_entries.new.writer none
    (λ ts k. c.in-Ok-false.ensures.adds (place_behind i limit ts field.bits) entries (term-fresh i limit ts field.bits c.has_bit.result c.has_bit-2.result entries c.args.writer.now c.begin_term.new.self c.has_bit.ensures c.has_bit-2.ensures c.in-Ok.ensures k)) h

pub returns-in-Ok-false-clause-between : goal.returns-in-Ok-false-clause-between
returns-in-Ok-false-clause-between g c =
    let field = c.args.field in
    let entries = entries_of_all field.bits c.args.contest.now.rests c.args.current.now in
    let none : false ≡ not (is_empty entries) = sym c.in-Ok-false.field-0-test ∙ c.in-Ok-false.ensures.some in
    let b = c.requires.between in
    let i = b.0 in let limit = b.1 in
    let all = b.2 ++ (term_if_any field c.args.current.now.text entries ++ []) in
    between-of i limit all [] c.merge_entries.new.writer (term-dropped i limit field c.args.current.now.text entries all [] c.args.writer.now c.merge_entries.new.writer none
    (λ ts k. c.in-Ok-false.ensures.adds (place_behind i limit ts field.bits) entries (term-fresh i limit ts field.bits c.has_bit.result c.has_bit-2.result entries c.args.writer.now c.begin_term.new.self c.has_bit.ensures c.has_bit-2.ensures c.in-Ok.ensures k)) (b.2, b.3, refl))

pub returns-in-Err-merge_entries-clause-terms : goal.returns-in-Err-merge_entries-clause-terms
returns-in-Err-merge_entries-clause-terms g c i limit all left h =
    let field = c.args.field in
    let entries = entries_of_all field.bits c.args.contest.now.rests c.args.current.now in
    term-not-added i limit field c.args.current.now.text entries all left c.args.writer.now c.in-Err-merge_entries.fault
    (λ ts k. c.in-Err-merge_entries.ensures.adds (place_behind i limit ts field.bits) entries (term-fresh i limit ts field.bits c.has_bit.result c.has_bit-2.result entries c.args.writer.now c.begin_term.new.self c.has_bit.ensures c.has_bit-2.ensures c.in-Ok.ensures k)) h

pub finish_term-requires-clause-some : goal.finish_term-requires-clause-some
finish_term-requires-clause-some g c within =
    let field = c.args.field in
    let entries = entries_of_all field.bits c.args.contest.now.rests c.args.current.now in
    let same = term-entries field.bits entries c.args.writer.now c.merge_entries.new.writer c.requires.between
    (λ i limit ts k. c.in-Ok-true.ensures.adds (place_behind i limit ts field.bits) entries (term-fresh i limit ts field.bits c.has_bit.result c.has_bit-2.result entries c.args.writer.now c.begin_term.new.self c.has_bit.ensures c.has_bit-2.ensures c.in-Ok.ensures k)) within in
    let some = some-entries entries (sym c.in-Ok-true.field-0-test ∙ c.in-Ok-true.ensures.some) in
    omega (arith, same, some)

pub finish_term-requires-clause-few : goal.finish_term-requires-clause-few
finish_term-requires-clause-few g c within =
    let field = c.args.field in
    let entries = entries_of_all field.bits c.args.contest.now.rests c.args.current.now in
    let same = term-entries field.bits entries c.args.writer.now c.merge_entries.new.writer c.requires.between
    (λ i limit ts k. c.in-Ok-true.ensures.adds (place_behind i limit ts field.bits) entries (term-fresh i limit ts field.bits c.has_bit.result c.has_bit-2.result entries c.args.writer.now c.begin_term.new.self c.has_bit.ensures c.has_bit-2.ensures c.in-Ok.ensures k)) within in
    let few = c.requires.entries.few in
    omega (arith, same, few)

pub returns-in-Ok-finish_term-clause-terms : goal.returns-in-Ok-finish_term-clause-terms
returns-in-Ok-finish_term-clause-terms g c i limit all left h =
    let field = c.args.field in
    let entries = entries_of_all field.bits c.args.contest.now.rests c.args.current.now in
    term-finished i limit field c.args.current.now.text entries all left c.args.writer.now c.merge_entries.new.writer c.finish_term.new.self (sym c.in-Ok-true.field-0-test ∙ c.in-Ok-true.ensures.some)
    (λ ts k. c.in-Ok-true.ensures.adds (place_behind i limit ts field.bits) entries (term-fresh i limit ts field.bits c.has_bit.result c.has_bit-2.result entries c.args.writer.now c.begin_term.new.self c.has_bit.ensures c.has_bit-2.ensures c.in-Ok.ensures k))
    (c.in-Ok-finish_term.ensures ∙ ap (term_finished c.merge_entries.new.writer field.number) c.text.ensures) h

pub returns-in-Ok-finish_term-clause-between : goal.returns-in-Ok-finish_term-clause-between
returns-in-Ok-finish_term-clause-between g c =
    let field = c.args.field in
    let entries = entries_of_all field.bits c.args.contest.now.rests c.args.current.now in
    let b = c.requires.between in
    let i = b.0 in let limit = b.1 in
    let all = b.2 ++ (term_if_any field c.args.current.now.text entries ++ []) in
    between-of i limit all [] c.finish_term.new.self (term-finished i limit field c.args.current.now.text entries all [] c.args.writer.now c.merge_entries.new.writer c.finish_term.new.self (sym c.in-Ok-true.field-0-test ∙ c.in-Ok-true.ensures.some)
    (λ ts k. c.in-Ok-true.ensures.adds (place_behind i limit ts field.bits) entries (term-fresh i limit ts field.bits c.has_bit.result c.has_bit-2.result entries c.args.writer.now c.begin_term.new.self c.has_bit.ensures c.has_bit-2.ensures c.in-Ok.ensures k))
    (c.in-Ok-finish_term.ensures ∙ ap (term_finished c.merge_entries.new.writer field.number) c.text.ensures) (b.2, b.3, refl))
