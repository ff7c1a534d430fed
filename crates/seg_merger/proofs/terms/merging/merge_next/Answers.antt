use Rattle.std.proofs.Common.{◌≡◌, ◌<◌, map, get_or, Some, sym, ap, ◌∙◌, subst, arith}
use Rattle.segment_files.specs.Postings.{kept_terms}
use Rattle.seg_merger.specs.TermRests.{AreEntries, CanMerge, Rest, count, entries_of_all, past, terms_of_all}
use Rattle.seg_merger.specs.TermSources.{first_term, number_of_first}
use Rattle.seg_merger.specs.TermSteps.{IsOn, TakesHead}
use Rattle.seg_merger.specs.declared.terms.merging.MergedField.{MergedField}
use Rattle.seg_merger.proofs.NextLemmas.{bits-named, can-past, is_next, next-terms, none-named}
use Rattle.seg_merger.proofs.terms.merging.merge_next.Goals as goal

pub returns-in-Ok-None-clause-ended : goal.returns-in-Ok-None-clause-ended
returns-in-Ok-None-clause-ended g c _ =
    let r = c.first.result.now in
    let takes = subst (TakesHead r.left c.take_head.new.current) c.in-Ok-None.field-0-is c.in-Ok-None.ensures in
    (none-named c.args.contest.now.rests c.args.contest.now.first r c.first.ensures.first (ap (λ (x : Rest). x.left) (sym (c.first.ensures.slot r)) ∙ takes), omega arith)

pub bounds-fields-number : goal.bounds-fields-number
bounds-fields-number g c =
    let r = c.first.result.now in
    let table = c.args.fields.now in
    let rests = c.args.contest.now.rests in
    let k = c.args.contest.now.first in
    let t = c.take_head.new.current in
    let takes = subst (TakesHead r.left t) c.in-Ok-Some.field-0-is c.in-Ok-Some.ensures in
    let head : first_term (get_or rests k r).left ≡ Some t = ap (λ (x : Rest). first_term x.left) (sym (c.first.ensures.slot r)) ∙ takes.0 in
    let is : c.in-Ok-Some.number ≡ number_of_first (get_or rests k r).left = takes.1 ∙ ap (λ (x : Rest). number_of_first x.left) (c.first.ensures.slot r) in
    let next = is_next table rests k r t c.in-Ok-Some.number c.requires.can c.first.ensures.first head is in
    next.inside

pub bounds-fields-number-in-Ok-Some : goal.bounds-fields-number-in-Ok-Some
bounds-fields-number-in-Ok-Some g c =
    let r = c.first.result.now in
    let table = c.args.fields.now in
    let rests = c.args.contest.now.rests in
    let k = c.args.contest.now.first in
    let t = c.take_head.new.current in
    let takes = subst (TakesHead r.left t) c.in-Ok-Some.field-0-is c.in-Ok-Some.ensures in
    let head : first_term (get_or rests k r).left ≡ Some t = ap (λ (x : Rest). first_term x.left) (sym (c.first.ensures.slot r)) ∙ takes.0 in
    let is : c.in-Ok-Some.number ≡ number_of_first (get_or rests k r).left = takes.1 ∙ ap (λ (x : Rest). number_of_first x.left) (c.first.ensures.slot r) in
    let next = is_next table rests k r t c.in-Ok-Some.number c.requires.can c.first.ensures.first head is in
    next.inside

pub merge_term-requires-clause-name : goal.merge_term-requires-clause-name
merge_term-requires-clause-name g c =
    let r = c.first.result.now in
    let table = c.args.fields.now in
    let rests = c.args.contest.now.rests in
    let k = c.args.contest.now.first in
    let t = c.take_head.new.current in
    let takes = subst (TakesHead r.left t) c.in-Ok-Some.field-0-is c.in-Ok-Some.ensures in
    let head : first_term (get_or rests k r).left ≡ Some t = ap (λ (x : Rest). first_term x.left) (sym (c.first.ensures.slot r)) ∙ takes.0 in
    let is : c.in-Ok-Some.number ≡ number_of_first (get_or rests k r).left = takes.1 ∙ ap (λ (x : Rest). number_of_first x.left) (c.first.ensures.slot r) in
    let next = is_next table rests k r t c.in-Ok-Some.number c.requires.can c.first.ensures.first head is in
    next.name

pub merge_term-requires-clause-least : goal.merge_term-requires-clause-least
merge_term-requires-clause-least g c =
    let r = c.first.result.now in
    let table = c.args.fields.now in
    let rests = c.args.contest.now.rests in
    let k = c.args.contest.now.first in
    let t = c.take_head.new.current in
    let takes = subst (TakesHead r.left t) c.in-Ok-Some.field-0-is c.in-Ok-Some.ensures in
    let head : first_term (get_or rests k r).left ≡ Some t = ap (λ (x : Rest). first_term x.left) (sym (c.first.ensures.slot r)) ∙ takes.0 in
    let is : c.in-Ok-Some.number ≡ number_of_first (get_or rests k r).left = takes.1 ∙ ap (λ (x : Rest). number_of_first x.left) (c.first.ensures.slot r) in
    let next = is_next table rests k r t c.in-Ok-Some.number c.requires.can c.first.ensures.first head is in
    next.low

pub merge_term-requires-clause-entries : goal.merge_term-requires-clause-entries
merge_term-requires-clause-entries g c =
    let r = c.first.result.now in
    let table = c.args.fields.now in
    let rests = c.args.contest.now.rests in
    let k = c.args.contest.now.first in
    let t = c.take_head.new.current in
    let takes = subst (TakesHead r.left t) c.in-Ok-Some.field-0-is c.in-Ok-Some.ensures in
    let head : first_term (get_or rests k r).left ≡ Some t = ap (λ (x : Rest). first_term x.left) (sym (c.first.ensures.slot r)) ∙ takes.0 in
    let is : c.in-Ok-Some.number ≡ number_of_first (get_or rests k r).left = takes.1 ∙ ap (λ (x : Rest). number_of_first x.left) (c.first.ensures.slot r) in
    let next = is_next table rests k r t c.in-Ok-Some.number c.requires.can c.first.ensures.first head is in
    let bits = bits-named table c.in-Ok-Some.number c.index-fields-number.result t.field next.inside next.number_is in
    subst (λ b. AreEntries b (entries_of_all b rests t)) (sym bits) next.entries

pub merge_term-requires-clause-small : goal.merge_term-requires-clause-small
merge_term-requires-clause-small g c =
    let r = c.first.result.now in
    let table = c.args.fields.now in
    let rests = c.args.contest.now.rests in
    let k = c.args.contest.now.first in
    let t = c.take_head.new.current in
    let takes = subst (TakesHead r.left t) c.in-Ok-Some.field-0-is c.in-Ok-Some.ensures in
    let head : first_term (get_or rests k r).left ≡ Some t = ap (λ (x : Rest). first_term x.left) (sym (c.first.ensures.slot r)) ∙ takes.0 in
    let is : c.in-Ok-Some.number ≡ number_of_first (get_or rests k r).left = takes.1 ∙ ap (λ (x : Rest). number_of_first x.left) (c.first.ensures.slot r) in
    let next = is_next table rests k r t c.in-Ok-Some.number c.requires.can c.first.ensures.first head is in
    let inside = next.inside in
    let few = c.requires.can.few in
    omega (arith, inside, few)

pub returns-in-Ok-clause-terms : goal.returns-in-Ok-clause-terms
returns-in-Ok-clause-terms g c i limit all h =
    let r = c.first.result.now in
    let table = c.args.fields.now in
    let rests = c.args.contest.now.rests in
    let k = c.args.contest.now.first in
    let t = c.take_head.new.current in
    let takes = subst (TakesHead r.left t) c.in-Ok-Some.field-0-is c.in-Ok-Some.ensures in
    let head : first_term (get_or rests k r).left ≡ Some t = ap (λ (x : Rest). first_term x.left) (sym (c.first.ensures.slot r)) ∙ takes.0 in
    let is : c.in-Ok-Some.number ≡ number_of_first (get_or rests k r).left = takes.1 ∙ ap (λ (x : Rest). number_of_first x.left) (c.first.ensures.slot r) in
    let next = is_next table rests k r t c.in-Ok-Some.number c.requires.can c.first.ensures.first head is in
    let bits = bits-named table c.in-Ok-Some.number c.index-fields-number.result t.field next.inside next.number_is in
    let field : MergedField = record { number = c.in-Ok-Some.number; bits = (get_or table c.in-Ok-Some.number c.index-fields-number.result).bits } in
    let left = kept_terms table (terms_of_all table (map (past t) rests)) in
    subst (λ rs. IsOn i limit all (kept_terms table (terms_of_all table rs)) c.merge_term.new.writer) (sym c.in-Ok.ensures.passed)
    (c.in-Ok.ensures.terms i limit all left (subst (λ ts. IsOn i limit all ts c.args.writer.now) (next-terms table rests t field c.requires.can next bits) h))

pub returns-in-Ok-clause-can : goal.returns-in-Ok-clause-can
returns-in-Ok-clause-can g c =
    let r = c.first.result.now in
    let table = c.args.fields.now in
    let rests = c.args.contest.now.rests in
    let k = c.args.contest.now.first in
    let t = c.take_head.new.current in
    let takes = subst (TakesHead r.left t) c.in-Ok-Some.field-0-is c.in-Ok-Some.ensures in
    let head : first_term (get_or rests k r).left ≡ Some t = ap (λ (x : Rest). first_term x.left) (sym (c.first.ensures.slot r)) ∙ takes.0 in
    let is : c.in-Ok-Some.number ≡ number_of_first (get_or rests k r).left = takes.1 ∙ ap (λ (x : Rest). number_of_first x.left) (c.first.ensures.slot r) in
    let next = is_next table rests k r t c.in-Ok-Some.number c.requires.can c.first.ensures.first head is in
    subst (CanMerge table) (sym c.in-Ok.ensures.passed) (can-past table rests t c.requires.can next.name next.low)

pub returns-in-Ok-clause-going : goal.returns-in-Ok-clause-going
returns-in-Ok-clause-going g c _ =
    let r = c.first.result.now in
    let table = c.args.fields.now in
    let rests = c.args.contest.now.rests in
    let k = c.args.contest.now.first in
    let t = c.take_head.new.current in
    let takes = subst (TakesHead r.left t) c.in-Ok-Some.field-0-is c.in-Ok-Some.ensures in
    let head : first_term (get_or rests k r).left ≡ Some t = ap (λ (x : Rest). first_term x.left) (sym (c.first.ensures.slot r)) ∙ takes.0 in
    let is : c.in-Ok-Some.number ≡ number_of_first (get_or rests k r).left = takes.1 ∙ ap (λ (x : Rest). number_of_first x.left) (c.first.ensures.slot r) in
    let next = is_next table rests k r t c.in-Ok-Some.number c.requires.can c.first.ensures.first head is in
    subst (λ rs. count rs < count rests) (sym c.in-Ok.ensures.passed) next.less

pub returns-in-Err-merge_term-clause-terms : goal.returns-in-Err-merge_term-clause-terms
returns-in-Err-merge_term-clause-terms g c i limit all h =
    let r = c.first.result.now in
    let table = c.args.fields.now in
    let rests = c.args.contest.now.rests in
    let k = c.args.contest.now.first in
    let t = c.take_head.new.current in
    let takes = subst (TakesHead r.left t) c.in-Ok-Some.field-0-is c.in-Ok-Some.ensures in
    let head : first_term (get_or rests k r).left ≡ Some t = ap (λ (x : Rest). first_term x.left) (sym (c.first.ensures.slot r)) ∙ takes.0 in
    let is : c.in-Ok-Some.number ≡ number_of_first (get_or rests k r).left = takes.1 ∙ ap (λ (x : Rest). number_of_first x.left) (c.first.ensures.slot r) in
    let next = is_next table rests k r t c.in-Ok-Some.number c.requires.can c.first.ensures.first head is in
    let bits = bits-named table c.in-Ok-Some.number c.index-fields-number.result t.field next.inside next.number_is in
    let field : MergedField = record { number = c.in-Ok-Some.number; bits = (get_or table c.in-Ok-Some.number c.index-fields-number.result).bits } in
    let left = kept_terms table (terms_of_all table (map (past t) rests)) in
    c.in-Err-merge_term.ensures.terms i limit all left (subst (λ ts. IsOn i limit all ts c.args.writer.now) (next-terms table rests t field c.requires.can next bits) h)
