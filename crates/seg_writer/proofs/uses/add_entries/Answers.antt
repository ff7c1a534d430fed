use Rattle.std.proofs.Common.{◌≤◌, ◌<◌, ◌^◌, ap, sym, ◌∙◌, subst, Err, [], ◌∷◌, ◌++◌, length, take, drop, get_or, arith}
use Rattle.posting_files.specs.States.{IsTermBegun}
use Rattle.seg_writer.specs.declared.appearance.Appearance.{Appearance}
use Rattle.seg_writer.specs.Columns.{tokens_in_field}
use Rattle.seg_writer.specs.Entries.{AddsEntries, IsBareUnless, MayFollow}
use Rattle.seg_writer.proofs.PartlyLemmas.{no_use, no_appearance, length-nil, next-at, run-at, entry-at, follow-next, partly-begun, partly-next, partly-past, partly-end}
use Rattle.seg_writer.proofs.uses.add_entries.Goals as goal

pub loop-rest-init : goal.loop-rest-init
loop-rest-init c = partly-begun c.args.column.now c.args.term.now.text.now c.args.omit_tf c.args.term.now.uses.now c.args.writer.now c.requires.uses

pub split_at-requires : goal.split_at-requires
split_at-requires c =
    let rest = c.loop-rest.rest.now in
    subst (λ n. n ≤ length rest) (sym c.run_len.ensures) (next-at c.args.column.now c.args.term.now.text.now c.args.omit_tf rest c.args.writer.now c.loop-rest.writer no_appearance c.loop-rest.invariant c.in-len1-up.len_at_least).fits

pub bounds-column-entry : goal.bounds-column-entry
bounds-column-entry c = (next-at c.args.column.now c.args.term.now.text.now c.args.omit_tf c.loop-rest.rest.now c.args.writer.now c.loop-rest.writer no_appearance c.loop-rest.invariant c.in-len1-up.len_at_least).inside

pub add_entry-requires : goal.add_entry-requires
add_entry-requires c =
    let column = c.args.column.now in
    let rest = c.loop-rest.rest.now in
    let first = get_or rest 0 no_use in
    let a = c.index-column-entry.result in
    let x = next-at column c.args.term.now.text.now c.args.omit_tf rest c.args.writer.now c.loop-rest.writer a c.loop-rest.invariant c.in-len1-up.len_at_least in
    let front = c.split_at.ensures.front ∙ ap (λ n. take n rest) c.run_len.ensures in
    let run = run-at column c.args.term.now.text.now c.args.omit_tf c.loop-rest.invariant.passed rest c.split_at.result.0.now first a c.requires.column x c.index-column-entry.is front in
    record {
      run = run.0;
      bare = subst (λ (b : Appearance). IsBareUnless c.args.payloads (tokens_in_field b)) (sym c.index-column-entry.is) (c.requires.bare first.entry a x.inside);
      docs = run.3;
      some = run.1;
      few = run.2;
      small = subst (λ (b : Appearance). b.doc < 2 ^ 31) (sym c.index-column-entry.is) (c.requires.column.small first.entry a x.inside);
      follows = subst (λ (b : Appearance). MayFollow b.doc c.loop-rest.writer) (sym c.index-column-entry.is) (follow-next column c.args.term.now.text.now c.args.omit_tf rest c.args.writer.now c.loop-rest.writer first a c.loop-rest.invariant c.requires.begun x);
    }

pub returns-in-Err : goal.returns-in-Err
returns-in-Err c =
    let column = c.args.column.now in
    let rest = c.loop-rest.rest.now in
    let first = get_or rest 0 no_use in
    let a = c.index-column-entry.result in
    let x = next-at column c.args.term.now.text.now c.args.omit_tf rest c.args.writer.now c.loop-rest.writer a c.loop-rest.invariant c.in-len1-up.len_at_least in
    let front = c.split_at.ensures.front ∙ ap (λ n. take n rest) c.run_len.ensures in
    let same = entry-at column c.args.omit_tf rest c.split_at.result.0.now first a c.index-column-entry.is front in
    partly-past column c.args.term.now.text.now c.args.omit_tf rest c.args.writer.now c.loop-rest.writer c.add_entry.new.writer first a c.in-Err.fault c.loop-rest.invariant x
    (λ i limit ts om payloads es b. subst (λ e. AddsEntries i limit ts om payloads (es ++ e ∷ []) c.add_entry.new.writer (Err c.in-Err.fault)) same (c.in-Err.ensures i limit ts om payloads es b))

pub loop-rest-preserved : goal.loop-rest-preserved
loop-rest-preserved c =
    let column = c.args.column.now in
    let rest = c.loop-rest.rest.now in
    let first = get_or rest 0 no_use in
    let a = c.index-column-entry.result in
    let x = next-at column c.args.term.now.text.now c.args.omit_tf rest c.args.writer.now c.loop-rest.writer a c.loop-rest.invariant c.in-len1-up.len_at_least in
    let front = c.split_at.ensures.front ∙ ap (λ n. take n rest) c.run_len.ensures in
    let back = c.split_at.ensures.back ∙ ap (λ n. drop n rest) c.run_len.ensures in
    let same = entry-at column c.args.omit_tf rest c.split_at.result.0.now first a c.index-column-entry.is front in
    partly-next column c.args.term.now.text.now c.args.omit_tf rest c.split_at.result.1.now c.args.writer.now c.loop-rest.writer c.add_entry.new.writer first a c.loop-rest.invariant c.requires.column x back
    (λ i limit ts om payloads es b. subst (λ e. IsTermBegun i limit ts om payloads (es ++ e ∷ []) c.add_entry.new.writer) same (c.in-Ok.ensures i limit ts om payloads es b))

pub returns : goal.returns
returns c = partly-end c.args.column.now c.args.term.now.text.now c.args.omit_tf c.loop-rest.rest.now c.args.writer.now c.loop-rest.writer c.loop-rest.invariant (length-nil c.loop-rest.rest.now (let short = c.in_default.len_below in omega (arith, short)))
