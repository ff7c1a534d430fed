use Rattle.std.proofs.Common.{◌≤◌, ap, sym, ◌∙◌, subst, length, get_or, arith}
use Rattle.std.proofs.lemmas.List.{length-drop}
use Rattle.seg_writer.specs.declared.inverted.Inverted.{Inverted}
use Rattle.seg_writer.specs.SortedUses.{AreGrouped, has_text}
use Rattle.seg_writer.proofs.GroupedLemmas.{grouped-none, grouped-step, lead-fits, run-some}
use Rattle.seg_writer.proofs.PartlyLemmas.{no_use}
use Rattle.seg_writer.proofs.inverted.grouped.Goals as goal

pub loop-rest-init : goal.loop-rest-init
loop-rest-init c = subst (λ ts. AreGrouped c.args.column.now c.args.uses.now ts c.args.uses.now) (sym c.new-terms.ensures.items) (grouped-none c.args.column.now c.args.uses.now c.requires)

pub split_at-requires : goal.split_at-requires
split_at-requires c =
    let rest = c.loop-rest.rest.now in
    subst (λ n. n ≤ length rest) (sym c.run_len.ensures) (lead-fits (has_text c.args.column.now (get_or rest 0 no_use).head c.text_of-text.result.now) rest)

pub loop-rest-smaller : goal.loop-rest-smaller
loop-rest-smaller c =
    let rest = c.loop-rest.rest.now in
    let some = run-some c.args.column.now c.args.uses.now c.requires c.loop-rest.terms.items rest c.text_of-text.result.now c.loop-rest.invariant c.in-len1-up.len_at_least c.text_of-text.ensures in
    let count = c.run_len.ensures in
    let size = ap length c.split_at.ensures.back ∙ length-drop c.run_len.result rest in
    let any = c.in-len1-up.len_at_least in
    omega (arith, some, count, size, any)

pub loop-rest-preserved : goal.loop-rest-preserved
loop-rest-preserved c =
    let t : Inverted = record { text = c.text_of-text.result; uses = c.split_at.result.0 } in
    grouped-step c.args.column.now c.args.uses.now c.requires c.loop-rest.terms.items c.push.new.self.items c.loop-rest.rest.now c.split_at.result.1.now t c.run_len.result c.loop-rest.invariant c.in-len1-up.len_at_least
    c.text_of-text.ensures c.run_len.ensures c.split_at.ensures.front c.split_at.ensures.back c.in_ok-push.ensures.items
