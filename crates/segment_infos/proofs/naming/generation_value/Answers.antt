use Rattle.std.proofs.Common.{◌≡◌, codes, sym, ◌∙◌}
use mathlib.Core.Bool.{true≢false}
use Rattle.std.specs.Cmp.Lexicographic.{bytes_decides}
use Rattle.segment_infos.proofs.NameParts.{generation-no_segment, generation-no_generation, generation-no_field, generation-del}
use Rattle.segment_infos.proofs.naming.generation_value.Goals as goal

pub returns-in_err-segment : goal.returns-in_err-segment
returns-in_err-segment c = rw c.from_residual.ensures (generation-no_segment c.args.segment.now c.args.generation.now c.args.extension.now c.requires.segment c.requires.generation c.in_err-segment.ensures)

pub returns-in_err-generation : goal.returns-in_err-generation
returns-in_err-generation c =
    rw c.from_residual-in_err-generation.ensures (generation-no_generation c.args.segment.now c.args.generation.now c.args.extension.now c.requires.segment c.requires.generation c.in_err-generation.ensures)

pub returns-then-eq : goal.returns-then-eq
returns-then-eq c =
    let is : c.args.extension.now ≡ codes "del" = (bytes_decides c.args.extension.now (codes "del")).0 (sym c.if-eq.ensures) in
    generation-del c.args.segment.now c.args.generation.now c.args.extension.now c.in_ok-segment.segment c.in_ok-generation.generation c.in_ok-segment.ensures.0 c.in_ok-segment.ensures.1 c.in_ok-generation.ensures.0 c.in_ok-generation.ensures.1 is

pub returns-in_err-field : goal.returns-in_err-field
returns-in_err-field c =
    rw c.from_residual-in_err-field.ensures
    (generation-no_field c.args.segment.now c.args.generation.now c.args.extension.now c.requires.segment c.requires.generation (λ is. true≢false (sym ((bytes_decides c.args.extension.now (codes "del")).1 is) ∙ sym c.if-eq.ensures)) c.in_err-field.ensures)
