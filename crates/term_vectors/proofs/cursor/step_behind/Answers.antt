use Rattle.std.proofs.Common.{◌≡◌, ◌<◌, ◌-◌, ℕ, suc, refl, sym, ap, ◌∙◌, arith}
use Rattle.lu_grammar.specs.Bytes.{Cursor, place_in}
use Rattle.lu_grammar.specs.Records.{record_at}
use Rattle.lu_grammar.proofs.Codecs.{err_is_not_ok}
use Rattle.term_vectors.specs.Fields.{stated, difference_shape, difference_conditions}
use Rattle.term_vectors.proofs.FieldLemmas.{reads_further, further-broken}
use Rattle.term_vectors.proofs.LeftLemmas.{record_in}
use Rattle.term_vectors.proofs.CursorLemmas.{step-none, step-more}
use Rattle.term_vectors.proofs.cursor.step_behind.Goals as goal

pub returns-then-left-eq0 : goal.returns-then-left-eq0
returns-then-left-eq0 c = λ places d e.
    step-none c.args.tvd.now c.args.further c.args.place c.args.left places d (record { place = c.args.place; further = c.args.further }) c.if-left-eq0.true c.requires.within e refl refl

pub unreachable-requires : goal.unreachable-requires
unreachable-requires c =
    let (x, e) = c.requires.there in
    let some : 0 < c.args.left = omega (arith, c.if-left-eq0.false) in
    let more : c.args.left ≡ suc (c.args.left - 1) = omega (arith, some) in
    let here = place_in c.args.tvd.now c.args.further in
    let at = ap (λ (d : Cursor). record_at difference_shape (λ r. difference_conditions c.args.place (stated r)) d) (sym c.at-beside.ensures) ∙ c.in-Err.ensures in
    err_is_not_ok (sym (further-broken (c.args.left - 1) c.args.place here c.in-Err.field-0 at) ∙ ap (λ (k : ℕ). reads_further k c.args.place here) (sym more) ∙ e)

pub returns : goal.returns
returns c = λ places d e.
    let some : 0 < c.args.left = omega (arith, c.if-left-eq0.false) in
    let made = c.in-Ok.ensures in
    let at = ap (λ (d : Cursor). record_at difference_shape (λ r. difference_conditions c.args.place (stated r)) d) (sym c.at-beside.ensures) ∙ made.1 in
    let within = record_in difference_shape (λ r. difference_conditions c.args.place (stated r)) c.args.tvd.now c.args.further made.0 c.next_place.new.here (λ i. (c.type_inv.tvd i).fits) c.requires.within at in
    step-more c.args.tvd.now c.args.further c.args.place c.args.left places d made.0 c.next_place.new.here (record { place = c.in-Ok.next; further = c.place.result }) some e at made.2 within c.place.ensures
