use Rattle.std.proofs.Common.{◌≡◌, ℕ, false, [], sym, ap, subst, ◌∙◌}
use Rattle.lu_grammar.specs.Bytes.{Cursor}
use Rattle.term_vectors.specs.InnerCursors.{vectors_left, AreVectorsLeft}
use Rattle.term_vectors.proofs.FieldLemmas.{reads_numbers}
use Rattle.term_vectors.proofs.CursorLemmas.{numbers-read, entered}
use Rattle.term_vectors.proofs.cursor.VectorCursor.new.Goals as goal

pub skip_numbers-requires : goal.skip_numbers-requires
skip_numbers-requires c =
    let x = numbers-read c.args.tvd.now c.args.numbers c.args.count c.args.place c.args.tvf.now c.requires in
    (x.0, ap (λ (d : Cursor). reads_numbers false [] c.args.count [] d) c.at-beside.ensures ∙ x.1)

pub invariant_of-result : goal.invariant_of-result
invariant_of-result c =
    let x = numbers-read c.args.tvd.now c.args.numbers c.args.count c.args.place c.args.tvf.now c.requires in
    let end = c.skip_numbers.ensures x.0.0 x.0.1 (ap (λ (d : Cursor). reads_numbers false [] c.args.count [] d) c.at-beside.ensures ∙ x.1) in
    let e = entered c.args.tvd.now c.args.numbers c.args.count c.args.place c.args.tvf.now (λ i. (c.type_inv.tvd i).fits) c.requires x.0.0 x.0.1 x.1 in
    let place : x.0.1.place ≡ c.place.result = sym (c.place.ensures ∙ ap (λ (d : Cursor). d.place) end) in
    subst (λ (n : ℕ). AreVectorsLeft c.args.tvd.now c.args.numbers n c.args.count c.args.place c.args.tvf.now) place e.left

pub returns : goal.returns
returns c =
    let x = numbers-read c.args.tvd.now c.args.numbers c.args.count c.args.place c.args.tvf.now c.requires in
    let end = c.skip_numbers.ensures x.0.0 x.0.1 (ap (λ (d : Cursor). reads_numbers false [] c.args.count [] d) c.at-beside.ensures ∙ x.1) in
    let e = entered c.args.tvd.now c.args.numbers c.args.count c.args.place c.args.tvf.now (λ i. (c.type_inv.tvd i).fits) c.requires x.0.0 x.0.1 x.1 in
    let place : x.0.1.place ≡ c.place.result = sym (c.place.ensures ∙ ap (λ (d : Cursor). d.place) end) in
    ap (λ (n : ℕ). vectors_left c.args.tvd.now c.args.numbers n c.args.count c.args.place c.args.tvf.now) (sym place) ∙ e.same
