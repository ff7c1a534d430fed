use Rattle.std.proofs.Common.{◌≡◌, ◌≤◌, ◌-◌, [], ◌∷◌, ℕ, false, List, Result, length, get_or, sym, ap, ◌∙◌, arith}
use Rattle.lu_grammar.specs.Bytes.{Cursor, place_in}
use Rattle.lu_grammar.specs.Plans.{Broken}
use Rattle.lu_grammar.specs.Reading.{value_or}
use Rattle.term_vectors.specs.Fields.{VectorPlace}
use Rattle.term_vectors.specs.InnerViews.{no_slot, slots_here}
use Rattle.term_vectors.proofs.FieldLemmas.{reads_numbers, reads_further}
use Rattle.term_vectors.proofs.SlotLemmas.{slots_were, placed-get}
use Rattle.term_vectors.proofs.document.slot_at.Goals as goal

pub number_at-field-requires-clause-there : goal.number_at-field-requires-clause-there
number_at-field-requires-clause-there c =
    let (x, e) = c.requires.there in
    let were = slots_were c.args.count c.args.place (place_in c.args.tvd.now c.args.numbers) x.0 x.1 e in
    ((were.numbers, were.behind), ap (λ (d : Cursor). reads_numbers false [] c.args.count [] d) c.at-beside.ensures ∙ were.numbered)

pub place_of_nth-place-requires : goal.place_of_nth-place-requires
place_of_nth-place-requires c =
    let (x, e) = c.requires.there in
    let were = slots_were c.args.count c.args.place (place_in c.args.tvd.now c.args.numbers) x.0 x.1 e in
    let at = c.number_at-field.ensures were.numbers were.behind (ap (λ (d : Cursor). reads_numbers false [] c.args.count [] d) c.at-beside.ensures ∙ were.numbered) in
    (c.args.count - 1, (were.further, x.1), ap (λ (d : Cursor). reads_further (c.args.count - 1) c.args.place d) at.1 ∙ were.placed_so, omega arith)

pub returns : goal.returns
returns c =
    let (x, e) = c.requires.there in
    let here = place_in c.args.tvd.now c.args.numbers in
    let were = slots_were c.args.count c.args.place here x.0 x.1 e in
    let at = c.number_at-field.ensures were.numbers were.behind (ap (λ (d : Cursor). reads_numbers false [] c.args.count [] d) c.at-beside.ensures ∙ were.numbered) in
    let less : c.args.nth ≤ c.args.count - 1 = omega arith in
    let place = c.place_of_nth-place.ensures (c.args.count - 1) were.further x.1 less (ap (λ (d : Cursor). reads_further (c.args.count - 1) c.args.place d) at.1 ∙ were.placed_so) in
    let le : length were.numbers ≤ length (c.args.place ∷ were.further) = omega (arith, were.many, were.others) in
    let is : x.0 ≡ slots_here c.args.count c.args.place here = sym (ap (λ (r : Result (List VectorPlace × Cursor) Broken). (value_or ([], here) r).0) e) in
    ap (λ (n : ℕ). made n c.place_of_nth-place.result) at.0 ∙ ap (λ (n : ℕ). made (get_or were.numbers c.args.nth 0) n) place
    ∙ sym (placed-get were.numbers (c.args.place ∷ were.further) c.args.nth (omega (arith, were.many)) le) ∙ ap (λ (ss : List VectorPlace). get_or ss c.args.nth no_slot) (sym were.all ∙ is)
  where
    made : ℕ → ℕ → VectorPlace
    made field place = record { field = field; place = place }
