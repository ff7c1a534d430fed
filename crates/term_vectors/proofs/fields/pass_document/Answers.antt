use Rattle.std.proofs.Common.{◌≡◌, ◌-◌, ℕ, sym, ap, ◌∙◌, arith}
use Rattle.lu_types.specs.declared.kind.FileKind.TheVariants.{Tvd}
use Rattle.lu_grammar.specs.Plans.{read_plan}
use Rattle.lu_types.proofs.SpotLemmas.{spot-broken}
use Rattle.term_vectors.specs.Fields.{document_plan}
use Rattle.term_vectors.proofs.FieldLemmas.{reads_further, document-count_broken, document-numbers_broken, document-further_broken, document-read}
use Rattle.term_vectors.proofs.fields.pass_document.Goals as goal

pub returns-in-Err : goal.returns-in-Err
returns-in-Err c =
    spot-broken Tvd c.place-start.result c.in-Err.rule c.at.result (read_plan (document_plan c.args.asked c.args.fields.now c.args.places) c.args.here.now) c.at.ensures
    (rw c.place-start.ensures (document-count_broken c.args.asked c.args.fields.now c.args.places c.args.here.now c.in-Err.rule c.in-Err.ensures))

pub returns-in-Err-pass_numbers : goal.returns-in-Err-pass_numbers
returns-in-Err-pass_numbers c =
    document-numbers_broken c.args.asked c.args.fields.now c.args.places c.args.here.now c.in-Ok.count c.next_count.new.here c.in-Err-pass_numbers.fault Tvd c.in-Ok.ensures c.in-Err-pass_numbers.ensures

pub returns-in-Err-pass_places : goal.returns-in-Err-pass_places
returns-in-Err-pass_places c =
    let s = c.in-Err-pass_places.spot in
    let broken = c.in-Err-pass_places.ensures in
    let numbers = c.in_default.ensures in
    let less : c.saturating_sub.result ≡ c.in-Ok.count - 1 = omega (arith, c.saturating_sub.ensures) in (
      broken.0,
      document-further_broken c.args.asked c.args.fields.now c.args.places c.args.here.now c.in-Ok.count c.next_count.new.here c.pass_numbers.new.here numbers.0 (record { offset = s.offset; rule = s.rule }) c.in-Ok.ensures numbers.1
          (ap (λ (k : ℕ). reads_further k c.args.places.tvf c.pass_numbers.new.here) (sym less) ∙ broken.1),
    )

pub returns-in-Ok-pass_places : goal.returns-in-Ok-pass_places
returns-in-Ok-pass_places c =
    let numbers = c.in_default.ensures in
    let further = c.in-Ok-pass_places.ensures in
    let less : c.saturating_sub.result ≡ c.in-Ok.count - 1 = omega (arith, c.saturating_sub.ensures) in
    document-read c.args.asked c.args.fields.now c.args.places c.args.here.now c.in-Ok.count c.next_count.new.here c.pass_numbers.new.here c.pass_places.new.here numbers.0 further.0 c.in-Ok.ensures numbers.1
    (ap (λ (k : ℕ). reads_further k c.args.places.tvf c.pass_numbers.new.here) (sym less) ∙ further.1)
