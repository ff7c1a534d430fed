use Rattle.std.proofs.Common.{◌≡◌, ◌∙◌, ℕ, Option, sym, ap, rules, to_z, of_z, w64}
use Rattle.std.specs.Option.{unwrap_or}
use Rattle.lu_grammar.specs.Parts.{int64}
use Rattle.lu_grammar.specs.Records.{first_broken}
use Rattle.term_vectors.specs.Format.{place_of_number}
use Rattle.term_vectors.specs.Places.{places, places_conditions}
use Rattle.term_vectors.proofs.FormatLemmas.{two_read, two_breaks, two_unread, two_half}
use Rattle.term_vectors.proofs.places.next_places.Goals as goal

pub returns-in-Err : goal.returns-in-Err
returns-in-Err c = two_unread int64 int64 (λ a b. places (place_of_number a) (place_of_number b)) (places_conditions c.args.before) c.args.here.now c.in-Err.bad _ c.in-Err.ensures.0 c.rule_of.ensures

pub returns-in-Err-i64 : goal.returns-in-Err-i64
returns-in-Err-i64 c =
    two_half int64 int64 (λ a b. places (place_of_number a) (place_of_number b)) (places_conditions c.args.before) c.args.here.now c.i64.new.self c.in-Ok.tvd c.in-Err-i64.bad _ c.in-Ok.ensures c.in-Err-i64.ensures.0 c.rule_of-in-Err-i64.ensures

pub returns-in-Some : goal.returns-in-Some
returns-in-Some c =
    let e : to_z w64 (of_z w64 c.in-Ok.tvd) ≡ c.in-Ok.tvd = search rules in
    let d : to_z w64 (of_z w64 c.in-Ok-i64.tvf) ≡ c.in-Ok-i64.tvf = search rules in
    let tvd : c.place_of_number-tvd.result ≡ place_of_number c.in-Ok.tvd = c.place_of_number-tvd.ensures ∙ ap place_of_number e in
    let tvf : c.place_of_number.result ≡ place_of_number c.in-Ok-i64.tvf = c.place_of_number.ensures ∙ ap place_of_number d in
    two_breaks int64 int64 (λ a b. places (place_of_number a) (place_of_number b)) (places_conditions c.args.before) c.args.here.now c.i64.new.self c.i64-in-Ok.new.self c.in-Ok.tvd c.in-Ok-i64.tvf c.in-Some.rule c.in-Ok.ensures c.in-Ok-i64.ensures
    (ap (λ (o : Option ℕ). first_broken (places_conditions c.args.before (places o (place_of_number c.in-Ok-i64.tvf)))) (sym tvd)
    ∙ ap (λ (o : Option ℕ). first_broken (places_conditions c.args.before (places c.place_of_number-tvd.result o))) (sym tvf) ∙ sym c.in-Some.ensures)

pub returns-in-None : goal.returns-in-None
returns-in-None c =
    let e : to_z w64 (of_z w64 c.in-Ok.tvd) ≡ c.in-Ok.tvd = search rules in
    let d : to_z w64 (of_z w64 c.in-Ok-i64.tvf) ≡ c.in-Ok-i64.tvf = search rules in
    let tvd : c.place_of_number-tvd.result ≡ place_of_number c.in-Ok.tvd = c.place_of_number-tvd.ensures ∙ ap place_of_number e in
    let tvf : c.place_of_number.result ≡ place_of_number c.in-Ok-i64.tvf = c.place_of_number.ensures ∙ ap place_of_number d in (
      places (place_of_number c.in-Ok.tvd) (place_of_number c.in-Ok-i64.tvf),
      two_read int64 int64 (λ a b. places (place_of_number a) (place_of_number b)) (places_conditions c.args.before) c.args.here.now c.i64.new.self c.i64-in-Ok.new.self c.in-Ok.tvd c.in-Ok-i64.tvf c.in-Ok.ensures c.in-Ok-i64.ensures
          (ap (λ (o : Option ℕ). first_broken (places_conditions c.args.before (places o (place_of_number c.in-Ok-i64.tvf)))) (sym tvd)
          ∙ ap (λ (o : Option ℕ). first_broken (places_conditions c.args.before (places c.place_of_number-tvd.result o))) (sym tvf) ∙ sym c.in-None.ensures),
      c.unwrap_or.ensures ∙ ap (λ (o : Option ℕ). unwrap_or o 0) tvd,
    )
