use Rattle.std.proofs.Common.{◌≡◌, ◌≤◌, ◌+◌, ◌*◌, ℕ, Option, length, drop, sym, ap, ◌∙◌, rules, arith, to_z, of_z, w64, length-drop}
use Rattle.std.specs.Option.{unwrap_or}
use Rattle.lu_grammar.specs.Bytes.{Cursor}
use Rattle.lu_grammar.specs.Parts.{int64}
use Rattle.lu_grammar.specs.Reading.{read_part}
use Rattle.lu_grammar.proofs.Codecs.{int64_read, int64_not_bad}
use Rattle.term_vectors.specs.Format.{place_of_number}
use Rattle.term_vectors.proofs.StatedLemmas.{stated_at}
use Rattle.term_vectors.proofs.fields.places_at.Goals as goal

pub unreachable-requires : goal.unreachable-requires
unreachable-requires c =
    let le : 8 ≤ length c.at-here.result.rest = rw c.at-here.ensures (simp length-drop (omega arith)) in
    int64_not_bad c.at-here.result c.in-Err.field-0 le c.in-Err.ensures.0

pub unreachable-requires-in-Err-i64 : goal.unreachable-requires-in-Err-i64
unreachable-requires-in-Err-i64 c =
    let long : length c.at-here.result.rest ≡ length (drop (4 + 16 * c.args.number) c.args.tvx.now) = ap (λ (d : Cursor). length d.rest) c.at-here.ensures in
    let behind = (int64_read c.at-here.result c.i64.new.self c.in-Ok.tvd c.in-Ok.ensures).2 in
    let rest : length c.i64.new.self.rest ≡ length (drop 8 c.at-here.result.rest) = ap (λ (d : Cursor). length d.rest) behind in
    let le : 8 ≤ length c.i64.new.self.rest = omega (arith, rest, long, length-drop 8 c.at-here.result.rest, length-drop (4 + 16 * c.args.number) c.args.tvx.now) in
    int64_not_bad c.i64.new.self c.in-Err-i64.field-0 le c.in-Err-i64.ensures.0

pub returns : goal.returns
returns c =
    let a : to_z w64 (of_z w64 c.in-Ok.tvd) ≡ c.in-Ok.tvd = search rules in
    let b : to_z w64 (of_z w64 c.in-Ok-i64.tvf) ≡ c.in-Ok-i64.tvf = search rules in
    stated_at c.args.tvx.now (4 + 16 * c.args.number) c.in-Ok.tvd c.in-Ok-i64.tvf c.i64.new.self c.i64-in-Ok.new.self c.unwrap_or.result c.unwrap_or-in-Ok-i64.result
    (ap (λ (d : Cursor). read_part int64 d) (sym c.at-here.ensures) ∙ c.in-Ok.ensures) c.in-Ok-i64.ensures
    (c.unwrap_or.ensures ∙ ap (λ (o : Option ℕ). unwrap_or o 0) (c.place_of_number.ensures ∙ ap place_of_number a)) (c.unwrap_or-in-Ok-i64.ensures ∙ ap (λ (o : Option ℕ). unwrap_or o 0) (c.place_of_number-in-Ok-i64.ensures ∙ ap place_of_number b))
