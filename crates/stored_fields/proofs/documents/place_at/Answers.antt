use Rattle.std.proofs.Common.{◌≡◌, ◌≤◌, length, sym, ap, ◌∙◌, rules, arith, to_z, of_z, w64, length-drop}
use Rattle.lu_grammar.specs.Bytes.{Cursor}
use Rattle.lu_grammar.specs.Parts.{int64}
use Rattle.lu_grammar.specs.Reading.{read}
use Rattle.lu_grammar.proofs.Codecs.{int64_read, int64_not_bad}
use Rattle.stored_fields.proofs.documents.place_at.Goals as goal

pub unreachable-requires : goal.unreachable-requires
unreachable-requires c =
    let le : 8 ≤ length c.at.result.rest = rw c.at.ensures (simp length-drop (omega arith)) in
    int64_not_bad c.at.result c.in-Err.field-0 le c.in-Err.ensures.0

pub returns : goal.returns
returns c =
    let z = to_z w64 (of_z w64 c.in-Ok.place) in
    let e : z ≡ c.in-Ok.place = search rules in
    rw e (ap (λ (d : Cursor). read int64 d.rest) (sym c.at.ensures) ∙ (int64_read c.at.result c.i64.new.self c.in-Ok.place c.in-Ok.ensures).1)
