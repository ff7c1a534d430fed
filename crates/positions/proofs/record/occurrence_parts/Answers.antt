use Rattle.std.proofs.Common.{◌≡◌, ℕ, List, Option, Ok, Err, subst, sym, ◌∙◌}
use Rattle.lu_grammar.specs.Parts.{vint, bytes}
use Rattle.lu_grammar.specs.Records.{Shape, part, whole, read_shape}
use Rattle.lu_grammar.proofs.Records.{read_shape-part, read_shape-part_err}
use Rattle.positions.specs.Records.{payload_shape, OccurrenceRecord}
use Rattle.positions.proofs.record.occurrence_parts.Goals as goal

abbrev made : ℕ → Option ℕ → List ℕ → Shape OccurrenceRecord
made delta stated payload = whole (record { delta = delta; stated = stated; payload = payload })

pub returns-in-Err-stated_length : goal.returns-in-Err-stated_length
returns-in-Err-stated_length c =
    read_shape-part vint _ c.args.cur.now c.in-Ok.delta c.vint.new.self c.in-Ok.ensures ∙ c.in-Err-stated_length.ensures.gives (payload_shape c.args.force c.in-Ok.delta)

pub returns-in-Err-bytes : goal.returns-in-Err-bytes
returns-in-Err-bytes c =
    let delta = c.in-Ok.delta in
    let stated = c.in-Ok-stated_length.stated in
    read_shape-part vint _ c.args.cur.now delta c.vint.new.self c.in-Ok.ensures
    ∙ c.in-Ok-stated_length.ensures.gives (payload_shape c.args.force delta)
    ∙ subst (λ (n : ℕ). read_shape (part (bytes n) (made delta stated)) c.stated_length.new.cur ≡ Err c.in-Err-bytes.bad) c.length_or.ensures
    (read_shape-part_err (bytes c.length_or.result) (made delta stated) c.stated_length.new.cur c.in-Err-bytes.bad c.in-Err-bytes.ensures.0)

pub returns-in-Ok-bytes : goal.returns-in-Ok-bytes
returns-in-Ok-bytes c =
    let delta = c.in-Ok.delta in
    let stated = c.in-Ok-stated_length.stated in
    let payload = c.in-Ok-bytes.payload.now in
    let found : OccurrenceRecord = record { delta = delta; stated = stated; payload = payload } in
    read_shape-part vint _ c.args.cur.now delta c.vint.new.self c.in-Ok.ensures
    ∙ c.in-Ok-stated_length.ensures.gives (payload_shape c.args.force delta)
    ∙ subst (λ (n : ℕ). read_shape (part (bytes n) (made delta stated)) c.stated_length.new.cur ≡ Ok (found, c.bytes.new.self)) c.length_or.ensures
    (read_shape-part (bytes c.length_or.result) (made delta stated) c.stated_length.new.cur payload c.bytes.new.self c.in-Ok-bytes.ensures)
