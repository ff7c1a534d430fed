use Rattle.std.proofs.Common.{◌≡◌, ℕ, Ok, Err, Some, refl, sym, ap, subst, ◌∙◌, arith}
use Rattle.lu_grammar.specs.Bytes.{Cursor, place_in}
use Rattle.lu_grammar.specs.Plans.{read_plan}
use Rattle.freq_skips.specs.Records.{level_length}
use Rattle.freq_skips.specs.Levels.{level_of, level_data}
use Rattle.freq_skips.proofs.LengthLemmas.{length_at, level_plan-length, level_plan-broken, length-place}
use Rattle.freq_skips.proofs.levels.level_length.Goals as goal

pub returns-in-Err-clause-level : goal.returns-in-Err-clause-level
returns-in-Err-clause-level c = λ postings points highest.
    let t = c.args.term.now in
    let here = place_in c.args.frq.now c.args.at in
    let read = subst (λ (d : Cursor). length_at t c.args.highest d ≡ Err c.in-Err.rule) c.at-cur.ensures c.in-Err.ensures in
    rw c.at.ensures (refl, level_plan-broken t postings c.args.number points c.args.highest c.in-Err.rule here c.if-number-eq0.false highest read)

pub returns-in-Ok-clause-within : goal.returns-in-Ok-clause-within
returns-in-Ok-clause-within c =
    let t = c.args.term.now in
    let read = subst (λ (d : Cursor). length_at t c.args.highest d ≡ Ok (level_length c.in-Ok.stated, c.read_length.new.cur)) c.at-cur.ensures c.in-Ok.ensures in
    let at = length-place t c.args.highest c.in-Ok.stated c.args.frq.now c.args.at c.read_length.new.cur (λ i. (c.type_inv.frq i).fits) c.requires read in
    omega (arith, c.place.ensures, at.1)

pub returns-in-Ok-clause-level : goal.returns-in-Ok-clause-level
returns-in-Ok-clause-level c = λ postings points highest.
    let t = c.args.term.now in
    let frq = c.args.frq.now in
    let read = subst (λ (d : Cursor). length_at t c.args.highest d ≡ Ok (level_length c.in-Ok.stated, c.read_length.new.cur)) c.at-cur.ensures c.in-Ok.ensures in
    let at = length-place t c.args.highest c.in-Ok.stated frq c.args.at c.read_length.new.cur (λ i. (c.type_inv.frq i).fits) c.requires read in
    level_plan-length t postings c.args.number points c.args.highest c.in-Ok.stated (place_in frq c.args.at) c.read_length.new.cur c.if-number-eq0.false highest read
    ∙ ap (λ (d : Cursor). read_plan (level_data t postings (level_of c.args.number (Some c.in-Ok.stated) points)) d) (at.0 ∙ ap (λ (n : ℕ). place_in frq n) (sym c.place.ensures))
