use Rattle.std.proofs.Common.{ℕ, [], ◌∷◌, sym, ap, ◌∙◌, rules}
use Rattle.lu_grammar.specs.Records.{first_broken}
use Rattle.lu_grammar.proofs.Records.{record_at-read, record_at-breaks, record_at-unread}
use Rattle.freq_skips.specs.Records.{level_length, length_shape}
use Rattle.freq_skips.specs.Levels.{skip_start}
use Rattle.freq_skips.proofs.levels.read_length.Goals as goal

pub returns-in-Err : goal.returns-in-Err
returns-in-Err c = rw c.rule_of.ensures (record_at-unread length_shape _ c.args.cur.now c.in-Err.bad (search rules))

pub returns-in-Some : goal.returns-in-Some
returns-in-Some c =
    let broken = ap (λ (n : ℕ). first_broken (skip_start c.args.term.now c.args.first n ∷ [])) (sym c.place-place.ensures) ∙ sym c.in-Some.ensures in
    record_at-breaks length_shape (λ r. skip_start c.args.term.now c.args.first c.args.cur.now.place ∷ []) c.args.cur.now (level_length c.in-Ok.stated) c.vlong.new.self c.in-Some.rule (search rules) broken

pub returns-in-None : goal.returns-in-None
returns-in-None c =
    let broken = ap (λ (n : ℕ). first_broken (skip_start c.args.term.now c.args.first n ∷ [])) (sym c.place-place.ensures) ∙ sym c.in-None.ensures in
    record_at-read length_shape (λ r. skip_start c.args.term.now c.args.first c.args.cur.now.place ∷ []) c.args.cur.now (level_length c.in-Ok.stated) c.vlong.new.self (search rules) broken
