use Rattle.std.proofs.Common.{ℕ, Err, refl, sym, ap, ◌∙◌}
use Rattle.lu_grammar.proofs.Codecs.{record_at-read, record_at-breaks, record_at-unread}
use Rattle.term_vectors.specs.Vectors.{term_shape, term_conditions}
use Rattle.term_vectors.specs.InnerTexts.{text_before, term_record}
use Rattle.term_vectors.proofs.vectors.next_term.Goals as goal

pub returns-in-Err : goal.returns-in-Err
returns-in-Err c = record_at-unread term_shape (term_conditions (text_before c.args.last.now)) c.args.here.now c.in-Err.bad c.in-Err.ensures ∙ ap (λ (n : ℕ). Err n) (sym c.rule_of.ensures)

pub returns-in-Ok-Some : goal.returns-in-Ok-Some
returns-in-Ok-Some c =
    record_at-breaks term_shape (term_conditions (text_before c.args.last.now)) c.args.here.now (term_record c.in-Ok.entry) c.entry_at.new.cur c.in-Ok-Some.rule c.in-Ok.ensures (sym c.in-Ok-Some.ensures.rule ∙ c.in-Ok-Some.field-0-is)

pub returns-in-Ok-None : goal.returns-in-Ok-None
returns-in-Ok-None c =
    let good = c.in-Ok-None.ensures.good c.in-Ok-None.field-0-is in (
      term_record c.in-Ok.entry,
      record_at-read term_shape (term_conditions (text_before c.args.last.now)) c.args.here.now (term_record c.in-Ok.entry) c.entry_at.new.cur c.in-Ok.ensures (sym c.in-Ok-None.ensures.rule ∙ c.in-Ok-None.field-0-is),
      good.0,
      good.1,
      refl,
    )
