use Rattle.std.proofs.Common.{sym, subst, ◌++◌}
use Rattle.seg_writer.specs.Entries.{AddsTerms}
use Rattle.seg_writer.specs.Terms.{terms_in_columns}
use Rattle.seg_writer.specs.Texts.{AreInverted}
use Rattle.seg_writer.proofs.TextLemmas.{inverted-texts, texts-short}
use Rattle.seg_writer.proofs.terms.write_column.Goals as goal

pub write_inverted-requires-clause-terms : goal.write_inverted-requires-clause-terms
write_inverted-requires-clause-terms c = subst (AreInverted c.args.column.now) (sym c.as_slice-2.ensures.value) c.in-Ok.ensures

pub write_inverted-requires-clause-texts : goal.write_inverted-requires-clause-texts
write_inverted-requires-clause-texts c = texts-short c.args.column.now c.as_slice-2.result.now (subst (AreInverted c.args.column.now) (sym c.as_slice-2.ensures.value) c.in-Ok.ensures) c.requires.column.sound

pub returns-clause-terms : goal.returns-clause-terms
returns-clause-terms c i limit ts h =
    let same = inverted-texts c.args.column.now c.as_slice-2.result.now (subst (AreInverted c.args.column.now) (sym c.as_slice-2.ensures.value) c.in-Ok.ensures) in
    subst (λ texts. AddsTerms i limit (ts ++ terms_in_columns c.args.kept c.args.column.now texts) c.write_inverted.new.writer c.write_inverted.result) same (c.write_inverted.ensures.terms i limit ts h)
