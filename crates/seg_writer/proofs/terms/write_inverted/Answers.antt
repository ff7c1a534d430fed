use Rattle.std.proofs.Common.{sym, subst, ◌++◌, get_or}
use Rattle.std.proofs.lemmas.List.{append-nil, take_all}
use Rattle.posting_files.specs.States.{ArePostings}
use Rattle.seg_writer.specs.Terms.{terms_in_columns}
use Rattle.seg_writer.specs.Texts.{texts_in}
use Rattle.seg_writer.proofs.PostedLemmas.{inverted-at, no_inverted, terms-next, terms-not-added}
use Rattle.seg_writer.proofs.terms.write_inverted.Goals as goal

pub loop-term-init : goal.loop-term-init
loop-term-init c = record {
  written = λ i limit ts h. subst (λ us. ArePostings i limit us c.args.writer.now) (sym (append-nil ts)) h;
  between = c.requires.between;
}

pub loop-term-preserved : goal.loop-term-preserved
loop-term-preserved c = record {
  written = terms-next c.args.kept c.args.column.now c.args.terms.now c.loop-term.term-index (get_or c.args.terms.now c.loop-term.term-index no_inverted) c.args.writer.now c.loop-term.writer c.write_term.new.writer c.loop-term-test.true (inverted-at c.args.terms.now c.loop-term.term-index c.loop-term-test.true) c.loop-term.invariant.written c.in-Ok.ensures.terms;
  between = c.in-Ok.ensures.between;
}

pub returns-in-Err-clause-terms : goal.returns-in-Err-clause-terms
returns-in-Err-clause-terms c =
    terms-not-added c.args.kept c.args.column.now c.args.terms.now c.loop-term.term-index (get_or c.args.terms.now c.loop-term.term-index no_inverted) c.in-Err.fault c.args.writer.now c.loop-term.writer c.write_term.new.writer c.loop-term-test.true (inverted-at c.args.terms.now c.loop-term.term-index c.loop-term-test.true) c.loop-term.invariant.written c.in-Err.ensures.terms

pub returns-clause-terms : goal.returns-clause-terms
returns-clause-terms c i limit ts h =
    subst (λ xs. ArePostings i limit (ts ++ terms_in_columns c.args.kept c.args.column.now (texts_in xs)) c.loop-term.writer) (take_all c.loop-term.term-index c.args.terms.now c.loop-term-test.false) (c.loop-term.invariant.written i limit ts h)
