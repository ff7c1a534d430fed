use Rattle.std.proofs.Common.{sym, subst, ◌++◌}
use Rattle.std.specs.Prelude.{flat_map}
use Rattle.std.proofs.lemmas.List.{append-nil, take_all}
use Rattle.posting_files.specs.States.{ArePostings}
use Rattle.seg_writer.specs.Terms.{kept_column_terms}
use Rattle.seg_writer.proofs.BlockLemmas.{blocks-next, blocks-not-added}
use Rattle.seg_writer.proofs.terms.write_columns.Goals as goal

pub loop-here-init : goal.loop-here-init
loop-here-init c = record {
  written = λ i limit ts h. subst (λ us. ArePostings i limit us c.args.writer.now) (sym (append-nil ts)) h;
  between = c.requires.between;
}

pub loop-here-preserved : goal.loop-here-preserved
loop-here-preserved c = record {
  written = blocks-next kept_column_terms c.args.columns.now c.loop-here.here-index c.here-item.result c.args.writer.now c.loop-here.writer c.write_column.new.writer c.loop-here-test.true c.here-item.is c.loop-here.invariant.written c.in-Ok.ensures.terms;
  between = c.in-Ok.ensures.between;
}

pub returns-in-Err-clause-terms : goal.returns-in-Err-clause-terms
returns-in-Err-clause-terms c =
    blocks-not-added kept_column_terms c.args.columns.now c.loop-here.here-index c.here-item.result c.in-Err.fault c.args.writer.now c.loop-here.writer c.write_column.new.writer c.loop-here-test.true c.here-item.is c.loop-here.invariant.written c.in-Err.ensures.terms

pub returns-clause-terms : goal.returns-clause-terms
returns-clause-terms c i limit ts h =
    subst (λ xs. ArePostings i limit (ts ++ flat_map kept_column_terms xs) c.loop-here.writer) (take_all c.loop-here.here-index c.args.columns.now c.loop-here-test.false) (c.loop-here.invariant.written i limit ts h)
