use Rattle.std.proofs.Common.{◌≡◌, Ok}
use Rattle.lu_grammar.specs.Plans.{read_plan}
use Rattle.doc_marks.specs.Deletions.{no_pairs, pairs_plan, pairs_documents}
use Rattle.doc_marks.specs.Lent.{behind_header}
use Rattle.doc_marks.proofs.FileLemmas.{dense-sound, sparse-sound}
use Rattle.doc_marks.proofs.live.check_body.Goals as goal

pub returns-then-is_sparse-clause-sound : goal.returns-then-is_sparse-clause-sound
returns-then-is_sparse-clause-sound c =
    let s = c.args.segment in
    let at_pairs = c.requires c.if-is_sparse.true in
    let read : read_plan (pairs_plan s.size s.count s.count no_pairs) (behind_header c.args.del.now) ≡ Ok (pairs_documents s.size s.count (behind_header c.args.del.now), c.pass_pairs.new.cur) = rw at_pairs.0 at c.in_default.ensures in
    sparse-sound s c.args.del c.pass_pairs.new.cur (λ i. (c.type_inv.del i).fits) at_pairs.1 read

pub returns-in-Ok-clause-sound : goal.returns-in-Ok-clause-sound
returns-in-Ok-clause-sound c = dense-sound c.args.segment c.in-Ok.body c.args.cur.now c.dense_body.new.cur c.in-Ok.ensures.long c.in-Ok.ensures.gives
