use Rattle.std.proofs.Common.{◌≡◌, ℕ, List, not, refl, subst, sym, ap, ◌∙◌}
use Rattle.std.specs.Borrow.{Bor}
use Rattle.doc_marks.specs.Marking.{is_in}
use Rattle.doc_marks.specs.Deletions.{pairs_documents}
use Rattle.doc_marks.specs.Lent.{behind_header}
use Rattle.doc_marks.specs.Walking.{PairsAt, walk_documents, IsWalking, IsWalkOver}
use Rattle.doc_marks.specs.declared.segment.Segment.{Segment}
use Rattle.doc_marks.proofs.WalkLemmas.{is_in-reached}
use Rattle.doc_marks.proofs.walk.LiveWalk.is_live.Goals as goal

pub returns-in-Nothing-clause-live : goal.returns-in-Nothing-clause-live
unfolding is_in
returns-in-Nothing-clause-live c = rw (← c.self.view_is, c.in-Nothing.is) refl

pub returns-in-Sparse-clause-live : goal.returns-in-Sparse-clause-live
returns-in-Sparse-clause-live c =
    let old = c.self.inside.pairs in
    let w = c.pass_to.new.self in
    let doc = c.args.doc in
    let stands : (old.del ≡ c.in-Sparse.field-0) × IsWalking old = subst (λ f. IsWalkOver f old) c.in-Sparse.is c.self.invariant.pairs in
    let walking : PairsAt w.segment.size w.segment.count (walk_documents w) w.passed.index w.passed.documents w.marks w.cur doc =
    subst (λ (n : ℕ). PairsAt w.segment.size w.segment.count (walk_documents w) w.passed.index w.passed.documents w.marks w.cur n) c.pass_to.ensures.from c.pass_to.ensures.walking in
    let reached = is_in-reached w.segment.size w.segment.count (walk_documents w) w.passed.index w.passed.documents w.marks w.cur doc walking c.pass_to.ensures.reached in
    let file : walk_documents w ≡ pairs_documents old.segment.size old.segment.count (behind_header c.in-Sparse.field-0.now) =
    ap (λ (s : Segment). pairs_documents s.size s.count (behind_header w.del.now)) c.pass_to.ensures.segment
    ∙ ap (λ (b : Bor (List ℕ)). pairs_documents old.segment.size old.segment.count (behind_header b.now)) (c.pass_to.ensures.file ∙ stands.0) in
    rw (← c.self.view_is, c.in-Sparse.is) (ap not (c.is_marked-in-Sparse.ensures ∙ sym reached ∙ ap (is_in doc) file))
