use Rattle.std.proofs.Common.{◌≡◌, ℕ, Bool, List, ◌-◌, ◌+◌, true, false, not, length, replicate, set, refl, sym, ap, subst, ◌∙◌, arith}
use Rattle.std.proofs.lemmas.List.{length-append, length-replicate}
use Rattle.doc_marks.specs.Marking.{flags_of, is_in, documents_of, AreRising}
use Rattle.doc_marks.specs.Walking.{MarkWalk}
use Rattle.doc_marks.proofs.MarkLemmas.{length-flags_of, places-flags_of}
use Rattle.doc_marks.proofs.MarksLemmas.{next-marked, next-clear, all-marked}
use Rattle.doc_marks.proofs.live.Live.marks.Goals as goal
use Rattle.doc_marks.proofs.live.Live.marks.Goals.{then-not-is_live, else-not-is_live}

not_false : (b : Bool) → not b ≡ false → b ≡ true
not_false true e = refl
not_false false e = sym e

not_true : (b : Bool) → not b ≡ true → b ≡ false
not_true true e = sym e
not_true false e = refl

pub loop-doc-init : goal.loop-doc-init
unfolding flags_of
loop-doc-init c =
    let size = c.size-size.result in
    record {
      marks = c.in_ok-marks.ensures ∙ ap (λ (n : ℕ). replicate n false) (let e : size ≡ size - 0 = omega arith in e);
      documents = ap (λ (w : MarkWalk). w.documents) c.walk-walk.ensures;
      from = omega (arith, ap (λ (w : MarkWalk). w.from) c.walk-walk.ensures);
    }

pub set-requires : goal.set-requires
set-requires c =
    let doc = c.loop-doc.doc in
    let size = c.size-size.result in
    let docs = c.args.self.now.documents in
    omega (arith, ap length c.loop-doc.invariant.marks, length-append (flags_of 0 doc docs) (replicate (size - doc) false), length-flags_of 0 doc docs, length-replicate (size - doc) false, c.loop-doc-test.true)

pub loop-doc-preserved : goal.loop-doc-preserved
loop-doc-preserved c =
    let doc = c.loop-doc.doc in
    let size = c.size-size.result in
    let docs = c.args.self.now.documents in
    let h = c.loop-doc.invariant in
    let asked : c.is_live.result ≡ not (is_in doc docs) = c.is_live.ensures.live ∙ ap (λ (ds : List ℕ). not (is_in doc ds)) h.documents in
    let same = ap (λ (w : MarkWalk). w.documents) c.is_live.ensures.walk ∙ h.documents in
    let at_doc = ap (λ (w : MarkWalk). w.from) c.is_live.ensures.walk in
    elim c.if-not-is_live.branch [
      | then-not-is_live w ↦ record {
        marks = w.marks-is ∙ w.set.ensures.marked ∙ ap (λ (t : List Bool). set t doc true) h.marks ∙ next-marked size doc docs c.loop-doc-test.true (not_false (is_in doc docs) (sym asked ∙ w.if-not-is_live.true));
        documents = same;
        from = omega (arith, at_doc);
      }
      | else-not-is_live w ↦ record {
        marks = w.marks-is ∙ h.marks ∙ next-clear size doc docs c.loop-doc-test.true (not_true (is_in doc docs) (sym asked ∙ w.if-not-is_live.false));
        documents = same;
        from = omega (arith, at_doc);
      }
    ]

pub returns-clause-documents : goal.returns-clause-documents
returns-clause-documents c =
    let size = c.size-size.result in
    let docs = c.args.self.now.documents in
    let self = c.args.self.now in
    ap documents_of (c.loop-doc.invariant.marks ∙ all-marked size c.loop-doc.doc docs (omega arith) ∙ ap (λ (n : ℕ). flags_of 0 n docs) c.size-size.ensures.size)
    ∙ places-flags_of 0 self.size docs (subst (λ (n : ℕ). AreRising 0 n docs) (let e : self.size ≡ 0 + self.size = omega arith in e) c.size-size.ensures.rise)

pub returns-clause-marks : goal.returns-clause-marks
returns-clause-marks c =
    let size = c.size-size.result in
    let docs = c.args.self.now.documents in
    c.loop-doc.invariant.marks ∙ all-marked size c.loop-doc.doc docs (omega arith) ∙ ap (λ (n : ℕ). flags_of 0 n docs) c.size-size.ensures.size
