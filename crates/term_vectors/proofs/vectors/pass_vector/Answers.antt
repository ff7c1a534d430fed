use Rattle.std.proofs.Common.{ℕ, suc, List, Option, None, sym, subst, arith}
use Rattle.lu_types.specs.declared.kind.FileKind.TheVariants.{Tvf}
use Rattle.lu_grammar.specs.Plans.{read_plan}
use Rattle.lu_types.proofs.SpotLemmas.{spot-broken}
use Rattle.term_vectors.specs.Fields.{VectorPlace}
use Rattle.term_vectors.specs.Vectors.{vector_plan}
use Rattle.term_vectors.specs.InnerTexts.{text_before}
use Rattle.term_vectors.specs.InnerVectors.{heading_record}
use Rattle.term_vectors.proofs.Steps.{Continues}
use Rattle.term_vectors.proofs.TurnLemmas.{AreLeft, none-passed, one-passed, turn-broken_so, all-passed}
use Rattle.term_vectors.proofs.TermLemmas.{reads_terms, terms-left, terms-broken, terms-done}
use Rattle.term_vectors.proofs.VectorLemmas.{vector_of, vector-broken, vector-terms_broken, vector-read}
use Rattle.term_vectors.proofs.vectors.pass_vector.Goals as goal

abbrev slot : ℕ → ℕ → VectorPlace
slot field place = record { field = field; place = place }

pub returns-in-Err : goal.returns-in-Err
returns-in-Err c = λ field.
    spot-broken Tvf c.place-start.result c.in-Err.rule c.at.result (read_plan (vector_plan (slot field c.args.wanted)) c.args.here.now) c.at.ensures
    (rw c.place-start.ensures (vector-broken (slot field c.args.wanted) c.args.here.now c.in-Err.rule c.in-Err.ensures))

pub loop-nth-init : goal.loop-nth-init
loop-nth-init c =
    let reads = reads_terms c.in-Ok.heading.bits in (
      subst (λ (o : Option (List ℕ)). AreLeft reads c.in-Ok.heading.count None c.next_heading.new.here 0 o c.next_heading.new.here) (sym c.clear.ensures.before) (none-passed reads c.in-Ok.heading.count None c.next_heading.new.here),
      c.clear.ensures.sound,
    )

pub returns-in-Err-pass_term : goal.returns-in-Err-pass_term
returns-in-Err-pass_term c = λ field.
    let h = c.in-Ok.heading in
    let before = text_before c.loop-nth.last in
    vector-terms_broken (slot field c.args.wanted) c.args.here.now Tvf (heading_record h) c.next_heading.new.here c.in-Err-pass_term.fault c.in-Ok.ensures
    (turn-broken_so (reads_terms h.bits) h.count None c.next_heading.new.here Tvf c.loop-nth._nth before c.loop-nth.here c.in-Err-pass_term.fault c.loop-nth.invariant.0 c.loop-nth-test.true
    (λ n. terms-broken Tvf h.bits n before c.loop-nth.here c.in-Err-pass_term.fault c.in-Err-pass_term.ensures))

pub loop-nth-preserved : goal.loop-nth-preserved
loop-nth-preserved c =
    let h = c.in-Ok.heading in
    let before = text_before c.loop-nth.last in
    let (t, there, text, sound) = c.in_default.ensures in (
      one-passed (reads_terms h.bits) h.count None c.next_heading.new.here c.loop-nth._nth before (text_before c.pass_term.new.last) c.loop-nth.here c.pass_term.new.here c.loop-nth.invariant.0 c.loop-nth-test.true
          (λ n. subst (λ (o : Option (List ℕ)). Continues (reads_terms h.bits (suc n) before c.loop-nth.here) (reads_terms h.bits n o c.pass_term.new.here)) (sym text) (terms-left h.bits n before c.loop-nth.here t c.pass_term.new.here there)),
      sound,
    )

pub returns : goal.returns
returns c = λ field.
    let h = c.in-Ok.heading in
    let before = text_before c.loop-nth.last in
    let (terms, all) = all-passed (reads_terms h.bits) h.count None c.next_heading.new.here c.loop-nth._nth before c.loop-nth.here c.loop-nth.invariant.0 (omega arith) (terms-done h.bits before c.loop-nth.here) in
    (vector_of (slot field c.args.wanted) (heading_record h) terms, vector-read (slot field c.args.wanted) c.args.here.now (heading_record h) c.next_heading.new.here c.loop-nth.here terms c.in-Ok.ensures all)
