use Rattle.std.proofs.Common.{◌≡◌, ℕ, List, [], Option, sym, ap, subst, ◌∙◌}
use Rattle.std.specs.Prelude.{vec_capacity}
use Rattle.lu_grammar.specs.Bytes.{place_in}
use Rattle.lu_model.specs.Index.{Span, VectorTerm}
use Rattle.term_vectors.specs.Walks.{VectorTermWalk}
use Rattle.term_vectors.specs.InnerTexts.{text_before}
use Rattle.term_vectors.specs.InnerViews.{terms_left, AreTermsThere, AreTextsWithin}
use Rattle.term_vectors.proofs.OccurrenceLemmas.{reads_positions, reads_spans, positions-done, spans-done}
use Rattle.term_vectors.proofs.LeftLemmas.{settled_left}
use Rattle.term_vectors.proofs.TermWalkLemmas.{AreWithin-more}
use Rattle.term_vectors.proofs.terms.VectorTerms.new.Goals as goal

pub at-requires-2 : goal.at-requires-2
at-requires-2 c = (c.at.result, (settled_left (reads_positions 0 0 c.at.result) ([], c.at.result) [] c.at.result (positions-done 0 c.at.result)).0)

pub at-requires-4 : goal.at-requires-4
at-requires-4 c = (c.at-3.result, (settled_left (reads_spans 0 0 c.at-3.result) ([], c.at-3.result) [] c.at-3.result (spans-done 0 c.at-3.result)).0)

pub invariant_of-result : goal.invariant_of-result
invariant_of-result c =
    let here = place_in c.args.tvf.now c.args.place in
    let before = c.in_ok-last.ensures.before in
    record {
      within = c.requires.within;
      sound = c.in_ok-last.ensures.sound;
      there = subst (λ (o : Option (List ℕ)). AreTermsThere c.args.bits c.args.left o here) (sym before) c.requires.there;
      room =
          subst (λ (o : Option (List ℕ)). AreTextsWithin (vec_capacity c.in_ok-last.last.bytes) (terms_left c.args.bits c.args.left o here)) (sym before)
          (AreWithin-more c.longest_text.result (vec_capacity c.in_ok-last.last.bytes) _ c.in_ok-last.ensures.room c.longest_text.ensures);
    }

pub returns : goal.returns
returns c =
    let here = place_in c.args.tvf.now c.args.place in
    let positions : c.at-2.result ≡ [] = c.at-2.ensures ∙ sym (settled_left (reads_positions 0 0 c.at.result) ([], c.at.result) [] c.at.result (positions-done 0 c.at.result)).1 in
    let spans : c.at-4.result ≡ [] = c.at-4.ensures ∙ sym (settled_left (reads_spans 0 0 c.at-3.result) ([], c.at-3.result) [] c.at-3.result (spans-done 0 c.at-3.result)).1 in
    ap (λ (t : List ℕ). made t c.at-2.result c.at-4.result (terms_left c.args.bits c.args.left (text_before c.in_ok-last.last) here)) c.in_ok-last.ensures.none
    ∙ ap (λ (ps : List ℕ). made [] ps c.at-4.result (terms_left c.args.bits c.args.left (text_before c.in_ok-last.last) here)) positions
    ∙ ap (λ (ss : List Span). made [] [] ss (terms_left c.args.bits c.args.left (text_before c.in_ok-last.last) here)) spans
    ∙ ap (λ (o : Option (List ℕ)). made [] [] [] (terms_left c.args.bits c.args.left o here)) c.in_ok-last.ensures.before
  where
    made : List ℕ → List ℕ → List Span → List VectorTerm → VectorTermWalk
    made text positions spans left = record { text = text; frequency = 0; positions = positions; spans = spans; left = left }
