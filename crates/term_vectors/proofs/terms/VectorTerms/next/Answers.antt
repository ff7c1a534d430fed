use Rattle.std.proofs.Common.{◌≡◌, ◌++◌, ◌<◌, ◌-◌, ◌∷◌, ℕ, List, [], take, length, Option, Some, sym, ap, subst, ◌∙◌, arith}
use Rattle.std.specs.Prelude.{vec_capacity}
use Rattle.std.specs.Str.{IsUtf8}
use Rattle.lu_grammar.specs.Bytes.{Cursor, place_in}
use Rattle.lu_model.specs.Index.{Span, VectorTerm}
use Rattle.term_vectors.specs.Walks.{VectorTermWalk, has_left, walk_on}
use Rattle.term_vectors.specs.InnerTexts.{text_before}
use Rattle.term_vectors.specs.InnerViews.{terms_left, AreTextsWithin}
use Rattle.term_vectors.proofs.OrderLemmas.{text_or_none}
use Rattle.term_vectors.proofs.TermLemmas.{reads_terms}
use Rattle.term_vectors.proofs.LeftLemmas.{settled_left}
use Rattle.term_vectors.proofs.TermWalkLemmas.{text-length, AreWithin-more, next_term, none_left}
use Rattle.term_vectors.proofs.terms.VectorTerms.next.Goals as goal

pub returns-then-self-eq0-clause-more : goal.returns-then-self-eq0-clause-more
returns-then-self-eq0-clause-more c =
    let s = c.self.inside in
    let left : c.args.self.now.left ≡ [] =
    sym (ap (λ (w : VectorTermWalk). w.left) c.self.view_is) ∙ ap (λ (n : ℕ). terms_left s.bits n (text_before s.last) (place_in s.tvf.now s.place)) c.if-self-eq0.true ∙ none_left s.bits (text_before s.last) (place_in s.tvf.now s.place) in
    sym (ap has_left left)

pub returns-then-self-eq0-clause-moved : goal.returns-then-self-eq0-clause-moved
returns-then-self-eq0-clause-moved c =
    let s = c.self.inside in
    let left : c.args.self.now.left ≡ [] =
    sym (ap (λ (w : VectorTermWalk). w.left) c.self.view_is) ∙ ap (λ (n : ℕ). terms_left s.bits n (text_before s.last) (place_in s.tvf.now s.place)) c.if-self-eq0.true ∙ none_left s.bits (text_before s.last) (place_in s.tvf.now s.place) in
    sym (ap (walk_on c.args.self.now) left)

pub term_at-prefix-requires-clause-there : goal.term_at-prefix-requires-clause-there
term_at-prefix-requires-clause-there c =
    let s = c.self.inside in
    let some : 0 < s.left = omega arith in
    let n = next_term s.tvf.now s.place s.bits s.left s.last c.self.invariant some in
    (text_before s.last, (n.it, n.behind), n.there)

pub advance-requires-clause-prefix : goal.advance-requires-clause-prefix
advance-requires-clause-prefix c =
    let s = c.self.inside in
    let some : 0 < s.left = omega arith in
    let n = next_term s.tvf.now s.place s.bits s.left s.last c.self.invariant some in
    let has = c.term_at-prefix.ensures (text_before s.last) n.it n.behind n.there in
    omega (arith, has.prefix, ap length (text_or_none s.last c.self.invariant.sound))

pub advance-requires-clause-text : goal.advance-requires-clause-text
advance-requires-clause-text c =
    let s = c.self.inside in
    let some : 0 < s.left = omega arith in
    let n = next_term s.tvf.now s.place s.bits s.left s.last c.self.invariant some in
    let has = c.term_at-prefix.ensures (text_before s.last) n.it n.behind n.there in
    let text = ap (λ (t : List ℕ). take c.term_at-prefix.result.prefix t ++ c.term_at-prefix.result.suffix.now) (sym (text_or_none s.last c.self.invariant.sound)) ∙ has.text in
    subst IsUtf8 (sym text) has.is_text

pub advance-requires-clause-room : goal.advance-requires-clause-room
advance-requires-clause-room c =
    let s = c.self.inside in
    let some : 0 < s.left = omega arith in
    let n = next_term s.tvf.now s.place s.bits s.left s.last c.self.invariant some in
    let has = c.term_at-prefix.ensures (text_before s.last) n.it n.behind n.there in
    omega (arith, n.fits, text-length s.tvf.now (text_before s.last) n.it n.behind c.term_at-prefix.result has)

pub invariant_of-self : goal.invariant_of-self
invariant_of-self c =
    let s = c.self.inside in
    let some : 0 < s.left = omega arith in
    let n = next_term s.tvf.now s.place s.bits s.left s.last c.self.invariant some in
    let has = c.term_at-prefix.ensures (text_before s.last) n.it n.behind n.there in
    let p = c.term_at-prefix.result in
    let text = ap (λ (t : List ℕ). take p.prefix t ++ p.suffix.now) (sym (text_or_none s.last c.self.invariant.sound)) ∙ has.text in
    let before : text_before c.advance.new.self ≡ Some n.it.text = c.advance.ensures.before ∙ ap (λ (t : List ℕ). Some t) text in
    let here = place_in s.tvf.now p.end in
    let reads = ap (λ (o : Option (List ℕ)). reads_terms s.bits (s.left - 1) o here) before ∙ ap (λ (d : Cursor). reads_terms s.bits (s.left - 1) (Some n.it.text) d) (sym has.end) ∙ n.reads in
    let settled = settled_left (reads_terms s.bits (s.left - 1) (text_before c.advance.new.self) here) ([], here) n.rest n.end reads in
    record {
      within = has.within;
      sound = c.advance.ensures.sound;
      there = (n.end, settled.0);
      room = subst (AreTextsWithin (vec_capacity c.advance.new.self.bytes)) settled.1 (AreWithin-more (vec_capacity s.last.bytes) (vec_capacity c.advance.new.self.bytes) n.rest c.advance.ensures.room n.others);
    }

pub returns-clause-more : goal.returns-clause-more
returns-clause-more c =
    let s = c.self.inside in
    let some : 0 < s.left = omega arith in
    let n = next_term s.tvf.now s.place s.bits s.left s.last c.self.invariant some in
    let left : c.args.self.now.left ≡ n.it ∷ n.rest = sym (ap (λ (w : VectorTermWalk). w.left) c.self.view_is) ∙ n.all in
    sym (ap has_left left)

pub returns-clause-moved : goal.returns-clause-moved
returns-clause-moved c =
    let s = c.self.inside in
    let some : 0 < s.left = omega arith in
    let n = next_term s.tvf.now s.place s.bits s.left s.last c.self.invariant some in
    let has = c.term_at-prefix.ensures (text_before s.last) n.it n.behind n.there in
    let p = c.term_at-prefix.result in
    let left : c.args.self.now.left ≡ n.it ∷ n.rest = sym (ap (λ (w : VectorTermWalk). w.left) c.self.view_is) ∙ n.all in
    let text = ap (λ (t : List ℕ). take p.prefix t ++ p.suffix.now) (sym (text_or_none s.last c.self.invariant.sound)) ∙ has.text in
    let before : text_before c.advance.new.self ≡ Some n.it.text = c.advance.ensures.before ∙ ap (λ (t : List ℕ). Some t) text in
    let here = place_in s.tvf.now p.end in
    let reads = ap (λ (o : Option (List ℕ)). reads_terms s.bits (s.left - 1) o here) before ∙ ap (λ (d : Cursor). reads_terms s.bits (s.left - 1) (Some n.it.text) d) (sym has.end) ∙ n.reads in
    let rest = sym (settled_left (reads_terms s.bits (s.left - 1) (text_before c.advance.new.self) here) ([], here) n.rest n.end reads).1 in
    let after = terms_left s.bits (s.left - 1) (text_before c.advance.new.self) here in
    ap (λ (t : List ℕ). made t p.freq p.positions p.pairs after) (c.advance.ensures.bytes ∙ text)
    ∙ ap (λ (k : ℕ). made n.it.text k p.positions p.pairs after) has.freq
    ∙ ap (λ (ps : List ℕ). made n.it.text n.it.frequency ps p.pairs after) has.positions
    ∙ ap (λ (ss : List Span). made n.it.text n.it.frequency n.it.positions ss after) has.pairs
    ∙ ap (λ (ts : List VectorTerm). made n.it.text n.it.frequency n.it.positions n.it.spans ts) rest
    ∙ sym (ap (walk_on c.args.self.now) left)
  where
    made : List ℕ → ℕ → List ℕ → List Span → List VectorTerm → VectorTermWalk
    made text frequency positions spans left = record { text = text; frequency = frequency; positions = positions; spans = spans; left = left }
