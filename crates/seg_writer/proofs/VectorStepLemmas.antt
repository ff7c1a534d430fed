-- What a writer lacks after whole lists of what was announced.
use Rattle.std.proofs.Common.{◌≡◌, refl, ap, sym, subst, ◌∙◌, ℕ, ◌-◌, List, [], ◌∷◌, length, arith}
use Rattle.lu_model.specs.Index.{Span, VectorTerm}
use Rattle.lu_model.proofs.Words.{Each}
use Rattle.term_vectors.specs.Format.{bit_positions, bit_offsets}
use Rattle.term_vectors.specs.Vectors.{StoredVector, kept_count}
use Rattle.term_vectors.specs.VectorWriting.{VectorWriting, IsTermWhole, IsVectorWhole, with_vector_begun, with_term_begun, with_position, with_span}
use Rattle.seg_writer.specs.VectorSteps.{with_positions, with_spans, with_whole_term, with_whole_terms, with_whole_vector, with_whole_vectors}

-- as many positions and spans of a term stand there as a vector with these bits keeps
pub record IsKept (bits : ℕ) (t : VectorTerm) : Type 0 where
  pub positions : length t.positions ≡ kept_count bit_positions bits t.frequency
  pub spans : length t.spans ≡ kept_count bit_offsets bits t.frequency

-- a writer is in the vector and the document in which it was
pub record IsInVector (w n : VectorWriting) : Type 0 where
  pub bits : n.bits ≡ w.bits
  pub vectors : n.lacks_vectors ≡ w.lacks_vectors

-- ---- positions and spans

-- it was handed so many positions
pub record HasPositions (count : ℕ) (w n : VectorWriting) : Type 0 where
  pub same : IsInVector w n
  pub terms : n.lacks_terms ≡ w.lacks_terms
  pub positions : n.lacks_positions ≡ w.lacks_positions - count
  pub spans : n.lacks_spans ≡ w.lacks_spans

pub positions-lack : (ps : List ℕ) (w : VectorWriting) → HasPositions (length ps) w (with_positions ps w)
positions-lack [] w = record { same = record { bits = refl; vectors = refl }; terms = refl; positions = omega arith; spans = refl }
positions-lack (p ∷ ps) w =
    let rest = positions-lack ps (with_position p w) in record {
      same = record { bits = rest.same.bits; vectors = rest.same.vectors };
      terms = rest.terms;
      positions = let lacks = rest.positions in omega (arith, lacks);
      spans = rest.spans;
    }

-- it was handed so many spans
pub record HasSpans (count : ℕ) (w n : VectorWriting) : Type 0 where
  pub same : IsInVector w n
  pub terms : n.lacks_terms ≡ w.lacks_terms
  pub positions : n.lacks_positions ≡ w.lacks_positions
  pub spans : n.lacks_spans ≡ w.lacks_spans - count

pub spans-lack : (ss : List Span) (w : VectorWriting) → HasSpans (length ss) w (with_spans ss w)
spans-lack [] w = record { same = record { bits = refl; vectors = refl }; terms = refl; positions = refl; spans = omega arith }
spans-lack (s ∷ ss) w =
    let rest = spans-lack ss (with_span s w) in record {
      same = record { bits = rest.same.bits; vectors = rest.same.vectors };
      terms = rest.terms;
      positions = rest.positions;
      spans = let lacks = rest.spans in omega (arith, lacks);
    }

-- ---- terms

-- it was handed so many terms, each whole
pub record HasTerms (count : ℕ) (w n : VectorWriting) : Type 0 where
  pub same : IsInVector w n
  pub terms : n.lacks_terms ≡ w.lacks_terms - count
  pub whole : IsTermWhole n

pub term-lacks : (t : VectorTerm) (w : VectorWriting) → IsKept w.bits t → HasTerms 1 w (with_whole_term t w)
term-lacks t w kept =
    let begun = with_term_begun t.text t.frequency w in
    let a = positions-lack t.positions begun in
    let b = spans-lack t.spans (with_positions t.positions begun) in record {
      same = record { bits = b.same.bits ∙ a.same.bits; vectors = b.same.vectors ∙ a.same.vectors };
      terms = b.terms ∙ a.terms;
      whole = record {
        positions = let own = kept.positions in let mine = b.positions ∙ a.positions in omega (arith, own, mine);
        spans = let own = kept.spans in let mine = b.spans ∙ ap (λ n. n - length t.spans) a.spans in omega (arith, own, mine);
      };
    }

pub terms-lack : (ts : List VectorTerm) (w : VectorWriting) → Each (IsKept w.bits) ts → IsTermWhole w → HasTerms (length ts) w (with_whole_terms ts w)
terms-lack [] w kept whole = record { same = record { bits = refl; vectors = refl }; terms = omega arith; whole = whole }
terms-lack (t ∷ ts) w kept whole =
    let one = term-lacks t w kept.0 in
    let rest = terms-lack ts (with_whole_term t w) (subst (λ b. Each (IsKept b) ts) (sym one.same.bits) kept.1) one.whole in record {
      same = record { bits = rest.same.bits ∙ one.same.bits; vectors = rest.same.vectors ∙ one.same.vectors };
      terms = let first = one.terms in let later = rest.terms in omega (arith, first, later);
      whole = rest.whole;
    }

-- ---- vectors

-- each term of a vector has what the vector keeps
abbrev pub IsKeptVector : StoredVector → Type 0
IsKeptVector v = Each (IsKept v.bits) v.terms

-- it was handed so many vectors, each whole
pub record HasVectors (count : ℕ) (w n : VectorWriting) : Type 0 where
  pub vectors : n.lacks_vectors ≡ w.lacks_vectors - count
  pub whole : IsVectorWhole n

pub vector-lacks : (v : StoredVector) (w : VectorWriting) → IsKeptVector v → IsVectorWhole w → HasVectors 1 w (with_whole_vector v w)
vector-lacks v w kept whole =
    let begun = with_vector_begun v.field v.bits (length v.terms) w in
    let terms = terms-lack v.terms begun kept (record { positions = whole.term.positions; spans = whole.term.spans }) in record {
      vectors = terms.same.vectors;
      whole = record { term = terms.whole; terms = let lacks = terms.terms in omega (arith, lacks) };
    }

pub vectors-lack : (vs : List StoredVector) (w : VectorWriting) → Each IsKeptVector vs → IsVectorWhole w → HasVectors (length vs) w (with_whole_vectors vs w)
vectors-lack [] w kept whole = record { vectors = omega arith; whole = whole }
vectors-lack (v ∷ vs) w kept whole =
    let one = vector-lacks v w kept.0 whole in
    let rest = vectors-lack vs (with_whole_vector v w) kept.1 one.whole in record {
      vectors = let first = one.vectors in let later = rest.vectors in omega (arith, first, later);
      whole = rest.whole;
    }
