-- What a writer holds, before and after each of its calls.
use Rattle.std.proofs.Common.{◌≡◌, ℕ, zero, suc, ◌+◌, ◌-◌, ◌<◌, Bool, true, false, eqb, List, [], ◌∷◌, ◌++◌, length, Option, Some, refl, sym, ap, subst, ◌∙◌, append_assoc, arith}
use Rattle.std.specs.Prelude.{if◌then◌else◌, ◌==◌}
use Rattle.std.specs.List.{flat_map}
use Rattle.std.proofs.lemmas.Bool.{eq-eqb, ne_eqb}
use Rattle.std.proofs.lemmas.List.{append-nil}
use Rattle.lu_grammar.specs.Parts.{vint, num, spelling}
use Rattle.lu_model.specs.Index.{Span, VectorTerm}
use Rattle.term_vectors.specs.Format.{bit_positions, bit_offsets}
use Rattle.term_vectors.specs.Vectors.{StoredVector, kept_count}
use Rattle.term_vectors.specs.VectorBytes.{vector_header_bytes, vector_positions_bytes, span_bytes, vector_spans_bytes, term_front_bytes, vector_terms_bytes, vector_heading_bytes, vector_bytes, vectors_bytes, tvf_bytes, vector_number_bytes, vector_length_bytes, differences_bytes, tvd_bytes, document_places_bytes, written_places, tvx_bytes}
use Rattle.term_vectors.specs.VectorWriting.{VectorWriting, IsTermWhole, no_vectors_written, with_document_begun, difference_from, differences_with, differences_at_last, with_vector_begun, with_term_begun, with_position, with_span, HoldsDocuments, last_start, HoldsOpenDocument, BegunVector, HoldsVectorBytes, last_vector_text, HoldsOpenVector, last_vector_position, last_vector_end, HoldsOpenTerm, begun_vector, begun_term, with_one_position, with_one_span}
use Rattle.term_vectors.proofs.BytesMore.{flat_map-more, length-more, positions-more, last_position-more, spans-more, last_end-more, terms-more, last_text-more, differences-more, last_start-more, differences-all, tvd-more, tvf-more, tvx-more}

-- ---- documents

pub none-held : HoldsDocuments [] no_vectors_written
unfolding written_places
none-held = record {
  tvx = sym (append-nil vector_header_bytes);
  tvd = sym (append-nil vector_header_bytes);
  tvf = sym (append-nil vector_header_bytes);
  whole = record { vector = record { term = record { positions = refl; spans = refl }; terms = refl }; vectors = refl };
}

-- nothing, whichever way it is chosen
abbrev none : List ℕ
none = []

nothing : (n : ℕ) → (if n == 0 then none else none) ≡ none
nothing n = go (eqb n 0)
  where
    go : (b : Bool) → (if b then none else none) ≡ none
    go true = refl
    go false = refl

pub document-begun : (documents : List (List StoredVector)) (count : ℕ) (w : VectorWriting) → HoldsDocuments documents w → HoldsOpenDocument documents count [] (with_document_begun count w)
unfolding differences_bytes last_start
document-begun documents count w h = record {
  tvx = ap (λ (t : List ℕ). t ++ document_places_bytes (record { tvd = length w.tvd; tvf = length w.tvf })) h.tvx
      ∙ ap (λ (t : List ℕ). tvx_bytes documents ++ document_places_bytes (record { tvd = length t; tvf = length w.tvf })) h.tvd
      ∙ ap (λ (t : List ℕ). tvx_bytes documents ++ document_places_bytes (record { tvd = length (tvd_bytes documents); tvf = length t })) h.tvf;
  tvd = ap (λ (t : List ℕ). t ++ spelling num count) h.tvd ∙ ap (λ (t : List ℕ). tvd_bytes documents ++ t) (sym (append-nil (spelling num count)) ∙ ap (λ (t : List ℕ). spelling num count ++ t) (sym (nothing count)));
  tvf = h.tvf ∙ sym (append-nil (tvf_bytes documents));
  differences = refl;
  start = refl;
  lacks = omega arith;
  whole = record { term = record { positions = h.whole.vector.term.positions; spans = h.whole.vector.term.spans }; terms = h.whole.vector.terms };
}

-- what is chosen where a number is 0, and where it is not
chosen : {A : Type 0} (n : ℕ) (x y : A) → n ≡ 0 → (if n == 0 then x else y) ≡ x
chosen n x y e = let t : eqb n 0 ≡ true = eq-eqb n 0 e in rw t refl

not_chosen : {A : Type 0} (n : ℕ) (x y : A) → 0 < n → (if n == 0 then x else y) ≡ y
not_chosen n x y lt = let f : eqb n 0 ≡ false = ne_eqb n 0 (λ e. absurd (omega (arith, e, lt))) in rw f refl

pub document-done : (documents : List (List StoredVector)) (count : ℕ) (vectors : List StoredVector) (w : VectorWriting) → HoldsOpenDocument documents count vectors w → length vectors ≡ count
    → HoldsDocuments (documents ++ vectors ∷ []) w
document-done documents count vectors w h all =
    let none : w.lacks_vectors ≡ 0 = omega (arith, h.lacks, all) in
    let numbers = flat_map vector_number_bytes vectors in record {
      tvx = h.tvx ∙ sym (tvx-more documents vectors);
      tvd = h.tvd
          ∙ ap (λ (t : List ℕ). tvd_bytes documents ++ (spelling num count ++ (numbers ++ t))) (chosen w.lacks_vectors (differences_bytes vectors) [] none)
          ∙ ap (λ (n : ℕ). tvd_bytes documents ++ (spelling num n ++ (numbers ++ differences_bytes vectors))) (sym all)
          ∙ sym (tvd-more documents vectors);
      tvf = h.tvf ∙ sym (tvf-more documents vectors);
      whole = record { vector = h.whole; vectors = none };
    }

-- ---- vectors

-- the differences stand behind the numbers from the last vector on
at_last : (lacks : ℕ) (differences : List ℕ) → 0 < lacks → differences_at_last lacks differences ≡ (if lacks - 1 == 0 then differences else [])
at_last zero differences lt = absurd (omega (arith, lt))
at_last (suc zero) differences lt = refl
at_last (suc (suc n)) differences lt =
    let f : eqb (suc (suc n)) 1 ≡ false = ne_eqb (suc (suc n)) 1 (λ e. absurd (omega (arith, e))) in rw f (sym (not_chosen (suc (suc n) - 1) differences [] (omega arith)))

pub vector-begun : (documents : List (List StoredVector)) (count : ℕ) (vectors : List StoredVector) (v : BegunVector) (w : VectorWriting) → HoldsOpenDocument documents count vectors w → 0 < w.lacks_vectors
    → HoldsOpenVector documents count vectors v [] (with_vector_begun v.field v.bits v.count w)
unfolding vector_terms_bytes last_vector_text
vector-begun documents count vectors v w h lacking =
    let numbers = flat_map vector_number_bytes vectors in
    let far = flat_map vector_length_bytes vectors in
    let field = spelling num v.field in
    let differences : differences_with w ≡ far =
    ap (λ (t : List ℕ). t ++ difference_from w.start (length w.tvf)) h.differences
    ∙ ap (λ (o : Option ℕ). differences_bytes vectors ++ difference_from o (length w.tvf)) h.start
    ∙ ap (λ (t : List ℕ). differences_bytes vectors ++ difference_from (last_start documents [] vectors) (length t)) h.tvf
    ∙ differences-all documents [] vectors in
    let last = if w.lacks_vectors - 1 == 0 then far else [] in
    let front : w.tvd ≡ tvd_bytes documents ++ (spelling num count ++ numbers) =
    h.tvd
    ∙ ap (λ (t : List ℕ). tvd_bytes documents ++ (spelling num count ++ (numbers ++ t))) (not_chosen w.lacks_vectors (differences_bytes vectors) [] lacking)
    ∙ ap (λ (t : List ℕ). tvd_bytes documents ++ (spelling num count ++ t)) (append-nil numbers) in
    let tvd : (tvd_bytes documents ++ (spelling num count ++ numbers)) ++ (field ++ last) ≡ tvd_bytes documents ++ (spelling num count ++ ((numbers ++ field) ++ last)) = simp append_assoc in record {
      vector = record {
        tvx = h.tvx;
        tvd = ap (λ (t : List ℕ). t ++ (field ++ differences_at_last w.lacks_vectors (differences_with w))) front
            ∙ ap (λ (t : List ℕ). (tvd_bytes documents ++ (spelling num count ++ numbers)) ++ (field ++ t)) (at_last w.lacks_vectors (differences_with w) lacking ∙ ap (λ (t : List ℕ). if w.lacks_vectors - 1 == 0 then t else []) differences)
            ∙ tvd;
        tvf = ap (λ (t : List ℕ). t ++ vector_heading_bytes v.count v.bits) h.tvf ∙ ap (λ (t : List ℕ). (tvf_bytes documents ++ vectors_bytes vectors) ++ t) (sym (append-nil (vector_heading_bytes v.count v.bits)));
        differences = differences;
        start = ap (λ (t : List ℕ). Some (length t)) h.tvf;
        bits = refl;
        lacks = omega (arith, h.lacks, lacking);
      };
      text = refl;
      lacks = omega arith;
      whole = record { positions = h.whole.term.positions; spans = h.whole.term.spans };
    }

pub vector-done : (documents : List (List StoredVector)) (count : ℕ) (vectors : List StoredVector) (v : BegunVector) (terms : List VectorTerm) (w : VectorWriting)
    → HoldsOpenVector documents count vectors v terms w → length terms ≡ v.count → HoldsOpenDocument documents count (vectors ++ begun_vector v terms ∷ []) w
vector-done documents count vectors v terms w h all =
    let x = begun_vector v terms in
    let field = spelling num v.field in
    let none : w.lacks_terms ≡ 0 = omega (arith, h.lacks, all) in
    let choose : List ℕ → List ℕ = λ t. if w.lacks_vectors == 0 then t else [] in record {
      tvx = h.vector.tvx;
      tvd = h.vector.tvd
          ∙ ap (λ (t : List ℕ). tvd_bytes documents ++ (spelling num count ++ (t ++ choose (flat_map vector_length_bytes vectors)))) (sym (flat_map-more vector_number_bytes vectors x))
          ∙ ap (λ (t : List ℕ). tvd_bytes documents ++ (spelling num count ++ (flat_map vector_number_bytes (vectors ++ x ∷ []) ++ choose t))) (sym (differences-more vectors x));
      tvf = h.vector.tvf
          ∙ ap (λ (n : ℕ). (tvf_bytes documents ++ vectors_bytes vectors) ++ (vector_heading_bytes n v.bits ++ vector_terms_bytes [] terms)) (sym all)
          ∙ append_assoc (tvf_bytes documents) (vectors_bytes vectors) (vector_bytes x)
          ∙ ap (λ (t : List ℕ). tvf_bytes documents ++ t) (sym (flat_map-more vector_bytes vectors x));
      differences = h.vector.differences ∙ sym (differences-more vectors x);
      start = h.vector.start ∙ sym (last_start-more documents [] vectors x);
      lacks = omega (arith, h.vector.lacks, length-more vectors x);
      whole = record { term = h.whole; terms = none };
    }

-- ---- terms

-- more bytes behind the heading of the open vector, and the rest of the writer as it was
more-held : (documents : List (List StoredVector)) (count : ℕ) (vectors : List StoredVector) (v : BegunVector) (terms more all : List ℕ) (w n : VectorWriting)
    → HoldsVectorBytes documents count vectors v terms w → n.tvx ≡ w.tvx → n.tvd ≡ w.tvd → n.tvf ≡ w.tvf ++ more → n.differences ≡ w.differences → n.start ≡ w.start → n.bits ≡ w.bits
    → n.lacks_vectors ≡ w.lacks_vectors → terms ++ more ≡ all → HoldsVectorBytes documents count vectors v all n
more-held documents count vectors v terms more all w n h tvx tvd tvf differences start bits lacks e = record {
  tvx = tvx ∙ h.tvx;
  tvd = tvd ∙ h.tvd ∙ ap (λ (k : ℕ). tvd_bytes documents ++ (spelling num count ++ ((flat_map vector_number_bytes vectors ++ spelling num v.field)
      ++ (if k == 0 then flat_map vector_length_bytes vectors else [])))) (sym lacks);
  tvf = tvf ∙ ap (λ (t : List ℕ). t ++ more) h.tvf
      ∙ append_assoc (tvf_bytes documents ++ vectors_bytes vectors) (vector_heading_bytes v.count v.bits ++ terms) more
      ∙ ap (λ (t : List ℕ). (tvf_bytes documents ++ vectors_bytes vectors) ++ t) (append_assoc (vector_heading_bytes v.count v.bits) terms more ∙ ap (λ (t : List ℕ). vector_heading_bytes v.count v.bits ++ t) e);
  differences = differences ∙ h.differences;
  start = start ∙ h.start;
  bits = bits ∙ h.bits;
  lacks = omega (arith, h.lacks, lacks);
}

pub term-begun : (documents : List (List StoredVector)) (count : ℕ) (vectors : List StoredVector) (v : BegunVector) (terms : List VectorTerm) (text : List ℕ) (freq : ℕ) (w : VectorWriting)
    → HoldsOpenVector documents count vectors v terms w → 0 < w.lacks_terms → HoldsOpenTerm documents count vectors v terms (begun_term text freq) (with_term_begun text freq w)
unfolding vector_positions_bytes vector_spans_bytes last_vector_position last_vector_end
term-begun documents count vectors v terms text freq w h lacking =
    let front : List ℕ → List ℕ = λ before. term_front_bytes before text freq in
    let kept : (bit : ℕ) → 0 + kept_count bit w.bits freq ≡ kept_count bit v.bits freq =
    λ bit. (let e : 0 + kept_count bit w.bits freq ≡ kept_count bit w.bits freq = omega arith in e) ∙ ap (λ (b : ℕ). kept_count bit b freq) h.vector.bits in record {
      vector = more-held documents count vectors v (vector_terms_bytes [] terms) (front w.text) (vector_terms_bytes [] terms ++ (front (last_vector_text [] terms) ++ [])) w (with_term_begun text freq w)
          h.vector refl refl refl refl refl refl refl
          (ap (λ (t : List ℕ). vector_terms_bytes [] terms ++ front t) h.text ∙ ap (λ (t : List ℕ). vector_terms_bytes [] terms ++ t) (sym (append-nil (front (last_vector_text [] terms)))));
      text = refl;
      lacks = omega (arith, h.lacks, lacking);
      position = refl;
      end = refl;
      lacks_positions = kept bit_positions;
      lacks_spans = kept bit_offsets;
    }

pub term-done : (documents : List (List StoredVector)) (count : ℕ) (vectors : List StoredVector) (v : BegunVector) (terms : List VectorTerm) (t : VectorTerm) (w : VectorWriting)
    → HoldsOpenTerm documents count vectors v terms t w → IsTermWhole w → HoldsOpenVector documents count vectors v (terms ++ t ∷ []) w
term-done documents count vectors v terms t w h whole = record {
  vector = subst (λ (bytes : List ℕ). HoldsVectorBytes documents count vectors v bytes w) (sym (terms-more [] terms t)) h.vector;
  text = h.text ∙ sym (last_text-more [] terms t);
  lacks = omega (arith, h.lacks, length-more terms t);
  whole = whole;
}

-- ---- positions and spans

pub position-held : (documents : List (List StoredVector)) (count : ℕ) (vectors : List StoredVector) (v : BegunVector) (terms : List VectorTerm) (t : VectorTerm) (p : ℕ) (w : VectorWriting)
    → HoldsOpenTerm documents count vectors v terms t w → t.spans ≡ [] → 0 < w.lacks_positions → HoldsOpenTerm documents count vectors v terms (with_one_position p t) (with_position p w)
unfolding vector_spans_bytes
position-held documents count vectors v terms t p w h none lacking =
    let front = term_front_bytes (last_vector_text [] terms) t.text t.frequency in
    let before = vector_terms_bytes [] terms in
    let bytes = vector_positions_bytes 0 t.positions in
    let more = spelling vint (p - w.position) in
    let last = spelling vint (p - last_vector_position 0 t.positions) in
    let behind : (ss : List Span) → ss ≡ [] → vector_spans_bytes 0 ss ≡ [] = λ ss e. ap (λ (x : List Span). vector_spans_bytes 0 x) e in
    let joined : (before ++ (front ++ (bytes ++ []))) ++ last ≡ before ++ (front ++ ((bytes ++ last) ++ [])) = simp (append_assoc, append-nil) in
    let same : (before ++ (front ++ (bytes ++ vector_spans_bytes 0 t.spans))) ++ more ≡ before ++ (front ++ (vector_positions_bytes 0 (t.positions ++ p ∷ []) ++ vector_spans_bytes 0 t.spans)) =
    ap (λ (x : List ℕ). (before ++ (front ++ (bytes ++ x))) ++ more) (behind t.spans none)
    ∙ ap (λ (k : ℕ). (before ++ (front ++ (bytes ++ []))) ++ spelling vint (p - k)) h.position
    ∙ joined
    ∙ ap (λ (x : List ℕ). before ++ (front ++ (x ++ []))) (sym (positions-more 0 t.positions p))
    ∙ ap (λ (x : List ℕ). before ++ (front ++ (vector_positions_bytes 0 (t.positions ++ p ∷ []) ++ x))) (sym (behind t.spans none)) in record {
      vector = more-held documents count vectors v (before ++ (front ++ (bytes ++ vector_spans_bytes 0 t.spans))) more (before ++ (front ++ (vector_positions_bytes 0 (t.positions ++ p ∷ []) ++ vector_spans_bytes 0 t.spans))) w (with_position p w)
          h.vector refl refl refl refl refl refl refl same;
      text = h.text;
      lacks = h.lacks;
      position = sym (last_position-more 0 t.positions p);
      end = h.end;
      lacks_positions = omega (arith, h.lacks_positions, length-more t.positions p, lacking);
      lacks_spans = h.lacks_spans;
    }

pub span-held : (documents : List (List StoredVector)) (count : ℕ) (vectors : List StoredVector) (v : BegunVector) (terms : List VectorTerm) (t : VectorTerm) (s : Span) (w : VectorWriting)
    → HoldsOpenTerm documents count vectors v terms t w → 0 < w.lacks_spans → HoldsOpenTerm documents count vectors v terms (with_one_span s t) (with_span s w)
span-held documents count vectors v terms t s w h lacking =
    let front = term_front_bytes (last_vector_text [] terms) t.text t.frequency in
    let before = vector_terms_bytes [] terms in
    let bytes = vector_positions_bytes 0 t.positions in
    let spans = vector_spans_bytes 0 t.spans in
    let last = span_bytes (last_vector_end 0 t.spans) s in
    let joined : (before ++ (front ++ (bytes ++ spans))) ++ last ≡ before ++ (front ++ (bytes ++ (spans ++ last))) = simp append_assoc in
    let same : (before ++ (front ++ (bytes ++ spans))) ++ span_bytes w.end s ≡ before ++ (front ++ (bytes ++ vector_spans_bytes 0 (t.spans ++ s ∷ []))) =
    ap (λ (k : ℕ). (before ++ (front ++ (bytes ++ spans))) ++ span_bytes k s) h.end ∙ joined ∙ ap (λ (x : List ℕ). before ++ (front ++ (bytes ++ x))) (sym (spans-more 0 t.spans s)) in record {
      vector = more-held documents count vectors v (before ++ (front ++ (bytes ++ spans))) (span_bytes w.end s) (before ++ (front ++ (bytes ++ vector_spans_bytes 0 (t.spans ++ s ∷ [])))) w (with_span s w) h.vector refl refl refl refl refl refl refl same;
      text = h.text;
      lacks = h.lacks;
      position = h.position;
      end = sym (last_end-more 0 t.spans s);
      lacks_positions = h.lacks_positions;
      lacks_spans = omega (arith, h.lacks_spans, length-more t.spans s, lacking);
    }
