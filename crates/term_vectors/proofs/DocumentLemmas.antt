-- The documents of `.tvd`, one after another.
use Rattle.std.proofs.Common.{◌≡◌, ℕ, suc, ◌+◌, ◌<◌, List, [], ◌∷◌, length, drop, get_or, Result, Ok, Err, refl, sym, ap, subst, ◌∙◌, add-one}
use Rattle.std.proofs.Math.Seq.{drop-cons, drop-length}
use Rattle.lu_types.specs.Tables.{TableField}
use Rattle.lu_types.specs.declared.kind.FileKind.{FileKind}
use Rattle.lu_types.specs.declared.fault.CodecFault.{CodecFault}
use Rattle.lu_types.specs.declared.stored.Window.{Window}
use Rattle.lu_types.specs.Judging.{IsBrokenSo}
use Rattle.lu_grammar.specs.Bytes.{Cursor, start_of}
use Rattle.lu_grammar.specs.Records.{record_at}
use Rattle.lu_grammar.specs.Plans.{Broken, read_plan}
use Rattle.term_vectors.specs.declared.layout.DocumentPlaces.{DocumentPlaces}
use Rattle.term_vectors.specs.Format.{format_shape, format_rule, vector_format, headed}
use Rattle.term_vectors.specs.Fields.{VectorPlace, format, format_conditions, document_plan, is_within, documents_plan, tvd_plan}
use Rattle.term_vectors.proofs.Steps.{Continues, led-left, then-broken_so}
use Rattle.term_vectors.proofs.FormatLemmas.{header-left, header-broken}
use Rattle.term_vectors.proofs.PlaceLemmas.{IsBehindFormat}

abbrev pub no_places : DocumentPlaces
no_places = record { tvd = 0; tvf = 0 }

module _ (fields : List TableField) (window : Window) (places : List DocumentPlaces) where
  -- the documents from this number on
  abbrev pub reads_documents : ℕ → ℕ → Cursor → Result (List (List VectorPlace) × Cursor) Broken
  reads_documents n i c = read_plan (documents_plan fields window i (drop i places)) c

  next_is : (i : ℕ) → i < length places → drop i places ≡ get_or places i no_places ∷ drop (i + 1) places
  next_is i lt = drop-cons places i no_places lt ∙ ap (λ (k : ℕ). get_or places i no_places ∷ drop k places) (sym (add-one i))

  pub documents-left : (i : ℕ) (c : Cursor) (at : DocumentPlaces) (v : List VectorPlace) (d : Cursor) → i < length places → at ≡ get_or places i no_places → read_plan (document_plan (is_within window i) fields at) c ≡ Ok (v, d)
      → (n : ℕ) → Continues (reads_documents (suc n) i c) (reads_documents n (i + 1) d)
  unfolding documents_plan
  documents-left i c at v d lt is e n =
      let all : drop i places ≡ at ∷ drop (i + 1) places = next_is i lt ∙ ap (λ (p : DocumentPlaces). p ∷ drop (i + 1) places) (sym is) in
      let step = led-left (document_plan (is_within window i) fields at) (λ _. documents_plan fields window (suc i) (drop (i + 1) places)) c v d e in
      subst (λ (ps : List DocumentPlaces). Continues (read_plan (documents_plan fields window i ps) c) (reads_documents n (i + 1) d)) (sym all)
      (subst (λ (k : ℕ). Continues (read_plan (documents_plan fields window i (at ∷ drop (i + 1) places)) c) (read_plan (documents_plan fields window k (drop (i + 1) places)) d)) (sym (add-one i)) step)

  pub documents-broken : (kind : FileKind) (i : ℕ) (c : Cursor) (at : DocumentPlaces) (fault : CodecFault) → i < length places → at ≡ get_or places i no_places → IsBrokenSo kind (read_plan (document_plan (is_within window i) fields at) c) fault
      → (n : ℕ) → IsBrokenSo kind (reads_documents (suc n) i c) fault
  unfolding documents_plan
  documents-broken kind i c at fault lt is e n =
      let all : drop i places ≡ at ∷ drop (i + 1) places = next_is i lt ∙ ap (λ (p : DocumentPlaces). p ∷ drop (i + 1) places) (sym is) in
      subst (λ (ps : List DocumentPlaces). IsBrokenSo kind (read_plan (documents_plan fields window i ps) c) fault) (sym all)
      (then-broken_so kind (document_plan (is_within window i) fields at) (λ v. headed v (documents_plan fields window (suc i) (drop (i + 1) places))) c fault e)

  pub documents-done : (i : ℕ) (c : Cursor) → i ≡ length places → reads_documents 0 i c ≡ Ok ([], c)
  unfolding documents_plan read_plan
  documents-done i c is = ap (λ (ps : List DocumentPlaces). read_plan (documents_plan fields window i ps) c) (ap (λ (k : ℕ). drop k places) is ∙ drop-length places)

  pub tvd-from : (bytes : List ℕ) (from : Cursor) → IsBehindFormat 98 bytes from → read_plan (tvd_plan fields window places) (start_of bytes) ≡ read_plan (documents_plan fields window 0 places) from
  tvd-from bytes from e = header-left format format_conditions 98 (λ z. refl) (documents_plan fields window 0 places) (start_of bytes) from vector_format e

  pub tvd-broken : (bytes : List ℕ) (rule : ℕ) → record_at (format_shape (λ z. z)) (format_rule 98) (start_of bytes) ≡ Err rule → read_plan (tvd_plan fields window places) (start_of bytes) ≡ Err (record { offset = 0; rule = rule })
  tvd-broken bytes rule e = header-broken format format_conditions 98 (λ z. refl) (documents_plan fields window 0 places) (start_of bytes) rule e
