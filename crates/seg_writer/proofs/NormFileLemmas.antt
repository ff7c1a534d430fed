-- The file of norms, one field more.
use Rattle.std.proofs.Common.{◌≡◌, refl, ap, sym, ◌∙◌, subst, ℕ, ◌+◌, ◌*◌, ◌<◌, ◌≤◌, ◌++◌, List, [], ◌∷◌, length, map, take, get_or, Bool, true, false, cond, None, Some, arith}
use Rattle.std.specs.Global.{Global}
use Rattle.std.specs.List.{find, flat_map, cons_option}
use Rattle.std.specs.declared.vec.Vec.{Vec}
use Rattle.std.proofs.lemmas.Bool.{lt-ltb, le-ltb}
use Rattle.std.proofs.lemmas.Grind.{flat_map-append}
use Rattle.std.proofs.lemmas.List.{append-nil, length-append, length-map, map-append, take_more, get_or_default}
use Rattle.std.proofs.lemmas.List.Elements.{filter_map-append}
use Rattle.std.proofs.lemmas.List.Sums.{sum_by-cons}
use Rattle.check_index.specs.Norms.{count_with_norms}
use Rattle.doc_marks.specs.Norms.{nrm_bytes, nrm_spelling, norm_header}
use Rattle.lu_types.specs.Tables.{TableField}
use Rattle.lu_types.specs.declared.document.Document.{Document}
use Rattle.lu_types.specs.declared.kind.FileKind.TheVariants.{Nrm}
use Rattle.lu_types.specs.declared.named_file.NamedFile.{NamedFile}
use Rattle.lu_model.specs.Contents.{has_norms, name_of}
use Rattle.segment_files.specs.Parts.{norm_columns}
use Rattle.segment_files.specs.Written.{first_past}
use Rattle.posting_files.specs.States.{named}
use Rattle.seg_writer.specs.declared.appearance.Appearance.{Appearance}
use Rattle.seg_writer.specs.Appearing.{appeared, column_from, is_field_named}
use Rattle.seg_writer.specs.NormColumns.{field_norms, found_norm, norm_bytes, norm_file_due, norms_of, given_norms, AreColumnsIn, AreSomeColumns, IsColumnIn, IsSomeColumn}
use Rattle.seg_writer.proofs.FnmLemmas.{past-alone, within-alone}

norm_bytes-append : (docs : List Document) (fs gs : List TableField) → norm_bytes docs (fs ++ gs) ≡ norm_bytes docs fs ++ norm_bytes docs gs
norm_bytes-append docs fs gs =
    ap (λ ns. flat_map (λ c. c) (norm_columns ns)) (map-append (λ (f : TableField). cond (has_norms f.bits) (Some (norms_of f.name docs)) None) fs gs)
    ∙ ap (flat_map (λ c. c)) (filter_map-append (λ c. c) (field_norms docs fs) (field_norms docs gs))
    ∙ flat_map-append (λ c. c) (norm_columns (field_norms docs fs)) (norm_columns (field_norms docs gs))

pub norm_bytes-more : (docs : List Document) (fields : List TableField) (i : ℕ) (field : TableField) → i < length fields → field ≡ get_or fields i field → norm_bytes docs (take (i + 1) fields) ≡ norm_bytes docs (take i fields) ++ norm_bytes docs (field ∷ [])
norm_bytes-more docs fields i field lt is = ap (norm_bytes docs) (take_more fields i field lt ∙ ap (λ f. take i fields ++ f ∷ []) (sym is)) ∙ norm_bytes-append docs (take i fields) (field ∷ [])

abbrev one_column : List ℕ → Bool → List ℕ
one_column norms has = flat_map (λ (c : List ℕ). c) (cons_option (cond has (Some norms) None) [])

pub one-with : (docs : List Document) (field : TableField) → has_norms field.bits ≡ true → norm_bytes docs (field ∷ []) ≡ norms_of field.name docs
one-with docs field has = ap (one_column (norms_of field.name docs)) has ∙ append-nil (norms_of field.name docs)

pub one-without : (docs : List Document) (field : TableField) → has_norms field.bits ≡ false → norm_bytes docs (field ∷ []) ≡ []
one-without docs field none = ap (one_column (norms_of field.name docs)) none

pub norm_bytes-length : (docs : List Document) (fields : List TableField) → length (norm_bytes docs fields) ≡ count_with_norms fields * length docs
norm_bytes-length docs [] = omega arith
norm_bytes-length docs (f ∷ fields) =
    let rest = norm_bytes-length docs fields in
    let all = ap length (norm_bytes-append docs (f ∷ []) fields) ∙ length-append (norm_bytes docs (f ∷ [])) (norm_bytes docs fields) in
    elim (has_norms f.bits) as (λ b. has_norms f.bits ≡ b → count_with_norms (f ∷ fields) ≡ cond b 1 0 + count_with_norms fields → length (norm_bytes docs (f ∷ fields)) ≡ count_with_norms (f ∷ fields) * length docs) [
      | true ↦ λ has count. (let own = ap length (one-with docs f has) ∙ length-map docs (λ (doc : Document). found_norm (find (is_field_named f.name) doc.indexed)) in let times = ap (λ n. n * length docs) count in omega (arith, rest, all, own, times))
      | false ↦ λ none count. (let own = ap length (one-without docs f none) in let times = ap (λ n. n * length docs) count in omega (arith, rest, all, own, times))
    ] refl (sum_by-cons (λ (g : TableField). cond (has_norms g.bits) 1 0) f fields)

-- ---- the file

spelled : (docs : List Document) (fields : List TableField) → length (nrm_spelling (norm_columns (field_norms docs fields))) ≡ 4 + count_with_norms fields * length docs
spelled docs fields = let size = length-append norm_header (norm_bytes docs fields) in let own = norm_bytes-length docs fields in omega (arith, size, own)

abbrev file_if : List ℕ → Bool → List NamedFile
file_if nrm has = cond has (named Nrm nrm ∷ []) []

there : (docs : List Document) (fields : List TableField) → 0 < count_with_norms fields → norm_file_due docs fields ≡ named Nrm (nrm_spelling (norm_columns (field_norms docs fields))) ∷ []
there docs fields some = ap (file_if (nrm_spelling (norm_columns (field_norms docs fields)))) (lt-ltb 0 (count_with_norms fields) some)

pub norms-none : (limit : ℕ) (docs : List Document) (fields : List TableField) → count_with_norms fields ≡ 0 → (first_past limit (norm_file_due docs fields) ≡ None) × (given_norms None ≡ norm_file_due docs fields)
norms-none limit docs fields none =
    let nothing : norm_file_due docs fields ≡ [] = ap (file_if (nrm_spelling (norm_columns (field_norms docs fields)))) (le-ltb 0 (count_with_norms fields) (omega (arith, none))) in
    (ap (first_past limit) nothing, sym nothing)

pub norms-past : (limit documents : ℕ) (docs : List Document) (fields : List TableField) → length docs ≡ documents → 0 < count_with_norms fields → limit < 4 + count_with_norms fields * documents → first_past limit (norm_file_due docs fields) ≡ Some Nrm
norms-past limit documents docs fields size some long =
    ap (first_past limit) (there docs fields some)
    ∙ past-alone limit Nrm (nrm_spelling (norm_columns (field_norms docs fields))) (subst (λ n. limit < n) (sym (spelled docs fields ∙ ap (λ n. 4 + count_with_norms fields * n) size)) long)

pub norms-within : (limit documents : ℕ) (docs : List Document) (fields : List TableField) (norms nrm : List ℕ) → length docs ≡ documents → 0 < count_with_norms fields → 4 + count_with_norms fields * documents ≤ limit → norms ≡ norm_bytes docs fields → nrm ≡ nrm_bytes norms
    → (first_past limit (norm_file_due docs fields) ≡ None) × (given_norms (Some nrm) ≡ norm_file_due docs fields)
norms-within limit documents docs fields norms nrm size some short are is = (
  ap (first_past limit) (there docs fields some)
      ∙ within-alone limit Nrm (nrm_spelling (norm_columns (field_norms docs fields))) (subst (λ n. n ≤ limit) (sym (spelled docs fields ∙ ap (λ n. 4 + count_with_norms fields * n) size)) short),
  ap (λ bytes. named Nrm bytes ∷ []) (is ∙ ap nrm_bytes are) ∙ sym (there docs fields some),
)

-- ---- columns

pub column-in : (fields : List TableField) (columns : List (Vec Appearance Global)) (documents : ℕ) (docs : List Document) (number : ℕ) (field : TableField) (v : Vec Appearance Global) (column : List Appearance) → AreColumnsIn fields columns documents docs
    → number < length fields → field ≡ get_or fields number field → v ≡ get_or columns number v → column ≡ v.items → IsColumnIn column documents field.name docs
column-in fields columns documents docs number field v column (are, size) lt is at own =
    let named_so : (name_of fields number) ≡ field.name = ap (λ (f : TableField). f.name) (get_or_default fields number (record { name = []; bits = 0 }) field lt ∙ sym is) in
    (ap (map appeared) (own ∙ ap (λ (c : Vec Appearance Global). c.items) at) ∙ are.1 number v lt ∙ ap (λ name. column_from name 0 docs) named_so, size)

pub columns-many : (fields : List TableField) (columns : List (Vec Appearance Global)) (documents : ℕ) → AreSomeColumns fields columns documents → length columns ≡ length fields
columns-many fields columns documents (docs, are) = are.0.0

pub some-column : (fields : List TableField) (columns : List (Vec Appearance Global)) (documents number : ℕ) (field : TableField) (v : Vec Appearance Global) (column : List Appearance) → AreSomeColumns fields columns documents
    → number < length fields → field ≡ get_or fields number field → v ≡ get_or columns number v → column ≡ v.items → IsSomeColumn column documents
some-column fields columns documents number field v column (docs, are) lt is at own = (field.name, docs, column-in fields columns documents docs number field v column are lt is at own)
