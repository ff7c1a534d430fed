-- The norms of a merge and their file, against the limit.
use Rattle.std.proofs.Common.{◌≡◌, refl, ap, sym, ◌∙◌, subst, ℕ, ◌+◌, ◌*◌, ◌<◌, ◌≤◌, ◌++◌, Bool, true, false, cond, List, [], ◌∷◌, length, map, drop, get_or, Option, None, Some, inl, inr, arith}
use Rattle.std.specs.Borrow.{Bor}
use Rattle.std.specs.Prelude.{IfSome, filter, flat_map, option_copied}
use Rattle.std.specs.List.{AllZip, cons_option}
use Rattle.std.proofs.lemmas.Bool.{cases_lt, le-ltb, lt-ltb}
use Rattle.std.proofs.lemmas.List.{append_assoc, drop_more, get_or_past, length-append, length-map}
use Rattle.std.proofs.lemmas.Option.{unwrap_or-slice_get}
use Rattle.std.proofs.lemmas.List.Concat.{flat_map-cons}
use Rattle.std.proofs.lemmas.List.Sums.{sum_by-cons}
use Rattle.check_index.specs.Files.{file_at}
use Rattle.check_index.specs.Norms.{count_with_norms}
use Rattle.check_index.specs.Segments.{SegmentValue}
use Rattle.doc_marks.specs.Norms.{norm_header, nrm_bytes, nrm_spelling}
use Rattle.lu_types.specs.Tables.{TableField, number_of}
use Rattle.lu_types.specs.declared.kind.FileKind.TheVariants.{Nrm}
use Rattle.lu_types.specs.declared.named_file.NamedFile.{NamedFile}
use Rattle.lu_model.specs.Contents.{field_number, has_norms, live}
use Rattle.lu_model.specs.Index.{Index}
use Rattle.lu_model.specs.Valid.{AreNorms, IsValid}
use Rattle.lu_model.proofs.Numbers.{place_of-number}
use Rattle.posting_files.specs.States.{named}
use Rattle.segment_files.specs.Parts.{norm_columns}
use Rattle.segment_files.specs.Written.{first_past}
use Rattle.seg_writer.proofs.FnmLemmas.{past-alone, within-alone}
use Rattle.seg_writer.specs.NormColumns.{given_norms}
use Rattle.seg_reader.proofs.ReaderLemmas.{length-file_at}
use Rattle.seg_merger.specs.Merged.{indexes_of}
use Rattle.seg_merger.specs.Renumbered.{live_norms, merged_norm_file, merged_norms, named_norms, norm_of}
use Rattle.seg_merger.proofs.JoinedLemmas.{zip-length}

-- ---- the column of a field

-- the norms that stand at a number are those of the name that has it
pub column-named : (name : List ℕ) (index : Index) (n : ℕ) → Some n ≡ number_of name index.fields → file_at index.norms n ≡ named_norms name index
column-named name index n is = unwrap_or-slice_get index.norms n None ∙ ap (λ k. get_or index.norms k None) (sym (place_of-number name index.fields n (sym is)))

-- they are as many as the documents
pub column-all : (index : Index) → IsValid index → (n : ℕ) (found : Option (Bor (List ℕ))) → option_copied found ≡ file_at index.norms n → IfSome found (λ norms. length norms.now ≡ index.size)
column-all index ok n None is = tt
column-all index ok n (Some norms) is = length-file_at index.size index.fields index.norms n norms.now ok.norms (sym is)

-- where no field has the name there are none
pub column-none : (name : List ℕ) (index : Index) → IsValid index → None ≡ number_of name index.fields → None ≡ named_norms name index
column-none name index ok is = sym (get_or_past index.norms (field_number name index.fields) None (let many = norms-many index.size index.fields index.norms ok.norms in let past = not-numbered name index.fields (sym is) in omega (arith, many, past)))
  where
    norms-many : (size : ℕ) (fields : List TableField) (norms : List (Option (List ℕ))) → AllZip (AreNorms size) fields norms → length norms ≡ length fields
    norms-many size fields norms h = zip-length (AreNorms size) fields norms h

    not-numbered : (name : List ℕ) (fields : List TableField) → number_of name fields ≡ None → length fields ≤ field_number name fields
    not-numbered name fields none = elim (cases_lt (field_number name fields) (length fields)) [
      | inl lt ↦ (let found = sym none ∙ ap (λ b. cond b (Some (field_number name fields)) None) (lt-ltb (field_number name fields) (length fields) lt) in cc)
      | inr le ↦ le
    ]

-- the norms of a segment more
pub norms-next : (sources : List SegmentValue) (i : ℕ) (s : SegmentValue) (name old new : List ℕ) (column : Option (List ℕ)) → i < length sources → s ≡ get_or sources i s → column ≡ named_norms name s.index → new ≡ old ++ live_norms column s.index
    → new ++ merged_norms (indexes_of (drop (i + 1) sources)) name ≡ old ++ merged_norms (indexes_of (drop i sources)) name
norms-next sources i s name old new column lt is named_so step =
    let rest = merged_norms (indexes_of (drop (i + 1) sources)) name in
    ap (λ ns. ns ++ rest) (step ∙ ap (λ c. old ++ live_norms c s.index) named_so)
    ∙ append_assoc old (live_norms (named_norms name s.index) s.index) rest
    ∙ ap (λ ns. old ++ ns) (ap (λ (ss : List SegmentValue). merged_norms (indexes_of ss) name) (ap (λ r. r ∷ drop (i + 1) sources) is ∙ sym (drop_more sources i s lt)))

-- ---- columns

module _ (indexes : List Index) where
  -- the norms of fields, field by field
  abbrev pub norms_of_fields : List TableField → List ℕ
  norms_of_fields fields = flat_map (λ (f : TableField). merged_norms indexes f.name) (filter (λ (f : TableField). has_norms f.bits) fields)

  -- the columns of fields
  abbrev pub columns_of_fields : List TableField → List (List ℕ)
  columns_of_fields fields = norm_columns (map (λ (f : TableField). cond (has_norms f.bits) (Some (merged_norms indexes f.name)) None) fields)

  columns-bytes : (fields : List TableField) → flat_map (λ c. c) (columns_of_fields fields) ≡ norms_of_fields fields
  columns-bytes [] = refl
  columns-bytes (f ∷ fields) =
      let rest = columns-bytes fields in
      let kept = filter (λ (g : TableField). has_norms g.bits) fields in
      elim (has_norms f.bits) as (λ b. flat_map (λ (c : List ℕ). c) (cons_option (cond b (Some (merged_norms indexes f.name)) None) (columns_of_fields fields)) ≡ flat_map (λ (g : TableField). merged_norms indexes g.name) (cond b (f ∷ kept) kept)) [
        | true ↦ ap (λ ns. merged_norms indexes f.name ++ ns) rest
        | false ↦ rest
      ]

length-norms : (indexes : List Index) (name : List ℕ) → length (merged_norms indexes name) ≡ length (flat_map live indexes)
length-norms [] name = refl
length-norms (index ∷ indexes) name =
    let own = length-map (live index) (norm_of (named_norms name index)) in
    let rest = length-norms indexes name in
    let left = length-append (live_norms (named_norms name index) index) (merged_norms indexes name) in
    let right = length-append (live index) (flat_map live indexes) in
    omega (arith, own, rest, left, right)

module _ (indexes : List Index) where
  length-all : (fields : List TableField) → length (norms_of_fields indexes fields) ≡ count_with_norms fields * length (flat_map live indexes)
  length-all [] = omega arith
  length-all (f ∷ fields) =
      let kept = filter (λ (g : TableField). has_norms g.bits) fields in
      let documents = length (flat_map live indexes) in
      let rest = length-all fields in
      let own = length-norms indexes f.name in
      let both = length-append (merged_norms indexes f.name) (norms_of_fields indexes fields) in
      elim (has_norms f.bits) as (λ b. count_with_norms (f ∷ fields) ≡ cond b 1 0 + count_with_norms fields → length (flat_map (λ (g : TableField). merged_norms indexes g.name) (cond b (f ∷ kept) kept)) ≡ count_with_norms (f ∷ fields) * documents) [
        | true ↦ λ count. (let times = ap (λ n. n * documents) count in omega (arith, rest, own, both, times))
        | false ↦ λ count. (let times = ap (λ n. n * documents) count in omega (arith, rest, times))
      ] (sum_by-cons (λ (g : TableField). cond (has_norms g.bits) 1 0) f fields)

-- ---- the file

module _ (indexes : List Index) (fields : List TableField) (norms : List (Option (List ℕ))) (is : norms ≡ map (λ (f : TableField). cond (has_norms f.bits) (Some (merged_norms indexes f.name)) None) fields) where
  abbrev spelled : List ℕ
  spelled = nrm_spelling (norm_columns norms)

  bytes-are : spelled ≡ nrm_bytes (norms_of_fields indexes fields)
  bytes-are = ap (λ ns. nrm_spelling (norm_columns ns)) is ∙ ap nrm_bytes (columns-bytes indexes fields)

  size : (documents : ℕ) → documents ≡ length (flat_map live indexes) → length spelled ≡ 4 + count_with_norms fields * documents
  size documents many =
      let all = ap length bytes-are in
      let head = length-append norm_header (norms_of_fields indexes fields) in
      let own = length-all indexes fields ∙ ap (λ n. count_with_norms fields * n) (sym many) in
      omega (arith, all, head, own)

  there : 0 < count_with_norms fields → merged_norm_file fields norms ≡ named Nrm spelled ∷ []
  there some = ap (λ b. cond b (named Nrm spelled ∷ []) []) (lt-ltb 0 (count_with_norms fields) some)

  pub norms-none : (limit : ℕ) → count_with_norms fields ≡ 0 → (first_past limit (merged_norm_file fields norms) ≡ None) × (given_norms None ≡ merged_norm_file fields norms)
  norms-none limit none =
      let nothing : merged_norm_file fields norms ≡ [] = ap (λ b. cond b (named Nrm spelled ∷ []) []) (le-ltb 0 (count_with_norms fields) (omega (arith, none))) in
      (ap (first_past limit) nothing, sym nothing)

  pub norms-past : (limit documents : ℕ) → documents ≡ length (flat_map live indexes) → 0 < count_with_norms fields → limit < 4 + count_with_norms fields * documents → first_past limit (merged_norm_file fields norms) ≡ Some Nrm
  norms-past limit documents many some long = ap (first_past limit) (there some) ∙ past-alone limit Nrm spelled (subst (λ n. limit < n) (sym (size documents many)) long)

  pub norms-within : (limit documents : ℕ) (written nrm : List ℕ) → documents ≡ length (flat_map live indexes) → 0 < count_with_norms fields → 4 + count_with_norms fields * documents ≤ limit → written ≡ norms_of_fields indexes fields → nrm ≡ nrm_bytes written
      → (first_past limit (merged_norm_file fields norms) ≡ None) × (given_norms (Some nrm) ≡ merged_norm_file fields norms)
  norms-within limit documents written nrm many some short are own = (
    ap (first_past limit) (there some) ∙ within-alone limit Nrm spelled (subst (λ n. n ≤ limit) (sym (size documents many)) short),
    ap (λ bytes. named Nrm bytes ∷ []) (own ∙ ap nrm_bytes are ∙ sym bytes-are) ∙ sym (there some),
  )
