-- The norms of a segment: `.nrm`, and files of their own (format page, "Norms").
use Rattle.std.specs.Prelude.{ℕ, ◌+◌, ◌&&◌, ℤ, pos, Bool, false, cond, List, [], ◌∷◌, length, map, Option, Some, None, nat_lt, int_lt, unwrap_or, slice_get, slice_set, count_by}
use Rattle.std.specs.List.{range_with_len}
use Rattle.lu_types.specs.FilePlans.{FilePlan, stands, needs, followed_by, each_file, where_needed}
use Rattle.lu_types.specs.Tables.{TableField, bits_at}
use Rattle.lu_types.specs.declared.kind.FileKind.TheVariants.{Nrm, Sep}
use Rattle.lu_model.specs.Contents.{has_norms}
use Rattle.doc_marks.specs.Norms.{nrm_plan, separate_plan, column_of}
use Rattle.segment_infos.specs.declared.infos.SegInfo.{SegInfo}
use Rattle.check_index.specs.Files.{file_at}

-- for each field its norms, a byte for each document; none where the field has no norms
abbrev pub FieldNorms : Type 0
FieldNorms = List (Option (List ℕ))

-- how many fields have norms
abbrev pub count_with_norms : List TableField → ℕ
count_with_norms fields = count_by (λ field. has_norms field.bits) fields

-- the columns from a number on, given in turn to the fields that have norms
abbrev pub norms_from : ℕ → List (List ℕ) → List TableField → FieldNorms
norms_from column columns [] = []
norms_from column columns (field ∷ fields) =
    cond (has_norms field.bits) (Some (column_of columns column) ∷ norms_from (column + 1) columns fields) (None ∷ norms_from column columns fields)

-- the norms of all fields in one file, which is needed where a field has norms
abbrev pub column_files : Option (List ℕ) → ℕ → List TableField → FilePlan FieldNorms
column_files nrm size fields =
    where_needed (nat_lt 0 (count_with_norms fields)) (map (λ _. None) fields)
    (needs Nrm nrm (λ _. nrm_plan (count_with_norms fields) size) (λ _ columns. stands (norms_from 0 columns fields)))

-- the generation is one of a file
abbrev pub is_of_file : Option ℤ → Bool
is_of_file None = false
is_of_file (Some generation) = int_lt (pos 0) generation

-- the norms of the field with a number stand in a file of their own
abbrev pub is_separate : Option (List ℤ) → List TableField → ℕ → Bool
is_separate generations fields number = has_norms (bits_at fields number) && is_of_file (slice_get (unwrap_or generations []) number)

-- the file of the norms of the field with a number, which are put in the place of those so far
abbrev pub needed_file : ℕ → List (Option (List ℕ)) → ℕ → FieldNorms → FilePlan FieldNorms
needed_file size files number norms = needs (Sep number) (file_at files number) (λ _. separate_plan size) (λ _ column. stands (slice_set norms number (Some column)))

-- the same of a field whose norms may stand in a file of their own
abbrev pub separate_file : Option (List ℤ) → List TableField → ℕ → List (Option (List ℕ)) → ℕ → FieldNorms → FilePlan FieldNorms
separate_file generations fields size files number norms = where_needed (is_separate generations fields number) norms (needed_file size files number norms)

-- the files of the first so many fields, after the norms in one file
abbrev pub separate_files : Option (List ℤ) → List TableField → ℕ → List (Option (List ℕ)) → ℕ → FieldNorms → FilePlan FieldNorms
separate_files generations fields size files count norms = each_file (separate_file generations fields size files) (range_with_len 0 count) norms

-- the norms of the fields
abbrev pub norm_files : Option (List ℕ) → List (Option (List ℕ)) → SegInfo → List TableField → FilePlan FieldNorms
norm_files nrm files line fields =
    followed_by (column_files nrm line.size fields) (separate_files line.norm_gens fields line.size files (length fields))
