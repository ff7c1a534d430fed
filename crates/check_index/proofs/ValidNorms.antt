-- Each field that has norms has a byte for each document, and no other field has norms.
use Rattle.std.proofs.Common.{◌≡◌, ℕ, zero, suc, ◌+◌, ◌<◌, ◌≤◌, Bool, true, false, cond, List, [], ◌∷◌, ◌++◌, length, map, flat_map, Option, Some, None, refl, sym, subst, arith, lit<}
use Rattle.std.specs.Prelude.{◌&&◌, ℤ, slice_set, nat_lt}
use Rattle.std.specs.List.{AllZip, range_with_len}
use Rattle.std.proofs.lemmas.Bool.{ltb-false}
use Rattle.std.proofs.lemmas.List.Sums.{sum_by-cons}
use Rattle.lu_grammar.specs.Bytes.{IsBytes}
use Rattle.lu_types.specs.FilePlans.{stands, needs, where_needed, each_file, StandFor}
use Rattle.lu_types.specs.Tables.{TableField, bits_at}
use Rattle.lu_types.specs.declared.kind.FileKind.TheVariants.{Sep}
use Rattle.lu_types.proofs.FileLaws.{followed_by-was}
use Rattle.lu_model.specs.Contents.{has_norms}
use Rattle.lu_model.specs.Valid.{AreNorms}
use Rattle.doc_marks.specs.Norms.{nrm_plan, separate_plan, column_of, norm_header}
use Rattle.doc_marks.proofs.NormLaws.{nrm-only, separate-only}
use Rattle.check_index.specs.Files.{file_at}
use Rattle.check_index.specs.Norms.{FieldNorms, count_with_norms, norms_from, is_separate, needed_file, separate_file, separate_files}
use Rattle.check_index.specs.Stands.{Holds, Either, HoldColumns}
use Rattle.check_index.proofs.ReadBytes.{read-bytes}

-- ---- bytes of columns

bytes-left : (a b : List ℕ) → IsBytes (a ++ b) → IsBytes a
bytes-left [] b h i = lit< tt
bytes-left (x ∷ a) b h zero = h 0
bytes-left (x ∷ a) b h (suc i) = bytes-left a b (λ j. h (suc j)) i

bytes-right : (a b : List ℕ) → IsBytes (a ++ b) → IsBytes b
bytes-right [] b h = h
bytes-right (x ∷ a) b h = bytes-right a b (λ i. h (suc i))

column-bytes : (columns : List (List ℕ)) → IsBytes (flat_map (λ (column : List ℕ). column) columns) → (k : ℕ) → IsBytes (column_of columns k)
column-bytes [] h k = λ i. lit< tt
column-bytes (column ∷ columns) h zero = bytes-left column (flat_map (λ (column : List ℕ). column) columns) h
column-bytes (column ∷ columns) h (suc k) = column-bytes columns (bytes-right column (flat_map (λ (column : List ℕ). column) columns) h) k

-- ---- the norms in one file

module _ (size : ℕ) where
  -- one for a field that has norms, besides those of the others
  counted : (f : TableField) (fields : List TableField) → count_with_norms (f ∷ fields) ≡ cond (has_norms f.bits) 1 0 + count_with_norms fields
  counted f fields = sum_by-cons (λ (field : TableField). cond (has_norms field.bits) 1 0) f fields

  norms-given : (count column : ℕ) (columns : List (List ℕ)) (fields : List TableField) → ((k : ℕ) → k < count → length (column_of columns k) ≡ size) → ((k : ℕ) → IsBytes (column_of columns k))
      → column + count_with_norms fields ≤ count → AllZip (AreNorms size) fields (norms_from column columns fields)
  norms-given count column columns [] long bytes few = tt
  norms-given count column columns (f ∷ fields) long bytes few =
      go (has_norms f.bits) refl (subst (λ (n : ℕ). column + n ≤ count) (counted f fields) few) (λ next le. norms-given count next columns fields long bytes le)
    where
      go : (b : Bool) → has_norms f.bits ≡ b → column + (cond b 1 0 + count_with_norms fields) ≤ count
          → ((next : ℕ) → next + count_with_norms fields ≤ count → AllZip (AreNorms size) fields (norms_from next columns fields))
          → AllZip (AreNorms size) (f ∷ fields) (cond b (Some (column_of columns column) ∷ norms_from (column + 1) columns fields) (None ∷ norms_from column columns fields))
      go true has few rest = ((has, long column (omega (arith, few)), bytes column), rest (column + 1) (omega (arith, few)))
      go false has few rest = (has, rest column (omega (arith, few)))

  none-given : (fields : List TableField) → count_with_norms fields ≤ 0 → AllZip (AreNorms size) fields (map (λ _. None) fields)
  none-given [] few = tt
  none-given (f ∷ fields) few = go (has_norms f.bits) refl (subst (λ (n : ℕ). n ≤ 0) (counted f fields) few) (λ le. none-given fields le)
    where
      go : (b : Bool) → has_norms f.bits ≡ b → cond b 1 0 + count_with_norms fields ≤ 0 → (count_with_norms fields ≤ 0 → AllZip (AreNorms size) fields (map (λ _. None) fields)) → AllZip (AreNorms size) (f ∷ fields) (None ∷ map (λ _. None) fields)
      go true has few rest = absurd (omega (arith, few))
      go false has few rest = (has, rest (omega (arith, few)))

  columns-are : (fields : List TableField) (nrm : Option (List ℕ)) (norms : FieldNorms) → HoldColumns size fields nrm norms → AllZip (AreNorms size) fields norms
  columns-are fields nrm norms h = go (nat_lt 0 (count_with_norms fields)) refl h
    where
      held : (nrm : Option (List ℕ)) (columns : List (List ℕ)) → Holds nrm (λ _. nrm_plan (count_with_norms fields) size) columns → AllZip (AreNorms size) fields (norms_from 0 columns fields)
      held None columns h = absurd h
      held (Some bytes) columns h =
          let only = nrm-only bytes columns (count_with_norms fields) size h in
          let made = subst IsBytes only.0 (read-bytes (nrm_plan (count_with_norms fields) size) bytes columns h) in
          norms-given (count_with_norms fields) 0 columns fields only.1.each (column-bytes columns (bytes-right norm_header (flat_map (λ (column : List ℕ). column) columns) made)) (omega arith)

      go : (b : Bool) → nat_lt 0 (count_with_norms fields) ≡ b → Either b ((columns : List (List ℕ)) × Holds nrm (λ _. nrm_plan (count_with_norms fields) size) columns × (norms ≡ norms_from 0 columns fields)) norms (map (λ _. None) fields)
          → AllZip (AreNorms size) fields norms
      go true some (columns, holds, is) = subst (AllZip (AreNorms size) fields) (sym is) (held nrm columns holds)
      go false none is = subst (AllZip (AreNorms size) fields) (sym is) (none-given fields (ltb-false _ _ none))

  -- ---- the norms in files of their own

  norms-put : (fields : List TableField) (norms : FieldNorms) (number : ℕ) (column : List ℕ) → AllZip (AreNorms size) fields norms → has_norms (bits_at fields number) ≡ true → length column ≡ size → IsBytes column
      → AllZip (AreNorms size) fields (slice_set norms number (Some column))
  norms-put [] [] number column all has long bytes = tt
  norms-put [] (n ∷ norms) number column all has long bytes = absurd all
  norms-put (f ∷ fields) [] number column all has long bytes = absurd all
  norms-put (f ∷ fields) (n ∷ norms) zero column all has long bytes = ((has, long, bytes), all.1)
  norms-put (f ∷ fields) (n ∷ norms) (suc number) column all has long bytes = (all.0, norms-put fields norms number column all.1 has long bytes)

  first-of : (a b : Bool) → (a && b) ≡ true → a ≡ true
  first-of true b e = refl
  first-of false b e = e

  module _ (generations : Option (List ℤ)) (fields : List TableField) (files : List (Option (List ℕ))) where
    one-put : (number : ℕ) (before after : FieldNorms) → AllZip (AreNorms size) fields before → StandFor (separate_file generations fields size files number before) after → AllZip (AreNorms size) fields after
    one-put number before after all h = go (is_separate generations fields number) refl h
      where
        held : (file : Option (List ℕ)) → has_norms (bits_at fields number) ≡ true
            → StandFor (needs (Sep number) file (λ _. separate_plan size) (λ _ column. stands (slice_set before number (Some column)))) after
            → AllZip (AreNorms size) fields after
        held None has h = absurd h
        held (Some bytes) has (column, reads, is) =
            let only = separate-only bytes column size reads in
            subst (AllZip (AreNorms size) fields) (sym is) (norms-put fields before number column all has only.1 (subst IsBytes only.0 (read-bytes (separate_plan size) bytes column reads)))

        go : (b : Bool) → is_separate generations fields number ≡ b → StandFor (where_needed b before (needed_file size files number before)) after → AllZip (AreNorms size) fields after
        go true asked h = held (file_at files number) (first-of (has_norms (bits_at fields number)) _ asked) h
        go false asked is = subst (AllZip (AreNorms size) fields) (sym is) all

    all-put : (numbers : List ℕ) (before after : FieldNorms) → AllZip (AreNorms size) fields before → StandFor (each_file (separate_file generations fields size files) numbers before) after → AllZip (AreNorms size) fields after
    unfolding each_file
    all-put [] before after all is = subst (AllZip (AreNorms size) fields) (sym is) all
    all-put (number ∷ numbers) before after all h =
        let first = followed_by-was (separate_file generations fields size files number before) (each_file (separate_file generations fields size files) numbers) after h in
        all-put numbers first.0 after (one-put number before first.0 all first.1) first.2

    -- the norms of the fields
    pub norms-are : (nrm : Option (List ℕ)) (columns norms : FieldNorms) → HoldColumns size fields nrm columns → StandFor (separate_files generations fields size files (length fields) columns) norms → AllZip (AreNorms size) fields norms
    norms-are nrm columns norms held h = all-put (range_with_len 0 (length fields)) columns norms (columns-are fields nrm columns held) h
