-- Norms given to fields, and the files of fields by their numbers.
use Rattle.std.proofs.Common.{◌≡◌, ℕ, zero, suc, ◌+◌, ◌-◌, ◌<◌, ◌≤◌, Bool, true, false, cond, List, [], ◌∷◌, ◌++◌, length, map, take, drop, get_or, Option, Some, None, Err, refl, sym, ap, subst, ◌∙◌, arith, add-one, zero-add, append_assoc}
use Rattle.std.specs.List.{range_with_len}
use Rattle.std.proofs.lemmas.List.{append-nil, length-take}
use Rattle.std.proofs.lemmas.List.Sums.{sum_by-drop_more, sum_by-take-drop, count_by-le-length}
use Rattle.std.proofs.Math.ListN.{drop_of_length-le}
use Rattle.lu_types.specs.Tables.{TableField, bits_at}
use Rattle.lu_types.specs.FilePlans.{FilePlan, each_file, StandFor, IsFaultAmong, Judges}
use Rattle.lu_types.specs.declared.fault.CodecFault.{CodecFault}
use Rattle.lu_types.specs.declared.fault.CodecFault.TheVariants as faults
use Rattle.lu_types.proofs.FileLaws.{each_file-more, each_file-fault}
use Rattle.lu_model.specs.Contents.{has_norms}
use Rattle.doc_marks.specs.Norms.{column_of}
use Rattle.check_index.specs.Norms.{FieldNorms, count_with_norms, norms_from}

-- ---- numbers in turn

range-split : (from k n m : ℕ) → m ≡ k + (n + 1) → range_with_len from m ≡ range_with_len from k ++ (from + k) ∷ range_with_len (from + k + 1) n
range-split from zero n zero e = absurd (omega (arith, e))
range-split from zero n (suc m) e =
    let same : m ≡ n = omega (arith, e) in
    let here : from ≡ from + 0 = omega arith in
    ap (λ (j : ℕ). from ∷ range_with_len (from + 1) j) same ∙ ap (λ (j : ℕ). j ∷ range_with_len (j + 1) n) here
range-split from (suc k) n zero e = absurd (omega (arith, e))
range-split from (suc k) n (suc m) e =
    let shift : from + 1 + k ≡ from + suc k = omega arith in
    ap (λ (js : List ℕ). from ∷ js) (range-split (from + 1) k n m (omega (arith, e)) ∙ ap (λ (j : ℕ). range_with_len (from + 1) k ++ j ∷ range_with_len (j + 1) n) shift)

-- a range is its front, a number, and what follows
range-at : (k n : ℕ) → k < n → range_with_len 0 n ≡ range_with_len 0 k ++ k ∷ range_with_len (k + 1) (n - (k + 1))
range-at k n lt = range-split 0 k (n - (k + 1)) n (omega (arith, lt)) ∙ ap (λ (j : ℕ). range_with_len 0 k ++ j ∷ range_with_len (j + 1) (n - (k + 1))) (zero-add k)

range-more : (k : ℕ) → range_with_len 0 (k + 1) ≡ range_with_len 0 k ++ k ∷ []
range-more k = range-split 0 k 0 (k + 1) (omega arith) ∙ ap (λ (j : ℕ). range_with_len 0 k ++ j ∷ []) (zero-add k)

-- ---- the files of so many numbers

module _ {S : Type 0} (file : ℕ → S → FilePlan S) (start : S) where
  -- the file of the next number stands too
  pub numbered-more : (k : ℕ) (s t : S) → StandFor (each_file file (range_with_len 0 k) start) s → StandFor (file k s) t → StandFor (each_file file (range_with_len 0 (k + 1)) start) t
  numbered-more k s t before here = subst (λ (ks : List ℕ). StandFor (each_file file ks start) t) (sym (range-more k)) (each_file-more file (range_with_len 0 k) k start s t before here)

  among : (k n : ℕ) (s : S) (spot : _) → k < n → StandFor (each_file file (range_with_len 0 k) start) s → IsFaultAmong (file k s) spot → IsFaultAmong (each_file file (range_with_len 0 n) start) spot
  among k n s spot lt before here = subst (λ (ks : List ℕ). IsFaultAmong (each_file file ks start) spot) (sym (range-at k n lt)) (each_file-fault file (range_with_len 0 k) k (range_with_len (k + 1) (n - (k + 1))) start s spot before here)

  -- or it has a fault
  pub numbered-fault : {X Y : Type 0} (view : X → S) (seen : Y → S) (k n : ℕ) (s : S) (fault : CodecFault) → k < n → StandFor (each_file file (range_with_len 0 k) start) s → Judges view (file k s) (Err fault) → Judges seen (each_file file (range_with_len 0 n) start) (Err fault)
  numbered-fault view seen k n s (faults.Spot spot) lt before here = among k n s spot lt before here
  numbered-fault view seen k n s faults.OutOfMemory lt before here = tt

-- ---- columns given to fields

-- no norms
abbrev pub no_column : Option (List ℕ)
no_column = None

-- what the fields are given by the first of them
abbrev given_by : Bool → ℕ → List (List ℕ) → List TableField → FieldNorms
given_by has column columns rest = cond has (Some (column_of columns column) ∷ norms_from (column + 1) columns rest) (None ∷ norms_from column columns rest)

norms-suc : (i column : ℕ) (columns : List (List ℕ)) (fields : List TableField) → i < length fields → norms_from column columns (drop i fields) ≡ given_by (has_norms (bits_at fields i)) column columns (drop (suc i) fields)
norms-suc i column columns [] lt = absurd (omega (arith, lt))
norms-suc zero column columns (field ∷ fields) lt = refl
norms-suc (suc i) column columns (field ∷ fields) lt = norms-suc i column columns fields (omega (arith, lt))

norms-next : (i column : ℕ) (columns : List (List ℕ)) (fields : List TableField) → i < length fields → norms_from column columns (drop i fields) ≡ given_by (has_norms (bits_at fields i)) column columns (drop (i + 1) fields)
norms-next i column columns fields lt = norms-suc i column columns fields lt ∙ ap (λ (n : ℕ). given_by (has_norms (bits_at fields i)) column columns (drop n fields)) (sym (add-one i))

-- the bits of a field that is there
pub bits-at : (i : ℕ) (fields : List TableField) (d : TableField) → i < length fields → bits_at fields i ≡ (get_or fields i d).bits
bits-at i [] d lt = absurd (omega (arith, lt))
bits-at zero (field ∷ fields) d lt = refl
bits-at (suc i) (field ∷ fields) d lt = bits-at i fields d (omega (arith, lt))

-- one for a field that has norms
abbrev one_if : TableField → ℕ
one_if field = cond (has_norms field.bits) 1 0

-- no field
abbrev pub no_field : TableField
no_field = record { name = []; bits = 0 }

count-next : (i : ℕ) (fields : List TableField) → i < length fields → count_with_norms (drop i fields) ≡ cond (has_norms (bits_at fields i)) 1 0 + count_with_norms (drop (i + 1) fields)
count-next i fields lt = sum_by-drop_more one_if fields i no_field lt ∙ ap (λ (bits : ℕ). cond (has_norms bits) 1 0 + count_with_norms (drop (i + 1) fields)) (sym (bits-at i fields no_field lt))

-- each field has a place
pub length-norms_from : (column : ℕ) (columns : List (List ℕ)) (fields : List TableField) → length (norms_from column columns fields) ≡ length fields
length-norms_from column columns [] = refl
length-norms_from column columns (field ∷ fields) = go (has_norms field.bits) (length-norms_from (column + 1) columns fields) (length-norms_from column columns fields)
  where
    go : (b : Bool) → length (norms_from (column + 1) columns fields) ≡ length fields → length (norms_from column columns fields) ≡ length fields → length (given_by b column columns fields) ≡ suc (length fields)
    go true has lacks = ap suc has
    go false has lacks = ap suc lacks

-- ---- walks over the fields

-- how many of the first so many fields have norms, with one field more
more-count : (i : ℕ) (fields : List TableField) (n : ℕ) → i < length fields → cond (has_norms (bits_at fields i)) 1 0 ≡ n → count_with_norms (take (i + 1) fields) ≡ count_with_norms (take i fields) + n
more-count i fields n lt is = omega (arith, sum_by-take-drop one_if fields i, sum_by-take-drop one_if fields (i + 1), count-next i fields lt, is)

pub count-more : (i : ℕ) (fields : List TableField) → i < length fields → has_norms (bits_at fields i) ≡ true → count_with_norms (take (i + 1) fields) ≡ count_with_norms (take i fields) + 1
count-more i fields lt is = more-count i fields 1 lt (ap (λ (b : Bool). cond b 1 0) is)

pub count-same : (i : ℕ) (fields : List TableField) → i < length fields → has_norms (bits_at fields i) ≡ false → count_with_norms (take (i + 1) fields) ≡ count_with_norms (take i fields)
count-same i fields lt is = omega (arith, more-count i fields 0 lt (ap (λ (b : Bool). cond b 1 0) is))

-- no more than there are fields
pub count-few : (i : ℕ) (fields : List TableField) → count_with_norms (take i fields) ≤ length fields
count-few i fields = omega (arith, count_by-le-length (λ (field : TableField). has_norms field.bits) (take i fields), length-take i fields)

-- no norms for the first so many fields
abbrev pub without_norms : List TableField → FieldNorms
without_norms fields = map (λ (_ : TableField). no_column) fields

more-none : (i : ℕ) (fields : List TableField) → i < length fields → without_norms (take (suc i) fields) ≡ without_norms (take i fields) ++ no_column ∷ []
more-none i [] lt = absurd (omega (arith, lt))
more-none zero (field ∷ fields) lt = refl
more-none (suc i) (field ∷ fields) lt = ap (λ (ns : FieldNorms). no_column ∷ ns) (more-none i fields (omega (arith, lt)))

pub none-more : (i : ℕ) (fields : List TableField) → i < length fields → without_norms (take (i + 1) fields) ≡ without_norms (take i fields) ++ no_column ∷ []
none-more i fields lt = ap (λ (n : ℕ). without_norms (take n fields)) (add-one i) ∙ more-none i fields lt

-- the norms so far, and those that the fields behind are given, are those of all fields
pub record AreGiven (columns : List (List ℕ)) (fields : List TableField) (norms : FieldNorms) (number column : ℕ) : Type 0 where
  pub so_far : norms ++ norms_from column columns (drop number fields) ≡ norms_from 0 columns fields
  pub left : column + count_with_norms (drop number fields) ≡ count_with_norms fields

module _ (columns : List (List ℕ)) (fields : List TableField) where
  pub given-none : AreGiven columns fields [] 0 0
  given-none = record { so_far = refl; left = omega arith }

  -- a column is left for a field with norms
  pub given-left : (norms : FieldNorms) (number column : ℕ) → number < length fields → has_norms (bits_at fields number) ≡ true → AreGiven columns fields norms number column → column < count_with_norms fields
  given-left norms number column lt has given =
      let count : count_with_norms (drop number fields) ≡ 1 + count_with_norms (drop (number + 1) fields) = count-next number fields lt ∙ ap (λ (b : Bool). cond b 1 0 + count_with_norms (drop (number + 1) fields)) has in
      omega (arith, count, given.left)

  -- it is given the next column
  pub given-column : (norms : FieldNorms) (number column : ℕ) → number < length fields → has_norms (bits_at fields number) ≡ true → AreGiven columns fields norms number column
      → AreGiven columns fields (norms ++ Some (column_of columns column) ∷ []) (number + 1) (column + 1)
  given-column norms number column lt has given =
      let rest = norms_from (column + 1) columns (drop (number + 1) fields) in
      let next : norms_from column columns (drop number fields) ≡ Some (column_of columns column) ∷ rest = norms-next number column columns fields lt ∙ ap (λ (b : Bool). given_by b column columns (drop (number + 1) fields)) has in
      let count : count_with_norms (drop number fields) ≡ 1 + count_with_norms (drop (number + 1) fields) = count-next number fields lt ∙ ap (λ (b : Bool). cond b 1 0 + count_with_norms (drop (number + 1) fields)) has in
      record {
        so_far = append_assoc norms (Some (column_of columns column) ∷ []) rest ∙ ap (λ (ns : FieldNorms). norms ++ ns) (sym next) ∙ given.so_far;
        left = omega (arith, count, given.left);
      }

  -- a field without norms is given none
  pub given-no_column : (norms : FieldNorms) (number column : ℕ) → number < length fields → has_norms (bits_at fields number) ≡ false → AreGiven columns fields norms number column
      → AreGiven columns fields (norms ++ no_column ∷ []) (number + 1) column
  given-no_column norms number column lt has given =
      let rest = norms_from column columns (drop (number + 1) fields) in
      let next : norms_from column columns (drop number fields) ≡ no_column ∷ rest = norms-next number column columns fields lt ∙ ap (λ (b : Bool). given_by b column columns (drop (number + 1) fields)) has in
      let count : count_with_norms (drop number fields) ≡ 0 + count_with_norms (drop (number + 1) fields) = count-next number fields lt ∙ ap (λ (b : Bool). cond b 1 0 + count_with_norms (drop (number + 1) fields)) has in
      record {
        so_far = append_assoc norms (no_column ∷ []) rest ∙ ap (λ (ns : FieldNorms). norms ++ ns) (sym next) ∙ given.so_far;
        left = omega (arith, count, given.left);
      }

  -- behind the last field
  pub given-all : (norms : FieldNorms) (number column : ℕ) → length fields ≤ number → AreGiven columns fields norms number column → norms ≡ norms_from 0 columns fields
  given-all norms number column le given =
      sym (append-nil norms) ∙ ap (λ (fs : List TableField). norms ++ norms_from column columns fs) (sym (drop_of_length-le fields le)) ∙ given.so_far
