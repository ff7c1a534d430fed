-- What a reader answers of a valid index: marks of documents, vectors and norms.
use Rattle.std.proofs.Common.{◌≡◌, ℕ, zero, suc, ◌+◌, ◌<◌, Bool, false, List, [], ◌∷◌, length, get_or, Option, Some, None, refl, sym, ap, subst, ◌∙◌, arith}
use Rattle.std.specs.Prelude.{MatchOption, slice_get, option_map, unwrap_or}
use Rattle.std.specs.List.{AllZip}
use Rattle.lu_types.specs.Tables.{TableField}
use Rattle.lu_model.specs.Valid.{AreNorms}
use Rattle.doc_marks.specs.Marking.{is_in, flags_of}
use Rattle.check_index.specs.Files.{file_at}

-- a document is marked where it is among the deleted ones
pub get_or-flags_of : (first n doc : ℕ) (docs : List ℕ) → doc < n → get_or (flags_of first n docs) doc false ≡ is_in (first + doc) docs
unfolding flags_of
get_or-flags_of first zero doc docs lt = absurd (omega (arith, lt))
get_or-flags_of first (suc n) zero docs lt = ap (λ (d : ℕ). is_in d docs) (let e : first ≡ first + 0 = omega arith in e)
get_or-flags_of first (suc n) (suc doc) docs lt =
    get_or-flags_of (suc first) n doc docs (omega (arith, lt)) ∙ ap (λ (d : ℕ). is_in d docs) (let e : suc first + doc ≡ first + suc doc = omega arith in e)

-- so it is of the marks of all documents
pub is_in-marked : (n doc : ℕ) (docs : List ℕ) → doc < n → get_or (flags_of 0 n docs) doc false ≡ is_in doc docs
is_in-marked n doc docs lt = get_or-flags_of 0 n doc docs lt ∙ ap (λ (d : ℕ). is_in d docs) (let e : 0 + doc ≡ doc = omega arith in e)

-- the norms of a field that has some are those of all documents
pub length-file_at : (size : ℕ) (fields : List TableField) (norms : List (Option (List ℕ))) (field : ℕ) (column : List ℕ) → AllZip (AreNorms size) fields norms → file_at norms field ≡ Some column → length column ≡ size
length-file_at size [] [] field column all e = absurd cc
length-file_at size [] (c ∷ norms) field column all e = absurd all
length-file_at size (f ∷ fields) [] field column all e = absurd all
length-file_at size (f ∷ fields) (None ∷ norms) zero column all e = absurd cc
length-file_at size (f ∷ fields) (Some c ∷ norms) zero column all e = subst (λ (x : List ℕ). length x ≡ size) (let same : c ≡ column = cc in same) all.0.1
length-file_at size (f ∷ fields) (c ∷ norms) (suc field) column all e = length-file_at size fields norms field column all.1 e
