-- What reads as deleted documents is one of the two forms of `.del`.
use Rattle.std.proofs.Common.{◌≡◌, ℕ, ℤ, pos, ◌+◌, ◌^◌, ◌<◌, Bool, true, false, not, eqb, List, [], ◌∷◌, ◌++◌, length, None, refl, sym, ap, subst, ◌∙◌, append_assoc, arith, rules, inl, inr}
use Rattle.std.specs.Ordering.{int_eq}
use Rattle.std.proofs.lemmas.Bool.{eqb-true}
use Rattle.std.proofs.lemmas.Bool.Decides.{Decides-int_eq}
use Rattle.std.proofs.lemmas.List.{append-nil}
use Rattle.lu_grammar.specs.Bytes.{IsBytes}
use Rattle.lu_grammar.specs.Parts.{int32, IsValue, spelling}
use Rattle.lu_grammar.specs.Records.{Spells, first_broken}
use Rattle.lu_grammar.specs.Plans.{Plan, done}
use Rattle.lu_grammar.specs.Meaning.{Spelled, bytes_of, AreGood, due_after, Reads}
use Rattle.doc_marks.specs.Marking.{flags, marked, marking, AreRising}
use Rattle.doc_marks.specs.Deletions.{DelRecord, header, body, sparse_mark, body_bytes, header_shape, sizes_shape, header_conditions, body_shape, body_conditions, body_documents, is_past, dense_plan, no_pairs, after_header, del_plan}
use Rattle.doc_marks.specs.Spelling.{marks_of, sizes_bytes, pairs_bytes, IsDelFile}
use Rattle.doc_marks.proofs.MarkLemmas.{AreRising-places, AreRising-not_past, marking-marked}
use Rattle.doc_marks.proofs.DelLemmas.{heading-good}
use Rattle.doc_marks.proofs.PairLemmas.{first-good}
use Rattle.doc_marks.proofs.PairForms.{pairs-were}

-- ---- the header

-- how a header is spelled
abbrev heading_bytes : Bool → ℕ → ℕ → List ℕ
heading_bytes true size count = spelling int32 sparse_mark ++ sizes_bytes size count
heading_bytes false size count = sizes_bytes size count

record IsHeading (size count : ℕ) (r : DelRecord) (front : List ℕ) : Type 0 where
  pub is_sparse : Bool
  pub it : r ≡ header is_sparse (pos size) (pos count)
  pub small : size < 2 ^ 31
  pub front_is : front ≡ heading_bytes is_sparse size count

small-value : (n : ℕ) (z : ℤ) → IsValue int32 z → z ≡ pos n → n < 2 ^ 31
small-value n z fits is = small-is n (subst (IsValue int32) is fits)
  where
    small-is : (n : ℕ) → IsValue int32 (pos n) → n < 2 ^ 31
    small-is n fits = search rules

heading-spelled : (size count : ℕ) (r : DelRecord) (front : List ℕ) → Spells header_shape r front → first_broken (header_conditions size count r) ≡ None → IsHeading size count r front
heading-spelled size count r front (z, back, fits, is, rest) good = by_mark (int_eq z sparse_mark) refl rest
  where
    by_mark : (b : Bool) → int_eq z sparse_mark ≡ b → Spells (sizes_shape b z) r back → IsHeading size count r front
    by_mark true mark (s, more, s_fits, s_is, (n, none, n_fits, n_is, (made, end))) =
        let are = heading-good size count true s n (ap (λ (x : DelRecord). first_broken (header_conditions size count x)) made ∙ good) in
        record {
          is_sparse = true;
          it = sym made ∙ ap (λ (x : ℤ). header true x n) are.0 ∙ ap (header true (pos size)) are.1;
          small = small-value size s s_fits are.0;
          front_is = is ∙ ap (λ (x : ℤ). spelling int32 x ++ back) ((Decides-int_eq z sparse_mark).0 mark)
              ∙ ap (λ (t : List ℕ). spelling int32 sparse_mark ++ t) (s_is ∙ ap (λ (t : List ℕ). spelling int32 s ++ t) (n_is ∙ ap (λ (t : List ℕ). spelling int32 n ++ t) end ∙ append-nil (spelling int32 n)) ∙ ap (λ (x : ℤ). spelling int32 x ++ spelling int32 n) are.0
              ∙ ap (λ (x : ℤ). spelling int32 (pos size) ++ spelling int32 x) are.1);
        }
    by_mark false mark (n, none, n_fits, n_is, (made, end)) =
        let are = heading-good size count false z n (ap (λ (x : DelRecord). first_broken (header_conditions size count x)) made ∙ good) in
        record {
          is_sparse = false;
          it = sym made ∙ ap (λ (x : ℤ). header false x n) are.0 ∙ ap (header false (pos size)) are.1;
          small = small-value size z fits are.0;
          front_is = is ∙ ap (λ (t : List ℕ). spelling int32 z ++ t) (n_is ∙ ap (λ (t : List ℕ). spelling int32 n ++ t) end ∙ append-nil (spelling int32 n)) ∙ ap (λ (x : ℤ). spelling int32 x ++ spelling int32 n) are.0
              ∙ ap (λ (x : ℤ). spelling int32 (pos size) ++ spelling int32 x) are.1;
        }

-- ---- what follows it

abbrev finished : List ℕ → Plan (List ℕ) DelRecord
finished docs = done docs

-- the bytes of the dense form, of which these stand for the documents
record IsBody (size count : ℕ) (docs : List ℕ) : Type 0 where
  pub found : List ℕ
  pub long : length found ≡ body_bytes size
  pub fits : IsBytes found
  pub all : docs ≡ marked found
  pub below : is_past size (marked found) ≡ false
  pub number : length docs ≡ count

not-false : (b : Bool) → not b ≡ false → b ≡ true
not-false true h = refl
not-false false h = cc

dense-was : (size count place : ℕ) (records : List (Spelled DelRecord)) (docs : List ℕ) → AreGood (dense_plan size count) place records → due_after (dense_plan size count) place records ≡ finished docs
    → (b : IsBody size count docs) × (bytes_of records ≡ b.found)
dense-was size count place [] docs good end = absurd (due-finished end)
  where
    due-finished : dense_plan size count ≡ finished docs → ⊥
    due-finished e = cc
dense-was size count place (r ∷ s ∷ rs) docs good end = absurd good.1
dense-was size count place (r ∷ []) docs good end = body-was r.it r.front good.0.0 good.0.1 end
  where
    finished-same : (a b : List ℕ) → finished a ≡ finished b → a ≡ b
    finished-same a b e = cc

    body-was : (it : DelRecord) (front : List ℕ) → Spells (body_shape size) it front → first_broken (body_conditions size count it) ≡ None → finished (body_documents it) ≡ finished docs → (b : IsBody size count docs) × (front ++ [] ≡ b.found)
    body-was it front (found, none, are, is, (made, ends)) good_body last =
        let docs-are : docs ≡ marked found = sym (finished-same (body_documents it) docs last) ∙ ap body_documents (sym made) in
        let conditions : first_broken (body_conditions size count (body found)) ≡ None = ap (λ (x : DelRecord). first_broken (body_conditions size count x)) made ∙ good_body in
        let past = first-good (is_past size (marked found)) 91 _ conditions in
        let total = first-good (not (eqb (length (marked found)) count)) 92 _ past.1 in (
          record { found = found; long = are.0; fits = are.1; all = docs-are; below = past.0; number = ap length docs-are ∙ eqb-true _ _ (not-false _ total.0) },
          append-nil front ∙ is ∙ ap (λ (t : List ℕ). found ++ t) ends ∙ append-nil found,
        )

sparse-was : (size count place : ℕ) (records : List (Spelled DelRecord)) (docs : List ℕ) → AreGood (after_header size count (header true (pos size) (pos count))) place records
    → due_after (after_header size count (header true (pos size) (pos count))) place records ≡ finished docs → (b : IsBody size count docs) × (bytes_of records ≡ pairs_bytes 0 0 b.found)
sparse-was size count place records docs good end =
    let are = pairs-were size count count docs no_pairs place 0 records good end (inl (refl, refl)) (omega arith) in
    (record { found = are.found; long = omega (arith, are.long); fits = are.fits; all = are.all; below = are.below; number = are.number (omega arith) (omega arith) }, are.pairs)

body-marks : (size count : ℕ) (docs : List ℕ) (b : IsBody size count docs) → b.found ≡ marks_of size docs
body-marks size count docs b = sym (marking-marked b.found b.fits) ∙ ap (λ (n : ℕ). marking 0 n (marked b.found)) b.long ∙ ap (marks_of size) (sym b.all)

body-rise : (size count : ℕ) (docs : List ℕ) → IsBody size count docs → AreRising 0 size docs
body-rise size count docs b = subst (AreRising 0 size) (sym b.all) (AreRising-not_past 0 (0 + length (flags b.found)) size (marked b.found) (AreRising-places 0 (flags b.found)) b.below)

-- ---- the file

module _ (size count place : ℕ) (docs front : List ℕ) (rs : List (Spelled DelRecord)) (small : size < 2 ^ 31) where
  form-dense : AreGood (after_header size count (header false (pos size) (pos count))) place rs → due_after (after_header size count (header false (pos size) (pos count))) place rs ≡ finished docs
      → front ≡ heading_bytes false size count → IsDelFile size count docs (front ++ bytes_of rs)
  form-dense good end is =
      let was = dense-was size count place rs docs good end in
      let b = was.0 in
      record {
        small = small;
        number = b.number;
        rise = body-rise size count docs b;
        form = inl (ap (λ (t : List ℕ). t ++ bytes_of rs) is ∙ ap (λ (t : List ℕ). sizes_bytes size count ++ t) (was.1 ∙ body-marks size count docs b) ∙ ap (λ (n : ℕ). sizes_bytes size n ++ marks_of size docs) (sym b.number));
      }

  form-sparse : AreGood (after_header size count (header true (pos size) (pos count))) place rs → due_after (after_header size count (header true (pos size) (pos count))) place rs ≡ finished docs
      → front ≡ heading_bytes true size count → IsDelFile size count docs (front ++ bytes_of rs)
  form-sparse good end is =
      let was = sparse-was size count place rs docs good end in
      let b = was.0 in
      record {
        small = small;
        number = b.number;
        rise = body-rise size count docs b;
        form = inr (
            ap (λ (t : List ℕ). t ++ bytes_of rs) is
            ∙ append_assoc (spelling int32 sparse_mark) (sizes_bytes size count) (bytes_of rs)
            ∙ ap (λ (t : List ℕ). spelling int32 sparse_mark ++ (sizes_bytes size count ++ t)) (was.1 ∙ ap (pairs_bytes 0 0) (body-marks size count docs b))
            ∙ ap (λ (n : ℕ). spelling int32 sparse_mark ++ (sizes_bytes size n ++ pairs_bytes 0 0 (marks_of size docs))) (sym b.number)
            );
      }

file-was : (size count : ℕ) (records : List (Spelled DelRecord)) (docs : List ℕ) → AreGood (del_plan size count) 0 records → due_after (del_plan size count) 0 records ≡ finished docs → IsDelFile size count docs (bytes_of records)
file-was size count [] docs good end = absurd (due-finished end)
  where
    due-finished : del_plan size count ≡ finished docs → ⊥
    due-finished e = cc
file-was size count (r ∷ rs) docs good end =
    let h = heading-spelled size count r.it r.front good.0.0 good.0.1 in
    by_form h.is_sparse h.front_is (subst (λ (x : DelRecord). AreGood (after_header size count x) (0 + length r.front) rs) h.it good.1)
    (ap (λ (x : DelRecord). due_after (after_header size count x) (0 + length r.front) rs) (sym h.it) ∙ end) h.small
  where
    by_form : (b : Bool) → r.front ≡ heading_bytes b size count → AreGood (after_header size count (header b (pos size) (pos count))) (0 + length r.front) rs
        → due_after (after_header size count (header b (pos size) (pos count))) (0 + length r.front) rs ≡ finished docs → size < 2 ^ 31 → IsDelFile size count docs (r.front ++ bytes_of rs)
    by_form true is more last small = form-sparse size count (0 + length r.front) docs r.front rs small more last is
    by_form false is more last small = form-dense size count (0 + length r.front) docs r.front rs small more last is

pub del-only : (found docs : List ℕ) (size count : ℕ) → Reads (del_plan size count) found docs → IsDelFile size count docs found
del-only found docs size count h = subst (IsDelFile size count docs) (sym (h.front ∙ append-nil (bytes_of h.records))) (file-was size count h.records docs h.good h.none_due)
