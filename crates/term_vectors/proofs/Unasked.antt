-- A `.tvd` that was read is read so too where nothing is asked of the fields.
use Rattle.std.proofs.Common.{◌≡◌, ℕ, zero, suc, ◌+◌, Bool, true, false, not, ◌&&◌, ltb, leb, List, [], ◌∷◌, length, None, Result, Ok, refl, sym, ap, ◌∙◌, arith}
use Rattle.std.proofs.lemmas.Bool.{le-ltb}
use Rattle.lu_types.specs.Tables.{TableField}
use Rattle.lu_types.specs.declared.stored.Window.{Window}
use Rattle.lu_grammar.specs.Bytes.{Cursor, start_of}
use Rattle.lu_grammar.specs.Reading.{◌>>=◌, value_or}
use Rattle.lu_grammar.specs.Records.{first_broken}
use Rattle.lu_grammar.specs.Plans.{Broken, read_plan, ended, read_file}
use Rattle.lu_grammar.proofs.Codecs.{ok_pair, ok_of, then_ok, due_was, record_at-was, record_at-read, read_due, read_plan-and_then, nothing_left, file_was}
use Rattle.term_vectors.specs.declared.layout.DocumentPlaces.{DocumentPlaces}
use Rattle.term_vectors.specs.Format.{format_shape, headed}
use Rattle.term_vectors.specs.Fields.{VectorPlace, format, format_conditions, stated, count_shape, count_conditions, has_vectors, is_among, number_shape, number_conditions, numbers_plan, document_plan, is_within, no_window, documents_plan, tvd_plan}
use Rattle.term_vectors.specs.Stores.{slots_in}
use Rattle.term_vectors.proofs.Steps.{headed_was, headed-done}
use Rattle.term_vectors.proofs.FieldLemmas.{reads_numbers, further_of, rest_of_document}

-- a number that is good where its field is asked of is good where it is not
good_unasked : (asked : Bool) (fields : List TableField) (before : List ℕ) (n : ℕ) → first_broken (number_conditions asked fields before n) ≡ None → first_broken (number_conditions false [] before n) ≡ None
good_unasked asked fields before n e = go (asked && not (has_vectors fields n)) e
  where
    go : (b : Bool) → first_broken (record { rule = 100; broken = b } ∷ record { rule = 101; broken = is_among n before } ∷ []) ≡ None → first_broken (record { rule = 101; broken = is_among n before } ∷ []) ≡ None
    go true h = cc
    go false h = h

pub numbers-unasked : (asked : Bool) (fields : List TableField) (n : ℕ) (before : List ℕ) (c : Cursor) (all : List ℕ) (d : Cursor) → reads_numbers asked fields n before c ≡ Ok (all, d) → reads_numbers false [] n before c ≡ Ok (all, d)
unfolding numbers_plan read_plan
numbers-unasked asked fields zero before c all d e = e
numbers-unasked asked fields (suc n) before c all d e =
    let head = due_was number_shape (λ _ r. number_conditions asked fields before (stated r)) (λ _ r. headed (stated r) (numbers_plan asked fields n (stated r ∷ before))) c (all, d) e in
    let judged = record_at-was number_shape (λ r. number_conditions asked fields before (stated r)) c head.0.0 head.0.1 head.1 in
    let rest = headed_was (stated head.0.0) (numbers_plan asked fields n (stated head.0.0 ∷ before)) head.0.1 all d head.2 in
    let later = numbers-unasked asked fields n (stated head.0.0 ∷ before) head.0.1 rest.0 d rest.1 in
    read_due number_shape (λ _ r. number_conditions false [] before (stated r)) (λ _ r. headed (stated r) (numbers_plan false [] n (stated r ∷ before))) c head.0.0 head.0.1
    (record_at-read number_shape (λ r. number_conditions false [] before (stated r)) c head.0.0 head.0.1 judged.0 (good_unasked asked fields before (stated head.0.0) judged.1))
    ∙ headed-done (stated head.0.0) (numbers_plan false [] n (stated head.0.0 ∷ before)) head.0.1 rest.0 d later ∙ ap (λ (ns : List ℕ). ok_pair ns d) (sym rest.2)

document-unasked : (asked : Bool) (fields : List TableField) (at : DocumentPlaces) (c : Cursor) (v : List VectorPlace) (d : Cursor) → read_plan (document_plan asked fields at) c ≡ ok_pair v d → read_plan (document_plan false [] at) c ≡ ok_pair v d
document-unasked asked fields at c v d e =
    let head = due_was count_shape (λ place _. count_conditions at.tvd place) (λ _ r. rest_of_document asked fields at (stated r)) c (v, d) e in
    let n = stated head.0.0 in
    let tail = further_of at n in
    let first = then_ok (reads_numbers asked fields n [] head.0.1) (λ x. read_plan (tail x.0) x.1) (v, d) (sym (read_plan-and_then (numbers_plan asked fields n []) tail head.0.1) ∙ head.2) in
    read_due count_shape (λ place _. count_conditions at.tvd place) (λ _ r. rest_of_document false [] at (stated r)) c head.0.0 head.0.1 head.1
    ∙ read_plan-and_then (numbers_plan false [] n []) tail head.0.1
    ∙ ap (λ (r : Result (List ℕ × Cursor) Broken). r >>= λ x. read_plan (tail x.0) x.1) (numbers-unasked asked fields n [] head.0.1 first.0.0 first.0.1 first.1) ∙ first.2

-- the window of no documents has none
pub outside : (i : ℕ) → is_within no_window i ≡ false
outside i = let none : ltb i (0 + 0) ≡ false = le-ltb i 0 (omega arith) in go (leb 0 i) (ltb i (0 + 0)) none
  where
    go : (a b : Bool) → b ≡ false → (a && b) ≡ false
    go true b e = e
    go false b e = refl

documents-unasked : (fields : List TableField) (window : Window) (i : ℕ) (places : List DocumentPlaces) (c : Cursor) (all : List (List VectorPlace)) (d : Cursor) → read_plan (documents_plan fields window i places) c ≡ ok_pair all d
    → read_plan (documents_plan [] no_window i places) c ≡ ok_pair all d
unfolding documents_plan read_plan
documents-unasked fields window i [] c all d e = e
documents-unasked fields window i (at ∷ places) c all d e =
    let rest = λ (v : List VectorPlace). headed v (documents_plan fields window (suc i) places) in
    let rest_unasked = λ (v : List VectorPlace). headed v (documents_plan [] no_window (suc i) places) in
    let first = then_ok (read_plan (document_plan (is_within window i) fields at) c) (λ x. read_plan (rest x.0) x.1) (all, d) (sym (read_plan-and_then (document_plan (is_within window i) fields at) rest c) ∙ e) in
    let more = headed_was first.0.0 (documents_plan fields window (suc i) places) first.0.1 all d first.2 in
    let there = ap (λ (b : Bool). read_plan (document_plan b [] at) c) (outside i) ∙ document-unasked (is_within window i) fields at c first.0.0 first.0.1 first.1 in
    read_plan-and_then (document_plan (is_within no_window i) [] at) rest_unasked c
    ∙ ap (λ (r : Result (List VectorPlace × Cursor) Broken). r >>= λ x. read_plan (rest_unasked x.0) x.1) there
    ∙ headed-done first.0.0 (documents_plan [] no_window (suc i) places) first.0.1 more.0 d (documents-unasked fields window (suc i) places first.0.1 more.0 d more.1) ∙ ap (λ (vs : List (List VectorPlace)). ok_pair vs d) (sym more.2)

-- what a `.tvd` that was read stands for
pub slots-read : (fields : List TableField) (window : Window) (places : List DocumentPlaces) (tvd : List ℕ) (all : List (List VectorPlace)) (d : Cursor) → read_plan (tvd_plan fields window places) (start_of tvd) ≡ ok_pair all d → length d.rest ≡ 0
    → slots_in places tvd ≡ all
slots-read fields window places tvd all d e none =
    let head = due_was (format_shape format) (λ _ r. format_conditions r) (λ _ _. documents_plan fields window 0 places) (start_of tvd) (all, d) e in
    let again = read_due (format_shape format) (λ _ r. format_conditions r) (λ _ _. documents_plan [] no_window 0 places) (start_of tvd) head.0.0 head.0.1 head.1
    ∙ documents-unasked fields window 0 places head.0.1 all d head.2 in
    ap (λ (r : Result (List (List VectorPlace) × Cursor) Broken). value_or [] (r >>= ended)) again ∙ ap (value_or []) (nothing_left all d none)

-- the file is read so too
pub slots_file : (fields : List TableField) (window : Window) (places : List DocumentPlaces) (tvd : List ℕ) (all : List (List VectorPlace)) → read_file (tvd_plan fields window places) tvd ≡ ok_of all → read_file (tvd_plan [] no_window places) tvd ≡ Ok (slots_in places tvd)
slots_file fields window places tvd all e =
    let file = file_was (tvd_plan fields window places) tvd all e in
    let head = due_was (format_shape format) (λ _ r. format_conditions r) (λ _ _. documents_plan fields window 0 places) (start_of tvd) (all, file.0) file.1 in
    let again = read_due (format_shape format) (λ _ r. format_conditions r) (λ _ _. documents_plan [] no_window 0 places) (start_of tvd) head.0.0 head.0.1 head.1
    ∙ documents-unasked fields window 0 places head.0.1 all file.0 head.2 in
    ap (λ (r : Result (List (List VectorPlace) × Cursor) Broken). r >>= ended) again ∙ nothing_left all file.0 file.2
    ∙ ap (λ (x : List (List VectorPlace)). ok_of x) (sym (slots-read fields window places tvd all file.0 file.1 file.2))
