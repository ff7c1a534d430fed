-- The columns of norms, as they stand in the bytes.
use Rattle.std.proofs.Common.{◌≡◌, ℕ, zero, suc, ◌+◌, ◌-◌, ◌*◌, ◌<◌, ◌≤◌, true, false, List, [], ◌∷◌, ◌++◌, length, take, drop, Some, None, Result, Ok, Err, refl, sym, ap, subst, ◌∙◌, append_assoc, arith, inl, inr}
use Rattle.std.specs.Str.{bytes_eq}
use Rattle.std.proofs.lemmas.Bool.{cases_Bool}
use Rattle.std.proofs.lemmas.List.{append-nil, drop-drop, length-drop, length-take}
use Rattle.std.proofs.lemmas.Slice.Eq.{bytes_eq-Decides}
use Rattle.lu_grammar.specs.Bytes.{IsBytes, Cursor, start_of, moved}
use Rattle.lu_grammar.specs.Parts.{bytes}
use Rattle.lu_grammar.specs.Reading.{◌>>=◌, read_part}
use Rattle.lu_grammar.specs.Records.{rule_of, record_at}
use Rattle.lu_grammar.specs.declared.bad.Bad.{Bad}
use Rattle.lu_grammar.specs.Plans.{done, one, each, times, read_plan, Broken}
use Rattle.lu_grammar.specs.Meaning.{Reads, FirstFault}
use Rattle.lu_grammar.proofs.Records.{at}
use Rattle.lu_grammar.proofs.Plans.{read_due, read_due_broken}
use Rattle.lu_grammar.proofs.Loops.{read_plan-and_then, each-none, one-read, times-fault}
use Rattle.lu_grammar.proofs.Files.{file-fault, file-left, file-read}
use Rattle.doc_marks.specs.Norms.{norm_header, bytes_shape, header_conditions, one_column, nrm_plan, separate_plan, column_of, AreColumns, columns_in}
use Rattle.lu_grammar.proofs.Codecs.{alone_read, alone_breaks, alone_unread}
use Rattle.doc_marks.proofs.Steps.{bytes-given, bytes-taken, block_was}

-- ---- the header

pub header-read : (c d : Cursor) (found : List ℕ) → read_part (bytes 4) c ≡ Ok (found, d) → bytes_eq found norm_header ≡ true → record_at (bytes_shape 4) header_conditions c ≡ Ok (norm_header, d)
header-read c d found e same =
    let is : found ≡ norm_header = (bytes_eq-Decides found norm_header).0 same in
    alone_read (bytes 4) (λ v. v) header_conditions c d found e (rw same refl) ∙ ap (λ (f : List ℕ). Ok (f, d)) is

pub header-other : (c d : Cursor) (found : List ℕ) → read_part (bytes 4) c ≡ Ok (found, d) → bytes_eq found norm_header ≡ false → record_at (bytes_shape 4) header_conditions c ≡ Err 85
header-other c d found e other = alone_breaks (bytes 4) (λ v. v) header_conditions c d found 85 e (rw other refl)

pub header-unread : (c : Cursor) (bad : Bad) (rule : ℕ) → read_part (bytes 4) c ≡ Err bad → rule ≡ rule_of bad → record_at (bytes_shape 4) header_conditions c ≡ Err rule
header-unread c bad rule e is = alone_unread (bytes 4) (λ v. v) header_conditions c bad rule e is

-- where it was read it stands there
pub header_was : (c d : Cursor) (found : List ℕ) → record_at (bytes_shape 4) header_conditions c ≡ Ok (found, d) → (take 4 c.rest ≡ norm_header) × (d ≡ moved 4 c) × (4 ≤ length c.rest)
header_was c d found e =
    let was = block_was 4 (λ v. v) header_conditions c found d e in
    elim (cases_Bool (bytes_eq found norm_header)) [
      | inl same ↦ (was.0 ∙ (bytes_eq-Decides found norm_header).0 same, was.1, was.2)
      | inr other ↦ absurd (some_is_none (rw other at was.3))
    ]
  where
    some_is_none : {n : ℕ} → Some n ≡ None → ⊥
    some_is_none h = cc

-- ---- the columns

pub columns-given : (n documents : ℕ) (front : List (List ℕ)) (c : Cursor) → n * documents ≤ length c.rest
    → read_plan (times (one_column documents) n front) c ≡ Ok (front ++ columns_in n documents c.rest, moved (n * documents) c)
unfolding each columns_in
columns-given zero documents front c le =
    each-none (one (one_column documents)) front c
    ∙ ap (λ (f : List (List ℕ)). Ok (f, c)) (sym (append-nil front))
    ∙ ap (λ (n : ℕ). Ok (front ++ [], at n c.rest)) (let e : c.place ≡ c.place + zero * documents = omega arith in e)
    ∙ ap (λ (n : ℕ). Ok (front ++ [], at (c.place + zero * documents) (drop n c.rest))) (let e : 0 ≡ zero * documents = omega arith in e)
columns-given (suc n) documents front c le =
    let found = take documents c.rest in
    let d = moved documents c in
    let fits : documents ≤ length c.rest = omega arith in
    let here = alone_read (bytes documents) (λ v. v) (λ r. []) c d found (bytes-given documents c fits) refl in
    read_plan-and_then (one (one_column documents) front) (times (one_column documents) n) c
    ∙ ap (λ (r : Result (List (List ℕ) × Cursor) Broken). r >>= λ x. read_plan (times (one_column documents) n x.0) x.1) (one-read (one_column documents) front c found d here)
    ∙ columns-given n documents (front ++ found ∷ []) d (omega (arith, length-drop documents c.rest))
    ∙ ap (λ (f : List (List ℕ)). Ok (f, moved (n * documents) d)) (append_assoc front (found ∷ []) (columns_in n documents (drop documents c.rest)))
    ∙ ap (λ (t : List ℕ). Ok (front ++ columns_in (suc n) documents c.rest, at (c.place + documents + n * documents) t)) (drop-drop (n * documents) documents c.rest)
    ∙ ap (λ (m : ℕ). Ok (front ++ columns_in (suc n) documents c.rest, at m (drop (documents + n * documents) c.rest))) (let e : c.place + documents + n * documents ≡ c.place + suc n * documents = omega arith in e)
    ∙ ap (λ (m : ℕ). Ok (front ++ columns_in (suc n) documents c.rest, at (c.place + suc n * documents) (drop m c.rest))) (let e : documents + n * documents ≡ suc n * documents = omega arith in e)

-- one column more
pub columns-step : (k documents : ℕ) (c d e : Cursor) → k * documents ≤ length c.rest → d ≡ moved (k * documents) c → (found : List ℕ) → read_part (bytes documents) d ≡ Ok (found, e)
    → ((k + 1) * documents ≤ length c.rest) × (e ≡ moved ((k + 1) * documents) c)
columns-step k documents c d e le is found read =
    let taken = bytes-taken documents d found e read in
    let before = k * documents in
    let left : length d.rest ≡ length c.rest - before = ap (λ (x : Cursor). length x.rest) is ∙ length-drop before c.rest in
    let more : (k + 1) * documents ≡ before + documents = omega arith in (
      omega (arith, left, taken.2, more),
      taken.1 ∙ ap (moved documents) is ∙ ap (λ (t : List ℕ). at (c.place + before + documents) t) (drop-drop documents before c.rest)
          ∙ ap (λ (m : ℕ). at m (drop (before + documents) c.rest)) (let e : c.place + before + documents ≡ c.place + (k + 1) * documents = omega arith in e)
          ∙ ap (λ (m : ℕ). at (c.place + (k + 1) * documents) (drop m c.rest)) (sym more),
    )

-- a column that ends too soon is the fault of all
pub columns-fault : (n k documents : ℕ) (c d : Cursor) (bad : Bad) (rule : ℕ) → k < n → k * documents ≤ length c.rest → d ≡ moved (k * documents) c → read_part (bytes documents) d ≡ Err bad → rule ≡ rule_of bad
    → read_plan (times (one_column documents) n []) c ≡ Err (record { offset = d.place; rule = rule })
columns-fault n k documents c d bad rule lt le is e rule-is =
    times-fault (one_column documents) k n [] c (columns_in k documents c.rest) d rule lt
    (columns-given k documents [] c le ∙ ap (λ (x : Cursor). Ok (columns_in k documents c.rest, x)) (sym is))
    (alone_unread (bytes documents) (λ v. v) (λ r. []) d bad rule e rule-is)

-- so many columns, each of so many documents
pub column_of-columns_in : (n documents : ℕ) (found : List ℕ) (k : ℕ) → k < n → column_of (columns_in n documents found) k ≡ take documents (drop (k * documents) found)
unfolding columns_in
column_of-columns_in zero documents found k lt = absurd (omega arith)
column_of-columns_in (suc n) documents found zero lt = ap (λ (m : ℕ). take documents (drop m found)) (let e : 0 ≡ zero * documents = omega arith in e)
column_of-columns_in (suc n) documents found (suc k) lt =
    column_of-columns_in n documents (drop documents found) k (omega arith)
    ∙ ap (take documents) (drop-drop (k * documents) documents found ∙ ap (λ (m : ℕ). drop m found) (let e : documents + k * documents ≡ suc k * documents = omega arith in e))

pub length-columns_in : (n documents : ℕ) (found : List ℕ) → length (columns_in n documents found) ≡ n
unfolding columns_in
length-columns_in zero documents found = refl
length-columns_in (suc n) documents found = ap suc (length-columns_in n documents (drop documents found))

-- the columns before one end where it begins
pub column-fits : (n documents k : ℕ) → k < n → k * documents + documents ≤ n * documents
column-fits zero documents k lt = absurd (omega arith)
column-fits (suc n) documents zero lt = omega arith
column-fits (suc n) documents (suc k) lt = let h = column-fits n documents k (omega arith) in omega (arith, h)

pub AreColumns-columns_in : (n documents : ℕ) (found : List ℕ) → n * documents ≤ length found → AreColumns n documents (columns_in n documents found)
AreColumns-columns_in n documents found le = record {
  number = length-columns_in n documents found;
  each = λ k lt.
      let within = column-fits n documents k lt in
      ap length (column_of-columns_in n documents found k lt) ∙ (let e : length (take documents (drop (k * documents) found)) ≡ documents = omega (arith, length-take documents (drop (k * documents) found), length-drop (k * documents) found, within) in e);
}

-- ---- the whole file

module _ (count documents : ℕ) (found : List ℕ) (fits : IsBytes found) where
  -- a header that breaks a rule
  pub nrm-header_fault : (rule : ℕ) → record_at (bytes_shape 4) header_conditions (start_of found) ≡ Err rule → FirstFault (nrm_plan count documents) found 0 rule
  nrm-header_fault rule e =
      file-fault (nrm_plan count documents) found 0 rule fits
      (read_due_broken (bytes_shape 4) (λ place r. header_conditions r) (λ place r. times (one_column documents) count []) (start_of found) rule e)

  module _ (c : Cursor) (header_is : record_at (bytes_shape 4) header_conditions (start_of found) ≡ Ok (norm_header, c)) where
    after_header : read_plan (nrm_plan count documents) (start_of found) ≡ read_plan (times (one_column documents) count []) c
    after_header = read_due (bytes_shape 4) (λ place r. header_conditions r) (λ place r. times (one_column documents) count []) (start_of found) norm_header c header_is

    pub nrm-fault : (offset rule : ℕ) → read_plan (times (one_column documents) count []) c ≡ Err (record { offset = offset; rule = rule }) → FirstFault (nrm_plan count documents) found offset rule
    nrm-fault offset rule e = file-fault (nrm_plan count documents) found offset rule fits (after_header ∙ e)

    pub nrm-left : (columns : List (List ℕ)) (d : Cursor) → read_plan (times (one_column documents) count []) c ≡ Ok (columns, d) → 0 < length d.rest → FirstFault (nrm_plan count documents) found d.place 6
    nrm-left columns d e some = file-left (nrm_plan count documents) found columns d fits (after_header ∙ e) some

    pub nrm-read : (columns : List (List ℕ)) (d : Cursor) → read_plan (times (one_column documents) count []) c ≡ Ok (columns, d) → length d.rest ≡ 0 → Reads (nrm_plan count documents) found columns
    nrm-read columns d e none = file-read (nrm_plan count documents) found columns d fits (after_header ∙ e) none

-- ---- a file of one field

module _ (documents : ℕ) (found : List ℕ) (fits : IsBytes found) where
  pub separate-unread : (bad : Bad) (rule : ℕ) → read_part (bytes documents) (start_of found) ≡ Err bad → rule ≡ rule_of bad → FirstFault (separate_plan documents) found 0 rule
  separate-unread bad rule e is =
      file-fault (separate_plan documents) found 0 rule fits
      (read_due_broken (bytes_shape documents) (λ place r. []) (λ place r. done r) (start_of found) rule (alone_unread (bytes documents) (λ v. v) (λ r. []) (start_of found) bad rule e is))

  module _ (norms : List ℕ) (d : Cursor) (is : read_part (bytes documents) (start_of found) ≡ Ok (norms, d)) where
    separate-is : read_plan (separate_plan documents) (start_of found) ≡ Ok (norms, d)
    unfolding read_plan
    separate-is = read_due (bytes_shape documents) (λ place r. []) (λ place r. done r) (start_of found) norms d (alone_read (bytes documents) (λ v. v) (λ r. []) (start_of found) d norms is refl)

    pub separate-left : 0 < length d.rest → FirstFault (separate_plan documents) found d.place 6
    separate-left some = file-left (separate_plan documents) found norms d fits separate-is some

    pub separate-read : length d.rest ≡ 0 → Reads (separate_plan documents) found norms
    separate-read none = file-read (separate_plan documents) found norms d fits separate-is none

-- where so many were passed, they are all
pub columns-passed : (n k documents : ℕ) (c d : Cursor) → k ≡ n → k * documents ≤ length c.rest → d ≡ moved (k * documents) c → read_plan (times (one_column documents) n []) c ≡ Ok (columns_in n documents c.rest, d)
columns-passed n k documents c d all le is =
    subst (λ (m : ℕ). read_plan (times (one_column documents) m []) c ≡ Ok (columns_in m documents c.rest, d)) all
    (columns-given k documents [] c le ∙ ap (λ (x : Cursor). Ok (columns_in k documents c.rest, x)) (sym is))

-- what stands behind the header is the columns, where nothing is left after them
pub nrm-columns : (n documents : ℕ) (found body : List ℕ) (c d : Cursor) → record_at (bytes_shape 4) header_conditions (start_of found) ≡ Ok (norm_header, c) → body ≡ drop 4 found
    → (n * documents ≤ length c.rest) × (d.rest ≡ drop (n * documents) c.rest) → length d.rest ≡ 0 → (length body ≡ n * documents) × (body ≡ c.rest) × AreColumns n documents (columns_in n documents body)
nrm-columns n documents found body c d header is passed none =
    let was = header_was (start_of found) c norm_header header in
    let same : body ≡ c.rest = is ∙ sym (ap (λ (x : Cursor). x.rest) was.1) in
    let long : length body ≡ length c.rest = ap length same in
    let left : length d.rest ≡ length c.rest - n * documents = ap length passed.1 ∙ length-drop (n * documents) c.rest in
    (omega (arith, long, left, passed.0), same, AreColumns-columns_in n documents body (omega (arith, long, passed.0)))
