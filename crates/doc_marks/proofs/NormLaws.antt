-- Written norms are read, and nothing else is read so.
use Rattle.std.proofs.Common.{◌≡◌, ℕ, zero, suc, ◌*◌, ◌<◌, ◌≤◌, List, [], ◌∷◌, ◌++◌, length, take, drop, flat_map, Ok, refl, sym, ap, subst, ◌∙◌, arith}
use Rattle.std.proofs.lemmas.List.{append-nil, length-append, take_at, drop_at, nil_from_length, take-append-drop, length-drop}
use Rattle.lu_grammar.specs.Bytes.{IsBytes, Cursor, start_of, moved}
use Rattle.lu_grammar.specs.Records.{record_at}
use Rattle.lu_grammar.specs.Plans.{done, one, each, times, read_plan}
use Rattle.lu_grammar.specs.Meaning.{Reads}
use Rattle.lu_grammar.proofs.Records.{ok_pair, same_pair}
use Rattle.lu_grammar.proofs.Loops.{read_plan-and_then, then_ok, one-was}
use Rattle.lu_grammar.proofs.Files.{read_file-Reads}
use Rattle.doc_marks.specs.Norms.{norm_header, bytes_shape, header_conditions, one_column, nrm_plan, separate_plan, column_of, AreColumns, columns_in, nrm_spelling}
use Rattle.lu_grammar.proofs.Codecs.{due_was, file_was}
use Rattle.doc_marks.proofs.Steps.{bytes-given, block_was}
use Rattle.doc_marks.proofs.NormLemmas.{header-read, header_was, columns-given, AreColumns-columns_in, nrm-read, separate-read}

-- the columns, one after another
joined : List (List ℕ) → List ℕ
joined columns = flat_map (λ column. column) columns

-- ---- written is read

length-joined : (documents : ℕ) (columns : List (List ℕ)) → ((k : ℕ) → k < length columns → length (column_of columns k) ≡ documents) → length (joined columns) ≡ length columns * documents
unfolding joined
length-joined documents [] each = omega arith
length-joined documents (column ∷ columns) each =
    let more = length-joined documents columns (λ k lt. each (suc k) (omega arith)) in
    omega (arith, length-append column (joined columns), more, each 0 (omega arith))

columns_in-joined : (documents : ℕ) (columns : List (List ℕ)) → ((k : ℕ) → k < length columns → length (column_of columns k) ≡ documents) → columns_in (length columns) documents (joined columns) ≡ columns
unfolding joined columns_in
columns_in-joined documents [] each = refl
columns_in-joined documents (column ∷ columns) each =
    let first : length column ≡ documents = each 0 (omega arith) in
    ap (λ (f : List ℕ). f ∷ columns_in (length columns) documents (drop documents (column ++ joined columns))) (take_at column (joined columns) documents first)
    ∙ ap (λ (t : List ℕ). column ∷ columns_in (length columns) documents t) (drop_at column (joined columns) documents first)
    ∙ ap (λ (t : List (List ℕ)). column ∷ t) (columns_in-joined documents columns (λ k lt. each (suc k) (omega arith)))

pub nrm-reads : (columns : List (List ℕ)) (count documents : ℕ) → AreColumns count documents columns → IsBytes (nrm_spelling columns) → Reads (nrm_plan count documents) (nrm_spelling columns) columns
unfolding joined
nrm-reads columns count documents are fits =
    let each : (k : ℕ) → k < length columns → length (column_of columns k) ≡ documents = λ k lt. are.each k (omega (arith, are.number)) in
    let rest = joined columns in
    let c = moved 4 (start_of (nrm_spelling columns)) in
    let long : length rest ≡ count * documents = length-joined documents columns each ∙ ap (λ (n : ℕ). n * documents) are.number in
    let header : record_at (bytes_shape 4) header_conditions (start_of (nrm_spelling columns)) ≡ Ok (norm_header, c) = header-read (start_of (nrm_spelling columns)) c norm_header (bytes-given 4 (start_of (nrm_spelling columns)) (omega arith)) refl in
    let given = columns-given count documents [] c (omega (arith, long)) in
    let is : columns_in count documents rest ≡ columns = ap (λ (n : ℕ). columns_in n documents rest) (sym are.number) ∙ columns_in-joined documents columns each in
    nrm-read count documents (nrm_spelling columns) fits c header columns (moved (count * documents) c) (given ∙ ap (λ (v : List (List ℕ)). Ok (v, moved (count * documents) c)) is)
    (let none : length (drop (count * documents) rest) ≡ 0 = omega (arith, length-drop (count * documents) rest, long) in none)

-- ---- read is written

joined-columns_in : (n documents : ℕ) (found : List ℕ) → length found ≡ n * documents → joined (columns_in n documents found) ≡ found
unfolding joined columns_in
joined-columns_in zero documents found long = sym (nil_from_length found (let e : length found ≡ 0 = omega (arith, long) in e))
joined-columns_in (suc n) documents found long =
    ap (λ (t : List ℕ). take documents found ++ t) (joined-columns_in n documents (drop documents found) (omega (arith, length-drop documents found, long))) ∙ take-append-drop documents found

columns_were : (n documents : ℕ) (front columns : List (List ℕ)) (c d : Cursor) → read_plan (times (one_column documents) n front) c ≡ ok_pair columns d → n * documents ≤ length c.rest
unfolding each
columns_were zero documents front columns c d e = omega arith
columns_were (suc n) documents front columns c d e =
    let first = then_ok (read_plan (one (one_column documents) front) c) (λ x. read_plan (times (one_column documents) n x.0) x.1) (columns, d) (sym (read_plan-and_then (one (one_column documents) front) (times (one_column documents) n) c) ∙ e) in
    let was = one-was (one_column documents) front c first.0 first.1 in
    let block = block_was documents (λ v. v) (λ r. []) c was.0 first.0.1 was.1 in
    let more = columns_were n documents first.0.0 columns first.0.1 d first.2 in
    let rest : length first.0.1.rest ≡ length (drop documents c.rest) = ap (λ (x : Cursor). length x.rest) block.1 in
    omega (arith, more, rest, length-drop documents c.rest, block.2)

pub nrm-only : (found : List ℕ) (columns : List (List ℕ)) (count documents : ℕ) → Reads (nrm_plan count documents) found columns → (found ≡ nrm_spelling columns) × AreColumns count documents columns
unfolding joined
nrm-only found columns count documents h =
    let file = file_was (nrm_plan count documents) found columns (read_file-Reads (nrm_plan count documents) found columns h) in
    let first = due_was (bytes_shape 4) (λ place r. header_conditions r) (λ place r. times (one_column documents) count []) (start_of found) (columns, file.0) file.1 in
    let header = header_was (start_of found) first.0.1 first.0.0 first.1 in
    let rest = drop 4 found in
    let c = moved 4 (start_of found) in
    let read : read_plan (times (one_column documents) count []) c ≡ ok_pair columns file.0 = ap (λ (x : Cursor). read_plan (times (one_column documents) count []) x) (sym header.1) ∙ first.2 in
    let le = columns_were count documents [] columns c file.0 read in
    let same = same_pair columns (columns_in count documents rest) file.0 (moved (count * documents) c) (sym read ∙ columns-given count documents [] c le) in
    let none : length (drop (count * documents) rest) ≡ 0 = ap (λ (x : Cursor). length x.rest) (sym same.1) ∙ file.2 in
    let long : length rest ≡ count * documents = omega (arith, none, length-drop (count * documents) rest, le) in
    let whole : found ≡ norm_header ++ rest = sym (take-append-drop 4 found) ∙ ap (λ (t : List ℕ). t ++ rest) header.0 in (
      whole ∙ ap (λ (t : List ℕ). norm_header ++ t) (sym (joined-columns_in count documents rest long) ∙ ap joined (sym same.0)),
      subst (AreColumns count documents) (sym same.0) (AreColumns-columns_in count documents rest le),
    )

-- ---- the norms of one field

pub separate-reads : (norms : List ℕ) → IsBytes norms → Reads (separate_plan (length norms)) norms norms
separate-reads norms fits =
    let n = length norms in
    separate-read n norms fits norms (moved n (start_of norms)) (bytes-given n (start_of norms) (omega arith) ∙ ap (λ (f : List ℕ). Ok (f, moved n (start_of norms))) (sym (append-nil (take n norms)) ∙ ap (λ (t : List ℕ). take n norms ++ t) (sym (nil_from_length (drop n norms) (omega (arith, length-drop n norms)))) ∙ take-append-drop n norms))
    (omega (arith, length-drop n norms))

pub separate-only : (found norms : List ℕ) (documents : ℕ) → Reads (separate_plan documents) found norms → (found ≡ norms) × (length norms ≡ documents)
unfolding read_plan
separate-only found norms documents h =
    let file = file_was (separate_plan documents) found norms (read_file-Reads (separate_plan documents) found norms h) in
    let first = due_was (bytes_shape documents) (λ place r. []) (λ place r. done r) (start_of found) (norms, file.0) file.1 in
    let block = block_was documents (λ v. v) (λ r. []) (start_of found) first.0.0 first.0.1 first.1 in
    let same = same_pair first.0.0 norms first.0.1 file.0 first.2 in
    let none : length (drop documents found) ≡ 0 = ap (λ (x : Cursor). length x.rest) (sym block.1 ∙ same.1) ∙ file.2 in
    let all : found ≡ take documents found = sym (take-append-drop documents found) ∙ ap (λ (t : List ℕ). take documents found ++ t) (nil_from_length (drop documents found) none) ∙ append-nil (take documents found) in
    let is : found ≡ norms = all ∙ block.0 ∙ same.0 in
    (is, ap length (sym is) ∙ (let e : length found ≡ documents = omega (arith, none, length-drop documents found, block.2) in e))
