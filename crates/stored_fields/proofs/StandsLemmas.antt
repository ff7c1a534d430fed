-- Where the documents of a `.fdt` without a fault stand.
use Rattle.std.proofs.Common.{◌≡◌, ℕ, zero, suc, ◌+◌, ◌<◌, ◌≤◌, Bool, true, false, not, List, [], ◌∷◌, ◌++◌, length, drop, get_or, None, Ok, refl, sym, ap, subst, ◌∙◌, arith, append_assoc, ℤ, pos}
use Rattle.std.specs.Ordering.{int_eq}
use Rattle.std.proofs.lemmas.List.{append-nil, drop-drop, drop_at, length-append, length-drop}
use Rattle.std.proofs.lemmas.Bool.Decides.{Decides-int_eq}
use Rattle.lu_types.specs.declared.stored.Window.{Window}
use Rattle.lu_grammar.specs.Bytes.{IsBytes, Cursor, start_of, moved}
use Rattle.lu_grammar.specs.Parts.{num, int32}
use Rattle.lu_grammar.specs.Reading.{read_part}
use Rattle.lu_grammar.specs.Records.{first_broken}
use Rattle.lu_grammar.specs.Plans.{Plan, done, and_then, times, each, read_plan, read_file}
use Rattle.lu_grammar.specs.Meaning.{bytes_of}
use Rattle.lu_grammar.proofs.Parts.{IsBytes-drop}
use Rattle.lu_grammar.proofs.Codecs.{ok_pair, same_pair, ok_of, reads-read_plan, read_plan-and_then, then_ok, record_at-was, alone_was, due_was, file_was, int32_read}
use Rattle.stored_fields.specs.Values.{StoredDocument}
use Rattle.stored_fields.specs.Documents.{format, count, count_of, header_shape, format_conditions, count_shape, start_conditions, values_kind, is_within, document_at, next_document, fdt_plan}
use Rattle.stored_fields.specs.Remaining.{values_at}
use Rattle.stored_fields.proofs.ValueLemmas.{values_read}

-- the cursor stands in the file
pub record IsOn (bytes : List ℕ) (c : Cursor) : Type 0 where
  pub rest : c.rest ≡ drop c.place bytes
  pub within : c.place ≤ length bytes

-- what is read in the file ends in the file
pub on_behind : {V R : Type 0} (plan : Plan V R) (bytes : List ℕ) (c : Cursor) (v : V) (d : Cursor) → IsBytes bytes → IsOn bytes c → read_plan plan c ≡ Ok (v, d) → IsOn bytes d
on_behind plan bytes c v d fits on e =
    let fits_rest : IsBytes c.rest = subst IsBytes (sym on.rest) (IsBytes-drop c.place bytes fits) in
    let h = reads-read_plan plan c v d fits_rest e in
    let front = bytes_of h.records in
    record {
      rest = sym (drop_at front d.rest (length front) refl) ∙ ap (drop (length front)) (sym h.front ∙ on.rest) ∙ drop-drop (length front) c.place bytes ∙ ap (λ (n : ℕ). drop n bytes) (sym h.place);
      within = omega (arith, on.within, h.place, ap length h.front, ap length on.rest, length-append front d.rest, length-drop c.place bytes);
    }

-- a document with these values stands at the place
pub record Stands (fdt : List ℕ) (wanted : ℤ) (values : StoredDocument) : Type 0 where
  pub here : Cursor
  pub on : IsOn fdt here
  pub place : pos here.place ≡ wanted
  pub number : ℕ
  pub from : Cursor
  pub counted : read_part num here ≡ ok_pair number from
  pub values_there : values_at number from ≡ Ok values

-- the place was the one that was wanted
pub not_elsewhere : (place : ℕ) (wanted : ℤ) → first_broken (start_conditions wanted place) ≡ None → pos place ≡ wanted
not_elsewhere place wanted e = go (int_eq (pos place) wanted) refl e
  where
    go : (b : Bool) → int_eq (pos place) wanted ≡ b → first_broken (record { rule = 44; broken = not b } ∷ []) ≡ None → pos place ≡ wanted
    go true is h = (Decides-int_eq (pos place) wanted).0 is
    go false is h = cc

-- a document that was read stands there
record Was (asked : Bool) (fields : ℕ) (wanted : ℤ) (documents : List StoredDocument) (c : Cursor) (all : List StoredDocument) : Type 0 where
  values : StoredDocument
  all_is : all ≡ documents ++ values ∷ []
  place : pos c.place ≡ wanted
  number : ℕ
  from : Cursor
  counted : read_part num c ≡ ok_pair number from
  values_there : values_at number from ≡ Ok values

document_was : (asked : Bool) (fields : ℕ) (wanted : ℤ) (documents : List StoredDocument) (c : Cursor) (x : List StoredDocument × Cursor) → read_plan (document_at asked fields wanted documents) c ≡ ok_of x → Was asked fields wanted documents c x.0
unfolding read_plan
document_was asked fields wanted documents c x e =
    let kind = values_kind asked fields in
    let head = due_was count_shape (λ place _. start_conditions wanted place) (λ _ r. and_then (times kind (count_of r) []) (λ values. done (documents ++ values ∷ []))) c x e in
    let judged = record_at-was count_shape (λ _. start_conditions wanted c.place) c head.0.0 head.0.1 head.1 in
    let part = alone_was num (λ n. count n) c head.0.0 head.0.1 judged.0 in
    let many : count_of head.0.0 ≡ part.0 = sym (ap count_of part.2) in
    let body = then_ok (read_plan (times kind (count_of head.0.0) []) head.0.1) (λ y. ok_pair (documents ++ y.0 ∷ []) y.1) x (sym (read_plan-and_then (times kind (count_of head.0.0) []) (λ values. done (documents ++ values ∷ [])) head.0.1) ∙ head.2) in
    let same = same_pair (documents ++ body.0.0 ∷ []) x.0 body.0.1 x.1 body.2 in
    let values = values_read asked fields (count_of head.0.0) [] head.0.1 body.0.1 body.0.0 body.1 in
    record {
      values = body.0.0;
      all_is = sym same.0;
      place = not_elsewhere c.place wanted judged.1;
      number = part.0;
      from = head.0.1;
      counted = part.1;
      values_there = ap (λ (n : ℕ). values_at n head.0.1) (sym many) ∙ values.2 ∙ ap (λ (vs : StoredDocument). ok_of vs) (sym values.1);
    }

-- the documents that were read, after those in front, stand at their places
record Stood (fdt : List ℕ) (places : List ℤ) (number : ℕ) (front documents : List StoredDocument) : Type 0 where
  more : List StoredDocument
  all : documents ≡ front ++ more
  many : length more ≡ number
  at : (i : ℕ) → i < number → Stands fdt (get_or places (length front + i) (pos 0)) (get_or more i [])

stood : (window : Window) (fields : ℕ) (places : List ℤ) (fdt : List ℕ) → IsBytes fdt → (number : ℕ) (front : List StoredDocument) (c d : Cursor) (documents : List StoredDocument) → IsOn fdt c
    → read_plan (each (next_document window fields places) number front) c ≡ ok_pair documents d → Stood fdt places number front documents
unfolding each read_plan
stood window fields places fdt fits zero front c d documents on e =
    let p = same_pair front documents c d e in
    record { more = []; all = sym p.0 ∙ sym (append-nil front); many = refl; at = λ i lt. absurd (omega arith) }
stood window fields places fdt fits (suc n) front c d documents on e =
    let plan = next_document window fields places in
    let first = then_ok (read_plan (plan front) c) (λ x. read_plan (each plan n x.0) x.1) (documents, d) (sym (read_plan-and_then (plan front) (each plan n) c) ∙ e) in
    let was = document_was (is_within window (length front)) fields (get_or places (length front) (pos 0)) front c first.0 first.1 in
    let behind = on_behind (plan front) fdt c first.0.0 first.0.1 fits on first.1 in
    let rest = stood window fields places fdt fits n first.0.0 first.0.1 d documents behind first.2 in
    let long : length first.0.0 ≡ length front + 1 = omega (arith, ap length was.all_is, length-append front (was.values ∷ [])) in
    record {
      more = was.values ∷ rest.more;
      all = rest.all ∙ ap (λ (t : List StoredDocument). t ++ rest.more) was.all_is ∙ append_assoc front (was.values ∷ []) rest.more;
      many = ap suc rest.many;
      at = at_each n was.values rest.more (length front) (length first.0.0) long
          (record { here = c; on = on; place = was.place; number = was.number; from = was.from; counted = was.counted; values_there = was.values_there }) rest.at;
    }
  where
    at_each : (n : ℕ) (values : StoredDocument) (more : List StoredDocument) (k m : ℕ) → m ≡ k + 1 → Stands fdt (get_or places k (pos 0)) values
        → ((i : ℕ) → i < n → Stands fdt (get_or places (m + i) (pos 0)) (get_or more i [])) → (i : ℕ) → i < suc n → Stands fdt (get_or places (k + i) (pos 0)) (get_or (values ∷ more) i [])
    at_each n values more k m long first later zero lt = subst (λ (j : ℕ). Stands fdt (get_or places j (pos 0)) values) (let j : k ≡ k + 0 = omega arith in j) first
    at_each n values more k m long first later (suc i) lt =
        subst (λ (j : ℕ). Stands fdt (get_or places j (pos 0)) (get_or more i [])) (let j : m + i ≡ k + suc i = omega arith in j) (later i (omega arith))

-- all documents stand at their places
pub record AllStand (fdt : List ℕ) (places : List ℤ) (documents : List StoredDocument) : Type 0 where
  pub many : length documents ≡ length places
  pub at : (i : ℕ) → i < length places → Stands fdt (get_or places i (pos 0)) (get_or documents i [])

pub all_stand : (window : Window) (fields : ℕ) (places : List ℤ) (fdt : List ℕ) (documents : List StoredDocument) → IsBytes fdt → read_file (fdt_plan window fields places) fdt ≡ ok_of documents → AllStand fdt places documents
all_stand window fields places fdt documents fits e =
    let file = file_was (fdt_plan window fields places) fdt documents e in
    let head = due_was header_shape (λ _ r. format_conditions r) (λ _ _. each (next_document window fields places) (length places) []) (start_of fdt) (documents, file.0) file.1 in
    let judged = record_at-was header_shape format_conditions (start_of fdt) head.0.0 head.0.1 head.1 in
    let part = alone_was int32 (λ z. format z) (start_of fdt) head.0.0 head.0.1 judged.0 in
    let four = int32_read (start_of fdt) head.0.1 part.0 part.1 in
    let on : IsOn fdt (moved 4 (start_of fdt)) = record { rest = refl; within = omega (arith, four.0) } in
    let walk = stood window fields places fdt fits (length places) [] head.0.1 file.0 documents (subst (IsOn fdt) (sym four.1) on) head.2 in
    record {
      many = ap length walk.all ∙ walk.many;
      at = λ i lt.
          subst (λ (j : ℕ). Stands fdt (get_or places j (pos 0)) (get_or documents i [])) (let j : 0 + i ≡ i = omega arith in j)
          (subst (λ (ds : List StoredDocument). Stands fdt (get_or places (0 + i) (pos 0)) (get_or ds i [])) (sym walk.all) (walk.at i lt));
    }
