-- What every vector that was read is: the vectors of a document, and of each document.
use Rattle.std.proofs.Common.{◌≡◌, ◌≢◌, ℕ, zero, suc, ◌<◌, ◌≤◌, ◌^◌, Bool, true, false, not, ltb, eqb, List, [], ◌∷◌, length, get_or, None, Ok, refl, sym, ap, subst, ◌∙◌, arith}
use Rattle.std.specs.Prelude.{All, AllPairs}
use Rattle.std.specs.List.{AllByRecursion}
use borrow.Author.Tests.{ltb-false}
use Rattle.std.proofs.lemmas.List.Elements.{All-cons}
use Rattle.std.proofs.lemmas.List.Kept.{AllPairs-cons}
use Rattle.lu_types.specs.Tables.{TableField, bits_at}
use Rattle.lu_types.specs.Bits as bit
use Rattle.lu_types.specs.Bits.{has_bit}
use Rattle.lu_grammar.specs.Bytes.{IsBytes, Cursor}
use Rattle.lu_grammar.specs.Parts.{byte, num}
use Rattle.lu_grammar.specs.Reading.{◌>>=◌, read_part}
use Rattle.lu_grammar.specs.Records.{first_broken}
use Rattle.lu_grammar.specs.Plans.{done, read_plan}
use Rattle.lu_grammar.specs.declared.bad.Bad.{Bad}
use Rattle.lu_grammar.proofs.Codecs.{ok_pair, same_pair, then_ok, due_was, record_at-was, read_plan-and_then, read_part-place, IsBytes-after}
use Rattle.lu_model.specs.Valid.{IsVector}
use Rattle.lu_model.specs.Contents.{field_at}
use Rattle.term_vectors.specs.Format.{headed}
use Rattle.term_vectors.specs.Fields.{VectorPlace, has_vectors}
use Rattle.term_vectors.specs.Vectors.{TvfRecord, StoredVector, heading, count_of_heading, bits_of_heading, heading_shape, heading_conditions, terms_plan, vector_plan, vectors_plan, all_plan}
use Rattle.term_vectors.specs.Stores.{AreVectors}
use Rattle.term_vectors.proofs.Steps.{headed_was}
use Rattle.term_vectors.proofs.TermLemmas.{reads_terms}
use Rattle.term_vectors.proofs.VectorLemmas.{vector_of, rest_of_vector, reads_vectors, reads_all}
use Rattle.term_vectors.proofs.ValidVectors.{forward, part_value, terms_are}

-- ---- a vector

-- a field with vectors is one of the table with the bit
field-bits : (fields : List TableField) (n : ℕ) → bits_at fields n ≡ (field_at n fields).bits
field-bits [] n = refl
field-bits (f ∷ fields) zero = refl
field-bits (f ∷ fields) (suc n) = field-bits fields n

pub record VectorIs (fields : List TableField) (at : VectorPlace) (v : StoredVector) (c d : Cursor) : Type 0 where
  pub far : c.place ≤ d.place
  pub fits : IsBytes d.rest
  pub field : v.field ≡ at.field
  pub valid : d.place < 2 ^ 31 → IsVector fields v

few_bits : (wanted place : ℕ) (r : TvfRecord) → first_broken (heading_conditions wanted place r) ≡ None → bits_of_heading r ≤ 3
few_bits wanted place r h = go (not (eqb place wanted)) (ltb 3 (bits_of_heading r)) refl h
  where
    go : (a b : Bool) → ltb 3 (bits_of_heading r) ≡ b → first_broken (record { rule = 106; broken = a } ∷ record { rule = 107; broken = b } ∷ []) ≡ None → bits_of_heading r ≤ 3
    go true b is q = cc
    go false true is q = cc
    go false false is q = ltb-false 3 (bits_of_heading r) is

vector_is : (fields : List TableField) (at : VectorPlace) (c : Cursor) (v : StoredVector) (d : Cursor) → IsBytes c.rest → has_vectors fields at.field ≡ true → read_plan (vector_plan at) c ≡ ok_pair v d → VectorIs fields at v c d
unfolding read_plan
vector_is fields at c v d fits has e =
    let head = due_was heading_shape (λ place r. heading_conditions at.place place r) (λ _ r. rest_of_vector at r) c (v, d) e in
    let judged = record_at-was heading_shape (heading_conditions at.place c.place) c head.0.0 head.0.1 head.1 in
    let r = head.0.0 in
    let b = head.0.1 in
    let one = then_ok (read_part num c) (λ x. read_part byte x.1 >>= λ y. ok_pair {E = Bad} (heading x.0 y.0) y.1) (r, b) judged.0 in
    let two = then_ok (read_part byte one.0.1) (λ y. ok_pair {E = Bad} (heading one.0.0 y.0) y.1) (r, b) one.2 in
    let same = same_pair (heading one.0.0 two.0.0) r two.0.1 b two.2 in
    let m = read_part-place num c one.0.0 one.0.1 fits one.1 in
    let k = read_part-place byte one.0.1 two.0.0 two.0.1 m.1 two.1 in
    let small : one.0.0 < 2 ^ 31 = part_value num c one.0.0 one.0.1 fits one.1 in
    let count_small : count_of_heading r < 2 ^ 31 = subst (λ (s : TvfRecord). count_of_heading s < 2 ^ 31) same.0 small in
    let fits_b : IsBytes b.rest = subst (λ (x : Cursor). IsBytes x.rest) same.1 k.1 in
    let place : two.0.1.place ≡ b.place = ap (λ (x : Cursor). x.place) same.1 in
    let first = then_ok (reads_terms (bits_of_heading r) (count_of_heading r) None b) (λ x. ok_pair (vector_of at r x.0) x.1) (v, d) (sym (read_plan-and_then (terms_plan (bits_of_heading r) (count_of_heading r) None) (λ terms. done (vector_of at r terms)) b) ∙ head.2) in
    let ends = same_pair (vector_of at r first.0.0) v first.0.1 d first.2 in
    let none : 0 ≤ b.place = omega arith in
    let terms = terms_are (bits_of_heading r) (count_of_heading r) None b first.0.0 first.0.1 fits_b none first.1 in
    let bits = few_bits at.place c.place r judged.1 in
    let low_bits : bits_of_heading r < 4 = omega arith in
    let end : first.0.1.place ≡ d.place = ap (λ (x : Cursor). x.place) ends.1 in
    record {
      far = omega (arith, m.0, k.0, place, terms.far, end);
      fits = subst (λ (x : Cursor). IsBytes x.rest) ends.1 terms.fits;
      field = sym (ap (λ (w : StoredVector). w.field) ends.0);
      valid = λ low. subst (IsVector fields) ends.0 (record {
        field = ap (λ (n : ℕ). has_bit bit.vectors n) (sym (field-bits fields at.field)) ∙ has;
        bits = low_bits;
        few = omega (arith, terms.many, count_small);
        rise = terms.rise;
        terms = terms.valid (omega (arith, end, low));
      });
    }

-- ---- the vectors of a document

-- each of the vectors is of a field that has vectors, and no two are of one field
abbrev pub AreAsked : List TableField → List VectorPlace → Type 0
AreAsked fields [] = Unit {0}
AreAsked fields (at ∷ slots) = (has_vectors fields at.field ≡ true) × AllByRecursion (λ o. at.field ≢ o.field) slots × AreAsked fields slots

pub record VectorsAre (fields : List TableField) (slots : List VectorPlace) (vs : List StoredVector) (c d : Cursor) : Type 0 where
  pub many : length vs ≡ length slots
  pub far : c.place ≤ d.place
  pub fits : IsBytes d.rest
  pub others : (f : ℕ) → AllByRecursion (λ o. f ≢ o.field) slots → All (λ w. f ≢ w.field) vs
  pub apart : AllPairs (λ v w. v.field ≢ w.field) vs
  pub valid : d.place < 2 ^ 31 → All (IsVector fields) vs

vectors_are : (fields : List TableField) (slots : List VectorPlace) (c : Cursor) (vs : List StoredVector) (d : Cursor) → IsBytes c.rest → AreAsked fields slots → reads_vectors slots c ≡ Ok (vs, d) → VectorsAre fields slots vs c d
unfolding vectors_plan read_plan
vectors_are fields [] c vs d fits asked e =
    let same = same_pair [] vs c d e in
    subst (λ (ws : List StoredVector). VectorsAre fields [] ws c d) same.0 (subst (λ (x : Cursor). VectorsAre fields [] [] c x) same.1
    (record { many = refl; far = omega arith; fits = fits; others = λ f h k x lt. absurd (omega arith); apart = λ i j x le lt. absurd (omega arith); valid = λ low k x lt. absurd (omega arith) }))
vectors_are fields (at ∷ slots) c vs d fits (has, apart, asked) e =
    let rest = λ (v : StoredVector). headed v (vectors_plan slots) in
    let first = then_ok (read_plan (vector_plan at) c) (λ x. read_plan (rest x.0) x.1) (vs, d) (sym (read_plan-and_then (vector_plan at) rest c) ∙ e) in
    let more = headed_was first.0.0 (vectors_plan slots) first.0.1 vs d first.2 in
    let v = first.0.0 in
    let one = vector_is fields at c v first.0.1 fits has first.1 in
    let later = vectors_are fields slots first.0.1 more.0 d one.fits asked more.1 in
    subst (λ (ws : List StoredVector). VectorsAre fields (at ∷ slots) ws c d) (sym more.2) (record {
      many = ap suc later.many;
      far = omega (arith, one.far, later.far);
      fits = later.fits;
      others = λ f h. All-cons (λ w. f ≢ w.field) v more.0 (λ same. h.0 (same ∙ one.field)) (later.others f h.1);
      apart = AllPairs-cons (λ x w. x.field ≢ w.field) v more.0 (λ k x lt same. later.others at.field apart k x lt (sym one.field ∙ same)) later.apart;
      valid = λ low. All-cons (IsVector fields) v more.0 (one.valid (omega (arith, later.far, low))) (later.valid low);
    })

-- ---- the documents

pub record AllAre (fields : List TableField) (documents : List (List VectorPlace)) (all : List (List StoredVector)) (c d : Cursor) : Type 0 where
  pub far : c.place ≤ d.place
  pub each : (n : ℕ) → n < length documents → AreAsked fields (get_or documents n []) → length (get_or documents n []) < 2 ^ 31 → d.place < 2 ^ 31 → AreVectors fields (get_or all n [])

pub all_are : (fields : List TableField) (documents : List (List VectorPlace)) (c : Cursor) (all : List (List StoredVector)) (d : Cursor) → IsBytes c.rest → reads_all documents c ≡ Ok (all, d) → AllAre fields documents all c d
unfolding all_plan read_plan
all_are fields [] c all d fits e = let same = same_pair [] all c d e in record { far = (let place : c.place ≡ d.place = ap (λ (x : Cursor). x.place) same.1 in omega arith); each = λ n lt. absurd (omega arith) }
all_are fields (slots ∷ documents) c all d fits e =
    let rest = λ (v : List StoredVector). headed v (all_plan documents) in
    let first = then_ok (reads_vectors slots c) (λ x. read_plan (rest x.0) x.1) (all, d) (sym (read_plan-and_then (vectors_plan slots) rest c) ∙ e) in
    let more = headed_was first.0.0 (all_plan documents) first.0.1 all d first.2 in
    let later = all_are fields documents first.0.1 more.0 d (IsBytes-after (vectors_plan slots) c first.0.0 first.0.1 fits first.1) more.1 in
    let far = forward (vectors_plan slots) c first.0.0 first.0.1 fits first.1 in
    record {
      far = omega (arith, far, later.far);
      each = λ n lt asked few low. subst (λ (ws : List (List StoredVector)). AreVectors fields (get_or ws n [])) (sym more.2)
          (each_of n lt asked few low first.0.0 first.0.1 more.0 later.far (λ h. vectors_are fields slots c first.0.0 first.0.1 fits h first.1) later.each);
    }
  where
    each_of : (n : ℕ) → n < suc (length documents) → AreAsked fields (get_or (slots ∷ documents) n []) → length (get_or (slots ∷ documents) n []) < 2 ^ 31 → d.place < 2 ^ 31 → (v : List StoredVector) (b : Cursor) (vs : List (List StoredVector)) → b.place ≤ d.place
        → (AreAsked fields slots → VectorsAre fields slots v c b) → ((m : ℕ) → m < length documents → AreAsked fields (get_or documents m []) → length (get_or documents m []) < 2 ^ 31 → d.place < 2 ^ 31 → AreVectors fields (get_or vs m []))
        → AreVectors fields (get_or (v ∷ vs) n [])
    each_of zero lt asked few low v b vs far one others = let are = one asked in record { few = omega (arith, are.many, few); apart = are.apart; each = are.valid (omega arith) }
    each_of (suc n) lt asked few low v b vs far one others = others n (omega arith) asked few low
