-- What the fields of the vectors are that `.tvd` has, where this was asked.
use Rattle.std.proofs.Common.{◌≡◌, ◌≢◌, ℕ, zero, suc, ◌+◌, ◌-◌, ◌<◌, ◌≤◌, ◌^◌, Bool, true, false, not, ◌&&◌, ◌||◌, eqb, List, [], ◌∷◌, length, get_or, None, Ok, refl, sym, ap, subst, ◌∙◌, arith}
use Rattle.std.specs.List.{AllByRecursion}
use Rattle.std.proofs.lemmas.Bool.{eq-eqb}
use Rattle.lu_types.specs.Tables.{TableField}
use Rattle.lu_types.specs.declared.stored.Window.{Window}
use Rattle.lu_grammar.specs.Bytes.{IsBytes, Cursor}
use Rattle.lu_grammar.specs.Parts.{num}
use Rattle.lu_grammar.specs.Records.{first_broken}
use Rattle.lu_grammar.specs.Plans.{done, read_plan}
use Rattle.lu_grammar.proofs.Codecs.{ok_pair, same_pair, then_ok, due_was, record_at-was, alone_was, read_plan-and_then, IsBytes-after}
use Rattle.term_vectors.specs.declared.layout.DocumentPlaces.{DocumentPlaces}
use Rattle.term_vectors.specs.Format.{headed}
use Rattle.term_vectors.specs.Fields.{VectorPlace, count, stated, count_shape, count_conditions, has_vectors, is_among, number_shape, number_conditions, numbers_plan, further_plan, placed, document_plan, is_within, documents_plan}
use Rattle.term_vectors.proofs.Steps.{headed_was}
use Rattle.term_vectors.proofs.FieldLemmas.{reads_numbers, reads_further, further_of, rest_of_document}
use Rattle.term_vectors.proofs.WasRead.{numbers-many}
use Rattle.term_vectors.proofs.Unasked.{numbers-unasked}
use Rattle.term_vectors.proofs.ValidVectors.{part_value}
use Rattle.term_vectors.proofs.ValidStores.{AreAsked}

-- ---- the fields in `.tvd`

abbrev pub GoodNumbers : List TableField → List ℕ → List ℕ → Type 0
GoodNumbers fields before [] = Unit {0}
GoodNumbers fields before (n ∷ ns) = (has_vectors fields n ≡ true) × (is_among n before ≡ false) × GoodNumbers fields (n ∷ before) ns

asked_number : (fields : List TableField) (before : List ℕ) (n : ℕ) → first_broken (number_conditions true fields before n) ≡ None → (has_vectors fields n ≡ true) × (is_among n before ≡ false)
asked_number fields before n h = go (has_vectors fields n) (is_among n before) refl refl h
  where
    go : (a b : Bool) → has_vectors fields n ≡ a → is_among n before ≡ b → first_broken (record { rule = 100; broken = true && not a } ∷ record { rule = 101; broken = b } ∷ []) ≡ None → (has_vectors fields n ≡ true) × (is_among n before ≡ false)
    go false b ia ib q = cc
    go true true ia ib q = cc
    go true false ia ib q = (ia, ib)

numbers_good : (fields : List TableField) (n : ℕ) (before : List ℕ) (c : Cursor) (ns : List ℕ) (d : Cursor) → reads_numbers true fields n before c ≡ Ok (ns, d) → GoodNumbers fields before ns
unfolding numbers_plan read_plan
numbers_good fields zero before c ns d e = subst (GoodNumbers fields before) (same_pair [] ns c d e).0 tt
numbers_good fields (suc n) before c ns d e =
    let head = due_was number_shape (λ _ r. number_conditions true fields before (stated r)) (λ _ r. headed (stated r) (numbers_plan true fields n (stated r ∷ before))) c (ns, d) e in
    let judged = record_at-was number_shape (λ r. number_conditions true fields before (stated r)) c head.0.0 head.0.1 head.1 in
    let rest = headed_was (stated head.0.0) (numbers_plan true fields n (stated head.0.0 ∷ before)) head.0.1 ns d head.2 in
    let good = asked_number fields before (stated head.0.0) judged.1 in
    subst (GoodNumbers fields before) (sym rest.2) (good.0, good.1, numbers_good fields n (stated head.0.0 ∷ before) head.0.1 rest.0 d rest.1)

or_true : (a b : Bool) → b ≡ true → (a || b) ≡ true
or_true true b e = refl
or_true false b e = e

differ : (fields : List TableField) (q : ℕ) (before ns ps : List ℕ) → GoodNumbers fields before ns → is_among q before ≡ true → AllByRecursion (λ (o : VectorPlace). q ≢ o.field) (placed ns ps)
unfolding placed
differ fields q before [] ps good among = tt
differ fields q before (n ∷ ns) [] good among = tt
differ fields q before (n ∷ ns) (p ∷ ps) (has, new, good) among =
    (λ same. let old : is_among n before ≡ true = ap (λ (k : ℕ). is_among k before) (sym same) ∙ among in cc, differ fields q (n ∷ before) ns ps good (or_true (eqb n q) (is_among q before) among))

placed-asked : (fields : List TableField) (before ns ps : List ℕ) → GoodNumbers fields before ns → AreAsked fields (placed ns ps)
unfolding placed
placed-asked fields before [] ps good = tt
placed-asked fields before (n ∷ ns) [] good = tt
placed-asked fields before (n ∷ ns) (p ∷ ps) (has, new, good) =
    let self : eqb n n ≡ true = eq-eqb n n refl in
    let among : is_among n (n ∷ before) ≡ true = ap (λ (b : Bool). b || is_among n before) self in
    (has, differ fields n (n ∷ before) ns ps good among, placed-asked fields (n ∷ before) ns ps good)

placed-few : (ns ps : List ℕ) → length (placed ns ps) ≤ length ns
unfolding placed
placed-few [] ps = omega arith
placed-few (n ∷ ns) [] = omega arith
placed-few (n ∷ ns) (p ∷ ps) = let rest = placed-few ns ps in omega arith

pub record DocumentAsked (fields : List TableField) (slots : List VectorPlace) : Type 0 where
  pub asked : AreAsked fields slots
  pub few : length slots < 2 ^ 31

document_asked : (fields : List TableField) (at : DocumentPlaces) (c : Cursor) (slots : List VectorPlace) (d : Cursor) → IsBytes c.rest → read_plan (document_plan true fields at) c ≡ ok_pair slots d → DocumentAsked fields slots
unfolding read_plan
document_asked fields at c slots d fits e =
    let head = due_was count_shape (λ place _. count_conditions at.tvd place) (λ _ r. rest_of_document true fields at (stated r)) c (slots, d) e in
    let judged = record_at-was count_shape (λ _. count_conditions at.tvd c.place) c head.0.0 head.0.1 head.1 in
    let part = alone_was num (λ n. count n) c head.0.0 head.0.1 judged.0 in
    let n = stated head.0.0 in
    let small : part.0 < 2 ^ 31 = part_value num c part.0 head.0.1 fits part.1 in
    let is : part.0 ≡ n = ap stated part.2 in
    let first = then_ok (reads_numbers true fields n [] head.0.1) (λ x. read_plan (further_of at n x.0) x.1) (slots, d) (sym (read_plan-and_then (numbers_plan true fields n []) (further_of at n) head.0.1) ∙ head.2) in
    let second = then_ok (reads_further (n - 1) at.tvf first.0.1) (λ x. ok_pair (placed first.0.0 (at.tvf ∷ x.0)) x.1) (slots, d)
    (sym (read_plan-and_then (further_plan (n - 1) at.tvf) (λ further. done (placed first.0.0 (at.tvf ∷ further))) first.0.1) ∙ first.2) in
    let same = same_pair (placed first.0.0 (at.tvf ∷ second.0.0)) slots second.0.1 d second.2 in
    let good = numbers_good fields n [] head.0.1 first.0.0 first.0.1 first.1 in
    let many = numbers-many n [] head.0.1 first.0.0 first.0.1 (numbers-unasked true fields n [] head.0.1 first.0.0 first.0.1 first.1) in
    let few = placed-few first.0.0 (at.tvf ∷ second.0.0) in
    record {
      asked = subst (AreAsked fields) same.0 (placed-asked fields [] first.0.0 (at.tvf ∷ second.0.0) good);
      few = omega (arith, ap length same.0, few, many, is, small);
    }

pub documents_asked : (fields : List TableField) (window : Window) (i : ℕ) (places : List DocumentPlaces) (c : Cursor) (all : List (List VectorPlace)) (d : Cursor) → IsBytes c.rest → read_plan (documents_plan fields window i places) c ≡ ok_pair all d
    → (n : ℕ) → n < length places → is_within window (i + n) ≡ true → DocumentAsked fields (get_or all n [])
unfolding documents_plan
documents_asked fields window i [] c all d fits e n lt within = absurd (omega arith)
documents_asked fields window i (at ∷ places) c all d fits e n lt within =
    let rest = λ (v : List VectorPlace). headed v (documents_plan fields window (suc i) places) in
    let plan = document_plan (is_within window i) fields at in
    let first = then_ok (read_plan plan c) (λ x. read_plan (rest x.0) x.1) (all, d) (sym (read_plan-and_then plan rest c) ∙ e) in
    let more = headed_was first.0.0 (documents_plan fields window (suc i) places) first.0.1 all d first.2 in
    let later = documents_asked fields window (suc i) places first.0.1 more.0 d (IsBytes-after plan c first.0.0 first.0.1 fits first.1) more.1 in
    subst (λ (ws : List (List VectorPlace)). DocumentAsked fields (get_or ws n [])) (sym more.2) (each_of n lt within first.0.0 first.0.1 more.0 first.1 later)
  where
    each_of : (n : ℕ) → n < suc (length places) → is_within window (i + n) ≡ true → (s : List VectorPlace) (b : Cursor) (ss : List (List VectorPlace)) → read_plan (document_plan (is_within window i) fields at) c ≡ ok_pair s b
        → ((m : ℕ) → m < length places → is_within window (suc i + m) ≡ true → DocumentAsked fields (get_or ss m [])) → DocumentAsked fields (get_or (s ∷ ss) n [])
    each_of zero lt within s b ss read others =
        let here : is_within window i ≡ true = ap (is_within window) (let k : i ≡ i + 0 = omega arith in k) ∙ within in
        document_asked fields at c s b fits (ap (λ (t : Bool). read_plan (document_plan t fields at) c) (sym here) ∙ read)
    each_of (suc n) lt within s b ss read others = others n (omega arith) (ap (is_within window) (let k : suc i + n ≡ i + suc n = omega arith in k) ∙ within)
