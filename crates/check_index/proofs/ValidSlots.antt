-- Where the vectors of the documents stand: of each document fewer than 2^31, of different fields, and of fields that have vectors where that is asked.
use Rattle.std.proofs.Common.{◌≡◌, ◌≢◌, ℕ, zero, suc, ◌-◌, ◌<◌, ◌^◌, Bool, true, false, not, eqb, List, [], ◌∷◌, length, None, refl, sym, ap, subst, ◌∙◌, arith}
use Rattle.std.specs.Prelude.{◌&&◌, ◌||◌}
use mathlib.Core.Bool.{true≢false}
use Rattle.std.proofs.lemmas.Bool.{eqb-false}
use Rattle.lu_grammar.specs.Bytes.{IsBytes, Cursor, start_of}
use Rattle.lu_grammar.specs.Parts.{int32, num}
use Rattle.lu_grammar.specs.Records.{first_broken}
use Rattle.lu_grammar.specs.Plans.{Plan, done, and_then, read_plan}
use Rattle.lu_grammar.specs.Meaning.{Reads}
use Rattle.lu_grammar.proofs.Files.{read_file-Reads}
use Rattle.lu_grammar.proofs.Codecs.{ok_pair, same_pair, then_ok, read_plan-and_then, due_was, record_at-was, alone_was, file_was, read_part-place, IsBytes-after}
use Rattle.lu_types.specs.RuleNumbers as rules
use Rattle.lu_types.specs.Tables.{TableField}
use Rattle.lu_types.specs.declared.stored.Window.{Window}
use Rattle.lu_model.proofs.Words.{Each, EachPair}
use Rattle.term_vectors.specs.declared.layout.DocumentPlaces.{DocumentPlaces}
use Rattle.term_vectors.specs.Format.{format_shape, headed}
use Rattle.term_vectors.specs.Fields.{TvdRecord, format, count, VectorPlace, format_conditions, count_shape, stated, count_conditions, number_shape, has_vectors, is_among, number_conditions, numbers_plan, further_plan, placed, document_plan, is_within, documents_plan, tvd_plan}
use Rattle.term_vectors.proofs.ValidVectors.{part_value}

-- a value, and those of a plan that was read
pub headed-was : {V R : Type 0} (v : V) (plan : Plan (List V) R) (c : Cursor) (all : List V) (d : Cursor) → read_plan (headed v plan) c ≡ ok_pair all d → (vs : List V) × (read_plan plan c ≡ ok_pair vs d) × (all ≡ v ∷ vs)
unfolding read_plan
headed-was {V} {R} v plan c all d e =
    let x = then_ok (read_plan plan c) (λ x. read_plan {R = R} (done (v ∷ x.0)) x.1) (all, d) (sym (read_plan-and_then plan (λ (vs : List V). done (v ∷ vs)) c) ∙ e) in
    let same = same_pair (v ∷ x.0.0) all x.0.1 d x.2 in
    (x.0.0, x.1 ∙ ap (λ (y : Cursor). ok_pair x.0.0 y) same.1, sym same.0)

-- ---- the fields of the vectors of a document

-- the numbers are those of different fields, none of them of an earlier vector, and all of fields that have vectors where that is asked
record AreNumbers (asked : Bool) (fields : List TableField) (n : ℕ) (before numbers : List ℕ) : Type 0 where
  many : length numbers ≡ n
  apart : EachPair (λ a b. a ≢ b) numbers
  new : Each (λ m. is_among m before ≡ false) numbers
  named : Each (λ m. (asked && not (has_vectors fields m)) ≡ false) numbers

other : (a m : ℕ) (before : List ℕ) → is_among m (a ∷ before) ≡ false → (a ≢ m) × (is_among m before ≡ false)
other a m before e = go (eqb a m) refl e
  where
    go : (b : Bool) → eqb a m ≡ b → (b || is_among m before) ≡ false → (a ≢ m) × (is_among m before ≡ false)
    go true is e = absurd (true≢false e)
    go false is e = (eqb-false a m is, e)

others : (a : ℕ) (before numbers : List ℕ) → Each (λ m. is_among m (a ∷ before) ≡ false) numbers → Each (λ m. a ≢ m) numbers × Each (λ m. is_among m before ≡ false) numbers
others a before [] h = (tt, tt)
others a before (m ∷ numbers) h = let here = other a m before h.0 in let rest = others a before numbers h.1 in ((here.0, rest.0), (here.1, rest.1))

number-good : (asked : Bool) (fields : List TableField) (before : List ℕ) (m : ℕ) → first_broken (number_conditions asked fields before m) ≡ None → ((asked && not (has_vectors fields m)) ≡ false) × (is_among m before ≡ false)
number-good asked fields before m e = go (asked && not (has_vectors fields m)) (is_among m before) e
  where
    go : (a b : Bool) → first_broken (record { rule = rules.vector_field; broken = a } ∷ record { rule = rules.vector_twice; broken = b } ∷ []) ≡ None → (a ≡ false) × (b ≡ false)
    go true b e = absurd cc
    go false true e = absurd cc
    go false false e = (refl, refl)

numbers-are : (asked : Bool) (fields : List TableField) (n : ℕ) (before : List ℕ) (c : Cursor) (numbers : List ℕ) (d : Cursor) → read_plan (numbers_plan asked fields n before) c ≡ ok_pair numbers d → AreNumbers asked fields n before numbers
unfolding numbers_plan read_plan
numbers-are asked fields zero before c numbers d e =
    subst (λ (ns : List ℕ). AreNumbers asked fields 0 before ns) (same_pair [] numbers c d e).0 (record { many = refl; apart = tt; new = tt; named = tt })
numbers-are asked fields (suc n) before c numbers d e =
    let head = due_was number_shape (λ _ r. number_conditions asked fields before (stated r)) (λ _ r. headed (stated r) (numbers_plan asked fields n (stated r ∷ before))) c (numbers, d) e in
    let m = stated head.0.0 in
    let judged = record_at-was number_shape (λ (r : TvdRecord). number_conditions asked fields before (stated r)) c head.0.0 head.0.1 head.1 in
    let good = number-good asked fields before m judged.1 in
    let rest = headed-was m (numbers_plan asked fields n (m ∷ before)) head.0.1 numbers d head.2 in
    let are = numbers-are asked fields n (m ∷ before) head.0.1 rest.0 d rest.1 in
    let apart = others m before rest.0 are.new in
    subst (λ (ns : List ℕ). AreNumbers asked fields (suc n) before ns) (sym rest.2) (record { many = ap suc are.many; apart = (apart.0, are.apart); new = (good.1, apart.1); named = (good.0, are.named) })

-- ---- the places of a document

-- the vectors of a document
pub record AreSlots (asked : Bool) (fields : List TableField) (slots : List VectorPlace) : Type 0 where
  pub few : length slots < 2 ^ 31
  pub apart : EachPair (λ a b. a.field ≢ b.field) slots
  pub named : Each (λ (a : VectorPlace). (asked && not (has_vectors fields a.field)) ≡ false) slots

placed-each : (P : ℕ → Type 0) (ns ps : List ℕ) → Each P ns → Each (λ (a : VectorPlace). P a.field) (placed ns ps)
unfolding placed
placed-each P [] ps h = tt
placed-each P (n ∷ ns) [] h = tt
placed-each P (n ∷ ns) (p ∷ ps) h = (h.0, placed-each P ns ps h.1)

placed-apart : (ns ps : List ℕ) → EachPair (λ a b. a ≢ b) ns → EachPair (λ a b. a.field ≢ b.field) (placed ns ps)
unfolding placed
placed-apart [] ps h = tt
placed-apart (n ∷ ns) [] h = tt
placed-apart (n ∷ ns) (p ∷ ps) h = (placed-each (λ (m : ℕ). n ≢ m) ns ps h.0, placed-apart ns ps h.1)

placed-few : (ns ps : List ℕ) (n : ℕ) → length ns < n → length (placed ns ps) < n
unfolding placed
placed-few [] ps n lt = lt
placed-few (m ∷ ns) [] n lt = omega (arith, lt)
placed-few (m ∷ ns) (p ∷ ps) zero lt = absurd (omega (arith, lt))
placed-few (m ∷ ns) (p ∷ ps) (suc n) lt = omega (arith, placed-few ns ps n (omega (arith, lt)))

slots-are : (asked : Bool) (fields : List TableField) (at : DocumentPlaces) (c : Cursor) (slots : List VectorPlace) (d : Cursor) → IsBytes c.rest → read_plan (document_plan asked fields at) c ≡ ok_pair slots d → AreSlots asked fields slots
unfolding read_plan
slots-are asked fields at c slots d fits e =
    let behind = λ (r : TvdRecord) (numbers : List ℕ). and_then (further_plan (stated r - 1) at.tvf) (λ further. done (placed numbers (at.tvf ∷ further))) in
    let head = due_was count_shape (λ place _. count_conditions at.tvd place) (λ _ r. and_then (numbers_plan asked fields (stated r) []) (behind r)) c (slots, d) e in
    let r = head.0.0 in
    let judged = record_at-was count_shape (λ (_ : TvdRecord). count_conditions at.tvd c.place) c r head.0.1 head.1 in
    let part = alone_was num count c r head.0.1 judged.0 in
    let few : part.0 < 2 ^ 31 = part_value num c part.0 head.0.1 fits part.1 in
    let first = then_ok (read_plan (numbers_plan asked fields (stated r) []) head.0.1) (λ x. read_plan (behind r x.0) x.1) (slots, d) (sym (read_plan-and_then (numbers_plan asked fields (stated r) []) (behind r) head.0.1) ∙ head.2) in
    let numbers = first.0.0 in
    let are = numbers-are asked fields (stated r) [] head.0.1 numbers first.0.1 first.1 in
    let further = further_plan (stated r - 1) at.tvf in
    let next = then_ok (read_plan further first.0.1) (λ x. read_plan {R = TvdRecord} (done (placed numbers (at.tvf ∷ x.0))) x.1) (slots, d) (sym (read_plan-and_then further (λ (ps : List ℕ). done (placed numbers (at.tvf ∷ ps))) first.0.1) ∙ first.2) in
    let is : placed numbers (at.tvf ∷ next.0.0) ≡ slots = (same_pair (placed numbers (at.tvf ∷ next.0.0)) slots next.0.1 d next.2).0 in
    let long : length numbers < 2 ^ 31 = omega (arith, are.many, ap stated part.2, few) in
    subst (AreSlots asked fields) is (record {
      few = placed-few numbers (at.tvf ∷ next.0.0) (2 ^ 31) long;
      apart = placed-apart numbers (at.tvf ∷ next.0.0) are.apart;
      named = placed-each (λ (m : ℕ). (asked && not (has_vectors fields m)) ≡ false) numbers (at.tvf ∷ next.0.0) are.named;
    })

-- ---- the documents

-- the documents from one with this number on
abbrev pub DocumentsFrom : List TableField → Window → ℕ → List (List VectorPlace) → Type 0
DocumentsFrom fields window nth [] = Unit {0}
DocumentsFrom fields window nth (slots ∷ documents) = AreSlots (is_within window nth) fields slots × DocumentsFrom fields window (suc nth) documents

documents-are : (fields : List TableField) (window : Window) (nth : ℕ) (places : List DocumentPlaces) (c : Cursor) (all : List (List VectorPlace)) (d : Cursor) → IsBytes c.rest → read_plan (documents_plan fields window nth places) c ≡ ok_pair all d
    → (length all ≡ length places) × DocumentsFrom fields window nth all
unfolding documents_plan read_plan
documents-are fields window nth [] c all d fits e =
    subst (λ (xs : List (List VectorPlace)). (length xs ≡ 0) × DocumentsFrom fields window nth xs) (same_pair [] all c d e).0 (refl, tt)
documents-are fields window nth (at ∷ places) c all d fits e =
    let plan = document_plan (is_within window nth) fields at in
    let rest_plan = documents_plan fields window (suc nth) places in
    let first = then_ok (read_plan plan c) (λ x. read_plan (headed x.0 rest_plan) x.1) (all, d) (sym (read_plan-and_then plan (λ (slots : List VectorPlace). headed slots rest_plan) c) ∙ e) in
    let here = slots-are (is_within window nth) fields at c first.0.0 first.0.1 fits first.1 in
    let rest = headed-was first.0.0 rest_plan first.0.1 all d first.2 in
    let are = documents-are fields window (suc nth) places first.0.1 rest.0 d (IsBytes-after plan c first.0.0 first.0.1 fits first.1) rest.1 in
    subst (λ (xs : List (List VectorPlace)). (length xs ≡ suc (length places)) × DocumentsFrom fields window nth xs) (sym rest.2) (ap suc are.0, (here, are.1))

pub tvd-are : (fields : List TableField) (window : Window) (places : List DocumentPlaces) (bytes : List ℕ) (all : List (List VectorPlace)) → IsBytes bytes → Reads (tvd_plan fields window places) bytes all → (length all ≡ length places) × DocumentsFrom fields window 0 all
tvd-are fields window places bytes all fits reads =
    let plan = tvd_plan fields window places in
    let file = file_was plan bytes all (read_file-Reads plan bytes all reads) in
    let head = due_was (format_shape format) (λ _ r. format_conditions r) (λ _ _. documents_plan fields window 0 places) (start_of bytes) (all, file.0) file.1 in
    let judged = record_at-was (format_shape format) format_conditions (start_of bytes) head.0.0 head.0.1 head.1 in
    let part = alone_was int32 format (start_of bytes) head.0.0 head.0.1 judged.0 in
    let behind = read_part-place int32 (start_of bytes) part.0 head.0.1 fits part.1 in
    documents-are fields window 0 places head.0.1 all file.0 behind.1 head.2
