-- The records of `.tvd`, one after another.
use Rattle.std.proofs.Common.{◌≡◌, ◌≢◌, ℕ, suc, ◌+◌, ◌-◌, ◌<◌, ◌≤◌, Bool, true, false, eqb, ltb, List, [], ◌∷◌, Result, Ok, Err, refl, sym, subst, arith}
use Rattle.std.proofs.lemmas.Bool.{eq-eqb, ne_eqb, lt-ltb, le-ltb}
use Rattle.std.proofs.lemmas.Grind.{common_steps}
use Rattle.std.specs.BTreeSet.{BTreeSet, Updates}
use Rattle.std.specs.Ordering.{nat_cmp}
use Rattle.lu_types.specs.Tables.{TableField}
use Rattle.lu_types.specs.declared.kind.FileKind.{FileKind}
use Rattle.lu_types.specs.declared.fault.CodecFault.{CodecFault}
use Rattle.lu_types.specs.Judging.{IsBrokenSo}
use Rattle.lu_grammar.specs.Bytes.{Cursor}
use Rattle.lu_grammar.specs.Parts.{num, vlong}
use Rattle.lu_grammar.specs.Reading.{read_part}
use Rattle.lu_grammar.specs.Records.{record_at}
use Rattle.lu_grammar.specs.Plans.{Plan, done, and_then, Broken, read_plan}
use Rattle.lu_grammar.proofs.Codecs.{read_due, read_due_broken, alone_read, alone_breaks}
use Rattle.lu_types.specs.Stores.{greatest_place}
use Rattle.term_vectors.specs.declared.layout.DocumentPlaces.{DocumentPlaces}
use Rattle.term_vectors.specs.Format.{headed}
use Rattle.term_vectors.specs.Fields.{TvdRecord, VectorPlace, count, number, difference, stated, count_shape, count_conditions, number_shape, number_conditions, numbers_plan, difference_shape, difference_conditions, further_plan, placed, document_plan}
use Rattle.term_vectors.specs.InnerFields.{HasFieldNumbers}
use Rattle.term_vectors.proofs.Steps.{Continues, record-left, then-left, then-broken, then-broken_so, Continues-then, Continues-ok, Continues-err}

-- ---- one record

pub count_given : (wanted : ℕ) (c d : Cursor) (n : ℕ) → read_part num c ≡ Ok (n, d) → c.place ≡ wanted → record_at count_shape (λ _. count_conditions wanted c.place) c ≡ Ok (count n, d)
count_given wanted c d n e is = let same : eqb c.place wanted ≡ true = eq-eqb c.place wanted is in alone_read num (λ m. count m) (λ _. count_conditions wanted c.place) c d n e (rw same refl)

pub count_broken : (wanted : ℕ) (c d : Cursor) (n : ℕ) → read_part num c ≡ Ok (n, d) → c.place ≢ wanted → record_at count_shape (λ _. count_conditions wanted c.place) c ≡ Err 99
count_broken wanted c d n e other = let differ : eqb c.place wanted ≡ false = ne_eqb c.place wanted other in alone_breaks num (λ m. count m) (λ _. count_conditions wanted c.place) c d n 99 e (rw differ refl)

pub difference_given : (place : ℕ) (c d : Cursor) (far : ℕ) → read_part vlong c ≡ Ok (far, d) → place + far ≤ greatest_place → record_at difference_shape (λ r. difference_conditions place (stated r)) c ≡ Ok (difference far, d)
difference_given place c d far e le =
    let fits : ltb greatest_place (place + far) ≡ false = le-ltb greatest_place (place + far) le in
    alone_read vlong (λ m. difference m) (λ r. difference_conditions place (stated r)) c d far e (rw fits refl)

pub difference_broken : (place : ℕ) (c d : Cursor) (far : ℕ) → read_part vlong c ≡ Ok (far, d) → greatest_place < place + far → record_at difference_shape (λ r. difference_conditions place (stated r)) c ≡ Err 102
difference_broken place c d far e lt =
    let over : ltb greatest_place (place + far) ≡ true = lt-ltb greatest_place (place + far) lt in
    alone_breaks vlong (λ m. difference m) (λ r. difference_conditions place (stated r)) c d far 102 e (rw over refl)

-- ---- the fields of a document's vectors

abbrev pub reads_numbers : Bool → List TableField → ℕ → List ℕ → Cursor → Result (List ℕ × Cursor) Broken
reads_numbers asked fields n before c = read_plan (numbers_plan asked fields n before) c

pub numbers-left : (asked : Bool) (fields : List TableField) (n : ℕ) (before : List ℕ) (c : Cursor) (field : ℕ) (d : Cursor) → record_at number_shape (λ r. number_conditions asked fields before (stated r)) c ≡ Ok (number field, d)
    → Continues (reads_numbers asked fields (suc n) before c) (reads_numbers asked fields n (field ∷ before) d)
unfolding numbers_plan
numbers-left asked fields n before c field d e = record-left number_shape (λ _ r. number_conditions asked fields before (stated r)) stated (λ r. numbers_plan asked fields n (stated r ∷ before)) c (number field) d e

pub numbers-broken : (asked : Bool) (fields : List TableField) (n : ℕ) (before : List ℕ) (c : Cursor) (rule : ℕ) → record_at number_shape (λ r. number_conditions asked fields before (stated r)) c ≡ Err rule
    → reads_numbers asked fields (suc n) before c ≡ Err (record { offset = c.place; rule = rule })
unfolding numbers_plan
numbers-broken asked fields n before c rule e =
    read_due_broken number_shape (λ _ r. number_conditions asked fields before (stated r)) (λ _ r. headed (stated r) (numbers_plan asked fields n (stated r ∷ before))) c rule e

pub numbers-done : (asked : Bool) (fields : List TableField) (before : List ℕ) (c : Cursor) → reads_numbers asked fields 0 before c ≡ Ok ([], c)
unfolding numbers_plan read_plan
numbers-done asked fields before c = refl

-- the set with one more number
pub numbers-more : (old new : BTreeSet ℕ) (field : ℕ) (before : List ℕ) → HasFieldNumbers old before → Updates nat_cmp old new field true → HasFieldNumbers new (field ∷ before)
numbers-more old new field before has updates = λ q. grind (arith, common_steps, updates.0 q, has q)

-- ---- the places of further vectors

abbrev pub reads_further : ℕ → ℕ → Cursor → Result (List ℕ × Cursor) Broken
reads_further n place c = read_plan (further_plan n place) c

pub further-left : (n place : ℕ) (c : Cursor) (r : TvdRecord) (d : Cursor) → record_at difference_shape (λ s. difference_conditions place (stated s)) c ≡ Ok (r, d) → Continues (reads_further (suc n) place c) (reads_further n (place + stated r) d)
unfolding further_plan
further-left n place c r d e = record-left difference_shape (λ _ s. difference_conditions place (stated s)) (λ s. place + stated s) (λ s. further_plan n (place + stated s)) c r d e

pub further-broken : (n place : ℕ) (c : Cursor) (rule : ℕ) → record_at difference_shape (λ s. difference_conditions place (stated s)) c ≡ Err rule → reads_further (suc n) place c ≡ Err (record { offset = c.place; rule = rule })
unfolding further_plan
further-broken n place c rule e = read_due_broken difference_shape (λ _ s. difference_conditions place (stated s)) (λ _ s. headed (place + stated s) (further_plan n (place + stated s))) c rule e

pub further-done : (place : ℕ) (c : Cursor) → reads_further 0 place c ≡ Ok ([], c)
unfolding further_plan read_plan
further-done place c = refl

-- ---- a document

-- the places of so many vectors, whose fields were read
abbrev pub further_of : DocumentPlaces → ℕ → List ℕ → Plan (List VectorPlace) TvdRecord
further_of at n ns = and_then (further_plan (n - 1) at.tvf) (λ further. done (placed ns (at.tvf ∷ further)))

abbrev pub rest_of_document : Bool → List TableField → DocumentPlaces → ℕ → Plan (List VectorPlace) TvdRecord
rest_of_document asked fields at n = and_then (numbers_plan asked fields n []) (further_of at n)

module _ (asked : Bool) (fields : List TableField) (at : DocumentPlaces) (c : Cursor) where
  pub document-count_broken : (rule : ℕ) → record_at count_shape (λ _. count_conditions at.tvd c.place) c ≡ Err rule → read_plan (document_plan asked fields at) c ≡ Err (record { offset = c.place; rule = rule })
  document-count_broken rule e = read_due_broken count_shape (λ place _. count_conditions at.tvd place) (λ _ r. rest_of_document asked fields at (stated r)) c rule e

  from_count : (n : ℕ) (d : Cursor) → record_at count_shape (λ _. count_conditions at.tvd c.place) c ≡ Ok (count n, d) → read_plan (document_plan asked fields at) c ≡ read_plan (rest_of_document asked fields at n) d
  from_count n d e = read_due count_shape (λ place _. count_conditions at.tvd place) (λ _ r. rest_of_document asked fields at (stated r)) c (count n) d e

  pub document-numbers_broken : (n : ℕ) (d : Cursor) (fault : CodecFault) (kind : FileKind) → record_at count_shape (λ _. count_conditions at.tvd c.place) c ≡ Ok (count n, d)
      → IsBrokenSo kind (reads_numbers asked fields n [] d) fault → IsBrokenSo kind (read_plan (document_plan asked fields at) c) fault
  document-numbers_broken n d fault kind e broken =
      subst (λ (r : Result (List VectorPlace × Cursor) Broken). IsBrokenSo kind r fault) (sym (from_count n d e))
      (then-broken_so kind (numbers_plan asked fields n []) (λ numbers. and_then (further_plan (n - 1) at.tvf) (λ further. done (placed numbers (at.tvf ∷ further)))) d fault broken)

  after_numbers : (n : ℕ) (d b : Cursor) (numbers : List ℕ) → record_at count_shape (λ _. count_conditions at.tvd c.place) c ≡ Ok (count n, d) → reads_numbers asked fields n [] d ≡ Ok (numbers, b)
      → Continues (read_plan (document_plan asked fields at) c) (read_plan (and_then (further_plan (n - 1) at.tvf) (λ further. done (placed numbers (at.tvf ∷ further)))) b)
  after_numbers n d b numbers e there =
      subst (λ (r : Result (List VectorPlace × Cursor) Broken). Continues r (read_plan (and_then (further_plan (n - 1) at.tvf) (λ further. done (placed numbers (at.tvf ∷ further)))) b)) (sym (from_count n d e))
      (then-left (numbers_plan asked fields n []) (λ ns. and_then (further_plan (n - 1) at.tvf) (λ further. done (placed ns (at.tvf ∷ further)))) d numbers b there)

  pub document-further_broken : (n : ℕ) (d b : Cursor) (numbers : List ℕ) (e : Broken) → record_at count_shape (λ _. count_conditions at.tvd c.place) c ≡ Ok (count n, d) → reads_numbers asked fields n [] d ≡ Ok (numbers, b)
      → reads_further (n - 1) at.tvf b ≡ Err e → read_plan (document_plan asked fields at) c ≡ Err e
  document-further_broken n d b numbers fault e there broken =
      Continues-err (read_plan (document_plan asked fields at) c) (read_plan (and_then (further_plan (n - 1) at.tvf) (λ further. done (placed numbers (at.tvf ∷ further)))) b) fault (after_numbers n d b numbers e there)
      (then-broken (further_plan (n - 1) at.tvf) (λ further. done (placed numbers (at.tvf ∷ further))) b fault broken)

  pub document-read : (n : ℕ) (d b z : Cursor) (numbers further : List ℕ) → record_at count_shape (λ _. count_conditions at.tvd c.place) c ≡ Ok (count n, d) → reads_numbers asked fields n [] d ≡ Ok (numbers, b)
      → reads_further (n - 1) at.tvf b ≡ Ok (further, z) → (v : List VectorPlace) × (read_plan (document_plan asked fields at) c ≡ Ok (v, z))
  unfolding read_plan
  document-read n d b z numbers further e there behind =
      let tail = read_plan (and_then (further_plan (n - 1) at.tvf) (λ more. done (placed numbers (at.tvf ∷ more)))) b in
      let to = after_numbers n d b numbers e there in
      let last = then-left (further_plan (n - 1) at.tvf) (λ more. done (placed numbers (at.tvf ∷ more))) b further z behind in
      let whole = Continues-then (read_plan (document_plan asked fields at) c) tail (Ok (placed numbers (at.tvf ∷ further), z)) to last in
      (whole.make (placed numbers (at.tvf ∷ further)), Continues-ok (read_plan (document_plan asked fields at) c) (Ok (placed numbers (at.tvf ∷ further), z)) (placed numbers (at.tvf ∷ further)) z whole refl)
