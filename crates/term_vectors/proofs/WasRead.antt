-- What it says of `.tvd` that it was read: the parts of its documents.
use Rattle.std.proofs.Common.{◌≡◌, ℕ, zero, suc, ◌+◌, ◌-◌, ◌<◌, ◌≤◌, Bool, true, false, not, eqb, List, [], ◌∷◌, length, Option, Some, None, Ok, Err, refl, sym, ap, ◌∙◌, arith}
use Rattle.std.proofs.lemmas.List.{nil_from_length}
use Rattle.lu_grammar.specs.declared.bad.Bad.{Bad}
use Rattle.lu_grammar.specs.Bytes.{Cursor, start_of, moved}
use Rattle.lu_grammar.specs.Parts.{int32, num}
use Rattle.lu_grammar.specs.Reading.{read_part}
use Rattle.lu_grammar.specs.Records.{first_broken, rule_of, record_at}
use Rattle.lu_grammar.specs.Plans.{done, read_plan, read_file}
use Rattle.lu_grammar.proofs.Codecs.{ok_pair, same_pair, ok_of, err_is_not_ok, then_ok, due_was, read_due, record_at-was, alone_was, alone_read, alone_breaks, alone_unread, read_plan-and_then, file_was, same-of, int32_read}
use Rattle.term_vectors.specs.declared.layout.DocumentPlaces.{DocumentPlaces}
use Rattle.term_vectors.specs.Format.{format_shape, headed}
use Rattle.term_vectors.specs.Fields.{TvdRecord, VectorPlace, format, count, number, stated, format_conditions, count_shape, count_conditions, number_shape, number_conditions, numbers_plan, difference_shape, difference_conditions, further_plan, placed, document_plan, is_within, no_window, documents_plan, tvd_plan}
use Rattle.term_vectors.proofs.Steps.{headed_was}
use Rattle.term_vectors.proofs.TurnLemmas.{AreLeft, one-passed, turn-broken}
use Rattle.term_vectors.proofs.FieldLemmas.{reads_numbers, numbers-left, numbers-broken, reads_further, further_of, rest_of_document}

-- ---- the fields of a document's vectors

-- where all are read, no number is at fault
pub numbers-no_fault : (total i : ℕ) (start here : Cursor) (before : List ℕ) (x : List ℕ × Cursor) (rule : ℕ) → reads_numbers false [] total [] start ≡ ok_of x → AreLeft (reads_numbers false []) total [] start i before here → i < total
    → record_at number_shape (λ r. number_conditions false [] before (stated r)) here ≡ Err rule → ⊥
numbers-no_fault total i start here before x rule all left lt broken =
    err_is_not_ok (sym (turn-broken (reads_numbers false []) total [] start i before here (record { offset = here.place; rule = rule }) left lt (λ n. numbers-broken false [] n before here rule broken)) ∙ all)

pub numbers-unread : (before : List ℕ) (here : Cursor) (bad : Bad) → read_part num here ≡ Err bad → record_at number_shape (λ r. number_conditions false [] before (stated r)) here ≡ Err (rule_of bad)
numbers-unread before here bad e = alone_unread num (λ n. number n) (λ r. number_conditions false [] before (stated r)) here bad (rule_of bad) e refl

pub numbers-next : (total i : ℕ) (start here next : Cursor) (before : List ℕ) (n : ℕ) (x : List ℕ × Cursor) → reads_numbers false [] total [] start ≡ ok_of x → AreLeft (reads_numbers false []) total [] start i before here → i < total
    → read_part num here ≡ Ok (n, next) → AreLeft (reads_numbers false []) total [] start (i + 1) (n ∷ before) next
numbers-next total i start here next before n x all left lt e = go (first_broken (number_conditions false [] before n)) refl
  where
    go : (o : Option ℕ) → first_broken (number_conditions false [] before n) ≡ o → AreLeft (reads_numbers false []) total [] start (i + 1) (n ∷ before) next
    go None good =
        one-passed (reads_numbers false []) total [] start i before (n ∷ before) here next left lt
        (λ k. numbers-left false [] k before here n next (alone_read num (λ m. number m) (λ r. number_conditions false [] before (stated r)) here next n e good))
    go (Some rule) bad = absurd (numbers-no_fault total i start here before x rule all left lt (alone_breaks num (λ m. number m) (λ r. number_conditions false [] before (stated r)) here next n rule e bad))

pub numbers-many : (n : ℕ) (before : List ℕ) (c : Cursor) (all : List ℕ) (d : Cursor) → reads_numbers false [] n before c ≡ Ok (all, d) → length all ≡ n
unfolding numbers_plan read_plan
numbers-many zero before c all d e = ap length (sym (same_pair [] all c d e).0)
numbers-many (suc n) before c all d e =
    let head = due_was number_shape (λ _ r. number_conditions false [] before (stated r)) (λ _ r. headed (stated r) (numbers_plan false [] n (stated r ∷ before))) c (all, d) e in
    let rest = headed_was (stated head.0.0) (numbers_plan false [] n (stated head.0.0 ∷ before)) head.0.1 all d head.2 in
    ap length rest.2 ∙ ap suc (numbers-many n (stated head.0.0 ∷ before) head.0.1 rest.0 d rest.1)

-- ---- the places of further vectors

pub further-next : (n place : ℕ) (c : Cursor) (all : List ℕ) (d : Cursor) (r : TvdRecord) (b : Cursor) → reads_further (suc n) place c ≡ Ok (all, d) → record_at difference_shape (λ s. difference_conditions place (stated s)) c ≡ Ok (r, b)
    → (rest : List ℕ) × (reads_further n (place + stated r) b ≡ Ok (rest, d)) × (all ≡ (place + stated r) ∷ rest)
unfolding further_plan
further-next n place c all d r b e here =
    headed_was (place + stated r) (further_plan n (place + stated r)) b all d
    (sym (read_due difference_shape (λ _ s. difference_conditions place (stated s)) (λ _ s. headed (place + stated s) (further_plan n (place + stated s))) c r b here) ∙ e)

pub further-ends : (place : ℕ) (c : Cursor) (all : List ℕ) (d : Cursor) → reads_further 0 place c ≡ Ok (all, d) → (all ≡ []) × (c ≡ d)
unfolding further_plan read_plan
further-ends place c all d e = let same = same_pair [] all c d e in (sym same.0, same.1)

-- ---- a document

-- its parts
pub record DocumentWas (places : DocumentPlaces) (c : Cursor) (slots : List VectorPlace) (d : Cursor) : Type 0 where
  pub count : ℕ
  pub from : Cursor
  pub counted : read_part num c ≡ ok_pair count from
  pub start : c.place ≡ places.tvd
  pub numbers : List ℕ
  pub behind : Cursor
  pub numbered : reads_numbers false [] count [] from ≡ ok_pair numbers behind
  pub many : length numbers ≡ count
  pub further : List ℕ
  pub placed_so : reads_further (count - 1) places.tvf behind ≡ ok_pair further d
  pub all : slots ≡ placed numbers (places.tvf ∷ further)

pub document_was : (places : DocumentPlaces) (c : Cursor) (slots : List VectorPlace) (d : Cursor) → read_plan (document_plan false [] places) c ≡ ok_pair slots d → DocumentWas places c slots d
unfolding read_plan
document_was places c slots d e =
    let head = due_was count_shape (λ place _. count_conditions places.tvd place) (λ _ r. rest_of_document false [] places (stated r)) c (slots, d) e in
    let judged = record_at-was count_shape (λ _. count_conditions places.tvd c.place) c head.0.0 head.0.1 head.1 in
    let part = alone_was num (λ n. count n) c head.0.0 head.0.1 judged.0 in
    let n = stated head.0.0 in
    let is : part.0 ≡ n = ap stated part.2 in
    let first = then_ok (reads_numbers false [] n [] head.0.1) (λ x. read_plan (further_of places n x.0) x.1) (slots, d) (sym (read_plan-and_then (numbers_plan false [] n []) (further_of places n) head.0.1) ∙ head.2) in
    let second = then_ok (reads_further (n - 1) places.tvf first.0.1) (λ x. ok_pair (placed first.0.0 (places.tvf ∷ x.0)) x.1) (slots, d)
    (sym (read_plan-and_then (further_plan (n - 1) places.tvf) (λ further. done (placed first.0.0 (places.tvf ∷ further))) first.0.1) ∙ first.2) in
    let same = same_pair (placed first.0.0 (places.tvf ∷ second.0.0)) slots second.0.1 d second.2 in
    record {
      count = n;
      from = head.0.1;
      counted = part.1 ∙ ap (λ (k : ℕ). ok_pair k head.0.1) is;
      start = at_place c.place places.tvd judged.1;
      numbers = first.0.0;
      behind = first.0.1;
      numbered = first.1;
      many = numbers-many n [] head.0.1 first.0.0 first.0.1 first.1;
      further = second.0.0;
      placed_so = second.1 ∙ ap (λ (x : Cursor). ok_pair second.0.0 x) same.1;
      all = sym same.0;
    }
  where
    at_place : (place wanted : ℕ) → first_broken (count_conditions wanted place) ≡ None → place ≡ wanted
    at_place place wanted h = same-of place wanted (none_broken (not (eqb place wanted)) h)
      where
        none_broken : (b : Bool) → first_broken (record { rule = 99; broken = b } ∷ []) ≡ None → b ≡ false
        none_broken true h = cc
        none_broken false h = refl

-- ---- the documents

-- the first of them, and the others
pub documents_was : (i : ℕ) (at : DocumentPlaces) (places : List DocumentPlaces) (c : Cursor) (all : List (List VectorPlace)) (d : Cursor) → read_plan (documents_plan [] no_window i (at ∷ places)) c ≡ ok_pair all d
    → (x : List VectorPlace × Cursor) × (read_plan (document_plan (is_within no_window i) [] at) c ≡ ok_of x)
    × ((rest : List (List VectorPlace)) × (read_plan (documents_plan [] no_window (suc i) places) x.1 ≡ ok_pair rest d) × (all ≡ x.0 ∷ rest))
unfolding documents_plan
documents_was i at places c all d e =
    let rest = λ (v : List VectorPlace). headed v (documents_plan [] no_window (suc i) places) in
    let first = then_ok (read_plan (document_plan (is_within no_window i) [] at) c) (λ x. read_plan (rest x.0) x.1) (all, d) (sym (read_plan-and_then (document_plan (is_within no_window i) [] at) rest c) ∙ e) in
    (first.0, first.1, headed_was first.0.0 (documents_plan [] no_window (suc i) places) first.0.1 all d first.2)

-- the documents of a `.tvd` that was read
pub tvd_was : (places : List DocumentPlaces) (tvd : List ℕ) (all : List (List VectorPlace)) → read_file (tvd_plan [] no_window places) tvd ≡ ok_of all
    → (4 ≤ length tvd) × ((d : Cursor) × (read_plan (documents_plan [] no_window 0 places) (moved 4 (start_of tvd)) ≡ ok_pair all d))
tvd_was places tvd all e =
    let file = file_was (tvd_plan [] no_window places) tvd all e in
    let head = due_was (format_shape format) (λ _ r. format_conditions r) (λ _ _. documents_plan [] no_window 0 places) (start_of tvd) (all, file.0) file.1 in
    let judged = record_at-was (format_shape format) format_conditions (start_of tvd) head.0.0 head.0.1 head.1 in
    let read = alone_was int32 (λ z. format z) (start_of tvd) head.0.0 head.0.1 judged.0 in
    let four = int32_read (start_of tvd) head.0.1 read.0 read.1 in
    (four.0, (file.0, ap (λ (c : Cursor). read_plan (documents_plan [] no_window 0 places) c) (sym four.1) ∙ head.2))

-- ---- what is left of a document whose number of vectors was read

module _ (places : DocumentPlaces) (c : Cursor) (slots : List VectorPlace) (d : Cursor) (was : DocumentWas places c slots d) where
  pub numbers_from : (n : ℕ) (b : Cursor) → read_part num c ≡ ok_pair n b → (reads_numbers false [] n [] b ≡ ok_pair was.numbers was.behind) × (n ≡ was.count)
  numbers_from n b e =
      let same = same_pair was.count n was.from b (sym was.counted ∙ e) in
      (ap (λ (k : ℕ). reads_numbers false [] k [] b) (sym same.0) ∙ ap (λ (x : Cursor). reads_numbers false [] was.count [] x) (sym same.1) ∙ was.numbered, sym same.0)

  pub document-none : was.count ≡ 0 → (slots ≡ []) × (was.behind ≡ d)
  unfolding placed
  document-none none =
      let no_numbers : was.numbers ≡ [] = nil_from_length was.numbers (was.many ∙ none) in
      let less : was.count - 1 ≡ 0 = omega arith in (
        was.all ∙ ap (λ (ns : List ℕ). placed ns (places.tvf ∷ was.further)) no_numbers,
        (further-ends places.tvf was.behind was.further d (ap (λ (k : ℕ). reads_further k places.tvf was.behind) (sym less) ∙ was.placed_so)).1,
      )

  -- the first vector, and the others
  pub record First : Type 0 where
    pub field : ℕ
    pub numbers : List ℕ
    pub many : length numbers ≡ was.count - 1
    pub all : slots ≡ record { field = field; place = places.tvf } ∷ placed numbers was.further

  pub document-some : 0 < was.count → First
  unfolding placed
  document-some some = go was.numbers was.many was.all
    where
      go : (ns : List ℕ) → length ns ≡ was.count → slots ≡ placed ns (places.tvf ∷ was.further) → First
      go [] many all = absurd (omega arith)
      go (n ∷ ns) many all = record { field = n; numbers = ns; many = omega arith; all = all }
