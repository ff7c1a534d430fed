-- `.tvf` beside `.tvd`: the vectors at the places that are read on the way.
use Rattle.std.proofs.Common.{◌≡◌, ℕ, suc, ◌+◌, ◌-◌, ◌<◌, false, Bool, List, [], ◌∷◌, length, drop, get_or, Result, Ok, Err, refl, sym, ap, subst, ◌∙◌, arith, add-one}
use Rattle.std.proofs.Math.Seq.{drop-cons, drop-length}
use Rattle.lu_types.specs.declared.kind.FileKind.{FileKind}
use Rattle.lu_types.specs.declared.fault.CodecFault.{CodecFault}
use Rattle.lu_types.specs.Judging.{IsBrokenSo}
use Rattle.lu_grammar.specs.Bytes.{Cursor}
use Rattle.lu_grammar.specs.Reading.{value_or}
use Rattle.lu_grammar.specs.Records.{record_at}
use Rattle.lu_grammar.specs.Plans.{Broken, read_plan}
use Rattle.lu_grammar.proofs.Codecs.{ok_pair, ok_of, same_pair, err_is_not_ok}
use Rattle.term_vectors.specs.declared.layout.DocumentPlaces.{DocumentPlaces}
use Rattle.term_vectors.specs.Fields.{TvdRecord, VectorPlace, stated, difference_shape, difference_conditions, placed, document_plan, no_window, documents_plan}
use Rattle.term_vectors.specs.Vectors.{StoredVector, vector_plan}
use Rattle.term_vectors.specs.InnerAnswers.{PassesIn}
use Rattle.term_vectors.proofs.Steps.{Continues, Continues-same, Continues-then, Continues-ok, Continues-broken_so}
use Rattle.term_vectors.proofs.FieldLemmas.{reads_further, further-broken}
use Rattle.term_vectors.proofs.DocumentLemmas.{no_places}
use Rattle.term_vectors.proofs.Unasked.{outside}
use Rattle.term_vectors.proofs.VectorLemmas.{reads_vectors, vectors-left, vectors-broken, vectors-done, reads_all, all-left, all-broken, all-done}
use Rattle.term_vectors.proofs.WasRead.{further-next, further-ends, documents_was}

-- what a call answers of what is left it answers of all
pub Continues-passes : {A B : Type 0} (kind : FileKind) (all : Result (A × Cursor) Broken) (left : Result (B × Cursor) Broken) (new : Cursor) (result : Result (Unit {0}) CodecFault) → Continues all left → PassesIn kind left new result → PassesIn kind all new result
Continues-passes kind all left new (Ok u) h p = (h.make p.0, Continues-ok all left p.0 new h p.1)
Continues-passes kind all left new (Err fault) h p = Continues-broken_so kind all left fault h p

abbrev pub slot : ℕ → ℕ → VectorPlace
slot field place = record { field = field; place = place }

-- ---- the further vectors of a document

-- the places that are read, and where they end
abbrev pub all_further : ℕ → ℕ → Cursor → List ℕ × Cursor
all_further count place start = value_or ([], start) (reads_further count place start)

pub one_left : (xs : List ℕ) (i : ℕ) → i < length xs → drop i xs ≡ get_or xs i 0 ∷ drop (i + 1) xs
one_left xs i lt = drop-cons xs i 0 lt ∙ ap (λ (k : ℕ). get_or xs i 0 ∷ drop k xs) (sym (add-one i))

module _ (count place : ℕ) (start first : Cursor) where
  -- so many of the vectors are passed, and the places of the others are left to read
  pub record IsWalked (i before : ℕ) (beside here : Cursor) : Type 0 where
    pub rest : List ℕ
    pub left : reads_further (count - i) before beside ≡ ok_pair rest (all_further count place start).1
    pub vectors : (numbers : List ℕ) → length numbers ≡ count → Continues (reads_vectors (placed numbers (all_further count place start).0) first) (reads_vectors (placed (drop i numbers) rest) here)

  pub walked-none : (x : List ℕ × Cursor) → reads_further count place start ≡ ok_of x → IsWalked 0 place start first
  walked-none x e =
      let all : count - 0 ≡ count = omega arith in
      let is : all_further count place start ≡ x = ap (value_or ([], start)) e in
      record {
        rest = (all_further count place start).0;
        left = ap (λ (k : ℕ). reads_further k place start) all ∙ e ∙ ap ok_of (sym is);
        vectors = λ numbers many. Continues-same (reads_vectors (placed numbers (all_further count place start).0) first) (reads_vectors (placed (drop 0 numbers) (all_further count place start).0) first) refl;
      }

  -- the next place
  record Next (i before : ℕ) (r : TvdRecord) (beside here next : Cursor) (w : IsWalked i before beside here) : Type 0 where
    more : List ℕ
    left : reads_further (count - (i + 1)) (before + stated r) next ≡ ok_pair more (all_further count place start).1
    rest : w.rest ≡ (before + stated r) ∷ more

  next_of : (i before : ℕ) (r : TvdRecord) (beside here next : Cursor) (w : IsWalked i before beside here) → i < count → record_at difference_shape (λ s. difference_conditions before (stated s)) beside ≡ Ok (r, next) → Next i before r beside here next w
  next_of i before r beside here next w lt e =
      let more : count - i ≡ suc (count - (i + 1)) = omega arith in
      let was = further-next (count - (i + 1)) before beside w.rest (all_further count place start).1 r next (ap (λ (k : ℕ). reads_further k before beside) (sym more) ∙ w.left) e in
      record { more = was.0; left = was.1; rest = was.2 }

  -- the vectors that are left begin with one at this place
  begins : (i p : ℕ) (here : Cursor) (rest more : List ℕ) (numbers : List ℕ) → length numbers ≡ count → i < count → rest ≡ p ∷ more → reads_vectors (placed (drop i numbers) rest) here ≡ reads_vectors (slot (get_or numbers i 0) p ∷ placed (drop (i + 1) numbers) more) here
  unfolding placed
  begins i p here rest more numbers many lt is =
      let below : i < length numbers = omega arith in
      ap (λ (ns : List ℕ). reads_vectors (placed ns rest) here) (one_left numbers i below) ∙ ap (λ (ps : List ℕ). reads_vectors (placed (get_or numbers i 0 ∷ drop (i + 1) numbers) ps) here) is

  pub walked-more : (i before p : ℕ) (r : TvdRecord) (beside here next to : Cursor) → IsWalked i before beside here → i < count → record_at difference_shape (λ s. difference_conditions before (stated s)) beside ≡ Ok (r, next) → p ≡ before + stated r
      → ((field : ℕ) → (v : StoredVector) × (read_plan (vector_plan (slot field p)) here ≡ Ok (v, to))) → IsWalked (i + 1) p next to
  walked-more i before p r beside here next to w lt e is passed =
      let n = next_of i before r beside here next w lt e in
      record {
        rest = n.more;
        left = ap (λ (k : ℕ). reads_further (count - (i + 1)) k next) is ∙ n.left;
        vectors = λ numbers many.
            let v = passed (get_or numbers i 0) in
            let rest : w.rest ≡ p ∷ n.more = n.rest ∙ ap (λ (k : ℕ). k ∷ n.more) (sym is) in
            let all = reads_vectors (placed numbers (all_further count place start).0) first in
            let step = vectors-left (slot (get_or numbers i 0) p) (placed (drop (i + 1) numbers) n.more) here v.0 to v.1 in
            let from = w.vectors numbers many in
            Continues-then all (reads_vectors (slot (get_or numbers i 0) p ∷ placed (drop (i + 1) numbers) n.more) here) (reads_vectors (placed (drop (i + 1) numbers) n.more) to)
            (subst (λ (x : Result (List StoredVector × Cursor) Broken). Continues all x) (begins i p here w.rest n.more numbers many lt rest) from) step;
      }

  pub walked-fault : (kind : FileKind) (i before p : ℕ) (r : TvdRecord) (beside here next : Cursor) (fault : CodecFault) → IsWalked i before beside here → i < count → record_at difference_shape (λ s. difference_conditions before (stated s)) beside ≡ Ok (r, next)
      → p ≡ before + stated r → ((field : ℕ) → IsBrokenSo kind (read_plan (vector_plan (slot field p)) here) fault) → (numbers : List ℕ) → length numbers ≡ count
      → IsBrokenSo kind (reads_vectors (placed numbers (all_further count place start).0) first) fault
  walked-fault kind i before p r beside here next fault w lt e is broken numbers many =
      let n = next_of i before r beside here next w lt e in
      let rest : w.rest ≡ p ∷ n.more = n.rest ∙ ap (λ (k : ℕ). k ∷ n.more) (sym is) in
      let all = reads_vectors (placed numbers (all_further count place start).0) first in
      Continues-broken_so kind all (reads_vectors (placed (drop i numbers) w.rest) here) fault (w.vectors numbers many)
      (subst (λ (x : Result (List StoredVector × Cursor) Broken). IsBrokenSo kind x fault) (sym (begins i p here w.rest n.more numbers many lt rest))
      (vectors-broken kind (slot (get_or numbers i 0) p) (placed (drop (i + 1) numbers) n.more) here fault (broken (get_or numbers i 0))))

  pub walked-no_fault : (i before : ℕ) (beside here : Cursor) (rule : ℕ) → IsWalked i before beside here → i < count → record_at difference_shape (λ s. difference_conditions before (stated s)) beside ≡ Err rule → ⊥
  walked-no_fault i before beside here rule w lt e =
      let more : count - i ≡ suc (count - (i + 1)) = omega arith in
      err_is_not_ok (sym (further-broken (count - (i + 1)) before beside rule e) ∙ ap (λ (k : ℕ). reads_further k before beside) (sym more) ∙ w.left)

  pub walked-end : (i before : ℕ) (beside here : Cursor) → IsWalked i before beside here → i ≡ count → (beside ≡ (all_further count place start).1)
      × ((numbers : List ℕ) → length numbers ≡ count → (v : List StoredVector) × (reads_vectors (placed numbers (all_further count place start).0) first ≡ Ok (v, here)))
  unfolding placed
  walked-end i before beside here w is =
      let none : count - i ≡ 0 = omega arith in
      let end = further-ends before beside w.rest (all_further count place start).1 (ap (λ (k : ℕ). reads_further k before beside) (sym none) ∙ w.left) in (
        end.1,
        λ numbers many.
            let all = reads_vectors (placed numbers (all_further count place start).0) first in
            let past : drop i numbers ≡ [] = ap (λ (k : ℕ). drop k numbers) (is ∙ sym many) ∙ drop-length numbers in
            let h = w.vectors numbers many in
            (h.make [], Continues-ok all (reads_vectors (placed (drop i numbers) w.rest) here) [] here h (ap (λ (ns : List ℕ). reads_vectors (placed ns w.rest) here) past ∙ vectors-done here)),
      )

-- ---- the documents

module _ (places : List DocumentPlaces) (slots : List (List VectorPlace)) (end first : Cursor) where
  -- so many documents are passed in both files
  pub record ArePassed (i : ℕ) (beside here : Cursor) : Type 0 where
    pub rest : List (List VectorPlace)
    pub left : read_plan (documents_plan [] no_window i (drop i places)) beside ≡ ok_pair rest end
    pub vectors : Continues (reads_all slots first) (reads_all rest here)

  -- the next document
  pub record NextDocument (i : ℕ) (at : DocumentPlaces) (beside here : Cursor) (w : ArePassed i beside here) : Type 0 where
    pub it : List VectorPlace
    pub behind : Cursor
    pub reads : read_plan (document_plan false [] at) beside ≡ ok_pair it behind
    pub more : List (List VectorPlace)
    pub left : read_plan (documents_plan [] no_window (i + 1) (drop (i + 1) places)) behind ≡ ok_pair more end
    pub rest : w.rest ≡ it ∷ more

  pub next_document : (i : ℕ) (at : DocumentPlaces) (beside here : Cursor) (w : ArePassed i beside here) → i < length places → at ≡ get_or places i no_places → NextDocument i at beside here w
  next_document i at beside here w lt is =
      let all : drop i places ≡ at ∷ drop (i + 1) places = drop-cons places i no_places lt ∙ ap (λ (k : ℕ). get_or places i no_places ∷ drop k places) (sym (add-one i)) ∙ ap (λ (p : DocumentPlaces). p ∷ drop (i + 1) places) (sym is) in
      let was = documents_was i at (drop (i + 1) places) beside w.rest end (ap (λ (ps : List DocumentPlaces). read_plan (documents_plan [] no_window i ps) beside) (sym all) ∙ w.left) in
      record {
        it = was.0.0;
        behind = was.0.1;
        reads = ap (λ (b : Bool). read_plan (document_plan b [] at) beside) (sym (outside i)) ∙ was.1;
        more = was.2.0;
        left = ap (λ (k : ℕ). read_plan (documents_plan [] no_window k (drop (i + 1) places)) was.0.1) (add-one i) ∙ was.2.1;
        rest = was.2.2;
      }

  pub passed-more : (i : ℕ) (at : DocumentPlaces) (beside here next to : Cursor) (w : ArePassed i beside here) (n : NextDocument i at beside here w) (v : List StoredVector) → reads_vectors n.it here ≡ Ok (v, to) → next ≡ n.behind → ArePassed (i + 1) next to
  passed-more i at beside here next to w n v e is = record {
    rest = n.more;
    left = ap (λ (c : Cursor). read_plan (documents_plan [] no_window (i + 1) (drop (i + 1) places)) c) is ∙ n.left;
    vectors =
        Continues-then (reads_all slots first) (reads_all (n.it ∷ n.more) here) (reads_all n.more to)
        (subst (λ (ss : List (List VectorPlace)). Continues (reads_all slots first) (reads_all ss here)) n.rest w.vectors) (all-left n.it n.more here v to e);
  }

  pub passed-fault : (kind : FileKind) (i : ℕ) (at : DocumentPlaces) (beside here : Cursor) (fault : CodecFault) (w : ArePassed i beside here) (n : NextDocument i at beside here w) → IsBrokenSo kind (reads_vectors n.it here) fault
      → IsBrokenSo kind (reads_all slots first) fault
  passed-fault kind i at beside here fault w n broken =
      Continues-broken_so kind (reads_all slots first) (reads_all (n.it ∷ n.more) here) fault (subst (λ (ss : List (List VectorPlace)). Continues (reads_all slots first) (reads_all ss here)) n.rest w.vectors) (all-broken kind n.it n.more here fault broken)

  pub passed-all : (i : ℕ) (beside here : Cursor) → ArePassed i beside here → i ≡ length places → (v : List (List StoredVector)) × (reads_all slots first ≡ Ok (v, here))
  unfolding documents_plan read_plan
  passed-all i beside here w is =
      let past : drop i places ≡ [] = ap (λ (k : ℕ). drop k places) is ∙ drop-length places in
      let none = same_pair [] w.rest beside end (ap (λ (ps : List DocumentPlaces). read_plan (documents_plan [] no_window i ps) beside) (sym past) ∙ w.left) in
      (w.vectors.make [], Continues-ok (reads_all slots first) (reads_all w.rest here) [] here w.vectors (ap (λ (ss : List (List VectorPlace)). reads_all ss here) (sym none.0) ∙ all-done here))
