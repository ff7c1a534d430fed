-- Where the vectors of a document stand, by their number.
use Rattle.std.proofs.Common.{◌≡◌, ℕ, zero, suc, ◌+◌, ◌-◌, ◌<◌, ◌≤◌, Bool, true, false, eqb, cond, List, [], ◌∷◌, length, drop, get_or, None, Ok, Err, refl, sym, ap, ◌∙◌, arith, add-one}
use Rattle.std.proofs.lemmas.Bool.{eqb-true, eqb-false}
use Rattle.lu_grammar.specs.declared.bad.Bad.{Bad}
use Rattle.lu_grammar.specs.Bytes.{Cursor}
use Rattle.lu_grammar.specs.Parts.{num}
use Rattle.lu_grammar.specs.Reading.{read_part, value_or}
use Rattle.lu_grammar.specs.Records.{record_at}
use Rattle.lu_grammar.specs.Plans.{Plan, done, and_then, read_plan}
use Rattle.lu_grammar.proofs.Codecs.{ok_pair, same_pair, ok_of, err_is_not_ok, then_ok, due_was, read_due, record_at-was, alone_was, read_plan-and_then}
use Rattle.lu_model.specs.Index.{VectorTerm}
use Rattle.term_vectors.specs.Format.{headed}
use Rattle.term_vectors.specs.Fields.{TvdRecord, VectorPlace, number, stated, number_shape, number_conditions, numbers_plan, difference_shape, difference_conditions, further_plan, placed}
use Rattle.term_vectors.specs.Vectors.{TvfRecord, StoredVector, bits_of_heading, count_of_heading, heading_shape, heading_conditions, terms_plan, vector_plan}
use Rattle.term_vectors.specs.InnerViews.{no_slot, slots_plan, IsVectorThere, AreAllThere}
use Rattle.term_vectors.proofs.Steps.{headed_was}
use Rattle.term_vectors.proofs.FieldLemmas.{reads_numbers, reads_further, further-broken}
use Rattle.term_vectors.proofs.TermLemmas.{reads_terms}
use Rattle.term_vectors.proofs.VectorLemmas.{vector_of, rest_of_vector}
use Rattle.term_vectors.proofs.WasRead.{numbers-many, further-next, further-ends}
use Rattle.term_vectors.proofs.WalkLemmas.{one_left}

-- ---- fields and places

pub numbers_was : (n : ℕ) (before : List ℕ) (c : Cursor) (all : List ℕ) (d : Cursor) → reads_numbers false [] (suc n) before c ≡ Ok (all, d)
    → (x : ℕ × Cursor) × (read_part num c ≡ ok_of x) × ((rest : List ℕ) × (reads_numbers false [] n (x.0 ∷ before) x.1 ≡ Ok (rest, d)) × (all ≡ x.0 ∷ rest))
unfolding numbers_plan
numbers_was n before c all d e =
    let head = due_was number_shape (λ _ r. number_conditions false [] before (stated r)) (λ _ r. headed (stated r) (numbers_plan false [] n (stated r ∷ before))) c (all, d) e in
    let judged = record_at-was number_shape (λ r. number_conditions false [] before (stated r)) c head.0.0 head.0.1 head.1 in
    let part = alone_was num (λ m. number m) c head.0.0 head.0.1 judged.0 in
    let is : part.0 ≡ stated head.0.0 = ap stated part.2 in
    ((stated head.0.0, head.0.1), part.1 ∙ ap (λ (k : ℕ). ok_pair k head.0.1) is, headed_was (stated head.0.0) (numbers_plan false [] n (stated head.0.0 ∷ before)) head.0.1 all d head.2)

pub further-many : (n place : ℕ) (c : Cursor) (all : List ℕ) (d : Cursor) → reads_further n place c ≡ Ok (all, d) → length all ≡ n
unfolding further_plan
further-many zero place c all d e = ap length (further-ends place c all d e).0
further-many (suc n) place c all d e =
    let head = due_was difference_shape (λ _ r. difference_conditions place (stated r)) (λ _ r. headed (place + stated r) (further_plan n (place + stated r))) c (all, d) e in
    let rest = headed_was (place + stated head.0.0) (further_plan n (place + stated head.0.0)) head.0.1 all d head.2 in
    ap length rest.2 ∙ ap suc (further-many n (place + stated head.0.0) head.0.1 rest.0 d rest.1)

same_cons : (x y : ℕ) (xs ys : List ℕ) → x ∷ xs ≡ y ∷ ys → (x ≡ y) × (xs ≡ ys)
same_cons x y xs ys e = (cc, cc)

pub placed-many : (ns ps : List ℕ) → length ns ≤ length ps → length (placed ns ps) ≡ length ns
unfolding placed
placed-many [] ps le = refl
placed-many (n ∷ ns) [] le = absurd (omega arith)
placed-many (n ∷ ns) (p ∷ ps) le = ap suc (placed-many ns ps (omega arith))

pub placed-get : (ns ps : List ℕ) (i : ℕ) → i < length ns → length ns ≤ length ps → get_or (placed ns ps) i no_slot ≡ record { field = get_or ns i 0; place = get_or ps i 0 }
unfolding placed
placed-get [] ps i lt le = absurd (omega arith)
placed-get (n ∷ ns) [] i lt le = absurd (omega arith)
placed-get (n ∷ ns) (p ∷ ps) zero lt le = refl
placed-get (n ∷ ns) (p ∷ ps) (suc i) lt le = placed-get ns ps i (omega arith) (omega arith)

-- the parts of what is read of a document
pub record SlotsWere (count place : ℕ) (c : Cursor) (slots : List VectorPlace) (d : Cursor) : Type 0 where
  pub numbers : List ℕ
  pub behind : Cursor
  pub numbered : reads_numbers false [] count [] c ≡ ok_pair numbers behind
  pub many : length numbers ≡ count
  pub further : List ℕ
  pub placed_so : reads_further (count - 1) place behind ≡ ok_pair further d
  pub others : length further ≡ count - 1
  pub all : slots ≡ placed numbers (place ∷ further)

abbrev further_tail : ℕ → ℕ → List ℕ → Plan (List VectorPlace) TvdRecord
further_tail count place ns = and_then (further_plan (count - 1) place) (λ further. done (placed ns (place ∷ further)))

pub slots_were : (count place : ℕ) (c : Cursor) (slots : List VectorPlace) (d : Cursor) → read_plan (slots_plan count place) c ≡ Ok (slots, d) → SlotsWere count place c slots d
unfolding read_plan
slots_were count place c slots d e =
    let first = then_ok (reads_numbers false [] count [] c) (λ x. read_plan (further_tail count place x.0) x.1) (slots, d) (sym (read_plan-and_then (numbers_plan false [] count []) (further_tail count place) c) ∙ e) in
    let second = then_ok (reads_further (count - 1) place first.0.1) (λ x. ok_pair (placed first.0.0 (place ∷ x.0)) x.1) (slots, d)
    (sym (read_plan-and_then (further_plan (count - 1) place) (λ further. done (placed first.0.0 (place ∷ further))) first.0.1) ∙ first.2) in
    let same = same_pair (placed first.0.0 (place ∷ second.0.0)) slots second.0.1 d second.2 in
    let there : reads_further (count - 1) place first.0.1 ≡ ok_pair second.0.0 d = second.1 ∙ ap (λ (x : Cursor). ok_pair second.0.0 x) same.1 in
    record {
      numbers = first.0.0;
      behind = first.0.1;
      numbered = first.1;
      many = numbers-many count [] c first.0.0 first.0.1 first.1;
      further = second.0.0;
      placed_so = there;
      others = further-many (count - 1) place first.0.1 second.0.0 d there;
      all = sym same.0;
    }

pub slots-many : (count place : ℕ) (c : Cursor) (slots : List VectorPlace) (d : Cursor) → read_plan (slots_plan count place) c ≡ Ok (slots, d) → length slots ≡ count
slots-many count place c slots d e =
    let were = slots_were count place c slots d e in
    let one : length (place ∷ were.further) ≡ suc (length were.further) = refl in
    let le : length were.numbers ≤ length (place ∷ were.further) = omega (arith, were.many, were.others) in
    ap length were.all ∙ placed-many were.numbers (place ∷ were.further) le ∙ were.many

-- ---- a walk to a field

abbrev pub all_numbers : ℕ → Cursor → List ℕ × Cursor
all_numbers count start = value_or ([], start) (reads_numbers false [] count [] start)

module _ (count nth : ℕ) (start : Cursor) where
  -- so many fields are passed, and the one that is wanted is kept once it is
  pub record NumberWalk (i found : ℕ) (beside : Cursor) : Type 0 where
    pub before : List ℕ
    pub left : reads_numbers false [] (count - i) before beside ≡ ok_pair (drop i (all_numbers count start).0) (all_numbers count start).1
    pub many : length (all_numbers count start).0 ≡ count
    pub kept : nth < i → found ≡ get_or (all_numbers count start).0 nth 0

  pub number-none : (x : List ℕ × Cursor) → reads_numbers false [] count [] start ≡ ok_of x → NumberWalk 0 0 start
  number-none x e =
      let all : count - 0 ≡ count = omega arith in
      let is : all_numbers count start ≡ x = ap (value_or ([], start)) e in
      record {
        before = [];
        left = ap (λ (k : ℕ). reads_numbers false [] k [] start) all ∙ e ∙ ap ok_of (sym is);
        many = ap (λ (y : List ℕ × Cursor). length y.0) is ∙ numbers-many count [] start x.0 x.1 e;
        kept = λ lt. absurd (omega arith);
      }

  pub number-there : (i found : ℕ) (beside : Cursor) (w : NumberWalk i found beside) → i < count
      → (x : ℕ × Cursor) × (read_part num beside ≡ ok_of x) × (reads_numbers false [] (count - (i + 1)) (x.0 ∷ w.before) x.1 ≡ ok_pair (drop (i + 1) (all_numbers count start).0) (all_numbers count start).1)
      × (get_or (all_numbers count start).0 i 0 ≡ x.0)
  number-there i found beside w lt =
      let all = (all_numbers count start).0 in
      let more : count - i ≡ suc (count - (i + 1)) = omega arith in
      let was = numbers_was (count - (i + 1)) w.before beside (drop i all) (all_numbers count start).1 (ap (λ (k : ℕ). reads_numbers false [] k w.before beside) (sym more) ∙ w.left) in
      let same = same_cons (get_or all i 0) was.0.0 (drop (i + 1) all) was.2.0 (sym (one_left all i (omega (arith, w.many))) ∙ was.2.2) in
      (was.0, was.1, was.2.1 ∙ ap (λ (ns : List ℕ). ok_pair ns (all_numbers count start).1) (sym same.1), same.0)

  pub number-no_fault : (i found : ℕ) (beside : Cursor) (bad : Bad) → NumberWalk i found beside → i < count → read_part num beside ≡ Err bad → ⊥
  number-no_fault i found beside bad w lt e = err_is_not_ok (sym e ∙ (number-there i found beside w lt).1)

  pub number-more : (i found here new : ℕ) (beside next : Cursor) → NumberWalk i found beside → i < count → read_part num beside ≡ Ok (here, next) → new ≡ cond (eqb i nth) here found → NumberWalk (i + 1) new next
  number-more i found here new beside next w lt e is =
      let there = number-there i found beside w lt in
      let same = same_pair here there.0.0 next there.0.1 (sym e ∙ there.1) in
      record {
        before = there.0.0 ∷ w.before;
        left = ap (λ (c : Cursor). reads_numbers false [] (count - (i + 1)) (there.0.0 ∷ w.before) c) same.1 ∙ there.2;
        many = w.many;
        kept = λ below. is ∙ go (eqb i nth) refl below (there.3 ∙ sym same.0);
      }
    where
      go : (b : Bool) → eqb i nth ≡ b → nth < i + 1 → get_or (all_numbers count start).0 i 0 ≡ here → cond b here found ≡ get_or (all_numbers count start).0 nth 0
      go true test below at = sym at ∙ ap (λ (k : ℕ). get_or (all_numbers count start).0 k 0) (eqb-true i nth test)
      go false test below at = let other = eqb-false i nth test in w.kept (omega arith)

  pub number-all : (i found : ℕ) (beside : Cursor) → NumberWalk i found beside → i ≡ count → nth < count → (found ≡ get_or (all_numbers count start).0 nth 0) × (beside ≡ (all_numbers count start).1)
  unfolding numbers_plan read_plan
  number-all i found beside w is lt =
      let none : count - i ≡ 0 = omega arith in
      let end = same_pair [] (drop i (all_numbers count start).0) beside (all_numbers count start).1 (ap (λ (k : ℕ). reads_numbers false [] k w.before beside) (sym none) ∙ w.left) in
      (w.kept (omega arith), end.1)

-- ---- a walk to a place

-- so many further places are passed, the last of them this one
pub record PlaceWalk (count place : ℕ) (further : List ℕ) (d : Cursor) (i last : ℕ) (beside : Cursor) : Type 0 where
  pub left : reads_further (count - i) last beside ≡ ok_pair (drop i further) d
  pub is : last ≡ get_or (place ∷ further) i 0

pub place-next : (count place : ℕ) (further : List ℕ) (d : Cursor) (i last : ℕ) (beside : Cursor) (r : TvdRecord) (next : Cursor) (new : ℕ) → length further ≡ count → PlaceWalk count place further d i last beside → i < count
    → record_at difference_shape (λ s. difference_conditions last (stated s)) beside ≡ Ok (r, next) → new ≡ last + stated r → PlaceWalk count place further d (i + 1) new next
place-next count place further d i last beside r next new many w lt e is =
    let more : count - i ≡ suc (count - (i + 1)) = omega arith in
    let was = further-next (count - (i + 1)) last beside (drop i further) d r next (ap (λ (k : ℕ). reads_further k last beside) (sym more) ∙ w.left) e in
    let same = same_cons (get_or further i 0) (last + stated r) (drop (i + 1) further) was.0 (sym (one_left further i (omega (arith, many))) ∙ was.2) in
    record {
      left = ap (λ (k : ℕ). reads_further (count - (i + 1)) k next) is ∙ was.1 ∙ ap (λ (ps : List ℕ). ok_pair ps d) (sym same.1);
      is = is ∙ sym same.0 ∙ ap (λ (k : ℕ). get_or (place ∷ further) k 0) (sym (add-one i));
    }

pub place-no_fault : (count place : ℕ) (further : List ℕ) (d : Cursor) (i last : ℕ) (beside : Cursor) (rule : ℕ) → PlaceWalk count place further d i last beside → i < count
    → record_at difference_shape (λ s. difference_conditions last (stated s)) beside ≡ Err rule → ⊥
place-no_fault count place further d i last beside rule w lt e =
    let more : count - i ≡ suc (count - (i + 1)) = omega arith in
    err_is_not_ok (sym (further-broken (count - (i + 1)) last beside rule e) ∙ ap (λ (k : ℕ). reads_further k last beside) (sym more) ∙ w.left)

-- ---- a vector

pub vector_was : (at : VectorPlace) (c : Cursor) (v : StoredVector) (d : Cursor) (r : TvfRecord) (b : Cursor) → read_plan (vector_plan at) c ≡ Ok (v, d) → record_at heading_shape (heading_conditions at.place c.place) c ≡ Ok (r, b)
    → (terms : List VectorTerm) × (reads_terms (bits_of_heading r) (count_of_heading r) None b ≡ Ok (terms, d)) × (v ≡ vector_of at r terms)
unfolding read_plan
vector_was at c v d r b e here =
    let rest = sym (read_due heading_shape (λ place s. heading_conditions at.place place s) (λ _ s. rest_of_vector at s) c r b here) ∙ e in
    let first = then_ok (reads_terms (bits_of_heading r) (count_of_heading r) None b) (λ x. ok_pair (vector_of at r x.0) x.1) (v, d) (sym (read_plan-and_then (terms_plan (bits_of_heading r) (count_of_heading r) None) (λ terms. done (vector_of at r terms)) b) ∙ rest) in
    let same = same_pair (vector_of at r first.0.0) v first.0.1 d first.2 in
    (first.0.0, first.1 ∙ ap (λ (x : Cursor). ok_pair first.0.0 x) same.1, sym same.0)

pub is_there : (tvf : List ℕ) (slots : List VectorPlace) (i : ℕ) → AreAllThere tvf slots → i < length slots → IsVectorThere tvf (get_or slots i no_slot)
is_there tvf [] i all lt = absurd (omega arith)
is_there tvf (at ∷ slots) zero all lt = all.0
is_there tvf (at ∷ slots) (suc i) all lt = is_there tvf slots i all.1 (omega arith)
