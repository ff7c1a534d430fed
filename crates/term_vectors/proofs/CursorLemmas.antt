-- The walk over the vectors of a document.
use Rattle.std.proofs.Common.{◌≡◌, ℕ, zero, suc, ◌+◌, ◌-◌, ◌<◌, ◌≤◌, Bool, true, false, eqb, List, [], ◌∷◌, length, map, None, Ok, Err, refl, sym, ap, subst, ◌∙◌, arith}
use Rattle.std.specs.Prelude.{◌||◌}
use Rattle.lu_grammar.specs.declared.bad.Bad.{Bad}
use Rattle.lu_grammar.specs.Bytes.{IsBytes, Cursor, place_in}
use Rattle.lu_grammar.specs.Parts.{num}
use Rattle.lu_grammar.specs.Reading.{read_part}
use Rattle.lu_grammar.specs.Records.{first_broken, record_at}
use Rattle.lu_grammar.specs.Plans.{read_plan}
use Rattle.lu_grammar.proofs.Codecs.{ok_pair, same_pair, ok_of, err_is_not_ok, due_was, read_due, record_at-was, record_at-read, alone, alone_read}
use Rattle.term_vectors.specs.Format.{headed}
use Rattle.term_vectors.specs.Fields.{TvdRecord, VectorPlace, stated, is_among, number_shape, number_conditions, numbers_plan, difference_shape, difference_conditions, placed}
use Rattle.term_vectors.specs.InnerViews.{slots_here, vector_here, vectors_here, IsVectorThere, AreAllThere, AreThere}
use Rattle.term_vectors.specs.InnerCursors.{numbers_left, further_left, slots_left, vectors_left, AreVectorsLeft, IsSteppedTo}
use Rattle.term_vectors.specs.declared.cursor.VectorStep.{VectorStep}
use Rattle.term_vectors.proofs.Steps.{headed_was, headed-done}
use Rattle.term_vectors.proofs.FieldLemmas.{reads_numbers, reads_further}
use Rattle.term_vectors.proofs.LeftLemmas.{settled_left, plan_in, record_in}
use Rattle.term_vectors.proofs.SlotLemmas.{numbers_was, slots_were}
use Rattle.term_vectors.proofs.WasRead.{numbers-many, further-next}

-- ---- fields that differ from these differ from fewer

-- what is not among the one is not among the other
AreFewer : List ℕ → List ℕ → Type 0
AreFewer before fewer = (q : ℕ) → is_among q before ≡ false → is_among q fewer ≡ false

fewer-more : (before fewer : List ℕ) (x : ℕ) → AreFewer before fewer → AreFewer (x ∷ before) (x ∷ fewer)
unfolding AreFewer
fewer-more before fewer x h q e = go (eqb x q) e
  where
    go : (b : Bool) → (b || is_among q before) ≡ false → (b || is_among q fewer) ≡ false
    go true e = e
    go false e = h q e

fewer-none : (before : List ℕ) → AreFewer before []
unfolding AreFewer
fewer-none before q e = refl

good_fewer : (before fewer : List ℕ) (n : ℕ) → AreFewer before fewer → first_broken (number_conditions false [] before n) ≡ None → first_broken (number_conditions false [] fewer n) ≡ None
unfolding AreFewer
good_fewer before fewer n h e = go (is_among n before) refl e
  where
    broken : Bool → Type 0
    broken b = first_broken (record { rule = 101; broken = b } ∷ []) ≡ None

    go : (b : Bool) → is_among n before ≡ b → broken b → broken (is_among n fewer)
    go true is e = cc
    go false is e = subst broken (sym (h n is)) refl

numbers-fewer : (n : ℕ) (before fewer : List ℕ) (c : Cursor) (all : List ℕ) (d : Cursor) → AreFewer before fewer → reads_numbers false [] n before c ≡ Ok (all, d) → reads_numbers false [] n fewer c ≡ Ok (all, d)
unfolding numbers_plan read_plan
numbers-fewer zero before fewer c all d h e = e
numbers-fewer (suc n) before fewer c all d h e =
    let head = due_was number_shape (λ _ r. number_conditions false [] before (stated r)) (λ _ r. headed (stated r) (numbers_plan false [] n (stated r ∷ before))) c (all, d) e in
    let judged = record_at-was number_shape (λ r. number_conditions false [] before (stated r)) c head.0.0 head.0.1 head.1 in
    let x = stated head.0.0 in
    let rest = headed_was x (numbers_plan false [] n (x ∷ before)) head.0.1 all d head.2 in
    let later = numbers-fewer n (x ∷ before) (x ∷ fewer) head.0.1 rest.0 d (fewer-more before fewer x h) rest.1 in
    read_due number_shape (λ _ r. number_conditions false [] fewer (stated r)) (λ _ r. headed (stated r) (numbers_plan false [] n (stated r ∷ fewer))) c head.0.0 head.0.1
    (record_at-read number_shape (λ r. number_conditions false [] fewer (stated r)) c head.0.0 head.0.1 judged.0 (good_fewer before fewer x h judged.1))
    ∙ headed-done x (numbers_plan false [] n (x ∷ fewer)) head.0.1 rest.0 d later ∙ ap (λ (ns : List ℕ). ok_pair ns d) (sym rest.2)

-- ---- before the first

-- what is read of the fields and the differences of a document
pub record Entered (tvd : List ℕ) (numbers count place : ℕ) (tvf : List ℕ) (behind : Cursor) : Type 0 where
  pub left : AreVectorsLeft tvd numbers behind.place count place tvf
  pub same : vectors_left tvd numbers behind.place count place tvf ≡ vectors_here tvd numbers count place tvf

-- where the differences stand
pub numbers_end : (tvd : List ℕ) (numbers count place : ℕ) (tvf : List ℕ) → AreThere tvd numbers count place tvf → List ℕ × Cursor
numbers_end tvd numbers count place tvf there =
    let were = slots_were count place (place_in tvd numbers) (slots_here count place (place_in tvd numbers)) there.end there.slots in (were.numbers, were.behind)

pub numbers-read : (tvd : List ℕ) (numbers count place : ℕ) (tvf : List ℕ) (there : AreThere tvd numbers count place tvf)
    → (x : List ℕ × Cursor) × (reads_numbers false [] count [] (place_in tvd numbers) ≡ ok_of x)
numbers-read tvd numbers count place tvf there =
    let were = slots_were count place (place_in tvd numbers) (slots_here count place (place_in tvd numbers)) there.end there.slots in ((were.numbers, were.behind), were.numbered)

pub entered : (tvd : List ℕ) (numbers count place : ℕ) (tvf : List ℕ) → IsBytes tvd → (there : AreThere tvd numbers count place tvf) → (ns : List ℕ) (d : Cursor)
    → reads_numbers false [] count [] (place_in tvd numbers) ≡ Ok (ns, d) → Entered tvd numbers count place tvf d
entered tvd numbers count place tvf fits there ns d e =
    let here = place_in tvd numbers in
    let were = slots_were count place here (slots_here count place here) there.end there.slots in
    let same = same_pair were.numbers ns were.behind d (sym were.numbered ∙ e) in
    let within = plan_in (numbers_plan false [] count []) tvd here ns d fits (refl, there.within) e in
    let read_n = settled_left (reads_numbers false [] count [] here) ([], here) ns d e in
    let behind : place_in tvd d.place ≡ were.behind = sym within.0 ∙ sym same.1 in
    let from : reads_further (count - 1) place (place_in tvd d.place) ≡ ok_pair were.further there.end = ap (λ (c : Cursor). reads_further (count - 1) place c) behind ∙ were.placed_so in
    let read_f = settled_left (reads_further (count - 1) place (place_in tvd d.place)) ([], place_in tvd d.place) were.further there.end from in
    let slots : slots_here count place here ≡ slots_left tvd numbers d.place count place =
    were.all ∙ ap (λ (xs : List ℕ). placed xs (place ∷ were.further)) (same.0 ∙ read_n.1) ∙ ap (λ (xs : List ℕ). placed (numbers_left count here) (place ∷ xs)) read_f.1 in
    record {
      left = record {
        numbers_within = there.within;
        further_within = within.1;
        tvd_bytes = fits;
        bytes = there.bytes;
        numbers_end = d;
        numbered = read_n.0;
        further_end = there.end;
        placed_so = read_f.0;
        vectors = subst (AreAllThere tvf) slots there.vectors;
      };
      same = ap (λ (ss : List VectorPlace). map (vector_here tvf) ss) (sym slots);
    }

-- ---- from one to the next

-- none are left
pub none-left : (tvd : List ℕ) (numbers further left place : ℕ) (tvf : List ℕ) → left ≡ 0 → vectors_left tvd numbers further left place tvf ≡ []
unfolding numbers_plan read_plan placed
none-left tvd numbers further left place tvf e = ap (λ (n : ℕ). vectors_left tvd numbers further n place tvf) e

-- the places matter only as far as there are fields
placed-as_far : (ns places rest : List ℕ) (place : ℕ) → (0 < length ns → places ≡ place ∷ rest) → placed ns places ≡ placed ns (place ∷ rest)
unfolding placed
placed-as_far [] places rest place h = refl
placed-as_far (n ∷ ns) places rest place h = ap (placed (n ∷ ns)) (h (omega arith))

module _ (tvd : List ℕ) (numbers further left place : ℕ) (tvf : List ℕ) (some : 0 < left) (inv : AreVectorsLeft tvd numbers further left place tvf) where
  here : Cursor
  here = place_in tvd numbers

  one_more : left ≡ suc (left - 1)
  one_more = omega (arith, some)

  pub number-was : (x : ℕ × Cursor) × (read_part num (place_in tvd numbers) ≡ ok_of x)
      × ((rest : List ℕ) × (reads_numbers false [] (left - 1) (x.0 ∷ []) x.1 ≡ Ok (rest, inv.numbers_end)) × (numbers_left left (place_in tvd numbers) ≡ x.0 ∷ rest))
  number-was =
      numbers_was (left - 1) [] (place_in tvd numbers) (numbers_left left (place_in tvd numbers)) inv.numbers_end
      (ap (λ (k : ℕ). reads_numbers false [] k [] (place_in tvd numbers)) (sym one_more) ∙ inv.numbered)

  pub number-no_err : (bad : Bad) → read_part num (place_in tvd numbers) ≡ Err bad → ⊥
  number-no_err bad e = err_is_not_ok (sym e ∙ number-was.1)

  -- the next vector
  abbrev next_slot : ℕ → VectorPlace
  next_slot field = record { field = field; place = place }

  slots-are : slots_left tvd numbers further left place ≡ next_slot number-was.0.0 ∷ placed number-was.2.0 (further_left (left - 1) place (place_in tvd further))
  unfolding placed
  slots-are = ap (λ (ns : List ℕ). placed ns (place ∷ further_left (left - 1) place (place_in tvd further))) number-was.2.2

  all-there : AreAllThere tvf (next_slot number-was.0.0 ∷ placed number-was.2.0 (further_left (left - 1) place (place_in tvd further)))
  all-there = subst (AreAllThere tvf) slots-are inv.vectors

  pub vector-there : (field : ℕ) (d : Cursor) → read_part num (place_in tvd numbers) ≡ Ok (field, d) → IsVectorThere tvf (record { field = field; place = place })
  vector-there field d e = subst (λ (n : ℕ). IsVectorThere tvf (next_slot n)) (same_pair number-was.0.0 field number-was.0.1 d (sym number-was.1 ∙ e)).0 all-there.0

  -- behind the next vector
  pub record Moved (field new_numbers new_further new_place : ℕ) : Type 0 where
    pub left_so : AreVectorsLeft tvd new_numbers new_further (left - 1) new_place tvf
    pub is : vectors_left tvd numbers further left place tvf ≡ vector_here tvf (record { field = field; place = place }) ∷ vectors_left tvd new_numbers new_further (left - 1) new_place tvf

  pub moved : (field : ℕ) (d : Cursor) (step : VectorStep) → read_part num (place_in tvd numbers) ≡ Ok (field, d) → (d ≡ place_in tvd d.place) × (d.place ≤ length tvd)
      → IsSteppedTo tvd (left - 1) (further_left (left - 1) place (place_in tvd further)) inv.further_end step → Moved field d.place step.further step.place
  moved field d step e within to =
      let same = same_pair number-was.0.0 field number-was.0.1 d (sym number-was.1 ∙ e) in
      let fs = further_left (left - 1) place (place_in tvd further) in
      let rest = number-was.2.0 in
      let numbered : reads_numbers false [] (left - 1) [] (place_in tvd d.place) ≡ ok_pair rest inv.numbers_end =
      ap (λ (c : Cursor). reads_numbers false [] (left - 1) [] c) (sym within.0 ∙ sym same.1)
      ∙ numbers-fewer (left - 1) (number-was.0.0 ∷ []) [] number-was.0.1 rest inv.numbers_end (fewer-none (number-was.0.0 ∷ [])) number-was.2.1 in
      let many : length rest ≡ left - 1 = numbers-many (left - 1) [] (place_in tvd d.place) rest inv.numbers_end numbered in
      let read_n = settled_left (reads_numbers false [] (left - 1) [] (place_in tvd d.place)) ([], place_in tvd d.place) rest inv.numbers_end numbered in
      let read_f = settled_left (reads_further (left - 1 - 1) step.place (place_in tvd step.further)) ([], place_in tvd step.further) to.rest inv.further_end to.reads in
      let slots : placed rest fs ≡ slots_left tvd d.place step.further (left - 1) step.place =
      placed-as_far rest fs to.rest step.place (λ lt. to.is (omega (arith, lt, many)))
      ∙ ap (λ (xs : List ℕ). placed xs (step.place ∷ to.rest)) read_n.1 ∙ ap (λ (xs : List ℕ). placed (numbers_left (left - 1) (place_in tvd d.place)) (step.place ∷ xs)) read_f.1 in
      record {
        left_so = record {
          numbers_within = within.1;
          further_within = to.within;
          tvd_bytes = inv.tvd_bytes;
          bytes = inv.bytes;
          numbers_end = inv.numbers_end;
          numbered = read_n.0;
          further_end = inv.further_end;
          placed_so = read_f.0;
          vectors = subst (AreAllThere tvf) slots all-there.1;
        };
        is =
            ap (λ (ss : List VectorPlace). map (vector_here tvf) ss) slots-are
            ∙ ap (λ (n : ℕ). vector_here tvf (next_slot n) ∷ map (vector_here tvf) (placed rest fs)) same.0
            ∙ ap (λ (ss : List VectorPlace). vector_here tvf (next_slot field) ∷ map (vector_here tvf) ss) slots;
      }

-- ---- the step

pub step-none : (tvd : List ℕ) (further place left : ℕ) (places : List ℕ) (d : Cursor) (step : VectorStep) → left ≡ 0 → further ≤ length tvd → reads_further left place (place_in tvd further) ≡ ok_pair places d
    → step.place ≡ place → step.further ≡ further → IsSteppedTo tvd left places d step
step-none tvd further place left places d step none le e p f = record {
  within = omega (arith, le, f);
  rest = places;
  reads = ap (λ (k : ℕ). reads_further (k - 1) step.place (place_in tvd step.further)) none ∙ ap (λ (n : ℕ). reads_further 0 n (place_in tvd step.further)) p ∙ ap (λ (n : ℕ). reads_further 0 place (place_in tvd n)) f
      ∙ ap (λ (k : ℕ). reads_further k place (place_in tvd further)) (sym none) ∙ e;
  is = λ lt. absurd (omega (arith, lt, none));
}

pub step-more : (tvd : List ℕ) (further place left : ℕ) (places : List ℕ) (d : Cursor) (r : TvdRecord) (b : Cursor) (step : VectorStep) → 0 < left → reads_further left place (place_in tvd further) ≡ ok_pair places d
    → record_at difference_shape (λ s. difference_conditions place (stated s)) (place_in tvd further) ≡ Ok (r, b) → step.place ≡ place + stated r → (b ≡ place_in tvd b.place) × (b.place ≤ length tvd) → step.further ≡ b.place
    → IsSteppedTo tvd left places d step
step-more tvd further place left places d r b step some e at p within f =
    let more : left ≡ suc (left - 1) = omega (arith, some) in
    let next = further-next (left - 1) place (place_in tvd further) places d r b (ap (λ (k : ℕ). reads_further k place (place_in tvd further)) (sym more) ∙ e) at in record {
      within = omega (arith, within.1, f);
      rest = next.0;
      reads = ap (λ (n : ℕ). reads_further (left - 1) n (place_in tvd step.further)) p ∙ ap (λ (n : ℕ). reads_further (left - 1) (place + stated r) (place_in tvd n)) f
          ∙ ap (λ (c : Cursor). reads_further (left - 1) (place + stated r) c) (sym within.0) ∙ next.1;
      is = λ lt. next.2 ∙ ap (λ (n : ℕ). n ∷ next.0) (sym p);
    }

-- a number that is read in some bytes ends in them
pub num_in : (bytes : List ℕ) (at n : ℕ) (d : Cursor) → IsBytes bytes → at ≤ length bytes → read_part num (place_in bytes at) ≡ Ok (n, d) → (d ≡ place_in bytes d.place) × (d.place ≤ length bytes)
num_in bytes at n d fits le e = record_in (alone num (λ k. k)) (λ _. []) bytes at n d fits le (alone_read num (λ k. k) (λ _. []) (place_in bytes at) d n e refl)
