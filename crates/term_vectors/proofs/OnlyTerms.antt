-- The terms of a vector that was read are spelled as the writer does, where each text shares what it can with the text before.
use Rattle.std.proofs.Common.{◌≡◌, ℕ, zero, suc, ◌+◌, ◌^◌, ◌<◌, ◌≤◌, Bool, true, false, ltb, List, [], ◌∷◌, ◌++◌, length, take, drop, Option, Some, None, refl, sym, ap, subst, ◌∙◌, arith}
use Rattle.std.specs.Option.{unwrap_or}
use borrow.Author.Tests.{ltb-false}
use Rattle.std.proofs.lemmas.List.{append-nil, length-take}
use Rattle.lu_grammar.specs.Parts.{num, spelling}
use Rattle.lu_grammar.specs.Records.{Condition, Spells, first_broken}
use Rattle.lu_grammar.specs.Plans.{done, and_then}
use Rattle.lu_grammar.specs.Meaning.{Spelled, bytes_of}
use Rattle.lu_model.specs.Index.{Span, VectorTerm}
use Rattle.term_vectors.specs.Format.{bit_positions, bit_offsets, headed}
use Rattle.term_vectors.specs.Vectors.{TvfRecord, term, positions_plan, spans_plan, text_after, freq_of, prefix_of, kept_count, term_shape, term_conditions, term_plan, terms_plan}
use Rattle.term_vectors.specs.VectorBytes.{vector_positions_bytes, vector_spans_bytes, shared_length, term_front_bytes, vector_term_bytes, vector_terms_bytes}
use Rattle.term_vectors.specs.WrittenChoices.{text_behind, SharesMost, AllShareMost}
use Rattle.term_vectors.proofs.PlanRecords.{AreRecordsOf, bytes_of-append, records_done, records_due, records_then, records_headed, of_one}
use Rattle.term_vectors.proofs.OnlyOccurrences.{text_after_all, text_after-append, shares-append, shares-join, SpellsInTerm, positions_only, spans_only}

-- ---- a term

drop-front : (xs ys : List ℕ) → drop (length xs) (xs ++ ys) ≡ ys
drop-front [] ys = refl
drop-front (x ∷ xs) ys = drop-front xs ys

-- the front of a term is spelled as the writer does, and the text is the one behind it
record SpellsFront (before : Option (List ℕ)) (s : Spelled TvfRecord) : Type 0 where
  is : s.front ≡ term_front_bytes (unwrap_or before []) (text_after before s.it) (freq_of s.it)
  next : text_behind (unwrap_or before []) s.it ≡ text_after before s.it

within_before : (before : Option (List ℕ)) (r : TvfRecord) → first_broken (term_conditions before r) ≡ None → prefix_of r ≤ length (unwrap_or before [])
within_before before r good = ltb-false (length (unwrap_or before [])) (prefix_of r) (go (ltb (length (unwrap_or before [])) (prefix_of r)) (term_conditions before r) good)
  where
    go : (b : Bool) (cs : List Condition) → first_broken (record { rule = 108; broken = b } ∷ drop 1 cs) ≡ None → b ≡ false
    go true cs h = cc
    go false cs h = refl

front_spelled : (before : Option (List ℕ)) (s : Spelled TvfRecord) → Spells term_shape s.it s.front → first_broken (term_conditions before s.it) ≡ None → SharesMost (unwrap_or before []) s.it → SpellsFront before s
front_spelled before s (prefix, a, prefix_fits, front_is, (n, b, n_fits, a_is, (suffix, c, suffix_fits, b_is, tail))) good shares =
    let one = of_one num (λ freq. term prefix suffix freq) s.it c tail in
    let base = unwrap_or before [] in
    let text = take prefix base ++ suffix in
    let most : prefix ≡ shared_length base text = subst (λ (r : TvfRecord). SharesMost base r) (sym one.is) shares in
    let within : prefix ≤ length base = subst (λ (r : TvfRecord). prefix_of r ≤ length base) (sym one.is) (within_before before s.it good) in
    let long : length (take prefix base) ≡ prefix = omega (arith, within, length-take prefix base) in
    let dropped : suffix ≡ drop (shared_length base text) text = sym (drop-front (take prefix base) suffix) ∙ ap (λ (k : ℕ). drop k text) (long ∙ most) in
    let spelled : List ℕ → List ℕ = λ t. spelling num (length t) ++ (t ++ spelling num one.value) in
    let inner : a ≡ spelled suffix = a_is ∙ ap (λ (k : ℕ). spelling num k ++ b) (sym suffix_fits.0) ∙ ap (λ (t : List ℕ). spelling num (length suffix) ++ t) (b_is ∙ ap (λ (t : List ℕ). suffix ++ t) one.front_is) in
    record {
      is = front_is ∙ ap (λ (k : ℕ). spelling num k ++ a) most ∙ ap (λ (t : List ℕ). spelling num (shared_length base text) ++ t) (inner ∙ ap spelled dropped)
          ∙ ap (λ (r : TvfRecord). term_front_bytes base (text_after before r) (freq_of r)) one.is;
      next = ap (λ (r : TvfRecord). text_behind base r) (sym one.is) ∙ ap (λ (r : TvfRecord). text_after before r) one.is;
    }

-- the front of a term, and its positions and spans
pub record PartsOfTerm (before : Option (List ℕ)) (ss : List (Spelled TvfRecord)) (t : VectorTerm) : Type 0 where
  pub first : Spelled TvfRecord
  pub rest : List (Spelled TvfRecord)
  pub all : ss ≡ first ∷ rest
  pub spells : Spells term_shape first.it first.front
  pub unbroken : first_broken (term_conditions before first.it) ≡ None
  pub text : text_after before first.it ≡ t.text
  pub freq : freq_of first.it ≡ t.frequency
  pub others : SpellsInTerm rest (vector_positions_bytes 0 t.positions ++ vector_spans_bytes 0 t.spans)

pub term_parts : (bits : ℕ) (before : Option (List ℕ)) (place : ℕ) (ss : List (Spelled TvfRecord)) (t : VectorTerm) → AreRecordsOf (term_plan bits before) place ss t → PartsOfTerm before ss t
term_parts bits before place ss t h =
    let whole : TvfRecord → List ℕ → List Span → VectorTerm = λ r ps spans. record { text = text_after before r; frequency = freq_of r; positions = ps; spans = spans } in
    let parts = records_due term_shape (λ _ r. term_conditions before r)
    (λ _ r. and_then (positions_plan (kept_count bit_positions bits (freq_of r)) 0) (λ ps. and_then (spans_plan (kept_count bit_offsets bits (freq_of r)) 0) (λ spans. done (whole r ps spans)))) place ss t h in
    let s = parts.first in
    let here = place + length s.front in
    let spans_due = spans_plan (kept_count bit_offsets bits (freq_of s.it)) 0 in
    let second = records_then (positions_plan (kept_count bit_positions bits (freq_of s.it)) 0) (λ ps. and_then spans_due (λ spans. done (whole s.it ps spans))) here parts.rest t parts.others in
    let ps = second.value in
    let there = here + length (bytes_of second.first) in
    let third = records_then spans_due (λ spans. done (whole s.it ps spans)) there second.second t second.two in
    let last = records_done (whole s.it ps third.value) t (there + length (bytes_of third.first)) third.second third.two in
    let zero_low : 0 < 2 ^ 31 = omega arith in
    let positions = positions_only (kept_count bit_positions bits (freq_of s.it)) 0 here second.first ps second.one in
    let spans = spans_only (kept_count bit_offsets bits (freq_of s.it)) 0 there third.first third.value zero_low third.one in
    let all_spans : second.second ≡ third.first = third.all ∙ ap (λ (xs : List (Spelled TvfRecord)). third.first ++ xs) last.0 ∙ append-nil third.first in
    let all_rest : parts.rest ≡ second.first ++ third.first = second.all ∙ ap (λ (xs : List (Spelled TvfRecord)). second.first ++ xs) all_spans in
    record {
      first = s;
      rest = parts.rest;
      all = parts.all;
      spells = parts.spells;
      unbroken = parts.unbroken;
      text = ap (λ (x : VectorTerm). x.text) last.1;
      freq = ap (λ (x : VectorTerm). x.frequency) last.1;
      others = record {
        is = ap (λ (xs : List (Spelled TvfRecord)). bytes_of xs) all_rest ∙ bytes_of-append second.first third.first ∙ ap (λ (x : List ℕ). x ++ bytes_of third.first) positions.is
            ∙ ap (λ (x : List ℕ). vector_positions_bytes 0 ps ++ x) spans.is ∙ ap (λ (x : VectorTerm). vector_positions_bytes 0 x.positions ++ vector_spans_bytes 0 x.spans) last.1;
        same = λ base. ap (λ (xs : List (Spelled TvfRecord)). text_after_all base xs) all_rest ∙ text_after-append base second.first third.first ∙ spans.same (text_after_all base second.first) ∙ positions.same base;
        shares = λ base. subst (λ (xs : List (Spelled TvfRecord)). AllShareMost base xs) (sym all_rest)
            (shares-join base second.first third.first (positions.shares base) (spans.shares (text_after_all base second.first)));
      };
    }

-- records that spell a term, behind which its text is the text before
pub record SpellsTerm (base : List ℕ) (t : VectorTerm) (ss : List (Spelled TvfRecord)) : Type 0 where
  pub is : bytes_of ss ≡ vector_term_bytes base t
  pub next : text_after_all base ss ≡ t.text

pub term_only : (before : Option (List ℕ)) (ss : List (Spelled TvfRecord)) (t : VectorTerm) → PartsOfTerm before ss t → AllShareMost (unwrap_or before []) ss → SpellsTerm (unwrap_or before []) t ss
unfolding AllShareMost text_after_all
term_only before ss t parts shares =
    let base = unwrap_or before [] in
    let s = parts.first in
    let both = subst (λ (xs : List (Spelled TvfRecord)). AllShareMost base xs) parts.all shares in
    let front = front_spelled before s parts.spells parts.unbroken both.0 in
    record {
      is = ap (λ (xs : List (Spelled TvfRecord)). bytes_of xs) parts.all ∙ ap (λ (x : List ℕ). s.front ++ x) parts.others.is
          ∙ ap (λ (x : List ℕ). x ++ (vector_positions_bytes 0 t.positions ++ vector_spans_bytes 0 t.spans)) (front.is ∙ ap (λ (x : List ℕ). term_front_bytes base x (freq_of s.it)) parts.text ∙ ap (λ (n : ℕ). term_front_bytes base t.text n) parts.freq);
      next = ap (λ (xs : List (Spelled TvfRecord)). text_after_all base xs) parts.all ∙ parts.others.same (text_behind base s.it) ∙ front.next ∙ parts.text;
    }

-- ---- the terms of a vector

pub terms_many : (bits n : ℕ) (before : Option (List ℕ)) (place : ℕ) (ss : List (Spelled TvfRecord)) (ts : List VectorTerm) → AreRecordsOf (terms_plan bits n before) place ss ts → length ts ≡ n
unfolding terms_plan
terms_many bits zero before place ss ts h = ap (λ (xs : List VectorTerm). length xs) (sym (records_done [] ts place ss h).1)
terms_many bits (suc n) before place ss ts h =
    let parts = records_then (term_plan bits before) (λ t. headed t (terms_plan bits n (Some t.text))) place ss ts h in
    let here = place + length (bytes_of parts.first) in
    let more = records_headed parts.value (terms_plan bits n (Some parts.value.text)) here parts.second ts parts.two in
    ap (λ (xs : List VectorTerm). length xs) more.2 ∙ ap suc (terms_many bits n (Some parts.value.text) here parts.second more.0 more.1)

pub terms_only : (bits n : ℕ) (before : Option (List ℕ)) (place : ℕ) (ss : List (Spelled TvfRecord)) (ts : List VectorTerm) → AreRecordsOf (terms_plan bits n before) place ss ts → AllShareMost (unwrap_or before []) ss
    → bytes_of ss ≡ vector_terms_bytes (unwrap_or before []) ts
unfolding terms_plan vector_terms_bytes
terms_only bits zero before place ss ts h shares =
    let none = records_done [] ts place ss h in
    ap (λ (xs : List (Spelled TvfRecord)). bytes_of xs) none.0 ∙ ap (λ (xs : List VectorTerm). vector_terms_bytes (unwrap_or before []) xs) none.1
terms_only bits (suc n) before place ss ts h shares =
    let base = unwrap_or before [] in
    let parts = records_then (term_plan bits before) (λ t. headed t (terms_plan bits n (Some t.text))) place ss ts h in
    let t = parts.value in
    let here = place + length (bytes_of parts.first) in
    let both = shares-append base parts.first parts.second (subst (λ (xs : List (Spelled TvfRecord)). AllShareMost base xs) parts.all shares) in
    let one = term_only before parts.first t (term_parts bits before place parts.first t parts.one) both.0 in
    let more = records_headed t (terms_plan bits n (Some t.text)) here parts.second ts parts.two in
    let rest = terms_only bits n (Some t.text) here parts.second more.0 more.1 (subst (λ (x : List ℕ). AllShareMost x parts.second) one.next both.1) in
    ap (λ (xs : List (Spelled TvfRecord)). bytes_of xs) parts.all ∙ bytes_of-append parts.first parts.second ∙ ap (λ (x : List ℕ). x ++ bytes_of parts.second) one.is
    ∙ ap (λ (x : List ℕ). vector_term_bytes base t ++ x) rest ∙ ap (λ (xs : List VectorTerm). vector_terms_bytes base xs) (sym more.2)
