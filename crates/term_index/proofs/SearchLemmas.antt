-- What the loops of the search keep.
use Rattle.std.proofs.Common.{◌≡◌, ℕ, suc, ◌+◌, ◌-◌, ◌/◌, ◌<◌, ◌≤◌, min, Bool, true, false, ltb, List, [], ◌∷◌, ◌++◌, length, take, get_or, Option, Some, None, refl, sym, ap, subst, ◌∙◌, arith, ◌⊎◌, inl, inr}
use Rattle.std.specs.Prelude.{slice_get, slice_index_or, if◌then◌else◌}
use Rattle.std.specs.Option.{option_map}
use Rattle.std.specs.Ordering.{is_lt}
use Rattle.std.specs.List.{find}
use Rattle.std.specs.Str.{IsUtf8}
use Rattle.std.specs.declared.cmp.Ordering.{Ordering}
use Rattle.std.specs.declared.cmp.Ordering.TheVariants.{Equal, Greater}
use Rattle.std.proofs.lemmas.Bool.{cases_lt, ltb-true, ltb-false}
use Rattle.std.proofs.lemmas.Option.{slice_get-get_or, get_or_from_slice_get, slice_get_within}
use Rattle.lu_types.specs.declared.term.TermInfo.{TermInfo}
use Rattle.term_dict.specs.Terms.{DictionaryTerm, no_term}
use Rattle.term_dict.specs.Dictionary.{Dictionary}
use Rattle.term_dict.specs.Walk.{TermWalk, walk_to, term_passed, passed_on}
use Rattle.term_dict.proofs.JumpLemmas.{last_term-take}
use Rattle.term_index.specs.declared.mark.Mark.{Mark}
use Rattle.term_index.specs.declared.search.Sought.{Sought}
use Rattle.lu_prims.specs.Steps.{ticked}
use Rattle.term_index.specs.Seeking.{Searched, field_name_of, is_sought, sought_cmp, rank, digits, read_up_to}
use Rattle.term_index.specs.InnerSearch.{IsSearchable, AreBelow, index_mark_of, mark_cmp}
use Rattle.term_index.proofs.DigitLemmas.{digits-half}
use Rattle.term_index.proofs.RankLemmas.{below-before, below-not, sought-there, sought-none}

-- ---- halving

-- the entries that are below are between two places, and so many steps are left
pub record IsHalving (sought : Sought) (marks : List Mark) (first below left count : ℕ) : Type 0 where
  pub few : below + left ≤ length marks
  pub sides : (n : ℕ) → AreBelow sought marks n → (below ≤ n) × (n ≤ below + left)
  pub steps : ticked (digits left) count ≡ ticked (digits (length marks)) first

pub IsHalving-none : (sought : Sought) (marks : List Mark) (first left : ℕ) → left ≡ length marks → IsHalving sought marks first 0 left first
IsHalving-none sought marks first left is = record {
  few = omega (arith, is);
  sides = λ n h. (omega arith, omega (arith, h.few, is));
  steps = ap (λ (k : ℕ). ticked (digits k) first) is;
}

step-less : (left count : ℕ) → 0 < left → ticked (digits (left / 2)) (min (count + 1) 18446744073709551615) ≡ ticked (digits left) count
step-less left count some = ap (λ (k : ℕ). ticked k count) (sym (digits-half left some))

pub IsHalving-below : (sought : Sought) (marks : List Mark) (first below left count at next : ℕ) (m : Mark) → IsHalving sought marks first below left count → 0 < left → next ≡ below + (left - left / 2) → at ≡ next - 1
    → slice_get marks at ≡ Some m → is_lt (mark_cmp sought (index_mark_of m)) ≡ true → IsHalving sought marks first next (left / 2) (min (count + 1) 18446744073709551615)
IsHalving-below sought marks first below left count at next m h some to here there is = record {
  few = omega (arith, to, h.few);
  sides = λ n split.
      let lt : at < n = ltb-true at n (sym (split.split at m there) ∙ is) in
      (omega (arith, lt, to, here, some), omega (arith, to, (h.sides n split).1));
  steps = step-less left count some ∙ h.steps;
}

pub IsHalving-above : (sought : Sought) (marks : List Mark) (first below left count at next : ℕ) (m : Mark) → IsHalving sought marks first below left count → 0 < left → next ≡ below + (left - left / 2) → at ≡ next - 1
    → slice_get marks at ≡ Some m → is_lt (mark_cmp sought (index_mark_of m)) ≡ false → IsHalving sought marks first below (left / 2) (min (count + 1) 18446744073709551615)
IsHalving-above sought marks first below left count at next m h some to here there is = record {
  few = omega (arith, h.few);
  sides = λ n split.
      let ge : n ≤ at = ltb-false at n (sym (split.split at m there) ∙ is) in
      ((h.sides n split).0, omega (arith, ge, to, here, some));
  steps = step-less left count some ∙ h.steps;
}

-- ---- from term to term

-- the terms that were passed are below, and so many steps are left
pub record IsSearching (s : Searched) (field text : List ℕ) (first start : ℕ) (w : TermWalk) (count : ℕ) : Type 0 where
  pub same : w.dictionary ≡ s.dictionary
  pub few : w.passed ≤ rank s field text
  pub steps : ticked (read_up_to s.dictionary (rank s field text) - w.passed) count ≡ ticked (read_up_to s.dictionary (rank s field text) - start) first

abbrev some_of : TermInfo → Option TermInfo
some_of info = Some info

abbrev none_of : Option TermInfo
none_of = None

abbrev info_at : List DictionaryTerm → ℕ → Option TermInfo
info_at terms k = option_map (λ (t : DictionaryTerm). t.info) (slice_get terms k)

was_some : (o : Option DictionaryTerm) (info : TermInfo) → some_of info ≡ option_map (λ (t : DictionaryTerm). t.info) o → (t : DictionaryTerm) × (o ≡ Some t) × (info ≡ t.info)
was_some None info e = cc
was_some (Some t) info e = (t, refl, cc)

-- the term that was read there
pub record IsTermAt (d : Dictionary) (k : ℕ) (t : DictionaryTerm) : Type 0 where
  pub inside : k < length d.terms
  pub is_term : slice_index_or d.terms k no_term ≡ t

-- a term that was passed is the one before the walk
pub passed_term : (s : Searched) (field text : List ℕ) (first start : ℕ) (w new : TermWalk) (count : ℕ) (info : TermInfo) → IsSearching s field text first start w count → some_of info ≡ info_at w.dictionary.terms w.passed → new ≡ passed_on w
    → IsTermAt s.dictionary w.passed (record { text = (term_passed new).text; info = info })
passed_term s field text first start w new count info h found to =
    let d = s.dictionary in
    let there = was_some (slice_get d.terms w.passed) info (found ∙ ap (λ (e : Dictionary). info_at e.terms w.passed) h.same) in
    let inside = slice_get_within d.terms w.passed there.0 there.1 in
    let is = get_or_from_slice_get d.terms w.passed there.0 no_term there.1 in
    let same_text : (term_passed new).text ≡ there.0.text =
    ap (λ (x : TermWalk). (term_passed x).text) to ∙ ap (λ (e : Dictionary). (term_passed (walk_to e (w.passed + 1))).text) h.same ∙ ap (λ (t : DictionaryTerm). t.text) (last_term-take d.terms w.passed inside ∙ is) in
    record { inside = inside; is_term = is ∙ ap (λ (x : List ℕ). term_with x there.0.info) (sym same_text) ∙ ap (term_with (term_passed new).text) (sym there.2) }
  where
    term_with : List ℕ → TermInfo → DictionaryTerm
    term_with text info = record { text = text; info = info }

-- after all terms there is none
pub all_passed : (s : Searched) (field text : List ℕ) (first start : ℕ) (w : TermWalk) (count : ℕ) → IsSearching s field text first start w count → none_of ≡ info_at w.dictionary.terms w.passed → length s.dictionary.terms ≤ w.passed
all_passed s field text first start w count h e = ended (cases_lt w.passed (length s.dictionary.terms))
  where
    ended : (w.passed < length s.dictionary.terms) ⊎ (length s.dictionary.terms ≤ w.passed) → length s.dictionary.terms ≤ w.passed
    ended (inl lt) =
        let some : none_of ≡ some_of (slice_index_or s.dictionary.terms w.passed no_term).info =
        e ∙ ap (λ (x : Dictionary). info_at x.terms w.passed) h.same ∙ ap (λ (o : Option DictionaryTerm). option_map (λ (t : DictionaryTerm). t.info) o) (slice_get-get_or s.dictionary.terms w.passed no_term lt) in cc
    ended (inr le) = le

-- what a term that was read says of the place
pub record IsRead (s : Searched) (field text : List ℕ) (w : TermWalk) (t : DictionaryTerm) (o : Ordering) : Type 0 where
  pub here : IsTermAt s.dictionary w.passed t
  pub stands : sought_cmp s.names field text t ≡ o

stands_there : (s : Searched) (field text : List ℕ) (w : TermWalk) (t : DictionaryTerm) (o : Ordering) → IsRead s field text w t o → sought_cmp s.names field text (get_or s.dictionary.terms w.passed no_term) ≡ o
stands_there s field text w t o r = ap (sought_cmp s.names field text) r.here.is_term ∙ r.stands

-- one that is below is passed
pub IsSearching-more : (s : Searched) (field text : List ℕ) (first start : ℕ) (w new : TermWalk) (count : ℕ) (t : DictionaryTerm) (o : Ordering) → IsSearchable s → IsSearching s field text first start w count → IsRead s field text w t o → is_lt o ≡ true → new ≡ passed_on w
    → IsSearching s field text first start new (min (count + 1) 18446744073709551615)
IsSearching-more s field text first start w new count t o good h r below to =
    let k = rank s field text in
    let passed : new.passed ≡ w.passed + 1 = ap (λ (x : TermWalk). x.passed) to in
    let lt : w.passed < k = elim (cases_lt w.passed k) [
      | inl lt ↦ lt
      | inr ge ↦
          let above = below-not s field text w.passed good ge r.here.inside in
          let less = ap is_lt (stands_there s field text w t o r) ∙ below in absurd (cc)
    ] in
    let left : read_up_to s.dictionary k - w.passed ≡ suc (read_up_to s.dictionary k - new.passed) = omega (arith, passed, lt, r.here.inside) in
    record {
      same = ap (λ (x : TermWalk). x.dictionary) to ∙ h.same;
      few = omega (arith, lt, passed);
      steps = ap (λ (n : ℕ). ticked n count) (sym left) ∙ h.steps;
    }

-- one that is not is the first
pub record IsFirst (s : Searched) (field text : List ℕ) (first start : ℕ) (w : TermWalk) (t : DictionaryTerm) (o : Ordering) (count : ℕ) : Type 0 where
  pub place : w.passed ≡ rank s field text
  pub inside : rank s field text < length s.dictionary.terms
  pub is_term : slice_index_or s.dictionary.terms (rank s field text) no_term ≡ t
  pub stands : sought_cmp s.names field text (get_or s.dictionary.terms (rank s field text) no_term) ≡ o
  pub steps : min (count + 1) 18446744073709551615 ≡ ticked (read_up_to s.dictionary (rank s field text) - start) first

pub first_is : (s : Searched) (field text : List ℕ) (first start : ℕ) (w : TermWalk) (count : ℕ) (t : DictionaryTerm) (o : Ordering) → IsSearching s field text first start w count → IsRead s field text w t o → is_lt o ≡ false → IsFirst s field text first start w t o count
first_is s field text first start w count t o h r above =
    let k = rank s field text in
    let place : w.passed ≡ k = elim (cases_lt w.passed k) [
      | inl lt ↦ let less = ap is_lt (sym (stands_there s field text w t o r) ∙ below-before s field text w.passed lt) in absurd (cc)
      | inr ge ↦ omega (arith, ge, h.few)
    ] in
    let one : read_up_to s.dictionary k - w.passed ≡ 1 = omega (arith, place, r.here.inside) in
    record {
      place = place;
      inside = omega (arith, place, r.here.inside);
      is_term = ap (λ (n : ℕ). slice_index_or s.dictionary.terms n no_term) (sym place) ∙ r.here.is_term;
      stands = ap (λ (n : ℕ). sought_cmp s.names field text (get_or s.dictionary.terms n no_term)) (sym place) ∙ stands_there s field text w t o r;
      steps = ap (λ (n : ℕ). ticked n count) (sym one) ∙ h.steps;
    }

-- where it is level, it is the one
pub found-first : (s : Searched) (field text : List ℕ) (first start : ℕ) (w : TermWalk) (count : ℕ) (t : DictionaryTerm) → IsSearchable s → IsFirst s field text first start w t Equal count → IsUtf8 (field_name_of s.names t.info.field) → IsUtf8 field → IsUtf8 text
    → find (is_sought s.names field text) s.dictionary.terms ≡ Some t
found-first s field text first start w count t good f name_utf8 field_utf8 text_utf8 =
    sought-there s field text f.inside good (subst (λ (u : DictionaryTerm). IsUtf8 (field_name_of s.names u.info.field)) (sym f.is_term) name_utf8) field_utf8 text_utf8 f.stands ∙ ap (λ (u : DictionaryTerm). Some u) f.is_term

-- where it is above, there is none
pub none-above : (s : Searched) (field text : List ℕ) (first start : ℕ) (w : TermWalk) (count : ℕ) (t : DictionaryTerm) → IsSearchable s → IsFirst s field text first start w t Greater count → find (is_sought s.names field text) s.dictionary.terms ≡ None
none-above s field text first start w count t good f = sought-none s field text good (λ lt. f.stands)

-- nor is there where all were passed
pub none-left : (s : Searched) (field text : List ℕ) (first start : ℕ) (w : TermWalk) (count : ℕ) → IsSearchable s → IsSearching s field text first start w count → length s.dictionary.terms ≤ w.passed → find (is_sought s.names field text) s.dictionary.terms ≡ None
none-left s field text first start w count good h all = sought-none s field text good (λ lt. absurd (omega (arith, lt, all, h.few)))

pub steps-end : (s : Searched) (field text : List ℕ) (first start : ℕ) (w : TermWalk) (count : ℕ) → IsSearching s field text first start w count → length s.dictionary.terms ≤ w.passed
    → count ≡ ticked (read_up_to s.dictionary (rank s field text) - start) first
steps-end s field text first start w count h all =
    ap (λ (n : ℕ). ticked n count) (let e : 0 ≡ read_up_to s.dictionary (rank s field text) - w.passed = omega (arith, all) in e) ∙ h.steps
