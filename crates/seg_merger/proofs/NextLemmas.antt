-- The next term of all segments.
use Rattle.std.proofs.Common.{◌≡◌, ℕ, zero, suc, ◌<◌, ◌≤◌, true, false, cond, List, [], ◌∷◌, ◌++◌, length, map, get_or, refl, sym, ap, ◌∙◌, subst, inl, inr, arith}
use Rattle.std.specs.Prelude.{filter, slice_index_or, Some, None}
use Rattle.std.specs.List.Sorted.{IsStrictlySortedBy}
use Rattle.std.specs.declared.cmp.Ordering.{Ordering}
use Rattle.std.specs.declared.cmp.Ordering.TheVariants.{Less, Equal, Greater}
use Rattle.std.specs.Ordering.{is_gt, nat_cmp, ordering_then}
use Rattle.std.proofs.lemmas.Cmp.{upto}
use Rattle.std.proofs.lemmas.List.{get_or-map, get_or_default, map-append}
use mathlib.Core.Bool.{true≢false}
use Rattle.lu_types.specs.Tables.{TableField, bits_at}
use Rattle.lu_model.specs.Index.{Term, term_cmp, IndexedTerm}
use Rattle.lu_model.specs.Contents.{bits_of, field_at, field_number}
use Rattle.lu_model.proofs.Words.{IsIn, Each, no_field}
use Rattle.lu_model.proofs.Alike.{term_order}
use Rattle.lu_model.proofs.Among.{from_flat_map, in_flat_map}
use Rattle.lu_model.proofs.Each.{each_at, each_in, each_map}
use Rattle.lu_model.proofs.Held.{same_term-itself}
use Rattle.lu_model.proofs.Ordered.{least}
use Rattle.check_index.proofs.ValidBits.{bits-same}
use Rattle.segment_files.specs.Postings.{KeptTerm, kept_term, kept_terms}
use Rattle.seg_merger.specs.declared.terms.merging.MergedField.{MergedField}
use Rattle.seg_merger.specs.TermSteps.{term_if_any}
use Rattle.seg_merger.specs.TermHeads.{IsBefore, at_source, place_order}
use Rattle.seg_merger.specs.TermSources.{SourceTerm, first_term, name_of_term, number_of_first}
use Rattle.seg_merger.specs.TermRests.{AreEntries, CanMerge, ComesFirst, IsGood, IsLeast, IsName, IsNumbered, Rest, count, entries_of_all, has_entries, names, past, rest_heads, same_term, term_of_all, terms_of_all, without_first}
use Rattle.seg_merger.proofs.RestLemmas.{each-without, flat_map-none, from_past, given-kept, good-past, left-less, named-in, terms-step, text-of}
use Rattle.seg_merger.proofs.StepLemmas.{at-in, in-at}
use Rattle.seg_merger.proofs.TreeLemmas.{head-at}

module _ (t : Term) (xs : List Rest) (k : ℕ) (inside : k < length xs) (first_of_all : (j : ℕ) → j < length xs → IsBefore (rest_heads xs) k j) where
  head-is : (j : ℕ) (r : Rest) (x : SourceTerm) (us : List SourceTerm) → j < length xs → get_or xs j r ≡ r → r.left ≡ x ∷ us → slice_index_or (rest_heads xs) j None ≡ Some x.term
  head-is j r x us h at e = get_or-map (λ (w : Rest). first_term w.left) xs j r None h ∙ ap (λ (w : Rest). first_term w.left) at ∙ ap first_term e

  not-after : (o p : Ordering) → is_gt (ordering_then o p) ≡ false → is_gt o ≡ false
  not-after Less p e = refl
  not-after Equal p e = refl
  not-after Greater p e = absurd (true≢false e)

  -- the first term of the first segment is the least
  pub least-root : Each IsGood xs → slice_index_or (rest_heads xs) k None ≡ Some t → IsLeast t xs
  unfolding IsStrictlySortedBy
  least-root good head = each_in (λ u. is_gt (term_cmp t u) ≡ false) (names xs) (λ u h.
      let r = from_flat_map (λ (rest : Rest). map name_of_term rest.left) u xs h in
      let a = at-in r.0 xs r.1 in
      inner u r.0 a.0 a.1 a.2 r.0.left refl (each_at IsGood r.0 xs good r.1).rise r.2)
    where
      inner : (u : Term) (r : Rest) (j : ℕ) → j < length xs → get_or xs j r ≡ r → (ts : List SourceTerm) → r.left ≡ ts → IsStrictlySortedBy term_cmp (map name_of_term r.left) → IsIn u (map name_of_term r.left) → is_gt (term_cmp t u) ≡ false
      inner u r j low at [] e rise i = absurd (let none : IsIn u [] = subst (λ ts. IsIn u (map name_of_term ts)) e i in none)
      inner u r j low at (x ∷ us) e rise i =
          let shown : is_gt (ordering_then (term_cmp t x.term) (nat_cmp k j)) ≡ false =
          sym (ap (λ w. is_gt (place_order (record { term = w; source = k }) (at_source (rest_heads xs) j))) head ∙ ap (λ w. is_gt (place_order (record { term = Some t; source = k }) (record { term = w; source = j }))) (head-is j r x us low at e)) ∙ first_of_all j low in
          let to_first : is_gt (term_cmp t x.term) ≡ false = not-after (term_cmp t x.term) (nat_cmp k j) shown in
          let rise : IsStrictlySortedBy term_cmp (x.term ∷ map name_of_term us) = subst (λ ts. IsStrictlySortedBy term_cmp (map name_of_term ts)) e rise in
          let i : IsIn u (x.term ∷ map name_of_term us) = subst (λ ts. IsIn u (map name_of_term ts)) e i in
          elim i [
            | inl q ↦ ap (λ w. is_gt (term_cmp t w)) q ∙ to_first
            | inr q ↦ upto term_order t x.term u to_first (ap is_gt (least term_cmp term_order x.term u (map name_of_term us) rise.0 q))
          ]

  -- the first term of the first segment is left
  pub root-named : (d : Rest) → first_term (get_or xs k d).left ≡ Some t → IsIn t (names xs)
  root-named d e = in_flat_map (λ (rest : Rest). map name_of_term rest.left) (get_or xs k d) t xs (in-at xs k d inside) (at (get_or xs k d).left e)
    where
      at : (ts : List SourceTerm) → first_term ts ≡ Some t → IsIn t (map name_of_term ts)
      at [] e = absurd (let none : None ≡ Some t = e in cc)
      at (x ∷ us) e = inl (let some : Some x.term ≡ Some t = e in cc)

  -- where the first segment has none left, no segment has
  pub none-left : slice_index_or (rest_heads xs) k None ≡ None → names xs ≡ []
  none-left head = flat_map-none (λ (rest : Rest). map name_of_term rest.left) xs (each_in (λ (r : Rest). map name_of_term r.left ≡ []) xs (λ r i. let a = at-in r xs i in inner r a.0 a.1 a.2 r.left refl))
    where
      inner : (r : Rest) (j : ℕ) → j < length xs → get_or xs j r ≡ r → (ts : List SourceTerm) → r.left ≡ ts → map name_of_term r.left ≡ []
      inner r j low at [] e = ap (map name_of_term) e
      inner r j low at (x ∷ us) e =
          let shown = sym (ap (λ w. is_gt (place_order (record { term = w; source = k }) (at_source (rest_heads xs) j))) head ∙ ap (λ w. is_gt (place_order (record { term = None; source = k }) (record { term = w; source = j }))) (head-is j r x us low at e)) ∙ first_of_all j low in
          absurd (true≢false shown)

shorter : (t : Term) (ts : List SourceTerm) → length (without_first t ts) ≤ length ts
shorter t [] = omega arith
shorter t (x ∷ ts) = elim (same_term t x.term) as (λ b. length (cond b ts (x ∷ ts)) ≤ suc (length ts)) [ true ↦ omega arith | false ↦ omega arith ]

shorter-first : (t : Term) (ts : List SourceTerm) → first_term ts ≡ Some t → length (without_first t ts) < length ts
shorter-first t [] e = absurd (let none : None ≡ Some t = e in cc)
shorter-first t (x ∷ ts) e =
    let same : x.term ≡ t = let some : Some x.term ≡ Some t = e in cc in
    let shown : same_term t x.term ≡ true = ap (same_term t) same ∙ same_term-itself t in
    let gone : length (without_first t (x ∷ ts)) ≡ length ts = ap (λ b. length (cond b ts (x ∷ ts))) shown in
    omega (arith, gone)

count-past-le : (t : Term) (xs : List Rest) → count (map (past t) xs) ≤ count xs
count-past-le t [] = omega arith
count-past-le t (x ∷ xs) = let one = shorter t x.left in let rest = count-past-le t xs in omega arith

pub count-past : (t : Term) (xs : List Rest) (k : ℕ) (d : Rest) → k < length xs → first_term (get_or xs k d).left ≡ Some t → count (map (past t) xs) < count xs
count-past t [] k d h e = absurd (omega arith)
count-past t (x ∷ xs) zero d h e = let one = shorter-first t x.left e in let rest = count-past-le t xs in omega arith
count-past t (x ∷ xs) (suc k) d h e = let one = shorter t x.left in let rest = count-past t xs k d (omega arith) e in omega arith

-- what is known of the first term of the segment that comes first
pub record IsNext (table : List TableField) (rests : List Rest) (t : Term) (number : ℕ) : Type 0 where
  pub has : IsIn t (names rests)
  pub name : IsName t
  pub low : IsLeast t rests
  pub less : count (map (past t) rests) < count rests
  pub number_is : number ≡ field_number t.field table
  pub inside : number < length table
  pub entries : AreEntries (bits_of t.field table) (entries_of_all (bits_of t.field table) rests t)

numbered-first : (table : List TableField) (ts : List SourceTerm) (t : Term) (number : ℕ) → Each (IsNumbered table) ts → first_term ts ≡ Some t → number ≡ number_of_first ts → (number ≡ field_number t.field table) × (number < length table)
numbered-first table [] t number h first is = absurd (let none : None ≡ Some t = first in cc)
numbered-first table (x ∷ ts) t number h first is =
    let same : x.term ≡ t = let some : Some x.term ≡ Some t = first in cc in
    (is ∙ h.0.0 ∙ ap (λ (u : Term). field_number u.field table) same, subst (λ n. n < length table) (sym is) h.0.1)

pub is_next : (table : List TableField) (rests : List Rest) (k : ℕ) (d : Rest) (t : Term) (number : ℕ) → CanMerge table rests → ComesFirst rests k
    → first_term (get_or rests k d).left ≡ Some t → number ≡ number_of_first (get_or rests k d).left → IsNext table rests t number
is_next table rests k d t number can comes first is =
    let head = head-at rests k d comes.inside ∙ first in
    let has = root-named t rests k comes.inside comes.least d first in
    let both = numbered-first table (get_or rests k d).left t number (each_at (λ (r : Rest). Each (IsNumbered table) r.left) (get_or rests k d) rests can.numbered (in-at rests k d comes.inside)) first is in
    record {
      has = has;
      name = named-in rests can.good t has;
      low = least-root t rests k comes.inside comes.least can.good head;
      less = count-past t rests k d comes.inside first;
      number_is = both.0;
      inside = both.1;
      entries = each_at (λ (u : Term). AreEntries (bits_of u.field table) (entries_of_all (bits_of u.field table) rests u)) t (names rests) can.entries has;
    }

-- segments that went past the least term can be merged on
pub can-past : (table : List TableField) (rests : List Rest) (t : Term) → CanMerge table rests → IsName t → IsLeast t rests → CanMerge table (map (past t) rests)
can-past table rests t can name low = record {
  few = can.few;
  good = each_map IsGood (past t) rests (each_in (λ (r : Rest). IsGood (past t r)) rests (λ r i. good-past t r (each_at IsGood r rests can.good i)));
  numbered = each_map (λ (r : Rest). Each (IsNumbered table) r.left) (past t) rests (each_in (λ (r : Rest). Each (IsNumbered table) (without_first t r.left)) rests (λ r i. each-without (IsNumbered table) t r.left (each_at (λ (w : Rest). Each (IsNumbered table) w.left) r rests can.numbered i)));
  entries = each_in (λ (u : Term). AreEntries (bits_of u.field table) (entries_of_all (bits_of u.field table) (map (past t) rests) u)) (names (map (past t) rests)) (λ u i.
      subst (AreEntries (bits_of u.field table)) (sym (given-kept (bits_of u.field table) t u rests (left-less t rests can.good (text-of t name) low u i)))
      (each_at (λ (w : Term). AreEntries (bits_of w.field table) (entries_of_all (bits_of w.field table) rests w)) u (names rests) can.entries (from_past t u rests i)));
}

-- where the segment that comes first has no term left, none has
pub none-named : (rests : List Rest) (k : ℕ) (d : Rest) → ComesFirst rests k → (get_or rests k d).left ≡ [] → names rests ≡ []
none-named rests k d comes none = none-left (record { field = []; text = [] }) rests k comes.inside comes.least (head-at rests k d comes.inside ∙ ap first_term none)

-- the bits of the field with the number
pub bits-named : (table : List TableField) (number : ℕ) (d : TableField) (name : List ℕ) → number < length table → number ≡ field_number name table → (get_or table number d).bits ≡ bits_of name table
bits-named table number d name inside same =
    ap (λ (f : TableField). f.bits) (get_or_default table number d no_field inside) ∙ ap (λ n. (field_at n table).bits) same

-- the terms that are left are the next one, where it has an entry, and the others
pub next-terms : (table : List TableField) (rests : List Rest) (t : Term) (field : MergedField) → CanMerge table rests → IsNext table rests t field.number → field.bits ≡ bits_of t.field table
    → kept_terms table (terms_of_all table rests) ≡ term_if_any field t.text (entries_of_all field.bits rests t) ++ kept_terms table (terms_of_all table (map (past t) rests))
next-terms table rests t field can next bits =
    let n = field_number t.field table in
    let term = term_of_all table rests t in
    let keep : IndexedTerm → KeptTerm = λ u. kept_term (bits_at table u.field) u in
    let plain : MergedField = record { number = n; bits = bits_of t.field table } in
    let same : plain ≡ field = λ i. record { number = sym next.number_is i; bits = sym bits i } in
    let own : map keep (filter has_entries (term ∷ [])) ≡ term_if_any plain t.text term.entries =
    elim (has_entries term) as (λ b. map keep (cond b (term ∷ []) []) ≡ map (kept_term (bits_of t.field table)) (cond b (term ∷ []) [])) [
      | true ↦ ap (λ b. kept_term b term ∷ []) (bits-same n table)
      | false ↦ refl
    ] in
    ap (kept_terms table) (terms-step table t rests can.good (text-of t next.name) next.low next.has)
    ∙ map-append keep (filter has_entries (term ∷ [])) (terms_of_all table (map (past t) rests))
    ∙ ap (λ w. w ++ kept_terms table (terms_of_all table (map (past t) rests))) (own ∙ ap (λ (f : MergedField). term_if_any f t.text (entries_of_all f.bits rests t)) same)
