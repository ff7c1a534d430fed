-- A segment in its place: the first term that is left of it, and what follows.
use Rattle.std.proofs.Common.{◌≡◌, ℕ, zero, suc, ◌+◌, ◌-◌, ◌<◌, ◌≤◌, ◌&&◌, Bool, not, cond, List, [], ◌∷◌, length, map, drop, Option, Some, None, refl, sym, ap, ◌∙◌, subst, arith, get_or, if◌then◌else◌}
use Rattle.std.specs.Prelude.{filter, option_map, slice_get, is_some}
use Rattle.std.proofs.lemmas.Bool.{le-leb}
use Rattle.std.proofs.lemmas.List.{drop_all, drop_more, get_or_default}
use Rattle.std.proofs.lemmas.Option.{get_or_from_slice_get, slice_get-get_or, slice_get_within}
use Rattle.lu_types.specs.Bits as bit
use Rattle.lu_types.specs.Fields.{table_field}
use Rattle.lu_types.specs.Tables.{TableField}
use Rattle.lu_types.specs.declared.field.Field.{Field}
use Rattle.lu_types.specs.declared.term.TermInfo.{TermInfo}
use Rattle.lu_model.specs.Index.{Term, IndexedEntry, IndexedTerm}
use Rattle.lu_model.specs.Contents.{field_at, is_deleted, term_of}
use Rattle.lu_model.proofs.Found.{bit_within}
use Rattle.lu_model.proofs.Words.{no_field}
use Rattle.doc_marks.specs.Marking.{is_in}
use Rattle.term_dict.specs.Terms.{DictionaryTerm}
use Rattle.term_dict.specs.Terms as terms
use Rattle.term_dict.specs.Walk.{TermWalk, passed_on, term_passed, walk_to}
use Rattle.term_dict.proofs.JumpLemmas.{last_term-take}
use Rattle.check_index.specs.Opened.{IsTermOf}
use Rattle.check_index.specs.Segments.{SegmentValue}
use Rattle.seg_reader.specs.Postings.{entries_left, may_answer, postings_of}
use Rattle.seg_reader.specs.Terms.{AreSaid, no_term, term_at}
use Rattle.seg_merger.specs.TermSlots.{IsSaidLast, IsSlot, rest_of}
use Rattle.seg_merger.specs.TermSources.{SourceTerm, after_first, entries_of_first, first_term, live_entries, number_of_first, source_term, terms_from}
use Rattle.seg_merger.specs.declared.terms.slot.Slot.TheInside.{Inside}
use Rattle.seg_merger.proofs.DocumentLemmas.{is_in-deleted}

abbrev info_of : DictionaryTerm → TermInfo
info_of t = t.info

element : (o : Option DictionaryTerm) (info : TermInfo) → option_map info_of o ≡ Some info → (t : DictionaryTerm) × (o ≡ Some t) × (t.info ≡ info)
element None info e = absurd (let none : None ≡ Some info = e in cc)
element (Some t) info e = (t, refl, (let some : Some t.info ≡ Some info = e in cc))

past-end : (ts : List DictionaryTerm) (n : ℕ) → None ≡ option_map info_of (slice_get ts n) → length ts ≤ n
past-end [] n e = omega arith
past-end (t ∷ ts) zero e = absurd (let some : None ≡ Some t.info = e in cc)
past-end (t ∷ ts) (suc n) e = let rest = past-end ts n e in omega (arith, rest)

-- ---- one term further

-- where a walk stands behind the next term
pub next-said : (s : SegmentValue) (w new : TermWalk) (result : Option TermInfo) → result ≡ option_map info_of (slice_get w.dictionary.terms w.passed) → new ≡ (if is_some result then passed_on w else w) → w.dictionary ≡ s.dictionary
    → (new.dictionary ≡ s.dictionary) × IsSaidLast s.dictionary.terms new.passed result
next-said s w new None found moved same = (
  ap (λ (v : TermWalk). v.dictionary) moved ∙ same,
  (let past = past-end w.dictionary.terms w.passed found in
      let place = ap (λ (v : TermWalk). v.passed) moved in
      let size = ap (λ d. length d.terms) same in
      omega (arith, past, place, size)),
)
next-said s w new (Some info) found moved same = (
  ap (λ (v : TermWalk). v.dictionary) moved ∙ same,
  (w.passed, ap (λ (v : TermWalk). v.passed) moved, ap (λ d. option_map info_of (slice_get d.terms w.passed)) (sym same) ∙ sym found),
)

-- and what is left
pub next-left : (s : SegmentValue) (w new : TermWalk) (result : Option TermInfo) → AreSaid s → result ≡ option_map info_of (slice_get w.dictionary.terms w.passed) → new ≡ (if is_some result then passed_on w else w) → w.dictionary ≡ s.dictionary
    → terms_from result new.passed s.index.terms ≡ drop w.passed s.index.terms
next-left s w new None said found moved same =
    let past = past-end w.dictionary.terms w.passed found in
    let size = ap (λ d. length d.terms) same in
    let count = said.count in
    sym (drop_all w.passed s.index.terms (omega (arith, past, size, count)))
next-left s w new (Some info) said found moved same =
    let place = ap (λ (v : TermWalk). v.passed) moved in
    let back : new.passed - 1 ≡ w.passed = omega (arith, place) in
    ap (λ n. drop n s.index.terms) back

-- ---- the first term

-- the first term that is left is this one of its index
pub record StandsOn (i : Inside) (info : TermInfo) : Type 0 where
  pub n : ℕ
  pub passed : i.cursor.passed ≡ n + 1
  pub within : n < length i.reader.now.index.terms
  pub is_term : IsTermOf i.reader.now n info
  pub field : (term_at i.reader.now n).field ≡ info.field
  pub text : (term_passed i.cursor).text ≡ (term_at i.reader.now n).text

pub stands : (i : Inside) (info : TermInfo) → IsSlot i → i.head ≡ Some info → StandsOn i info
stands i info h e =
    let s = i.reader.now in
    let at : IsSaidLast s.dictionary.terms i.cursor.passed (Some info) = subst (IsSaidLast s.dictionary.terms i.cursor.passed) e h.head in
    let got = element (slice_get s.dictionary.terms at.0) info at.2 in
    let inside = slice_get_within s.dictionary.terms at.0 got.0 got.1 in
    let here = h.said.each at.0 got.0 got.1 in
    let count = h.said.count in
    record {
      n = at.0;
      passed = at.1;
      within = omega (arith, inside, count);
      is_term = at.2;
      field = here.field ∙ ap (λ (x : TermInfo). x.field) got.2;
      text =
          ap (λ d. (term_passed (walk_to d i.cursor.passed)).text) h.walk
          ∙ ap (λ n. (term_passed (walk_to s.dictionary n)).text) at.1
          ∙ ap (λ (t : DictionaryTerm). t.text) (last_term-take s.dictionary.terms at.0 inside ∙ get_or_from_slice_get s.dictionary.terms at.0 got.0 terms.no_term got.1)
          ∙ sym here.text;
    }

module _ (i : Inside) (h : IsSlot i) where
  abbrev seg : SegmentValue
  seg = i.reader.now

  abbrev source : IndexedTerm → SourceTerm
  source = source_term seg.index.fields i.fields.now

  pub left-none : i.head ≡ None → (rest_of i).left ≡ []
  left-none e = ap (λ o. map source (terms_from o i.cursor.passed seg.index.terms)) e

  module _ (info : TermInfo) (e : i.head ≡ Some info) where
    abbrev on : StandsOn i info
    on = stands i info h e

    abbrev here : IndexedTerm
    here = term_at seg on.n

    pub left-some : (rest_of i).left ≡ source here ∷ map source (drop (on.n + 1) seg.index.terms)
    left-some =
        let place = on.passed in
        let back : i.cursor.passed - 1 ≡ on.n = omega (arith, place) in
        ap (λ o. map source (terms_from o i.cursor.passed seg.index.terms)) e
        ∙ ap (λ n. map source (drop n seg.index.terms)) back
        ∙ ap (map source) (drop_more seg.index.terms on.n no_term on.within)

    field-inside : info.field < length seg.index.fields
    field-inside = subst (λ n. n < length seg.index.fields) on.field (bit_within bit.indexed seg.index.fields here.field refl (h.valid.terms on.n no_term on.within).indexed)

    pub no-field : None ≡ slice_get seg.index.fields info.field → ⊥
    no-field none = let some : slice_get seg.index.fields info.field ≡ Some (get_or seg.index.fields info.field no_field) = slice_get-get_or seg.index.fields info.field no_field field-inside in let both = none ∙ some in cc

    pub head-term : (field : Field) (text : List ℕ) → Some (table_field field) ≡ slice_get seg.index.fields info.field → text ≡ (term_passed i.cursor).text
        → Some (record { field = field.name.now; text = text }) ≡ first_term (rest_of i).left
    head-term field text found is =
        let name : field.name.now ≡ (field_at here.field seg.index.fields).name =
        ap (λ (f : TableField). f.name) (sym (get_or_from_slice_get seg.index.fields info.field (table_field field) no_field (sym found)))
        ∙ ap (λ n. (field_at n seg.index.fields).name) (sym on.field) in
        let same : record { field = field.name.now; text = text } ≡ term_of seg.index.fields here = λ j. record { field = name j; text = (is ∙ on.text) j } in
        ap (λ (t : Term). let o : Option Term = Some t in o) same ∙ sym (ap first_term left-some)

    pub number-inside : info.field < length i.fields.now
    number-inside = subst (λ n. info.field < n) (sym h.fields) field-inside

    pub number-is : (d : ℕ) → get_or i.fields.now info.field d ≡ number_of_first (rest_of i).left
    number-is d = get_or_default i.fields.now info.field d 0 number-inside ∙ ap (λ n. get_or i.fields.now n 0) (sym on.field) ∙ sym (ap number_of_first left-some)

    pub postings-left : entries_left (postings_of seg on.n info seg.index.deleted) ≡ live_entries seg.index.deleted (entries_of_first (rest_of i).left)
    postings-left = filter-same (may_answer seg.index.deleted 0 0) (λ (x : IndexedEntry). not (is_deleted seg.index.deleted x.document)) may here.entries ∙ sym (ap (λ ts. live_entries seg.index.deleted (entries_of_first ts)) left-some)
      where
        may : (x : IndexedEntry) → may_answer seg.index.deleted 0 0 x ≡ not (is_deleted seg.index.deleted x.document)
        may x = ap (λ b. (b && b) && not (is_in x.document seg.index.deleted)) (le-leb 0 x.document (omega arith)) ∙ ap not (is_in-deleted x.document seg.index.deleted)

        filter-same : (p q : IndexedEntry → Bool) → ((x : IndexedEntry) → p x ≡ q x) → (xs : List IndexedEntry) → filter p xs ≡ filter q xs
        filter-same p q same [] = refl
        filter-same p q same (x ∷ xs) = λ j. cond (same x j) (x ∷ filter-same p q same xs j) (filter-same p q same xs j)

  -- behind the first
  pub gone-left : (new : TermWalk) (result : Option TermInfo) → result ≡ option_map info_of (slice_get i.cursor.dictionary.terms i.cursor.passed) → new ≡ (if is_some result then passed_on i.cursor else i.cursor)
      → map source (terms_from result new.passed seg.index.terms) ≡ after_first (rest_of i).left
  gone-left new result found moved =
      ap (map source) (next-left seg i.cursor new result h.said found moved h.walk) ∙ at i.head refl
    where
      at : (head : Option TermInfo) → i.head ≡ head → map source (drop i.cursor.passed seg.index.terms) ≡ after_first (rest_of i).left
      at None e =
          let past : length seg.dictionary.terms ≤ i.cursor.passed = subst (IsSaidLast seg.dictionary.terms i.cursor.passed) e h.head in
          let count = h.said.count in
          ap (map source) (drop_all i.cursor.passed seg.index.terms (omega (arith, past, count))) ∙ sym (ap after_first (left-none e))
      at (Some info) e = ap (λ n. map source (drop n seg.index.terms)) (stands i info h e).passed ∙ sym (ap after_first (left-some info e))
