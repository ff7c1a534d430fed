-- The terms of a segment, as they are listed.
use Rattle.std.proofs.Common.{◌≡◌, ℕ, zero, suc, ◌+◌, ◌-◌, ◌<◌, Bool, true, ◌&&◌, List, [], ◌∷◌, ◌++◌, length, drop, codes, All, Some, None, refl, sym, ap, subst, ◌∙◌, arith}
use Rattle.std.specs.Prelude.{slice_get, option_map}
use Rattle.std.specs.Fmt.{decimal}
use Rattle.std.specs.List.{flat_map}
use Rattle.std.proofs.lemmas.Bool.{le-leb}
use Rattle.std.proofs.lemmas.List.{drop_all}
use Rattle.std.proofs.lemmas.List.Elements.{All-get_or, All-weaker}
use Rattle.std.proofs.lemmas.Option.{slice_get_within, get_or_from_slice_get}
use Rattle.lu_prims.specs.Quoted.{quoted_text}
use Rattle.lu_types.specs.Bits as bit
use Rattle.lu_types.specs.Bits.{has_bit}
use Rattle.lu_types.specs.Tables.{TableField, bits_at}
use Rattle.lu_types.specs.declared.term.TermInfo.{TermInfo}
use Rattle.lu_model.specs.Contents.{field_at}
use Rattle.lu_model.specs.Index.{KeptOccurrences, given, omitted, IndexedEntry, IndexedTerm}
use Rattle.lu_model.specs.Valid.{IsKept, IsIndexedTerm, IsValid}
use Rattle.term_dict.specs.Terms.{DictionaryTerm, no_term as nothing_said}
use Rattle.term_dict.specs.Dictionary.{Dictionary}
use Rattle.term_dict.specs.Walk.{TermWalk, walk_of, term_passed, walk_to, passed_on}
use Rattle.term_dict.proofs.JumpLemmas.{last_term-take}
use Rattle.doc_marks.specs.Marking.{is_in}
use Rattle.check_index.specs.Segments.{SegmentValue}
use Rattle.check_index.specs.Opened.{IsTermOf}
use Rattle.check_index.proofs.TurnLemmas.{element, past_end}
use Rattle.seg_reader.specs.Terms.{no_term, term_at, AreSaid, IsSaidOf}
use Rattle.seg_reader.specs.Postings.{PostingsWalk, may_answer, postings_of, entries_left}
use Rattle.lu_listing.specs.Printing.{Page}
use Rattle.lu_listing.specs.Lines.{line, ◌▹◌}
use Rattle.lu_listing.specs.Listing.{entry_line, term_text}
use Rattle.lu_listing.specs.declared.terms.ListedTerm.{ListedTerm}
use Rattle.lu_listing.specs.InnerEntries.{IsOmittedBy}
use Rattle.lu_listing.specs.InnerTerms.{IsListed}
use Rattle.lu_listing.proofs.PrintingLemmas.{Lacks, lacks-all}
use Rattle.lu_listing.proofs.SplitLemmas.{filter-passed, drop-next}

-- ---- the lines of a term

-- before the first entry all are left
all_left : (s : SegmentValue) (n : ℕ) (info : TermInfo) → entries_left (postings_of s n info []) ≡ (term_at s n).entries
unfolding is_in
all_left s n info = filter-passed (may_answer [] 0 0) (term_at s n).entries (λ e. ap (λ (b : Bool). (b && b) && true) (le-leb 0 e.document (omega arith)))

left_in : (s : SegmentValue) (n : ℕ) (info : TermInfo) (w : PostingsWalk) → w ≡ postings_of s n info [] → entries_left w ≡ (term_at s n).entries
left_in s n info w is = ap entries_left is ∙ all_left s n info

abbrev lines_of : ℕ → List ℕ → ℕ → List IndexedEntry → List ℕ
lines_of field text documents entries = line (codes "term" ▹ decimal field ▹ quoted_text text ▹ decimal documents) ++ flat_map (entry_line (codes "in")) entries

-- the first line and those of the entries are the lines of the term
pub term-lines : (s : SegmentValue) (n : ℕ) (term : ListedTerm) (w : PostingsWalk) → IsListed s n term → w ≡ postings_of s n term.info []
    → lines_of term.info.field term.text.now term.info.doc_freq (entries_left w) ≡ term_text (term_at s n)
term-lines s n term w listed is =
    let t = term_at s n in
    let said = listed.said in
    ap (lines_of term.info.field term.text.now term.info.doc_freq) (left_in s n term.info w is)
    ∙ ap (λ (field : ℕ). lines_of field term.text.now term.info.doc_freq t.entries) (sym said.field)
    ∙ ap (λ (text : List ℕ). lines_of t.field text term.info.doc_freq t.entries) (sym said.text)
    ∙ ap (λ (documents : ℕ). lines_of t.field t.text documents t.entries) (sym said.documents)

-- ---- whether occurrences are omitted

-- one and the same bits
bits_in_table : (fields : List TableField) (number : ℕ) → (field_at number fields).bits ≡ bits_at fields number
bits_in_table [] number = refl
bits_in_table (f ∷ fields) zero = refl
bits_in_table (f ∷ fields) (suc number) = bits_in_table fields number

abbrev Omits : Bool → IndexedEntry → Type 0
Omits omits e = IsOmittedBy omits e.occurrences

kept_by : (bits : ℕ) (kept : KeptOccurrences) → IsKept bits kept → IsOmittedBy (has_bit bit.omit_tf bits) kept
kept_by bits (given occurrences) h = h.0
kept_by bits omitted h = h

-- the entries of a term omit their occurrences exactly where its field does
pub omitted-by : (s : SegmentValue) (n : ℕ) (term : ListedTerm) (omits : Bool) (w : PostingsWalk) → IsValid s.index → IsListed s n term → omits ≡ has_bit bit.omit_tf (bits_at s.index.fields term.info.field)
    → w ≡ postings_of s n term.info [] → All (λ e. IsOmittedBy omits e.occurrences) (entries_left w)
omitted-by s n term omits w valid listed omits_is is =
    let fields = s.index.fields in
    let t = term_at s n in
    let bits = (field_at t.field fields).bits in
    let indexed = All-get_or (λ (x : IndexedTerm). IsIndexedTerm s.index.size (field_at x.field fields).bits x) s.index.terms n no_term listed.within valid.terms in
    let all = All-weaker (λ (e : IndexedEntry). (e.document < s.index.size) × IsKept bits e.occurrences) (Omits (has_bit bit.omit_tf bits)) (λ e h. kept_by bits e.occurrences h.1) t.entries indexed.entries in
    let same : has_bit bit.omit_tf bits ≡ omits = ap (has_bit bit.omit_tf) (bits_in_table fields t.field ∙ ap (bits_at fields) listed.said.field) ∙ sym omits_is in
    subst (λ (b : Bool). All (Omits b) (entries_left w)) same (subst (All (Omits (has_bit bit.omit_tf bits))) (sym (left_in s n term.info w is)) all)

-- ---- the walk over the terms

-- before the first term all are left
pub none-passed : (s : SegmentValue) (w : TermWalk) (p : Page) → w ≡ walk_of s.dictionary → Lacks p p (flat_map term_text (drop w.passed s.index.terms)) (flat_map term_text s.index.terms)
none-passed s w p is = subst (λ (v : TermWalk). Lacks p p (flat_map term_text (drop v.passed s.index.terms)) (flat_map term_text s.index.terms)) (sym is) (lacks-all p (flat_map term_text s.index.terms))

-- where the walk answers a term, fewer are left
pub one-fewer : (s : SegmentValue) (w : TermWalk) → w.dictionary ≡ s.dictionary → (new : TermWalk) (info : TermInfo) → Some info ≡ option_map (λ (t : DictionaryTerm). t.info) (slice_get w.dictionary.terms w.passed) → new ≡ passed_on w
    → length s.dictionary.terms - new.passed < length s.dictionary.terms - w.passed
one-fewer s w same new info found moved =
    let got = element (λ (t : DictionaryTerm). t.info) (slice_get w.dictionary.terms w.passed) info (sym found) in
    let inside = slice_get_within w.dictionary.terms w.passed got.0 got.1 in
    omega (arith, inside, ap (λ (d : Dictionary). length d.terms) same, ap (λ (v : TermWalk). v.passed) moved)

module _ (s : SegmentValue) (w : TermWalk) (said : AreSaid s) (same : w.dictionary ≡ s.dictionary) where
  -- where the walk answers none, none is left
  pub all-passed : None ≡ option_map (λ (t : DictionaryTerm). t.info) (slice_get w.dictionary.terms w.passed) → drop w.passed s.index.terms ≡ []
  all-passed none =
      let past = past_end (λ (t : DictionaryTerm). t.info) s.dictionary.terms w.passed (ap (λ (d : Dictionary). option_map (λ (t : DictionaryTerm). t.info) (slice_get d.terms w.passed)) (sym same) ∙ sym none) in
      drop_all w.passed s.index.terms (omega (arith, past, said.count))

  -- the term that it answers is the first that was left
  pub listed-term : (new : TermWalk) (term : ListedTerm) → Some term.info ≡ option_map (λ (t : DictionaryTerm). t.info) (slice_get w.dictionary.terms w.passed)
      → new ≡ passed_on w → term.text.now ≡ (term_passed new).text → IsListed s w.passed term
  listed-term new term found moved text = record {
    within = omega (arith, inside, said.count);
    is_term = there;
    said = record {
      field = here.field ∙ ap (λ (i : TermInfo). i.field) got.2;
      text = here.text ∙ sym text_is;
      documents = here.documents ∙ ap (λ (i : TermInfo). i.doc_freq) got.2;
    };
  }
    where
      there : IsTermOf s w.passed term.info
      there = ap (λ (d : Dictionary). option_map (λ (t : DictionaryTerm). t.info) (slice_get d.terms w.passed)) (sym same) ∙ sym found

      got : (t : DictionaryTerm) × (slice_get s.dictionary.terms w.passed ≡ Some t) × (t.info ≡ term.info)
      got = element (λ (t : DictionaryTerm). t.info) (slice_get s.dictionary.terms w.passed) term.info there

      inside : w.passed < length s.dictionary.terms
      inside = slice_get_within s.dictionary.terms w.passed got.0 got.1

      here : IsSaidOf got.0 (term_at s w.passed)
      here = said.each w.passed got.0 got.1

      text_is : term.text.now ≡ got.0.text
      text_is =
          text
          ∙ ap (λ (v : TermWalk). (term_passed v).text) moved
          ∙ ap (λ (d : Dictionary). (term_passed (walk_to d (w.passed + 1))).text) same
          ∙ ap (λ (t : DictionaryTerm). t.text) (last_term-take s.dictionary.terms w.passed inside ∙ get_or_from_slice_get s.dictionary.terms w.passed got.0 nothing_said got.1)

  -- and behind it the others are left
  pub others-left : (new : TermWalk) → w.passed < length s.index.terms → new ≡ passed_on w → drop w.passed s.index.terms ≡ term_at s w.passed ∷ drop new.passed s.index.terms
  others-left new within moved =
      drop-next s.index.terms w.passed no_term within ∙ ap (λ (v : TermWalk). term_at s w.passed ∷ drop v.passed s.index.terms) (sym moved)
