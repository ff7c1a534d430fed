-- The terms of the dictionary, one after another in `.frq`.
use Rattle.std.proofs.Common.{◌≡◌, ℕ, ◌+◌, ◌<◌, ◌≤◌, ◌^◌, List, [], length, Some, sym, ap, subst, ◌∙◌, arith}
use Rattle.std.specs.Prelude.{slice_get, slice_index_or, option_map}
use Rattle.std.proofs.lemmas.List.{length-map}
use Rattle.std.proofs.lemmas.Option.{slice_get-map, get_or_from_slice_get, slice_get_within}
use Rattle.lu_grammar.specs.Bytes.{IsBytes, Cursor, place_in}
use Rattle.lu_grammar.specs.Reading.{value_or}
use Rattle.lu_grammar.specs.Meaning.{ReadsTo, FirstFault}
use Rattle.lu_grammar.specs.RuleNumbers as rules
use Rattle.lu_grammar.proofs.Parts.{IsBytes-drop}
use Rattle.lu_grammar.proofs.Files.{read_file-Reads}
use Rattle.lu_types.specs.Tables.{TableField, bits_at}
use Rattle.lu_types.specs.Terms.{term_rules}
use Rattle.lu_types.specs.declared.term.TermInfo.{TermInfo}
use Rattle.lu_types.specs.declared.term.TermRules.{TermRules}
use Rattle.term_dict.specs.Terms.{DictionaryTerm}
use Rattle.term_dict.specs.Dictionary.{Dictionary}
use Rattle.term_dict.specs.Facts.{IsTermOfSegment, AreGoodTerms}
use Rattle.freq_skips.specs.Terms.{TermData, term_plan, ruled_by, frq_plan, IsGoodTerm, IsTermFault}
use Rattle.freq_skips.specs.Walks.{WalkState}
use Rattle.check_index.specs.Terms.{infos_of, ruled_terms, lists_in, IsListed, HavePassedTerms, AreListed}
use Rattle.check_index.proofs.TurnLemmas.{element, HavePassed-none, HavePassed-more, HavePassed-fault, HavePassed-trailing, HavePassed-all, broken-read}

-- the term with a number is one of the segment
pub good_term_at : (fields : List TableField) (size : ℕ) (d : Dictionary) (n : ℕ) (info : TermInfo) → AreGoodTerms fields size d → option_map (λ (t : DictionaryTerm). t.info) (slice_get d.terms n) ≡ Some info
    → (t : DictionaryTerm) × (t.info ≡ info) × IsTermOfSegment fields size d.numbers.skip_interval t
good_term_at fields size d n info good there =
    let found = element (λ (t : DictionaryTerm). t.info) (slice_get d.terms n) info there in
    let t = found.0 in
    let here = subst (IsTermOfSegment fields size d.numbers.skip_interval) (get_or_from_slice_get d.terms n t t found.1) (good.each n t (slice_get_within d.terms n t found.1)) in
    (t, found.2, here)

-- so it is in some document, and its positions start where a file may have bytes
pub used_at : (fields : List TableField) (size : ℕ) (d : Dictionary) (n : ℕ) (info : TermInfo) → AreGoodTerms fields size d → option_map (λ (t : DictionaryTerm). t.info) (slice_get d.terms n) ≡ Some info
    → (0 < info.doc_freq) × (info.prox < 2 ^ 31)
used_at fields size d n info good there =
    let h = good_term_at fields size d n info good there in
    let some : 0 < h.0.info.doc_freq = omega (arith, h.2.some) in
    (subst (λ (i : TermInfo). 0 < i.doc_freq) h.1 some, subst (λ (i : TermInfo). i.prox < 2 ^ 31) h.1 h.2.prox)

module _ (fields : List TableField) (size : ℕ) (d : Dictionary) where
  abbrev pub rules_for : TermInfo → TermRules
  rules_for info = term_rules d.numbers (bits_at fields info.field) size

  -- the term with a number, with what its entries are read by
  pub ruled_at : (n : ℕ) (info : TermInfo) (rules : TermRules) → option_map (λ (t : DictionaryTerm). t.info) (slice_get d.terms n) ≡ Some info → rules ≡ rules_for info → slice_get (ruled_terms fields size d) n ≡ Some (ruled_by info rules)
  ruled_at n info rules there is =
      slice_get-map (λ (i : TermInfo). ruled_by i (rules_for i)) (infos_of d) n
      ∙ ap (option_map (λ (i : TermInfo). ruled_by i (rules_for i))) (slice_get-map (λ (t : DictionaryTerm). t.info) d.terms n ∙ there)
      ∙ ap (λ (r : TermRules). Some (ruled_by info r)) (sym is)

  pub ruled-length : length (ruled_terms fields size d) ≡ length d.terms
  ruled-length = simp length-map

  module _ (frq : List ℕ) (fits : IsBytes frq) where
    pub terms-none : HavePassedTerms fields size d frq 0 0
    terms-none = HavePassed-none term_plan (IsListed frq) (ruled_terms fields size d) frq fits

    -- the next term of the dictionary stands here
    pub terms-more : (passed place end : ℕ) (info : TermInfo) (rules : TermRules) (value : TermData) → option_map (λ (t : DictionaryTerm). t.info) (slice_get d.terms passed) ≡ Some info → rules ≡ rules_for info
        → HavePassedTerms fields size d frq passed place → ReadsTo (term_plan (ruled_by info rules)) (place_in frq place) value (place_in frq end) → place ≡ info.freq → IsGoodTerm info rules frq → end ≤ length frq
        → HavePassedTerms fields size d frq (passed + 1) end
    terms-more passed place end info rules value there is before reads begins good within =
        let listed : IsListed frq (ruled_by info rules) value = record {
          good = good;
          end = place_in frq end;
          reads = subst (λ (n : ℕ). ReadsTo (term_plan (ruled_by info rules)) (place_in frq n) value (place_in frq end)) begins reads;
        } in
        HavePassed-more term_plan (IsListed frq) (ruled_terms fields size d) frq fits passed place end (ruled_by info rules) value (ruled_at passed info rules there is) before reads listed within

    -- it has a fault
    pub terms-fault : (passed place offset rule : ℕ) (info : TermInfo) (rules : TermRules) → option_map (λ (t : DictionaryTerm). t.info) (slice_get d.terms passed) ≡ Some info → rules ≡ rules_for info
        → HavePassedTerms fields size d frq passed place → IsTermFault (ruled_by info rules) (place_in frq place) offset rule → FirstFault (frq_plan fields d.numbers size (infos_of d)) frq offset rule
    terms-fault passed place offset rule info rules there is before fault =
        HavePassed-fault term_plan (IsListed frq) (ruled_terms fields size d) frq fits passed place (ruled_by info rules) (record { offset = offset; rule = rule }) (ruled_at passed info rules there is) before
        (broken-read (term_plan (ruled_by info rules)) (place_in frq place) offset rule (IsBytes-drop place frq fits) fault.fault fault.unread)

    -- bytes stand behind the last term
    pub terms-trailing : (passed place : ℕ) → length d.terms ≤ passed → HavePassedTerms fields size d frq passed place → place < length frq → FirstFault (frq_plan fields d.numbers size (infos_of d)) frq place rules.trailing
    terms-trailing passed place le before lt = HavePassed-trailing term_plan (IsListed frq) (ruled_terms fields size d) frq fits passed place (omega (arith, le, ruled-length)) before lt

    -- all terms are passed, and no byte is left
    pub terms-all : (passed place : ℕ) → length d.terms ≤ passed → length frq ≤ place → HavePassedTerms fields size d frq passed place → AreListed fields size d frq (lists_in fields size d frq)
    terms-all passed place ended last before =
        let all = HavePassed-all term_plan (IsListed frq) (ruled_terms fields size d) frq fits passed place (omega (arith, ended, ruled-length)) last before in
        let same : before.values ≡ lists_in fields size d frq = sym (ap (value_or []) (read_file-Reads (frq_plan fields d.numbers size (infos_of d)) frq before.values all.reads)) in
        subst (AreListed fields size d frq) same all

  module _ (frq : List ℕ) (lists : List TermData) (listed : AreListed fields size d frq lists) (n : ℕ) (info : TermInfo) (rules : TermRules) (there : option_map (λ (t : DictionaryTerm). t.info) (slice_get d.terms n) ≡ Some info) (is : rules ≡ rules_for info) where
    -- a term of the dictionary is good in the file
    pub good_at : IsGoodTerm info rules frq
    good_at = (listed.each n (ruled_by info rules) (ruled_at n info rules there is)).2.good

    -- and a walk over its entries is one over those that the file stands for
    pub walk_at : (default : TermData) (w : WalkState) → ((value : TermData) (end : Cursor) → ReadsTo (term_plan (ruled_by info rules)) (place_in frq info.freq) value end → w ≡ record { term = ruled_by info rules; value = value; passed = 0 })
        → w ≡ record { term = ruled_by info (rules_for info); value = slice_index_or lists n default; passed = 0 }
    walk_at default w answers =
        let held = listed.each n (ruled_by info rules) (ruled_at n info rules there is) in
        answers held.0 held.2.end held.2.reads
        ∙ ap (λ (v : TermData). record { term = ruled_by info rules; value = v; passed = 0 }) (sym (get_or_from_slice_get lists n held.0 default held.1))
        ∙ ap (λ (r : TermRules). record { term = ruled_by info r; value = slice_index_or lists n default; passed = 0 }) is
