-- The terms of the dictionary, one after another in `.prx`.
use Rattle.std.proofs.Common.{◌≡◌, ℕ, zero, suc, ◌+◌, ◌<◌, ◌≤◌, false, List, [], ◌∷◌, length, Some, refl, sym, ap, subst, ◌∙◌, arith}
use Rattle.std.specs.Prelude.{slice_get, option_map}
use Rattle.lu_grammar.specs.Bytes.{IsBytes, Cursor, place_in}
use Rattle.lu_grammar.specs.Reading.{value_or}
use Rattle.lu_grammar.specs.Meaning.{ReadsTo, FirstFault}
use Rattle.lu_grammar.specs.RuleNumbers as rules
use Rattle.lu_grammar.proofs.Parts.{IsBytes-drop}
use Rattle.lu_grammar.proofs.Files.{read_file-Reads}
use Rattle.lu_grammar.proofs.Records.{same_pair}
use Rattle.lu_grammar.proofs.Codecs.{read_plan-ReadsTo}
use Rattle.lu_types.specs.Tables.{TableField}
use Rattle.lu_types.specs.declared.term.TermInfo.{TermInfo}
use Rattle.lu_types.specs.declared.term.TermRules.{TermRules}
use Rattle.term_dict.specs.Terms.{DictionaryTerm}
use Rattle.term_dict.specs.Dictionary.{Dictionary}
use Rattle.freq_skips.specs.declared.rules.RuledTerm.{RuledTerm}
use Rattle.freq_skips.specs.Terms.{TermData, ruled_by}
use Rattle.positions.specs.Occurrences.{PostedTerm}
use Rattle.positions.specs.Terms.{posted, term_plan, posted_terms, prx_plan, IsTermFault}
use Rattle.positions.specs.Cursors.{StandsInBoth}
use Rattle.check_index.specs.Terms.{infos_of, ruled_terms, IsListed, AreListed}
use Rattle.check_index.specs.Positions.{TermOccurrences, listed_postings, occurrences_in, IsPosted, HavePassedPositions, ArePosted}
use Rattle.check_index.proofs.TurnLemmas.{one_element, HavePassed-none, HavePassed-more, HavePassed-fault, HavePassed-trailing, HavePassed-all, broken-read}
use Rattle.check_index.proofs.TermLemmas.{rules_for, ruled_at, ruled-length}

pub posted-at : (ts : List RuledTerm) (vs : List TermData) (n : ℕ) (t : RuledTerm) (v : TermData) → slice_get ts n ≡ Some t → slice_get vs n ≡ Some v → slice_get (posted_terms ts vs) n ≡ Some (record { term = t; value = v })
posted-at [] vs n t v e f = cc
posted-at (u ∷ ts) [] n t v e f = cc
posted-at (u ∷ ts) (w ∷ vs) zero t v e f =
    ap (λ (x : RuledTerm). Some (posted x.info x.rules w)) (one_element u t e) ∙ ap (λ (x : TermData). Some (posted t.info t.rules x)) (one_element w v f)
posted-at (u ∷ ts) (w ∷ vs) (suc n) t v e f = posted-at ts vs n t v e f

posted-length : (ts : List RuledTerm) (vs : List TermData) → length vs ≡ length ts → length (posted_terms ts vs) ≡ length ts
posted-length [] vs e = refl
posted-length (t ∷ ts) [] e = absurd (omega (arith, e))
posted-length (t ∷ ts) (v ∷ vs) e = ap suc (posted-length ts vs (omega (arith, e)))

-- two values that a plan is read as from one place are one
one_value : (p : PostedTerm) (from : Cursor) (v w : TermOccurrences) (c d : Cursor) → ReadsTo (term_plan p) from v c → ReadsTo (term_plan p) from w d → v ≡ w
one_value p from v w c d a b = (same_pair v w c d (sym (read_plan-ReadsTo (term_plan p) from v c a) ∙ read_plan-ReadsTo (term_plan p) from w d b)).0

module _ (fields : List TableField) (size : ℕ) (d : Dictionary) (frq : List ℕ) (lists : List TermData) (listed : AreListed fields size d frq lists) where
  -- what the entries of the term with a number stand for
  pub entries_at : (n : ℕ) (info : TermInfo) (rules : TermRules) → option_map (λ (t : DictionaryTerm). t.info) (slice_get d.terms n) ≡ Some info → rules ≡ rules_for fields size d info
      → (v : TermData) × (slice_get lists n ≡ Some v) × IsListed frq (ruled_by info rules) v
  entries_at n info rules there is = listed.each n (ruled_by info rules) (ruled_at fields size d n info rules there is)

  module _ (prx : List ℕ) (fits : IsBytes prx) where
    pub positions-none : HavePassedPositions fields size d lists prx 0 0
    positions-none = HavePassed-none term_plan (IsPosted prx) (listed_postings fields size d lists) prx fits

    -- the next term stands here
    pub positions-more : (passed place end : ℕ) (info : TermInfo) (rules : TermRules) (value : TermData) (behind : Cursor) (there : option_map (λ (t : DictionaryTerm). t.info) (slice_get d.terms passed) ≡ Some info) → rules ≡ rules_for fields size d info
        → slice_get lists passed ≡ Some value → HavePassedPositions fields size d lists prx passed place
        → (occurrences : TermOccurrences) → ReadsTo (term_plan (posted info rules value)) (place_in prx place) occurrences (place_in prx end)
        → (seen : TermOccurrences) → StandsInBoth (ruled_by info rules) value prx seen → (rules.omit_tf ≡ false → place ≡ info.prox) → end ≤ length prx
        → HavePassedPositions fields size d lists prx (passed + 1) end
    positions-more passed place end info rules value behind there is has before occurrences reads seen stands starts within =
        let p = posted info rules value in
        let kept : rules.omit_tf ≡ false → StandsInBoth (ruled_by info rules) value prx occurrences = λ omit.
        let here = subst (λ (n : ℕ). ReadsTo (term_plan p) (place_in prx n) occurrences (place_in prx end)) (starts omit) reads in
        subst (StandsInBoth (ruled_by info rules) value prx) (one_value p (place_in prx info.prox) seen occurrences stands.end (place_in prx end) stands.reads here) stands in
        let so : IsPosted prx p occurrences = record { kept = kept; seen = seen; stands = stands } in
        HavePassed-more term_plan (IsPosted prx) (listed_postings fields size d lists) prx fits passed place end p occurrences
        (posted-at (ruled_terms fields size d) lists passed (ruled_by info rules) value (ruled_at fields size d passed info rules there is) has) before reads so within

    -- it has a fault
    pub positions-fault : (passed place offset rule : ℕ) (info : TermInfo) (rules : TermRules) (value : TermData) → option_map (λ (t : DictionaryTerm). t.info) (slice_get d.terms passed) ≡ Some info → rules ≡ rules_for fields size d info
        → slice_get lists passed ≡ Some value → HavePassedPositions fields size d lists prx passed place → IsTermFault (posted info rules value) (place_in prx place) offset rule
        → FirstFault (prx_plan fields d.numbers size (infos_of d) lists) prx offset rule
    positions-fault passed place offset rule info rules value there is has before fault =
        HavePassed-fault term_plan (IsPosted prx) (listed_postings fields size d lists) prx fits passed place (posted info rules value) (record { offset = offset; rule = rule })
        (posted-at (ruled_terms fields size d) lists passed (ruled_by info rules) value (ruled_at fields size d passed info rules there is) has) before
        (broken-read (term_plan (posted info rules value)) (place_in prx place) offset rule (IsBytes-drop place prx fits) fault.fault fault.unread)

    pub postings-length : length (listed_postings fields size d lists) ≡ length d.terms
    postings-length = posted-length (ruled_terms fields size d) lists listed.count ∙ ruled-length fields size d

    -- bytes stand behind the last term
    pub positions-trailing : (passed place : ℕ) → length d.terms ≤ passed → HavePassedPositions fields size d lists prx passed place → place < length prx → FirstFault (prx_plan fields d.numbers size (infos_of d) lists) prx place rules.trailing
    positions-trailing passed place le before lt = HavePassed-trailing term_plan (IsPosted prx) (listed_postings fields size d lists) prx fits passed place (omega (arith, le, postings-length)) before lt

    -- all terms are passed, and no byte is left
    pub positions-all : (passed place : ℕ) → length d.terms ≤ passed → length prx ≤ place → HavePassedPositions fields size d lists prx passed place → ArePosted fields size d lists prx (occurrences_in fields size d lists (Some prx))
    positions-all passed place ended last before =
        let all = HavePassed-all term_plan (IsPosted prx) (listed_postings fields size d lists) prx fits passed place (omega (arith, ended, postings-length)) last before in
        let same : before.values ≡ occurrences_in fields size d lists (Some prx) = sym (ap (value_or []) (read_file-Reads (prx_plan fields d.numbers size (infos_of d) lists) prx before.values all.reads)) in
        subst (ArePosted fields size d lists prx) same all
