-- The occurrences beside the entries: where their cursor stands once it has jumped, and in which document.
use Rattle.std.proofs.Common.{◌≡◌, ℕ, zero, suc, add-one, ◌+◌, ◌-◌, ◌≤◌, inl, inr, List, [], Option, Some, None, sym, ap, subst, arith}
use Rattle.std.proofs.lemmas.Bool.{cases_lt}
use Rattle.lu_types.specs.Occurrences.{Occurrence}
use Rattle.freq_skips.specs.declared.rules.RuledTerm.{RuledTerm}
use Rattle.freq_skips.specs.declared.skip_point.SkipPoint.{SkipPoint}
use Rattle.freq_skips.specs.Terms.{TermData}
use Rattle.freq_skips.specs.Points.{IsPoint}
use Rattle.positions.specs.Occurrences.{count_at}
use Rattle.positions.specs.Standing.{count_before}
use Rattle.positions.specs.Cursors.{CursorState, posted_term, StandsInBoth, IsPointIn, IsAmong}
use Rattle.check_index.specs.Positions.{TermOccurrences}
use Rattle.seg_reader.specs.InnerBeside.{LeadsTo, CanJump}

-- the cursor stands somewhere among the occurrences
pub leads-among : (t : RuledTerm) (value : TermData) (all : TermOccurrences) (passed : ℕ) (ahead : Option SkipPoint) (c : CursorState) → LeadsTo t value all passed ahead c → (before : ℕ) × (left : List Occurrence) × IsAmong t value all before left c
leads-among t value all passed None c (left, among) = (passed, left, among)
leads-among t value all passed (Some point) c (same, is, among) = among

-- it can jump to the point that was noted
pub can-jump : (t : RuledTerm) (value : TermData) (all : TermOccurrences) (passed : ℕ) (ahead : Option SkipPoint) (c : CursorState) → LeadsTo t value all passed ahead c → CanJump ahead c
can-jump t value all passed None c h = tt
can-jump t value all passed (Some point) c (same, is, (before, left, among)) =
    subst (λ (u : RuledTerm). IsPointIn u c.prx point) (sym among.term_is) (record { value = value; occurrences = all; good = among.good; is_point = is })

-- a jump to the point that was noted leads there
pub leads-jumped : (t : RuledTerm) (value : TermData) (all : TermOccurrences) (passed : ℕ) (point : SkipPoint) (c new : CursorState) → LeadsTo t value all passed (Some point) c
    → ((v : TermData) (o : TermOccurrences) → StandsInBoth c.term v c.prx o → IsPoint c.term v point → IsAmong c.term v o point.passed [] new) → (left : List Occurrence) × IsAmong t value all passed left new
leads-jumped t value all passed point c new (same, is, (before, left, among)) answers =
    let of_term = subst (λ (u : RuledTerm). (v : TermData) (o : TermOccurrences) → StandsInBoth u v c.prx o → IsPoint u v point → IsAmong u v o point.passed [] new) among.term_is answers in
    ([], subst (λ (n : ℕ). IsAmong t value all n [] new) same (of_term value all among.good is))

-- as many occurrences stand before more entries, or more
pub count_before-rises : (t : RuledTerm) (value : TermData) (m n : ℕ) → m ≤ n → count_before (posted_term t value) m ≤ count_before (posted_term t value) n
count_before-rises t value m zero le = let same : m ≡ 0 = omega arith in omega (arith, ap (count_before (posted_term t value)) same)
count_before-rises t value m (suc n) le = elim (cases_lt n m) [
  | inl all ↦ let same : m ≡ suc n = omega arith in omega (arith, ap (count_before (posted_term t value)) same)
  | inr less ↦ let more = count_before-rises t value m n less in omega (arith, more)
]

-- how many occurrences are passed over up to the entry that was read last
pub skip-is : (t : RuledTerm) (value : TermData) (passed entry between freq : ℕ) → count_before (posted_term t value) (entry + 1) ≡ count_before (posted_term t value) passed + between → freq ≡ count_at (posted_term t value) entry → freq ≤ between
    → count_before (posted_term t value) entry ≡ count_before (posted_term t value) passed + (between - freq)
skip-is t value passed entry between freq counts is le =
    let next : count_before (posted_term t value) (entry + 1) ≡ count_before (posted_term t value) entry + count_at (posted_term t value) entry = ap (count_before (posted_term t value)) (add-one entry) in
    omega (arith, next, counts, is, le)
