-- The numbers of a dictionary are within their limits, and none of its texts is longer than its file.
use Rattle.std.proofs.Common.{◌≡◌, ℕ, zero, suc, ◌+◌, ◌-◌, ◌<◌, ◌≤◌, ◌^◌, Bool, true, false, List, [], ◌∷◌, ◌++◌, length, take, Option, Some, None, refl, sym, ap, subst, ◌∙◌, arith}
use Rattle.std.specs.Prelude.{ℤ, pos, negsuc, int_lt, ◌||◌, nat_le, unsigned_abs, slice_index_or}
use Rattle.std.specs.Option.{unwrap_or}
use Rattle.std.proofs.lemmas.Bool.{ltb-false}
use Rattle.std.proofs.lemmas.List.{append-nil, length-append, length-take}
use mathlib.Core.Bool.{true≢false}
use Rattle.lu_grammar.specs.Parts.{num, spelling}
use Rattle.lu_grammar.specs.Records.{whole, part, followed, optional, Spells, first_broken}
use Rattle.lu_grammar.specs.Plans.{Plan, done, due, and_then, each, times}
use Rattle.lu_grammar.specs.Meaning.{Spelled, bytes_of, AreGood, due_after, Reads}
use Rattle.lu_types.specs.RuleNumbers as number
use Rattle.lu_types.specs.declared.term.TermNumbers.{TermNumbers}
use Rattle.lu_types.specs.Tables.{TableField}
use Rattle.term_dict.specs.declared.heading.Heading.{Heading}
use Rattle.term_dict.specs.Headings.{heading_conditions, heading_of, numbers_of, Line, entry, is_other_format, is_below, on_entry}
use Rattle.term_dict.specs.Entries.{TermRecord, entry_shape}
use Rattle.term_dict.specs.Terms.{DictionaryTerm, no_term, last_term, term_after}
use Rattle.term_dict.specs.Dictionary.{Dictionary, Progress, TermConditions, no_terms, with_term, within, term_kind, tis_plan}

-- ---- no text is longer than what was read

abbrev AreWithin : ℕ → List DictionaryTerm → Type 0
AreWithin longest terms = (i : ℕ) → length (slice_index_or terms i no_term).text ≤ longest

within-push : (longest : ℕ) (terms : List DictionaryTerm) (t : DictionaryTerm) → AreWithin longest terms → length t.text ≤ longest → AreWithin longest (terms ++ t ∷ [])
within-push longest [] t h le zero = le
within-push longest [] t h le (suc i) = omega arith
within-push longest (u ∷ terms) t h le zero = h 0
within-push longest (u ∷ terms) t h le (suc i) = within-push longest terms t (λ j. h (suc j)) le i

-- what a plan stands for where nothing more is due, and whether that is so
abbrev value_or : Dictionary → Plan Dictionary (Line TermRecord) → Dictionary
value_or other (done v) = v
value_or other (due shape conditions after) = other

abbrev ends : Plan Dictionary (Line TermRecord) → Bool
ends (done v) = true
ends (due shape conditions after) = false

-- an entry is as long as its suffix at least
abbrev Suffixed : Line TermRecord → List ℕ → Type 0
Suffixed line front = (e : TermRecord) × (line ≡ entry e) × (length e.suffix ≤ length front)

-- an entry of these parts
abbrev made : ℕ → List ℕ → ℕ → ℕ → ℕ → ℕ → Option ℕ → TermRecord
made prefix suffix field doc_freq freq prox skip = record { prefix = prefix; suffix = suffix; field = field; doc_freq = doc_freq; freq = freq; prox = prox; skip = unwrap_or skip 0 }

module _ (interval : ℕ) where
  suffix-in : (line : Line TermRecord) (front : List ℕ) → Spells (followed (entry_shape false interval) (λ e. whole (entry e))) line front → Suffixed line front
  suffix-in line front (prefix, b1, f1, e1, (count, b2, f2, e2, (suffix, b3, f3, e3, (field, b4, f4, e4, (doc_freq, b5, f5, e5, (freq, b6, f6, e6, (prox, b7, f7, e7, rest))))))) =
      go (nat_le interval doc_freq) rest
    where
      long : length suffix ≤ length front
      long = omega (arith, ap length e1, ap length e2, ap length e3, length-append (spelling num prefix) b1, length-append (spelling num count) b2, length-append suffix b3)

      go : (b : Bool) → Spells (followed (optional b (part num (λ n. whole n)) (λ skip. whole (made prefix suffix field doc_freq freq prox skip))) (λ e. whole (entry e))) line b7 → Suffixed line front
      go true (skip, b8, f8, e8, (is, none)) = (made prefix suffix field doc_freq freq prox (Some skip), sym is, long)
      go false (is, none) = (made prefix suffix field doc_freq freq prox None, sym is, long)

  module _ (standing : TermConditions) (numbers : TermNumbers) (size : ℕ) where
    abbrev dictionary_of : Progress → Dictionary
    dictionary_of s = record { numbers = numbers; terms = s.terms; starts = s.starts; size = size }

    abbrev more_terms : ℕ → Progress → Plan Dictionary (Line TermRecord)
    more_terms n s = and_then (times (term_kind standing interval) n s) (λ s. done (dictionary_of s))

    -- the terms behind those so far
    pub record TermsEnd (n place : ℕ) (s : Progress) (bytes : List ℕ) (d : Dictionary) : Type 0 where
      pub short : AreWithin (place + length bytes) d.terms
      pub numbers_are : d.numbers ≡ numbers
      pub count : length d.terms ≡ length s.terms + n

    terms-end : (n : ℕ) (s : Progress) (place : ℕ) (ss : List (Spelled (Line TermRecord))) (d : Dictionary) → AreWithin place s.terms
        → AreGood (more_terms n s) place ss → due_after (more_terms n s) place ss ≡ done d → TermsEnd n place s (bytes_of ss) d
    unfolding each
    terms-end zero s place [] d h good none =
        let is : dictionary_of s ≡ d = ap (value_or d) none in
        subst (λ (x : Dictionary). TermsEnd 0 place s [] x) is (record { short = λ i. omega (arith, h i); numbers_are = refl; count = omega arith })
    terms-end zero s place (t ∷ ss) d h good none = absurd good
    terms-end (suc n) s place [] d h good none = absurd (true≢false (sym (ap ends none)))
    terms-end (suc n) s place (t ∷ ss) d h good none =
        let is = suffix-in t.it t.front good.0.0 in
        let there = place + length t.front in
        let new = term_after (last_term s.terms) is.0 in
        let step : on_entry s (with_term s place) t.it ≡ with_term s place is.0 = ap (on_entry s (with_term s place)) is.1 in
        let longer : length new.text ≤ there = omega (arith, is.2, h (length s.terms - 1), length-append (take is.0.prefix (last_term s.terms).text) is.0.suffix, length-take is.0.prefix (last_term s.terms).text) in
        let before : AreWithin there s.terms = λ i. omega (arith, h i) in
        let rest = terms-end n (with_term s place is.0) there ss d (within-push there s.terms new before longer)
        (subst (λ (x : Progress). AreGood (more_terms n x) there ss) step good.1) (subst (λ (x : Progress). due_after (more_terms n x) there ss ≡ done d) step none) in
        record {
          short = λ i. omega (arith, rest.short i, length-append t.front (bytes_of ss));
          numbers_are = rest.numbers_are;
          count = omega (arith, rest.count, length-append s.terms (new ∷ []));
        }

-- ---- the numbers

not_below : (least : ℕ) (z : ℤ) → is_below least z ≡ false → least ≤ unsigned_abs z
not_below least (pos n) e = ltb-false _ _ e
not_below least (negsuc n) e = absurd (true≢false e)

not_above : (most : ℕ) (z : ℤ) → is_below 0 z ≡ false → int_lt (pos most) z ≡ false → unsigned_abs z ≤ most
not_above most (pos n) e f = ltb-false _ _ f
not_above most (negsuc n) e f = absurd (true≢false e)

-- the numbers of a good header
abbrev AreNumbers : TermNumbers → Type 0
AreNumbers numbers = (numbers.count ≤ 2147483647) × (2 ≤ numbers.skip_interval)

numbers-good : (h : Heading) → first_broken (heading_conditions h) ≡ None → AreNumbers (numbers_of h)
numbers-good h good = go (is_other_format h) (is_below 0 h.count) (int_lt (pos 2147483647) h.count) (is_below 1 h.index_interval) (is_below 2 h.skip_interval) (is_below 1 h.max_levels) refl refl refl good
  where
    go : (format low high index interval levels : Bool) → is_below 0 h.count ≡ low → int_lt (pos 2147483647) h.count ≡ high → is_below 2 h.skip_interval ≡ interval
        → first_broken (record { rule = number.tis_format; broken = format } ∷ record { rule = number.term_count; broken = low || high } ∷ record { rule = number.index_interval; broken = index } ∷ record { rule = number.skip_interval; broken = interval }
        ∷ record { rule = number.skip_levels; broken = levels } ∷ []) ≡ None → AreNumbers (numbers_of h)
    go true low high index interval levels a b c e = absurd cc
    go false true high index interval levels a b c e = absurd cc
    go false false true index interval levels a b c e = absurd cc
    go false false false true interval levels a b c e = absurd cc
    go false false false false true levels a b c e = absurd cc
    go false false false false false levels a b c e = (not_above 2147483647 h.count a b, not_below 2 h.skip_interval c)

-- ---- the file

-- what is so of the dictionary of a file with these bytes
pub record AreTexts (bytes : List ℕ) (d : Dictionary) : Type 0 where
  pub short : (i : ℕ) → length (slice_index_or d.terms i no_term).text ≤ length bytes
  pub few : length d.terms < 2 ^ 31
  pub interval : 2 ≤ d.numbers.skip_interval

module _ (fields : List TableField) (documents : ℕ) (size : ℕ) where
  file-texts : (ss : List (Spelled (Line TermRecord))) (d : Dictionary) → AreGood (tis_plan fields documents size) 0 ss → due_after (tis_plan fields documents size) 0 ss ≡ done d → AreTexts (bytes_of ss) d
  file-texts [] d good none = absurd (true≢false (sym (ap ends none)))
  file-texts (s ∷ ss) d good none =
      let numbers = numbers_of (heading_of s.it) in
      let are = numbers-good (heading_of s.it) good.0.1 in
      let rest = terms-end numbers.skip_interval (within fields documents) numbers size numbers.count no_terms (0 + length s.front) ss d (λ i. omega arith) good.1 none in
      let interval : 2 ≤ d.numbers.skip_interval = subst (λ (n : TermNumbers). 2 ≤ n.skip_interval) (sym rest.numbers_are) are.1 in
      let count : length d.terms ≡ numbers.count = omega (arith, rest.count) in
      record {
        short = λ i. omega (arith, rest.short i, length-append s.front (bytes_of ss));
        few = omega (arith, count, are.0);
        interval = interval;
      }

pub texts-are : (fields : List TableField) (documents : ℕ) (bytes : List ℕ) (d : Dictionary) → Reads (tis_plan fields documents (length bytes)) bytes d → AreTexts bytes d
texts-are fields documents bytes d h = subst (λ (bs : List ℕ). AreTexts bs d) (sym (h.front ∙ append-nil (bytes_of h.records))) (file-texts fields documents (length bytes) h.records d h.good h.none_due)
