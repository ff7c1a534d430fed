-- The terms that the files of a segment stand for are terms that an index can have.
use Rattle.std.proofs.Common.{◌≡◌, ℕ, ◌<◌, ◌≤◌, ◌^◌, Bool, true, false, not, List, [], ◌∷◌, length, map, get_or, Option, Some, None, refl, sym, ap, ◌∙◌}
use Rattle.std.specs.Prelude.{◌&&◌}
use Rattle.std.specs.List.{AllZip}
use mathlib.Core.Bool.{true≢false}
use Rattle.lu_grammar.specs.Bytes.{IsBytes}
use Rattle.lu_types.specs.Bits as bit
use Rattle.lu_types.specs.Bits.{has_bit}
use Rattle.lu_types.specs.Tables.{TableField, bits_at}
use Rattle.lu_types.specs.declared.term.TermInfo.{TermInfo}
use Rattle.lu_types.specs.declared.term.TermNumbers.{TermNumbers}
use Rattle.lu_model.specs.Index.{IndexedTerm}
use Rattle.lu_model.specs.Contents.{field_at}
use Rattle.lu_model.specs.Valid.{IsIndexedTerm}
use Rattle.lu_model.proofs.Words.{Each}
use Rattle.term_dict.specs.Terms.{DictionaryTerm, no_field}
use Rattle.term_dict.specs.Facts.{IsTermOfSegment}
use Rattle.freq_skips.specs.Terms.{TermData, term_plan, terms_of, frq_plan}
use Rattle.positions.specs.Terms.{term_plan as posted_plan, posted_terms, prx_plan}
use Rattle.check_index.specs.Positions.{TermOccurrences, no_positions}
use Rattle.check_index.specs.Indexed.{indexed_terms}
use Rattle.check_index.specs.Stands.{Holds, Either}
use Rattle.check_index.proofs.ValidBits.{bits-same}
use Rattle.check_index.proofs.ReadBytes.{read-bytes}
use Rattle.check_index.proofs.ValidFields.{AreFine}
use Rattle.check_index.proofs.ValidTurns.{StandsSomewhere, each-stands}
use Rattle.check_index.proofs.ValidParts.{AreKept, term-sound, term-few, term-kept, term-indexed}

module _ (fields : List TableField) (size : ℕ) (numbers : TermNumbers) where
  -- what the dictionary says of some terms
  abbrev pub infos : List DictionaryTerm → List TermInfo
  infos ts = map (λ (t : DictionaryTerm). t.info) ts

  abbrev AreTerms : List DictionaryTerm → Type 0
  AreTerms ts = Each (IsTermOfSegment fields size numbers.skip_interval) ts

  -- each term has the occurrences that its field keeps
  abbrev AllKept : List DictionaryTerm → List TermData → List TermOccurrences → Type 0
  AllKept [] vs os = Unit {0}
  AllKept (t ∷ ts) [] os = Unit {0}
  AllKept (t ∷ ts) (v ∷ vs) [] = Unit {0}
  AllKept (t ∷ ts) (v ∷ vs) (o ∷ os) = AreKept fields size numbers t v o × AllKept ts vs os

  module _ (frq : List ℕ) (frq_fits : IsBytes frq) (interval : 2 ≤ numbers.skip_interval) where
    abbrev AreListed : List DictionaryTerm → List TermData → Type 0
    AreListed ts vs = AllZip (StandsSomewhere term_plan frq) (terms_of fields numbers size (infos ts)) vs

    kept-all : (prx : List ℕ) (ts : List DictionaryTerm) (vs : List TermData) (os : List TermOccurrences) → IsBytes prx → AreTerms ts → AreListed ts vs
        → AllZip (StandsSomewhere posted_plan prx) (posted_terms (terms_of fields numbers size (infos ts)) vs) os → AllKept ts vs os
    kept-all prx [] vs os fits good listed posted = tt
    kept-all prx (t ∷ ts) [] os fits good listed posted = tt
    kept-all prx (t ∷ ts) (v ∷ vs) [] fits good listed posted = tt
    kept-all prx (t ∷ ts) (v ∷ vs) (o ∷ os) fits good listed posted =
        (term-kept fields size numbers frq frq_fits interval t v good.0.some listed.0 prx o fits posted.0, kept-all prx ts vs os fits good.1 listed.1 posted.1)

    terms-indexed : (ts : List DictionaryTerm) (vs : List TermData) (os : List TermOccurrences) → AreTerms ts → Each (λ (t : DictionaryTerm). length t.text < 2 ^ 31) ts → AreListed ts vs → AllKept ts vs os
        → Each (λ (term : IndexedTerm). IsIndexedTerm size (field_at term.field fields).bits term) (indexed_terms fields ts vs os)
    terms-indexed [] vs os good short listed kept = tt
    terms-indexed (t ∷ ts) [] os good short listed kept = tt
    terms-indexed (t ∷ ts) (v ∷ vs) [] good short listed kept = tt
    terms-indexed (t ∷ ts) (v ∷ vs) (o ∷ os) good short listed kept = (
      term-indexed fields size numbers t v o good.0 short.0 (term-sound fields size numbers frq frq_fits interval t v good.0.some listed.0) (term-few fields size numbers frq frq_fits interval t v good.0.some listed.0) kept.0,
      terms-indexed ts vs os good.1 short.1 listed.1 kept.1,
    )

  -- ---- a segment without positions

  pub omits : (n : ℕ) → AreFine false fields → n < length fields → has_bit bit.indexed (get_or fields n no_field).bits ≡ true → has_bit bit.omit_tf (bits_at fields n) ≡ true
  omits n fine lt indexed =
      ap (λ (b : ℕ). has_bit bit.omit_tf b) (bits-same n fields) ∙ go (has_bit bit.indexed (get_or fields n no_field).bits) (has_bit bit.omit_tf (get_or fields n no_field).bits) indexed (fine.prox n no_field lt)
    where
      go : (indexed omit : Bool) → indexed ≡ true → (not false && (indexed && not omit)) ≡ false → omit ≡ true
      go true true e f = refl
      go true false e f = absurd (true≢false f)
      go false omit e f = absurd (true≢false (sym e))

  kept-none : (ts : List DictionaryTerm) (vs : List TermData) (os : List TermOccurrences) → AreFine false fields → AreTerms ts → AllKept ts vs os
  kept-none [] vs os fine good = tt
  kept-none (t ∷ ts) [] os fine good = tt
  kept-none (t ∷ ts) (v ∷ vs) [] fine good = tt
  kept-none (t ∷ ts) (v ∷ vs) (o ∷ os) fine good = (λ keeps k lt. absurd (true≢false (sym (omits t.info.field fine good.0.field good.0.indexed) ∙ keeps)), kept-none ts vs os fine good.1)

  -- ---- the files

  kept-by : (has_prox : Bool) (frq : List ℕ) (prx : Option (List ℕ)) (ts : List DictionaryTerm) (vs : List TermData) (os : List TermOccurrences) → IsBytes frq → 2 ≤ numbers.skip_interval → AreFine has_prox fields → AreTerms ts
      → AllZip (StandsSomewhere term_plan frq) (terms_of fields numbers size (infos ts)) vs → Either has_prox (Holds prx (λ _. prx_plan fields numbers size (infos ts) vs) os) os (no_positions vs) → AllKept ts vs os
  kept-by false frq prx ts vs os fits interval fine good listed h = kept-none ts vs os fine good
  kept-by true frq None ts vs os fits interval fine good listed h = absurd h
  kept-by true frq (Some prx) ts vs os fits interval fine good listed h =
      let prx_fits = read-bytes (prx_plan fields numbers size (infos ts) vs) prx os h in
      kept-all frq fits interval prx ts vs os prx_fits good listed (each-stands posted_plan prx prx_fits (posted_terms (terms_of fields numbers size (infos ts)) vs) os h)

  pub terms-are : (has_prox : Bool) (frq prx : Option (List ℕ)) (ts : List DictionaryTerm) (vs : List TermData) (os : List TermOccurrences) → 2 ≤ numbers.skip_interval → AreFine has_prox fields
      → Each (IsTermOfSegment fields size numbers.skip_interval) ts → Each (λ (t : DictionaryTerm). length t.text < 2 ^ 31) ts
      → Holds frq (λ _. frq_plan fields numbers size (infos ts)) vs → Either has_prox (Holds prx (λ _. prx_plan fields numbers size (infos ts) vs) os) os (no_positions vs)
      → Each (λ (term : IndexedTerm). IsIndexedTerm size (field_at term.field fields).bits term) (indexed_terms fields ts vs os)
  terms-are has_prox None prx ts vs os interval fine good short h posted = absurd h
  terms-are has_prox (Some frq) prx ts vs os interval fine good short h posted =
      let fits = read-bytes (frq_plan fields numbers size (infos ts)) frq vs h in
      let listed = each-stands term_plan frq fits (terms_of fields numbers size (infos ts)) vs h in
      terms-indexed frq fits interval ts vs os good short listed (kept-by has_prox frq prx ts vs os fits interval fine good listed posted)
