-- The frequencies of a term's entries are below 2^31.
use Rattle.std.proofs.Common.{◌≡◌, ℕ, zero, suc, ◌+◌, ◌<◌, ◌^◌, Bool, true, false, List, [], ◌∷◌, length, Result, sym, ap, subst, ◌∙◌, arith}
use Rattle.std.specs.Prelude.{All}
use Rattle.std.proofs.lemmas.List.Elements.{All-append, All-cons, All-nil}
use mathlib.Core.Bool.{true≢false}
use Rattle.lu_grammar.specs.Bytes.{IsBytes, Cursor}
use Rattle.lu_grammar.specs.Parts.{num}
use Rattle.lu_grammar.specs.Records.{whole, optional, Spells}
use Rattle.lu_grammar.specs.Plans.{Plan, Broken, done, due, each, times}
use Rattle.lu_grammar.specs.Meaning.{Spelled, AreGood, due_after, ReadsTo}
use Rattle.lu_grammar.proofs.Codecs.{reads-read_plan}
use Rattle.freq_skips.specs.declared.rules.RuledTerm.{RuledTerm}
use Rattle.freq_skips.specs.Records.{Record, alone, entry, stated_of, states_frequency, entry_shape}
use Rattle.freq_skips.specs.Entries.{Posting, EntriesSoFar, no_entry, stated_or_one, posting_of, with_posting, entry_kind, entries, read_postings}
use Rattle.freq_skips.specs.Terms.{TermData, term_plan}
use Rattle.freq_skips.proofs.TermLemmas.{TermParts-ReadsTo}

-- the term stands in the document fewer than 2^31 times
abbrev pub IsFew : Posting → Type 0
IsFew p = p.freq < 2 ^ 31

module _ (t : RuledTerm) where
  stated-few : (r : Record) (front : List ℕ) → Spells (entry_shape t) r front → stated_or_one (stated_of r) < 2 ^ 31
  stated-few r front (delta, back, fits, is, rest) = go (states_frequency t delta) rest
    where
      go : (b : Bool) → Spells (optional b (alone num) (λ stated. whole (entry delta stated))) r back → stated_or_one (stated_of r) < 2 ^ 31
      go true (n, behind, few, same, (made, none)) = subst (λ (x : Record). stated_or_one (stated_of x) < 2 ^ 31) made few
      go false (made, none) = subst (λ (x : Record). stated_or_one (stated_of x) < 2 ^ 31) made (omega arith)

  -- what a plan stands for where nothing more is due, and whether that is so
  abbrev value_or : EntriesSoFar → Plan EntriesSoFar Record → EntriesSoFar
  value_or other (done v) = v
  value_or other (due shape conditions after) = other

  abbrev ends : Plan EntriesSoFar Record → Bool
  ends (done v) = true
  ends (due shape conditions after) = false

  entries-few : (n : ℕ) (s : EntriesSoFar) (place : ℕ) (ss : List (Spelled Record)) (z : EntriesSoFar) → All IsFew s.postings → AreGood (times (entry_kind t) n s) place ss → due_after (times (entry_kind t) n s) place ss ≡ done z → All IsFew z.postings
  unfolding each
  entries-few zero s place [] z h good none = subst (λ (x : EntriesSoFar). All IsFew x.postings) (ap (value_or s) none) h
  entries-few zero s place (r ∷ ss) z h good none = absurd good
  entries-few (suc n) s place [] z h good none = absurd (true≢false (sym (ap ends none)))
  entries-few (suc n) s place (r ∷ ss) z h good none =
      let p = posting_of t s.doc place r.it in
      let few : IsFew p = stated-few r.it r.front good.0.0 in
      entries-few n (with_posting s p) (place + length r.front) ss z (All-append IsFew s.postings (p ∷ []) h (All-cons IsFew p [] few (All-nil IsFew))) good.1 none

  pub postings-few : (start : Cursor) (value : TermData) (end : Cursor) → IsBytes start.rest → ReadsTo (term_plan t) start value end → All IsFew value.postings
  postings-few start value end fits h =
      let parts = TermParts-ReadsTo t start value end h in
      let reads = reads-read_plan (entries t) start parts.all.passed parts.mid fits parts.all.reads in
      let few = entries-few t.info.doc_freq no_entry start.place reads.records parts.all.passed (All-nil IsFew) reads.good reads.none_due in
      let same : parts.all.passed.postings ≡ value.postings = ap (λ (r : Result (EntriesSoFar × Cursor) Broken). read_postings r) (sym parts.all.reads) ∙ sym parts.postings in
      subst (All IsFew) same few
