-- What the entries of a good term are known to be.
use Rattle.std.proofs.Common.{◌≡◌, ℕ, zero, suc, ◌+◌, ◌<◌, ◌≤◌, Bool, true, false, if◌then◌else◌, List, [], ◌∷◌, ◌++◌, length, get_or, Ok, Option, Some, None, inl, inr, refl, sym, ap, subst, ◌∙◌, arith}
use Rattle.std.specs.Prelude.{slice_index_or, nat_lt}
use Rattle.std.proofs.lemmas.Bool.{cases_lt}
use Rattle.std.proofs.lemmas.Bool.Decides.{nat_tests}
use Rattle.std.proofs.lemmas.List.{length-append}
use Rattle.std.proofs.Math.Seq.{get_or-append_seam}
use Rattle.lu_grammar.specs.Bytes.{Cursor}
use Rattle.lu_grammar.specs.Records.{record_at}
use Rattle.lu_grammar.specs.Meaning.{ReadsTo}
use Rattle.lu_grammar.proofs.Codecs.{all_unbroken, record_at-kept, times-keeps}
use Rattle.freq_skips.specs.declared.rules.RuledTerm.{RuledTerm}
use Rattle.freq_skips.specs.Records.{Record, stated_of}
use Rattle.freq_skips.specs.Entries.{Posting, no_posting, EntriesSoFar, no_entry, stated_or_one, is_low, posting_of, entry_conditions, entry_kind, postings_from}
use Rattle.freq_skips.specs.Terms.{TermData, term_plan}
use Rattle.positions.specs.Occurrences.{PostedTerm, count_at}
use Rattle.freq_skips.proofs.EntryLemmas.{postings_from-is, postings_from-length}
use Rattle.freq_skips.proofs.TermLemmas.{TermParts-ReadsTo}

-- each of the postings has the term at least once
pub record AreFrequent (postings : List Posting) : Type 0 where
  pub some : (k : ℕ) → k < length postings → 0 < (slice_index_or postings k no_posting).freq

frequency-some : (stated : Option ℕ) → is_low stated ≡ false → 0 < stated_or_one stated
frequency-some None e = omega arith
frequency-some (Some n) e = elim (cases_lt n 2) [
  | inl low ↦ let t : nat_lt n 2 ≡ true = grind (arith, nat_tests) in absurd (cc)
  | inr high ↦ omega arith
]

posting-front : (ps qs : List Posting) (k : ℕ) → k < length ps → get_or (ps ++ qs) k no_posting ≡ get_or ps k no_posting
posting-front [] qs k lt = absurd (omega arith)
posting-front (p ∷ ps) qs zero lt = refl
posting-front (p ∷ ps) qs (suc k) lt = posting-front ps qs k (omega arith)

AreFrequent-more : (ps : List Posting) (q : Posting) → AreFrequent ps → 0 < q.freq → AreFrequent (ps ++ q ∷ [])
AreFrequent-more ps q h some = record {
  some = λ k lt. elim (cases_lt k (length ps)) [
    | inl low ↦ subst (λ (x : Posting). 0 < x.freq) (sym (posting-front ps (q ∷ []) k low)) (h.some k low)
    | inr high ↦ let same : length ps ≡ k = omega (arith, length-append ps (q ∷ [])) in
        subst (λ (x : Posting). 0 < x.freq) (sym (ap (λ (n : ℕ). get_or (ps ++ q ∷ []) n no_posting) (sym same) ∙ get_or-append_seam ps q [] no_posting)) some
  ];
}

AreFrequent-step : (t : RuledTerm) (s : EntriesSoFar) (c : Cursor) (r : Record) (d : Cursor) → AreFrequent s.postings → record_at ((entry_kind t).shape s) ((entry_kind t).conditions s c.place) c ≡ Ok (r, d) → AreFrequent ((entry_kind t).after s c.place r).postings
AreFrequent-step t s c r d h e =
    let kept = all_unbroken ((entry_kind t).conditions s c.place r) (record_at-kept ((entry_kind t).shape s) ((entry_kind t).conditions s c.place) c r d e) in
    AreFrequent-more s.postings (posting_of t s.doc c.place r) h (frequency-some (stated_of r) kept.1.1.1.0)

pub term-frequent : (t : RuledTerm) (start : Cursor) (v : TermData) (end : Cursor) → ReadsTo (term_plan t) start v end → AreFrequent v.postings
term-frequent t start v end h =
    let parts = TermParts-ReadsTo t start v end h in
    let all = times-keeps (entry_kind t) (λ s. AreFrequent s.postings) (AreFrequent-step t) t.info.doc_freq no_entry start parts.all.passed parts.mid (record { some = λ k lt. absurd (omega arith) }) parts.all.reads in
    subst AreFrequent (sym (parts.postings ∙ postings_from-is t start parts.mid parts.all)) all

-- there are as many as the dictionary says
pub term-count : (t : RuledTerm) (start : Cursor) (v : TermData) (end : Cursor) → ReadsTo (term_plan t) start v end → length v.postings ≡ t.info.doc_freq
term-count t start v end h =
    let parts = TermParts-ReadsTo t start v end h in
    ap length parts.postings ∙ postings_from-length t start parts.mid parts.all

-- an entry of a field with positions has as many occurrences as its frequency
pub count_at-kept : (p : PostedTerm) (k : ℕ) → p.term.rules.omit_tf ≡ false → count_at p k ≡ (slice_index_or p.value.postings k no_posting).freq
count_at-kept p k omit = ap (λ (b : Bool). if b then 0 else (slice_index_or p.value.postings k no_posting).freq) omit

pub count_at-some : (p : PostedTerm) (k : ℕ) → p.term.rules.omit_tf ≡ false → 0 < (slice_index_or p.value.postings k no_posting).freq → 0 < count_at p k
count_at-some p k omit some = subst (λ (n : ℕ). 0 < n) (sym (count_at-kept p k omit)) some
