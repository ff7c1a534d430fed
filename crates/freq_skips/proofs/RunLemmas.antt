-- Entries that are handed over one after another, each behind the last.
use Rattle.std.proofs.Common.{◌≡◌, ◌⊎◌, ℕ, ◌+◌, ◌^◌, ◌<◌, ◌≤◌, Bool, true, false, List, [], ◌∷◌, ◌++◌, length, inl, inr, refl, sym, ap, subst, ◌∙◌, arith}
use Rattle.std.specs.Prelude.{slice_index_or, if◌then◌else◌}
use Rattle.std.proofs.lemmas.List.{length-append}
use Rattle.lu_grammar.specs.Bytes.{IsBytes}
use Rattle.lu_types.specs.declared.term.TermInfo.{TermInfo}
use Rattle.lu_types.specs.declared.term.TermRules.{TermRules}
use Rattle.freq_skips.specs.Points.{HasKnownPlaces}
use Rattle.freq_skips.specs.Written.{Handed, no_handed, entries_bytes, last_doc, AreInOrder}
use Rattle.freq_skips.specs.Writing.{FrqWriting, IsRisingProx, bytes_so_far, entry_added, finished, skips, skip_delta, term_written}
use Rattle.freq_skips.proofs.HandedLemmas.{rising-more, prox-below, order-more, last_doc-more}
use Rattle.freq_skips.proofs.SoundLemmas.{places-written}

-- so many entries were handed over behind these bytes, of documents below the next, with at most so many bytes of positions
pub record Runs (w : FrqWriting) (interval most : ℕ) (omit payloads : Bool) (bytes : List ℕ) (limit count next prox : ℕ) : Type 0 where
  pub interval_is : w.interval ≡ interval
  pub most_is : w.most ≡ most
  pub omit_is : w.omit ≡ omit
  pub payloads_is : w.payloads ≡ payloads
  pub bytes_are : w.bytes ≡ bytes
  pub count_is : length w.entries ≡ count
  pub last : (w.entries ≡ []) ⊎ (last_doc 0 w.entries < next)
  pub order : AreInOrder limit true 0 w.entries
  pub rising : IsRisingProx w.entries
  pub below : (k : ℕ) → k < length w.entries → (slice_index_or w.entries k no_handed).prox ≤ prox

abbrev pub nothing_handed : ℕ → ℕ → Bool → Bool → List ℕ → FrqWriting
nothing_handed interval most omit payloads bytes = record { interval = interval; most = most; bytes = bytes; omit = omit; payloads = payloads; entries = [] }

pub Runs-none : (interval most : ℕ) (omit payloads : Bool) (bytes : List ℕ) (limit next : ℕ) → Runs (nothing_handed interval most omit payloads bytes) interval most omit payloads bytes limit 0 next 0
Runs-none interval most omit payloads bytes limit next = record {
  interval_is = refl;
  most_is = refl;
  omit_is = refl;
  payloads_is = refl;
  bytes_are = refl;
  count_is = refl;
  last = inl refl;
  order = tt;
  rising = λ j k le lt. absurd (omega arith);
  below = λ k lt. absurd (omega arith);
}

pub Runs-order : (w : FrqWriting) (interval most : ℕ) (omit payloads : Bool) (bytes : List ℕ) (limit count next prox doc : ℕ) → Runs w interval most omit payloads bytes limit count next prox → next ≤ doc → (w.entries ≡ []) ⊎ (last_doc 0 w.entries < doc)
Runs-order w interval most omit payloads bytes limit count next prox doc h le = elim h.last [
  | inl none ↦ inl none
  | inr lt ↦ inr (omega arith)
]

pub Runs-more : (w : FrqWriting) (interval most : ℕ) (omit payloads : Bool) (bytes : List ℕ) (limit count next prox : ℕ) (h : Handed) (after later : ℕ) → Runs w interval most omit payloads bytes limit count next prox → next ≤ h.doc → h.doc < limit → h.doc < 2 ^ 31
    → 1 ≤ h.freq → h.freq < 2 ^ 31 → prox ≤ h.prox → h.prox < 2 ^ 31 → h.doc < after → h.prox ≤ later → Runs (entry_added w h) interval most omit payloads bytes limit (count + 1) after later
Runs-more w interval most omit payloads bytes limit count next prox h after later r le below small some few up fits next_doc next_prox = record {
  interval_is = r.interval_is;
  most_is = r.most_is;
  omit_is = r.omit_is;
  payloads_is = r.payloads_is;
  bytes_are = r.bytes_are;
  count_is = omega (arith, r.count_is, length-append w.entries (h ∷ []));
  last = inr (let e = last_doc-more 0 w.entries h in omega arith);
  order = order-more limit w.entries h r.order (Runs-order w interval most omit payloads bytes limit count next prox h.doc r le) below small some few;
  rising = rising-more w.entries h r.rising (λ k lt. let one = r.below k lt in omega arith) fits;
  below = prox-below w.entries h later (λ k lt. let one = r.below k lt in omega arith) next_prox;
}

abbrev pub info_of : ℕ → ℕ → ℕ → TermInfo
info_of doc_freq freq skip = record { field = 0; doc_freq = doc_freq; freq = freq; prox = 0; skip = skip }

abbrev pub rules_of : ℕ → ℕ → ℕ → Bool → Bool → TermRules
rules_of documents interval most omit payloads = record { documents = documents; skip_interval = interval; max_levels = most; omit_tf = omit; payloads = payloads }

pick-small : (omit : Bool) (a : ℕ) → a < 2 ^ 31 → 0 + (if omit then 0 else a) < 2 ^ 31
pick-small true a lt = omega arith
pick-small false a lt = omega arith

pub Runs-places : (w : FrqWriting) (interval most : ℕ) (omit payloads : Bool) (bytes : List ℕ) (limit count next prox place skip : ℕ) (frq rest : List ℕ) → Runs w interval most omit payloads bytes limit count next prox → 2 ≤ interval
    → length (bytes_so_far w) < 2 ^ 31 → length (finished w).bytes < 2 ^ 31 → place ≡ length bytes → skip ≡ skip_delta w → frq ≡ (finished w).bytes ++ rest → IsBytes frq → HasKnownPlaces (info_of count place skip) (rules_of limit interval most omit payloads) frq
Runs-places w interval most omit payloads bytes limit count next prox place skip frq rest r two small whole at delta is fits =
    let long = length-append w.bytes (entries_bytes w.omit 0 w.entries ++ skips w) in
    let more = length-append (entries_bytes w.omit 0 w.entries) (skips w) in
    let places = places-written w limit 0 0 frq rest (record { interval = omega (arith, r.interval_is); order = r.order; prox = r.rising; small = small; skips_small = omega (arith, long, more, whole) })
    (λ k lt. pick-small w.omit (slice_index_or w.entries k no_handed).prox (r.rising k k (omega arith) lt).1) is fits in
    let start : length w.bytes ≡ place = ap length r.bytes_are ∙ sym at in
    subst (λ (i : TermInfo). HasKnownPlaces i (rules_of limit interval most omit payloads) frq)
    (ap (λ (n : ℕ). info_of n (length w.bytes) (skip_delta w)) r.count_is ∙ ap (λ (n : ℕ). info_of count n (skip_delta w)) start ∙ ap (λ (n : ℕ). info_of count place n) (sym delta))
    (subst (λ (q : TermRules). HasKnownPlaces (term_written w limit 0 0).info q frq)
    (ap (λ (n : ℕ). rules_of limit n w.most w.omit w.payloads) r.interval_is ∙ ap (λ (n : ℕ). rules_of limit interval n w.omit w.payloads) r.most_is
    ∙ ap (λ (b : Bool). rules_of limit interval most b w.payloads) r.omit_is ∙ ap (λ (b : Bool). rules_of limit interval most omit b) r.payloads_is) places)

-- one entry more is the last, and there is one
pub added_last : (last : ℕ) (entries : List Handed) (h : Handed) → last_doc last (entries ++ h ∷ []) ≡ h.doc
added_last last entries h = last_doc-more last entries h

pub added_some : (entries : List Handed) (h : Handed) → length (entries ++ h ∷ []) ≡ length entries + 1
added_some entries h = omega (arith, length-append entries (h ∷ []))
