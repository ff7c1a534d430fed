-- A term that is good is sound, and one that was written has the places of positions that were handed over.
use Rattle.std.proofs.Common.{◌≡◌, ℕ, suc, ◌+◌, ◌^◌, ◌<◌, ◌≤◌, Bool, true, false, List, ◌++◌, length, refl, sym, ap, subst, ◌∙◌, arith}
use Rattle.std.specs.Prelude.{slice_index_or, if◌then◌else◌}
use Rattle.lu_grammar.specs.Bytes.{IsBytes, Cursor, place_in}
use Rattle.lu_grammar.specs.Meaning.{ReadsTo}
use Rattle.freq_skips.specs.declared.rules.RuledTerm.{RuledTerm}
use Rattle.freq_skips.specs.Entries.{Posting, postings_from}
use Rattle.freq_skips.specs.Terms.{TermData, IsGoodTerm, term_plan}
use Rattle.freq_skips.specs.Walks.{start_in, value_from}
use Rattle.freq_skips.specs.Points.{HasKnownPlaces}
use Rattle.freq_skips.specs.Sound.{IsSoundTermData}
use Rattle.freq_skips.specs.Written.{no_handed}
use Rattle.freq_skips.specs.Writing.{FrqWriting, IsFinishable, IsAsHanded, prox_of, finished, term_written}
use Rattle.freq_skips.proofs.EntryLemmas.{postings_from-length}
use Rattle.freq_skips.proofs.TermLemmas.{TermParts-ReadsTo}
use Rattle.freq_skips.proofs.WalkLemmas.{value_from-is}
use Rattle.freq_skips.proofs.PostingLemmas.{posting-good, docs-rise}
use Rattle.freq_skips.proofs.PointLemmas.{leads-there}
use Rattle.freq_skips.proofs.FinishedTerms.{ReadsTo-finished}

sound-from : (t : RuledTerm) (frq : List ℕ) (good : IsGoodTerm t.info t.rules frq) → IsBytes frq → IsSoundTermData t (record { postings = postings_from t (start_in t frq); levels = (value_from t (start_in t frq)).levels })
sound-from t frq good fits =
    let parts = TermParts-ReadsTo t (start_in t frq) good.value good.end good.reads in
    let start = start_in t frq in
    let each = λ (i : ℕ) (lt : i < t.info.doc_freq). posting-good t start parts.mid i parts.all lt in
    record {
      count = postings_from-length t start parts.mid parts.all;
      rise = λ i j lt below. docs-rise t start parts.mid i j parts.all lt below;
      below = λ i lt. (each i lt).below;
      some = λ i lt. (each i lt).some;
      first = λ lt. (each 0 lt).first refl;
      before = λ i lt. (each (suc i) lt).next i refl;
      leads = λ level m lt below. let there = leads-there t frq level m fits good lt below in (there.doc, there.freq);
    }

pub IsSoundTermData-good : (t : RuledTerm) (frq : List ℕ) (value : TermData) (end : Cursor) → IsBytes frq → 2 ≤ t.rules.skip_interval → t.info.freq ≤ length frq → ReadsTo (term_plan t) (place_in frq t.info.freq) value end → IsSoundTermData t value
IsSoundTermData-good t frq value end fits two le reads =
    let good : IsGoodTerm t.info t.rules frq = record { interval = two; within = le; value = value; end = end; reads = reads } in
    let parts = TermParts-ReadsTo t (start_in t frq) value end reads in
    let is = value_from-is t (start_in t frq) value end reads in
    let whole : record { postings = postings_from t (start_in t frq); levels = (value_from t (start_in t frq)).levels } ≡ value =
    ap (λ (ps : List Posting). made ps (value_from t (start_in t frq))) (sym parts.postings) ∙ ap (λ (v : TermData). made value.postings v) is in
    subst (λ (v : TermData). IsSoundTermData t v) whole (sound-from t frq good fits)
  where
    made : List Posting → TermData → TermData
    made ps v = record { postings = ps; levels = v.levels }

-- a term that was written has the places that were handed over
pub places-written : (w : FrqWriting) (documents field prox : ℕ) (frq rest : List ℕ) → IsFinishable w documents → ((k : ℕ) → k < length w.entries → prox + prox_of w.omit w.entries k < 2 ^ 31) → frq ≡ (finished w).bytes ++ rest → IsBytes frq
    → HasKnownPlaces (term_written w documents field prox).info (term_written w documents field prox).rules frq
places-written w documents field prox frq rest f fits e bytes = go (ReadsTo-finished w documents field prox frq rest f e bytes)
  where
    t : RuledTerm
    t = term_written w documents field prox

    pick : (omit : Bool) (a b : ℕ) → a ≤ b → (if omit then 0 else a) ≤ (if omit then 0 else b)
    pick true a b le = omega arith
    pick false a b le = le

    go : ((value : TermData) × IsAsHanded t w.entries value × ReadsTo (term_plan t) (place_in frq (length w.bytes)) value (place_in frq (length (finished w).bytes))) → HasKnownPlaces t.info t.rules frq
    go (value, as_handed, reads) = record {
      value = value;
      end = place_in frq (length (finished w).bytes);
      reads = reads;
      prox = prox_of w.omit w.entries;
      places = record {
        rises = λ j k le lt. pick w.omit (slice_index_or w.entries j no_handed).prox (slice_index_or w.entries k no_handed).prox (f.prox j k le lt).0;
        within = λ k lt. fits k lt;
        sums = λ level m lt below. (as_handed.leads level m lt below).2;
      };
    }
