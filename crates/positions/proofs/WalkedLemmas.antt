-- The walk over the entries beside the occurrences.
use Rattle.std.proofs.Common.{◌≡◌, ℕ, ◌+◌, ◌<◌, ◌≤◌, Bool, false, if◌then◌else◌, length, refl, sym, ap, subst, ◌∙◌, arith}
use Rattle.std.specs.Prelude.{slice_index_or}
use Rattle.lu_grammar.specs.Bytes.{Cursor}
use Rattle.freq_skips.specs.declared.rules.RuledTerm.{RuledTerm}
use Rattle.freq_skips.specs.declared.walk.WalkedEntry.{WalkedEntry}
use Rattle.freq_skips.specs.Entries.{no_posting}
use Rattle.freq_skips.specs.Terms.{TermData}
use Rattle.freq_skips.specs.Walks.{WalkState, walked_at}
use Rattle.positions.specs.Occurrences.{PostedTerm, count_at}
use Rattle.positions.specs.Standing.{StandsIn}
use Rattle.positions.specs.Walked.{posted_by}

-- the walk with one entry more
abbrev pub advanced : WalkState → WalkState
advanced w = record { term = w.term; value = w.value; passed = w.passed + 1 }

pub posted-is : (w : WalkState) (t : RuledTerm) (v : TermData) → w.term ≡ t → w.value ≡ v → posted_by w ≡ record { term = t; value = v }
posted-is w t v e f =
    let by : RuledTerm → TermData → PostedTerm = λ t v. record { term = t; value = v } in
    ap (λ (x : RuledTerm). by x w.value) e ∙ ap (λ (x : TermData). by t x) f

-- the entry that the walk answered
pub record IsAnswer (w n : WalkState) (walked : WalkedEntry) : Type 0 where
  pub index : walked.index ≡ w.passed
  pub below : walked.index < n.term.info.doc_freq
  pub freq : walked.freq ≡ count_at (posted_by n) walked.index
  pub passed : n.passed ≡ walked.index + 1
  pub stands : (start : Cursor) (force : ℕ) (here : Cursor) → StandsIn (posted_by w) start w.passed 0 force 0 here → StandsIn (posted_by n) start walked.index 0 force 0 here

pub answered : (w n : WalkState) (walked : WalkedEntry) → n ≡ advanced w → walked ≡ walked_at w.value w.passed → w.passed < length w.value.postings → length w.value.postings ≡ w.term.info.doc_freq → w.term.rules.omit_tf ≡ false → IsAnswer w n walked
answered w n walked step is lt count kept =
    let index = ap (λ (x : WalkedEntry). x.index) is in
    let same : posted_by n ≡ posted_by w = ap posted_by step in
    record {
      index = index;
      below = subst (λ (x : WalkState). walked.index < x.term.info.doc_freq) (sym step) (omega arith);
      freq = ap (λ (x : WalkedEntry). x.freq) is
          ∙ ap (λ (k : ℕ). (slice_index_or w.value.postings k no_posting).freq) (sym index)
          ∙ ap (λ (b : Bool). if b then 0 else (slice_index_or w.value.postings walked.index no_posting).freq) (sym kept)
          ∙ ap (λ (q : PostedTerm). count_at q walked.index) (sym same);
      passed = ap (λ (x : WalkState). x.passed) step ∙ ap (λ (k : ℕ). k + 1) (sym index);
      stands = λ start force here h. subst (λ (q : PostedTerm). StandsIn q start walked.index 0 force 0 here) (sym same) (subst (λ (k : ℕ). StandsIn (posted_by w) start k 0 force 0 here) (sym index) h);
    }
