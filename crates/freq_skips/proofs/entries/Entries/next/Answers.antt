use Rattle.std.proofs.Common.{◌≡◌, ℕ, ◌+◌, ◌<◌, length, ap, sym, subst, ◌∙◌, arith}
use Rattle.std.specs.Prelude.{slice_index_or}
use Rattle.freq_skips.specs.declared.entry.Entry.{Entry}
use Rattle.freq_skips.specs.declared.rules.RuledTerm.{RuledTerm}
use Rattle.freq_skips.specs.Entries.{no_posting, entry_of}
use Rattle.freq_skips.specs.Terms.{TermData}
use Rattle.freq_skips.specs.Walks.{WalkState, start_in, value_from}
use Rattle.freq_skips.proofs.EntryLemmas.{never_broken, postings_from-length}
use Rattle.freq_skips.proofs.entries.Entries.next.Goals as goal
use Rattle.freq_skips.proofs.entries.Entries.next.Goals.{in-Err, in-Ok}

abbrev after : RuledTerm → TermData → ℕ → WalkState
after t v n = record { term = t; value = v; passed = n }

pub returns-clause-entry : goal.returns-clause-entry
returns-clause-entry g c =
    let t = c.self.inside.term in
    let i = c.self.invariant in
    let start = start_in t c.self.inside.frq.now in
    let k = c.self.inside.passing.index in
    let v = value_from t start in
    let count : length v.postings ≡ t.info.doc_freq = ap length i.postings ∙ postings_from-length t start i.all.0 i.all.1 in
    let below : k < length v.postings = omega (arith, count, i.within, c.if-self.false) in
    elim c.match-step.branch [
      | in-Err w ↦ absurd (never_broken t start i.all.0 _ _ i.all.1 (w.in-Err.ensures start i.stands))
      | in-Ok w ↦
          let p = ap (λ (l : _). slice_index_or l k no_posting) i.postings ∙ (w.in-Ok.ensures.2 start i.stands).posting i.all.0 i.all.1 in
          let one : WalkState → Entry = λ s. entry_of (slice_index_or s.value.postings s.passed no_posting) in
          rw w.result-is (
            subst (λ (s : WalkState). s.passed < length s.value.postings) c.self.view_is below,
            sym (ap entry_of p) ∙ ap one c.self.view_is,
            ap (λ (n : ℕ). after t v n) w.in-Ok.ensures.0 ∙ ap (λ (s : WalkState). after s.term s.value (s.passed + 1)) c.self.view_is,
          )
    ]
