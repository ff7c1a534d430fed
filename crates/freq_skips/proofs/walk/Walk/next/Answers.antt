use Rattle.std.proofs.Common.{◌≡◌, ℕ, ◌+◌, ◌-◌, ◌^◌, ◌<◌, length, inl, inr, rules, ap, sym, subst, ◌∙◌, arith}
use Rattle.std.specs.Prelude.{slice_index_or}
use Rattle.lu_grammar.specs.Plans.{times}
use Rattle.freq_skips.specs.declared.walk.WalkedEntry.{WalkedEntry}
use Rattle.freq_skips.specs.declared.rules.RuledTerm.{RuledTerm}
use Rattle.freq_skips.specs.Entries.{Posting, no_posting, no_entry, entry_kind, postings_from}
use Rattle.freq_skips.specs.Terms.{TermData}
use Rattle.freq_skips.specs.Walks.{WalkState, AreOnLevels, IsDatumOfLast, HasNoDatumForLast, IsBeforeLast, no_level_place, start_in, value_from}
use Rattle.freq_skips.proofs.EntryLemmas.{IsBehindEntries-as, postings_from-length}
use Rattle.lu_grammar.proofs.Codecs.{place_in-after}
use Rattle.freq_skips.proofs.walk.Walk.next.Goals as goal

pub overflow_cast-self : goal.overflow_cast-self
overflow_cast-self c =
    let t = c.self.inside.term in
    let i = c.self.invariant in
    let after = place_in-after (times (entry_kind t) c.self.inside.passing.index no_entry) c.self.inside.frq.now t.info.freq i.stands.passed c.self.inside.passing.cur i.bytes i.begin_within i.stands.reads in
    let lt : c.saturating_sub.result < 2 ^ 32 = omega (arith, c.saturating_sub.ensures, after.1, c.place-place.ensures, i.small) in
    search rules

pub invariant_of-self-2 : goal.invariant_of-self-2
invariant_of-self-2 c =
    let t = c.self.inside.term in
    let frq = c.self.inside.frq.now in
    let i = c.self.invariant in
    let start = start_in t frq in
    let index = c.in-Ok.ensures.0 in
    let next = c.in-Ok.ensures.2 start i.stands in
    let p = next.posting i.all.0 i.all.1 in
    let k = c.self.inside.passing.index in
    let one : k + 1 - 1 ≡ k = omega arith in
    record {
      interval = i.interval;
      bytes = i.bytes;
      small = i.small;
      begin_within = i.begin_within;
      all = i.all;
      postings = i.postings;
      levels = i.levels;
      few = i.few;
      stands = IsBehindEntries-as t start (k + 1) c.in-Ok.entry.doc c.step.new.self.cur c.step.new.self.index c.step.new.self.doc index c.in-Ok.ensures.1 next.stands;
      within = omega (arith, index, i.within);
      on = subst (λ (n : ℕ). AreOnLevels t frq n c.pass_data_of-self-inside.new.places) (sym index) c.pass_data_of-self-inside.ensures.on;
      fresh_within = c.pass_data_of-self-inside.ensures.within;
      low = λ n lt. subst (λ (m : ℕ). IsDatumOfLast t frq n m (slice_index_or c.pass_data_of-self-inside.new.places n no_level_place).last) (sym index) (c.pass_data_of-self-inside.ensures.low n lt);
      some = λ lt. omega (arith, index);
      high = λ n ge lt. subst (λ (m : ℕ). HasNoDatumForLast t n m) (sym index) (elim (c.pass_data_of-self-inside.ensures.high n ge) [
        | inl ne ↦ inr ne
        | inr le ↦ absurd (omega arith)
      ]);
      before = λ lt. subst (λ (m : ℕ). IsBeforeLast t frq m c.self.inside.passing.doc c.saturating_sub.result) (sym index) (record {
        doc_is = sym (ap (λ (n : ℕ). (slice_index_or (postings_from t start) n no_posting).before) one ∙ ap (λ (q : Posting). q.before) p);
        freq_is = c.saturating_sub.ensures ∙ ap (λ (n : ℕ). n - t.info.freq) c.place-place.ensures
            ∙ sym (ap (λ (n : ℕ). (slice_index_or (postings_from t start) n no_posting).place - t.info.freq) one ∙ ap (λ (q : Posting). q.place - t.info.freq) p);
      });
    }

abbrev advanced : RuledTerm → TermData → ℕ → WalkState
advanced t v n = record { term = t; value = v; passed = n }

pub returns : goal.returns
returns c =
    let t = c.self.inside.term in
    let i = c.self.invariant in
    let start = start_in t c.self.inside.frq.now in
    let k = c.self.inside.passing.index in
    let v = value_from t start in
    let next = c.in-Ok.ensures.2 start i.stands in
    let p = ap (λ (n : _). slice_index_or n k no_posting) i.postings ∙ next.posting i.all.0 i.all.1 in
    let count : length v.postings ≡ t.info.doc_freq = ap length i.postings ∙ postings_from-length t start i.all.0 i.all.1 in
    let walked : Posting → WalkedEntry = λ q. record { index = k; doc = q.doc; freq = q.freq } in
    let state : WalkState → WalkedEntry = λ w. record { index = w.passed; doc = (slice_index_or w.value.postings w.passed no_posting).doc; freq = (slice_index_or w.value.postings w.passed no_posting).freq } in
    let below : k < length v.postings = omega (arith, count, i.within) in (
      subst (λ (w : WalkState). w.passed < length w.value.postings) c.self.view_is below,
      sym (ap walked p) ∙ ap state c.self.view_is,
      ap (λ (n : ℕ). advanced t v n) c.in-Ok.ensures.0 ∙ ap (λ (w : WalkState). advanced w.term w.value (w.passed + 1)) c.self.view_is,
    )
