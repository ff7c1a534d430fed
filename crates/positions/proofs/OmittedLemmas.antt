-- A term of a field without positions.
use Rattle.std.proofs.Common.{◌≡◌, ℕ, zero, suc, true, false, Bool, if◌then◌else◌, List, [], ◌∷◌, length, Result, Ok, refl, sym, ap, subst, ◌∙◌}
use Rattle.std.specs.Prelude.{slice_index_or}
use Rattle.lu_grammar.specs.Bytes.{Cursor}
use Rattle.lu_grammar.specs.Reading.{◌>>=◌}
use Rattle.lu_grammar.specs.Plans.{Broken, one, each, read_plan}
use Rattle.lu_grammar.proofs.Loops.{each-none, read_plan-and_then}
use Rattle.lu_types.specs.Occurrences.{Occurrence}
use Rattle.freq_skips.specs.Entries.{no_posting}
use Rattle.positions.specs.Occurrences.{PostedTerm, Held, nothing_held, closed, occurrence_kind, count_at, entry_plan, entries_plan}
use Rattle.positions.specs.Terms.{term_plan}
use Rattle.positions.proofs.StandLemmas.{entry-read, told, told_ok, term-told}

count_at-omitted : (p : PostedTerm) (n : ℕ) → p.term.rules.omit_tf ≡ true → count_at p n ≡ 0
count_at-omitted p n omit = ap (λ (b : Bool). if b then 0 else (slice_index_or p.value.postings n no_posting).freq) omit

entries-omitted : (p : PostedTerm) (n : ℕ) (s : Held) (c : Cursor) → p.term.rules.omit_tf ≡ true → (t : Held) × (read_plan (each (entry_plan p) n s) c ≡ Ok (t, c))
unfolding each read_plan
entries-omitted p zero s c omit = (s, refl)
entries-omitted p (suc n) s c omit =
    let rest = entries-omitted p n (closed s) c omit in (
      rest.0,
      read_plan-and_then (entry_plan p s) (each (entry_plan p) n) c
          ∙ ap (λ (r : Result (Held × Cursor) Broken). r >>= λ x. read_plan (each (entry_plan p) n x.0) x.1) (entry-read p s c 0 s c (count_at-omitted p (length s.before) omit) (each-none (one (occurrence_kind p)) s c))
          ∙ rest.1,
    )

-- it has no record
pub omitted-read : (p : PostedTerm) (c : Cursor) → p.term.rules.omit_tf ≡ true → (v : List (List Occurrence)) × (read_plan (term_plan p) c ≡ Ok (v, c))
omitted-read p c omit =
    let all = entries-omitted p p.term.info.doc_freq nothing_held c omit in
    (all.0.before, term-told p c ∙ ap told all.1 ∙ told_ok all.0 c)
