-- A cursor over the occurrences of a term, moved on.
use Rattle.std.proofs.Common.{◌≡◌, ℕ, zero, suc, add-one, add-zero, ◌+◌, ◌-◌, ◌<◌, ◌≤◌, Bool, true, false, List, [], ◌∷◌, length, drop, Ok, ◌⊎◌, inl, inr, refl, sym, ap, subst, ◌∙◌, arith}
use Rattle.std.specs.Prelude.{slice_index_or}
use Rattle.lu_grammar.specs.Bytes.{Cursor, place_in}
use Rattle.lu_grammar.specs.Plans.{one, times, read_plan}
use Rattle.lu_grammar.proofs.Loops.{each-none}
use Rattle.lu_grammar.proofs.Plans.{ok_of}
use Rattle.lu_grammar.proofs.Records.{same_pair}
use Rattle.lu_types.specs.Occurrences.{Occurrence}
use Rattle.positions.specs.Occurrences.{PostedTerm, count_at}
use Rattle.positions.specs.Standing.{passed_kind, count_before, Skims, StandsIn, PassesOver}
use Rattle.positions.specs.Cursors.{CursorState, Agrees, StandsAtEntry, StandsAmong, StandsWith}
use Rattle.positions.proofs.StandLemmas.{Skims-as, Stands-as, Stands-closed}
use Rattle.positions.proofs.PassLemmas.{Skims-same, Skims-rest}
use Rattle.positions.proofs.AgreeLemmas.{agrees-passed}

-- passing over so many occurrences leads to the place behind them
pub pass-leads : (payloads : Bool) (start : Cursor) (m n steps found force g : ℕ) (here d : Cursor) (found_behind : ℕ) (behind : Cursor) → Skims payloads start m force here → Agrees payloads found force here → Skims payloads start n g d → m + steps ≡ n
    → PassesOver payloads steps found here found_behind behind → (behind ≡ d) × Agrees payloads found_behind g d
pass-leads payloads start m n zero found force g here d found_behind behind h agrees k sum passes =
    let at : Skims payloads start n force here = Skims-as-flag payloads start m n force here (omega arith) h in
    let same = Skims-same payloads start n force g here d at k in
    let on = passes.leads found here (each-none (one (passed_kind payloads)) found here) in
    (on.1 ∙ same.1, subst (λ (x : ℕ). Agrees payloads x g d) (sym on.0) (subst (λ (c : Cursor). Agrees payloads found g c) same.1 (subst (λ (x : ℕ). Agrees payloads found x here) same.0 agrees)))
  where
    Skims-as-flag : (payloads : Bool) (start : Cursor) (m n force : ℕ) (here : Cursor) → m ≡ n → Skims payloads start m force here → Skims payloads start n force here
    Skims-as-flag payloads start m n force here e h = subst (λ (k : ℕ). Skims payloads start k force here) e h
pass-leads payloads start m n (suc steps) found force g here d found_behind behind h agrees k sum passes =
    let rest = Skims-rest payloads start m n force g here d (omega arith) h k in
    let count : n - m ≡ suc steps = omega arith in
    let read = agrees-passed payloads found force here steps agrees ∙ ap (λ (x : ℕ). read_plan (times (passed_kind payloads) x force) here) (sym count) ∙ rest in
    let on = passes.leads g d read in
    (on.1, inl on.0)

-- where a cursor stands of which so many occurrences of an entry are read
pub StandsWith-made : (p : PostedTerm) (occurrences : List (List Occurrence)) (c : CursorState) (entry count force : ℕ) (left : List Occurrence) → StandsIn p (place_in c.prx p.term.info.prox) entry count force c.position c.here
    → Agrees p.term.rules.payloads c.force force c.here → entry < p.term.info.doc_freq → count + length left ≡ count_at p entry → drop count (slice_index_or occurrences entry []) ≡ left → StandsWith p occurrences (entry + 1) left c
StandsWith-made p occurrences c entry count force [] h agrees lt due is = λ omit.
    let all : count ≡ count_at p entry = omega arith in
    record { force = force; position = 0; stands = Stands-closed p (place_in c.prx p.term.info.prox) entry count force c.position c.here h all; agrees = agrees }
StandsWith-made p occurrences c entry count force (o ∷ os) h agrees lt due is = record {
  entry = entry;
  count = count;
  force = force;
  stands = h;
  agrees = agrees;
  passed_is = refl;
  within = lt;
  due = due;
  left_is = is;
}
