-- A term that a writer finishes is good, and stands for what was handed over.
use Rattle.std.proofs.Common.{◌≡◌, ℕ, zero, suc, ◌+◌, ◌-◌, ◌*◌, ◌<◌, eqb, false, List, [], ◌++◌, length, drop, get_or, inl, inr, refl, sym, ap, subst, ◌∙◌, append_assoc, arith}
use Rattle.std.specs.Prelude.{slice_index_or}
use Rattle.std.proofs.lemmas.Bool.{cases_eq, ne_eqb}
use Rattle.std.proofs.lemmas.List.{length-append, append-nil}
use Rattle.std.proofs.Math.Seq.{drop-append_seam}
use Rattle.lu_grammar.specs.Bytes.{IsBytes, place_in}
use Rattle.lu_grammar.specs.Meaning.{ReadsTo}
use Rattle.lu_grammar.specs.Plans.{done, read_plan}
use Rattle.lu_grammar.proofs.Parts.{IsBytes-drop}
use Rattle.lu_grammar.proofs.Plans.{ok_of, reads-read_plan}
use Rattle.lu_grammar.proofs.Records.{at}
use Rattle.lu_grammar.proofs.Writers.{Writes, Writes-done, Writes-and_then}
use Rattle.freq_skips.specs.declared.rules.RuledTerm.{RuledTerm}
use Rattle.freq_skips.specs.declared.datum.Point.{Point}
use Rattle.freq_skips.specs.Records.{Record}
use Rattle.freq_skips.specs.Entries.{Posting, no_entry, entries}
use Rattle.freq_skips.specs.Levels.{level_count, levels, stride, data_count, no_point}
use Rattle.freq_skips.specs.Written.{Handed, entries_bytes, last_doc, mark_of, written_postings, SkipLevel, skip_level, data_bytes, data_number, level_above, skip_bytes}
use Rattle.freq_skips.specs.Writing.{FrqWriting, levels_due, lowest, skips, term_bytes, finished, skip_delta, term_written, IsFinishable, LeadsTo, IsAsHanded}
use Rattle.freq_skips.specs.Terms.{TermData, term_plan}
use Rattle.freq_skips.proofs.TermLemmas.{levels_after}
use Rattle.freq_skips.proofs.LevelsLemmas.{levels-none}
use Rattle.freq_skips.proofs.WrittenEntries.{passed_with, Writes-entries}
use Rattle.freq_skips.proofs.WrittenLevels.{written_points}
use Rattle.freq_skips.proofs.WrittenTerms.{base_for, found_points, levels-written, written_points-at, skip_bytes-none}
use Rattle.freq_skips.proofs.LeadLemmas.{IsHandedOver, level_for, level-count, all-lead}

-- what is finished was handed over
HandedOver-finishable : (w : FrqWriting) (documents field prox : ℕ) → IsFinishable w documents → IsHandedOver (term_written w documents field prox) w.entries
HandedOver-finishable w documents field prox f = record {
  two = f.interval;
  doc_freq = refl;
  order = f.order;
  prox = f.prox;
  small = omega (arith, f.small, length-append w.bytes (entries_bytes w.omit 0 w.entries));
}

abbrev no_levels : List (List Point)
no_levels = []

-- how far the skip data start, where there are some
delta-is : (w : FrqWriting) → (levels_due w ≡ 0 → ⊥) → skip_delta w ≡ length (entries_bytes w.omit 0 w.entries)
delta-is w some = let test : eqb (levels_due w) 0 ≡ false = ne_eqb _ _ some in rw test refl

-- its skip data
Writes-levels : (w : FrqWriting) (documents field prox : ℕ) → IsFinishable w documents
    → Writes (levels (term_written w documents field prox) (written_postings w.omit (length w.bytes) 0 w.entries) (level_count (term_written w documents field prox)) []) (length w.bytes + length (entries_bytes w.omit 0 w.entries))
    (skips w) (found_points (levels_due w) (lowest w) (length w.bytes + length (entries_bytes w.omit 0 w.entries)))
Writes-levels w documents field prox f =
    let t = term_written w documents field prox in
    let ps = written_postings w.omit (length w.bytes) 0 w.entries in
    let r = lowest w in
    let place = length w.bytes + length (entries_bytes w.omit 0 w.entries) in
    elim (cases_eq (levels_due w) 0) [
      | inl e ↦
          let none : Writes (levels t ps (level_count t) []) place (skip_bytes 0 r) no_levels = record {
            reads = λ rest. ap (λ (b : List ℕ). read_plan (levels t ps (level_count t) []) (at place (b ++ rest))) (skip_bytes-none r 0 refl) ∙ levels-none t ps (level_count t) [] (at place rest) e
                ∙ ap (λ (n : ℕ). ok_of (no_levels, at n rest)) (let z : place ≡ place + length (skip_bytes 0 r) = omega (arith, ap length (skip_bytes-none r 0 refl)) in z);
          } in
          subst (λ (k : ℕ). Writes (levels t ps (level_count t) []) place (skip_bytes k r) (found_points k r place)) (sym e) none
      | inr ne ↦
          let start : place ≡ length w.bytes + skip_delta w = omega (arith, delta-is w ne) in
          let all = all-lead t w.entries (levels_due w) (HandedOver-finishable w documents field prox f) f.skips_small in
          record {
            reads = λ rest. ap (λ (n : ℕ). read_plan (levels t ps n []) (at place (skip_bytes (levels_due w) r ++ rest))) (let z : levels_due w ≡ levels_due w + 0 = omega arith in z)
                ∙ levels-written t ps (levels_due w) r place rest f.interval start all
                ∙ levels-none t ps 0 (found_points (levels_due w) r place) (at (place + length (skip_bytes (levels_due w) r)) rest) refl;
          }
    ]

-- the value of the term
abbrev pub value_written : FrqWriting → TermData
value_written w = record {
  postings = written_postings w.omit (length w.bytes) 0 w.entries;
  levels = found_points (levels_due w) (lowest w) (length w.bytes + length (entries_bytes w.omit 0 w.entries));
}

abbrev data_made : List Posting → List (List Point) → TermData
data_made postings points = record { postings = postings; levels = points }

Writes-term : (w : FrqWriting) (documents field prox : ℕ) → IsFinishable w documents → Writes (term_plan (term_written w documents field prox)) (length w.bytes) (term_bytes w) (value_written w)
Writes-term w documents field prox f =
    let t = term_written w documents field prox in
    let ps = written_postings w.omit (length w.bytes) 0 w.entries in
    let entry_part = entries_bytes w.omit 0 w.entries in
    let skip_part = skips w in
    let found = found_points (levels_due w) (lowest w) (length w.bytes + length entry_part) in
    let first : Writes (entries t) (length w.bytes) entry_part (passed_with (last_doc 0 w.entries) ps) = Writes-entries t w.entries no_entry (length w.bytes) f.order (λ e. refl) in
    let nothing : Writes {R = Record} (done (data_made ps found)) (length w.bytes + length entry_part + length skip_part) [] (data_made ps found) = Writes-done (length w.bytes + length entry_part + length skip_part) (data_made ps found) in
    let second = subst (λ (b : List ℕ). Writes (levels_after t ps) (length w.bytes + length entry_part) b (data_made ps found)) (append-nil skip_part)
    (Writes-and_then (levels t ps (level_count t) []) (λ points. done (data_made ps points)) (length w.bytes + length entry_part) skip_part [] found (data_made ps found) (Writes-levels w documents field prox f) nothing) in
    Writes-and_then (entries t) (λ s. levels_after t s.postings) (length w.bytes) entry_part skip_part (passed_with (last_doc 0 w.entries) ps) (data_made ps found) first second

-- ---- where its data lead

level-at : SkipLevel → ℕ → SkipLevel
level-at r n = skip_level r.omit r.payloads r.interval r.entries n

found-at : (k : ℕ) (r : SkipLevel) (place n number : ℕ) → n < k → number ≡ r.number + n → (base : ℕ) × (get_or (found_points k r place) n [] ≡ written_points (level-at r number) base (data_number (level-at r number)))
unfolding level-at
found-at zero r place n number lt is = absurd (omega arith)
found-at (suc k) r place zero number lt is =
    let same : number ≡ r.number = omega arith in
    let base = base_for r.number (place + length (skip_bytes k (level_above r))) (data_bytes r (data_number r)) in
    (base, ap (λ (m : ℕ). written_points (level-at r m) base (data_number (level-at r m))) (sym same))
found-at (suc k) r place (suc n) number lt is = found-at k (level_above r) place n number (omega arith) (omega arith)

leads-at : (t : RuledTerm) (handed : List Handed) (k place n m : ℕ) → IsHandedOver t handed → n < k → m < data_count t n
    → LeadsTo (slice_index_or (slice_index_or (found_points k (level_for t handed 0) place) n []) m no_point) (mark_of t.rules.omit_tf handed (suc m * stride t n - 1))
unfolding level-at
leads-at t handed k place n m o below lt =
    let found = found-at k (level_for t handed 0) place n n below (omega arith) in
    let l = level_for t handed n in
    let within : m < data_number l = subst (λ (c : ℕ). m < c) (sym (level-count t handed n o)) lt in
    let point = ap (λ (ps : List Point). slice_index_or ps m no_point) found.1 ∙ written_points-at l found.0 (data_number l) m within in
    subst (λ (p : Point). LeadsTo p (mark_of t.rules.omit_tf handed (suc m * stride t n - 1))) (sym point) (refl, refl, refl, refl)

IsAsHanded-written : (w : FrqWriting) (documents field prox : ℕ) → IsFinishable w documents → IsAsHanded (term_written w documents field prox) w.entries (value_written w)
IsAsHanded-written w documents field prox f = record {
  postings = refl;
  leads = λ n m below lt. leads-at (term_written w documents field prox) w.entries (levels_due w) (length w.bytes + length (entries_bytes w.omit 0 w.entries)) n m (HandedOver-finishable w documents field prox f) below lt;
}

-- ---- in the file

pub ReadsTo-finished : (w : FrqWriting) (documents field prox : ℕ) (frq rest : List ℕ) → IsFinishable w documents → frq ≡ (finished w).bytes ++ rest → IsBytes frq
    → (value : TermData) × IsAsHanded (term_written w documents field prox) w.entries value
    × ReadsTo (term_plan (term_written w documents field prox)) (place_in frq (length w.bytes)) value (place_in frq (length (finished w).bytes))
ReadsTo-finished w documents field prox frq rest f e fits =
    let t = term_written w documents field prox in
    let v = value_written w in
    let own = term_bytes w in
    let is : frq ≡ w.bytes ++ (own ++ rest) = e ∙ append_assoc w.bytes own rest in
    let start : drop (length w.bytes) frq ≡ own ++ rest = ap (λ (b : List ℕ). drop (length w.bytes) b) is ∙ drop-append_seam w.bytes (own ++ rest) in
    let size : length (finished w).bytes ≡ length w.bytes + length own = length-append w.bytes own in
    let end : drop (length (finished w).bytes) frq ≡ rest = ap (λ (b : List ℕ). drop (length (finished w).bytes) b) e ∙ drop-append_seam (finished w).bytes rest in
    let reads = ap (λ (b : List ℕ). read_plan (term_plan t) (at (length w.bytes) b)) start ∙ (Writes-term w documents field prox f).reads rest
    ∙ ap (λ (n : ℕ). ok_of (v, at n rest)) (sym size) ∙ ap (λ (b : List ℕ). ok_of (v, at (length (finished w).bytes) b)) (sym end) in
    (v, IsAsHanded-written w documents field prox f, reads-read_plan (term_plan t) (place_in frq (length w.bytes)) v (place_in frq (length (finished w).bytes)) (IsBytes-drop (length w.bytes) frq fits) reads)
