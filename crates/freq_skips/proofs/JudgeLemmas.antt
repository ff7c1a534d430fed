-- A term is its entries and then its levels, each good or at fault.
use Rattle.std.proofs.Common.{◌≡◌, ℕ, List, [], Result, Ok, Err, sym, ap, ◌∙◌}
use Rattle.std.specs.Prelude.{MatchResult}
use Rattle.lu_types.specs.declared.fault.Spot.{Spot}
use Rattle.lu_types.specs.declared.kind.FileKind.TheVariants.{Frq}
use Rattle.lu_grammar.specs.Bytes.{IsBytes, Cursor, place_in}
use Rattle.lu_grammar.specs.Reading.{◌>>=◌}
use Rattle.lu_grammar.specs.Plans.{done, Broken, read_plan}
use Rattle.lu_grammar.specs.Meaning.{ReadsTo}
use Rattle.lu_grammar.proofs.Parts.{IsBytes-drop}
use Rattle.lu_grammar.proofs.Plans.{reads-read_plan, fault-read_plan, read_plan-ReadsTo, err_is_not_ok}
use Rattle.lu_grammar.proofs.Loops.{read_plan-and_then}
use Rattle.freq_skips.specs.declared.rules.RuledTerm.{RuledTerm}
use Rattle.freq_skips.specs.declared.datum.Point.{Point}
use Rattle.freq_skips.specs.Records.{Record}
use Rattle.freq_skips.specs.Entries.{Posting, EntriesSoFar, entries, postings_from, AreEntries}
use Rattle.freq_skips.specs.Levels.{level_count, levels}
use Rattle.freq_skips.specs.Terms.{TermData, IsTermFault, term_plan}
use Rattle.freq_skips.specs.Walking.{AreGoodLevels}
use Rattle.freq_skips.proofs.EntryLemmas.{postings_from-is}
use Rattle.freq_skips.proofs.TermLemmas.{levels_after}

-- after good entries the levels are due
term-goes_on : (t : RuledTerm) (start mid : Cursor) → AreEntries t start mid → read_plan (term_plan t) start ≡ read_plan (levels_after t (postings_from t start)) mid
term-goes_on t start mid all =
    read_plan-and_then (entries t) (λ s. levels_after t s.postings) start
    ∙ ap (λ (r : Result (EntriesSoFar × Cursor) Broken). r >>= λ x. read_plan (levels_after t x.0.postings) x.1) all.reads
    ∙ ap (λ (l : List Posting). read_plan (levels_after t l) mid) (sym (postings_from-is t start mid all))

abbrev data_of : List Posting → List (List Point) → TermData
data_of postings points = record { postings = postings; levels = points }

levels_after-good : (t : RuledTerm) (postings : List Posting) (mid : Cursor) (points : List (List Point)) (end : Cursor) → read_plan (levels t postings (level_count t) []) mid ≡ Ok (points, end)
    → read_plan (levels_after t postings) mid ≡ Ok (data_of postings points, end)
unfolding read_plan
levels_after-good t postings mid points end e =
    read_plan-and_then (levels t postings (level_count t) []) (λ points. done (data_of postings points)) mid
    ∙ ap (λ (r : Result (List (List Point) × Cursor) Broken). r >>= λ x. read_plan {R = Record} (done (data_of postings x.0)) x.1) e

levels_after-fault : (t : RuledTerm) (postings : List Posting) (mid : Cursor) (b : Broken) → read_plan (levels t postings (level_count t) []) mid ≡ Err b → read_plan (levels_after t postings) mid ≡ Err b
levels_after-fault t postings mid b e =
    read_plan-and_then (levels t postings (level_count t) []) (λ points. done (data_of postings points)) mid
    ∙ ap (λ (r : Result (List (List Point) × Cursor) Broken). r >>= λ x. read_plan {R = Record} (done (data_of postings x.0)) x.1) e

term-fault : (t : RuledTerm) (from : Cursor) (b : Broken) → IsBytes from.rest → read_plan (term_plan t) from ≡ Err b → IsTermFault t from b.offset b.rule
term-fault t from b fits e = record {
  fault = fault-read_plan (term_plan t) from b fits e;
  unread = λ value end h. err_is_not_ok (sym e ∙ read_plan-ReadsTo (term_plan t) from value end h);
}

-- the term reads to the end of its levels, or is at fault where they are
pub term-good : (t : RuledTerm) (frq : List ℕ) (at mid end : ℕ) → IsBytes frq → AreEntries t (place_in frq at) (place_in frq mid) → AreGoodLevels t (postings_from t (place_in frq at)) frq mid end
    → (value : TermData) × ReadsTo (term_plan t) (place_in frq at) value (place_in frq end)
term-good t frq at mid end fits all good =
    let ps = postings_from t (place_in frq at) in (
      data_of ps good.points,
      reads-read_plan (term_plan t) (place_in frq at) (data_of ps good.points) (place_in frq end) (IsBytes-drop at frq fits)
          (term-goes_on t (place_in frq at) (place_in frq mid) all ∙ levels_after-good t ps (place_in frq mid) good.points (place_in frq end) good.reads),
    )

pub term-levels_broken : (t : RuledTerm) (frq : List ℕ) (at mid offset rule : ℕ) → IsBytes frq → AreEntries t (place_in frq at) (place_in frq mid)
    → read_plan (levels t (postings_from t (place_in frq at)) (level_count t) []) (place_in frq mid) ≡ Err (record { offset = offset; rule = rule }) → IsTermFault t (place_in frq at) offset rule
term-levels_broken t frq at mid offset rule fits all e =
    term-fault t (place_in frq at) (record { offset = offset; rule = rule }) (IsBytes-drop at frq fits)
    (term-goes_on t (place_in frq at) (place_in frq mid) all ∙ levels_after-fault t (postings_from t (place_in frq at)) (place_in frq mid) _ e)

pub term-entries_broken : (t : RuledTerm) (frq : List ℕ) (at offset rule : ℕ) → IsBytes frq → read_plan (entries t) (place_in frq at) ≡ Err (record { offset = offset; rule = rule }) → IsTermFault t (place_in frq at) offset rule
term-entries_broken t frq at offset rule fits e =
    term-fault t (place_in frq at) (record { offset = offset; rule = rule }) (IsBytes-drop at frq fits)
    (read_plan-and_then (entries t) (λ s. levels_after t s.postings) (place_in frq at)
    ∙ ap (λ (r : Result (EntriesSoFar × Cursor) Broken). r >>= λ x. read_plan (levels_after t x.0.postings) x.1) e)

-- what the check answers of the levels it answers of the term
pub term-judged : (t : RuledTerm) (frq : List ℕ) (at mid : ℕ) (r : Result ℕ Spot) → IsBytes frq → AreEntries t (place_in frq at) (place_in frq mid)
    → MatchResult r (λ end. AreGoodLevels t (postings_from t (place_in frq at)) frq mid end)
    (λ spot. (spot.kind ≡ Frq) × (read_plan (levels t (postings_from t (place_in frq at)) (level_count t) []) (place_in frq mid) ≡ Err (record { offset = spot.offset; rule = spot.rule })))
    → MatchResult r (λ end. (value : TermData) × ReadsTo (term_plan t) (place_in frq at) value (place_in frq end)) (λ spot. (spot.kind ≡ Frq) × IsTermFault t (place_in frq at) spot.offset spot.rule)
term-judged t frq at mid (Ok end) fits all h = term-good t frq at mid end fits all h
term-judged t frq at mid (Err spot) fits all h = (h.0, term-levels_broken t frq at mid spot.offset spot.rule fits all h.1)
