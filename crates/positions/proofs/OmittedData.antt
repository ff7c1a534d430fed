-- The skip data of a term of a field without positions skip none.
use Rattle.std.proofs.Common.{◌≡◌, ℕ, zero, suc, ◌+◌, ◌<◌, Bool, true, false, not, ◌&&◌, ◌==◌, List, [], ◌∷◌, ◌++◌, length, get_or, Option, Some, None, Ok, refl, sym, ap, subst, ◌∙◌, arith}
use Rattle.std.specs.Prelude.{slice_index_or}
use Rattle.lu_grammar.specs.Bytes.{Cursor}
use Rattle.lu_grammar.specs.Reading.{◌>>=◌}
use Rattle.lu_grammar.specs.Records.{record_at}
use Rattle.lu_grammar.specs.Plans.{times, read_plan}
use Rattle.lu_grammar.specs.Meaning.{ReadsTo}
use Rattle.lu_grammar.proofs.Plans.{ok_of}
use Rattle.lu_grammar.proofs.Records.{same_pair}
use Rattle.lu_grammar.proofs.Codecs.{all_unbroken, same-of, record_at-kept, times-keeps, due_was}
use Rattle.freq_skips.specs.declared.rules.RuledTerm.{RuledTerm}
use Rattle.freq_skips.specs.declared.datum.Point.{Point}
use Rattle.freq_skips.specs.Records.{Record, skip_of, length_of, length_shape}
use Rattle.freq_skips.specs.Entries.{Posting, postings_from}
use Rattle.freq_skips.specs.Levels.{Along, Level, no_point, no_datum, point_of, datum_kind, level_data, level_of, level_plan, length_conditions, level_count, levels, data_count}
use Rattle.freq_skips.specs.Terms.{TermData, term_plan}
use Rattle.freq_skips.specs.Walks.{point_at}
use Rattle.freq_skips.proofs.TermLemmas.{TermParts-ReadsTo, and_then-read}

-- data that skip no positions
record SkipNone (s : Along) : Type 0 where
  pub last : s.last.prox ≡ 0
  pub points : (m : ℕ) → (slice_index_or s.points m no_point).prox ≡ 0

one-more : (ps : List Point) (q : Point) → ((m : ℕ) → (get_or ps m no_point).prox ≡ 0) → q.prox ≡ 0 → (m : ℕ) → (get_or (ps ++ q ∷ []) m no_point).prox ≡ 0
one-more [] q h is zero = is
one-more [] q h is (suc m) = refl
one-more (p ∷ ps) q h is zero = h 0
one-more (p ∷ ps) q h is (suc m) = one-more ps q (λ n. h (suc n)) is m

SkipNone-step : (t : RuledTerm) (postings : List Posting) (l : Level) → t.rules.omit_tf ≡ true → (s : Along) (c : Cursor) (r : Record) (d : Cursor) → SkipNone s
    → record_at ((datum_kind t postings l).shape s) ((datum_kind t postings l).conditions s c.place) c ≡ Ok (r, d) → SkipNone ((datum_kind t postings l).after s c.place r)
SkipNone-step t postings l omit s c r d h e =
    let kept = all_unbroken ((datum_kind t postings l).conditions s c.place r) (record_at-kept ((datum_kind t postings l).shape s) ((datum_kind t postings l).conditions s c.place) c r d e) in
    let none : (skip_of r).prox ≡ 0 = same-of (skip_of r).prox 0 (ap (λ (b : Bool). b && not ((skip_of r).prox == 0)) (sym omit) ∙ kept.1.1.1.0) in
    let sum : s.last.prox + (skip_of r).prox ≡ 0 = omega (arith, h.last) in
    record { last = sum; points = one-more s.points (point_of t s.last c.place r) h.points sum }

data-none : (t : RuledTerm) (postings : List Posting) (l : Level) (c : Cursor) (s : Along) (d : Cursor) → t.rules.omit_tf ≡ true → read_plan (level_data t postings l) c ≡ Ok (s, d) → SkipNone s
data-none t postings l c s d omit e =
    times-keeps (datum_kind t postings l) SkipNone (SkipNone-step t postings l omit) (data_count t l.number) no_datum c s d (record { last = refl; points = λ m. refl }) e

level-none : (t : RuledTerm) (postings : List Posting) (n : ℕ) (above : List (List Point)) (c : Cursor) (s : Along) (d : Cursor) → t.rules.omit_tf ≡ true → read_plan (level_plan t postings n above) c ≡ Ok (s, d) → SkipNone s
level-none t postings zero above c s d omit e = data-none t postings (level_of 0 None above) c s d omit e
level-none t postings (suc n) above c s d omit e =
    let was = due_was length_shape (length_conditions t (level_of (suc n) None above)) (λ place r. level_data t postings (level_of (suc n) (Some (length_of r)) above)) c (s, d) e in
    data-none t postings (level_of (suc n) (Some (length_of was.0.0)) above) was.0.1 s d omit was.2

-- on each level
one-level : (points : List Point) (above : List (List Point)) → ((m : ℕ) → (slice_index_or points m no_point).prox ≡ 0) → ((level m : ℕ) → (slice_index_or (slice_index_or above level []) m no_point).prox ≡ 0)
    → (level m : ℕ) → (slice_index_or (slice_index_or (points ∷ above) level []) m no_point).prox ≡ 0
one-level points above h k zero m = h m
one-level points above h k (suc level) m = k level m

levels-none : (t : RuledTerm) (postings : List Posting) (n : ℕ) (above : List (List Point)) (c : Cursor) (found : List (List Point)) (d : Cursor) → t.rules.omit_tf ≡ true → ((level m : ℕ) → (slice_index_or (slice_index_or above level []) m no_point).prox ≡ 0)
    → read_plan (levels t postings n above) c ≡ ok_of (found, d) → (level m : ℕ) → (slice_index_or (slice_index_or found level []) m no_point).prox ≡ 0
unfolding levels read_plan
levels-none t postings zero above c found d omit h e = λ level m. let same = same_pair above found c d e in ap (λ (l : List (List Point)). (slice_index_or (slice_index_or l level []) m no_point).prox) (sym same.0) ∙ h level m
levels-none t postings (suc n) above c found d omit h e =
    let both = and_then-read (level_plan t postings n above) (λ s. levels t postings n (s.points ∷ above)) c found d e in
    levels-none t postings n (both.0.points ∷ above) both.1 found d omit (one-level both.0.points above (level-none t postings n above c both.0 both.1 omit both.2).points h) both.3

pub omitted-points : (t : RuledTerm) (start : Cursor) (v : TermData) (end : Cursor) → ReadsTo (term_plan t) start v end → t.rules.omit_tf ≡ true → (level m : ℕ) → (point_at v level m).prox ≡ 0
omitted-points t start v end h omit =
    let parts = TermParts-ReadsTo t start v end h in
    levels-none t (postings_from t start) (level_count t) [] parts.mid v.levels end omit (λ level m. refl) parts.levels_read
