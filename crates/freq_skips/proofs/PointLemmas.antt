-- Where the data of the levels of a good term lead.
use Rattle.std.proofs.Common.{◌≡◌, ℕ, zero, suc, ◌-◌, ◌*◌, ◌<◌, ◌≤◌, inl, inr, List, [], ◌∷◌, Option, Some, None, refl, sym, subst, arith}
use Rattle.std.specs.Prelude.{slice_index_or}
use Rattle.std.proofs.lemmas.Bool.{cases_eq}
use Rattle.std.proofs.Math.Nat.{le-div_iff_mul-le, mul-le-mul_right}
use Rattle.lu_grammar.specs.Bytes.{IsBytes, Cursor}
use Rattle.lu_grammar.specs.Plans.{read_plan}
use Rattle.lu_grammar.proofs.Plans.{ok_of}
use Rattle.freq_skips.specs.declared.rules.RuledTerm.{RuledTerm}
use Rattle.freq_skips.specs.declared.datum.Point.{Point}
use Rattle.freq_skips.specs.Records.{length_shape, length_of}
use Rattle.freq_skips.specs.Entries.{Posting, no_posting, postings_from, AreGoodFrom}
use Rattle.freq_skips.specs.Levels.{Along, no_point, level_of, level_count, stride, data_count, length_conditions, level_data, level_plan, levels, AreData}
use Rattle.freq_skips.specs.Terms.{IsGoodTerm}
use Rattle.freq_skips.specs.Walks.{start_in, points_in}
use Rattle.freq_skips.proofs.Powers.{power-pos}
use Rattle.freq_skips.proofs.TermLemmas.{TermParts-ReadsTo}
use Rattle.freq_skips.proofs.WalkLemmas.{LevelsRead-good, levels-read, levels-points, due-read}
use Rattle.freq_skips.proofs.AgainLemmas.{point-wanted}

-- the data of a level stand somewhere
pub record KnownLevel (t : RuledTerm) (ps : List Posting) (level : ℕ) (points : List Point) : Type 0 where
  pub stated : Option ℕ
  pub above : List (List Point)
  pub start : Cursor
  pub end : Cursor
  pub all : AreData t ps (level_of level stated above) start points end

level-known : (t : RuledTerm) (ps : List Posting) (level : ℕ) (above : List (List Point)) (c : Cursor) (s : Along) (d : Cursor) → read_plan (level_plan t ps level above) c ≡ ok_of (s, d) → KnownLevel t ps level s.points
level-known t ps zero above c s d e = record { stated = None; above = above; start = c; end = d; all = record { along = s; reads = e; points_are = refl } }
level-known t ps (suc n) above c s d e =
    let due = due-read length_shape (length_conditions t (level_of (suc n) None above)) (λ place r. level_data t ps (level_of (suc n) (Some (length_of r)) above)) c s d e in
    record { stated = Some (length_of due.0); above = above; start = due.1; end = d; all = record { along = s; reads = due.3; points_are = refl } }

levels-known : (t : RuledTerm) (ps : List Posting) (n level : ℕ) (above : List (List Point)) (c : Cursor) (found : List (List Point)) (end : Cursor) → read_plan (levels t ps n above) c ≡ ok_of (found, end) → level < n → KnownLevel t ps level (slice_index_or found level [])
levels-known t ps zero level above c found end e lt = absurd (omega arith)
levels-known t ps (suc n) level above c found end e lt =
    go (levels-read t ps (suc n) n above c found end refl e) (λ points d rest low. levels-known t ps n level (points ∷ above) d found end rest low)
  where
    go : ((s : Along) × (d : Cursor) × (read_plan (level_plan t ps n above) c ≡ ok_of (s, d)) × (read_plan (levels t ps n (s.points ∷ above)) d ≡ ok_of (found, end)))
        → ((points : List Point) (d : Cursor) → read_plan (levels t ps n (points ∷ above)) d ≡ ok_of (found, end) → level < n → KnownLevel t ps level (slice_index_or found level [])) → KnownLevel t ps level (slice_index_or found level [])
    go (s, d, one, rest) later = elim (cases_eq level n) [
      | inl same ↦ subst (λ (k : ℕ). KnownLevel t ps k (slice_index_or found k [])) (sym same)
          (subst (λ (p : List Point). KnownLevel t ps n p) (sym (levels-points t ps n s.points above d found end rest)) (level-known t ps n above c s d one))
      | inr other ↦ later s.points d rest (omega arith)
    ]

-- the entries of a good term
pub entries-good : (t : RuledTerm) (frq : List ℕ) → IsGoodTerm t.info t.rules frq → AreGoodFrom t (start_in t frq)
entries-good t frq good = let parts = TermParts-ReadsTo t (start_in t frq) good.value good.end good.reads in (parts.mid, parts.all)

pub level-of-term : (t : RuledTerm) (frq : List ℕ) (level : ℕ) → IsBytes frq → IsGoodTerm t.info t.rules frq → level < level_count t → KnownLevel t (postings_from t (start_in t frq)) level (points_in t frq level)
level-of-term t frq level fits good lt =
    let read = LevelsRead-good t frq fits good (omega arith) in
    levels-known t (postings_from t (start_in t frq)) (level_count t) level [] _ _ read.end read.reads lt

-- where the datum with a number leads
pub record LeadsThere (t : RuledTerm) (frq : List ℕ) (level m : ℕ) : Type 0 where
  pub within : suc m * stride t level - 1 < t.info.doc_freq
  pub doc : (slice_index_or (points_in t frq level) m no_point).doc ≡ (slice_index_or (postings_from t (start_in t frq)) (suc m * stride t level - 1) no_posting).before
  pub freq : (slice_index_or (points_in t frq level) m no_point).freq ≡ (slice_index_or (postings_from t (start_in t frq)) (suc m * stride t level - 1) no_posting).place - t.info.freq

-- the entry that a datum belongs to is one of the term
pub entry-within : (t : RuledTerm) (level m : ℕ) → 2 ≤ t.rules.skip_interval → m < data_count t level → (suc m * stride t level ≤ t.info.doc_freq) × (0 < suc m * stride t level)
entry-within t level m two lt =
    let pos : 0 < stride t level = power-pos t.rules.skip_interval (suc level) two in
    let le : suc m * stride t level ≤ t.info.doc_freq = (le-div_iff_mul-le pos).0 (omega arith) in
    let some : 1 * stride t level ≤ suc m * stride t level = mul-le-mul_right (stride t level) (let z : 1 ≤ suc m = omega arith in z) in
    (le, omega arith)

pub leads-there : (t : RuledTerm) (frq : List ℕ) (level m : ℕ) → IsBytes frq → IsGoodTerm t.info t.rules frq → level < level_count t → m < data_count t level → LeadsThere t frq level m
leads-there t frq level m fits good lt below =
    let known = level-of-term t frq level fits good lt in
    let is = point-wanted t (postings_from t (start_in t frq)) (level_of level known.stated known.above) known.start (points_in t frq level) known.end m known.all below in
    let w = entry-within t level m good.interval below in
    record { within = omega (arith, w.0, w.1); doc = is.0; freq = is.1 }
