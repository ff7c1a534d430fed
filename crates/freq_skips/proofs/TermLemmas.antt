-- What a term that was read is made of.
use Rattle.std.proofs.Common.{◌≡◌, List, [], Ok, sym, ap, ◌∙◌}
use Rattle.lu_grammar.specs.Bytes.{Cursor}
use Rattle.lu_grammar.specs.Plans.{Plan, done, and_then, read_plan}
use Rattle.lu_grammar.specs.Meaning.{ReadsTo}
use Rattle.lu_grammar.proofs.Records.{same_pair}
use Rattle.lu_grammar.proofs.Plans.{ok_of, read_plan-ReadsTo}
use Rattle.lu_grammar.proofs.Loops.{read_plan-and_then, then_ok}
use Rattle.freq_skips.specs.declared.datum.Point.{Point}
use Rattle.freq_skips.specs.declared.rules.RuledTerm.{RuledTerm}
use Rattle.freq_skips.specs.Records.{Record}
use Rattle.freq_skips.specs.Entries.{Posting, EntriesSoFar, entries, postings_from, AreEntries}
use Rattle.freq_skips.specs.Levels.{level_count, levels}
use Rattle.freq_skips.specs.Terms.{TermData, term_plan}
use Rattle.freq_skips.proofs.EntryLemmas.{postings_from-is}

-- the skip levels after entries
abbrev pub levels_after : RuledTerm → List Posting → Plan TermData Record
levels_after t postings = and_then (levels t postings (level_count t) []) (λ points. done (record { postings = postings; levels = points }))

-- a term that was read is its entries and then its levels
pub record TermParts (t : RuledTerm) (start : Cursor) (v : TermData) (end : Cursor) : Type 0 where
  pub mid : Cursor
  pub all : AreEntries t start mid
  pub postings : v.postings ≡ postings_from t start
  pub levels_read : read_plan (levels t (postings_from t start) (level_count t) []) mid ≡ Ok (v.levels, end)

-- two plans that were read, one after the other
pub and_then-read : {V W R : Type 0} (plan : Plan V R) (next : V → Plan W R) (c : Cursor) (w : W) (e : Cursor) → read_plan (and_then plan next) c ≡ ok_of (w, e)
    → (v : V) × (d : Cursor) × (read_plan plan c ≡ Ok (v, d)) × (read_plan (next v) d ≡ ok_of (w, e))
and_then-read {V} {W} {R} plan next c w e h =
    let first = then_ok (read_plan plan c) (λ x. read_plan (next x.0) x.1) (w, e) (sym (read_plan-and_then plan next c) ∙ h) in
    (first.0.0, first.0.1, first.1, first.2)

-- a value that follows without a record
pub done-read : {V : Type 0} (v w : V) (c e : Cursor) → read_plan {R = Record} (done v) c ≡ ok_of (w, e) → (v ≡ w) × (c ≡ e)
unfolding read_plan
done-read v w c e h = same_pair v w c e h

levels_parts : (t : RuledTerm) (postings : List Posting) (mid : Cursor) (v : TermData) (end : Cursor) (points : List (List Point)) (to : Cursor) → read_plan (levels t postings (level_count t) []) mid ≡ Ok (points, to)
    → (ok : record { postings = postings; levels = points } ≡ v) → to ≡ end → (v.postings ≡ postings) × (read_plan (levels t postings (level_count t) []) mid ≡ Ok (v.levels, end))
levels_parts t postings mid v end points to e is at =
    (sym (ap (λ (d : TermData). d.postings) is), e ∙ ap (λ (l : List (List Point)). ok_of (l, to)) (ap (λ (d : TermData). d.levels) is) ∙ ap (λ (c : Cursor). ok_of (v.levels, c)) at)

levels_after-read : (t : RuledTerm) (postings : List Posting) (mid : Cursor) (v : TermData) (end : Cursor) → read_plan (levels_after t postings) mid ≡ ok_of (v, end)
    → (v.postings ≡ postings) × (read_plan (levels t postings (level_count t) []) mid ≡ Ok (v.levels, end))
levels_after-read t postings mid v end h = go (and_then-read (levels t postings (level_count t) []) (λ points. done (record { postings = postings; levels = points })) mid v end h)
  where
    go : ((points : List (List Point)) × (to : Cursor) × (read_plan (levels t postings (level_count t) []) mid ≡ Ok (points, to)) × (read_plan {V = TermData} {R = Record} (done (record { postings = postings; levels = points })) to ≡ ok_of (v, end)))
        → (v.postings ≡ postings) × (read_plan (levels t postings (level_count t) []) mid ≡ Ok (v.levels, end))
    go (points, to, e, d) = let same = done-read _ v to end d in levels_parts t postings mid v end points to e same.0 same.1

pub TermParts-read : (t : RuledTerm) (start : Cursor) (v : TermData) (end : Cursor) → read_plan (term_plan t) start ≡ Ok (v, end) → TermParts t start v end
TermParts-read t start v end h = go (and_then-read (entries t) (λ s. levels_after t s.postings) start v end h)
  where
    go : ((s : EntriesSoFar) × (mid : Cursor) × (read_plan (entries t) start ≡ Ok (s, mid)) × (read_plan (levels_after t s.postings) mid ≡ ok_of (v, end))) → TermParts t start v end
    go (s, mid, e, h) =
        let all : AreEntries t start mid = record { passed = s; reads = e } in
        let is = postings_from-is t start mid all in
        let both = levels_after-read t (postings_from t start) mid v end (ap (λ (l : List Posting). read_plan (levels_after t l) mid) is ∙ h) in
        record { mid = mid; all = all; postings = both.0; levels_read = both.1 }

pub TermParts-ReadsTo : (t : RuledTerm) (start : Cursor) (v : TermData) (end : Cursor) → ReadsTo (term_plan t) start v end → TermParts t start v end
TermParts-ReadsTo t start v end h = TermParts-read t start v end (read_plan-ReadsTo (term_plan t) start v end h)
