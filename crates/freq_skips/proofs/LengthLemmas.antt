-- The length of a level, and then its data.
use Rattle.std.proofs.Common.{◌≡◌, ◌≢◌, ℕ, zero, suc, ◌≤◌, Bool, List, [], ◌∷◌, length, Option, Some, None, Result, Ok, Err, refl, sym, ap, ◌∙◌, arith}
use Rattle.std.specs.Prelude.{◌==◌, not}
use Rattle.std.specs.Option.{is_some}
use Rattle.std.proofs.lemmas.Bool.{ne_eqb}
use Rattle.freq_skips.proofs.WantedLemmas.{turned}
use Rattle.lu_grammar.specs.Bytes.{IsBytes, Cursor, place_in}
use Rattle.lu_grammar.specs.Records.{record_at}
use Rattle.lu_grammar.specs.Plans.{Plan, done, due, read_plan}
use Rattle.lu_grammar.proofs.Plans.{ok_of, read_due, read_due_broken}
use Rattle.freq_skips.specs.declared.rules.RuledTerm.{RuledTerm}
use Rattle.freq_skips.specs.declared.datum.Point.{Point}
use Rattle.freq_skips.specs.Records.{Record, level_length, length_shape, length_of}
use Rattle.freq_skips.specs.Entries.{Posting}
use Rattle.freq_skips.specs.Levels.{skip_start, length_conditions, level_of, level_data, level_plan, AreGoodData}
use Rattle.freq_skips.specs.Walking.{StandAbove, IsGoodLevel}
use Rattle.lu_grammar.proofs.Codecs.{place_in-after}

-- what is asked of the length of a level
abbrev pub length_at : RuledTerm → Bool → Cursor → Result (Record × Cursor) ℕ
length_at t highest here = record_at length_shape (λ r. skip_start t highest here.place ∷ []) here

-- the same, by the level
length_as : (t : RuledTerm) (n : ℕ) (points : List (List Point)) (highest : Bool) (here : Cursor) → highest ≡ (length points == 0)
    → record_at length_shape (length_conditions t (level_of (suc n) None points) here.place) here ≡ length_at t highest here
length_as t n points highest here e = ap (λ (b : Bool). length_at t b here) (sym e)

pub level_plan-length : (t : RuledTerm) (postings : List Posting) (number : ℕ) (points : List (List Point)) (highest : Bool) (stated : ℕ) (here next : Cursor) → number ≢ 0 → highest ≡ (length points == 0)
    → length_at t highest here ≡ Ok (level_length stated, next) → read_plan (level_plan t postings number points) here ≡ read_plan (level_data t postings (level_of number (Some stated) points)) next
level_plan-length t postings zero points highest stated here next ne e read = absurd (ne refl)
level_plan-length t postings (suc n) points highest stated here next ne e read =
    read_due length_shape (length_conditions t (level_of (suc n) None points)) (λ place r. level_data t postings (level_of (suc n) (Some (length_of r)) points)) here (level_length stated) next (length_as t n points highest here e ∙ read)

pub level_plan-broken : (t : RuledTerm) (postings : List Posting) (number : ℕ) (points : List (List Point)) (highest : Bool) (rule : ℕ) (here : Cursor) → number ≢ 0 → highest ≡ (length points == 0)
    → length_at t highest here ≡ Err rule → read_plan (level_plan t postings number points) here ≡ Err (record { offset = here.place; rule = rule })
level_plan-broken t postings zero points highest rule here ne e read = absurd (ne refl)
level_plan-broken t postings (suc n) points highest rule here ne e read =
    read_due_broken length_shape (length_conditions t (level_of (suc n) None points)) (λ place r. level_data t postings (level_of (suc n) (Some (length_of r)) points)) here rule (length_as t n points highest here e ∙ read)

-- the place behind it
pub length-place : (t : RuledTerm) (highest : Bool) (stated : ℕ) (frq : List ℕ) (at : ℕ) (next : Cursor) → IsBytes frq → at ≤ length frq → length_at t highest (place_in frq at) ≡ Ok (level_length stated, next)
    → (next ≡ place_in frq next.place) × (next.place ≤ length frq)
unfolding read_plan
length-place t highest stated frq at next fits le read =
    let plan : Plan (Unit {0}) Record = due length_shape (λ place r. skip_start t highest place ∷ []) (λ place r. done tt) in
    let e : read_plan plan (place_in frq at) ≡ ok_of {A = Unit {0} × Cursor} (tt, next) =
    read_due length_shape (λ place r. skip_start t highest place ∷ []) (λ place r. done tt) (place_in frq at) (level_length stated) next read in
    place_in-after plan frq at tt next fits le e

-- the lowest level has no length
pub level_plan-lowest : (t : RuledTerm) (postings : List Posting) (number : ℕ) (points : List (List Point)) (here : Cursor) → number ≡ 0 → read_plan (level_plan t postings number points) here ≡ read_plan (level_data t postings (level_of number None points)) here
level_plan-lowest t postings zero points here e = refl
level_plan-lowest t postings (suc n) points here e = cc

-- a level is good whose data are
pub IsGoodLevel-data : (t : RuledTerm) (postings : List Posting) (number : ℕ) (points : List (List Point)) (stated : Option ℕ) (frq : List ℕ) (place begin end : ℕ)
    → read_plan (level_plan t postings number points) (place_in frq place) ≡ read_plan (level_data t postings (level_of number stated points)) (place_in frq begin) → begin ≤ length frq → end ≤ length frq
    → AreGoodData t postings (level_of number stated points) (place_in frq begin) (place_in frq end) → IsGoodLevel t postings number points frq place begin end
IsGoodLevel-data t postings number points stated frq place begin end e lo hi good = record {
  along = good.along;
  reads = e ∙ good.reads;
  data_stand = record { stated = stated; end = place_in frq end; all = record { along = good.along; reads = good.reads; points_are = refl } };
  begin_within = lo;
  end_within = hi;
}

-- there is no level above where none stands
none_above-is : (t : RuledTerm) (postings : List Posting) (level : ℕ) (points : List (List Point)) (frq : List ℕ) (o : Option ℕ) → StandAbove t postings level points frq o → not (is_some o) ≡ (length points == 0)
none_above-is t postings level [] frq None h = refl
none_above-is t postings level [] frq (Some f) h = absurd h
none_above-is t postings level (ps ∷ rest) frq None h = absurd h
none_above-is t postings level (ps ∷ rest) frq (Some f) h = sym (ne_eqb (suc (length rest)) 0 (λ e. absurd (omega arith)))

pub none_above : (t : RuledTerm) (postings : List Posting) (level : ℕ) (points : List (List Point)) (frq : List ℕ) (o : Option ℕ) (b : Bool) → is_some o ≡ not b → StandAbove t postings level points frq o → b ≡ (length points == 0)
none_above t postings level points frq o b e h = turned b (is_some o) e ∙ none_above-is t postings level points frq o h
