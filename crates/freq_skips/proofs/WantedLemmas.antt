-- What is wanted of a datum is what the walks show.
use Rattle.std.proofs.Common.{◌≡◌, ℕ, suc, ◌-◌, ◌*◌, ◌<◌, Bool, true, false, List, [], ◌∷◌, length, Option, Some, None, refl, sym, ap, ◌∙◌, arith}
use Rattle.std.specs.Option.{is_some}
use Rattle.std.specs.Prelude.{not, slice_index_or, ◌==◌, ◌&&◌}
use Rattle.std.proofs.lemmas.Bool.{ne_eqb}
use Rattle.lu_grammar.specs.Bytes.{Cursor}
use Rattle.freq_skips.specs.declared.rules.RuledTerm.{RuledTerm}
use Rattle.freq_skips.specs.declared.datum.Point.{Point}
use Rattle.freq_skips.specs.declared.datum.Wanted.{Wanted}
use Rattle.freq_skips.specs.declared.following.Following.{Following}
use Rattle.freq_skips.specs.Entries.{Posting, no_posting, postings_from, AreEntries, IsBehindEntries}
use Rattle.freq_skips.specs.Levels.{level_of, stride, child_above, length_at, wanted}
use Rattle.freq_skips.specs.Walking.{FollowsAbove}
use Rattle.freq_skips.proofs.EntryLemmas.{IsBehindEntries-again, posting-is}

-- where so many entries are passed, the next posting comes after their last document, and starts where they end
pub posting-at : (t : RuledTerm) (start end : Cursor) (index doc : ℕ) (here : Cursor) → AreEntries t start end → IsBehindEntries t start index doc here → index < t.info.doc_freq
    → ((slice_index_or (postings_from t start) index no_posting).before ≡ doc) × ((slice_index_or (postings_from t start) index no_posting).place ≡ here.place)
posting-at t start end index doc here all h lt =
    let again = IsBehindEntries-again t start end index doc here all h lt in
    let is = posting-is t start end index doc here again.0 again.1 all h lt again.2 in
    (ap (λ (p : Posting). p.before) is, ap (λ (p : Posting). p.place) is)

-- there is no level above where there is no walk along it
no_walk-is : (t : RuledTerm) (postings : List Posting) (level : ℕ) (points : List (List Point)) (passed : ℕ) (o : Option Following) → FollowsAbove t postings level points passed o → not (is_some o) ≡ (length points == 0)
no_walk-is t postings level [] passed None h = refl
no_walk-is t postings level [] passed (Some f) h = absurd h
no_walk-is t postings level (ps ∷ rest) passed None h = absurd h
no_walk-is t postings level (ps ∷ rest) passed (Some f) h = sym (ne_eqb (suc (length rest)) 0 (λ e. absurd (omega arith)))

pub turned : (b c : Bool) → c ≡ not b → b ≡ not c
turned true c e = sym (ap not e)
turned false c e = sym (ap not e)

pub highest-is : (t : RuledTerm) (postings : List Posting) (level : ℕ) (points : List (List Point)) (passed : ℕ) (o : Option Following) (b : Bool) → is_some o ≡ not b → FollowsAbove t postings level points passed o → b ≡ (length points == 0)
highest-is t postings level points passed o b e h = turned b (is_some o) e ∙ no_walk-is t postings level points passed o h

abbrev made : Bool → ℕ → ℕ → Option ℕ → Option ℕ → Wanted
made first doc freq child size = record { first = first; doc = doc; freq = freq; child = child; size = size }

made-of : (w : Wanted) (first : Bool) (doc freq : ℕ) (child size : Option ℕ) → w.first ≡ first → w.doc ≡ doc → w.freq ≡ freq → w.child ≡ child → w.size ≡ size → w ≡ made first doc freq child size
made-of w first doc freq child size a b c d e =
    ap (λ (x : Bool). made x w.doc w.freq w.child w.size) a ∙ ap (λ (x : ℕ). made first x w.freq w.child w.size) b ∙ ap (λ (x : ℕ). made first doc x w.child w.size) c
    ∙ ap (λ (x : Option ℕ). made first doc freq x w.size) d ∙ ap (λ (x : Option ℕ). made first doc freq child x) e

pub wanted-is : (t : RuledTerm) (postings : List Posting) (number : ℕ) (stated : Option ℕ) (points : List (List Point)) (passed index doc place : ℕ) (w : Wanted) (highest : Bool) → index ≡ suc passed * stride t number - 1
    → (slice_index_or postings index no_posting).before ≡ doc → (slice_index_or postings index no_posting).place ≡ place → highest ≡ (length points == 0)
    → w.first ≡ (number == 0 && highest && suc passed == 1) → w.doc ≡ doc → w.freq ≡ place - t.info.freq → w.child ≡ child_above t points (suc passed) → w.size ≡ length_at t (level_of number stated points) (suc passed)
    → w ≡ wanted t postings (level_of number stated points) (suc passed)
wanted-is t postings number stated points passed index doc place w highest at before start top first doc_is freq child size =
    let p = λ (k : ℕ). slice_index_or postings k no_posting in
    let b : w.doc ≡ (p (suc passed * stride t number - 1)).before = doc_is ∙ sym before ∙ ap (λ (k : ℕ). (p k).before) at in
    let q : w.freq ≡ (p (suc passed * stride t number - 1)).place - t.info.freq = freq ∙ ap (λ (n : ℕ). n - t.info.freq) (sym start ∙ ap (λ (k : ℕ). (p k).place) at) in
    made-of w _ _ _ _ _ (first ∙ ap (λ (b : Bool). number == 0 && b && suc passed == 1) top) b q child size
