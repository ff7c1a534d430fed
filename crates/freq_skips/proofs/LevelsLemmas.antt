-- The levels from the highest down.
use Rattle.std.proofs.Common.{◌≡◌, ℕ, zero, suc, ◌*◌, ◌/◌, ◌^◌, ◌≤◌, List, ◌∷◌, Result, Ok, Err, refl, ap, ◌∙◌, arith}
use Rattle.std.proofs.Math.Nat.{pow-suc, mul-div_left}
use Rattle.lu_grammar.specs.Bytes.{Cursor}
use Rattle.lu_grammar.specs.Reading.{◌>>=◌}
use Rattle.lu_grammar.specs.Plans.{Broken, read_plan}
use Rattle.lu_grammar.proofs.Loops.{read_plan-and_then}
use Rattle.freq_skips.specs.declared.rules.RuledTerm.{RuledTerm}
use Rattle.freq_skips.specs.declared.datum.Point.{Point}
use Rattle.freq_skips.specs.Entries.{Posting}
use Rattle.freq_skips.specs.Levels.{Along, level_plan, levels}

pub levels-none : (t : RuledTerm) (postings : List Posting) (n : ℕ) (above : List (List Point)) (c : Cursor) → n ≡ 0 → read_plan (levels t postings n above) c ≡ Ok (above, c)
unfolding levels read_plan
levels-none t postings zero above c e = refl
levels-none t postings (suc n) above c e = cc

pub levels-next : (t : RuledTerm) (postings : List Posting) (n m : ℕ) (above : List (List Point)) (c : Cursor) (s : Along) (d : Cursor) → n ≡ suc m → read_plan (level_plan t postings m above) c ≡ Ok (s, d)
    → read_plan (levels t postings n above) c ≡ read_plan (levels t postings m (s.points ∷ above)) d
unfolding levels
levels-next t postings n m above c s d is e =
    ap (λ (k : ℕ). read_plan (levels t postings k above) c) is
    ∙ read_plan-and_then (level_plan t postings m above) (λ s. levels t postings m (s.points ∷ above)) c
    ∙ ap (λ (r : Result (Along × Cursor) Broken). r >>= λ x. read_plan (levels t postings m (x.0.points ∷ above)) x.1) e

pub levels-fault : (t : RuledTerm) (postings : List Posting) (n m : ℕ) (above : List (List Point)) (c : Cursor) (b : Broken) → n ≡ suc m → read_plan (level_plan t postings m above) c ≡ Err b
    → read_plan (levels t postings n above) c ≡ Err b
unfolding levels
levels-fault t postings n m above c b is e =
    ap (λ (k : ℕ). read_plan (levels t postings k above) c) is
    ∙ read_plan-and_then (level_plan t postings m above) (λ s. levels t postings m (s.points ∷ above)) c
    ∙ ap (λ (r : Result (Along × Cursor) Broken). r >>= λ x. read_plan (levels t postings m (x.0.points ∷ above)) x.1) e

-- one factor less
pub power-less : (base n m power interval : ℕ) → 2 ≤ base → n ≡ suc m → power ≡ base ^ n → interval ≡ base → power / interval ≡ base ^ m
power-less base n m power interval two is e f =
    ap (λ (p : ℕ). p / interval) (e ∙ ap (λ (k : ℕ). base ^ k) is ∙ pow-suc base m) ∙ ap (λ (d : ℕ). base ^ m * base / d) f ∙ mul-div_left (base ^ m) (omega arith)
