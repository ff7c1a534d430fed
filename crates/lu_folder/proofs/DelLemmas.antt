-- The generation of a new file of deleted documents, where there is none left.
use Rattle.std.proofs.Common.{◌≡◌, ℕ, ◌^◌, ◌<◌, ◌≤◌, Bool, true, false, cond, List, Option, Some, None, refl, ap, sym, ◌∙◌, arith}
use Rattle.std.specs.Prelude.{nat_lt, option_to_list}
use Rattle.std.proofs.lemmas.Bool.Decides.{nat_tests}
use Rattle.segment_infos.specs.declared.infos.SegInfo.{SegInfo}
use Rattle.lu_folder.specs.Numbers.{above, if_below, del_generation_of}
use Rattle.lu_folder.specs.Drawing.{numbers_in, next_del}
use Rattle.lu_folder.proofs.AboveLemmas.{above-least}

-- a number that is not below the limit
over-none : (limit number : ℕ) → limit ≤ number → None ≡ if_below limit number
over-none limit number over = by_test (nat_lt number limit) refl
  where
    by_test : (t : Bool) → nat_lt number limit ≡ t → None ≡ cond t (Some number) None
    by_test true less = absurd (grind (arith, nat_tests))
    by_test false more = refl

-- the generation of the line is over the limit
pub next_del-none : (names : List (List ℕ)) (line : SegInfo) (was : ℕ) → line.del_gen ≡ Some was → 2 ^ 63 ≤ was → None ≡ next_del names line
next_del-none names line was is over =
    let more : above 1 (option_to_list (Some was)) ≤ above (above 1 (option_to_list (Some was))) (numbers_in (del_generation_of line.number) names) = above-least (above 1 (option_to_list (Some was))) (numbers_in (del_generation_of line.number) names) in
    over-none (2 ^ 63) (above (above 1 (option_to_list (Some was))) (numbers_in (del_generation_of line.number) names)) (omega arith)
    ∙ ap (λ (o : Option ℕ). if_below (2 ^ 63) (above (above 1 (option_to_list o)) (numbers_in (del_generation_of line.number) names))) (sym is)
