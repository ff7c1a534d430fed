-- The deleted documents rise, and are below the size of the segment.
use Rattle.std.proofs.Common.{◌≡◌, ℕ, suc, ◌<◌, Bool, true, false, List, [], ◌∷◌, Option, Some, None, sym, subst, arith}
use Rattle.std.specs.Prelude.{All}
use Rattle.std.specs.List.{AllByRecursion}
use Rattle.std.specs.List.Sorted.{IsStrictlySortedBy}
use Rattle.std.specs.Ordering.{nat_cmp}
use Rattle.std.specs.declared.cmp.Ordering.TheVariants.{Less}
use Rattle.std.proofs.lemmas.List.Elements.{All-cons, All-nil}
use Rattle.lu_prims.proofs.OrderLemmas.{nat_less}
use Rattle.doc_marks.specs.Marking.{AreRising}
use Rattle.doc_marks.specs.Deletions.{del_plan}
use Rattle.doc_marks.proofs.DelForms.{del-only}
use Rattle.check_index.specs.Stands.{Holds, Either}

-- the documents rise, and are below the size
pub record AreDeleted (size : ℕ) (deleted : List ℕ) : Type 0 where
  pub rise : IsStrictlySortedBy nat_cmp deleted
  pub below : All (λ document. document < size) deleted

above : (m first size : ℕ) (ds : List ℕ) → m < first → AreRising first size ds → AllByRecursion (λ n. nat_cmp m n ≡ Less) ds
above m first size [] lt h = tt
above m first size (d ∷ ds) lt h = (nat_less m d (omega (arith, lt, h.0)), above m (suc d) size ds (omega (arith, lt, h.0)) h.2)

rising-sorted : (first size : ℕ) (ds : List ℕ) → AreRising first size ds → IsStrictlySortedBy nat_cmp ds
unfolding IsStrictlySortedBy
rising-sorted first size [] h = tt
rising-sorted first size (d ∷ ds) h = (above d (suc d) size ds (omega arith) h.2, rising-sorted (suc d) size ds h.2)

rising-below : (first size : ℕ) (ds : List ℕ) → AreRising first size ds → All (λ d. d < size) ds
rising-below first size [] h = All-nil (λ (d : ℕ). d < size)
rising-below first size (d ∷ ds) h = All-cons (λ (d : ℕ). d < size) d ds h.1 (rising-below (suc d) size ds h.2)

are-rising : (size : ℕ) (ds : List ℕ) → AreRising 0 size ds → AreDeleted size ds
are-rising size ds h = record { rise = rising-sorted 0 size ds h; below = rising-below 0 size ds h }

-- the documents of a `.del` file, or none
pub deleted-are : (has : Bool) (size count : ℕ) (file : Option (List ℕ)) (deleted : List ℕ) → Either has (Holds file (λ _. del_plan size count) deleted) deleted [] → AreDeleted size deleted
deleted-are true size count None deleted h = absurd h
deleted-are true size count (Some bytes) deleted h = are-rising size deleted (del-only bytes deleted size count h).rise
deleted-are false size count file deleted h = subst (AreDeleted size) (sym h) (are-rising size [] tt)
