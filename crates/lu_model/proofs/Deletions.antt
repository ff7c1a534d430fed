-- An index of which the documents of a term are deleted.
use Rattle.std.proofs.Common.{◌≡◌, ℕ, zero, suc, ◌+◌, ◌<◌, ◌≤◌, arith}
use Rattle.std.specs.List.{range_with_len, AllByRecursion}
use Rattle.std.specs.List.Sorted.{IsStrictlySortedBy}
use Rattle.std.specs.Ordering.{nat_cmp}
use Rattle.std.specs.declared.cmp.Ordering.TheVariants.{Less}
use Rattle.std.proofs.lemmas.List.Kept.{IsStrictlySortedBy-filter}
use Rattle.lu_prims.proofs.OrderLemmas.{nat_less}
use Rattle.lu_model.specs.Index.{Term, Index}
use Rattle.lu_model.specs.Contents.{without_term}
use Rattle.lu_model.specs.Valid.{IsValid}
use Rattle.lu_model.proofs.Words.{Each}
use Rattle.lu_model.proofs.Each.{each_filter, all-from_each}

above_range : (m a n : ℕ) → m < a → AllByRecursion (λ k. nat_cmp m k ≡ Less) (range_with_len a n)
above_range m a zero h = tt
above_range m a (suc n) h = (nat_less m a h, above_range m (a + 1) n (omega arith))

range_rises : (a n : ℕ) → IsStrictlySortedBy nat_cmp (range_with_len a n)
unfolding IsStrictlySortedBy
range_rises a zero = tt
range_rises a (suc n) = (above_range a (a + 1) n (omega arith), range_rises (a + 1) n)

range_below : (size a n : ℕ) → a + n ≤ size → Each (λ d. d < size) (range_with_len a n)
range_below size a zero h = tt
range_below size a (suc n) h = (omega arith, range_below size (a + 1) n (omega arith))

-- an index stays valid when the documents of a term are deleted
pub deleted_is_valid : (term : Term) (index : Index) → IsValid index → IsValid (without_term term index)
deleted_is_valid term index ok =
    let size : 0 + index.size ≤ index.size = omega arith in
    record {
      small = ok.small;
      fields = ok.fields;
      names = ok.names;
      stored = ok.stored;
      few_values = ok.few_values;
      values = ok.values;
      few_terms = ok.few_terms;
      rise = ok.rise;
      terms = ok.terms;
      norms = ok.norms;
      vectors = ok.vectors;
      few_vectors = ok.few_vectors;
      apart = ok.apart;
      vector_fields = ok.vector_fields;
      deleted = IsStrictlySortedBy-filter nat_cmp _ (range_with_len 0 index.size) (range_rises 0 index.size);
      deleted_below = all-from_each (λ d. d < index.size) (without_term term index).deleted (each_filter (λ d. d < index.size) _ (range_with_len 0 index.size) (range_below index.size 0 index.size size));
    }
