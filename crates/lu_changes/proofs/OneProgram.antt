-- The limits of the program are one, and so are its options for a segment.
use Rattle.std.proofs.Common.{◌≡◌, ℕ, ◌^◌, ◌<◌, ◌≤◌, Bool, sym, ◌∙◌}
use Rattle.std.proofs.Math.Bridge.{le_prop}
use mathlib.Core.HLevel.{is_prop→PathP}
use Rattle.lu_types.specs.Names.{greatest_segment}
use Rattle.lu_types.specs.Bounds.{most_documents, most_tokens, most_file_bytes}
use Rattle.lu_types.specs.declared.document.Limits.{Limits}
use Rattle.segment_files.specs.declared.options.WriteOptions.{WriteOptions}
use Rattle.lu_changes.specs.Building.{AreProgramLimits, AreProgramOptions}

-- limits with the same numbers are the same
limits-same : (one other : Limits) → one.documents ≡ other.documents → one.tokens ≡ other.tokens → one.file_bytes ≡ other.file_bytes → one ≡ other
limits-same one other documents tokens bytes = λ i. record {
  documents = documents i;
  tokens = tokens i;
  file_bytes = bytes i;
  few_documents = is_prop→PathP (λ j. documents j ≤ most_documents) (λ j. le_prop) one.few_documents other.few_documents i;
  few_tokens = is_prop→PathP (λ j. tokens j ≤ most_tokens) (λ j. le_prop) one.few_tokens other.few_tokens i;
  few_bytes = is_prop→PathP (λ j. bytes j ≤ most_file_bytes) (λ j. le_prop) one.few_bytes other.few_bytes i;
}

-- limits of the program are the same
pub limits-one : (one other : Limits) → AreProgramLimits one → AreProgramLimits other → one ≡ other
limits-one one other a b = limits-same one other (a.documents ∙ sym b.documents) (a.tokens ∙ sym b.tokens) (a.file_bytes ∙ sym b.file_bytes)

module _ (one other : WriteOptions) where
  -- options with the same parts are the same
  options-same : one.number ≡ other.number → one.index_interval ≡ other.index_interval → one.skip_interval ≡ other.skip_interval → one.max_levels ≡ other.max_levels
      → one.compound ≡ other.compound → one.limits ≡ other.limits → one ≡ other
  options-same number index skip levels compound limits = λ i. record {
    number = number i;
    index_interval = index i;
    skip_interval = skip i;
    max_levels = levels i;
    compound = compound i;
    limits = limits i;
    is_number = is_prop→PathP (λ j. number j ≤ greatest_segment) (λ j. le_prop) one.is_number other.is_number i;
    index = is_prop→PathP (λ j. (1 ≤ index j) × (index j < 2 ^ 31)) (λ j. hlevel le_prop) one.index other.index i;
    skip = is_prop→PathP (λ j. (2 ≤ skip j) × (skip j < 2 ^ 31)) (λ j. hlevel le_prop) one.skip other.skip i;
    levels = is_prop→PathP (λ j. (1 ≤ levels j) × (levels j < 2 ^ 31)) (λ j. hlevel le_prop) one.levels other.levels i;
  }

  -- options of the program for one segment are the same
  pub options-one : (number : ℕ) (packed : Bool) → AreProgramOptions one number packed → AreProgramOptions other number packed → one ≡ other
  options-one number packed a b =
      options-same (a.number ∙ sym b.number) (a.index ∙ sym b.index) (a.skip ∙ sym b.skip) (a.levels ∙ sym b.levels) (a.compound ∙ sym b.compound)
      (limits-one one.limits other.limits a.limits b.limits)
