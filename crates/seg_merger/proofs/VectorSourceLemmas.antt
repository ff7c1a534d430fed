-- The vectors of sources, one source more, and all.
use Rattle.std.proofs.Common.{◌≡◌, ap, sym, ◌∙◌, subst, ℕ, ◌+◌, ◌<◌, ◌≤◌, ◌++◌, List, [], length, map, take, get_or, arith}
use Rattle.std.specs.Prelude.{filter, flat_map}
use Rattle.std.proofs.lemmas.List.{take_all}
use Rattle.lu_types.specs.Tables.{TableField}
use Rattle.lu_model.specs.Contents.{content_at, joined_table, live, merge_of, vectors_in}
use Rattle.lu_model.specs.Index.{Index}
use Rattle.lu_model.specs.Valid.{IsValid}
use Rattle.lu_model.proofs.Among.{from_flat_map}
use Rattle.lu_model.proofs.Each.{each_at, each_in, each_map}
use Rattle.lu_model.proofs.Words.{Each, IsIn}
use Rattle.check_index.specs.Segments.{SegmentValue}
use Rattle.term_vectors.specs.Vectors.{StoredVector}
use Rattle.term_vectors.specs.VectorWriting.{HoldsDocuments, VectorWriting, no_vectors_written}
use Rattle.seg_writer.proofs.VectorHeldLemmas.{all-held}
use Rattle.seg_writer.proofs.VectorStepLemmas.{IsKeptVector}
use Rattle.seg_merger.specs.Merged.{indexes_of, numbers_in}
use Rattle.seg_merger.specs.Renumbered.{live_vectors}
use Rattle.seg_merger.specs.VectorSteps.{with_vectors_of}
use Rattle.seg_merger.proofs.JoinedLemmas.{source-in}
use Rattle.seg_merger.proofs.SourceLemmas.{live-below, vectors-merged, vectors-same, vectors_under}
use Rattle.seg_merger.proofs.StoredLemmas.{sources-more}
use Rattle.seg_merger.proofs.VectorLemmas.{documents-both, each-vector, kept-under}

-- the vectors of the live documents of a valid index have what they keep
index-kept : (table : List TableField) (index : Index) → IsValid index → Each (Each IsKeptVector) (vectors_under table index)
index-kept table index ok =
    each_map (Each IsKeptVector) (λ document. vectors_in table (content_at index document).vectors) (live index) (each_in (λ document. Each IsKeptVector (vectors_in table (content_at index document).vectors)) (live index) (λ document h.
    kept-under table index.fields (get_or index.vectors document []) (each-vector index ok document (live-below index document h))))

module _ (sources : List SegmentValue) (table : List TableField) (is_table : table ≡ joined_table (indexes_of sources)) where
  abbrev vectors_of : SegmentValue → List (List StoredVector)
  vectors_of s = vectors_under table s.index

  pub sources-vectors : (i : ℕ) (s : SegmentValue) (inside : IsIn s sources) → IsValid s.index → (numbers : List ℕ) → numbers ≡ numbers_in (joined_table (indexes_of sources)) s → (w new : VectorWriting) → i < length sources → s ≡ get_or sources i s
      → w ≡ with_vectors_of (flat_map vectors_of (take i sources)) no_vectors_written → new ≡ with_vectors_of (live_vectors table numbers s.index) w → new ≡ with_vectors_of (flat_map vectors_of (take (i + 1) sources)) no_vectors_written
  sources-vectors i s inside ok numbers are w new lt is was adds =
      let before = flat_map vectors_of (take i sources) in
      let same : live_vectors table numbers s.index ≡ vectors_of s =
      subst (λ t. live_vectors t numbers s.index ≡ vectors_under t s.index) (sym is_table) (vectors-same sources s inside ok numbers are) in
      adds ∙ ap (with_vectors_of (live_vectors table numbers s.index)) was ∙ documents-both before (live_vectors table numbers s.index) no_vectors_written
      ∙ ap (λ ds. with_vectors_of ds no_vectors_written) (ap (λ ds. before ++ ds) same ∙ sources-more vectors_of sources i s lt is)

  all-kept : Each IsValid (indexes_of sources) → Each (Each IsKeptVector) (flat_map vectors_of sources)
  all-kept ok = each_in (Each IsKeptVector) (flat_map vectors_of sources) (λ vectors h.
      let s = from_flat_map vectors_of vectors sources h in
      each_at (Each IsKeptVector) vectors (vectors_of s.0) (index-kept table s.0.index (each_at IsValid s.0.index (indexes_of sources) ok (source-in sources s.0 s.1))) s.2)

  -- a writer of all holds the vectors of the merge
  pub sources-held : Each IsValid (indexes_of sources) → (i : ℕ) (w : VectorWriting) → length sources ≤ i → w ≡ with_vectors_of (flat_map vectors_of (take i sources)) no_vectors_written → HoldsDocuments (merge_of (indexes_of sources)).vectors w
  sources-held ok i w le was =
      let whole = flat_map vectors_of sources in
      let same : whole ≡ (merge_of (indexes_of sources)).vectors = ap (λ t. flat_map (λ (s : SegmentValue). vectors_under t s.index) sources) is_table ∙ sym (vectors-merged sources) in
      let all : w ≡ with_vectors_of whole no_vectors_written = was ∙ ap (λ ss. with_vectors_of (flat_map vectors_of ss) no_vectors_written) (take_all i sources le) in
      subst (λ ds. HoldsDocuments ds w) same (subst (HoldsDocuments whole) (sym all) (all-held whole (all-kept ok)))
