-- The canonical files of an index stand for it, and for no other.
use Rattle.std.proofs.Common.{◌≡◌, ◌≢◌, ℕ, ◌^◌, ◌<◌, Bool, true, false, cond, List, [], length, Some, None, sym, ap, ◌∙◌, arith}
use Rattle.std.specs.Prelude.{All, AllPairs}
use Rattle.lu_types.proofs.FileLaws.{one_meaning}
use Rattle.lu_model.specs.Index.{Index}
use Rattle.lu_model.specs.Valid.{IsSmall, IsVector, IsValid}
use Rattle.lu_model.proofs.Each.{each-from_all}
use Rattle.term_vectors.specs.Vectors.{StoredVector}
use Rattle.term_vectors.specs.VectorBytes.{tvd_bytes, tvf_bytes}
use Rattle.segment_infos.specs.declared.infos.MapPair.{MapPair}
use Rattle.check_index.specs.Segments.{SegmentValue, segment_files}
use Rattle.check_index.specs.Vectors.{have_vectors}
use Rattle.segment_files.specs.declared.options.WriteOptions.{WriteOptions}
use Rattle.segment_files.specs.Parts.{intervals_of, canonical_parts_of}
use Rattle.segment_files.specs.Written.{canonical_files, too_large_file}
use Rattle.segment_files.specs.Lines.{new_line, folder_with, StandsForIndex}
use Rattle.segment_files.proofs.Limits.{IsWithinLimit, parts-within}
use Rattle.segment_files.proofs.Vectors.{index-vectors, vectors-read}
use Rattle.segment_files.proofs.Whole.{HoldOwnVectors, files-stand}

there-small : (limit : ℕ) (b : Bool) (bytes : List ℕ) → limit < 2 ^ 31 → b ≡ true → IsWithinLimit limit (cond b (Some bytes) None) → length bytes < 2 ^ 31
there-small limit true bytes small some le = omega (arith, le, small)
there-small limit false bytes small some le = cc

module _ (options : WriteOptions) (index : Index) (v : IsValid index) (fit : too_large_file options index ≡ None) where
  own-vectors : HoldOwnVectors options index v fit
  own-vectors some =
      let within = parts-within options.limits.file_bytes options.compound options.number (canonical_parts_of (intervals_of options) index) fit in
      let most = options.limits.few_bytes in
      let small : options.limits.file_bytes < 2 ^ 31 = omega (arith, most) in
      let limit = options.limits.file_bytes in
      vectors-read index.fields v.fields.few index.stored index.vectors
      (index-vectors index.fields v.fields.few index.vectors (each-from_all (λ (d : List StoredVector). IsSmall (length d)) index.vectors v.few_vectors)
      (each-from_all (λ (d : List StoredVector). AllPairs (λ a b. a.field ≢ b.field) d) index.vectors v.apart)
      (each-from_all (λ (d : List StoredVector). All (IsVector index.fields) d) index.vectors v.vector_fields))
      (there-small limit (have_vectors index.fields) (tvd_bytes index.vectors) small some within.tvd) (there-small limit (have_vectors index.fields) (tvf_bytes index.vectors) small some within.tvf)

  -- the files of the index stand for it
  pub canonical-stand : (diagnostics : List MapPair) → index.deleted ≡ [] → StandsForIndex (folder_with (canonical_files options index).files) (new_line options.number diagnostics (canonical_files options index)) index
  canonical-stand diagnostics none = files-stand options index v fit own-vectors diagnostics none

-- and for no other
pub canonical-only : (options : WriteOptions) (index : Index) (diagnostics : List MapPair) → IsValid index → too_large_file options index ≡ None → index.deleted ≡ []
    → (other : Index) → StandsForIndex (folder_with (canonical_files options index).files) (new_line options.number diagnostics (canonical_files options index)) other → other ≡ index
canonical-only options index diagnostics v fit none other (x, stands, is) =
    let own = canonical-stand options index v fit diagnostics none in
    let same = one_meaning (segment_files (folder_with (canonical_files options index).files) (new_line options.number diagnostics (canonical_files options index))) x own.0 stands own.1 in
    sym is ∙ ap (λ (s : SegmentValue). s.index) same ∙ own.2
