-- Terms of fields that omit positions add nothing to `.prx`.
use Rattle.std.proofs.Common.{◌≡◌, ℕ, true, List, [], ◌∷◌, ◌++◌, ap, refl, ◌∙◌}
use Rattle.std.proofs.lemmas.List.{append-nil}
use Rattle.lu_types.specs.Bits as bit
use Rattle.lu_types.specs.Bits.{has_bit}
use Rattle.lu_types.specs.Tables.{TableField, bits_at}
use Rattle.lu_model.specs.Index.{IndexedTerm}
use Rattle.lu_model.proofs.Words.{Each}
use Rattle.segment_files.specs.Postings.{PostingIntervals, PostingParts}
use Rattle.segment_files.proofs.PrxBytes.{all-omitted, prx_bytes-omitted}
use Rattle.segment_files.proofs.Reading.{parts_behind, CanStand}
use Rattle.segment_files.proofs.TermsReading.{parts_after}

module _ (fields : List TableField) (size : ℕ) (o : PostingIntervals) (count : ℕ) where
  pub nothing-added : (f : PostingParts) (ts : List IndexedTerm) → Each (CanStand fields size o count) ts → Each (λ (t : IndexedTerm). has_bit bit.omit_tf (bits_at fields t.field) ≡ true) ts
      → (parts_after fields size o count f ts).prx ≡ f.prx
  nothing-added f [] can omit = refl
  nothing-added f (t ∷ ts) can omit =
      let bits = bits_at fields t.field in
      nothing-added (parts_behind fields size o count f t) ts can.1 omit.1
      ∙ ap (λ (bytes : List ℕ). f.prx ++ bytes) (prx_bytes-omitted (has_bit bit.payloads bits) t.entries (all-omitted size bits t.entries omit.0 can.0.good))
      ∙ append-nil f.prx
