-- What is written are bytes.
use Rattle.std.proofs.Common.{ℕ, List, ◌∷◌, length, get_or, zero, suc, arith}
use Rattle.std.specs.Prelude.{FitsSigned}
use Rattle.std.specs.List.{flat_map}
use Rattle.std.specs.Int.{w32}
use Rattle.lu_types.specs.declared.stored.Stored.{Stored}
use Rattle.lu_types.specs.declared.stored.Stored.TheVariants.{Text, Binary}
use Rattle.lu_grammar.specs.Bytes.{IsBytes}
use Rattle.lu_grammar.specs.Parts.{int32, num, text, spelling}
use Rattle.lu_grammar.proofs.Codecs.{IsBytes-cons, IsBytes-append, IsBytes-flat_map, IsBytes-spelling}
use Rattle.stored_fields.specs.Format.{store_format}
use Rattle.lu_types.specs.StoredFields.{StoredField}
use Rattle.lu_types.specs.Stores.{header_length}
use Rattle.stored_fields.specs.Values.{StoredDocument}
use Rattle.stored_fields.specs.Writing.{IsStorableValue, IsStorableField, IsStorableDocument, AreStorable, value_bits, content_bytes, value_bytes, document_bytes, fdt_bytes, places_from, place_bytes, fdx_bytes}
use Rattle.stored_fields.proofs.WriteLemmas.{bits_fit}

of_format : IsBytes (spelling int32 store_format)
of_format = let fits : FitsSigned w32 store_format = record { sfits = omega arith } in IsBytes-spelling int32 store_format fits

of_content : (v : Stored) → IsStorableValue v → IsBytes (content_bytes v)
of_content (Text t) h = IsBytes-spelling text t h
of_content (Binary bs) h = IsBytes-append (spelling num (length bs)) bs (IsBytes-spelling num (length bs) h.0) h.1.1

of_value : (v : StoredField) → IsStorableField v → IsBytes (value_bytes v)
of_value v h =
    IsBytes-append (spelling num v.field) (value_bits v.tokenized v.value ∷ content_bytes v.value) (IsBytes-spelling num v.field h.0)
    (IsBytes-cons (value_bits v.tokenized v.value) (content_bytes v.value) (bits_fit v.tokenized v.value) (of_content v.value h.1))

of_document : (d : StoredDocument) → IsStorableDocument d → IsBytes (document_bytes d)
of_document d h = IsBytes-append (spelling num (length d)) (flat_map value_bytes d) (IsBytes-spelling num (length d) h.0) (IsBytes-flat_map value_bytes d (λ k v lt. of_value (get_or d k v) (h.1 k v lt)))

pub of_fdt : (documents : List StoredDocument) → AreStorable documents → IsBytes (fdt_bytes documents)
of_fdt documents h = IsBytes-append (spelling int32 store_format) (flat_map document_bytes documents) of_format (IsBytes-flat_map document_bytes documents (λ k d lt. of_document (get_or documents k d) (h k d lt)))

-- a place, however great
of_place : (p : ℕ) → IsBytes (place_bytes p)
of_place p zero = omega arith
of_place p (suc zero) = omega arith
of_place p (suc (suc zero)) = omega arith
of_place p (suc (suc (suc zero))) = omega arith
of_place p (suc (suc (suc (suc zero)))) = omega arith
of_place p (suc (suc (suc (suc (suc zero))))) = omega arith
of_place p (suc (suc (suc (suc (suc (suc zero)))))) = omega arith
of_place p (suc (suc (suc (suc (suc (suc (suc zero))))))) = omega arith
of_place p (suc (suc (suc (suc (suc (suc (suc (suc i)))))))) = omega arith

pub of_fdx : (documents : List StoredDocument) → IsBytes (fdx_bytes documents)
of_fdx documents =
    let places = places_from header_length documents in
    IsBytes-append (spelling int32 store_format) (flat_map place_bytes places) of_format (IsBytes-flat_map place_bytes places (λ k p lt. of_place (get_or places k p)))
