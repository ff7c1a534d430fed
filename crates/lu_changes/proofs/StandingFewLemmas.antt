-- Files have at least as many bytes as they hold fields, terms, stored values, and bytes of these.
use Rattle.std.proofs.Common.{◌≡◌, ℕ, suc, ◌≤◌, List, [], ◌∷◌, ◌++◌, length, sym, ap, subst, ◌∙◌, inl, inr, arith}
use Rattle.std.specs.List.{flat_map}
use Rattle.std.proofs.lemmas.List.{length-append}
use Rattle.lu_grammar.specs.Parts.{text, num, byte, groups, spelling}
use Rattle.lu_types.specs.Documents.{stored_bytes}
use Rattle.lu_types.specs.StoredFields.{StoredField}
use Rattle.lu_types.specs.Tables.{TableField}
use Rattle.lu_types.specs.declared.stored.Stored.{Stored}
use Rattle.lu_types.specs.declared.stored.Stored.TheVariants.{Text, Binary}
use Rattle.lu_types.specs.declared.term.TermNumbers.{TermNumbers}
use Rattle.lu_model.specs.Index.{IndexedTerm}
use Rattle.lu_model.proofs.Words.{IsIn}
use Rattle.field_infos.specs.Spelling.{header_spelling, field_spelling, fnm_spelling}
use Rattle.stored_fields.specs.Values.{StoredDocument}
use Rattle.stored_fields.specs.Format.{store_format}
use Rattle.stored_fields.specs.Writing.{value_bits, content_bytes, value_bytes, document_bytes, fdt_bytes}
use Rattle.lu_grammar.specs.Parts.{int32}
use Rattle.term_dict.specs.Terms.{DictionaryTerm, no_term}
use Rattle.term_dict.specs.Canonical.{header_bytes, terms_bytes, canonical_tis}
use Rattle.term_dict.proofs.WriterLemmas.{terms-few}
use Rattle.segment_files.specs.Postings.{PostingIntervals, no_parts, kept_terms, parts_of}
use Rattle.segment_files.proofs.TermsReading.{lines-are, lines-length}

-- ---- lists of bytes in a row

module _ {X : Type 0} (f : X → List ℕ) where
  flat-long : (xs : List X) → ((x : X) → 1 ≤ length (f x)) → length xs ≤ length (flat_map f xs)
  flat-long [] some = omega arith
  flat-long (x ∷ xs) some = omega (arith, some x, flat-long xs some, length-append (f x) (flat_map f xs))

  part-long : (x : X) (xs : List X) → IsIn x xs → length (f x) ≤ length (flat_map f xs)
  part-long x [] among = absurd among
  part-long x (y ∷ ys) (inl same) = subst (λ (z : X). length (f z) ≤ length (f y ++ flat_map f ys)) (sym same) (omega (arith, length-append (f y) (flat_map f ys)))
  part-long x (y ∷ ys) (inr later) = omega (arith, part-long x ys later, length-append (f y) (flat_map f ys))

-- ---- files

-- a table has no more fields than bytes
pub table-few : (fields : List TableField) → length fields ≤ length (fnm_spelling fields)
table-few fields =
    let each : length fields ≤ length (flat_map field_spelling fields) = flat-long field_spelling fields (λ field. field-some field) in
    omega (arith, each, length-append (header_spelling (length fields)) (flat_map field_spelling fields))
  where
    field-some : (field : TableField) → 1 ≤ length (field_spelling field)
    field-some field = omega (arith, length-append (spelling text field.name) (spelling byte field.bits))

-- a dictionary has no more terms than bytes
pub dictionary-few : (numbers : TermNumbers) (lines : List DictionaryTerm) → length lines ≤ length (canonical_tis numbers lines)
dictionary-few numbers lines =
    let few : length lines ≤ length (terms_bytes numbers.skip_interval no_term lines) = terms-few numbers.skip_interval no_term lines in
    omega (arith, few, length-append (header_bytes numbers numbers.count) (terms_bytes numbers.skip_interval no_term lines))

-- the dictionary of terms has a line for each
pub lines-count : (intervals : PostingIntervals) (fields : List TableField) (terms : List IndexedTerm) → length (parts_of intervals (kept_terms fields terms)).lines ≡ length terms
lines-count intervals fields terms = ap length (lines-are fields 0 intervals 0 no_parts terms) ∙ lines-length fields 0 intervals 0 no_parts terms

-- a stored value has no more bytes than are written of it
value-bytes : (value : Stored) → length (stored_bytes value) ≤ length (content_bytes value)
value-bytes (Text t) = omega (arith, length-append (groups 4 (length t)) t)
value-bytes (Binary bs) = omega (arith, length-append (spelling num (length bs)) bs)

field-long : (v : StoredField) → suc (length (stored_bytes v.value)) ≤ length (value_bytes v)
field-long v =
    let own : length (stored_bytes v.value) ≤ length (content_bytes v.value) = value-bytes v.value in
    omega (arith, own, length-append (spelling num v.field) (value_bits v.tokenized v.value ∷ content_bytes v.value))

document-long : (values : StoredDocument) (documents : List StoredDocument) → IsIn values documents → length (flat_map value_bytes values) ≤ length (fdt_bytes documents)
document-long values documents among =
    let part : length (document_bytes values) ≤ length (flat_map document_bytes documents) = part-long document_bytes values documents among in
    omega (arith, part, length-append (spelling num (length values)) (flat_map value_bytes values), length-append (spelling int32 store_format) (flat_map document_bytes documents))

-- a stored document has no more values than its file has bytes
pub values-few : (values : StoredDocument) (documents : List StoredDocument) → IsIn values documents → length values ≤ length (fdt_bytes documents)
values-few values documents among =
    let each : length values ≤ length (flat_map value_bytes values) = flat-long value_bytes values (λ v. omega (arith, field-long v)) in
    omega (arith, each, document-long values documents among)

-- and no longer values
pub values-short : (v : StoredField) (values : StoredDocument) (documents : List StoredDocument) → IsIn v values → IsIn values documents → length (stored_bytes v.value) ≤ length (fdt_bytes documents)
values-short v values documents one among =
    let part : length (value_bytes v) ≤ length (flat_map value_bytes values) = part-long value_bytes v values one in
    omega (arith, part, field-long v, document-long values documents among)
