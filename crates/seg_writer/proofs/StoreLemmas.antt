-- Stored values, one more.
use Rattle.std.proofs.Common.{◌≡◌, ap, sym, ◌∙◌, ℕ, ◌+◌, ◌<◌, ◌≤◌, ◌≢◌, ◌^◌, ◌++◌, List, [], ◌∷◌, length, take, get_or, None, Some, if◌then◌else◌, arith}
use Rattle.std.specs.Prelude.{cond, Err}
use Rattle.std.specs.List.{flat_map}
use Rattle.std.proofs.lemmas.List.{length-append, length-map, length-take, take_more, take_all, map-append}
use Rattle.std.proofs.lemmas.List.Folds.{length-flat_map-take}
use Rattle.std.proofs.lemmas.List.{get_or-map}
use Rattle.std.proofs.lemmas.Bool.{eq-eqb, ne_eqb, lt-ltb}
use Rattle.lu_grammar.specs.Parts.{int32, num, spelling, groups}
use Rattle.stored_fields.specs.Format.{store_format}
use Rattle.lu_types.specs.Documents.{stored_bytes}
use Rattle.lu_types.specs.StoredFields.{StoredField}
use Rattle.lu_types.specs.Tables.{TableField}
use Rattle.lu_types.specs.declared.document.Document.{Document}
use Rattle.lu_types.specs.declared.kind.FileKind.TheVariants.{Fdt, Fdx}
use Rattle.lu_types.specs.declared.stored.Stored.{Stored}
use Rattle.lu_types.specs.declared.stored.Stored.TheVariants.{Text, Binary}
use Rattle.lu_types.specs.declared.stored.StoredValue.{StoredValue}
use Rattle.lu_model.specs.Contents.{stored_in, field_number}
use Rattle.stored_fields.specs.Writing.{HeldDocuments, OpenDocument, with_document, with_stored, value_bits, value_bytes, content_bytes, document_bytes, fdt_bytes, fdx_bytes}
use Rattle.segment_files.specs.Written.{first_past}
use Rattle.posting_files.specs.States.{named}
use Rattle.seg_writer.specs.declared.fault.WriteFault.{WriteFault}
use Rattle.seg_writer.specs.declared.fault.WriteFault.TheVariants.{Doc, TooLarge, OutOfMemory}
use Rattle.seg_writer.specs.Answers.{Wrote}
use Rattle.seg_writer.specs.Stores.{WritesValues, given_store, store_files_due, stores_of}
use Rattle.seg_writer.proofs.FnmLemmas.{spread}

-- an open document of so many values, of which it has these
abbrev pub open_of : ℕ → List StoredField → OpenDocument
open_of count values = record { announced = count; values = values }

pub open-while : (finished : List (List StoredField)) (count : ℕ) (values : List StoredField) → length values < count → with_document finished (open_of count values) ≡ record { finished = finished; opened = Some (open_of count values) }
open-while finished count values lt =
    let other : length values ≢ count = omega arith in
    ap (λ b. if b then (record { finished = finished ++ values ∷ []; opened = None }) else (record { finished = finished; opened = Some (open_of count values) })) (ne_eqb (length values) count other)

pub open-more : (finished : List (List StoredField)) (count : ℕ) (values : List StoredField) (v : StoredField) → length values < count → with_stored v (with_document finished (open_of count values)) ≡ with_document finished (open_of count (values ++ v ∷ []))
open-more finished count values v lt = ap (with_stored v) (open-while finished count values lt)

pub open-end : (finished : List (List StoredField)) (count : ℕ) (values : List StoredField) → length values ≡ count → with_document finished (open_of count values) ≡ record { finished = finished ++ values ∷ []; opened = None }
open-end finished count values same =
    ap (λ b. if b then (record { finished = finished ++ values ∷ []; opened = None }) else (record { finished = finished; opened = Some (open_of count values) })) (eq-eqb (length values) count same)

-- a stored value by the number of its field
abbrev pub stored_with : List TableField → StoredValue → StoredField
stored_with table value = record { field = field_number value.field table; tokenized = value.tokenized; value = value.value }

-- one value more is stored
pub stored-more : (table : List TableField) (values : List StoredValue) (i : ℕ) (value : StoredValue) (held new : HeldDocuments) (finished : List (List StoredField)) → i < length values → value ≡ get_or values i value
    → held ≡ with_document finished (open_of (length values) (stored_in table (take i values))) → new ≡ with_stored (stored_with table value) held
    → new ≡ with_document finished (open_of (length values) (stored_in table (take (i + 1) values)))
stored-more table values i value held new finished lt is was step =
    let front = stored_in table (take i values) in
    let size : length front ≡ i = length-map (take i values) (stored_with table) ∙ (let short = length-take i values in omega (arith, short, lt)) in
    let more : take (i + 1) values ≡ take i values ++ value ∷ [] = take_more values i value lt ∙ ap (λ v. take i values ++ v ∷ []) (sym is) in
    step ∙ ap (with_stored (stored_with table value)) was ∙ open-more finished (length values) front (stored_with table value) (omega (arith, size, lt))
    ∙ ap (λ vs. with_document finished (open_of (length values) vs)) (sym (map-append (stored_with table) (take i values) (value ∷ [])) ∙ ap (stored_in table) (sym more))

pub stored-lacks : (table : List TableField) (values : List StoredValue) (i : ℕ) (held : HeldDocuments) (finished : List (List StoredField)) → i < length values
    → held ≡ with_document finished (open_of (length values) (stored_in table (take i values))) → held.opened ≡ Some (open_of (length values) (stored_in table (take i values)))
stored-lacks table values i held finished lt was =
    let front = stored_in table (take i values) in
    let size : length front ≡ i = length-map (take i values) (stored_with table) ∙ (let short = length-take i values in omega (arith, short, lt)) in
    ap (λ (h : HeldDocuments). h.opened) (was ∙ open-while finished (length values) front (omega (arith, size, lt)))

pub stored-end : (table : List TableField) (values : List StoredValue) (i : ℕ) (held : HeldDocuments) (finished : List (List StoredField)) → length values ≤ i
    → held ≡ with_document finished (open_of (length values) (stored_in table (take i values))) → held ≡ record { finished = finished ++ stored_in table values ∷ []; opened = None }
stored-end table values i held finished le was =
    was ∙ ap (λ vs. with_document finished (open_of (length values) (stored_in table vs))) (take_all i values le) ∙ open-end finished (length values) (stored_in table values) (length-map values (stored_with table))

-- ---- too many bytes

value-bytes : (v : StoredField) → length (stored_bytes v.value) < length (value_bytes v)
value-bytes v = by-kind v.value
  where
    by-kind : (s : Stored) → length (stored_bytes s) < length (spelling num v.field ++ (value_bits v.tokenized s ∷ content_bytes s))
    by-kind (Text t) = let a = length-append (spelling num v.field) (value_bits v.tokenized (Text t) ∷ content_bytes (Text t)) in let b = length-append (groups 4 (length t)) t in omega (arith, a, b)
    by-kind (Binary bs) = let a = length-append (spelling num v.field) (value_bits v.tokenized (Binary bs) ∷ content_bytes (Binary bs)) in let b = length-append (spelling num (length bs)) bs in omega (arith, a, b)

value-some : (v : StoredField) → 0 < length (value_bytes v)
value-some v = let le = value-bytes v in omega (arith, le)

pub many-values : (table : List TableField) (values : List StoredValue) → 2 ^ 31 ≤ length values → 2 ^ 31 ≤ length (document_bytes (stored_in table values))
many-values table values many =
    let vs = stored_in table values in
    let size = length-map values (stored_with table) in
    let all = spread value_bytes vs value-some in
    let parts = length-append (spelling num (length vs)) (flat_map value_bytes vs) in
    omega (arith, many, size, all, parts)

pub long-value : (table : List TableField) (values : List StoredValue) (i : ℕ) (value : StoredValue) → i < length values → value ≡ get_or values i value → 2 ^ 31 ≤ length (stored_bytes value.value) → 2 ^ 31 ≤ length (document_bytes (stored_in table values))
long-value table values i value lt is long =
    let vs = stored_in table values in
    let size = length-map values (stored_with table) in
    let own : get_or vs i (stored_with table value) ≡ stored_with table value = get_or-map (stored_with table) values i value (stored_with table value) lt ∙ ap (stored_with table) (sym is) in
    let some = value-bytes (stored_with table value) in
    let same = ap (λ v. length (value_bytes v)) own in
    let all = length-flat_map-take value_bytes vs i (stored_with table value) (omega (arith, size, lt)) in
    let parts = length-append (spelling num (length vs)) (flat_map value_bytes vs) in
    omega (arith, long, some, same, all, parts)

-- a document of too many bytes makes the file of documents too long
pub long-document : (limit : ℕ) (table : List TableField) (docs : List Document) (i : ℕ) (doc : Document) → limit < 2 ^ 31 → i < length docs → doc ≡ get_or docs i doc → 2 ^ 31 ≤ length (document_bytes (stored_in table doc.stored)) → first_past limit (store_files_due (stores_of table docs)) ≡ Some Fdt
long-document limit table docs i doc small lt is long =
    let stores = stores_of table docs in
    let size = length-map docs (λ (d : Document). stored_in table d.stored) in
    let own : get_or stores i (stored_in table doc.stored) ≡ stored_in table doc.stored = get_or-map (λ (d : Document). stored_in table d.stored) docs i doc (stored_in table doc.stored) lt ∙ ap (λ (d : Document). stored_in table d.stored) (sym is) in
    let same = ap (λ d. length (document_bytes d)) own in
    let all = length-flat_map-take document_bytes stores i (stored_in table doc.stored) (omega (arith, size, lt)) in
    let parts = length-append (spelling int32 store_format) (flat_map document_bytes stores) in
    ap (λ b. cond b (Some Fdt) (first_past limit (named Fdx (fdx_bytes stores) ∷ []))) (lt-ltb limit (length (fdt_bytes stores)) (omega (arith, small, long, same, all, parts)))

-- one document more
pub stores-more : (table : List TableField) (docs : List Document) (i : ℕ) (doc : Document) → i < length docs → doc ≡ get_or docs i doc → stores_of table (take i docs) ++ stored_in table doc.stored ∷ [] ≡ stores_of table (take (i + 1) docs)
stores-more table docs i doc lt is =
    sym (map-append (λ (d : Document). stored_in table d.stored) (take i docs) (doc ∷ [])) ∙ ap (stores_of table) (ap (λ d. take i docs ++ d ∷ []) is ∙ sym (take_more docs i doc lt))

-- what a document that was not written tells of all
pub store-fault : (limit : ℕ) (table : List TableField) (docs : List Document) (i : ℕ) (doc : Document) (fault : WriteFault) (finished : List (List StoredField)) (held : HeldDocuments) → limit < 2 ^ 31 → i < length docs → doc ≡ get_or docs i doc
    → WritesValues finished (stored_in table doc.stored) held (Err fault) → Wrote given_store limit (store_files_due (stores_of table docs)) (Err fault)
store-fault limit table docs i doc (Doc number fault) finished held small lt is never = never
store-fault limit table docs i doc (TooLarge kind) finished held small lt is long = long-document limit table docs i doc small lt is long.1 ∙ ap Some (sym long.0)
store-fault limit table docs i doc OutOfMemory finished held small lt is none = tt
