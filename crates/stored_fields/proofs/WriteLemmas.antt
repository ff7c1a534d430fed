-- What the one spelling of stored documents is read as.
use Rattle.std.proofs.Common.{◌≡◌, ℕ, suc, ◌+◌, ◌-◌, ◌<◌, Bool, true, false, List, [], ◌∷◌, ◌++◌, length, None, refl, sym, ap, subst, arith, append_assoc}
use Rattle.std.specs.Prelude.{◌&&◌, nat_le, All}
use Rattle.std.specs.List.{flat_map}
use Rattle.std.proofs.lemmas.Bool.{lt-leb}
use Rattle.std.proofs.lemmas.List.{append-nil}
use Rattle.lu_types.specs.declared.stored.Stored.{Stored}
use Rattle.lu_types.specs.declared.stored.Stored.TheVariants.{Text, Binary}
use Rattle.lu_grammar.specs.Parts.{num, text, IsValue, spelling}
use Rattle.lu_grammar.specs.Records.{Shape, whole, followed, first_broken, Spells}
use Rattle.lu_grammar.specs.Plans.{Plan, done, and_then, Kind, one, times, each}
use Rattle.lu_grammar.proofs.Codecs.{Spells-followed, Writes, Writes-due, Writes-done, Writes-and_then, Writes-none}
use Rattle.stored_fields.specs.Format.{bit_tokenized, bit_binary}
use Rattle.lu_types.specs.Bits.{has_bit}
use Rattle.lu_types.specs.StoredFields.{StoredField}
use Rattle.stored_fields.specs.Values.{StoredDocument, StoredEntry, content_shape, stored_entry_shape, stored}
use Rattle.stored_fields.specs.Documents.{FdtRecord, count, value, count_of, count_shape, value_shape, value_conditions, has_other_bit, with_value, values_kind}
use Rattle.stored_fields.specs.Writing.{IsStorableValue, IsStorableField, value_bits, content_bytes, value_bytes, IsStorableDocument, AreStorable, document_bytes, OpenDocument}
use Rattle.stored_fields.specs.InnerWriting.{open_plan, finished_plan, open_bytes}

-- ---- one value

abbrev is_binary : Stored → Bool
is_binary (Text t) = false
is_binary (Binary bs) = true

binary_bit : (tokenized : Bool) (v : Stored) → has_bit bit_binary (value_bits tokenized v) ≡ is_binary v
binary_bit true (Text t) = refl
binary_bit false (Text t) = refl
binary_bit true (Binary bs) = refl
binary_bit false (Binary bs) = refl

tokenized_bit : (tokenized : Bool) (v : Stored) → has_bit bit_tokenized (value_bits tokenized v) ≡ tokenized
tokenized_bit true (Text t) = refl
tokenized_bit false (Text t) = refl
tokenized_bit true (Binary bs) = refl
tokenized_bit false (Binary bs) = refl

no_other_bit : (tokenized : Bool) (v : Stored) → has_other_bit (value_bits tokenized v) ≡ false
no_other_bit true (Text t) = refl
no_other_bit false (Text t) = refl
no_other_bit true (Binary bs) = refl
no_other_bit false (Binary bs) = refl

pub bits_fit : (tokenized : Bool) (v : Stored) → value_bits tokenized v < 256
bits_fit true (Text t) = omega arith
bits_fit false (Text t) = omega arith
bits_fit true (Binary bs) = omega arith
bits_fit false (Binary bs) = omega arith

spells_content : (v : Stored) → IsStorableValue v → Spells (content_shape (is_binary v)) v (content_bytes v)
spells_content (Text t) h = (t, [], h, sym (append-nil (spelling text t)), (refl, refl))
spells_content (Binary bs) h = (length bs, bs, h.0, refl, (bs, [], h.1, sym (append-nil bs), (refl, refl)))

-- the entry that spells a value
abbrev entry : StoredField → StoredEntry
entry v = record { field = v.field; bits = value_bits v.tokenized v.value; value = v.value }

entry_stores : (v : StoredField) → stored (entry v) ≡ v
entry_stores v = ap (λ (b : Bool). with_bit b) (tokenized_bit v.tokenized v.value)
  where
    with_bit : Bool → StoredField
    with_bit b = record { field = v.field; tokenized = b; value = v.value }

spells_entry : (v : StoredField) → IsStorableField v → Spells stored_entry_shape (entry v) (value_bytes v)
spells_entry v h =
    let shape : Bool → Shape StoredEntry = λ b. followed (content_shape b) (λ x. whole (record { field = v.field; bits = value_bits v.tokenized v.value; value = x })) in
    let tail : Spells (shape (is_binary v.value)) (entry v) (content_bytes v.value ++ []) =
    Spells-followed (content_shape (is_binary v.value)) (λ x. whole (record { field = v.field; bits = value_bits v.tokenized v.value; value = x })) v.value (entry v) (content_bytes v.value) [] (spells_content v.value h.1) (refl, refl) in
    let tail_bit : Spells (shape (has_bit bit_binary (value_bits v.tokenized v.value))) (entry v) (content_bytes v.value) =
    subst (λ (b : Bool). Spells (shape b) (entry v) (content_bytes v.value)) (sym (binary_bit v.tokenized v.value)) (subst (λ (t : List ℕ). Spells (shape (is_binary v.value)) (entry v) t) (append-nil (content_bytes v.value)) tail) in
    (v.field, value_bits v.tokenized v.value ∷ content_bytes v.value, h.0, refl, (value_bits v.tokenized v.value, content_bytes v.value, bits_fit v.tokenized v.value, refl, tail_bit))

spells_value : (v : StoredField) → IsStorableField v → Spells value_shape (value (entry v)) (value_bytes v)
spells_value v h =
    subst (λ (t : List ℕ). Spells value_shape (value (entry v)) t) (append-nil (value_bytes v))
    (Spells-followed stored_entry_shape (λ x. whole (value x)) (entry v) (value (entry v)) (value_bytes v) [] (spells_entry v h) (refl, refl))

-- the field is one of so many, where this is asked
abbrev pub IsField : Bool → ℕ → StoredField → Type 0
IsField asked fields v = asked ≡ true → v.field < fields

value_is_good : (asked : Bool) (fields : ℕ) (v : StoredField) → IsField asked fields v → first_broken (value_conditions asked fields (value (entry v))) ≡ None
value_is_good asked fields v h = rw (no_field asked h, no_other_bit v.tokenized v.value) refl
  where
    no_field : (b : Bool) → (b ≡ true → v.field < fields) → b && nat_le fields v.field ≡ false
    no_field false h = refl
    no_field true h = lt-leb fields v.field (h refl)

-- one kind's record
pub writes_one : {S R : Type 0} (kind : Kind S R) (s : S) (place : ℕ) (r : R) (front : List ℕ) → Spells (kind.shape s) r front → first_broken (kind.conditions s place r) ≡ None → Writes (one kind s) place front (kind.after s place r)
writes_one {S} {R} kind s place r front spells good =
    subst (λ (t : List ℕ). Writes (one kind s) place t (kind.after s place r)) (append-nil front)
    (Writes-due (kind.shape s) (kind.conditions s) (λ place r. done (kind.after s place r)) place r front [] (kind.after s place r) spells good (Writes-done (place + length front) (kind.after s place r)))

-- ---- the values of a document

pub all_head : {A : Type 0} (P : A → Type 0) (x : A) (xs : List A) → All P (x ∷ xs) → P x
all_head P x xs all = all 0 x (omega arith)

pub all_tail : {A : Type 0} (P : A → Type 0) (x : A) (xs : List A) → All P (x ∷ xs) → All P xs
all_tail P x xs all k d lt = all (suc k) d (omega arith)

pub writes_values : (asked : Bool) (fields : ℕ) (values front : StoredDocument) (place : ℕ) → All IsStorableField values → All (IsField asked fields) values
    → Writes (times (values_kind asked fields) (length values) front) place (flat_map value_bytes values) (front ++ values)
unfolding each
writes_values asked fields [] front place storable there =
    subst (λ (vs : StoredDocument). Writes (times (values_kind asked fields) 0 front) place [] vs) (sym (append-nil front)) (Writes-none (one (values_kind asked fields)) place front)
writes_values asked fields (v ∷ vs) front place storable there =
    let kind = values_kind asked fields in
    let state : with_value front (value (entry v)) ≡ front ++ v ∷ [] = ap (λ (x : StoredField). front ++ x ∷ []) (entry_stores v) in
    let first : Writes (one kind front) place (value_bytes v) (front ++ v ∷ []) =
    subst (λ (s : StoredDocument). Writes (one kind front) place (value_bytes v) s) state (writes_one kind front place (value (entry v)) (value_bytes v) (spells_value v (all_head IsStorableField v vs storable)) (value_is_good asked fields v (all_head (IsField asked fields) v vs there))) in
    subst (λ (s : StoredDocument). Writes (times kind (suc (length vs)) front) place (value_bytes v ++ flat_map value_bytes vs) s) (append_assoc front (v ∷ []) vs)
    (Writes-and_then (one kind front) (times kind (length vs)) place (value_bytes v) (flat_map value_bytes vs) (front ++ v ∷ []) ((front ++ v ∷ []) ++ vs) first
    (writes_values asked fields vs (front ++ v ∷ []) (place + length (value_bytes v)) (all_tail IsStorableField v vs storable) (all_tail (IsField asked fields) v vs there)))

-- ---- the documents as the writer holds them

-- no field is asked
pub unasked : (vs : StoredDocument) → All (IsField false 0) vs
unasked vs k d lt e = cc

-- an open document that lacks so many values
pub writes_open : (lacks : ℕ) (d : OpenDocument) (place : ℕ) → length d.values + lacks ≡ d.announced → IsValue num d.announced → All IsStorableField d.values → Writes (open_plan lacks) place (open_bytes d) d
writes_open lacks d place many few storable =
    let n = d.announced in
    let here = place + length (spelling num n) in
    let back : length d.values ≡ n - lacks = omega (arith, many) in
    let next : StoredDocument → Plan OpenDocument FdtRecord = λ values. done (record { announced = n; values = values }) in
    let values : Writes (times (values_kind false 0) (n - lacks) []) here (flat_map value_bytes d.values) d.values =
    subst (λ (k : ℕ). Writes (times (values_kind false 0) k []) here (flat_map value_bytes d.values) d.values) back (writes_values false 0 d.values [] here storable (unasked d.values)) in
    let body : Writes (and_then (times (values_kind false 0) (n - lacks) []) next) here (flat_map value_bytes d.values) d =
    subst (λ (t : List ℕ). Writes (and_then (times (values_kind false 0) (n - lacks) []) next) here t d) (append-nil (flat_map value_bytes d.values))
    (Writes-and_then (times (values_kind false 0) (n - lacks) []) next here (flat_map value_bytes d.values) [] d.values d values (Writes-done (here + length (flat_map value_bytes d.values)) d)) in
    Writes-due count_shape (λ _ _. []) (λ _ r. and_then (times (values_kind false 0) (count_of r - lacks) []) (λ values. done (record { announced = count_of r; values = values }))) place (count n) (spelling num n)
    (flat_map value_bytes d.values) d (n, [], few, sym (append-nil (spelling num n)), (refl, refl)) refl body

-- a document with all of its values
abbrev pub full : StoredDocument → OpenDocument
full values = record { announced = length values; values = values }

-- finished documents, after those in front
pub writes_finished : (documents front : List StoredDocument) (place : ℕ) → AreStorable documents → Writes (each finished_plan (length documents) front) place (flat_map document_bytes documents) (front ++ documents)
unfolding each
writes_finished [] front place storable = subst (λ (all : List StoredDocument). Writes (each finished_plan 0 front) place [] all) (sym (append-nil front)) (Writes-none finished_plan place front)
writes_finished (d ∷ ds) front place storable =
    let here = place + length (document_bytes d) in
    let add : OpenDocument → Plan (List StoredDocument) FdtRecord = λ o. done (front ++ o.values ∷ []) in
    let good = all_head IsStorableDocument d ds storable in
    let first : Writes (finished_plan front) place (document_bytes d) (front ++ d ∷ []) =
    subst (λ (t : List ℕ). Writes (finished_plan front) place t (front ++ d ∷ [])) (append-nil (document_bytes d))
    (Writes-and_then (open_plan 0) add place (document_bytes d) [] (full d) (front ++ d ∷ []) (writes_open 0 (full d) place (omega arith) good.0 good.1) (Writes-done here (front ++ d ∷ []))) in
    subst (λ (all : List StoredDocument). Writes (each finished_plan (suc (length ds)) front) place (document_bytes d ++ flat_map document_bytes ds) all) (append_assoc front (d ∷ []) ds)
    (Writes-and_then (finished_plan front) (each finished_plan (length ds)) place (document_bytes d) (flat_map document_bytes ds) (front ++ d ∷ []) ((front ++ d ∷ []) ++ ds) first
    (writes_finished ds (front ++ d ∷ []) here (all_tail IsStorableDocument d ds storable)))
