-- Rows of the definitions: the faults of documents, and what joins make of bits.
use Rattle.std.specs.Prelude.{◌≡◌, ℕ, List, [], ◌∷◌, Option, Some, None, codes, refl, replicate}
use Rattle.std.proofs.Common.{lit≤}
use Rattle.lu_types.specs.DocFaults.{doc_fault}
use Rattle.lu_types.specs.Joins.{join_bits, join_field, join_all, asked_bits, table_of}
use Rattle.lu_types.specs.declared.document.IndexedField.{IndexedField}
use Rattle.lu_types.specs.declared.document.Token.{Token}
use Rattle.lu_types.specs.declared.document.Limits.{Limits}
use Rattle.lu_types.specs.declared.document.Vector.TheVariants.{Off, Positions, Offsets, Both}
use Rattle.lu_types.specs.declared.document.DocFault.{DocFault}
use Rattle.lu_types.specs.declared.document.DocFault.TheVariants.{NameLong, TextLong, PositionOrder, OffsetOrder, PayloadLong, FieldTwice, TokensMany}
use Rattle.lu_types.specs.declared.stored.Stored.TheVariants.{Text}
use Rattle.lu_types.specs.declared.stored.StoredValue.{StoredValue}
use Rattle.std.specs.Prelude.{true, false}

-- ---- faults

-- at most two tokens of a field
abbrev limits : Limits
limits = record { documents = 1; tokens = 2; file_bytes = 1; few_documents = lit≤ tt; few_tokens = lit≤ tt; few_bytes = lit≤ tt }

-- so many bytes
abbrev long : ℕ → List ℕ
long n = replicate n 97

abbrev token : ℕ → ℕ → ℕ → ℕ → ℕ → Token
token text position start end payload = record { text = long text; position = position; start = start; end = end; payload = long payload }

abbrev field : ℕ → List Token → IndexedField
field name tokens = record { field = long name; norm = None; omit_tf = false; vector = Off; tokens = tokens }

abbrev stored : ℕ → StoredValue
stored name = record { field = long name; tokenized = false; value = Text [] }

abbrev fault : List StoredValue → List IndexedField → Option DocFault
fault values fields = doc_fault (record { stored = values; indexed = fields }) limits

row-good : fault (stored 1 ∷ stored 1 ∷ []) (field 1 (token 1 0 0 1 1 ∷ token 0 0 0 0 0 ∷ []) ∷ field 2 [] ∷ []) ≡ None
row-good = refl

row-stored_name : fault (stored 65536 ∷ []) (field 1 [] ∷ field 1 [] ∷ []) ≡ Some NameLong
row-stored_name = refl

-- the greatest length passes
row-name : fault (stored 65535 ∷ []) (field 65536 [] ∷ []) ≡ Some NameLong
row-name = refl

row-twice : fault [] (field 1 [] ∷ field 2 [] ∷ field 1 (token 65536 0 0 0 0 ∷ []) ∷ []) ≡ Some FieldTwice
row-twice = refl

row-many : fault [] (field 1 (token 65536 0 0 0 0 ∷ token 0 0 0 0 0 ∷ token 0 0 0 0 0 ∷ []) ∷ []) ≡ Some TokensMany
row-many = refl

row-text : fault [] (field 1 (token 65536 2147483648 0 0 0 ∷ []) ∷ []) ≡ Some TextLong
row-text = refl

row-position : fault [] (field 1 (token 65535 2147483648 1 0 0 ∷ []) ∷ []) ≡ Some PositionOrder
row-position = refl

row-position_falls : fault [] (field 1 (token 0 2147483647 0 0 0 ∷ token 0 2147483646 0 0 0 ∷ []) ∷ []) ≡ Some PositionOrder
row-position_falls = refl

row-start : fault [] (field 1 (token 0 0 1 0 65536 ∷ []) ∷ []) ≡ Some OffsetOrder
row-start = refl

row-end : fault [] (field 1 (token 0 0 0 2147483648 0 ∷ []) ∷ []) ≡ Some OffsetOrder
row-end = refl

row-payload : fault [] (field 1 (token 0 0 2147483647 2147483647 65536 ∷ []) ∷ []) ≡ Some PayloadLong
row-payload = refl

-- ---- joins

-- an appearance that is not indexed changes nothing
row-join_stored : join_bits 0x4F 0x10 ≡ 0x4F
row-join_stored = refl

-- the first appearance that is indexed counts
row-join_first : join_bits 0x10 0x2F ≡ 0x2F
row-join_first = refl

-- norms are omitted where both omit them, and each other bit is there where one has it
row-join_norms : join_bits 0x11 0x03 ≡ 0x03
row-join_norms = refl

row-join_both : join_bits 0x31 0x57 ≡ 0x77
row-join_both = refl

row-asked : asked_bits Both true false true ≡ 0x2F
row-asked = refl

row-asked_omitted : asked_bits Positions false true true ≡ 0x57
row-asked_omitted = refl

row-asked_offsets : asked_bits Offsets true false false ≡ 0x0B
row-asked_offsets = refl

-- names stand in the order in which they come first
row-tables : join_all ((record { name = codes "b"; bits = 0x11 } ∷ record { name = codes "a"; bits = 0x10 } ∷ []) ∷ (record { name = codes "a"; bits = 0x41 } ∷ record { name = codes "b"; bits = 0x01 } ∷ []) ∷ [])
    ≡ record { name = codes "b"; bits = 0x01 } ∷ record { name = codes "a"; bits = 0x41 } ∷ []
unfolding join_field
row-tables = refl

-- a document's stored values come before its indexed fields
row-table : table_of (record { stored = stored 2 ∷ []; indexed = field 1 (token 1 0 0 1 1 ∷ []) ∷ field 2 [] ∷ [] } ∷ [])
    ≡ record { name = codes "aa"; bits = 0x11 } ∷ record { name = codes "a"; bits = 0x31 } ∷ []
unfolding join_field
row-table = refl
