-- Worked rows: runs, and the first faults of documents.
use Rattle.std.proofs.Common.{◌≡◌, ℕ, [], ◌∷◌, List, length, Some, None, true, refl, ap, arith}
use Rattle.std.specs.Prelude.{nat_lt}
use Rattle.lu_types.specs.DocFaults.{doc_fault, fault_if, first_fault}
use Rattle.lu_types.specs.declared.document.DocFault.TheVariants.{NameLong, TextLong, PositionOrder, OffsetOrder, PayloadLong, FieldTwice, TokensMany}
use Rattle.lu_types.specs.declared.document.Limits.{Limits}
use Rattle.lu_types.specs.declared.stored.Stored.TheVariants.{Text}
use Rattle.lu_model.specs.Contents.{runs}
use Rattle.lu_model.proofs.RowWords.{bare, f, field, found_by, hello_world, loaded, token, x}

runs_of_two : runs {X = ℕ} 2 (1 ∷ 2 ∷ 3 ∷ 4 ∷ 5 ∷ []) ≡ (1 ∷ 2 ∷ []) ∷ (3 ∷ 4 ∷ []) ∷ (5 ∷ []) ∷ []
runs_of_two = refl

runs_even : runs {X = ℕ} 2 (1 ∷ 2 ∷ 3 ∷ 4 ∷ []) ≡ (1 ∷ 2 ∷ []) ∷ (3 ∷ 4 ∷ []) ∷ []
runs_even = refl

runs_of_none : runs {X = ℕ} 3 [] ≡ []
runs_of_none = refl

-- ---- faults

abbrev limits : Limits
limits = record { documents = 5; tokens = 2; file_bytes = 100; few_documents = omega arith; few_tokens = omega arith; few_bytes = omega arith }

no_fault : doc_fault hello_world limits ≡ None
no_fault = refl

-- a name, a text and a payload of 65536 bytes
long_stored : (name : List ℕ) → length name ≡ 65536
    → doc_fault (record { stored = record { field = name; tokenized = true; value = Text [] } ∷ []; indexed = [] }) limits ≡ Some NameLong
long_stored name e = ap (λ n. first_fault (first_fault (fault_if (nat_lt 65535 n) NameLong ∷ []) ∷ None ∷ [])) e

long_name : (name : List ℕ) → length name ≡ 65536 → doc_fault (found_by (bare name [] ∷ [])) limits ≡ Some NameLong
long_name name e = ap (λ n. first_fault (None ∷ first_fault (first_fault (fault_if (nat_lt 65535 n) NameLong ∷ None ∷ None ∷ None ∷ []) ∷ None ∷ []) ∷ [])) e

long_text : (text : List ℕ) → length text ≡ 65536 → doc_fault (found_by (bare f (token text 0 0 0 ∷ []) ∷ [])) limits ≡ Some TextLong
long_text text e = ap (λ n. first_fault (None ∷ first_fault (first_fault (None ∷ None ∷ None ∷ first_fault (first_fault (fault_if (nat_lt 65535 n) TextLong ∷ None ∷ None ∷ None ∷ []) ∷ None ∷ []) ∷ []) ∷ None ∷ []) ∷ [])) e

long_payload : (payload : List ℕ) → length payload ≡ 65536 → doc_fault (found_by (bare f (loaded x 0 payload ∷ []) ∷ [])) limits ≡ Some PayloadLong
long_payload payload e = ap (λ n. first_fault (None ∷ first_fault (first_fault (None ∷ None ∷ None ∷ first_fault (first_fault (None ∷ None ∷ None ∷ fault_if (nat_lt 65535 n) PayloadLong ∷ []) ∷ None ∷ []) ∷ []) ∷ None ∷ []) ∷ [])) e

-- and of 65535
longest_text : (text : List ℕ) → length text ≡ 65535 → doc_fault (found_by (bare f (token text 0 0 0 ∷ []) ∷ [])) limits ≡ None
longest_text text e = ap (λ n. first_fault (None ∷ first_fault (first_fault (None ∷ None ∷ None ∷ first_fault (first_fault (fault_if (nat_lt 65535 n) TextLong ∷ None ∷ None ∷ None ∷ []) ∷ None ∷ []) ∷ []) ∷ None ∷ []) ∷ [])) e

-- a position below that of the token before, and one that is no position
positions_fall : doc_fault (found_by (bare f (token x 1 0 0 ∷ token x 0 2 1 ∷ []) ∷ [])) limits ≡ Some PositionOrder
positions_fall = refl

position_far : doc_fault (found_by (bare f (token x 2147483648 0 0 ∷ []) ∷ [])) limits ≡ Some PositionOrder
position_far = refl

-- an end below the start, and one that is no offset
offsets_turned : doc_fault (found_by (bare f (token x 0 2 1 ∷ []) ∷ [])) limits ≡ Some OffsetOrder
offsets_turned = refl

offset_far : doc_fault (found_by (bare f (token x 0 2 2147483648 ∷ []) ∷ [])) limits ≡ Some OffsetOrder
offset_far = refl

-- a field that stands twice, and one with three tokens where two may stand
twice : doc_fault (found_by (field f (x ∷ []) ∷ field f (x ∷ x ∷ x ∷ []) ∷ [])) limits ≡ Some FieldTwice
twice = refl

tokens_many : doc_fault (found_by (field f (x ∷ x ∷ x ∷ []) ∷ [])) limits ≡ Some TokensMany
tokens_many = refl
