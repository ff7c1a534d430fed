-- Which document a JSON value is (format page, "Input"); none where its shape is bad.
use Rattle.std.specs.Prelude.{ℕ, Bool, true, false, ◌&&◌, cond, List, [], ◌∷◌, Option, Some, None, option_map, codes, nat_le}
use Rattle.std.specs.Result.{result_ok}
use Rattle.std.specs.List.{list_any}
use Rattle.std.specs.Str.{bytes_eq}
use Rattle.hex.specs.Hex.{decode_of}
use Rattle.serde_json.specs.Data.{Data, null, boolean, number, string, array, object, Items, no_items, item, Members, no_members, member}
use Rattle.serde_json.specs.Find.{get, as_bool, as_number, as_str, as_array, as_u64}
use Rattle.lu_types.specs.declared.document.Document.{Document}
use Rattle.lu_types.specs.declared.document.IndexedField.{IndexedField}
use Rattle.lu_types.specs.declared.document.Token.{Token}
use Rattle.lu_types.specs.declared.document.Vector.{Vector}
use Rattle.lu_types.specs.declared.document.Vector.TheVariants.{Off, Plain, Positions, Offsets, Both}
use Rattle.lu_types.specs.declared.stored.Stored.{Stored}
use Rattle.lu_types.specs.declared.stored.Stored.TheVariants.{Text, Binary}
use Rattle.lu_types.specs.declared.stored.StoredValue.{StoredValue}
use Rattle.lu_input.specs.Tokens.{tokens_of}

-- another step, where the first gives a value
infixl 10 ◌>>=◌
abbrev pub ◌>>=◌ : {A B : Type 0} → Option A → (A → Option B) → Option B
None >>= f = None
Some a >>= f = f a

-- ---- members

abbrev pub are_among : List (List ℕ) → Members → Bool
are_among names no_members = true
are_among names (member name d ms) = list_any (bytes_eq name) names && are_among names ms

-- the value is an object, and has no other members than these
abbrev pub has_only : List (List ℕ) → Data → Bool
has_only names null = false
has_only names (boolean b) = false
has_only names (number n) = false
has_only names (string s) = false
has_only names (array ds) = false
has_only names (object ms) = are_among names ms

-- the value itself, where it has no other members
abbrev pub object_of : List (List ℕ) → Data → Option Data
object_of names d = cond (has_only names d) (Some d) None

-- what a member stands for, or what it is where it is absent
abbrev pub or_absent : {X : Type 0} → X → (Data → Option X) → Option Data → Option X
or_absent x f None = Some x
or_absent x f (Some d) = f d

-- a member that must be there
abbrev pub required : {X : Type 0} → (Data → Option X) → Option Data → Option X
required f None = None
required f (Some d) = f d

-- each item, where each stands for something
abbrev pub each_of : {X : Type 0} → (Data → Option X) → Items → Option (List X)
each_of f no_items = Some []
each_of f (item d ds) = f d >>= λ x. option_map (λ xs. x ∷ xs) (each_of f ds)

abbrev pub list_of : {X : Type 0} → (Data → Option X) → Data → Option (List X)
list_of f d = as_array d >>= each_of f

-- ---- plain values

-- the number, where it is at most that great
abbrev pub at_most : ℕ → ℕ → Option ℕ
at_most most n = cond (nat_le n most) (Some n) None

-- a whole number from 0 to the greatest
abbrev pub whole_of : ℕ → Data → Option ℕ
whole_of most d = as_number d >>= as_u64 >>= at_most most

-- the bytes of hexadecimal text
abbrev pub bytes_of_hex : Data → Option (List ℕ)
bytes_of_hex d = as_str d >>= λ digits. result_ok (decode_of digits)

-- the norm: null omits norms
abbrev pub norm_of : Data → Option (Option ℕ)
norm_of null = Some None
norm_of d = option_map (λ n. Some n) (whole_of 255 d)

abbrev pub vector_named : List ℕ → Option Vector
vector_named name =
    cond (bytes_eq name (codes "off")) (Some Off)
    (cond (bytes_eq name (codes "plain")) (Some Plain)
    (cond (bytes_eq name (codes "positions")) (Some Positions)
    (cond (bytes_eq name (codes "offsets")) (Some Offsets)
    (cond (bytes_eq name (codes "both")) (Some Both) None))))

abbrev pub vector_kind_of : Data → Option Vector
vector_kind_of d = as_str d >>= vector_named

-- ---- objects

-- exactly one of both
abbrev pub one_of : {X : Type 0} → (Data → Option X) → (Data → Option X) → Option Data → Option Data → Option X
one_of f g None None = None
one_of f g (Some d) None = f d
one_of f g None (Some e) = g e
one_of f g (Some d) (Some e) = None

-- what is stored: exactly one of a text and of bytes
abbrev pub stored_value_in : Option Data → Option Data → Option Stored
stored_value_in text binary = one_of (λ t. option_map (λ s. Text s) (as_str t)) (λ b. option_map (λ s. Binary s) (bytes_of_hex b)) text binary

abbrev pub stored_names : List (List ℕ)
stored_names = codes "field" ∷ codes "tokenized" ∷ codes "text" ∷ codes "binary" ∷ []

abbrev pub stored_of : Data → Option StoredValue
stored_of d = do
  o ← object_of stored_names d
  field ← required as_str (get (codes "field") o)
  tokenized ← or_absent false as_bool (get (codes "tokenized") o)
  value ← stored_value_in (get (codes "text") o) (get (codes "binary") o)
  Some (record { field = field; tokenized = tokenized; value = value })

-- the greatest u32
abbrev pub greatest : ℕ
greatest = 4294967295

abbrev pub token_names : List (List ℕ)
token_names = codes "text" ∷ codes "position" ∷ codes "start" ∷ codes "end" ∷ codes "payload" ∷ []

abbrev pub token_of : Data → Option Token
token_of d = do
  o ← object_of token_names d
  text ← required as_str (get (codes "text") o)
  position ← required (whole_of greatest) (get (codes "position") o)
  start ← required (whole_of greatest) (get (codes "start") o)
  end ← required (whole_of greatest) (get (codes "end") o)
  payload ← or_absent [] bytes_of_hex (get (codes "payload") o)
  Some (record { text = text; position = position; start = start; end = end; payload = payload })

-- the tokens: exactly one of a text and of a list of tokens
abbrev pub tokens_in : Option Data → Option Data → Option (List Token)
tokens_in text tokens = one_of (λ t. option_map tokens_of (as_str t)) (list_of token_of) text tokens

abbrev pub indexed_names : List (List ℕ)
indexed_names = codes "field" ∷ codes "norm" ∷ codes "omitTf" ∷ codes "vector" ∷ codes "text" ∷ codes "tokens" ∷ []

abbrev pub indexed_of : Data → Option IndexedField
indexed_of d = do
  o ← object_of indexed_names d
  field ← required as_str (get (codes "field") o)
  norm ← or_absent (Some 124) norm_of (get (codes "norm") o)
  omit_tf ← or_absent false as_bool (get (codes "omitTf") o)
  vector ← or_absent Off vector_kind_of (get (codes "vector") o)
  tokens ← tokens_in (get (codes "text") o) (get (codes "tokens") o)
  Some (record { field = field; norm = norm; omit_tf = omit_tf; vector = vector; tokens = tokens })

abbrev pub document_names : List (List ℕ)
document_names = codes "stored" ∷ codes "indexed" ∷ []

-- the document that a value is
abbrev pub document_of : Data → Option Document
document_of d = do
  o ← object_of document_names d
  stored ← or_absent [] (list_of stored_of) (get (codes "stored") o)
  indexed ← or_absent [] (list_of indexed_of) (get (codes "indexed") o)
  Some (record { stored = stored; indexed = indexed })
