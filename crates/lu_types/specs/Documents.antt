-- What each document of the program is made of: texts and bytes (format page, "Documents").
use Rattle.std.specs.Prelude.{ℕ, ◌<◌, List, All, IfSome}
use Rattle.std.specs.Str.{IsUtf8}
use Rattle.lu_grammar.specs.Bytes.{IsBytes}
use Rattle.lu_types.specs.declared.document.Document.{Document}
use Rattle.lu_types.specs.declared.document.IndexedField.{IndexedField}
use Rattle.lu_types.specs.declared.document.Token.{Token}
use Rattle.lu_types.specs.declared.stored.Stored.{Stored}
use Rattle.lu_types.specs.declared.stored.Stored.TheVariants.{Text, Binary}
use Rattle.lu_types.specs.declared.stored.StoredValue.{StoredValue}

-- the bytes of what is stored
abbrev pub stored_bytes : Stored → List ℕ
stored_bytes (Text text) = text
stored_bytes (Binary bytes) = bytes

-- what is stored is a text, or bytes
abbrev pub IsStored : Stored → Type 0
IsStored (Text text) = IsUtf8 text
IsStored (Binary bytes) = IsBytes bytes

-- the field's name is a text, and what is stored is
pub record IsStoredValue (value : StoredValue) : Type 0 where
  pub name : IsUtf8 value.field
  pub stored : IsStored value.value

-- the token has a text, and its payload is bytes
pub record IsToken (token : Token) : Type 0 where
  pub text : IsUtf8 token.text
  pub payload : IsBytes token.payload

-- the field's name and the texts of its tokens are texts, and its norm is a byte where it has one
pub record IsIndexedField (field : IndexedField) : Type 0 where
  pub name : IsUtf8 field.field
  pub norm : IfSome field.norm (λ norm. norm < 256)
  pub tokens : All IsToken field.tokens

-- the document is made of texts and bytes
pub record IsDocument (doc : Document) : Type 0 where
  pub stored : All IsStoredValue doc.stored
  pub indexed : All IsIndexedField doc.indexed
