-- Short words for worked rows.
use Rattle.std.specs.Prelude.{ℕ, ◌+◌, List, [], ◌∷◌, map, Some, None, true, false, codes}
use Rattle.lu_types.specs.declared.document.Document.{Document}
use Rattle.lu_types.specs.declared.document.IndexedField.{IndexedField}
use Rattle.lu_types.specs.declared.document.Token.{Token}
use Rattle.lu_types.specs.declared.document.Vector.TheVariants.{Off, Both}
use Rattle.lu_types.specs.declared.stored.Stored.TheVariants.{Text}
use Rattle.lu_types.specs.Occurrences.{Occurrence}
use Rattle.lu_model.specs.Index.{IndexedEntry, IndexedTerm, Term, given}

abbrev pub f : List ℕ
f = codes "f"

abbrev pub g : List ℕ
g = codes "g"

abbrev pub x : List ℕ
x = codes "x"

abbrev pub y : List ℕ
y = codes "y"

abbrev pub z : List ℕ
z = codes "z"

-- a token without a payload, and one with a payload
abbrev pub token : List ℕ → ℕ → ℕ → ℕ → Token
token text position start end = record { text = text; position = position; start = start; end = end; payload = [] }

abbrev pub loaded : List ℕ → ℕ → List ℕ → Token
loaded text position payload = record { text = text; position = position; start = 0; end = 0; payload = payload }

-- tokens at the positions from one on
abbrev pub words : ℕ → List (List ℕ) → List Token
words position [] = []
words position (text ∷ texts) = token text position 0 0 ∷ words (position + 1) texts

-- a field with a norm whose tokens are words, one that has no norm, and one that has a norm and no token
abbrev pub field : List ℕ → List (List ℕ) → IndexedField
field name texts = record { field = name; norm = Some 124; omit_tf = false; vector = Off; tokens = words 0 texts }

abbrev pub bare : List ℕ → List Token → IndexedField
bare name tokens = record { field = name; norm = None; omit_tf = false; vector = Off; tokens = tokens }

abbrev pub normed : List ℕ → ℕ → IndexedField
normed name byte = record { field = name; norm = Some byte; omit_tf = false; vector = Off; tokens = [] }

-- a document that stores nothing
abbrev pub found_by : List IndexedField → Document
found_by fields = record { stored = []; indexed = fields }

-- the document that stores a title and is found by its body
abbrev pub hello_world : Document
hello_world = record {
  stored = record { field = codes "title"; tokenized = true; value = Text (codes "hello world") } ∷ [];
  indexed = record {
    field = codes "body";
    norm = Some 124;
    omit_tf = false;
    vector = Both;
    tokens = token (codes "hello") 0 0 5 ∷ token (codes "world") 1 6 11 ∷ [];
  } ∷ [];
}

-- a place without a payload, and an entry of such places
abbrev pub at : ℕ → Occurrence
at position = record { position = position; payload = [] }

abbrev pub entry : ℕ → List ℕ → IndexedEntry
entry document positions = record { document = document; occurrences = given (map at positions) }

abbrev pub term : ℕ → List ℕ → List IndexedEntry → IndexedTerm
term number text entries = record { field = number; text = text; entries = entries }

abbrev pub named : List ℕ → List ℕ → Term
named name text = record { field = name; text = text }
