-- Worked rows: indexes of documents.
use Rattle.std.proofs.Common.{◌≡◌, ℕ, [], ◌∷◌, List, map, Some, None, true, false, refl}
use Rattle.std.specs.Prelude.{codes}
use Rattle.std.specs.Str.{chars}
use Rattle.lu_types.specs.Joins.{join_field}
use Rattle.lu_types.specs.declared.document.Vector.TheVariants.{Off, Both}
use Rattle.lu_types.specs.declared.stored.Stored.TheVariants.{Text}
use Rattle.lu_model.specs.Contents.{index_of, index_of_documents}
use Rattle.lu_model.specs.Index.{IndexedTerm, frequency, given, in_order, omitted}
use Rattle.lu_model.proofs.RowWords.{at, bare, entry, f, field, found_by, g, hello_world, loaded, term, token, x, y}

-- one document, of which `show` prints: segment 0 1 0, field 0 10 "title", field 1 0f "body", doc 0 live, stored 0 1 text "hello world",
-- vector 1 3, vterm "hello" 1 @0 0-5, vterm "world" 1 @1 6-11, term 1 "hello" 1, in 0 1 @0, term 1 "world" 1, in 0 1 @1, norms 1 7c
hello_world_index : index_of_documents (hello_world ∷ []) ≡ record {
  size = 1;
  fields = record { name = codes "title"; bits = 0x10 } ∷ record { name = codes "body"; bits = 0x0F } ∷ [];
  stored = (record { field = 0; tokenized = true; value = Text (codes "hello world") } ∷ []) ∷ [];
  terms = term 1 (codes "hello") (entry 0 (0 ∷ []) ∷ []) ∷ term 1 (codes "world") (entry 0 (1 ∷ []) ∷ []) ∷ [];
  norms = None ∷ Some (0x7C ∷ []) ∷ [];
  vectors = (record {
    field = 1;
    bits = 3;
    terms =
        record { text = codes "hello"; frequency = 1; positions = 0 ∷ []; spans = record { start = 0; end = 5 } ∷ [] }
        ∷ record { text = codes "world"; frequency = 1; positions = 1 ∷ []; spans = record { start = 6; end = 11 } ∷ [] }
        ∷ [];
  } ∷ []) ∷ [];
  deleted = [];
}
unfolding index_of in_order join_field chars
hello_world_index = refl

-- no document
empty_index : index_of_documents [] ≡ record { size = 0; fields = []; stored = []; terms = []; norms = []; vectors = []; deleted = [] }
unfolding index_of in_order
empty_index = refl

-- a vector whose only text stands twice, at offsets that overlap
aa_twice : index_of_documents (found_by (record {
  field = f;
  norm = None;
  omit_tf = false;
  vector = Both;
  tokens = token (codes "aa") 0 0 2 ∷ token (codes "aa") 1 1 3 ∷ [];
} ∷ []) ∷ []) ≡ record {
  size = 1;
  fields = record { name = f; bits = 0x1F } ∷ [];
  stored = [] ∷ [];
  terms = term 0 (codes "aa") (entry 0 (0 ∷ 1 ∷ []) ∷ []) ∷ [];
  norms = None ∷ [];
  vectors = (record {
    field = 0;
    bits = 3;
    terms = record {
      text = codes "aa";
      frequency = 2;
      positions = 0 ∷ 1 ∷ [];
      spans = record { start = 0; end = 2 } ∷ record { start = 1; end = 3 } ∷ [];
    } ∷ [];
  } ∷ []) ∷ [];
  deleted = [];
}
unfolding index_of in_order join_field chars
aa_twice = refl

-- a term with payloads: AABBCC in one document, DDEEFF and none in the other
payloads : index_of_documents (
    found_by (bare f (loaded x 0 (0xAA ∷ 0xBB ∷ 0xCC ∷ []) ∷ []) ∷ [])
    ∷ found_by (bare f (loaded x 0 (0xDD ∷ 0xEE ∷ 0xFF ∷ []) ∷ loaded x 1 [] ∷ []) ∷ []) ∷ []) ≡ record {
      size = 2;
      fields = record { name = f; bits = 0x31 } ∷ [];
      stored = [] ∷ [] ∷ [];
      terms = term 0 x (
          record { document = 0; occurrences = given (record { position = 0; payload = 0xAA ∷ 0xBB ∷ 0xCC ∷ [] } ∷ []) }
          ∷ record { document = 1; occurrences = given (record { position = 0; payload = 0xDD ∷ 0xEE ∷ 0xFF ∷ [] } ∷ at 1 ∷ []) }
          ∷ []) ∷ [];
      norms = None ∷ [];
      vectors = [] ∷ [] ∷ [];
      deleted = [];
    }
unfolding index_of in_order join_field chars
payloads = refl

-- a field that one document asks to be without frequencies and positions is so in all
omitted_in_all : index_of_documents (
    found_by (field f (x ∷ x ∷ []) ∷ [])
    ∷ found_by (record { field = f; norm = Some 9; omit_tf = true; vector = Off; tokens = token x 3 0 0 ∷ [] } ∷ []) ∷ []) ≡ record {
      size = 2;
      fields = record { name = f; bits = 0x41 } ∷ [];
      stored = [] ∷ [] ∷ [];
      terms = term 0 x (record { document = 0; occurrences = omitted } ∷ record { document = 1; occurrences = omitted } ∷ []) ∷ [];
      norms = Some (124 ∷ 9 ∷ []) ∷ [];
      vectors = [] ∷ [] ∷ [];
      deleted = [];
    }
unfolding index_of in_order join_field chars
omitted_in_all = refl

-- such a term stands once in each document, as far as is known
omitted_frequency : frequency omitted ≡ 1
omitted_frequency = refl

-- tokens stay in their order: also at one position, and where a faulty document has positions that fall
order_of_tokens : (index_of_documents (found_by (bare f (loaded x 3 [] ∷ loaded x 3 (0xAA ∷ []) ∷ loaded x 1 [] ∷ []) ∷ []) ∷ [])).terms
    ≡ term 0 x (record { document = 0; occurrences = given (at 3 ∷ record { position = 3; payload = 0xAA ∷ [] } ∷ at 1 ∷ []) } ∷ []) ∷ []
unfolding index_of in_order join_field chars
order_of_tokens = refl

texts : List IndexedTerm → List (List ℕ)
texts terms = map (λ term. term.text) terms

-- texts stand by units of UTF-16: U+10000 before U+FF61
units_decide : texts (index_of_documents (found_by (field f ((0xEF ∷ 0xBD ∷ 0xA1 ∷ []) ∷ (0xF0 ∷ 0x90 ∷ 0x80 ∷ 0x80 ∷ []) ∷ []) ∷ []) ∷ [])).terms
    ≡ (0xF0 ∷ 0x90 ∷ 0x80 ∷ 0x80 ∷ []) ∷ (0xEF ∷ 0xBD ∷ 0xA1 ∷ []) ∷ []
unfolding texts index_of in_order join_field chars
units_decide = refl

-- fields are numbered as they come; terms stand by the fields' names
names_decide : index_of_documents (found_by (field g (x ∷ []) ∷ field f (y ∷ []) ∷ []) ∷ []) ≡ record {
  size = 1;
  fields = record { name = g; bits = 0x01 } ∷ record { name = f; bits = 0x01 } ∷ [];
  stored = [] ∷ [];
  terms = term 1 y (entry 0 (0 ∷ []) ∷ []) ∷ term 0 x (entry 0 (0 ∷ []) ∷ []) ∷ [];
  norms = Some (124 ∷ []) ∷ Some (124 ∷ []) ∷ [];
  vectors = [] ∷ [];
  deleted = [];
}
unfolding index_of in_order join_field chars
names_decide = refl
