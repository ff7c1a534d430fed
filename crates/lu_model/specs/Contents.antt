-- What documents hold, by names, and the indexes that are made from it: of documents, and merges (format page, "Indexes").
use Rattle.std.specs.Prelude.{◌↔◌, ℕ, ◌+◌, ◌-◌, ◌*◌, ◌/◌, ◌<◌, ◌==◌, Bool, not, ◌&&◌, ◌||◌, cond, List, [], ◌∷◌, ◌++◌, length, map, filter, flat_map, filter_map, take, drop, slice_index, slice_index_or, Contains, Option, Some, None, option_map, unwrap_or, is_some, nat_le}
use Rattle.std.specs.List.{enumerate_from, find, list_any, position_or_len, range_with_len}
use Rattle.std.specs.List.Sorted.{IsStrictlySortedBy}
use Rattle.std.specs.Option.{option_and_then}
use Rattle.std.specs.Str.{bytes_eq}
use Rattle.lu_prims.specs.Order.{text_cmp}
use Rattle.lu_types.specs.Bits.{has_bit}
use Rattle.lu_types.specs.Joins.{is_empty, has_vector, keeps_positions, keeps_offsets, bit_if, join_all, table_of}
use Rattle.lu_types.specs.StoredFields.{StoredField}
use Rattle.lu_types.specs.Tables.{TableField}
use Rattle.lu_types.specs.Bits as bit
use Rattle.lu_types.specs.declared.document.Document.{Document}
use Rattle.lu_types.specs.declared.document.IndexedField.{IndexedField}
use Rattle.lu_types.specs.declared.document.Token.{Token}
use Rattle.lu_types.specs.declared.stored.StoredValue.{StoredValue}
use Rattle.lu_model.specs.Index.{Term, term_cmp, in_order, KeptOccurrences, given, omitted, IndexedEntry, IndexedTerm, FieldVector, Index}

-- the number of the field that has the name, from 0; the number of fields where none has it
abbrev pub field_number : List ℕ → List TableField → ℕ
field_number name table = position_or_len (λ field. bytes_eq name field.name) table

-- the field with the number
abbrev pub field_at : ℕ → List TableField → TableField
field_at number table = slice_index_or table number (record { name = []; bits = 0 })

-- the name of the field with the number
abbrev pub name_of : List TableField → ℕ → List ℕ
name_of table number = (field_at number table).name

-- the bits of the field that has the name
abbrev pub bits_of : List ℕ → List TableField → ℕ
bits_of name table = (field_at (field_number name table) table).bits

-- a field has norms where it is indexed and does not omit them
abbrev pub has_norms : ℕ → Bool
has_norms bits = has_bit bit.indexed bits && not (has_bit bit.omit_norms bits)

-- a norm that is missing
abbrev pub missing_norm : ℕ
missing_norm = 124

-- what a document holds: its stored values, its terms, what is known of each in it, the norm for each name of a field, its vectors
pub record Content : Type 0 where
  pub stored : List StoredValue
  pub terms : List Term
  pub occurrences : Term → Option KeptOccurrences
  pub norm : List ℕ → Option ℕ
  pub vectors : List (FieldVector (List ℕ))

-- stored values, their fields by number
abbrev pub stored_in : List TableField → List StoredValue → List StoredField
stored_in table values =
    map (λ value. record { field = field_number value.field table; tokenized = value.tokenized; value = value.value }) values

-- the vectors whose fields have vectors, by number
abbrev pub vectors_in : List TableField → List (FieldVector (List ℕ)) → List (FieldVector ℕ)
vectors_in table vectors =
    map (λ vector. record { field = field_number vector.field table; bits = vector.bits; terms = vector.terms })
    (filter (λ vector. has_bit bit.vectors (bits_of vector.field table)) vectors)

-- what a field with these bits keeps of a term in a document: where it omits frequencies and positions, only that the term is there
abbrev pub kept : ℕ → KeptOccurrences → KeptOccurrences
kept bits occurrences = cond (has_bit bit.omit_tf bits) omitted occurrences

-- a term with the documents in which it stands, in order
abbrev pub indexed_term : List TableField → List Content → Term → IndexedTerm
indexed_term table contents term = record {
  field = field_number term.field table;
  text = term.text;
  entries = filter_map (λ numbered.
      option_map (λ o. record { document = numbered.0; occurrences = kept (bits_of term.field table) o }) (numbered.1.occurrences term))
      (enumerate_from 0 contents);
}

-- these are the terms of contents: they rise, and are exactly those with an entry
pub record AreTerms (table : List TableField) (contents : List Content) (terms : List Term) : Type 0 where
  pub rise : IsStrictlySortedBy term_cmp terms
  pub entries : (term : Term) → Contains terms term ↔ (0 < length (indexed_term table contents term).entries)

-- the index of documents that hold this, under a table: a field that has norms has one for each document, and none is deleted
unfoldable pub index_of : List TableField → List Content → Index
index_of table contents = record {
  size = length contents;
  fields = table;
  stored = map (λ content. stored_in table content.stored) contents;
  terms = map (indexed_term table contents) (in_order term_cmp (flat_map (λ content. content.terms) contents));
  norms = map (λ field.
      cond (has_norms field.bits) (Some (map (λ content. unwrap_or (content.norm field.name) missing_norm) contents)) None) table;
  vectors = map (λ content. vectors_in table content.vectors) contents;
  deleted = [];
}

-- the tokens with a text
abbrev pub tokens_with : List ℕ → List Token → List Token
tokens_with text tokens = filter (λ token. bytes_eq text token.text) tokens

-- the tokens of a field that have the text of a term, if the field is that of the term
abbrev pub tokens_for : Term → IndexedField → List Token
tokens_for term field = cond (bytes_eq term.field field.field) (tokens_with term.text field.tokens) []

-- the occurrences of a term, if it has tokens
abbrev pub given_if_any : List Token → Option KeptOccurrences
given_if_any tokens =
    cond (is_empty tokens) None (Some (given (map (λ token. record { position = token.position; payload = token.payload }) tokens)))

-- the vector of a field: each text of its tokens once, in order, with as much of its tokens as is asked for
abbrev pub vector_of : IndexedField → FieldVector (List ℕ)
vector_of field = record {
  field = field.field;
  bits = bit_if (keeps_positions field.vector) 1 + bit_if (keeps_offsets field.vector) 2;
  terms = map (λ text. let found = tokens_with text field.tokens in record {
    text = text;
    frequency = length found;
    positions = cond (keeps_positions field.vector) (map (λ token. token.position) found) [];
    spans = cond (keeps_offsets field.vector) (map (λ token. record { start = token.start; end = token.end }) found) [];
  }) (in_order text_cmp (map (λ token. token.text) field.tokens));
}

-- what a document holds; a field has a vector where one is asked for and it has a token
abbrev pub content_of : Document → Content
content_of doc = record {
  stored = doc.stored;
  terms = flat_map (λ field. map (λ token. record { field = field.field; text = token.text }) field.tokens) doc.indexed;
  occurrences = λ term. given_if_any (flat_map (tokens_for term) doc.indexed);
  norm = λ name. option_and_then (λ field. field.norm) (find (λ field. bytes_eq name field.field) doc.indexed);
  vectors = map vector_of (filter (λ field. has_vector field.vector && not (is_empty field.tokens)) doc.indexed);
}

-- the index of documents under a table that covers them
abbrev pub under : List TableField → List Document → Index
under table docs = index_of table (map content_of docs)

-- the index of documents
abbrev pub index_of_documents : List Document → Index
index_of_documents docs = under (table_of docs) docs

-- a list cut into runs of so many items, the last one shorter where they do not come out even
abbrev pub runs : {X : Type 0} → ℕ → List X → List (List X)
runs every items = map (λ n. take every (drop (n * every) items)) (range_with_len 0 ((length items + (every - 1)) / every))

-- the term, its field by name
abbrev pub term_of : List TableField → IndexedTerm → Term
term_of table term = record { field = name_of table term.field; text = term.text }

-- the entries of a term; none where the index lacks it
abbrev pub entries_in : Index → Term → List IndexedEntry
entries_in index term = unwrap_or (option_map (λ found. found.entries)
    (find (λ t. bytes_eq term.field (name_of index.fields t.field) && bytes_eq term.text t.text) index.terms)) []

-- what the entries say of a document, if it is among them
abbrev pub occurrences_at : ℕ → List IndexedEntry → Option KeptOccurrences
occurrences_at document entries = option_map (λ entry. entry.occurrences) (find (λ entry. document == entry.document) entries)

-- what a document of an index holds
abbrev pub content_at : Index → ℕ → Content
content_at index document = record {
  stored = map (λ value. record { field = name_of index.fields value.field; tokenized = value.tokenized; value = value.value })
      (slice_index_or index.stored document []);
  terms = map (term_of index.fields) (filter (λ term. list_any (λ entry. document == entry.document) term.entries) index.terms);
  occurrences = λ term. occurrences_at document (entries_in index term);
  norm = λ name. option_map (λ bytes. slice_index bytes document) (slice_index_or index.norms (field_number name index.fields) None);
  vectors = map (λ vector. record { field = name_of index.fields vector.field; bits = vector.bits; terms = vector.terms })
      (slice_index_or index.vectors document []);
}

-- whether the document is deleted
abbrev pub is_deleted : List ℕ → ℕ → Bool
is_deleted deleted document = list_any (λ d. document == d) deleted

-- which of so many documents from a number on are not deleted
abbrev pub live_from : List ℕ → ℕ → ℕ → List ℕ
live_from deleted from count = filter (λ document. not (is_deleted deleted document)) (range_with_len from count)

-- the documents of an index that are not deleted, in order
abbrev pub live : Index → List ℕ
live index = live_from index.deleted 0 index.size

-- what they hold
abbrev pub live_contents : Index → List Content
live_contents index = map (content_at index) (live index)

-- the joined tables of indexes
abbrev pub joined_table : List Index → List TableField
joined_table indexes = join_all (map (λ index. index.fields) indexes)

-- the merge: under the joined tables the documents of all indexes that are not deleted, in order
abbrev pub merge_of : List Index → Index
merge_of indexes = index_of (joined_table indexes) (flat_map live_contents indexes)

-- the index with the documents of a term deleted besides those that were
abbrev pub without_term : Term → Index → Index
without_term term index = record index {
  deleted = filter (λ d. is_deleted index.deleted d || is_some (occurrences_at d (entries_in index term))) (range_with_len 0 index.size);
}

-- where a cursor goes: to the first entry from the document `next` on that is not below the target and not deleted
abbrev pub after : List IndexedEntry → List ℕ → ℕ → ℕ → Option IndexedEntry
after entries deleted next target =
    find (λ entry. nat_le next entry.document && nat_le target entry.document && not (is_deleted deleted entry.document)) entries

-- the items whose places are not those of deleted documents
abbrev pub left_of : {X : Type 0} → List ℕ → List X → List X
left_of deleted items = map (λ numbered. numbered.1) (filter (λ numbered. not (is_deleted deleted numbered.0)) (enumerate_from 0 items))

-- the entries of documents that are not deleted, numbered among those of their index from a number on
abbrev pub renumbered : ℕ → ℕ → List ℕ → List IndexedEntry → List IndexedEntry
renumbered bits base deleted entries =
    map (λ entry. record { document = base + length (live_from deleted 0 entry.document); occurrences = kept bits entry.occurrences })
    (filter (λ entry. not (is_deleted deleted entry.document)) entries)

-- the entries of a term from each index in turn, in a field with these bits
abbrev pub merged_entries : ℕ → Term → ℕ → List Index → List IndexedEntry
merged_entries bits term base [] = []
merged_entries bits term base (index ∷ indexes) =
    renumbered bits base index.deleted (entries_in index term) ++ merged_entries bits term (base + length (live index)) indexes

-- a term of a merge, its entries by sources
abbrev pub merged_term : List Index → Term → IndexedTerm
merged_term indexes term = let table = joined_table indexes in record {
  field = field_number term.field table;
  text = term.text;
  entries = merged_entries (bits_of term.field table) term 0 indexes;
}
