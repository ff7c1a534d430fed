-- The entries of a text in a column are those that the index of the documents has of the term.
use Rattle.std.proofs.Common.{◌≡◌, ◌≢◌, refl, ap, sym, ◌∙◌, subst, ℕ, suc, add-one, ◌+◌, ◌++◌, List, [], ◌∷◌, map, Bool, true, false, cond, Option, None, Some, All, arith}
use Rattle.std.specs.Prelude.{option_map}
use Rattle.std.specs.List.{find, flat_map, filter_map, enumerate_from, cons_option, AllByRecursion}
use Rattle.std.specs.Option.{option_to_list}
use Rattle.std.specs.Str.{bytes_eq}
use Rattle.std.specs.Cmp.Lexicographic.{bytes_decides}
use Rattle.std.proofs.lemmas.List.{append_assoc, append-nil}
use Rattle.lu_types.specs.DocFaults.{AreApart}
use Rattle.lu_types.specs.declared.document.Document.{Document}
use Rattle.lu_types.specs.declared.document.IndexedField.{IndexedField}
use Rattle.lu_types.specs.declared.document.Token.{Token}
use Rattle.lu_model.specs.Index.{Term, KeptOccurrences, omitted, IndexedEntry}
use Rattle.lu_types.specs.Bits as bit
use Rattle.lu_types.specs.Bits.{has_bit}
use Rattle.lu_types.specs.Tables.{TableField}
use Rattle.segment_files.specs.Postings.{KeptTerm, kept_term}
use Rattle.seg_writer.specs.Terms.{kept_in, term_in}
use Rattle.lu_model.specs.Contents.{Content, bits_of, content_of, field_number, given_if_any, indexed_term, tokens_for, tokens_with}
use Rattle.seg_writer.specs.declared.appearance.Appearance.{Appearance}
use Rattle.seg_writer.specs.Appearing.{Appeared, appeared, appeared_in, column_from, found_in, is_field_named, names_of_indexed, HasApartFields}
use Rattle.seg_writer.specs.Entries.{entry_if_any, entries_of_text}
use Rattle.seg_writer.proofs.ColumnLemmas.{not-true}

-- the entries of a text in a column as contracts see it
abbrev entries_seen : Bool → List ℕ → List Appeared → List IndexedEntry
entries_seen omit text [] = []
entries_seen omit text (a ∷ rest) = entry_if_any omit a.document (tokens_with text a.field.tokens) ++ entries_seen omit text rest

seen-column : (omit : Bool) (text : List ℕ) (column : List Appearance) → entries_of_text omit text column ≡ entries_seen omit text (map appeared column)
seen-column omit text [] = refl
seen-column omit text (a ∷ column) = ap (λ w. entry_if_any omit a.doc (tokens_with text a.field.now.tokens) ++ w) (seen-column omit text column)

seen-append : (omit : Bool) (text : List ℕ) (xs ys : List Appeared) → entries_seen omit text (xs ++ ys) ≡ entries_seen omit text xs ++ entries_seen omit text ys
seen-append omit text [] ys = refl
seen-append omit text (a ∷ xs) ys =
    let own = entry_if_any omit a.document (tokens_with text a.field.tokens) in
    ap (λ w. own ++ w) (seen-append omit text xs ys) ∙ sym (append_assoc own (entries_seen omit text xs) (entries_seen omit text ys))

-- the tokens of a term in the field that was found, or none
abbrev found_tokens : Term → Option IndexedField → List Token
found_tokens term None = []
found_tokens term (Some field) = tokens_with term.text field.tokens

no-tokens : (term : Term) (fields : List IndexedField) → AllByRecursion (λ other. term.field ≢ other) (names_of_indexed fields) → flat_map (tokens_for term) fields ≡ []
no-tokens term [] apart = refl
no-tokens term (f ∷ fields) apart =
    ap (λ b. cond b (tokens_with term.text f.tokens) [] ++ flat_map (tokens_for term) fields) (not-true (bytes_eq term.field f.field) (λ named. apart.0 ((bytes_decides term.field f.field).0 named)))
    ∙ no-tokens term fields apart.1

-- the tokens of a term in a document are those of the one field with its name
tokens-found : (term : Term) (fields : List IndexedField) → AreApart (names_of_indexed fields) → flat_map (tokens_for term) fields ≡ found_tokens term (find (is_field_named term.field) fields)
tokens-found term [] apart = refl
tokens-found term (f ∷ fields) apart = elim (bytes_eq term.field f.field) as (λ b. bytes_eq term.field f.field ≡ b → cond b (tokens_with term.text f.tokens) [] ++ flat_map (tokens_for term) fields ≡ found_tokens term (cond b (Some f) (find (is_field_named term.field) fields))) [
  | true ↦ λ named.
      ap (λ w. tokens_with term.text f.tokens ++ w) (no-tokens term fields (subst (λ name. AllByRecursion (λ other. name ≢ other) (names_of_indexed fields)) (sym ((bytes_decides term.field f.field).0 named)) apart.0))
      ∙ append-nil (tokens_with term.text f.tokens)
  | false ↦ λ other. tokens-found term fields apart.1
] refl

-- the entry of a document with these tokens of the term
abbrev entry_of_tokens : Bool → ℕ → List Token → Option IndexedEntry
entry_of_tokens omit document tokens = option_map (λ (o : KeptOccurrences). (record { document = document; occurrences = cond omit omitted o })) (given_if_any tokens)

entry-tokens : (omit : Bool) (document : ℕ) (tokens : List Token) → entry_if_any omit document tokens ≡ option_to_list (entry_of_tokens omit document tokens)
entry-tokens omit document [] = refl
entry-tokens omit document (t ∷ ts) = refl

entry-found : (omit : Bool) (term : Term) (document : ℕ) (found : Option IndexedField) → entries_seen omit term.text (option_to_list (option_map (appeared_in document) found)) ≡ option_to_list (entry_of_tokens omit document (found_tokens term found))
entry-found omit term document None = refl
entry-found omit term document (Some field) = append-nil (entry_if_any omit document (tokens_with term.text field.tokens)) ∙ entry-tokens omit document (tokens_with term.text field.tokens)

-- the entry that an index has of a document
abbrev pub model_entry : Bool → Term → ℕ × Content → Option IndexedEntry
model_entry omit term numbered = option_map (λ (o : KeptOccurrences). (record { document = numbered.0; occurrences = cond omit omitted o })) (numbered.1.occurrences term)

cons-option : {X : Type 0} (o : Option X) (xs : List X) → option_to_list o ++ xs ≡ cons_option o xs
cons-option None xs = refl
cons-option (Some x) xs = refl

seen-model : (omit : Bool) (term : Term) (n : ℕ) (docs : List Document) → All HasApartFields docs → entries_seen omit term.text (column_from term.field n docs) ≡ filter_map (model_entry omit term) (enumerate_from n (map content_of docs))
seen-model omit term n [] apart = refl
seen-model omit term n (doc ∷ docs) apart =
    let own : HasApartFields doc = apart 0 doc (omega arith) in
    let rest = filter_map (model_entry omit term) (enumerate_from (n + 1) (map content_of docs)) in
    seen-append omit term.text (found_in term.field n doc.indexed) (column_from term.field (suc n) docs)
    ∙ ap (λ w. w ++ entries_seen omit term.text (column_from term.field (suc n) docs)) (entry-found omit term n (find (is_field_named term.field) doc.indexed) ∙ ap (λ ts. option_to_list (entry_of_tokens omit n ts)) (sym (tokens-found term doc.indexed own)))
    ∙ ap (λ w. option_to_list (model_entry omit term (n, content_of doc)) ++ w) (seen-model omit term (suc n) docs (λ k d lt. apart (suc k) d (omega (arith, lt))) ∙ ap (λ k. filter_map (model_entry omit term) (enumerate_from k (map content_of docs))) (sym (add-one n)))
    ∙ cons-option (model_entry omit term (n, content_of doc)) rest

pub entries-model : (omit : Bool) (term : Term) (docs : List Document) (column : List Appearance) → All HasApartFields docs → map appeared column ≡ column_from term.field 0 docs → entries_of_text omit term.text column ≡ filter_map (model_entry omit term) (enumerate_from 0 (map content_of docs))
entries-model omit term docs column apart is = seen-column omit term.text column ∙ ap (entries_seen omit term.text) is ∙ seen-model omit term 0 docs apart

-- a term with what its field keeps, by its entries
abbrev with_entries : List TableField → List ℕ → List ℕ → List IndexedEntry → KeptTerm
with_entries table name text entries = record {
  omit = has_bit bit.omit_tf (bits_of name table);
  payloads = has_bit bit.payloads (bits_of name table);
  term = record { field = field_number name table; text = text; entries = entries };
}

pub term-model : (table : List TableField) (name text : List ℕ) (docs : List Document) (column : List Appearance) → All HasApartFields docs → map appeared column ≡ column_from name 0 docs
    → term_in (kept_in table name) column text ≡ kept_term (bits_of name table) (indexed_term table (map content_of docs) (record { field = name; text = text }))
term-model table name text docs column apart is =
    ap (with_entries table name text) (entries-model (has_bit bit.omit_tf (bits_of name table)) (record { field = name; text = text }) docs column apart is)
