-- The terms that are written of all columns, field by field in the order of names, are those of the index of the documents.
use Rattle.std.proofs.Common.{◌≡◌, refl, ap, sym, ◌∙◌, ℕ, zero, suc, ◌++◌, List, [], ◌∷◌, map, inl, inr, All}
use Rattle.std.specs.List.{flat_map}
use Rattle.std.specs.Prelude.{slice_index_or}
use Rattle.std.proofs.lemmas.List.{map-append}
use Rattle.lu_types.specs.Documents.{IsDocument}
use Rattle.lu_types.specs.Tables.{TableField, bits_at}
use Rattle.lu_types.specs.declared.document.Document.{Document}
use Rattle.lu_model.specs.Index.{Term, term_cmp, in_order}
use Rattle.lu_model.specs.Contents.{Content, content_of, field_number, index_of, indexed_term, under}
use Rattle.lu_model.proofs.Words.{IsIn}
use Rattle.lu_model.proofs.Among.{contains-from_in}
use Rattle.segment_files.specs.Postings.{KeptTerm, kept_term, kept_terms}
use Rattle.seg_writer.specs.declared.appearance.Appearance.{Appearance}
use Rattle.seg_writer.specs.Appearing.{appeared, column_from, HasApartFields}
use Rattle.seg_writer.specs.Terms.{kept_in, term_in, terms_in_columns}
use Rattle.seg_writer.specs.Texts.{texts_of}
use Rattle.seg_writer.specs.Orders.{NamedColumn, terms_of_column, terms_of_columns, written_terms, AreAllColumns}
use Rattle.seg_writer.proofs.EntryLemmas.{term-model}
use Rattle.seg_writer.proofs.OrderLemmas.{documents-in_order}

bits-at : (table : List TableField) (n : ℕ) → bits_at table n ≡ (slice_index_or table n (record { name = []; bits = 0 })).bits
bits-at [] n = refl
bits-at (f ∷ table) zero = refl
bits-at (f ∷ table) (suc n) = bits-at table n

-- a term of the documents, with what its field keeps
abbrev kept_of : List TableField → List Document → Term → KeptTerm
kept_of table docs term = kept_term (bits_at table (field_number term.field table)) (indexed_term table (map content_of docs) term)

-- the term of a text in the field with a name
abbrev term_with : List ℕ → List ℕ → Term
term_with name text = record { field = name; text = text }

same-term : (table : List TableField) (docs : List Document) (name text : List ℕ) (column : List Appearance) → All HasApartFields docs → map appeared column ≡ column_from name 0 docs → term_in (kept_in table name) column text ≡ kept_of table docs (term_with name text)
same-term table docs name text column apart is =
    term-model table name text docs column apart is ∙ ap (λ bits. kept_term bits (indexed_term table (map content_of docs) (term_with name text))) (sym (bits-at table (field_number name table)))

same-terms : (table : List TableField) (docs : List Document) (name : List ℕ) (column : List Appearance) (texts : List (List ℕ)) → All HasApartFields docs → map appeared column ≡ column_from name 0 docs → terms_in_columns (kept_in table name) column texts ≡ map (kept_of table docs) (map (term_with name) texts)
same-terms table docs name column [] apart is = refl
same-terms table docs name column (t ∷ texts) apart is =
    ap (λ x. x ∷ terms_in_columns (kept_in table name) column texts) (same-term table docs name t column apart is)
    ∙ ap (λ w. kept_of table docs (term_with name t) ∷ w) (same-terms table docs name column texts apart is)

same-columns : (table : List TableField) (docs : List Document) (columns : List NamedColumn) → All HasApartFields docs → ((c : NamedColumn) → IsIn c columns → map appeared c.column ≡ column_from c.name 0 docs) → written_terms table columns ≡ map (kept_of table docs) (terms_of_columns columns)
same-columns table docs [] apart each = refl
same-columns table docs (c ∷ columns) apart each =
    ap (λ w. w ++ written_terms table columns) (same-terms table docs c.name c.column (texts_of c.column) apart (each c (inl refl)))
    ∙ ap (λ w. map (kept_of table docs) (terms_of_column c) ++ w) (same-columns table docs columns apart (λ d h. each d (inr h)))
    ∙ sym (map-append (kept_of table docs) (terms_of_column c) (terms_of_columns columns))

map-map : (table : List TableField) (docs : List Document) (terms : List Term) → map (kept_of table docs) terms ≡ kept_terms table (map (indexed_term table (map content_of docs)) terms)
map-map table docs [] = refl
map-map table docs (t ∷ terms) = ap (λ w. kept_of table docs t ∷ w) (map-map table docs terms)

pub canonical-terms : (table : List TableField) (docs : List Document) (columns : List NamedColumn) → All HasApartFields docs → All IsDocument docs → AreAllColumns docs columns → written_terms table columns ≡ kept_terms table (under table docs).terms
unfolding index_of
canonical-terms table docs columns apart made h =
    same-columns table docs columns apart (λ c k. h.each c (contains-from_in c columns k))
    ∙ ap (map (kept_of table docs)) (documents-in_order docs columns apart made h)
    ∙ map-map table docs (in_order term_cmp (flat_map (λ (content : Content). content.terms) (map content_of docs)))
