-- The terms of all columns, field by field in the order of their names, are the terms of the documents in their order.
use Rattle.std.proofs.Common.{◌≡◌, ◌≢◌, refl, ap, sym, ◌∙◌, subst, ℕ, suc, ◌++◌, List, [], ◌∷◌, map, cond, Option, None, Some, All, IsUtf8, inl, inr, arith}
use Rattle.std.specs.Prelude.{option_map}
use Rattle.std.specs.List.{find, flat_map, AllByRecursion}
use Rattle.std.specs.List.Sorted.{IsStrictlySortedBy}
use Rattle.std.specs.Option.{option_to_list}
use Rattle.std.specs.Ordering.{ordering_reverse, ordering_then}
use Rattle.std.specs.declared.cmp.Ordering.{Ordering}
use Rattle.std.specs.declared.cmp.Ordering.TheVariants.{Less, Equal, Greater}
use Rattle.std.specs.Cmp.Lexicographic.{bytes_decides}
use Rattle.lu_prims.specs.Order.{text_cmp}
use Rattle.lu_prims.proofs.Units.{level_same, text_order}
use Rattle.lu_types.specs.DocFaults.{AreApart}
use Rattle.lu_types.specs.Documents.{IsDocument}
use Rattle.lu_types.specs.declared.document.Document.{Document}
use Rattle.lu_types.specs.declared.document.IndexedField.{IndexedField}
use Rattle.lu_types.specs.declared.document.Token.{Token}
use Rattle.lu_model.specs.Index.{Term, term_cmp, in_order}
use Rattle.lu_model.specs.Contents.{Content, content_of}
use Rattle.lu_model.proofs.Words.{IsIn, IsTerm}
use Rattle.lu_model.proofs.Among.{in_left, in_right, in_either, in_map, from_map, in_flat_map, from_flat_map, in-from_contains, contains-from_in}
use Rattle.lu_model.proofs.Alike.{term_order, terms_level}
use Rattle.lu_model.proofs.Held.{StandsIn, stands_in, in_terms}
use Rattle.lu_model.proofs.Ordered.{rises-in_order, from_in_order, in_in_order, least, only_in_order}
use Rattle.lu_model.proofs.Each.{all_at}
use Rattle.lu_model.proofs.Merges.{terms_are_texts}
use Rattle.lu_model.proofs.Tables.{find_in}
use Rattle.seg_writer.specs.declared.appearance.Appearance.{Appearance}
use Rattle.seg_writer.specs.Appearing.{Appeared, appeared, appeared_in, column_from, found_in, is_field_named, names_of_indexed, HasApartFields}
use Rattle.seg_writer.specs.Columns.{tokens_in_field}
use Rattle.seg_writer.specs.Texts.{column_texts, texts_of}
use Rattle.seg_writer.specs.Orders.{NamedColumn, terms_of_column, terms_of_columns, AreAllColumns}
use Rattle.seg_writer.proofs.ColumnLemmas.{not-true}

-- ---- they rise

self-equal : (s : List ℕ) → text_cmp s s ≡ Equal
self-equal s = by-order (text_cmp s s) refl
  where
    by-order : (o : Ordering) → text_cmp s s ≡ o → text_cmp s s ≡ Equal
    by-order Less e = let never : Less ≡ Greater = sym e ∙ text_order.antisymm s s ∙ ap ordering_reverse e in cc
    by-order Equal e = e
    by-order Greater e = let never : Greater ≡ Less = sym e ∙ text_order.antisymm s s ∙ ap ordering_reverse e in cc

all-in : (P : Term → Type 0) (ys : List Term) → ((y : Term) → IsIn y ys → P y) → AllByRecursion P ys
all-in P [] each = tt
all-in P (y ∷ ys) each = (each y (inl refl), all-in P ys (λ z h. each z (inr h)))

all-append : (P : Term → Type 0) (xs ys : List Term) → AllByRecursion P xs → ((y : Term) → IsIn y ys → P y) → AllByRecursion P (xs ++ ys)
all-append P [] ys h each = all-in P ys each
all-append P (x ∷ xs) ys h each = (h.0, all-append P xs ys h.1 each)

rises-append : (xs ys : List Term) → IsStrictlySortedBy term_cmp xs → IsStrictlySortedBy term_cmp ys → ((x : Term) → IsIn x xs → (y : Term) → IsIn y ys → term_cmp x y ≡ Less) → IsStrictlySortedBy term_cmp (xs ++ ys)
unfolding IsStrictlySortedBy
rises-append [] ys h k below = k
rises-append (x ∷ xs) ys h k below =
    (all-append (λ z. term_cmp x z ≡ Less) xs ys h.0 (below x (inl refl)), rises-append xs ys h.1 k (λ w p. below w (inr p)))

-- the term of a text in the field with a name
abbrev term_with : List ℕ → List ℕ → Term
term_with name text = record { field = name; text = text }

below-named : (name text : List ℕ) (texts : List (List ℕ)) → AllByRecursion (λ w. text_cmp text w ≡ Less) texts → AllByRecursion (λ z. term_cmp (term_with name text) z ≡ Less) (map (term_with name) texts)
below-named name text [] h = tt
below-named name text (t ∷ texts) h = (ap (λ o. ordering_then o (text_cmp text t)) (self-equal name) ∙ h.0, below-named name text texts h.1)

rises-named : (name : List ℕ) (texts : List (List ℕ)) → IsStrictlySortedBy text_cmp texts → IsStrictlySortedBy term_cmp (map (term_with name) texts)
unfolding IsStrictlySortedBy
rises-named name [] h = tt
rises-named name (t ∷ texts) h = (below-named name t texts h.0, rises-named name texts h.1)

field-named : (c : NamedColumn) (t : Term) → IsIn t (terms_of_column c) → t.field ≡ c.name
field-named c t h = let r = from_map (term_with c.name) t (texts_of c.column) h in ap (λ (w : Term). w.field) r.2

rises-all : (columns : List NamedColumn) → IsStrictlySortedBy text_cmp (map (λ (c : NamedColumn). c.name) columns) → IsStrictlySortedBy term_cmp (terms_of_columns columns)
unfolding IsStrictlySortedBy
rises-all [] h = tt
rises-all (c ∷ columns) h =
    rises-append (terms_of_column c) (terms_of_columns columns) (rises-named c.name (texts_of c.column) (rises-in_order text_cmp text_order (column_texts c.column))) (rises-all columns h.1)
    (λ x p y q.
    let d = from_flat_map terms_of_column y columns q in
    let low : text_cmp c.name d.0.name ≡ Less = least text_cmp text_order c.name d.0.name (map (λ (e : NamedColumn). e.name) columns) h.0 (in_map (λ (e : NamedColumn). e.name) d.0 columns d.1) in
    ap (λ n. ordering_then (text_cmp n y.field) (text_cmp x.text y.text)) (field-named c x p) ∙ ap (λ n. ordering_then (text_cmp c.name n) (text_cmp x.text y.text)) (field-named d.0 y d.2) ∙ ap (λ o. ordering_then o (text_cmp x.text y.text)) low)

-- ---- where a name appears

-- the document and the field of an appearance
pub record Origin (name : List ℕ) (docs : List Document) (field : IndexedField) : Type 0 where
  pub doc : Document
  pub inside : IsIn doc docs
  pub own : IsIn field doc.indexed
  pub named : name ≡ field.field

found-origin : (name : List ℕ) (n : ℕ) (doc : Document) (s : Appeared) (found : Option IndexedField) → find (is_field_named name) doc.indexed ≡ found → IsIn s (option_to_list (option_map (appeared_in n) found)) → IsIn s.field doc.indexed × (name ≡ s.field.field)
found-origin name n doc s None is h = absurd h
found-origin name n doc s (Some f) is (inl same) =
    let r = find_in (is_field_named name) f doc.indexed is in
    let field : s.field ≡ f = ap (λ (a : Appeared). a.field) same in
    (subst (λ g. IsIn g doc.indexed) (sym field) r.0, (bytes_decides name f.field).0 r.1 ∙ ap (λ (g : IndexedField). g.field) (sym field))
found-origin name n doc s (Some f) is (inr h) = absurd h

origin : (name : List ℕ) (n : ℕ) (docs : List Document) (s : Appeared) → IsIn s (column_from name n docs) → Origin name docs s.field
origin name n [] s h = absurd h
origin name n (doc ∷ docs) s h = elim (in_either s (found_in name n doc.indexed) (column_from name (suc n) docs) h) [
  | inl here ↦ (let r = found-origin name n doc s (find (is_field_named name) doc.indexed) refl here in record { doc = doc; inside = inl refl; own = r.0; named = r.1 })
  | inr there ↦ (let r = origin name (suc n) docs s there in record { doc = r.doc; inside = inr r.inside; own = r.own; named = r.named })
]

-- a field is the one that is found by its name
unnamed : (name : List ℕ) (fields : List IndexedField) (field : IndexedField) → AllByRecursion (λ other. name ≢ other) (names_of_indexed fields) → IsIn field fields → name ≡ field.field → ⊥
unnamed name [] field apart h is = h
unnamed name (f ∷ fields) field apart (inl same) is = apart.0 (is ∙ ap (λ (g : IndexedField). g.field) same)
unnamed name (f ∷ fields) field apart (inr h) is = unnamed name fields field apart.1 h is

finds-field : (name : List ℕ) (fields : List IndexedField) (field : IndexedField) → AreApart (names_of_indexed fields) → IsIn field fields → name ≡ field.field → find (is_field_named name) fields ≡ Some field
finds-field name [] field apart h is = absurd h
finds-field name (f ∷ fields) field apart (inl same) is =
    ap (λ b. cond b (Some f) (find (is_field_named name) fields)) ((bytes_decides name f.field).1 (is ∙ ap (λ (g : IndexedField). g.field) same)) ∙ ap Some (sym same)
finds-field name (f ∷ fields) field apart (inr h) is =
    ap (λ b. cond b (Some f) (find (is_field_named name) fields)) (not-true (is_field_named name f) (λ named. unnamed f.field fields field apart.0 h (sym ((bytes_decides name f.field).0 named) ∙ is)))
    ∙ finds-field name fields field apart.1 h is

-- it appears in the column of its name
appears : (name : List ℕ) (n : ℕ) (docs : List Document) (doc : Document) (field : IndexedField) → All HasApartFields docs → IsIn doc docs → IsIn field doc.indexed → name ≡ field.field → (s : Appeared) × IsIn s (column_from name n docs) × (s.field ≡ field)
appears name n [] doc field apart h own is = absurd h
appears name n (d ∷ docs) doc field apart (inl same) own is =
    let found = finds-field name d.indexed field (apart 0 d (omega arith)) (subst (λ (x : Document). IsIn field x.indexed) same own) is in
    (appeared_in n field, in_left (appeared_in n field) (found_in name n d.indexed) (column_from name (suc n) docs) (subst (λ o. IsIn (appeared_in n field) (option_to_list (option_map (appeared_in n) o))) (sym found) (inl refl)), refl)
appears name n (d ∷ docs) doc field apart (inr h) own is =
    let r = appears name (suc n) docs doc field (λ k e lt. apart (suc k) e (omega (arith, lt))) h own is in
    (r.0, in_right r.0 (found_in name n d.indexed) (column_from name (suc n) docs) r.1, r.2)

-- ---- the same terms

abbrev doc_terms : List Document → List Term
doc_terms docs = flat_map (λ (content : Content). content.terms) (map content_of docs)

from-column : (docs : List Document) (name : List ℕ) (column : List Appearance) (text : List ℕ) → map appeared column ≡ column_from name 0 docs → IsIn text (column_texts column) → IsIn (term_with name text) (doc_terms docs)
from-column docs name column text is h =
    let a = from_flat_map (λ (x : Appearance). map (λ (t : Token). t.text) (tokens_in_field x)) text column h in
    let token = from_map (λ (t : Token). t.text) text (tokens_in_field a.0) a.2 in
    let o = origin name 0 docs (appeared a.0) (subst (IsIn (appeared a.0)) is (in_map appeared a.0 column a.1)) in
    in_flat_map (λ (content : Content). content.terms) (content_of o.doc) (term_with name text) (map content_of docs) (in_map content_of o.doc docs o.inside)
    (in_terms o.doc (term_with name text) (record { field = a.0.field.now; token = token.0; inside = o.own; in_tokens = token.1; name = o.named; text = token.2 }))

to-column : (docs : List Document) (c : NamedColumn) (t : Term) (doc : Document) (s : StandsIn doc t) → All HasApartFields docs → map appeared c.column ≡ column_from c.name 0 docs → IsIn doc docs → c.name ≡ s.field.field → IsIn t.text (column_texts c.column)
to-column docs c t doc s apart is inside named =
    let r = appears c.name 0 docs doc s.field apart inside s.inside named in
    let a = from_map appeared r.0 c.column (subst (IsIn r.0) (sym is) r.1) in
    let field : s.field ≡ a.0.field.now = sym r.2 ∙ ap (λ (x : Appeared). x.field) a.2 in
    let token : IsIn s.token (tokens_in_field a.0) = subst (λ (f : IndexedField). IsIn s.token f.tokens) field s.in_tokens in
    in_flat_map (λ (x : Appearance). map (λ (y : Token). y.text) (tokens_in_field x)) a.0 t.text c.column a.1
    (subst (λ w. IsIn w (map (λ (y : Token). y.text) (tokens_in_field a.0))) (sym s.text) (in_map (λ (y : Token). y.text) s.token (tokens_in_field a.0) token))

-- the terms of the columns are those of the documents
pub columns-in_order : (docs : List Document) (columns : List NamedColumn) → All HasApartFields docs → ((t : Term) → IsIn t (doc_terms docs) → IsTerm t) → AreAllColumns docs columns → terms_of_columns columns ≡ in_order term_cmp (doc_terms docs)
columns-in_order docs columns apart made h =
    only_in_order term_cmp term_order (doc_terms docs) (terms_of_columns columns) (λ x y p q. terms_level x y (made x p) (made y q)) (rises-all columns h.rise)
    (record {
      to = λ t k.
          let c = from_flat_map terms_of_column t columns k in
          let text = from_map (term_with c.0.name) t (texts_of c.0.column) c.2 in
          subst (λ w. IsIn w (doc_terms docs)) (sym text.2)
          (from-column docs c.0.name c.0.column text.0 (h.each c.0 (contains-from_in c.0 columns c.1)) (from_in_order text_cmp text_order text.0 (column_texts c.0.column) text.1));
      from = λ t k.
          let content = from_flat_map (λ (x : Content). x.terms) t (map content_of docs) k in
          let doc = from_map content_of content.0 docs content.1 in
          let s = stands_in doc.0 t (subst (λ (w : Content). IsIn t w.terms) doc.2 content.2) in
          let name = in-from_contains s.field.field (map (λ (c : NamedColumn). c.name) columns) (h.all doc.0 s.field (contains-from_in doc.0 docs doc.1) (contains-from_in s.field doc.0.indexed s.inside)) in
          let c = from_map (λ (x : NamedColumn). x.name) s.field.field columns name in
          let each = h.each c.0 (contains-from_in c.0 columns c.1) in
          let text = to-column docs c.0 t doc.0 s apart each doc.1 (sym c.2) in
          let utf8 : (w : List ℕ) → IsIn w (column_texts c.0.column) → IsUtf8 w = λ w p. (made (term_with c.0.name w) (from-column docs c.0.name c.0.column w each p)).text in
          let listed : IsIn t.text (texts_of c.0.column) = in_in_order text_cmp text_order t.text (column_texts c.0.column) (λ x y p q e. level_same x y (utf8 x p) (utf8 y q) e) text in
          let same : t ≡ term_with c.0.name t.text = ap (λ n. term_with n t.text) (s.name ∙ c.2) in
          in_flat_map terms_of_column c.0 t columns c.1 (subst (λ w. IsIn w (terms_of_column c.0)) (sym same) (in_map (term_with c.0.name) t.text (texts_of c.0.column) listed));
    })

pub documents-in_order : (docs : List Document) (columns : List NamedColumn) → All HasApartFields docs → All IsDocument docs → AreAllColumns docs columns → terms_of_columns columns ≡ in_order term_cmp (doc_terms docs)
documents-in_order docs columns apart made h = columns-in_order docs columns apart (λ t k.
    let content = from_flat_map (λ (x : Content). x.terms) t (map content_of docs) k in
    let doc = from_map content_of content.0 docs content.1 in
    terms_are_texts doc.0 (all_at IsDocument doc.0 docs made doc.1) t (subst (λ (w : Content). IsIn t w.terms) doc.2 content.2)) h
