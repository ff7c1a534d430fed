-- The norms of a column, one field more.
use Rattle.std.proofs.Common.{◌≡◌, refl, ap, sym, ◌∙◌, ℕ, zero, suc, add-one, ◌+◌, ◌-◌, ◌<◌, ◌≤◌, ◌++◌, List, [], ◌∷◌, length, map, take, drop, get_or, Option, None, Some, arith}
use Rattle.std.specs.List.{find}
use Rattle.std.specs.Prelude.{unwrap_or, option_map}
use Rattle.std.specs.Option.{option_to_list}
use Rattle.std.proofs.lemmas.List.{append_assoc, append-nil, length-drop, map-append, drop-drop, drop_more, drop_all, take-append-drop}
use Rattle.std.proofs.Math.Seq.{take-add}
use Rattle.lu_types.specs.declared.document.Document.{Document}
use Rattle.lu_types.specs.declared.document.IndexedField.{IndexedField}
use Rattle.lu_model.specs.Contents.{missing_norm}
use Rattle.seg_writer.specs.declared.appearance.Appearance.{Appearance}
use Rattle.seg_writer.specs.Appearing.{Appeared, appeared, appeared_in, column_from, found_in, is_field_named}
use Rattle.seg_writer.specs.NormColumns.{found_norm, norms_of, missing_norms, IsColumnIn, IsSomeColumn, AreAdded}

missing-suc : (n : ℕ) → missing_norms n ++ missing_norm ∷ [] ≡ missing_norms (suc n)
missing-suc zero = refl
missing-suc (suc n) = ap (λ w. missing_norm ∷ w) (missing-suc n)

pub missing-more : (n : ℕ) → missing_norms n ++ missing_norm ∷ [] ≡ missing_norms (n + 1)
missing-more n = missing-suc n ∙ ap missing_norms (sym (add-one n))

-- the next field of a column is in the document that stands so many behind; those before lack it
pub record NextNorm (name : List ℕ) (n : ℕ) (docs : List Document) (first : Appeared) (rest : List Appeared) : Type 0 where
  pub skip : ℕ
  pub document : first.document ≡ n + skip
  pub inside : skip < length docs
  pub norms : norms_of name (take (suc skip) docs) ≡ missing_norms skip ++ unwrap_or first.field.norm missing_norm ∷ []
  pub left : rest ≡ column_from name (suc first.document) (drop (suc skip) docs)

abbrev head_of : Appeared → List Appeared → Appeared
head_of d [] = d
head_of d (a ∷ rest) = a

abbrev tail_of : List Appeared → List Appeared
tail_of [] = []
tail_of (a ∷ rest) = rest

next-doc : (name : List ℕ) (n : ℕ) (doc : Document) (docs : List Document) (first : Appeared) (rest : List Appeared) (found : Option IndexedField) → find (is_field_named name) doc.indexed ≡ found
    → (first ∷ rest ≡ column_from name (suc n) docs → NextNorm name (suc n) docs first rest) → first ∷ rest ≡ column_from name n (doc ∷ docs) → NextNorm name n (doc ∷ docs) first rest
next-doc name n doc docs first rest None found later is =
    let own : found_in name n doc.indexed ≡ [] = ap (λ o. option_to_list (option_map (appeared_in n) o)) found in
    let r = later (is ∙ ap (λ w. w ++ column_from name (suc n) docs) own) in
    let document = r.document in
    let inside = r.inside in
    record {
      skip = suc r.skip;
      document = omega (arith, document);
      inside = omega (arith, inside);
      norms = ap (λ o. found_norm o ∷ norms_of name (take (suc r.skip) docs)) found ∙ ap (λ w. missing_norm ∷ w) r.norms;
      left = r.left;
    }
next-doc name n doc docs first rest (Some field) found later is =
    let own : found_in name n doc.indexed ≡ appeared_in n field ∷ [] = ap (λ o. option_to_list (option_map (appeared_in n) o)) found in
    let all : first ∷ rest ≡ appeared_in n field ∷ column_from name (suc n) docs = is ∙ ap (λ w. w ++ column_from name (suc n) docs) own in
    let head : first ≡ appeared_in n field = ap (head_of first) all in
    record {
      skip = 0;
      document = ap (λ (a : Appeared). a.document) head ∙ (let e : n ≡ n + 0 = omega arith in e);
      inside = omega arith;
      norms = ap (λ o. found_norm o ∷ []) found ∙ ap (λ (a : Appeared). unwrap_or a.field.norm missing_norm ∷ []) (sym head);
      left = ap tail_of all ∙ ap (λ (a : Appeared). column_from name (suc a.document) docs) (sym head);
    }

pub next-norm : (name : List ℕ) (n : ℕ) (docs : List Document) (first : Appeared) (rest : List Appeared) → first ∷ rest ≡ column_from name n docs → NextNorm name n docs first rest
next-norm name n [] first rest is = absurd (let size = ap length is in omega (arith, size))
next-norm name n (doc ∷ docs) first rest is = next-doc name n doc docs first rest (find (is_field_named name) doc.indexed) refl (next-norm name (suc n) docs first rest) is

none-left : (name : List ℕ) (n : ℕ) (doc : Document) (docs : List Document) (found : Option IndexedField) → find (is_field_named name) doc.indexed ≡ found → column_from name n (doc ∷ docs) ≡ [] → (found_norm found ≡ missing_norm) × (column_from name (suc n) docs ≡ [])
none-left name n doc docs None found none = (refl, sym (ap (λ o. option_to_list (option_map (appeared_in n) o) ++ column_from name (suc n) docs) found) ∙ none)
none-left name n doc docs (Some field) found none = absurd (let size = ap length (sym (ap (λ o. option_to_list (option_map (appeared_in n) o) ++ column_from name (suc n) docs) found) ∙ none) in omega (arith, size))

-- documents that all lack the field
pub norms-missing : (name : List ℕ) (n : ℕ) (docs : List Document) → column_from name n docs ≡ [] → norms_of name docs ≡ missing_norms (length docs)
norms-missing name n [] none = refl
norms-missing name n (doc ∷ docs) none =
    let own = none-left name n doc docs (find (is_field_named name) doc.indexed) refl none in
    ap (λ k. k ∷ norms_of name docs) own.0 ∙ ap (λ w. missing_norm ∷ w) (norms-missing name (suc n) docs own.1)

pub added-next : (name : List ℕ) (docs : List Document) (column : List Appearance) (k : ℕ) (here : Appearance) (next norm : ℕ) (old now filled new : List ℕ) → k < length column → here ≡ get_or column k here → AreAdded name docs (drop k column) next old now
    → norm ≡ unwrap_or here.field.now.norm missing_norm → filled ≡ now ++ missing_norms (here.doc - next) → new ≡ filled ++ norm ∷ [] → AreAdded name docs (drop (k + 1) column) (here.doc + 1) old new
added-next name docs column k here next norm old now filled new lt is h own fills adds =
    let parts : appeared here ∷ map appeared (drop (k + 1) column) ≡ column_from name next (drop next docs) = sym (ap (map appeared) (drop_more column k here lt ∙ ap (λ a. a ∷ drop (k + 1) column) (sym is))) ∙ h.left in
    let r = next-norm name next (drop next docs) (appeared here) (map appeared (drop (k + 1) column)) parts in
    let at = r.document in
    let inside = r.inside in
    let size = length-drop next docs in
    let low = h.low in
    let gap : here.doc - next ≡ r.skip = omega (arith, at) in
    let after : here.doc + 1 ≡ next + suc r.skip = omega (arith, at) in
    record {
      low = omega (arith, at, inside, size, low);
      left = r.left ∙ ap (column_from name (suc here.doc)) (drop-drop (suc r.skip) next docs ∙ ap (λ m. drop m docs) (sym after)) ∙ ap (λ m. column_from name m (drop (here.doc + 1) docs)) (sym (add-one here.doc));
      added = adds ∙ ap (λ w. w ++ norm ∷ []) (fills ∙ ap (λ m. now ++ missing_norms m) gap) ∙ append_assoc now (missing_norms r.skip) (norm ∷ [])
          ∙ ap (λ m. now ++ (missing_norms r.skip ++ m ∷ [])) own ∙ ap (λ w. now ++ w) (sym r.norms) ∙ ap (λ w. w ++ norms_of name (take (suc r.skip) (drop next docs))) h.added
          ∙ append_assoc old (norms_of name (take next docs)) (norms_of name (take (suc r.skip) (drop next docs)))
          ∙ ap (λ w. old ++ w) (sym (map-append (λ (doc : Document). found_norm (find (is_field_named name) doc.indexed)) (take next docs) (take (suc r.skip) (drop next docs))) ∙ ap (norms_of name) (sym (take-add next (suc r.skip) docs) ∙ ap (λ m. take m docs) (sym after)));
    }

pub added-begun : (name : List ℕ) (docs : List Document) (column : List Appearance) (old : List ℕ) → map appeared column ≡ column_from name 0 docs → AreAdded name docs (drop 0 column) 0 old old
added-begun name docs column old is = record { low = omega arith; left = is; added = sym (append-nil old) }

pub added-end : (name : List ℕ) (docs : List Document) (column : List Appearance) (k next : ℕ) (old now new : List ℕ) → length column ≤ k → AreAdded name docs (drop k column) next old now → new ≡ now ++ missing_norms (length docs - next) → new ≡ old ++ norms_of name docs
added-end name docs column k next old now new le h fills =
    let none : column_from name next (drop next docs) ≡ [] = sym h.left ∙ ap (map appeared) (drop_all k column le) in
    let low = h.low in
    let rest : norms_of name (drop next docs) ≡ missing_norms (length docs - next) = norms-missing name next (drop next docs) none ∙ ap missing_norms (length-drop next docs) in
    let whole : take next docs ++ drop next docs ≡ docs = take-append-drop next docs in
    fills ∙ ap (λ w. w ++ missing_norms (length docs - next)) h.added ∙ append_assoc old (norms_of name (take next docs)) (missing_norms (length docs - next))
    ∙ ap (λ w. old ++ (norms_of name (take next docs) ++ w)) (sym rest)
    ∙ ap (λ w. old ++ w) (sym (map-append (λ (doc : Document). found_norm (find (is_field_named name) doc.indexed)) (take next docs) (drop next docs)) ∙ ap (norms_of name) whole)

-- the next field is in a document that was not passed
pub next-fits : (column : List Appearance) (documents k : ℕ) (here : Appearance) (next : ℕ) (old now : List ℕ) → IsSomeColumn column documents → k < length column → here ≡ get_or column k here
    → ((name : List ℕ) (docs : List Document) → IsColumnIn column documents name docs → AreAdded name docs (drop k column) next old now) → (next ≤ here.doc) × (here.doc < documents)
next-fits column documents k here next old now (name, docs, of) lt at all =
    let h = all name docs of in
    let size = of.1 in
    let parts : appeared here ∷ map appeared (drop (k + 1) column) ≡ column_from name next (drop next docs) = sym (ap (map appeared) (drop_more column k here lt ∙ ap (λ a. a ∷ drop (k + 1) column) (sym at))) ∙ h.left in
    let r = next-norm name next (drop next docs) (appeared here) (map appeared (drop (k + 1) column)) parts in
    let document = r.document in
    let inside = r.inside in
    let left = length-drop next docs in
    let low = h.low in
    (omega (arith, document), omega (arith, document, inside, left, low, size))
