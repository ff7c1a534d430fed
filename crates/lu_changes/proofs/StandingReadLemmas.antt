-- A line refers to each file that is read for it, and what is found of a file is what the folder has under its name.
use Rattle.std.proofs.Common.{◌≡◌, ℕ, zero, suc, Bool, true, false, cond, ◌||◌, List, [], ◌∷◌, ◌++◌, map, Option, Some, None, Contains, refl, sym, ap, subst, ◌∙◌, ◌⊎◌, inl, inr, arith}
use Rattle.std.specs.Prelude.{is_some}
use Rattle.std.specs.Option.{option_map}
use Rattle.std.specs.List.{list_any}
use Rattle.std.specs.Str.{bytes_eq}
use Rattle.std.proofs.lemmas.List.Elements.{Contains-append_left, Contains-append_right, Contains-append_cases}
use Rattle.std.proofs.lemmas.List.Folds.{list_any_at}
use Rattle.std.proofs.lemmas.Slice.Eq.{bytes_eq-Decides}
use Rattle.lu_dir.specs.Files.{Files, contents}
use Rattle.lu_dir.specs.Loading.{found_at}
use Rattle.lu_dir.proofs.Contents.{bytes_eq-same}
use Rattle.lu_types.specs.Kinds.{front_kinds, vector_kinds}
use Rattle.lu_types.specs.declared.kind.FileKind.{FileKind}
use Rattle.lu_types.specs.declared.kind.FileKind.TheVariants as kinds
use Rattle.lu_types.specs.declared.stored.SharedStore.{SharedStore}
use Rattle.segment_infos.specs.declared.infos.SegInfo.{SegInfo}
use Rattle.segment_infos.specs.declared.naming.LuceneName.{LuceneName}
use Rattle.segment_infos.specs.declared.naming.LuceneName.TheVariants.{Part}
use Rattle.segment_infos.specs.Referring.{document_kinds, index_kinds, names_of_parts, own_part_names, store_part_names, del_names, norm_names, line_names}
use Rattle.lu_folder.specs.Reading.{own_part, packed_store, document_part, holder, parts_read, read_names}
use Rattle.lu_folder.proofs.ListedLemmas.{Contains-filter_map}

pub none_is : {A : Type 0} (x : A) → None ≡ Some x → ⊥
none_is x e = cc

pub some_same : {A : Type 0} (x y : A) → Some x ≡ Some y → x ≡ y
some_same x y e = cc

-- ---- lists

-- what a list has, its image has the image of
pub Contains-map : {A B : Type 0} (f : A → B) (xs : List A) (x : A) → Contains xs x → Contains (map f xs) (f x)
Contains-map f [] x (k, within, is) = absurd (omega arith)
Contains-map f (y ∷ ys) x (zero, within, is) = (0, omega arith, ap f is)
Contains-map {A} {B} f (y ∷ ys) x (suc k, within, is) = later (Contains-map f ys x (k, omega arith, is))
  where
    later : Contains (map f ys) (f x) → Contains (f y ∷ map f ys) (f x)
    later (i, inside, at) = (suc i, omega arith, at)

-- what an image has is the image of one
pub map-Contains : {A B : Type 0} (f : A → B) (xs : List A) (y : B) → Contains (map f xs) y → (x : A) × Contains xs x × (f x ≡ y)
map-Contains f [] y (k, within, is) = absurd (omega arith)
map-Contains f (x ∷ xs) y (zero, within, is) = (x, (0, omega arith, refl), is)
map-Contains {A} {B} f (x ∷ xs) y (suc k, within, is) = later (map-Contains f xs y (k, omega arith, is))
  where
    later : (z : A) × Contains xs z × (f z ≡ y) → (z : A) × Contains (x ∷ xs) z × (f z ≡ y)
    later (z, (i, inside, at), same) = (z, (suc i, omega arith, at), same)

-- images by functions that agree on a list
pub map-same : {A B : Type 0} (f g : A → B) (xs : List A) → ((x : A) → Contains xs x → f x ≡ g x) → map f xs ≡ map g xs
map-same f g [] same = refl
map-same {A} {B} f g (x ∷ xs) same =
    ap (λ (y : B). y ∷ map f xs) (same x (0, omega arith, refl))
    ∙ ap (λ (ys : List B). g x ∷ ys) (map-same f g xs (λ y among. same y (Contains-append_right (x ∷ []) xs y among)))

-- ---- what is found

-- what is found beside a name is what the folder has under it, where it is one of the names
pub found_at-contents : (told : Files) (names : List (List ℕ)) (asked : List ℕ) → found_at names (map (contents told) names) asked ≡ cond (list_any (bytes_eq asked) names) (contents told asked) None
found_at-contents told [] asked = refl
found_at-contents told (name ∷ names) asked = by_test (bytes_eq asked name) refl (found_at-contents told names asked)
  where
    by_test : (b : Bool) → bytes_eq asked name ≡ b → found_at names (map (contents told) names) asked ≡ cond (list_any (bytes_eq asked) names) (contents told asked) None
        → cond b (contents told name) (found_at names (map (contents told) names) asked) ≡ cond (b || list_any (bytes_eq asked) names) (contents told asked) None
    by_test true is rest = ap (contents told) (sym ((bytes_eq-Decides asked name).0 is))
    by_test false is rest = rest

pub named-any : (names : List (List ℕ)) (name : List ℕ) → Contains names name → list_any (bytes_eq name) names ≡ true
named-any names name (k, within, is) = list_any_at (bytes_eq name) names k name within (ap (bytes_eq name) is ∙ bytes_eq-same name)

-- ---- what is read is referred to

parts-of : (number n : ℕ) (some : List FileKind) (kind : FileKind) → Some number ≡ Some n → Contains some kind → Contains (names_of_parts number some) (Part n kind)
parts-of number n some kind same among = subst (λ (m : ℕ). Contains (names_of_parts number some) (Part m kind)) (some_same number n same) (Contains-map (Part number) some kind among)

own-cfs : (number n : ℕ) (compound : Bool) (rest : List FileKind) → cond compound (Some number) None ≡ Some n → Contains (names_of_parts number (cond compound (kinds.Cfs ∷ []) rest)) (Part n kinds.Cfs)
own-cfs number n true rest is = parts-of number n (kinds.Cfs ∷ []) kinds.Cfs is (0, omega arith, refl)
own-cfs number n false rest is = absurd (none_is n is)

shared-cfx : (store : Option SharedStore) (n : ℕ) → packed_store store ≡ Some n → Contains (store_part_names store) (Part n kinds.Cfx)
shared-cfx None n is = absurd (none_is n is)
shared-cfx (Some store) n is = by_test store.compound is
  where
    by_test : (compound : Bool) → cond compound (Some store.number) None ≡ Some n → Contains (names_of_parts store.number (cond compound (kinds.Cfx ∷ []) document_kinds)) (Part n kinds.Cfx)
    by_test true one = parts-of store.number n (kinds.Cfx ∷ []) kinds.Cfx one (0, omega arith, refl)
    by_test false one = absurd (none_is n one)

-- files of their own, among others of the segment
own-parts : (number n : ℕ) (compound : Bool) (packed own : List FileKind) (kind : FileKind) → Contains own kind → cond compound None (Some number) ≡ Some n → Contains (names_of_parts number (cond compound packed own)) (Part n kind)
own-parts number n true packed own kind among is = absurd (none_is n is)
own-parts number n false packed own kind among is = parts-of number n own kind is among

own-index : (line : SegInfo) (kind : FileKind) (n : ℕ) → Contains index_kinds kind → own_part line ≡ Some n → Contains (own_part_names line ++ store_part_names line.store) (Part n kind)
own-index line kind n among is =
    let rest : List FileKind = cond (is_some line.store) [] document_kinds in
    Contains-append_left (own_part_names line) (store_part_names line.store) (Part n kind)
    (own-parts line.number n line.compound (kinds.Cfs ∷ []) (index_kinds ++ rest) kind (Contains-append_left index_kinds rest kind among) is)

own-documents : (number n : ℕ) (compound : Bool) (store : Option SharedStore) (kind : FileKind) → Contains document_kinds kind → document_part store (cond compound None (Some number)) ≡ Some n
    → Contains (names_of_parts number (cond compound (kinds.Cfs ∷ []) (index_kinds ++ cond (is_some store) [] document_kinds)) ++ store_part_names store) (Part n kind)
own-documents number n compound None kind among is =
    Contains-append_left (names_of_parts number (cond compound (kinds.Cfs ∷ []) (index_kinds ++ document_kinds))) [] (Part n kind)
    (own-parts number n compound (kinds.Cfs ∷ []) (index_kinds ++ document_kinds) kind (Contains-append_right index_kinds document_kinds kind among) is)
own-documents number n compound (Some store) kind among is =
    Contains-append_right (names_of_parts number (cond compound (kinds.Cfs ∷ []) (index_kinds ++ []))) (store_part_names (Some store)) (Part n kind)
    (own-parts store.number n store.compound (kinds.Cfx ∷ []) document_kinds kind among is)

with-prox : (prox : Bool) (found : Option ℕ) (n : ℕ) → cond prox found None ≡ Some n → found ≡ Some n
with-prox true found n is = is
with-prox false found n is = absurd (none_is n is)

-- the file of a kind that is read is one of the parts that the line refers to
part-referred : (line : SegInfo) (kind : FileKind) (n : ℕ) → holder line kind ≡ Some n → Contains (own_part_names line ++ store_part_names line.store) (Part n kind)
part-referred line kinds.Commit n is = absurd (none_is n is)
part-referred line kinds.Cfs n is = Contains-append_left (own_part_names line) (store_part_names line.store) (Part n kinds.Cfs) (own-cfs line.number n line.compound (index_kinds ++ cond (is_some line.store) [] document_kinds) is)
part-referred line kinds.Cfx n is = Contains-append_right (own_part_names line) (store_part_names line.store) (Part n kinds.Cfx) (shared-cfx line.store n is)
part-referred line kinds.Fnm n is = own-index line kinds.Fnm n (0, omega arith, refl) is
part-referred line kinds.Fdx n is = own-documents line.number n line.compound line.store kinds.Fdx (0, omega arith, refl) is
part-referred line kinds.Fdt n is = own-documents line.number n line.compound line.store kinds.Fdt (1, omega arith, refl) is
part-referred line kinds.Tis n is = own-index line kinds.Tis n (1, omega arith, refl) is
part-referred line kinds.Tii n is = own-index line kinds.Tii n (2, omega arith, refl) is
part-referred line kinds.Frq n is = own-index line kinds.Frq n (3, omega arith, refl) is
part-referred line kinds.Prx n is = own-index line kinds.Prx n (4, omega arith, refl) (with-prox line.has_prox (own_part line) n is)
part-referred line kinds.Nrm n is = own-index line kinds.Nrm n (5, omega arith, refl) is
part-referred line (kinds.Sep field) n is = absurd (none_is n is)
part-referred line kinds.Del n is = absurd (none_is n is)
part-referred line kinds.Tvx n is = own-documents line.number n line.compound line.store kinds.Tvx (2, omega arith, refl) is
part-referred line kinds.Tvd n is = own-documents line.number n line.compound line.store kinds.Tvd (3, omega arith, refl) is
part-referred line kinds.Tvf n is = own-documents line.number n line.compound line.store kinds.Tvf (4, omega arith, refl) is

module _ (line : SegInfo) (name : LuceneName) where
  abbrev own : List LuceneName
  own = own_part_names line

  abbrev store : List LuceneName
  store = store_part_names line.store

  abbrev dels : List LuceneName
  dels = del_names line.number line.del_gen

  abbrev norms : List LuceneName
  norms = norm_names line.number line.norm_gens

  parts-referred : (some : List FileKind) → Contains (parts_read line some) name → Contains (line_names line) name
  parts-referred some among =
      let (kind, there, is) : (kind : FileKind) × Contains some kind × (option_map (λ (number : ℕ). Part number kind) (holder line kind) ≡ Some name) = Contains-filter_map (λ (kind : FileKind). option_map (λ (number : ℕ). Part number kind) (holder line kind)) some name among in
      by_part (Contains-append_cases own store name (by_holder kind (holder line kind) refl is))
    where
      by_holder : (kind : FileKind) (found : Option ℕ) → holder line kind ≡ found → option_map (λ (number : ℕ). Part number kind) found ≡ Some name → Contains (own ++ store) name
      by_holder kind None held is = absurd (none_is name is)
      by_holder kind (Some n) held is = subst (λ (x : LuceneName). Contains (own ++ store) x) (some_same (Part n kind) name is) (part-referred line kind n held)

      by_part : Contains own name ⊎ Contains store name → Contains (own ++ (store ++ (dels ++ norms))) name
      by_part (inl here) = Contains-append_left own (store ++ (dels ++ norms)) name here
      by_part (inr here) = Contains-append_right own (store ++ (dels ++ norms)) name (Contains-append_left store (dels ++ norms) name here)

  behind-parts : Contains (dels ++ norms) name → Contains (own ++ (store ++ (dels ++ norms))) name
  behind-parts among = Contains-append_right own (store ++ (dels ++ norms)) name (Contains-append_right store (dels ++ norms) name among)

  -- each file that is read for a line is one that it refers to
  pub read-referred : Contains (read_names line) name → Contains (line_names line) name
  read-referred among = by_front (Contains-append_cases (parts_read line front_kinds) (norms ++ (dels ++ parts_read line vector_kinds)) name among)
    where
      by_del : Contains dels name ⊎ Contains (parts_read line vector_kinds) name → Contains (line_names line) name
      by_del (inl here) = behind-parts (Contains-append_left dels norms name here)
      by_del (inr here) = parts-referred vector_kinds here

      by_norm : Contains norms name ⊎ Contains (dels ++ parts_read line vector_kinds) name → Contains (line_names line) name
      by_norm (inl here) = behind-parts (Contains-append_right dels norms name here)
      by_norm (inr here) = by_del (Contains-append_cases dels (parts_read line vector_kinds) name here)

      by_front : Contains (parts_read line front_kinds) name ⊎ Contains (norms ++ (dels ++ parts_read line vector_kinds)) name → Contains (line_names line) name
      by_front (inl here) = parts-referred front_kinds here
      by_front (inr here) = by_norm (Contains-append_cases norms (dels ++ parts_read line vector_kinds) name here)
