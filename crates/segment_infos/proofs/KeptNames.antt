-- The names that commits keep: each has its own spelling, and which texts are free of them.
use Rattle.std.proofs.Common.{◌≡◌, ◌↔◌, ℕ, zero, suc, ◌+◌, ◌^◌, ◌<◌, ◌≤◌, Bool, true, false, cond, not, ◌&&◌, List, [], ◌∷◌, ◌++◌, length, take, get_or, map, filter, flat_map, All, Contains, Option, Some, None, refl, sym, subst, ap, ◌∙◌, arith, ℤ, pos, negsuc, bytes_eq}
use Rattle.std.specs.Prelude.{is_some, string_bytes, Result, Ok, Err, IfOk, OnOk}
use Rattle.std.specs.declared.vec.Vec.{Vec}
use Rattle.std.proofs.lemmas.List.{append-nil, map-append}
use Rattle.std.specs.declared.string.String.{String}
use Rattle.std.specs.declared.alloc.Global.{Global}
use Rattle.std.specs.Cmp.Lexicographic.{bytes_decides}
use Rattle.std.proofs.lemmas.List.Folds.{Any-from_list_any, list_any_at}
use Rattle.std.proofs.lemmas.List.Elements.{filter-append}
use Rattle.lu_types.specs.declared.kind.FileKind.{FileKind}
use Rattle.lu_types.specs.declared.kind.FileKind.TheVariants as kinds
use Rattle.lu_types.specs.declared.stored.SharedStore.{SharedStore}
use Rattle.lu_types.specs.Names.{IsPart}
use Rattle.segment_infos.specs.declared.naming.LuceneName.{LuceneName}
use Rattle.segment_infos.specs.declared.naming.LuceneName.TheVariants.{Commit, Part, Del, Sep}
use Rattle.segment_infos.specs.declared.infos.SegInfo.{SegInfo}
use Rattle.segment_infos.specs.Values.{CommitValue, IsCommit, IsLine, AreNormGens}
use Rattle.segment_infos.specs.LuceneNames.{name_spelling, lucene_name_in, SpellsName}
use Rattle.segment_infos.specs.Referring.{document_kinds, index_kinds, names_of_parts, own_part_names, store_part_names, del_names, sep_names_from, norm_names, line_names, referred_names, is_spelled_among, KeptValue, names_kept_by, kept_names, is_removable, removable}
use Rattle.segment_infos.specs.Keeping.{HasOwnSpelling, HasNames, is_free}
use Rattle.segment_infos.proofs.NameSpelled.{name_spelling-same, HasOwnSpelling-IsName}
use Rattle.segment_infos.proofs.ListedNames.{texts-more}

-- ---- each name that a line refers to has its own spelling

pub all-none : {A : Type 0} (P : A → Type 0) → All P []
all-none P k d within = absurd (omega arith)

pub all-one : {A : Type 0} (P : A → Type 0) (x : A) → P x → All P (x ∷ [])
all-one P x is zero d within = is
all-one P x is (suc k) d within = absurd (omega arith)

all-rest : {A : Type 0} (P : A → Type 0) (x : A) (xs : List A) → All P (x ∷ xs) → All P xs
all-rest P x xs all k d within = all (suc k) d (omega arith)

all-cons : {A : Type 0} (P : A → Type 0) (x : A) (xs : List A) → P x → All P xs → All P (x ∷ xs)
all-cons P x xs is all zero d within = is
all-cons P x xs is all (suc k) d within = all k d (omega arith)

pub all-append : {A : Type 0} (P : A → Type 0) (xs ys : List A) → All P xs → All P ys → All P (xs ++ ys)
all-append P [] ys first second = second
all-append P (x ∷ xs) ys first second = all-cons P x (xs ++ ys) (first 0 x (omega arith)) (all-append P xs ys (all-rest P x xs first) second)

own-names_of_parts : (number : ℕ) (some : List FileKind) → All IsPart some → All HasOwnSpelling (names_of_parts number some)
own-names_of_parts number [] are = all-none HasOwnSpelling
own-names_of_parts number (kind ∷ rest) are = all-append HasOwnSpelling (Part number kind ∷ []) (names_of_parts number rest) (all-one HasOwnSpelling (Part number kind) (are 0 kind (omega arith))) (own-names_of_parts number rest (all-rest IsPart kind rest are))

are-documents : All IsPart document_kinds
are-documents zero d within = tt
are-documents (suc zero) d within = tt
are-documents (suc (suc zero)) d within = tt
are-documents (suc (suc (suc zero))) d within = tt
are-documents (suc (suc (suc (suc zero)))) d within = tt
are-documents (suc (suc (suc (suc (suc k))))) d within = absurd (omega arith)

are-index : All IsPart index_kinds
are-index zero d within = tt
are-index (suc zero) d within = tt
are-index (suc (suc zero)) d within = tt
are-index (suc (suc (suc zero))) d within = tt
are-index (suc (suc (suc (suc zero)))) d within = tt
are-index (suc (suc (suc (suc (suc zero))))) d within = tt
are-index (suc (suc (suc (suc (suc (suc k)))))) d within = absurd (omega arith)

own-own_part_names : (s : SegInfo) → All HasOwnSpelling (own_part_names s)
own-own_part_names s = own-names_of_parts s.number _ (by_form s.compound (is_some s.store))
  where
    by_form : (compound shared : Bool) → All IsPart (cond compound (kinds.Cfs ∷ []) (index_kinds ++ cond shared [] document_kinds))
    by_form true shared = all-one IsPart kinds.Cfs tt
    by_form false true = all-append IsPart index_kinds [] are-index (all-none IsPart)
    by_form false false = all-append IsPart index_kinds document_kinds are-index are-documents

own-store_part_names : (store : Option SharedStore) → All HasOwnSpelling (store_part_names store)
own-store_part_names None = all-none HasOwnSpelling
own-store_part_names (Some store) = own-names_of_parts store.number _ (by_form store.compound)
  where
    by_form : (compound : Bool) → All IsPart (cond compound (kinds.Cfx ∷ []) document_kinds)
    by_form true = all-one IsPart kinds.Cfx tt
    by_form false = are-documents

own-del_names : (number : ℕ) (generation : Option ℕ) → All HasOwnSpelling (del_names number generation)
own-del_names number None = all-none HasOwnSpelling
own-del_names number (Some generation) = all-one HasOwnSpelling (Del number generation) tt

own-sep_names_from : (number field : ℕ) (generations : List ℤ) → field + length generations ≤ 2 ^ 64 → All HasOwnSpelling (sep_names_from number field generations)
own-sep_names_from number field [] few = all-none HasOwnSpelling
own-sep_names_from number field (pos zero ∷ rest) few = own-sep_names_from number (field + 1) rest (omega arith)
own-sep_names_from number field (pos (suc n) ∷ rest) few =
    all-append HasOwnSpelling (Sep number (suc n) field ∷ []) (sep_names_from number (field + 1) rest) (all-one HasOwnSpelling (Sep number (suc n) field) (omega arith)) (own-sep_names_from number (field + 1) rest (omega arith))
own-sep_names_from number field (negsuc n ∷ rest) few = own-sep_names_from number (field + 1) rest (omega arith)

own-norm_names : (number : ℕ) (generations : Option (List ℤ)) → AreNormGens generations → All HasOwnSpelling (norm_names number generations)
own-norm_names number None are = all-none HasOwnSpelling
own-norm_names number (Some generations) are = let few : length generations < 2 ^ 31 = are.0 in own-sep_names_from number 0 generations (omega arith)

own-line_names : (s : SegInfo) → IsLine s → All HasOwnSpelling (line_names s)
own-line_names s is =
    all-append HasOwnSpelling (own_part_names s) (store_part_names s.store ++ (del_names s.number s.del_gen ++ norm_names s.number s.norm_gens)) (own-own_part_names s)
    (all-append HasOwnSpelling (store_part_names s.store) (del_names s.number s.del_gen ++ norm_names s.number s.norm_gens) (own-store_part_names s.store)
    (all-append HasOwnSpelling (del_names s.number s.del_gen) (norm_names s.number s.norm_gens) (own-del_names s.number s.del_gen) (own-norm_names s.number s.norm_gens is.norm_gens)))

own-lines : (lines : List SegInfo) → All IsLine lines → All HasOwnSpelling (flat_map line_names lines)
own-lines [] are = all-none HasOwnSpelling
own-lines (s ∷ rest) are = all-append HasOwnSpelling (line_names s) (flat_map line_names rest) (own-line_names s (are 0 s (omega arith))) (own-lines rest (all-rest IsLine s rest are))

pub own-referred_names : (commit : CommitValue) → IsCommit commit → All HasOwnSpelling (referred_names commit)
own-referred_names commit is = own-lines commit.segments is.segments.lines

pub own-kept_names : (kept : List KeptValue) → All (λ k. IsCommit k.commit) kept → All HasOwnSpelling (kept_names kept)
own-kept_names [] are = all-none HasOwnSpelling
own-kept_names (k ∷ rest) are =
    all-append HasOwnSpelling (names_kept_by k) (kept_names rest) (all-cons HasOwnSpelling (Commit k.generation) (referred_names k.commit) tt (own-referred_names k.commit (are 0 k (omega arith))))
    (own-kept_names rest (all-rest (λ k. IsCommit k.commit) k rest are))

-- ---- which texts are free of names

-- a name is one of some names exactly where its text is the spelling of one
pub among-Contains : (text : List ℕ) (name : LuceneName) (all : List LuceneName) → SpellsName text name → All HasOwnSpelling all → (is_spelled_among all text ≡ true) ↔ Contains all name
among-Contains text name all spells own = (forward, back)
  where
    forward : is_spelled_among all text ≡ true → Contains all name
    forward found =
        let any = Any-from_list_any (λ n. bytes_eq text (name_spelling n)) all found in
        let at : get_or all any.0 any.1 ≡ any.1 = any.3 in
        let its : HasOwnSpelling any.1 = subst HasOwnSpelling at (own any.0 any.1 any.2) in
        let same : text ≡ name_spelling any.1 = (bytes_decides text (name_spelling any.1)).0 any.4 in
        let one : any.1 ≡ name = name_spelling-same any.1 name its (HasOwnSpelling-IsName name spells.0) (sym same ∙ spells.1) in
        subst (Contains all) one (any.0, any.2, at)

    back : Contains all name → is_spelled_among all text ≡ true
    back (k, within, here) =
        list_any_at (λ n. bytes_eq text (name_spelling n)) all k name within (ap (λ (n : LuceneName). bytes_eq text (name_spelling n)) here ∙ (bytes_decides text (name_spelling name)).1 spells.1)

one_test : (s t : Bool) → (s ≡ true → t ≡ true) → (t ≡ true → s ≡ true) → s ≡ t
one_test true t f g = sym (f refl)
one_test false true f g = g refl
one_test false false f g = refl

-- whether a name is free, where a set with these keys is asked
pub free-named : (text : List ℕ) (name : LuceneName) (has : Bool) (keys all : List LuceneName) → SpellsName text name → ((has ≡ true) ↔ Contains keys name) → All HasOwnSpelling all → HasNames keys all → lucene_name_in text ≡ Some name → not has ≡ is_free all text
free-named text name has keys all spells found own same is =
    ap not (one_test has (is_spelled_among all text) (λ h. both.1 ((same name).0 (found.0 h))) (λ h. found.1 ((same name).1 (both.0 h)))) ∙ ap (λ (o : Option LuceneName). is_some o && not (is_spelled_among all text)) (sym is)
  where
    both : (is_spelled_among all text ≡ true) ↔ Contains all name
    both = among-Contains text name all spells own

pub free-unnamed : (text : List ℕ) (all : List LuceneName) → lucene_name_in text ≡ None → false ≡ is_free all text
free-unnamed text all is = ap (λ (o : Option LuceneName). is_some o && not (is_spelled_among all text)) (sym is)

-- ---- a name more

pub free-more : (all : List LuceneName) (names : List (String Global)) (i : ℕ) (name : String Global) (free : Bool) (found : List (List ℕ)) → i < length names → name ≡ get_or names i name → free ≡ is_free all (string_bytes name)
    → found ≡ filter (is_free all) (map string_bytes (take i names)) → found ++ cond free (string_bytes name ∷ []) [] ≡ filter (is_free all) (map string_bytes (take (i + 1) names))
free-more all names i name free found within is test before =
    ap (λ (list : List (List ℕ)). list ++ cond free (string_bytes name ∷ []) []) before
    ∙ ap (λ (t : Bool). filter (is_free all) (map string_bytes (take i names)) ++ cond t (string_bytes name ∷ []) []) test
    ∙ sym (filter-append (is_free all) (map string_bytes (take i names)) (string_bytes name ∷ []))
    ∙ ap (filter (is_free all)) (sym (texts-more names i name within is))

pub free-pushed : (all : List LuceneName) (names : List (String Global)) (i : ℕ) (name copy : String Global) (free : Bool) (found new : List (String Global)) → i < length names → name ≡ get_or names i name → free ≡ is_free all (string_bytes name)
    → map string_bytes found ≡ filter (is_free all) (map string_bytes (take i names)) → free ≡ true → new ≡ found ++ copy ∷ [] → string_bytes copy ≡ string_bytes name → map string_bytes new ≡ filter (is_free all) (map string_bytes (take (i + 1) names))
free-pushed all names i name copy free found new within is test before yes_free pushed same =
    ap (map string_bytes) pushed ∙ map-append string_bytes found (copy ∷ []) ∙ ap (λ (t : List ℕ). map string_bytes found ++ t ∷ []) same
    ∙ ap (λ (t : Bool). map string_bytes found ++ cond t (string_bytes name ∷ []) []) (sym yes_free)
    ∙ free-more all names i name free (map string_bytes found) within is test before

pub free-passed : (all : List LuceneName) (names : List (String Global)) (i : ℕ) (name : String Global) (free : Bool) (found : List (String Global)) → i < length names → name ≡ get_or names i name → free ≡ is_free all (string_bytes name)
    → map string_bytes found ≡ filter (is_free all) (map string_bytes (take i names)) → free ≡ false → map string_bytes found ≡ filter (is_free all) (map string_bytes (take (i + 1) names))
free-passed all names i name free found within is test before other =
    sym (append-nil (map string_bytes found)) ∙ ap (λ (t : Bool). map string_bytes found ++ cond t (string_bytes name ∷ []) []) (sym other)
    ∙ free-more all names i name free (map string_bytes found) within is test before

-- what is free of the names that commits keep may be removed
pub free-removable : {E : Type 0} (r : Result (Vec (String Global) Global) E) (keys all : List LuceneName) (kept : List KeptValue) (names : List (List ℕ))
    → IfOk r (λ found. (some : List LuceneName) → All HasOwnSpelling some → HasNames keys some → map string_bytes found.items ≡ filter (is_free some) names)
    → All HasOwnSpelling all → HasNames keys all → all ≡ kept_names kept → IfOk r (λ found. map string_bytes found.items ≡ removable kept names)
free-removable (Ok found) keys all kept names free own has is = free all own has ∙ ap (λ (some : List LuceneName). filter (is_free some) names) is
free-removable (Err e) keys all kept names free own has is = tt

-- what holds anyway holds after an Ok
pub on_ok : {X E A : Type 0} (r : Result X E) → A → OnOk r A
on_ok (Ok x) a = a
on_ok (Err e) a = tt
