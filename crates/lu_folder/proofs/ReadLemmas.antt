-- The names of the files that are read for a segment: each has a spelling, and there are few enough.
use Rattle.std.proofs.Common.{◌≡◌, ℕ, zero, suc, ◌+◌, ◌^◌, ◌<◌, ◌≤◌, Bool, true, false, cond, List, [], ◌∷◌, ◌++◌, length, take, get_or, map, All, Option, Some, None, ℤ, pos, negsuc, refl, sym, ap, subst, ◌∙◌, arith, length-append, append_assoc, append-nil, string_bytes}
use Rattle.std.specs.Prelude.{slice_get}
use Rattle.std.specs.Option.{option_map, option_and_then, ForSome}
use Rattle.std.specs.List.{filter_map, cons_option}
use Rattle.std.proofs.lemmas.List.{take_more, length-map}
use Rattle.std.proofs.lemmas.List.Elements.{filter_map-append}
use Rattle.lu_types.specs.Names.{greatest_segment, IsPart}
use Rattle.lu_types.specs.declared.kind.FileKind.{FileKind}
use Rattle.lu_types.specs.declared.kind.FileKind.TheVariants as kinds
use Rattle.lu_types.specs.declared.stored.SharedStore.{SharedStore}
use Rattle.segment_infos.specs.declared.infos.SegInfo.{SegInfo}
use Rattle.segment_infos.specs.declared.naming.LuceneName.{LuceneName}
use Rattle.segment_infos.specs.declared.naming.LuceneName.TheVariants.{Commit, Part, Del, Sep}
use Rattle.lu_dir.specs.Files.{Files}
use Rattle.lu_dir.specs.Loading.{first_over, texts}
use Rattle.std.specs.declared.string.String.{String}
use Rattle.std.specs.declared.alloc.Global.{Global}
use Rattle.lu_types.specs.Kinds.{front_kinds, vector_kinds}
use Rattle.segment_infos.specs.LuceneNames.{IsName, name_spelling}
use Rattle.segment_infos.specs.Referring.{del_names, sep_names, sep_names_from, norm_names}
use Rattle.segment_infos.specs.Values.{IsGeneration, IsStore, IsNormGen, AreNormGens, IsLine}
use Rattle.segment_infos.proofs.KeptNames.{all-append}
use Rattle.lu_folder.specs.Reading.{own_part, packed_store, document_part, holder, parts_read, read_names, kind_of_name, first_too_large}
use Rattle.lu_folder.specs.Limits.{file_limit}

-- one kind more
pub parts_read-more : (line : SegInfo) (some : List FileKind) (place : ℕ) (default : FileKind) (found : Option ℕ) → place < length some → found ≡ holder line (get_or some place default)
    → parts_read line (take (place + 1) some) ≡ parts_read line (take place some) ++ cons_option (option_map (λ (number : ℕ). Part number (get_or some place default)) found) []
parts_read-more line some place default found within is =
    ap (parts_read line) (take_more some place default within)
    ∙ filter_map-append (λ (k : FileKind). option_map (λ (number : ℕ). Part number k) (holder line k)) (take place some) (get_or some place default ∷ [])
    ∙ ap (λ (o : Option ℕ). parts_read line (take place some) ++ cons_option (option_map (λ (number : ℕ). Part number (get_or some place default)) o) []) (sym is)

-- a part that is added, and a kind that is passed over
pub added-part : (line : SegInfo) (some : List FileKind) (place number : ℕ) (default : FileKind) (start before after : List LuceneName) → place < length some → Some number ≡ holder line (get_or some place default) → after ≡ before ++ Part number (get_or some place default) ∷ []
    → before ≡ start ++ parts_read line (take place some) → after ≡ start ++ parts_read line (take (place + 1) some)
added-part line some place number default start before after within is pushed so_far =
    pushed
    ∙ ap (λ (names : List LuceneName). names ++ Part number (get_or some place default) ∷ []) so_far
    ∙ append_assoc start (parts_read line (take place some)) (Part number (get_or some place default) ∷ [])
    ∙ ap (λ (names : List LuceneName). start ++ names) (sym (parts_read-more line some place default (Some number) within is))

pub passed-kind : (line : SegInfo) (some : List FileKind) (place : ℕ) (default : FileKind) (start before after : List LuceneName) → place < length some → None ≡ holder line (get_or some place default) → after ≡ before
    → before ≡ start ++ parts_read line (take place some) → after ≡ start ++ parts_read line (take (place + 1) some)
passed-kind line some place default start before after within is same so_far =
    same ∙ so_far ∙ ap (λ (names : List LuceneName). start ++ names) (sym (parts_read-more line some place default None within is ∙ append-nil (parts_read line (take place some))))

-- the kind of the first file that is too large
pub first_too_large-at : (files : Files) (names : List LuceneName) (spelled : List (List ℕ)) (place : ℕ) (name : LuceneName) → spelled ≡ map name_spelling names → first_over files file_limit spelled ≡ Some place → slice_get names place ≡ Some name → first_too_large files names ≡ Some (kind_of_name name)
first_too_large-at files names spelled place name same over at =
    ap (λ (found : Option ℕ). option_and_then (λ p. option_map kind_of_name (slice_get names p)) found) (ap (first_over files file_limit) (sym same) ∙ over)
    ∙ ap (option_map kind_of_name) at

-- as many spellings as names
pub spelled-count : (spelled : List (String Global)) (names : List LuceneName) → texts spelled ≡ map name_spelling names → length spelled ≡ length names
spelled-count spelled names same = sym (length-map spelled string_bytes) ∙ ap length same ∙ length-map names name_spelling

-- an element at a place
pub at-place : (names : List LuceneName) (place : ℕ) (name : LuceneName) → place < length names → name ≡ get_or names place name → slice_get names place ≡ Some name
at-place [] place name within is = absurd (omega arith)
at-place (first ∷ rest) zero name within is = ap Some (sym is)
at-place (first ∷ rest) (suc k) name within is = at-place rest k name (omega arith) is

-- a number that a segment may have, where there is one
IsNumber : Option ℕ → Type 0
IsNumber found = ForSome found (λ number. number ≤ greatest_segment)

IsNumber-none : IsNumber None
unfolding IsNumber
IsNumber-none number is = absurd (cc)

IsNumber-some : (number : ℕ) → number ≤ greatest_segment → IsNumber (Some number)
unfolding IsNumber
IsNumber-some number le other is = let same : number ≡ other = cc in omega arith

IsNumber-is : (number : ℕ) → IsNumber (Some number) → number ≤ greatest_segment
unfolding IsNumber
IsNumber-is number given = given number refl

IsNumber-if : (test : Bool) (found other : Option ℕ) → IsNumber found → IsNumber other → IsNumber (cond test found other)
IsNumber-if true found other first second = first
IsNumber-if false found other first second = second

own-number : (line : SegInfo) → IsLine line → IsNumber (own_part line)
own-number line is = IsNumber-if line.compound None (Some line.number) IsNumber-none (IsNumber-some line.number is.number)

packed-number : (store : Option SharedStore) → IsStore store → IsNumber (packed_store store)
packed-number None is = IsNumber-none
packed-number (Some store) is = IsNumber-if store.compound (Some store.number) None (IsNumber-some store.number is.1) IsNumber-none

document-number : (store : Option SharedStore) (own : Option ℕ) → IsStore store → IsNumber own → IsNumber (document_part store own)
document-number None own is ours = ours
document-number (Some store) own is ours = IsNumber-if store.compound None (Some store.number) IsNumber-none (IsNumber-some store.number is.1)

holder-number : (line : SegInfo) (kind : FileKind) → IsLine line → IsNumber (holder line kind)
holder-number line kinds.Commit is = IsNumber-none
holder-number line kinds.Cfs is = IsNumber-if line.compound (Some line.number) None (IsNumber-some line.number is.number) IsNumber-none
holder-number line kinds.Cfx is = packed-number line.store is.store
holder-number line kinds.Fnm is = own-number line is
holder-number line kinds.Fdx is = document-number line.store (own_part line) is.store (own-number line is)
holder-number line kinds.Fdt is = document-number line.store (own_part line) is.store (own-number line is)
holder-number line kinds.Tis is = own-number line is
holder-number line kinds.Tii is = own-number line is
holder-number line kinds.Frq is = own-number line is
holder-number line kinds.Prx is = IsNumber-if line.has_prox (own_part line) None (own-number line is) IsNumber-none
holder-number line kinds.Nrm is = own-number line is
holder-number line (kinds.Sep field) is = IsNumber-none
holder-number line kinds.Del is = IsNumber-none
holder-number line kinds.Tvx is = document-number line.store (own_part line) is.store (own-number line is)
holder-number line kinds.Tvd is = document-number line.store (own_part line) is.store (own-number line is)
holder-number line kinds.Tvf is = document-number line.store (own_part line) is.store (own-number line is)

-- names that have a spelling, one by one
Spelled : List LuceneName → Type 0
Spelled names = All IsName names

Spelled-none : Spelled []
unfolding Spelled
Spelled-none k d within = absurd (omega arith)

Spelled-one : (name : LuceneName) → IsName name → Spelled (name ∷ [])
unfolding Spelled
Spelled-one name is zero d within = is
Spelled-one name is (suc k) d within = absurd (omega arith)

Spelled-append : (one other : List LuceneName) → Spelled one → Spelled other → Spelled (one ++ other)
unfolding Spelled
Spelled-append one other first second = all-append IsName one other first second

-- so many of some kinds that are read are parts
data AreParts : List FileKind → Type 0 where
  no_kind : AreParts []
  one_more : (kind : FileKind) (some : List FileKind) → IsPart kind → AreParts some → AreParts (kind ∷ some)

parts-spelled : (line : SegInfo) (some : List FileKind) → IsLine line → AreParts some → Spelled (parts_read line some)
parts-spelled line [] is no_kind = Spelled-none
parts-spelled line (kind ∷ some) is (one_more first rest part others) = by_found (holder line kind) (holder-number line kind is) (parts-spelled line some is others)
  where
    by_found : (found : Option ℕ) → IsNumber found → Spelled (parts_read line some) → Spelled (cons_option (option_map (λ (number : ℕ). Part number kind) found) (parts_read line some))
    by_found None none more = more
    by_found (Some number) le more = Spelled-append (Part number kind ∷ []) (parts_read line some) (Spelled-one (Part number kind) (IsNumber-is number le, part)) more

front-parts : AreParts front_kinds
front-parts = one_more _ _ tt (one_more _ _ tt (one_more _ _ tt (one_more _ _ tt (one_more _ _ tt (one_more _ _ tt (one_more _ _ tt (one_more _ _ tt (one_more _ _ tt (one_more _ _ tt no_kind)))))))))

vector-parts : AreParts vector_kinds
vector-parts = one_more _ _ tt (one_more _ _ tt (one_more _ _ tt no_kind))

seps-spelled : (number field : ℕ) (generations : List ℤ) → number ≤ greatest_segment → field + length generations < 2 ^ 31 → All IsNormGen generations → Spelled (sep_names_from number field generations)
seps-spelled number field [] le bound all = Spelled-none
seps-spelled number field (generation ∷ generations) le bound all =
    Spelled-append (sep_names number field generation) (sep_names_from number (field + 1) generations) (one generation (all 0 generation (omega arith)))
    (seps-spelled number (field + 1) generations le (omega arith) (λ k d within. all (suc k) d (omega arith)))
  where
    one : (generation : ℤ) → IsNormGen generation → Spelled (sep_names number field generation)
    one (pos zero) is = Spelled-none
    one (pos (suc n)) is = Spelled-one (Sep number (suc n) field) (le, (omega arith, is.1), omega arith)
    one (negsuc n) is = Spelled-none

norms-spelled : (number : ℕ) (counted : Option (List ℤ)) → number ≤ greatest_segment → AreNormGens counted → Spelled (norm_names number counted)
norms-spelled number None le is = Spelled-none
norms-spelled number (Some generations) le is = seps-spelled number 0 generations le (omega (arith, is.0)) is.1

del-spelled : (number : ℕ) (generation : Option ℕ) → number ≤ greatest_segment → IsGeneration generation → Spelled (del_names number generation)
del-spelled number None le is = Spelled-none
del-spelled number (Some generation) le is = Spelled-one (Del number generation) (le, (omega (arith, is.0), is.1))

-- each name that is read for a line has a spelling
pub read_names-spelled : (line : SegInfo) → IsLine line → All IsName (read_names line)
unfolding Spelled
read_names-spelled line is =
    Spelled-append (parts_read line front_kinds) (norm_names line.number line.norm_gens ++ (del_names line.number line.del_gen ++ parts_read line vector_kinds)) (parts-spelled line front_kinds is front-parts)
    (Spelled-append (norm_names line.number line.norm_gens) (del_names line.number line.del_gen ++ parts_read line vector_kinds) (norms-spelled line.number line.norm_gens is.number is.norm_gens)
    (Spelled-append (del_names line.number line.del_gen) (parts_read line vector_kinds) (del-spelled line.number line.del_gen is.number is.del_gen) (parts-spelled line vector_kinds is vector-parts)))

-- there are at most as many parts as kinds
parts-count : (line : SegInfo) (some : List FileKind) → length (parts_read line some) ≤ length some
parts-count line [] = omega arith
parts-count line (kind ∷ some) = by_found (holder line kind) (parts-count line some)
  where
    by_found : (found : Option ℕ) → length (parts_read line some) ≤ length some → length (cons_option (option_map (λ (number : ℕ). Part number kind) found) (parts_read line some)) ≤ suc (length some)
    by_found None le = omega arith
    by_found (Some number) le = omega arith

seps-count : (number field : ℕ) (generations : List ℤ) → length (sep_names_from number field generations) ≤ length generations
seps-count number field [] = omega arith
seps-count number field (generation ∷ generations) = let rest : length (sep_names_from number (field + 1) generations) ≤ length generations = seps-count number (field + 1) generations in let head : length (sep_names number field generation) ≤ 1 = one generation in
    omega (arith, length-append (sep_names number field generation) (sep_names_from number (field + 1) generations))
  where
    one : (generation : ℤ) → length (sep_names number field generation) ≤ 1
    one (pos zero) = omega arith
    one (pos (suc n)) = omega arith
    one (negsuc n) = omega arith

norms-count : (number : ℕ) (counted : Option (List ℤ)) → AreNormGens counted → length (norm_names number counted) < 2 ^ 31
norms-count number None is = omega arith
norms-count number (Some generations) is = let le : length (sep_names_from number 0 generations) ≤ length generations = seps-count number 0 generations in omega (arith, is.0)

del-count : (number : ℕ) (generation : Option ℕ) → length (del_names number generation) ≤ 1
del-count number None = omega arith
del-count number (Some generation) = omega arith

-- fewer names than can be loaded at once
pub read_names-count : (line : SegInfo) → IsLine line → length (read_names line) < 2 ^ 32
read_names-count line is =
    let front : length (parts_read line front_kinds) ≤ 10 = parts-count line front_kinds in
    let norms : length (norm_names line.number line.norm_gens) < 2 ^ 31 = norms-count line.number line.norm_gens is.norm_gens in
    let del : length (del_names line.number line.del_gen) ≤ 1 = del-count line.number line.del_gen in
    let back : length (parts_read line vector_kinds) ≤ 3 = parts-count line vector_kinds in
    omega (
      arith,
      length-append (parts_read line front_kinds) (norm_names line.number line.norm_gens ++ (del_names line.number line.del_gen ++ parts_read line vector_kinds)),
      length-append (norm_names line.number line.norm_gens) (del_names line.number line.del_gen ++ parts_read line vector_kinds),
      length-append (del_names line.number line.del_gen) (parts_read line vector_kinds),
    )
