-- The segments of the names that a commit refers to.
use Rattle.std.proofs.Common.{◌≡◌, ◌≢◌, ℕ, get_or, zero, suc, ◌+◌, ◌<◌, Bool, true, false, cond, List, [], ◌∷◌, ◌++◌, length, map, Option, Some, None, ℤ, pos, negsuc, Contains, refl, sym, ap, subst, ◌∙◌, arith, ◌⊎◌, inl, inr}
use Rattle.std.specs.List.{flat_map}
use Rattle.std.proofs.lemmas.List.Elements.{Contains-append_left, Contains-append_right, Contains-append_cases}
use Rattle.lu_types.specs.declared.kind.FileKind.{FileKind}
use Rattle.lu_types.specs.declared.kind.FileKind.TheVariants as kinds
use Rattle.lu_types.specs.declared.stored.SharedStore.{SharedStore}
use Rattle.segment_infos.specs.declared.infos.SegInfo.{SegInfo}
use Rattle.segment_infos.specs.declared.naming.LuceneName.{LuceneName}
use Rattle.segment_infos.specs.declared.naming.LuceneName.TheVariants.{Commit, Part, Del, Sep}
use Rattle.segment_infos.specs.LuceneNames.{name_spelling}
use Rattle.segment_infos.specs.Referring.{document_kinds, index_kinds, names_of_parts, own_part_names, store_part_names, del_names, sep_names, sep_names_from, norm_names, line_names}
use Rattle.lu_folder.specs.ChangeValues.{commit_name}
use Rattle.lu_folder.specs.Numbers.{segment_of_name}
use Rattle.lu_folder.specs.Drawing.{store_numbers, line_numbers}
use Rattle.lu_folder.proofs.SameName.{Contains-only, only-is}

-- the name is of a file of one of these segments
pub IsOf : List ℕ → LuceneName → Type 0
IsOf numbers name = (segment : ℕ) × (segment_of_name name ≡ Some segment) × Contains numbers segment

-- each of the names is
AreOf : List ℕ → List LuceneName → Type 0
AreOf numbers names = (name : LuceneName) → Contains names name → IsOf numbers name

AreOf-none : (numbers : List ℕ) → AreOf numbers []
unfolding AreOf
AreOf-none numbers name (k, within, is) = absurd (omega arith)

AreOf-append : (numbers : List ℕ) (one other : List LuceneName) → AreOf numbers one → AreOf numbers other → AreOf numbers (one ++ other)
unfolding AreOf
AreOf-append numbers one other first second name among = by_part (Contains-append_cases one other name among)
  where
    by_part : Contains one name ⊎ Contains other name → IsOf numbers name
    by_part (inl here) = first name here
    by_part (inr here) = second name here

AreOf-one : (numbers : List ℕ) (name : LuceneName) (number : ℕ) → segment_of_name name ≡ Some number → Contains numbers number → AreOf numbers (name ∷ [])
unfolding AreOf IsOf
AreOf-one numbers name number is among other here = (number, ap segment_of_name (sym (only-is name other here)) ∙ is, among)

AreOf-names_of_parts : (numbers : List ℕ) (number : ℕ) (some : List FileKind) → Contains numbers number → AreOf numbers (names_of_parts number some)
AreOf-names_of_parts numbers number [] among = AreOf-none numbers
AreOf-names_of_parts numbers number (kind ∷ some) among = AreOf-append numbers (Part number kind ∷ []) (names_of_parts number some) (AreOf-one numbers (Part number kind) number refl among) (AreOf-names_of_parts numbers number some among)

AreOf-seps : (numbers : List ℕ) (number field : ℕ) (generations : List ℤ) → Contains numbers number → AreOf numbers (sep_names_from number field generations)
AreOf-seps numbers number field [] among = AreOf-none numbers
AreOf-seps numbers number field (generation ∷ generations) among = AreOf-append numbers (sep_names number field generation) (sep_names_from number (field + 1) generations) (one generation) (AreOf-seps numbers number (field + 1) generations among)
  where
    one : (generation : ℤ) → AreOf numbers (sep_names number field generation)
    one (pos zero) = AreOf-none numbers
    one (pos (suc n)) = AreOf-one numbers (Sep number (suc n) field) number refl among
    one (negsuc n) = AreOf-none numbers

AreOf-norms : (numbers : List ℕ) (number : ℕ) (counted : Option (List ℤ)) → Contains numbers number → AreOf numbers (norm_names number counted)
AreOf-norms numbers number None among = AreOf-none numbers
AreOf-norms numbers number (Some generations) among = AreOf-seps numbers number 0 generations among

AreOf-del : (numbers : List ℕ) (number : ℕ) (generation : Option ℕ) → Contains numbers number → AreOf numbers (del_names number generation)
AreOf-del numbers number None among = AreOf-none numbers
AreOf-del numbers number (Some generation) among = AreOf-one numbers (Del number generation) number refl among

AreOf-store : (numbers : List ℕ) (store : Option SharedStore) → ((s : SharedStore) → store ≡ Some s → Contains numbers s.number) → AreOf numbers (store_part_names store)
AreOf-store numbers None among = AreOf-none numbers
AreOf-store numbers (Some store) among = AreOf-names_of_parts numbers store.number (cond store.compound (kinds.Cfx ∷ []) document_kinds) (among store refl)

-- the line of a segment refers to files of its own number and of its store's
AreOf-line : (line : SegInfo) → AreOf (line_numbers line) (line_names line)
AreOf-line line =
    let numbers : List ℕ = line_numbers line in
    AreOf-append numbers (own_part_names line) (store_part_names line.store ++ (del_names line.number line.del_gen ++ norm_names line.number line.norm_gens)) (AreOf-names_of_parts numbers line.number _ own)
    (AreOf-append numbers (store_part_names line.store) (del_names line.number line.del_gen ++ norm_names line.number line.norm_gens) (AreOf-store numbers line.store (λ s is. store (line.store) s is))
    (AreOf-append numbers (del_names line.number line.del_gen) (norm_names line.number line.norm_gens) (AreOf-del numbers line.number line.del_gen own) (AreOf-norms numbers line.number line.norm_gens own)))
  where
    own : Contains (line_numbers line) line.number
    own = Contains-append_left (line.number ∷ []) (store_numbers line.store) line.number (Contains-only line.number)

    store : (there : Option SharedStore) (s : SharedStore) → there ≡ Some s → Contains (line.number ∷ store_numbers there) s.number
    store None s is = absurd (cc)
    store (Some one) s is = let same : one ≡ s = cc in (1, omega arith, ap (λ (x : SharedStore). x.number) same)

-- a commit refers to files of the numbers that its lines have
pub referred-of : (lines : List SegInfo) (name : LuceneName) → Contains (flat_map line_names lines) name → IsOf (flat_map line_numbers lines) name
unfolding AreOf IsOf
referred-of [] name (k, within, is) = absurd (omega arith)
referred-of (line ∷ lines) name among = by_part (Contains-append_cases (line_names line) (flat_map line_names lines) name among) (λ rest. referred-of lines name rest)
  where
    by_part : Contains (line_names line) name ⊎ Contains (flat_map line_names lines) name → (Contains (flat_map line_names lines) name → IsOf (flat_map line_numbers lines) name) → IsOf (line_numbers line ++ flat_map line_numbers lines) name
    by_part (inl here) later = let (segment, is, there) : IsOf (line_numbers line) name = AreOf-line line name here in (segment, is, Contains-append_left (line_numbers line) (flat_map line_numbers lines) segment there)
    by_part (inr rest) later = let (segment, is, there) : IsOf (flat_map line_numbers lines) name = later rest in (segment, is, Contains-append_right (line_numbers line) (flat_map line_numbers lines) segment there)

pub referred-segment : (lines : List SegInfo) (name : LuceneName) (segment : ℕ) → Contains (flat_map line_names lines) name → segment_of_name name ≡ Some segment → Contains (flat_map line_numbers lines) segment
unfolding IsOf
referred-segment lines name segment among is =
    let (one, same, there) : IsOf (flat_map line_numbers lines) name = referred-of lines name among in
    subst (λ (n : ℕ). Contains (flat_map line_numbers lines) n) (some_same (sym same ∙ is)) there
  where
    some_same : {x y : ℕ} → Some x ≡ Some y → x ≡ y
    some_same e = cc

first-differs : (one other : List ℕ) → get_or one 0 0 ≡ 95 → get_or other 0 0 ≡ 115 → one ≡ other → ⊥
first-differs one other under letter same = let e : get_or one 0 0 ≡ get_or other 0 0 = ap (λ (text : List ℕ). get_or text 0 0) same in omega arith

-- it refers to files alone, and none of them has the name of a commit
pub file-no_commit : (name : LuceneName) (segment generation : ℕ) → segment_of_name name ≡ Some segment → name_spelling name ≢ commit_name generation
file-no_commit (Commit one) segment generation is same = cc
file-no_commit (Part one kind) segment generation is same = first-differs (name_spelling (Part one kind)) (commit_name generation) refl refl same
file-no_commit (Del one other) segment generation is same = first-differs (name_spelling (Del one other)) (commit_name generation) refl refl same
file-no_commit (Sep one other field) segment generation is same = first-differs (name_spelling (Sep one other field)) (commit_name generation) refl refl same

pub referred-no_commit : (lines : List SegInfo) (name : LuceneName) (generation : ℕ) → Contains (flat_map line_names lines) name → name_spelling name ≢ commit_name generation
unfolding IsOf
referred-no_commit lines name generation among = let (segment, is, there) : IsOf (flat_map line_numbers lines) name = referred-of lines name among in file-no_commit name segment generation is
