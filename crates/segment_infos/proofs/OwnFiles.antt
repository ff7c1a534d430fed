-- The names that a line refers to: each file of deleted documents, and each of norms, is one of the segment itself.
use Rattle.std.proofs.Common.{◌≡◌, ◌↔◌, ℕ, zero, suc, ◌+◌, List, [], ◌∷◌, ◌++◌, All, Contains, Option, Some, None, refl, sym, subst, arith, ℤ, pos, negsuc}
use Rattle.std.proofs.lemmas.List.Elements.{Contains-append_left, Contains-append_right}
use Rattle.lu_types.specs.declared.kind.FileKind.{FileKind}
use Rattle.lu_types.specs.declared.stored.SharedStore.{SharedStore}
use Rattle.segment_infos.specs.declared.naming.LuceneName.{LuceneName}
use Rattle.segment_infos.specs.declared.naming.LuceneName.TheVariants.{Commit, Part, Del, Sep}
use Rattle.segment_infos.specs.declared.infos.SegInfo.{SegInfo}
use Rattle.segment_infos.specs.Referring.{names_of_parts, own_part_names, store_part_names, del_names, sep_names_from, norm_names, line_names}
use Rattle.segment_infos.proofs.KeptNames.{all-none, all-one, all-append}

-- the name is that of a part, or of a file of the segment itself: of its deleted documents, or of norms
abbrev IsOwnFile : SegInfo → LuceneName → Type 0
IsOwnFile s (Commit generation) = ⊥
IsOwnFile s (Part segment kind) = Unit {0}
IsOwnFile s (Del segment generation) = (segment ≡ s.number) × (s.del_gen ≡ Some generation)
IsOwnFile s (Sep segment generation field) = segment ≡ s.number

parts-own : (s : SegInfo) (number : ℕ) (some : List FileKind) → All (IsOwnFile s) (names_of_parts number some)
parts-own s number [] = all-none (IsOwnFile s)
parts-own s number (kind ∷ some) =
    all-append (IsOwnFile s) (Part number kind ∷ []) (names_of_parts number some) (all-one (IsOwnFile s) (Part number kind) tt) (parts-own s number some)

store-own : (s : SegInfo) (store : Option SharedStore) → All (IsOwnFile s) (store_part_names store)
store-own s None = all-none (IsOwnFile s)
store-own s (Some store) = parts-own s store.number _

deletions-own : (s : SegInfo) (generation : Option ℕ) → s.del_gen ≡ generation → All (IsOwnFile s) (del_names s.number generation)
deletions-own s None is = all-none (IsOwnFile s)
deletions-own s (Some generation) is = all-one (IsOwnFile s) (Del s.number generation) (refl, is)

norms-own_from : (s : SegInfo) (field : ℕ) (generations : List ℤ) → All (IsOwnFile s) (sep_names_from s.number field generations)
norms-own_from s field [] = all-none (IsOwnFile s)
norms-own_from s field (pos zero ∷ rest) = norms-own_from s (field + 1) rest
norms-own_from s field (pos (suc n) ∷ rest) =
    all-append (IsOwnFile s) (Sep s.number (suc n) field ∷ []) (sep_names_from s.number (field + 1) rest) (all-one (IsOwnFile s) (Sep s.number (suc n) field) refl) (norms-own_from s (field + 1) rest)
norms-own_from s field (negsuc n ∷ rest) = norms-own_from s (field + 1) rest

norms-own : (s : SegInfo) (generations : Option (List ℤ)) → All (IsOwnFile s) (norm_names s.number generations)
norms-own s None = all-none (IsOwnFile s)
norms-own s (Some generations) = norms-own_from s 0 generations

line-own : (s : SegInfo) → All (IsOwnFile s) (line_names s)
line-own s =
    all-append (IsOwnFile s) (own_part_names s) (store_part_names s.store ++ (del_names s.number s.del_gen ++ norm_names s.number s.norm_gens)) (parts-own s s.number _)
    (all-append (IsOwnFile s) (store_part_names s.store) (del_names s.number s.del_gen ++ norm_names s.number s.norm_gens) (store-own s s.store)
    (all-append (IsOwnFile s) (del_names s.number s.del_gen) (norm_names s.number s.norm_gens) (deletions-own s s.del_gen refl) (norms-own s s.norm_gens)))

named-own : (s : SegInfo) (name : LuceneName) → Contains (line_names s) name → IsOwnFile s name
named-own s name (k, within, here) = subst (IsOwnFile s) here (line-own s k name within)

-- the line refers to a file of deleted documents exactly where it says the file's generation of its own segment
pub line_names-Del : (s : SegInfo) (number generation : ℕ) → Contains (line_names s) (Del number generation) ↔ ((number ≡ s.number) × (s.del_gen ≡ Some generation))
line_names-Del s number generation = (named-own s (Del number generation), back)
  where
    back : ((number ≡ s.number) × (s.del_gen ≡ Some generation)) → Contains (line_names s) (Del number generation)
    back (own, said) =
        let here : Contains (del_names number (Some generation)) (Del number generation) = (0, omega arith, refl) in
        let there : Contains (del_names s.number s.del_gen) (Del number generation) =
        subst (λ (n : ℕ). Contains (del_names n s.del_gen) (Del number generation)) own (subst (λ (o : Option ℕ). Contains (del_names number o) (Del number generation)) (sym said) here) in
        Contains-append_right (own_part_names s) (store_part_names s.store ++ (del_names s.number s.del_gen ++ norm_names s.number s.norm_gens)) (Del number generation)
        (Contains-append_right (store_part_names s.store) (del_names s.number s.del_gen ++ norm_names s.number s.norm_gens) (Del number generation)
        (Contains-append_left (del_names s.number s.del_gen) (norm_names s.number s.norm_gens) (Del number generation) there))

-- a file of norms that the line refers to is one of its own segment
pub line_names-Sep : (s : SegInfo) (number generation field : ℕ) → Contains (line_names s) (Sep number generation field) → number ≡ s.number
line_names-Sep s number generation field referred = named-own s (Sep number generation field) referred
