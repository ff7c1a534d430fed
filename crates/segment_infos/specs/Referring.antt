-- The names that commits refer to, and those that may be removed (docs/FORMAT.md, "Names of files").
use Rattle.std.specs.Prelude.{ℕ, zero, suc, ◌+◌, Bool, not, ◌&&◌, List, [], ◌∷◌, ◌++◌, Contains, map, filter, flat_map, Option, Some, None, ℤ, pos, negsuc, is_some, if◌then◌else◌, bytes_eq}
use Rattle.std.specs.List.{list_any}
use Rattle.lu_types.specs.declared.kind.FileKind.{FileKind}
use Rattle.lu_types.specs.declared.kind.FileKind.TheVariants as kinds
use Rattle.lu_types.specs.declared.stored.SharedStore.{SharedStore}
use Rattle.segment_infos.specs.declared.naming.LuceneName.{LuceneName}
use Rattle.segment_infos.specs.declared.naming.LuceneName.TheVariants.{Commit, Part, Del, Sep}
use Rattle.segment_infos.specs.declared.infos.SegInfo.{SegInfo}
use Rattle.segment_infos.specs.Values.{CommitValue}
use Rattle.segment_infos.specs.LuceneNames.{name_spelling, lucene_name_in}

-- the five files that hold documents: stored values, and vectors
abbrev pub document_kinds : List FileKind
document_kinds = kinds.Fdx ∷ kinds.Fdt ∷ kinds.Tvx ∷ kinds.Tvd ∷ kinds.Tvf ∷ []

-- the other parts, but for the two that hold parts
abbrev pub index_kinds : List FileKind
index_kinds = kinds.Fnm ∷ kinds.Tis ∷ kinds.Tii ∷ kinds.Frq ∷ kinds.Prx ∷ kinds.Nrm ∷ []

-- the parts of a segment of these kinds
abbrev pub names_of_parts : ℕ → List FileKind → List LuceneName
names_of_parts number some = map (Part number) some

-- the parts of a segment's own number: its `.cfs` where it is compound; else all that hold parts of none, without the files of documents where its store is shared
abbrev pub own_part_names : SegInfo → List LuceneName
own_part_names s = names_of_parts s.number (if s.compound then kinds.Cfs ∷ [] else index_kinds ++ (if is_some s.store then [] else document_kinds))

-- the files of a shared store: its `.cfx` where it is compound, else the five that hold documents
abbrev pub store_part_names : Option SharedStore → List LuceneName
store_part_names None = []
store_part_names (Some store) = names_of_parts store.number (if store.compound then kinds.Cfx ∷ [] else document_kinds)

-- the file of deleted documents, where there is one
abbrev pub del_names : ℕ → Option ℕ → List LuceneName
del_names number None = []
del_names number (Some generation) = Del number generation ∷ []

-- the file of a field's norms, where they stand in a file of their own: their generation is at least 1
abbrev pub sep_names : ℕ → ℕ → ℤ → List LuceneName
sep_names number field (pos zero) = []
sep_names number field (pos (suc n)) = Sep number (suc n) field ∷ []
sep_names number field (negsuc n) = []

-- the same of the fields from this one on
abbrev pub sep_names_from : ℕ → ℕ → List ℤ → List LuceneName
sep_names_from number field [] = []
sep_names_from number field (generation ∷ generations) = sep_names number field generation ++ sep_names_from number (field + 1) generations

-- the same of all fields of a segment
abbrev pub norm_names : ℕ → Option (List ℤ) → List LuceneName
norm_names number None = []
norm_names number (Some generations) = sep_names_from number 0 generations

-- the names that the line of a segment refers to
abbrev pub line_names : SegInfo → List LuceneName
line_names s = own_part_names s ++ (store_part_names s.store ++ (del_names s.number s.del_gen ++ norm_names s.number s.norm_gens))

-- the names that a commit refers to
abbrev pub referred_names : CommitValue → List LuceneName
referred_names commit = flat_map line_names commit.segments

-- the commit refers to the name
abbrev pub Refers : CommitValue → LuceneName → Type 0
Refers commit name = Contains (referred_names commit) name

-- a commit that is kept, with the generation that it is kept under
pub record KeptValue : Type 0 where
  pub generation : ℕ
  pub commit : CommitValue

-- its own name, and those that it refers to
abbrev pub names_kept_by : KeptValue → List LuceneName
names_kept_by kept = Commit kept.generation ∷ referred_names kept.commit

-- the names that some commits keep
abbrev pub kept_names : List KeptValue → List LuceneName
kept_names kept = flat_map names_kept_by kept

-- the text spells one of the names
abbrev pub is_spelled_among : List LuceneName → List ℕ → Bool
is_spelled_among names text = list_any (λ name. bytes_eq text (name_spelling name)) names

-- the text is a Lucene name that no commit keeps
abbrev pub is_removable : List KeptValue → List ℕ → Bool
is_removable kept text = is_some (lucene_name_in text) && not (is_spelled_among (kept_names kept) text)

-- the names that may be removed, in order, where these commits are kept
abbrev pub removable : List KeptValue → List (List ℕ) → List (List ℕ)
removable kept names = filter (is_removable kept) names
