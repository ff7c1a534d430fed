-- The files of a segment whose number is drawn are new: they have names that no file has, and two of one name are one.
use Rattle.std.proofs.Common.{◌≡◌, ℕ, Bool, true, false, List, [], ◌∷◌, ◌++◌, map, All, Contains, Option, Some, None, refl, sym, subst, ap, ◌∙◌, arith}
use Rattle.std.proofs.lemmas.List.Elements.{All-append, All-contains}
use Rattle.lu_types.specs.Names.{IsPart}
use Rattle.lu_types.specs.declared.kind.FileKind.{FileKind}
use Rattle.lu_types.specs.declared.kind.FileKind.TheVariants.{Commit, Cfs, Cfx, Fnm, Fdx, Fdt, Tis, Tii, Frq, Prx, Nrm, Sep, Del, Tvx, Tvd, Tvf}
use Rattle.lu_types.specs.declared.named_file.NamedFile.{NamedFile}
use Rattle.lu_model.proofs.Each.{all-from_each}
use Rattle.segment_infos.specs.declared.naming.LuceneName.TheVariants.{Part}
use Rattle.segment_infos.specs.LuceneNames.{SpellsName}
use Rattle.segment_infos.specs.Values.{CommitValue}
use Rattle.segment_infos.proofs.NameSpelled.{SpellsName-one}
use Rattle.check_index.specs.Files.{PartFiles}
use Rattle.segment_files.specs.Written.{file_if_there, checked_in_order, packed_file, packed_if}
use Rattle.lu_folder.specs.Drawing.{next_segment}
use Rattle.lu_folder.specs.Fresh.{AreNewFiles}
use Rattle.lu_folder.specs.declared.new_file.NewFile.{NewFile}
use Rattle.lu_folder.proofs.FreshLemmas.{segment-valid, segment-unlisted}
use Rattle.lu_folder.proofs.SameName.{only-is}
use Rattle.lu_changes.specs.Building.{new_file}
use Rattle.lu_changes.proofs.ContainsMap.{Contains-map}
use Rattle.lu_changes.proofs.NewFilesLemmas.{ArePartFiles}

-- ---- files of one kind are one

-- two of these files of one kind are one
abbrev pub AreOneByKind : List NamedFile → Type 0
AreOneByKind files = (one other : NamedFile) → Contains files one → Contains files other → one.kind ≡ other.kind → one ≡ other

-- the bytes of the part of a kind, where it is there
abbrev part_bytes : PartFiles → FileKind → Option (List ℕ)
part_bytes parts Fnm = parts.index.fnm
part_bytes parts Tis = parts.index.tis
part_bytes parts Tii = parts.index.tii
part_bytes parts Frq = parts.index.frq
part_bytes parts Prx = parts.index.prx
part_bytes parts Nrm = parts.index.nrm
part_bytes parts Fdx = parts.documents.fdx
part_bytes parts Fdt = parts.documents.fdt
part_bytes parts Tvx = parts.documents.tvx
part_bytes parts Tvd = parts.documents.tvd
part_bytes parts Tvf = parts.documents.tvf
part_bytes parts Commit = None
part_bytes parts Cfs = None
part_bytes parts Cfx = None
part_bytes parts (Sep field) = None
part_bytes parts Del = None

module _ (parts : PartFiles) where
  -- the file is the part of its kind
  abbrev IsOfParts : NamedFile → Type 0
  IsOfParts file = part_bytes parts file.kind ≡ Some file.bytes

  if-there : (kind : FileKind) (bytes : Option (List ℕ)) → part_bytes parts kind ≡ bytes → All IsOfParts (file_if_there kind bytes)
  if-there kind None is = all-from_each IsOfParts [] tt
  if-there kind (Some bytes) is = all-from_each IsOfParts ((record { kind = kind; bytes = bytes }) ∷ []) (is, tt)

  and-more : (front back : List NamedFile) → All IsOfParts front → All IsOfParts back → All IsOfParts (front ++ back)
  and-more front back ahead behind = All-append IsOfParts front back ahead behind

  in_order-parts : All IsOfParts (checked_in_order parts)
  in_order-parts =
      and-more _ _ (and-more _ _ (and-more _ _ (and-more _ _ (and-more _ _ (and-more _ _ (and-more _ _ (and-more _ _ (and-more _ _ (and-more _ _
      (if-there Fnm parts.index.fnm refl) (if-there Fdx parts.documents.fdx refl)) (if-there Fdt parts.documents.fdt refl)) (if-there Tis parts.index.tis refl)) (if-there Tii parts.index.tii refl))
      (if-there Frq parts.index.frq refl)) (if-there Prx parts.index.prx refl)) (if-there Nrm parts.index.nrm refl)) (if-there Tvx parts.documents.tvx refl)) (if-there Tvd parts.documents.tvd refl)) (if-there Tvf parts.documents.tvf refl)

  -- two parts of one kind are one
  parts-one : (one other : NamedFile) → IsOfParts one → IsOfParts other → one.kind ≡ other.kind → one ≡ other
  parts-one one other a b kinds = same (sym a ∙ ap (part_bytes parts) kinds ∙ b)
    where
      bytes_same : Some one.bytes ≡ Some other.bytes → one.bytes ≡ other.bytes
      bytes_same e = cc

      same : Some one.bytes ≡ Some other.bytes → one ≡ other
      same e = let bytes : one.bytes ≡ other.bytes = bytes_same e in λ i. record { kind = kinds i; bytes = bytes i }

-- so it is with the files of a segment
pub packed-one : (compound : Bool) (number : ℕ) (parts : PartFiles) → AreOneByKind (packed_if compound number parts)
packed-one true number parts = λ one other there also kinds. sym (only-is (packed_file number parts) one there) ∙ only-is (packed_file number parts) other also
packed-one false number parts = λ one other there also kinds.
    parts-one parts one other
    (All-contains (IsOfParts parts) (checked_in_order parts) one (in_order-parts parts) there)
    (All-contains (IsOfParts parts) (checked_in_order parts) other (in_order-parts parts) also) kinds

-- ---- the names

same_kind : (number : ℕ) (one other : FileKind) → Part number one ≡ Part number other → one ≡ other
same_kind number one other e = cc

module _ (names : List (List ℕ)) (commit : CommitValue) (number : ℕ) (drawn : next_segment names commit ≡ Some number) (files : List NamedFile) (parts : ArePartFiles files) where
  -- the new file spells the name of its part
  part-spells : (file : NamedFile) (new : NewFile) → Contains files file → new_file number file ≡ new → SpellsName new.name (Part number file.kind)
  part-spells file new there is =
      (((segment-valid names commit number drawn).0, All-contains (λ (part : NamedFile). IsPart part.kind) files file parts there), ap (λ (made : NewFile). made.name) (sym is))

  -- which is not listed
  part-unlisted : (file : NamedFile) (new : NewFile) → Contains files file → new_file number file ≡ new → ¬ Contains names new.name
  part-unlisted file new there is listed =
      let spells = part-spells file new there is in
      segment-unlisted names commit number (Part number file.kind) number drawn spells.0 refl (omega arith) (subst (λ (text : List ℕ). Contains names text) spells.1 listed)

  -- new files of one name are of one kind
  one-kind : (file other : NamedFile) (new second : NewFile) → Contains files file → Contains files other → new_file number file ≡ new → new_file number other ≡ second → new.name ≡ second.name → file.kind ≡ other.kind
  one-kind file other new second there also is is_other same =
      let spells = part-spells other second also is_other in
      same_kind number file.kind other.kind (SpellsName-one new.name (Part number file.kind) (Part number other.kind) (part-spells file new there is) (spells.0, same ∙ spells.1))

  -- the files of a segment with the drawn number are new
  pub drawn-new_files : AreOneByKind files → AreNewFiles names (map (new_file number) files)
  drawn-new_files one_by_kind = record {
    named = λ new there. let from = Contains-map (new_file number) files new there in (Part number from.0.kind, part-spells from.0 new from.1 from.2, tt);
    unlisted = λ new there. let from = Contains-map (new_file number) files new there in part-unlisted from.0 new from.1 from.2;
    one = λ new second there also same.
        let from = Contains-map (new_file number) files new there in
        let other = Contains-map (new_file number) files second also in
        sym from.2 ∙ ap (new_file number) (one_by_kind from.0 other.0 from.1 other.1 (one-kind from.0 other.0 new second from.1 other.1 from.2 other.2 same)) ∙ other.2;
  }
