-- No new file of deleted documents has the name of a file that the old commit refers to.
use Rattle.std.proofs.Common.{◌≡◌, ◌≢◌, ◌⊎◌, ℕ, zero, suc, ◌+◌, ◌<◌, List, [], ◌∷◌, ◌++◌, Option, Some, None, ℤ, pos, negsuc, All, Contains, refl, sym, ap, subst, ◌∙◌, inl, inr, arith}
use Rattle.std.specs.List.{flat_map}
use Rattle.std.proofs.lemmas.List.Elements.{All-contains, Contains-append_cases}
use Rattle.lu_model.proofs.Words.{IsIn, EachPair}
use Rattle.lu_model.proofs.Each.{each_at, each-from_pairs}
use Rattle.lu_types.specs.declared.kind.FileKind.{FileKind}
use Rattle.lu_types.specs.declared.stored.SharedStore.{SharedStore}
use Rattle.segment_infos.specs.declared.infos.SegInfo.{SegInfo}
use Rattle.segment_infos.specs.declared.naming.LuceneName.{LuceneName}
use Rattle.segment_infos.specs.declared.naming.LuceneName.TheVariants.{Part, Del, Sep}
use Rattle.segment_infos.specs.Keeping.{HasOwnSpelling}
use Rattle.segment_infos.specs.LuceneNames.{name_spelling}
use Rattle.segment_infos.specs.Referring.{names_of_parts, own_part_names, store_part_names, del_names, sep_names, sep_names_from, norm_names, line_names, referred_names}
use Rattle.segment_infos.specs.Values.{CommitValue, IsCommit}
use Rattle.segment_infos.proofs.KeptNames.{own-referred_names}
use Rattle.segment_infos.proofs.NameSpelled.{name_spelling-same}
use Rattle.check_index.specs.Segments.{SegmentValue}
use Rattle.lu_folder.specs.Drawing.{next_del}
use Rattle.lu_folder.specs.declared.new_file.NewFile.{NewFile}
use Rattle.lu_folder.proofs.FreshLemmas.{del-later}
use Rattle.lu_folder.proofs.SameName.{none-within, only-is}
use Rattle.lu_changes.specs.Deleting.{markings_of, file_of}
use Rattle.lu_changes.proofs.StandingReadLemmas.{map-Contains}
use Rattle.lu_changes.proofs.MarkedFilesLemmas.{IsNewDelAmong, file-among}

-- ---- the file of deleted documents among the names of a line

-- the names are of no such file
abbrev HaveNoDel : List LuceneName → Type 0
HaveNoDel names = (number generation : ℕ) → ¬ Contains names (Del number generation)

no-del-append : (front back : List LuceneName) → HaveNoDel front → HaveNoDel back → HaveNoDel (front ++ back)
no-del-append front back ahead behind number generation among = by_part (Contains-append_cases front back (Del number generation) among)
  where
    by_part : Contains front (Del number generation) ⊎ Contains back (Del number generation) → ⊥
    by_part (inl here) = ahead number generation here
    by_part (inr here) = behind number generation here

no-del-parts : (number : ℕ) (some : List FileKind) → HaveNoDel (names_of_parts number some)
no-del-parts number some n generation among = let found = map-Contains (Part number) some (Del n generation) among in other found.0 found.2
  where
    other : (kind : FileKind) → Part number kind ≡ Del n generation → ⊥
    other kind e = cc

no-del-store : (store : Option SharedStore) → HaveNoDel (store_part_names store)
no-del-store None number generation among = none-within (Del number generation) among
no-del-store (Some store) number generation among = no-del-parts store.number _ number generation among

no-del-sep : (number field : ℕ) (generation : ℤ) → HaveNoDel (sep_names number field generation)
no-del-sep number field (pos zero) n g among = none-within (Del n g) among
no-del-sep number field (pos (suc m)) n g among = other (only-is (Sep number (suc m) field) (Del n g) among)
  where
    other : Sep number (suc m) field ≡ Del n g → ⊥
    other e = cc
no-del-sep number field (negsuc m) n g among = none-within (Del n g) among

no-del-seps : (number field : ℕ) (generations : List ℤ) → HaveNoDel (sep_names_from number field generations)
no-del-seps number field [] n g among = none-within (Del n g) among
no-del-seps number field (generation ∷ generations) n g among =
    no-del-append (sep_names number field generation) (sep_names_from number (field + 1) generations) (no-del-sep number field generation) (no-del-seps number (field + 1) generations) n g among

pub no-del-norms : (number : ℕ) (counted : Option (List ℤ)) → HaveNoDel (norm_names number counted)
no-del-norms number None n g among = none-within (Del n g) among
no-del-norms number (Some generations) n g among = no-del-seps number 0 generations n g among

del-same : {m n g h : ℕ} → Del m g ≡ Del n h → (m ≡ n) × (g ≡ h)
del-same e = (cc, cc)

del-named : (number : ℕ) (del_gen : Option ℕ) (n g : ℕ) → Contains (del_names number del_gen) (Del n g) → (n ≡ number) × (del_gen ≡ Some g)
del-named number None n g among = absurd (none-within (Del n g) among)
del-named number (Some generation) n g among =
    let same = del-same (only-is (Del number generation) (Del n g) among) in
    (sym same.0, ap (λ (h : ℕ). Some h) same.1)

-- a line refers to no other than its own
del-referred : (line : SegInfo) (n g : ℕ) → Contains (line_names line) (Del n g) → (n ≡ line.number) × (line.del_gen ≡ Some g)
del-referred line n g among =
    by_own (Contains-append_cases (own_part_names line) (store_part_names line.store ++ (del_names line.number line.del_gen ++ norm_names line.number line.norm_gens)) (Del n g) among)
  where
    by_del : Contains (del_names line.number line.del_gen) (Del n g) ⊎ Contains (norm_names line.number line.norm_gens) (Del n g) → (n ≡ line.number) × (line.del_gen ≡ Some g)
    by_del (inl here) = del-named line.number line.del_gen n g here
    by_del (inr here) = absurd (no-del-norms line.number line.norm_gens n g here)

    by_store : Contains (store_part_names line.store) (Del n g) ⊎ Contains (del_names line.number line.del_gen ++ norm_names line.number line.norm_gens) (Del n g) → (n ≡ line.number) × (line.del_gen ≡ Some g)
    by_store (inl here) = absurd (no-del-store line.store n g here)
    by_store (inr here) = by_del (Contains-append_cases (del_names line.number line.del_gen) (norm_names line.number line.norm_gens) (Del n g) here)

    by_own : Contains (own_part_names line) (Del n g) ⊎ Contains (store_part_names line.store ++ (del_names line.number line.del_gen ++ norm_names line.number line.norm_gens)) (Del n g) → (n ≡ line.number) × (line.del_gen ≡ Some g)
    by_own (inl here) = absurd (no-del-parts line.number _ n g here)
    by_own (inr here) = by_store (Contains-append_cases (store_part_names line.store) (del_names line.number line.del_gen ++ norm_names line.number line.norm_gens) (Del n g) here)

-- ---- lines of a commit

-- a name of some line
referred-line : (lines : List SegInfo) (name : LuceneName) → Contains (flat_map line_names lines) name → (line : SegInfo) × IsIn line lines × Contains (line_names line) name
referred-line [] name among = absurd (none-within name among)
referred-line (line ∷ lines) name among = by_part (Contains-append_cases (line_names line) (flat_map line_names lines) name among) (referred-line lines name)
  where
    by_part : Contains (line_names line) name ⊎ Contains (flat_map line_names lines) name → (Contains (flat_map line_names lines) name → (one : SegInfo) × IsIn one lines × Contains (line_names one) name)
        → (one : SegInfo) × IsIn one (line ∷ lines) × Contains (line_names one) name
    by_part (inl here) rest = (line, inl refl, here)
    by_part (inr later) rest = let (one, there, has) : (one : SegInfo) × IsIn one lines × Contains (line_names one) name = rest later in (one, inr there, has)

-- two lines of one number are one
same-line : (lines : List SegInfo) → EachPair (λ s later. s.number ≢ later.number) lines → (one other : SegInfo) → IsIn one lines → IsIn other lines → one.number ≡ other.number → one ≡ other
same-line [] apart one other there also same = absurd there
same-line (line ∷ lines) apart one other (inl first) (inl second) same = first ∙ sym second
same-line (line ∷ lines) apart one other (inl first) (inr later) same = absurd (each_at (λ (s : SegInfo). line.number ≢ s.number) other lines apart.0 later (ap (λ (s : SegInfo). s.number) (sym first) ∙ same))
same-line (line ∷ lines) apart one other (inr later) (inl second) same = absurd (each_at (λ (s : SegInfo). line.number ≢ s.number) one lines apart.0 later (ap (λ (s : SegInfo). s.number) (sym second) ∙ sym same))
same-line (line ∷ lines) apart one other (inr later) (inr also) same = same-line lines apart.1 one other later also same

-- no new file has the name of one that the commit refers to
pub names-apart : (names : List (List ℕ)) (field text : List ℕ) (before : CommitValue) (xs : List SegmentValue) → IsCommit before → (file : NewFile) (name : LuceneName)
    → Contains (flat_map file_of (markings_of names field text before.segments xs)) file → Contains (referred_names before) name → file.name ≢ name_spelling name
names-apart names field text before xs is file name there among same =
    let new : IsNewDelAmong names before.segments file = file-among names field text before.segments xs file there in
    let own : All HasOwnSpelling (referred_names before) = own-referred_names before is in
    let spelled : name_spelling (Del new.line.number new.new.generation) ≡ name_spelling name = ap (λ (f : NewFile). f.name) (sym new.new.is) ∙ same in
    let name_is : Del new.line.number new.new.generation ≡ name = name_spelling-same (Del new.line.number new.new.generation) name tt (All-contains HasOwnSpelling (referred_names before) name own among) spelled in
    let (line, has, refers) : (line : SegInfo) × IsIn line before.segments × Contains (line_names line) name = referred-line before.segments name among in
    let del : (new.line.number ≡ line.number) × (line.del_gen ≡ Some new.new.generation) = del-referred line new.line.number new.new.generation (subst (λ (n : LuceneName). Contains (line_names line) n) (sym name_is) refers) in
    let same_line : new.line ≡ line = same-line before.segments (each-from_pairs (λ s later. s.number ≢ later.number) before.segments is.segments.apart) new.line line new.among has del.0 in
    let later : new.new.generation < new.new.generation = del-later names line new.new.generation new.new.generation (subst (λ (l : SegInfo). next_del names l ≡ Some new.new.generation) same_line new.new.drawn) del.1 in
    omega (arith, later)
