-- Segments whose files are as before stand for the same indexes.
use Rattle.std.proofs.Common.{◌≡◌, ◌≢◌, ◌⊎◌, ℕ, ◌<◌, ◌≤◌, List, [], ◌∷◌, ◌++◌, map, Option, Some, None, Contains, refl, sym, subst, ◌∙◌, inl, inr, arith}
use Rattle.std.specs.List.{AllZip, flat_map}
use Rattle.std.proofs.lemmas.Bool.{cases_lt}
use Rattle.std.proofs.lemmas.List.Elements.{Contains-append_left, Contains-append_right}
use Rattle.lu_grammar.proofs.LawLemmas.{value_is_one}
use Rattle.lu_dir.specs.Files.{Files, contents}
use Rattle.lu_model.specs.Index.{Index}
use Rattle.segment_infos.specs.declared.infos.SegInfo.{SegInfo}
use Rattle.segment_infos.specs.declared.naming.LuceneName.{LuceneName}
use Rattle.segment_infos.specs.Format.{commit_plan}
use Rattle.segment_infos.specs.LuceneNames.{name_spelling}
use Rattle.segment_infos.specs.Referring.{line_names, referred_names}
use Rattle.segment_infos.specs.Values.{CommitValue, IsCommit}
use Rattle.segment_infos.proofs.OnlyFiles.{commit-only}
use Rattle.lu_folder.specs.declared.new_file.NewFile.{NewFile}
use Rattle.lu_folder.specs.Commits.{commit_file, Says, IsCurrent, HasCommitFile}
use Rattle.lu_folder.specs.Keeping.{AddsOnly, IsNew, IsWholeOrSame}
use Rattle.lu_folder.specs.Reading.{read_names}
use Rattle.lu_folder.proofs.StandingLemmas.{referred-made}
use Rattle.lu_folder.proofs.UnmadeLemmas.{good-there}
use Rattle.lu_changes.specs.Building.{empty_commit, change_on}
use Rattle.lu_reads.specs.Finding.{spelled_names}
use Rattle.lu_reads.specs.Standing.{StandsAs, StandAs, CurrentStands}
use Rattle.lu_changes.proofs.StandingReadLemmas.{some_same, map-Contains, map-same, read-referred}

-- ---- the commit that is built on

-- the commit is the current one; or there is none, and it is empty
abbrev pub IsBuiltOn : Files → CommitValue → Type 0
IsBuiltOn files before = ((generation : ℕ) × IsCurrent files generation before) ⊎ (((generation : ℕ) → ¬ HasCommitFile files generation) × (before ≡ empty_commit))

-- a commit that a file says can be one
pub Says-commit : (found : Option (List ℕ)) (commit : CommitValue) → Says found commit → IsCommit commit
Says-commit None commit says = absurd says
Says-commit (Some bytes) commit says = (commit-only bytes commit says).0

Says-one : (found : Option (List ℕ)) (one other : CommitValue) → Says found one → Says found other → one ≡ other
Says-one None one other first second = absurd first
Says-one (Some bytes) one other first second = value_is_one (commit_plan bytes) bytes one other first second

module _ (files : Files) where
  there-of_current : (generation : ℕ) (commit : CommitValue) → IsCurrent files generation commit → HasCommitFile files generation
  there-of_current generation commit current = record { is = current.good.is; there = good-there files generation commit current.good.says }

  current-generation : (one other : ℕ) (v w : CommitValue) → IsCurrent files one v → IsCurrent files other w → one ≡ other
  current-generation one other v w first second = by_order (cases_lt one other) (cases_lt other one)
    where
      by_order : (one < other) ⊎ (other ≤ one) → (other < one) ⊎ (one ≤ other) → one ≡ other
      by_order (inl less) which = absurd (first.last other w less second.good)
      by_order (inr most) (inl less) = absurd (second.last one v less first.good)
      by_order (inr most) (inr least) = omega arith

  current-commit : (one other : ℕ) (v w : CommitValue) → IsCurrent files one v → IsCurrent files other w → v ≡ w
  current-commit one other v w first second =
      Says-one (commit_file files other) v w (subst (λ (n : ℕ). Says (commit_file files n) v) (current-generation one other v w first second) first.good.says) second.good.says

  -- its segments stand for what the current commit stands for
  pub built_on-stands : (before : CommitValue) (indexes : List Index) → IsBuiltOn files before → CurrentStands files indexes → StandAs files before.segments indexes
  built_on-stands before indexes (inl (one, first)) (inl (other, commit, second, stand)) =
      subst (λ (c : CommitValue). StandAs files c.segments indexes) (current-commit other one commit before second first) stand
  built_on-stands before indexes (inl (one, first)) (inr (none, empty)) = absurd (none one (there-of_current one before first))
  built_on-stands before indexes (inr (none, is)) (inl (other, commit, second, stand)) = absurd (none other (there-of_current other commit second))
  built_on-stands before indexes (inr (none, is)) (inr (no_file, empty)) =
      subst (λ (c : CommitValue). StandAs files c.segments indexes) (sym is) (subst (λ (some : List Index). StandAs files [] some) (sym empty) tt)

-- ---- what is as before

module _ (old new : Files) where
  -- a segment whose files are as before
  pub line-kept : (line : SegInfo) (index : Index) → ((name : LuceneName) → Contains (line_names line) name → contents new (name_spelling name) ≡ contents old (name_spelling name)) → StandsAs old line index → StandsAs new line index
  line-kept line index kept stands = record {
    found = stands.found;
    read = record {
      told = λ told is. subst (λ (files : Files). stands.found ≡ map (contents files) (spelled_names line)) (some_same new told is) (stands.read.told old refl ∙ sym (map-same (contents new) (contents old) (spelled_names line) same));
      each = stands.read.each;
    };
    stands = stands.stands;
  }
    where
      same : (text : List ℕ) → Contains (spelled_names line) text → contents new text ≡ contents old text
      same text among =
          let (name, there, is) : (name : LuceneName) × Contains (read_names line) name × (name_spelling name ≡ text) = map-Contains name_spelling (read_names line) text among in
          subst (λ (t : List ℕ). contents new t ≡ contents old t) is (kept name (read-referred line name there))

  -- segments whose files are as before
  pub lines-kept : (lines : List SegInfo) (indexes : List Index) → ((name : LuceneName) → Contains (flat_map line_names lines) name → contents new (name_spelling name) ≡ contents old (name_spelling name))
      → StandAs old lines indexes → StandAs new lines indexes
  lines-kept [] [] kept stand = stand
  lines-kept [] (index ∷ indexes) kept stand = absurd stand
  lines-kept (line ∷ lines) [] kept stand = absurd stand
  lines-kept (line ∷ lines) (index ∷ indexes) kept (here, rest) = (
    line-kept line index (λ name among. kept name (Contains-append_left (line_names line) (flat_map line_names lines) name among)) here,
    lines-kept lines indexes (λ name among. kept name (Contains-append_right (line_names line) (flat_map line_names lines) name among)) rest,
  )

-- lists that agree one by one, and then others
pub AllZip-append : {A B : Type 0} (R : A → B → Type 0) (xs us : List A) (ys vs : List B) → AllZip R xs ys → AllZip R us vs → AllZip R (xs ++ us) (ys ++ vs)
AllZip-append R [] us [] vs front back = back
AllZip-append R [] us (y ∷ ys) vs front back = absurd front
AllZip-append R (x ∷ xs) us [] vs front back = absurd front
AllZip-append R (x ∷ xs) us (y ∷ ys) vs (here, front) back = (here, AllZip-append R xs us ys vs front back)

-- what a commit refers to is as before in the folder with a new one that refers to it too, where no new file has its name
pub before-kept : (old new : Files) (names : List (List ℕ)) (generation : ℕ) (commit before : CommitValue) (added : List NewFile)
    → AddsOnly (change_on names generation commit added) old new → IsNew (change_on names generation commit added) old new
    → ((name : LuceneName) → Contains (referred_names before) name → Contains (referred_names commit) name)
    → ((file : NewFile) (name : LuceneName) → Contains added file → Contains (referred_names before) name → file.name ≢ name_spelling name)
    → (name : LuceneName) → Contains (referred_names before) name → contents new (name_spelling name) ≡ contents old (name_spelling name)
before-kept old new names generation commit before added adds is_new also apart name among =
    by_case (referred-made (change_on names generation commit added) old new ((record { generation = generation; commit = commit }) ∷ []) names refl (0, omega arith, refl) adds is_new name (also name among))
  where
    by_case : IsWholeOrSame (change_on names generation commit added) old new (name_spelling name) → contents new (name_spelling name) ≡ contents old (name_spelling name)
    by_case (inl (file, there, same, whole)) = absurd (apart file name there among same)
    by_case (inr same) = same
