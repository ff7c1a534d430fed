-- The outcome of `check` that is due is one, and changes nothing.
use Rattle.std.proofs.Common.{◌≡◌, ℕ, ◌+◌, Bool, false, List, [], ◌∷◌, drop, map, All, cond, Option, Some, None, Result, Ok, Err, refl, sym, subst, ap, ◌∙◌, inl, inr, arith}
use Rattle.std.specs.Prelude.{option_map, option_and_then, slice_get, unwrap_or}
use Rattle.std.specs.Option.{ForSome}
use Rattle.std.proofs.lemmas.List.Elements.{All-head, All-tail}
use Rattle.lu_dir.specs.Files.{Files, contents}
use Rattle.lu_dir.specs.Loading.{IsLoadable, is_over, first_over}
use Rattle.lu_types.specs.FilePlans.{StandFor, IsFaultAmong}
use Rattle.lu_types.specs.declared.fault.Fault.{Fault}
use Rattle.lu_types.specs.declared.kind.FileKind.{FileKind}
use Rattle.segment_infos.specs.declared.infos.SegInfo.{SegInfo}
use Rattle.lu_folder.specs.Limits.{file_limit}
use Rattle.lu_folder.specs.Choosing.{IsTold}
use Rattle.lu_folder.specs.Reading.{read_names, first_too_large, kind_of_name}
use Rattle.lu_folder.specs.declared.choosing.Chosen.{Chosen}
use Rattle.lu_folder.specs.declared.fault.FolderFault.{FolderFault}
use Rattle.lu_folder.specs.declared.fault.FolderFault.TheVariants.{Failed, NoIndex, FileTooLarge, NotStanding, OutOfMemory}
use Rattle.lu_folder.proofs.OneAnswer.{newest-answer}
use Rattle.check_index.specs.Files.{FolderFiles, AreShort}
use Rattle.check_index.specs.Segments.{SegmentValue, segment_files}
use Rattle.check_index.proofs.MadeFiles.{no_fault, one_fault}
use Rattle.check_index.proofs.SegmentMade.{segment-made}
use Rattle.lu_outcomes.specs.declared.outcome.Outcome.{Outcome}
use Rattle.lu_outcomes.specs.Outcomes.{too_large_outcome}
use Rattle.lu_reads.specs.Finding.{spelled_names, AreRead, files_among, folder_files}
use Rattle.lu_reads.specs.Checking.{segment_fault, stands_outcome, JudgedSays, IsRefused, SegmentSays, SegmentsSay, CommitSays, Refuses, NewestSays, CheckDue}
use Rattle.lu_reads.proofs.FoundLemmas.{files-short, files-bytes}
use Rattle.lu_reads.proofs.IdleLemmas.{IsIdle, idle-without_effect}

-- a file that may be loaded is not too long
not_over : (found : Option (List ℕ)) → IsLoadable file_limit found → is_over file_limit found ≡ false
not_over None loadable = refl
not_over (Some bytes) loadable = let within = loadable.within in grind arith

-- where all of them may be loaded none is too long
none_over : (told : Files) (names : List (List ℕ)) → All (IsLoadable file_limit) (map (contents told) names) → first_over told file_limit names ≡ None
none_over told [] each = refl
none_over told (name ∷ names) each =
    ap (λ (over : Bool). cond over (Some 0) (option_map (λ place. place + 1) (first_over told file_limit names)))
    (not_over (contents told name) (All-head (IsLoadable file_limit) (contents told name) (map (contents told) names) each))
    ∙ ap (option_map (λ place. place + 1)) (none_over told names (All-tail (IsLoadable file_limit) (contents told name) (map (contents told) names) each))

-- files that were read are not too long
pub not_both : (told : Files) (line : SegInfo) (found : List (Option (List ℕ))) (kind : FileKind) → AreRead (Some told) line found → first_too_large told (read_names line) ≡ Some kind → ⊥
not_both told line found kind are first =
    let none = none_over told (spelled_names line) (subst (λ (files : List (Option (List ℕ))). All (IsLoadable file_limit) files) (are.told told refl) are.each) in
    let both : None ≡ Some kind = sym (ap (option_and_then (λ place. option_map kind_of_name (slice_get (read_names line) place))) none) ∙ first in
    cc

same_kind : {j k : FileKind} → Some j ≡ Some k → j ≡ k
same_kind e = cc

-- by files that were found one thing is said of a segment
judged-one : (found : List (Option (List ℕ))) (generation place : ℕ) (line : SegInfo) (one other : Option Outcome) → All (IsLoadable file_limit) found → JudgedSays found generation place line one → JudgedSays found generation place line other → one ≡ other
judged-one found generation place line None None each a b = refl
judged-one found generation place line None (Some other) each a b = absurd (no_fault (segment_files (folder_files line found) line) a.0 b.0 a.1 b.1)
judged-one found generation place line (Some one) None each a b = absurd (no_fault (segment_files (folder_files line found) line) b.0 a.0 b.1 a.1)
judged-one found generation place line (Some one) (Some other) each a b =
    let files = folder_files line found in
    let same = one_fault (segment_files files line) a.0 b.0 (segment-made files line (files-bytes (spelled_names line) found line each)) a.1 b.1 in
    ap (λ (o : Outcome). Some o) (a.2 ∙ ap (segment_fault generation place line) same ∙ sym b.2)

refused-one : (told : Files) (line : SegInfo) (one other : Option Outcome) → IsRefused (Some told) line one → IsRefused (Some told) line other → one ≡ other
refused-one told line None other a b = absurd a
refused-one told line (Some one) None a b = absurd b
refused-one told line (Some one) (Some other) a b =
    ap (λ (o : Outcome). Some o) (a.2 ∙ ap too_large_outcome (same_kind (sym (a.1 told refl) ∙ b.1 told refl)) ∙ sym b.2)

-- a segment of which a file is refused was not read
refused-not_read : (told : Files) (line : SegInfo) (found : List (Option (List ℕ))) (said : Option Outcome) → IsRefused (Some told) line said → AreRead (Some told) line found → ⊥
refused-not_read told line found None refused are = refused
refused-not_read told line found (Some outcome) refused are = not_both told line found refused.0 are (refused.1 told refl)

module _ (told : Files) (generation : ℕ) where
  segment-one : (place : ℕ) (line : SegInfo) (one other : Option Outcome) → SegmentSays (Some told) generation place line one → SegmentSays (Some told) generation place line other → one ≡ other
  segment-one place line one other (inl a) (inl b) = refused-one told line one other a b
  segment-one place line one other (inl a) (inr b) = absurd (refused-not_read told line b.0 one a b.1)
  segment-one place line one other (inr a) (inl b) = absurd (refused-not_read told line a.0 other b a.1)
  segment-one place line one other (inr a) (inr b) =
      let same : b.0 ≡ a.0 = b.1.told told refl ∙ sym (a.1.told told refl) in
      judged-one a.0 generation place line one other a.1.each a.2 (subst (λ (found : List (Option (List ℕ))). JudgedSays found generation place line other) same b.2)

  pub segments-one : (place : ℕ) (lines : List SegInfo) (one other : Option Outcome) → SegmentsSay (Some told) generation place lines one → SegmentsSay (Some told) generation place lines other → one ≡ other
  segments-one place [] one other a b = a ∙ sym b
  segments-one place (line ∷ lines) one other (inl a) (inl b) = a.2 ∙ segment-one place line (Some a.0) (Some b.0) a.1 b.1 ∙ sym b.2
  segments-one place (line ∷ lines) one other (inl a) (inr b) = let no : Some a.0 ≡ None = segment-one place line (Some a.0) None a.1 b.0 in absurd (cc)
  segments-one place (line ∷ lines) one other (inr a) (inl b) = let no : Some b.0 ≡ None = segment-one place line (Some b.0) None b.1 a.0 in absurd (cc)
  segments-one place (line ∷ lines) one other (inr a) (inr b) = segments-one (place + 1) lines one other a.1 b.1

  commit-one : (segments : List SegInfo) (one other : Outcome) → CommitSays (Some told) generation segments one → CommitSays (Some told) generation segments other → one ≡ other
  commit-one segments one other a b = a.2 ∙ ap (λ (said : Option Outcome). unwrap_or said (stands_outcome generation segments)) (segments-one 0 segments a.0 b.0 a.1 b.1) ∙ sym b.2

pub refuses-one : (fault : FolderFault) (one other : Outcome) → Refuses fault one → Refuses fault other → one ≡ other
refuses-one NoIndex one other a b = a ∙ sym b
refuses-one (FileTooLarge kind) one other a b = a ∙ sym b
refuses-one (NotStanding generation fault) one other a b = a ∙ sym b
refuses-one Failed one other a b = absurd a
refuses-one OutOfMemory one other a b = absurd a

newest-one : (told : Files) (answer : Result Chosen FolderFault) (one other : Outcome) → NewestSays (Some told) answer one → NewestSays (Some told) answer other → one ≡ other
newest-one told (Ok chosen) one other a b = commit-one told chosen.generation chosen.commit.segments one other a b
newest-one told (Err fault) one other a b = refuses-one fault one other a b

-- what says something is told
says-told : (files : Option Files) (answer : Result Chosen FolderFault) (outcome : Outcome) → NewestSays files answer outcome → IsTold answer
says-told files (Ok chosen) outcome says = tt
says-told files (Err NoIndex) outcome says = tt
says-told files (Err (FileTooLarge kind)) outcome says = tt
says-told files (Err (NotStanding generation fault)) outcome says = tt
says-told files (Err Failed) outcome says = says
says-told files (Err OutOfMemory) outcome says = says

-- the outcome of `check` that is due is one
pub CheckDue-one : (told : Files) (one other : Outcome) → CheckDue (Some told) one → CheckDue (Some told) other → one ≡ other
CheckDue-one told one other a b =
    let same = newest-answer told (a.0 told refl) b.1.0 a.1.0 (says-told (Some told) b.1.0 other b.1.2) (says-told (Some told) a.1.0 one a.1.2) (b.1.1 told refl) (a.1.1 told refl) in
    newest-one told a.1.0 one other a.1.2 (subst (λ (answer : Result Chosen FolderFault). NewestSays (Some told) answer other) same b.1.2)

-- ---- it changes nothing

-- the outcome that is said of a segment, if one is
abbrev pub AreIdle : Option Outcome → Type 0
AreIdle None = Unit {0}
AreIdle (Some outcome) = IsIdle outcome

segment-idle : (files : Option Files) (generation place : ℕ) (line : SegInfo) (said : Option Outcome) → SegmentSays files generation place line said → AreIdle said
segment-idle files generation place line None says = tt
segment-idle files generation place line (Some outcome) (inl a) = subst IsIdle (sym a.2) (idle-without_effect _ _ tt)
segment-idle files generation place line (Some outcome) (inr a) = subst IsIdle (sym a.2.2) (idle-without_effect _ _ tt)

pub segments-idle : (files : Option Files) (generation place : ℕ) (lines : List SegInfo) (said : Option Outcome) → SegmentsSay files generation place lines said → AreIdle said
segments-idle files generation place [] said says = subst AreIdle (sym says) tt
segments-idle files generation place (line ∷ lines) said (inl a) = subst AreIdle (sym a.2) (segment-idle files generation place line (Some a.0) a.1)
segments-idle files generation place (line ∷ lines) said (inr a) = segments-idle files generation (place + 1) lines said a.1

commit-idle : (generation : ℕ) (segments : List SegInfo) (said : Option Outcome) → AreIdle said → IsIdle (unwrap_or said (stands_outcome generation segments))
commit-idle generation segments None idle = idle-without_effect _ _ tt
commit-idle generation segments (Some outcome) idle = idle

-- nor does what is said of a folder
pub refuses-idle : (fault : FolderFault) (outcome : Outcome) → Refuses fault outcome → IsIdle outcome
refuses-idle NoIndex outcome says = subst IsIdle (sym says) (idle-without_effect _ _ tt)
refuses-idle (FileTooLarge kind) outcome says = subst IsIdle (sym says) (idle-without_effect _ _ tt)
refuses-idle (NotStanding generation fault) outcome says = subst IsIdle (sym says) (idle-without_effect _ _ tt)
refuses-idle Failed outcome says = absurd says
refuses-idle OutOfMemory outcome says = absurd says

newest-idle : (files : Option Files) (answer : Result Chosen FolderFault) (outcome : Outcome) → NewestSays files answer outcome → IsIdle outcome
newest-idle files (Ok chosen) outcome says = subst IsIdle (sym says.2) (commit-idle chosen.generation chosen.commit.segments says.0 (segments-idle files chosen.generation 0 chosen.commit.segments says.0 says.1))
newest-idle files (Err fault) outcome says = refuses-idle fault outcome says

-- what is due of `check` changes nothing
pub CheckDue-idle : (files : Option Files) (outcome : Outcome) → CheckDue files outcome → IsIdle outcome
CheckDue-idle files outcome due = newest-idle files due.1.0 outcome due.1.2

-- ---- what the program finds out

module _ (found : List (Option (List ℕ))) (names : List (List ℕ)) (line : SegInfo) (folder : FolderFiles) (are : folder ≡ files_among names found line) (spelled : names ≡ spelled_names line) where
  same_folder : folder ≡ folder_files line found
  same_folder = are ∙ ap (λ (ns : List (List ℕ)). files_among ns found line) spelled

  -- files that were found have as many bytes as files may have
  pub found-short : All (IsLoadable file_limit) found → AreShort folder
  found-short each = subst AreShort (sym are) (files-short names found line each)

  -- they stand
  pub found-stands : (x : SegmentValue) → StandFor (segment_files folder line) x → StandFor (segment_files (folder_files line found) line) x
  found-stands x stand = subst (λ (f : FolderFiles). StandFor (segment_files f line) x) same_folder stand

  -- so nothing is said of them
  pub judged-stands : (generation place : ℕ) (x : SegmentValue) → StandFor (segment_files folder line) x → JudgedSays found generation place line None
  judged-stands generation place x stand = (x, found-stands x stand)

  -- or have a fault
  pub judged-fault : (generation place : ℕ) (fault : Fault) (outcome : Outcome) → (fault.segment ≡ place) × IsFaultAmong (segment_files folder line) fault.spot → outcome ≡ segment_fault generation fault.segment line fault.spot
      → JudgedSays found generation place line (Some outcome)
  judged-fault generation place fault outcome judged is =
      (fault.spot, subst (λ (f : FolderFiles). IsFaultAmong (segment_files f line) fault.spot) same_folder judged.1, is ∙ ap (λ (n : ℕ). segment_fault generation n line fault.spot) judged.0)

-- what was loaded for a segment was read for it
pub segment-read : (files : Option Files) (generation place : ℕ) (line : SegInfo) (found : List (Option (List ℕ))) (said : Option Outcome) → ForSome files (λ told. found ≡ map (contents told) (spelled_names line)) → All (IsLoadable file_limit) found
    → JudgedSays found generation place line said → SegmentSays files generation place line said
segment-read files generation place line found said told each says = inr (found, record { told = told; each = each }, says)

-- a refusal says that a file of the segment is too long, where it is no answer of commits
pub segment-refused : (files : Option Files) (generation place : ℕ) (line : SegInfo) (fault : FolderFault) (outcome : Outcome)
    → ((kind : FileKind) → fault ≡ FileTooLarge kind → ForSome files (λ told. first_too_large told (read_names line) ≡ Some kind))
    → (fault ≡ NoIndex → ⊥) → ((other : ℕ) (spot : Fault) → fault ≡ NotStanding other spot → ⊥)
    → Refuses fault outcome → SegmentSays files generation place line (Some outcome)
segment-refused files generation place line NoIndex outcome large none not refuses = absurd (none refl)
segment-refused files generation place line (FileTooLarge kind) outcome large none not refuses = inl (kind, large kind refl, refuses)
segment-refused files generation place line (NotStanding other spot) outcome large none not refuses = absurd (not other spot refl)
segment-refused files generation place line Failed outcome large none not refuses = absurd refuses
segment-refused files generation place line OutOfMemory outcome large none not refuses = absurd refuses

module _ (files : Option Files) (generation : ℕ) (lines : List SegInfo) (place : ℕ) (line : SegInfo) (rest : List SegInfo) (split : drop place lines ≡ line ∷ rest) where
  -- the first segment of those that are left is one of which something is said
  pub say-here : (outcome : Outcome) → SegmentSays files generation place line (Some outcome) → SegmentsSay files generation place (drop place lines) (Some outcome)
  say-here outcome says = subst (λ (ls : List SegInfo). SegmentsSay files generation place ls (Some outcome)) (sym split) (inl (outcome, says, refl))

  -- or it stands, and the next are left
  pub say-later : (said : Option Outcome) → SegmentSays files generation place line None → SegmentsSay files generation (place + 1) rest said → SegmentsSay files generation place (drop place lines) said
  say-later said stands later = subst (λ (ls : List SegInfo). SegmentsSay files generation place ls said) (sym split) (inr (stands, later))

-- what a commit comes to that was chosen
pub says-chosen : (files : Option Files) (generation : ℕ) (segments : List SegInfo) (viewed chosen : Chosen) (outcome : Outcome) → generation ≡ viewed.generation → segments ≡ viewed.commit.segments → viewed ≡ chosen
    → CommitSays files generation segments outcome → CommitSays files chosen.generation chosen.commit.segments outcome
says-chosen files generation segments viewed chosen outcome same listed is says =
    subst (λ (c : Chosen). CommitSays files c.generation c.commit.segments outcome) is
    (subst (λ (n : ℕ). CommitSays files n viewed.commit.segments outcome) same (subst (λ (ss : List SegInfo). CommitSays files generation ss outcome) listed says))
