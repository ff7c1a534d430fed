-- A folder with the commit of `delete` made stands for the same indexes, with the documents of the term deleted.
use Rattle.std.proofs.Common.{◌≡◌, ℕ, ◌+◌, ◌^◌, Bool, true, false, List, [], ◌∷◌, map, Option, Some, None, Result, Ok, Err, Contains, refl, ap, subst, inl, inr, arith}
use Rattle.std.specs.List.{flat_map}
use Rattle.std.specs.FinMap.{keys}
use Rattle.std.proofs.lemmas.List.Elements.{All-contains}
use Rattle.lu_dir.specs.Files.{Files, contents}
use Rattle.lu_model.specs.Index.{Index}
use Rattle.segment_infos.specs.declared.naming.LuceneName.{LuceneName}
use Rattle.segment_infos.specs.Keeping.{HasOwnSpelling}
use Rattle.segment_infos.specs.LuceneNames.{name_spelling}
use Rattle.segment_infos.specs.Referring.{referred_names}
use Rattle.segment_infos.specs.Values.{CommitValue, IsCommit}
use Rattle.segment_infos.proofs.KeptNames.{own-referred_names}
use Rattle.check_index.specs.Segments.{SegmentValue}
use Rattle.lu_folder.specs.ChangeValues.{ChangeValue}
use Rattle.lu_folder.specs.Commits.{commit_file, IsCurrent}
use Rattle.lu_folder.specs.Keeping.{AddsOnly, IsNew, IsWholeOrSame}
use Rattle.lu_folder.specs.declared.choosing.Chosen.{Chosen}
use Rattle.lu_folder.specs.declared.new_file.NewFile.{NewFile}
use Rattle.lu_folder.proofs.StandingLemmas.{referred-made}
use Rattle.lu_changes.specs.declared.marking.Marking.{Marking}
use Rattle.lu_outcomes.specs.declared.outcome.Effect.TheVariants.{Commit}
use Rattle.lu_outcomes.specs.declared.outcome.Outcome.{Outcome}
use Rattle.lu_changes.specs.Building.{change_on}
use Rattle.lu_reads.specs.Segments.{AreReadAs}
use Rattle.lu_changes.specs.Deleting.{marked_index, markings_of, first_full, file_of, marked_lines, with_lines, marked_outcome, unless_full, MarksGive, DeleteDue}
use Rattle.lu_reads.specs.Standing.{StandAs, CurrentStands, Stands}
use Rattle.lu_changes.proofs.StandingKeptLemmas.{Says-commit, built_on-stands}
use Rattle.lu_changes.proofs.StandingDueLemmas.{idle, commits}
use Rattle.lu_changes.proofs.FollowLemmas.{Follows, follow-given}
use Rattle.lu_changes.proofs.DeletedNamesLemmas.{names-apart}
use Rattle.lu_changes.proofs.DeletedSegments.{segments-marked}

-- ---- what is due

-- the change marks the segments of the current commit
record IsMarking (files : Files) (field text : List ℕ) (change : ChangeValue) : Type 0 where
  chosen : Chosen
  current : IsCurrent files chosen.generation chosen.commit
  generation : ℕ
  xs : List SegmentValue
  read : AreReadAs (Some files) chosen.commit.segments xs
  none : first_full 0 (markings_of (keys files) field text chosen.commit.segments xs) ≡ None
  is : change ≡ change_on (keys files) generation (with_lines (marked_lines chosen.commit.segments (markings_of (keys files) field text chosen.commit.segments xs)) chosen.commit)
      (flat_map file_of (markings_of (keys files) field text chosen.commit.segments xs))

module _ (outcome : Outcome) (change : ChangeValue) (effect : outcome.effect ≡ Commit change) (files : Files) (field text : List ℕ) where
  -- a change that is due marks the segments
  due-marking : DeleteDue field text (Some files) outcome → IsMarking files field text change
  due-marking due = by_full (first_full 0 (markings_of (keys files) field text f.chosen.commit.segments f.xs)) refl f.gives
    where
      f : Follows (MarksGive field text) files outcome
      f = follow-given (MarksGive field text) outcome change effect files due

      by_full : (full : Option ℕ) → first_full 0 (markings_of (keys files) field text f.chosen.commit.segments f.xs) ≡ full
          → outcome ≡ unless_full full (marked_outcome (keys files) f.chosen.commit f.generation (markings_of (keys files) field text f.chosen.commit.segments f.xs)) → IsMarking files field text change
      by_full (Some place) is_full given = idle outcome change effect (ap (λ (o : Outcome). o.effect) given)
      by_full None is_full given = record {
        chosen = f.chosen;
        current = f.current;
        generation = f.generation;
        xs = f.xs;
        read = f.read;
        none = is_full;
        is = commits outcome change effect _ (ap (λ (o : Outcome). o.effect) given);
      }

-- ---- the law

module _ (old new : Files) (field text : List ℕ) (indexes : List Index) (chosen : Chosen) (current : IsCurrent old chosen.generation chosen.commit) (generation : ℕ) (xs : List SegmentValue) (read : AreReadAs (Some old) chosen.commit.segments xs)
    (none : first_full 0 (markings_of (keys old) field text chosen.commit.segments xs) ≡ None) where
  abbrev before : CommitValue
  before = chosen.commit

  abbrev markings : List Marking
  markings = markings_of (keys old) field text before.segments xs

  abbrev commit : CommitValue
  commit = with_lines (marked_lines before.segments markings) before

  abbrev files : List NewFile
  files = flat_map file_of markings

  marking-stands : AddsOnly (change_on (keys old) generation commit files) old new → IsNew (change_on (keys old) generation commit files) old new → StandAs old before.segments indexes
      → Stands new (map (marked_index field text) indexes)
  marking-stands adds is_new stand = record {
    generation = generation;
    commit = commit;
    newest = is_new.newest;
    good = is_new.current.good;
    segments = segments-marked old new field text (keys old) 0 before.segments xs indexes is.segments.lines read stand none (record {
      own = λ name among. All-contains HasOwnSpelling (referred_names commit) name (own-referred_names commit (Says-commit (commit_file new generation) commit is_new.current.good.says)) among;
      kept = name-kept;
      whole = is_new.whole;
    });
  }
    where
      is : IsCommit before
      is = Says-commit (commit_file old chosen.generation) before current.good.says

      name-kept : (name : LuceneName) → Contains (referred_names commit) name → Contains (referred_names before) name → contents new (name_spelling name) ≡ contents old (name_spelling name)
      name-kept name among also =
          by_case (referred-made (change_on (keys old) generation commit files) old new ((record { generation = generation; commit = commit }) ∷ []) (keys old) refl (0, omega arith, refl) adds is_new name among)
        where
          by_case : IsWholeOrSame (change_on (keys old) generation commit files) old new (name_spelling name) → contents new (name_spelling name) ≡ contents old (name_spelling name)
          by_case (inl (file, there, same, whole)) = absurd (names-apart (keys old) field text before xs is file name there also same)
          by_case (inr same) = same

-- the indexes that the folder stands for, with the documents of the term deleted
pub delete-marks : (field text : List ℕ) (old new : Files) (outcome : Outcome) (change : ChangeValue) (indexes : List Index)
    → DeleteDue field text (Some old) outcome → outcome.effect ≡ Commit change → AddsOnly change old new → IsNew change old new → CurrentStands old indexes → Stands new (map (marked_index field text) indexes)
delete-marks field text old new outcome change indexes due effect adds is_new stands =
    let m : IsMarking old field text change = due-marking outcome change effect old field text due in
    marking-stands old new field text indexes m.chosen m.current m.generation m.xs m.read m.none (subst (λ (c : ChangeValue). AddsOnly c old new) m.is adds) (subst (λ (c : ChangeValue). IsNew c old new) m.is is_new)
    (built_on-stands old m.chosen.commit indexes (inl (m.chosen.generation, m.current)) stands)
