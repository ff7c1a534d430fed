-- What a command comes to by the segments of a commit that stand is one outcome.
use Rattle.std.proofs.Common.{◌≡◌, ℕ, ◌+◌, List, [], ◌∷◌, map, Option, Some, None, refl, sym, ap, subst, ◌∙◌, inl, inr}
use Rattle.lu_dir.specs.Files.{Files}
use Rattle.lu_types.specs.FilePlans.{StandFor}
use Rattle.lu_types.proofs.FileLaws.{one_meaning}
use Rattle.lu_model.specs.Index.{Index}
use Rattle.segment_infos.specs.declared.infos.SegInfo.{SegInfo}
use Rattle.check_index.specs.Segments.{SegmentValue, segment_files}
use Rattle.lu_outcomes.specs.declared.outcome.Outcome.{Outcome}
use Rattle.lu_reads.specs.Finding.{folder_files}
use Rattle.lu_reads.specs.Checking.{SegmentsSay}
use Rattle.lu_reads.specs.Segments.{IsReadAs, AreReadAs, SegmentsGive}
use Rattle.lu_reads.specs.Standing.{StandsAs, StandAs}
use Rattle.lu_reads.proofs.CheckLemmas.{segments-one, segments-idle}
use Rattle.lu_reads.proofs.IdleLemmas.{IsIdle}

-- where all segments stand nothing is said of any
pub read-silent : (files : Option Files) (generation place : ℕ) (lines : List SegInfo) (xs : List SegmentValue) → AreReadAs files lines xs → SegmentsSay files generation place lines None
read-silent files generation place [] [] are = refl
read-silent files generation place [] (x ∷ xs) are = absurd are
read-silent files generation place (line ∷ lines) [] are = absurd are
read-silent files generation place (line ∷ lines) (x ∷ xs) are = inr (inr (are.0.found, are.0.read, (x, are.0.stands)), read-silent files generation (place + 1) lines xs are.1)

-- what a segment stands for is one
one-read : (told : Files) (line : SegInfo) (x y : SegmentValue) → IsReadAs (Some told) line x → IsReadAs (Some told) line y → x ≡ y
one-read told line x y a b =
    let same : b.found ≡ a.found = b.read.told told refl ∙ sym (a.read.told told refl) in
    one_meaning (segment_files (folder_files line a.found) line) x y a.stands
    (subst (λ (found : List (Option (List ℕ))). StandFor (segment_files (folder_files line found) line) y) same b.stands)

-- and so is what all of them stand for
pub read-one : (told : Files) (lines : List SegInfo) (xs ys : List SegmentValue) → AreReadAs (Some told) lines xs → AreReadAs (Some told) lines ys → xs ≡ ys
read-one told [] [] [] a b = refl
read-one told [] [] (y ∷ ys) a b = absurd b
read-one told [] (x ∷ xs) ys a b = absurd a
read-one told (line ∷ lines) [] ys a b = absurd a
read-one told (line ∷ lines) (x ∷ xs) [] a b = absurd b
read-one told (line ∷ lines) (x ∷ xs) (y ∷ ys) a b = let here = one-read told line x y a.0 b.0 in let later = read-one told lines xs ys a.1 b.1 in cc

-- a segment that stands for an index has it
pub read-index : (told : Files) (line : SegInfo) (x : SegmentValue) (index : Index) → IsReadAs (Some told) line x → StandsAs told line index → x.index ≡ index
read-index told line x index r s =
    let same : s.found ≡ r.found = s.read.told told refl ∙ sym (r.read.told told refl) in
    let held = subst (λ (found : List (Option (List ℕ))). StandFor (segment_files (folder_files line found) line) s.stands.0) same s.stands.1 in
    ap (λ (y : SegmentValue). y.index) (one_meaning (segment_files (folder_files line r.found) line) x s.stands.0 r.stands held) ∙ s.stands.2

-- so it is of each
pub read-indexes : (told : Files) (lines : List SegInfo) (xs : List SegmentValue) (indexes : List Index) → AreReadAs (Some told) lines xs → StandAs told lines indexes → map (λ x. x.index) xs ≡ indexes
read-indexes told [] [] [] read stand = refl
read-indexes told [] [] (index ∷ indexes) read stand = absurd stand
read-indexes told [] (x ∷ xs) indexes read stand = absurd read
read-indexes told (line ∷ lines) [] indexes read stand = absurd read
read-indexes told (line ∷ lines) (x ∷ xs) [] read stand = absurd stand
read-indexes told (line ∷ lines) (x ∷ xs) (index ∷ indexes) read stand =
    let here = read-index told line x index read.0 stand.0 in let later = read-indexes told lines xs indexes read.1 stand.1 in cc

module _ (told : Files) (generation : ℕ) (lines : List SegInfo) (Give : List SegmentValue → Outcome → Type 0) where
  -- something is said of one of them, or all stand
  not_both : (outcome : Outcome) (xs : List SegmentValue) → SegmentsSay (Some told) generation 0 lines (Some outcome) → AreReadAs (Some told) lines xs → ⊥
  not_both outcome xs says are = let no : Some outcome ≡ None = segments-one told generation 0 lines (Some outcome) None says (read-silent (Some told) generation 0 lines xs are) in cc

  same_said : (one other : Outcome) → Some one ≡ Some other → one ≡ other
  same_said one other same = cc

  -- two outcomes that a command comes to by them go together as those by the same values do
  pub give-both : (Both : Outcome → Outcome → Type 0) → ((o : Outcome) → Both o o) → (one other : Outcome) → ((xs : List SegmentValue) → Give xs one → Give xs other → Both one other)
      → SegmentsGive (Some told) generation lines Give one → SegmentsGive (Some told) generation lines Give other → Both one other
  give-both Both itself one other alone (inl a) (inl b) = subst (Both one) (same_said one other (segments-one told generation 0 lines (Some one) (Some other) a b)) (itself one)
  give-both Both itself one other alone (inl a) (inr b) = absurd (not_both one b.0 a b.1)
  give-both Both itself one other alone (inr a) (inl b) = absurd (not_both other a.0 b a.1)
  give-both Both itself one other alone (inr a) (inr b) =
      let same = read-one told lines b.0 a.0 b.1 a.1 in
      alone a.0 a.2 (subst (λ (xs : List SegmentValue). Give xs other) same b.2)

  -- so what a command comes to by them is one outcome, where it is one by what they stand for
  pub give-one : (one other : Outcome) → ((xs : List SegmentValue) → Give xs one → Give xs other → one ≡ other)
      → SegmentsGive (Some told) generation lines Give one → SegmentsGive (Some told) generation lines Give other → one ≡ other
  give-one = give-both (λ o p. o ≡ p) (λ o. refl)

-- and it changes nothing
pub give-idle : (files : Option Files) (generation : ℕ) (lines : List SegInfo) (Give : List SegmentValue → Outcome → Type 0) (outcome : Outcome) → ((xs : List SegmentValue) → Give xs outcome → IsIdle outcome)
    → SegmentsGive files generation lines Give outcome → IsIdle outcome
give-idle files generation lines Give outcome idle (inl a) = segments-idle files generation 0 lines (Some outcome) a
give-idle files generation lines Give outcome idle (inr a) = idle a.0 a.2
