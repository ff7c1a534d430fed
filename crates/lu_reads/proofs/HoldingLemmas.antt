-- Segments in memory: what is held of those of the folder, what they stand for, and their listing.
use Rattle.std.proofs.Common.{◌≡◌, ℕ, ◌+◌, ◌≤◌, List, [], ◌∷◌, ◌++◌, length, drop, map, All, Option, Some, None, sym, subst, ◌∙◌, append_assoc, append-nil, arith, inl, inr, refl}
use Rattle.std.proofs.lemmas.List.Elements.{All-nil, All-cons}
use Rattle.lu_dir.specs.Files.{Files}
use Rattle.lu_types.specs.FilePlans.{StandFor}
use Rattle.lu_types.specs.declared.kind.FileKind.{FileKind}
use Rattle.segment_infos.specs.declared.infos.SegInfo.{SegInfo}
use Rattle.check_index.specs.Segments.{SegmentValue, segment_files}
use Rattle.lu_listing.specs.Listing.{segment_text, listing}
use Rattle.lu_reads.specs.declared.holding.Held.{Held}
use Rattle.lu_outcomes.specs.declared.outcome.Outcome.{Outcome}
use Rattle.lu_outcomes.specs.Outcomes.{too_large_outcome}
use Rattle.lu_reads.specs.Finding.{folder_files}
use Rattle.lu_reads.specs.Checking.{JudgedSays, SegmentSays, SegmentsSay}
use Rattle.lu_reads.specs.Segments.{IsReadAs, AreReadAs}
use Rattle.lu_reads.specs.Holding.{IsHeld, IsHeldOf, IsTooLarge, AreHeldOf, IsMade}

-- ---- what is held

module _ (files : Option Files) where
  -- each segment that is held is in memory
  pub held-each : (lines : List SegInfo) (helds : List Held) (kind : Option FileKind) → AreHeldOf files lines helds kind → All IsHeld helds
  held-each [] [] kind are = All-nil IsHeld
  held-each [] (held ∷ helds) kind are = absurd are
  held-each (line ∷ lines) [] kind are = All-nil IsHeld
  held-each (line ∷ lines) (held ∷ helds) kind are = All-cons IsHeld held helds are.0.in_memory (held-each lines helds kind are.1)

  -- not more are held than there are lines
  pub held-count : (lines : List SegInfo) (helds : List Held) (kind : Option FileKind) → AreHeldOf files lines helds kind → length helds ≤ length lines
  held-count [] [] kind are = omega arith
  held-count [] (held ∷ helds) kind are = absurd are
  held-count (line ∷ lines) [] kind are = omega arith
  held-count (line ∷ lines) (held ∷ helds) kind are = omega (arith, held-count lines helds kind are.1)

  -- as many segments are read as there are lines
  pub read-count : (lines : List SegInfo) (xs : List SegmentValue) → AreReadAs files lines xs → length xs ≤ length lines
  read-count [] [] are = omega arith
  read-count [] (x ∷ xs) are = absurd are
  read-count (line ∷ lines) [] are = absurd are
  read-count (line ∷ lines) (x ∷ xs) are = omega (arith, read-count lines xs are.1)

  -- each stands for what some files stand for
  pub read-made : (lines : List SegInfo) (xs : List SegmentValue) → AreReadAs files lines xs → All IsMade xs
  read-made [] [] are = All-nil IsMade
  read-made [] (x ∷ xs) are = absurd are
  read-made (line ∷ lines) [] are = absurd are
  read-made (line ∷ lines) (x ∷ xs) are =
      All-cons IsMade x xs (record { folder = folder_files line are.0.found; line = line; stands = are.0.stands }) (read-made lines xs are.1)

  module _ (lines : List SegInfo) (place : ℕ) (line : SegInfo) (rest : List SegInfo) (split : drop place lines ≡ line ∷ rest) (helds : List Held)
      (before : (others : List Held) (kind : Option FileKind) → AreHeldOf files (drop place lines) others kind → AreHeldOf files lines (helds ++ others) kind) where
    -- one more is held
    pub held-more : (held : Held) → IsHeldOf files line held → (others : List Held) (kind : Option FileKind) → AreHeldOf files rest others kind → AreHeldOf files lines ((helds ++ held ∷ []) ++ others) kind
    held-more held is others kind are =
        subst (λ (all : List Held). AreHeldOf files lines all kind) (sym (append_assoc helds (held ∷ []) others))
        (before (held ∷ others) kind (subst (λ (ls : List SegInfo). AreHeldOf files ls (held ∷ others) kind) (sym split) (is, are)))

    -- a file of the next is too long
    pub held-large : (kind : FileKind) → IsTooLarge files line (Some kind) → AreHeldOf files lines helds (Some kind)
    held-large kind is =
        subst (λ (all : List Held). AreHeldOf files lines all (Some kind)) (append-nil helds)
        (before [] (Some kind) (subst (λ (ls : List SegInfo). AreHeldOf files ls [] (Some kind)) (sym split) is))

  -- ---- what they stand for

  module _ (line : SegInfo) (held : Held) (is : IsHeldOf files line held) where
    -- what is held of a segment is read for it
    held-read : (x : SegmentValue) → StandFor (segment_files (folder_files held.line.now held.files.found) held.line.now) x → IsReadAs files line x
    held-read x stands = record {
      found = held.files.found;
      read = is.read;
      stands = subst (λ (l : SegInfo). StandFor (segment_files (folder_files l held.files.found) l) x) is.same stands;
    }

    module _ (generation place : ℕ) where
      -- where it stands nothing is said of it
      held-silent : (x : SegmentValue) → StandFor (segment_files (folder_files held.line.now held.files.found) held.line.now) x → SegmentSays files generation place line None
      held-silent x stands = let read = held-read x stands in inr (read.found, read.read, (x, read.stands))

      -- or else its fault is
      held-says : (outcome : Outcome) → JudgedSays held.files.found generation place held.line.now (Some outcome) → SegmentSays files generation place line (Some outcome)
      held-says outcome says =
          inr (held.files.found, is.read, subst (λ (l : SegInfo). JudgedSays held.files.found generation place l (Some outcome)) is.same says)

  module _ (lines : List SegInfo) (helds : List Held) (kind : Option FileKind) (generation : ℕ) where
    -- the segments up to this place stand for these, and these lines are left
    pub record HaveStood (place : ℕ) (xs : List SegmentValue) : Type 0 where
      pub rest : List SegInfo
      pub left : AreHeldOf files rest (drop place helds) kind
      pub stand : (others : List SegmentValue) → AreReadAs files rest others → AreReadAs files lines (xs ++ others)
      pub says : (said : Option Outcome) → SegmentsSay files generation place rest said → SegmentsSay files generation 0 lines said

    -- none so far
    pub stood-none : AreHeldOf files lines helds kind → HaveStood 0 []
    stood-none are = record { rest = lines; left = are; stand = λ others read. read; says = λ said later. later }

    module _ (place : ℕ) (xs : List SegmentValue) (stood : HaveStood place xs) where
      module _ (held : Held) (split : drop place helds ≡ held ∷ drop (place + 1) helds) where
        -- the next stands too
        pub stood-more : (x : SegmentValue) → StandFor (segment_files (folder_files held.line.now held.files.found) held.line.now) x → HaveStood (place + 1) (xs ++ x ∷ [])
        stood-more x stands = go stood.rest (subst (λ (hs : List Held). AreHeldOf files stood.rest hs kind) split stood.left) stood.stand stood.says
          where
            go : (rest : List SegInfo) → AreHeldOf files rest (held ∷ drop (place + 1) helds) kind → ((others : List SegmentValue) → AreReadAs files rest others → AreReadAs files lines (xs ++ others))
                → ((said : Option Outcome) → SegmentsSay files generation place rest said → SegmentsSay files generation 0 lines said) → HaveStood (place + 1) (xs ++ x ∷ [])
            go [] left stand says = absurd left
            go (line ∷ rest) left stand says = record {
              rest = rest;
              left = left.1;
              stand = λ others are. subst (λ (all : List SegmentValue). AreReadAs files lines all) (sym (append_assoc xs (x ∷ []) others)) (stand (x ∷ others) (held-read line held left.0 x stands, are));
              says = λ said later. says said (inr (held-silent line held left.0 generation place x stands, later));
            }

        -- or its fault is said
        pub stood-fault : (outcome : Outcome) → JudgedSays held.files.found generation place held.line.now (Some outcome) → SegmentsSay files generation 0 lines (Some outcome)
        stood-fault outcome judged = go stood.rest (subst (λ (hs : List Held). AreHeldOf files stood.rest hs kind) split stood.left) stood.says
          where
            go : (rest : List SegInfo) → AreHeldOf files rest (held ∷ drop (place + 1) helds) kind → ((said : Option Outcome) → SegmentsSay files generation place rest said → SegmentsSay files generation 0 lines said)
                → SegmentsSay files generation 0 lines (Some outcome)
            go [] left says = absurd left
            go (line ∷ rest) left says = says (Some outcome) (inl (outcome, held-says line held left.0 generation place outcome judged, refl))

  -- all that are held stand, and no file is too long: so all segments do
  pub stood-all : (lines : List SegInfo) (helds : List Held) (generation place : ℕ) (xs : List SegmentValue) → drop place helds ≡ [] → HaveStood lines helds None generation place xs → AreReadAs files lines xs
  stood-all lines helds generation place xs none stood = go stood.rest (subst (λ (hs : List Held). AreHeldOf files stood.rest hs None) none stood.left) stood.stand
    where
      go : (rest : List SegInfo) → AreHeldOf files rest [] None → ((others : List SegmentValue) → AreReadAs files rest others → AreReadAs files lines (xs ++ others)) → AreReadAs files lines xs
      go [] left stand = subst (λ (all : List SegmentValue). AreReadAs files lines all) (append-nil xs) (stand [] tt)
      go (line ∷ rest) left stand = absurd left

  -- or a file of the next is, and that is said
  pub stood-large : (lines : List SegInfo) (helds : List Held) (kind : FileKind) (generation place : ℕ) (xs : List SegmentValue) (outcome : Outcome) → drop place helds ≡ [] → HaveStood lines helds (Some kind) generation place xs
      → outcome ≡ too_large_outcome kind → SegmentsSay files generation 0 lines (Some outcome)
  stood-large lines helds kind generation place xs outcome none stood is = go stood.rest (subst (λ (hs : List Held). AreHeldOf files stood.rest hs (Some kind)) none stood.left) stood.says
    where
      go : (rest : List SegInfo) → AreHeldOf files rest [] (Some kind) → ((said : Option Outcome) → SegmentsSay files generation place rest said → SegmentsSay files generation 0 lines said) → SegmentsSay files generation 0 lines (Some outcome)
      go [] left says = absurd (cc)
      go (line ∷ rest) left says = says (Some outcome) (inl (outcome, inl (kind, left, is), refl))

-- ---- their listing

-- none is left
pub none-left : (xs : List SegmentValue) → length xs ≡ 0 → xs ≡ []
none-left [] none = refl
none-left (x ∷ xs) none = absurd (omega (arith, none))

-- the listing of some segments, from this place on
abbrev pub listing_from : ℕ → List SegmentValue → List ℕ
listing_from place xs = listing place (map (λ x. x.index) xs)

-- one segment more in front, and one fewer behind
pub listing-more : (place : ℕ) (text whole : List ℕ) (x : SegmentValue) (xs : List SegmentValue) → text ++ listing_from place (x ∷ xs) ≡ whole → (text ++ segment_text place x.index) ++ listing_from (place + 1) xs ≡ whole
listing-more place text whole x xs so_far = append_assoc text (segment_text place x.index) (listing_from (place + 1) xs) ∙ so_far
