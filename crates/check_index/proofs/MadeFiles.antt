-- Files that are needed, of which those that were read are made of bytes: they stand for one thing, or have one first fault.
use Rattle.std.proofs.Common.{◌≡◌, ◌⊎◌, ℕ, List, [], ◌∷◌, Bool, true, false, Option, Some, None, Result, Ok, Err, refl, sym, subst, ◌∙◌, inl, inr}
use Rattle.std.specs.Option.{ForSome}
use Rattle.lu_grammar.specs.Bytes.{IsBytes}
use Rattle.lu_grammar.specs.Plans.{Plan, Broken, read_file}
use Rattle.lu_grammar.specs.Meaning.{Reads}
use Rattle.lu_grammar.proofs.LawLemmas.{value_is_one, fault_is_one, no_fault_if_read}
use Rattle.lu_grammar.proofs.Files.{read_file-judges, FileJudges}
use Rattle.lu_types.specs.declared.kind.FileKind.{FileKind}
use Rattle.lu_types.specs.declared.fault.Spot.{Spot}
use Rattle.lu_types.specs.FilePlans.{FilePlan, stands, needs, StandFor, missing, followed_by, each_file, where_needed, IsFaultAmong}
use Rattle.lu_types.proofs.SpotLemmas.{spot_of, same_spot}
use Rattle.check_index.proofs.ReadBytes.{read-bytes}

-- each file that is needed is made of bytes, where those before it were read
abbrev pub AreMade : {X : Type 0} → FilePlan X → Type 0
AreMade (stands y) = Unit {0}
AreMade (needs kind None plan after) = Unit {0}
AreMade (needs {V} kind (Some bytes) plan after) = IsBytes bytes × ((v : V) → Reads (plan bytes) bytes v → AreMade (after bytes v))

-- where they stand they have no fault
pub no_fault : {X : Type 0} (files : FilePlan X) (x : X) (spot : Spot) → StandFor files x → IsFaultAmong files spot → ⊥
no_fault (stands z) x spot a fault = fault
no_fault (needs kind None plan after) x spot a fault = a
no_fault (needs kind (Some bytes) plan after) x spot (v, reads, a) (inl f) = no_fault_if_read (plan bytes) bytes v spot.offset spot.rule (read-bytes (plan bytes) bytes v reads) reads f.1
no_fault (needs kind (Some bytes) plan after) x spot (v, reads, a) (inr (w, also, f)) =
    no_fault (after bytes v) x spot a (subst (λ u. IsFaultAmong (after bytes u) spot) (value_is_one (plan bytes) bytes w v also reads) f)

-- they have one first fault at most
pub one_fault : {X : Type 0} (files : FilePlan X) (a b : Spot) → AreMade files → IsFaultAmong files a → IsFaultAmong files b → a ≡ b
one_fault (stands z) a b made f g = absurd f
one_fault (needs kind None plan after) a b made f g = f ∙ sym g
one_fault (needs kind (Some bytes) plan after) a b made (inl f) (inl g) =
    let same = fault_is_one (plan bytes) bytes a.offset a.rule b.offset b.rule made.0 f.1 g.1 in
    same_spot a b (f.0 ∙ sym g.0) same.0 same.1
one_fault (needs kind (Some bytes) plan after) a b made (inl f) (inr (w, also, g)) = absurd (no_fault_if_read (plan bytes) bytes w a.offset a.rule made.0 also f.1)
one_fault (needs kind (Some bytes) plan after) a b made (inr (v, reads, f)) (inl g) = absurd (no_fault_if_read (plan bytes) bytes v b.offset b.rule made.0 reads g.1)
one_fault (needs kind (Some bytes) plan after) a b made (inr (v, reads, f)) (inr (w, also, g)) =
    one_fault (after bytes v) a b (made.1 v reads) f (subst (λ u. IsFaultAmong (after bytes u) b) (value_is_one (plan bytes) bytes w v also reads) g)

-- they stand, or they have a first fault
pub stand_or_fault : {X : Type 0} (files : FilePlan X) → AreMade files → ((x : X) × StandFor files x) ⊎ ((spot : Spot) × IsFaultAmong files spot)
stand_or_fault (stands z) made = inl (z, refl)
stand_or_fault (needs kind None plan after) made = inr (missing kind, refl)
stand_or_fault {X} (needs {V} {R} kind (Some bytes) plan after) made = go (read_file (plan bytes) bytes) (read_file-judges (plan bytes) bytes made.0) (λ v reads. stand_or_fault (after bytes v) (made.1 v reads))
  where
    go : (r : Result V Broken) → FileJudges (plan bytes) bytes r → ((v : V) → Reads (plan bytes) bytes v → ((x : X) × StandFor (after bytes v) x) ⊎ ((spot : Spot) × IsFaultAmong (after bytes v) spot))
        → ((x : X) × StandFor (needs kind (Some bytes) plan after) x) ⊎ ((spot : Spot) × IsFaultAmong (needs kind (Some bytes) plan after) spot)
    go (Ok v) reads later = elim (later v reads) [
      | inl (x, a) ↦ inl (x, (v, reads, a))
      | inr (spot, f) ↦ inr (spot, inr (v, reads, f))
    ]
    go (Err b) fault later = inr (spot_of kind b.offset b.rule, inl (refl, fault))

-- ---- how files are put together

-- a needed file
pub needed-made : {X V R : Type 0} (kind : FileKind) (found : Option (List ℕ)) (plan : List ℕ → Plan V R) (after : List ℕ → V → FilePlan X) → ForSome found IsBytes → ((bytes : List ℕ) (v : V) → Reads (plan bytes) bytes v → AreMade (after bytes v))
    → AreMade (needs kind found plan after)
needed-made kind None plan after made later = tt
needed-made kind (Some bytes) plan after made later = (made bytes refl, later bytes)

-- some files, and then others
pub followed-made : {A X : Type 0} (files : FilePlan A) (next : A → FilePlan X) → AreMade files → ((a : A) → StandFor files a → AreMade (next a)) → AreMade (followed_by files next)
followed-made (stands a) next made later = later a refl
followed-made (needs kind None plan after) next made later = tt
followed-made (needs kind (Some bytes) plan after) next made later = (made.0, λ v reads. followed-made (after bytes v) next (made.1 v reads) (λ a stand. later a (v, reads, stand)))

-- files that the test asks for
pub asked-made : {X : Type 0} (test : Bool) (otherwise : X) (files : FilePlan X) → AreMade files → AreMade (where_needed test otherwise files)
asked-made true otherwise files made = made
asked-made false otherwise files made = tt

-- files that each of some things needs
pub each-made : {A S : Type 0} (file : A → S → FilePlan S) (all : List A) (s : S) → ((a : A) (s : S) → AreMade (file a s)) → AreMade (each_file file all s)
unfolding each_file
each-made file [] s made = tt
each-made file (a ∷ rest) s made = followed-made (file a s) (each_file file rest) (made a s) (λ t stand. each-made file rest t made)
