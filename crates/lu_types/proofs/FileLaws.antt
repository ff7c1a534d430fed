-- Files that are needed stand for one thing, or have one first fault.
use Rattle.std.proofs.Common.{◌≡◌, ◌⊎◌, ℕ, List, [], ◌∷◌, ◌++◌, Option, Some, None, Result, Ok, Err, refl, sym, subst, ◌∙◌, inl, inr}
use Rattle.std.specs.Option.{ForSome}
use Rattle.lu_grammar.specs.Bytes.{IsBytes}
use Rattle.lu_grammar.specs.Plans.{Plan, Broken, read_file}
use Rattle.lu_grammar.specs.Meaning.{Reads}
use Rattle.lu_grammar.proofs.LawLemmas.{value_is_one, fault_is_one, no_fault_if_read}
use Rattle.lu_grammar.proofs.Files.{read_file-judges, FileJudges}
use Rattle.lu_types.specs.declared.kind.FileKind.{FileKind}
use Rattle.lu_types.specs.declared.fault.Spot.{Spot}
use Rattle.lu_types.specs.declared.fault.CodecFault.{CodecFault}
use Rattle.lu_types.specs.declared.fault.CodecFault.TheVariants as faults
use Rattle.lu_types.specs.Judging.{Checks}
use Rattle.lu_types.specs.FilePlans.{FilePlan, stands, needs, StandFor, missing, followed_by, each_file, IsFaultAmong, Judges, HoldBytes}
use Rattle.lu_types.proofs.SpotLemmas.{spot_of, same_spot}

-- they stand for one thing at most
pub one_meaning : {X : Type 0} (files : FilePlan X) (x y : X) → StandFor files x → StandFor files y → x ≡ y
one_meaning (stands z) x y a b = a ∙ sym b
one_meaning (needs kind None plan after) x y a b = absurd a
one_meaning (needs kind (Some bytes) plan after) x y (v, reads, a) (w, also, b) =
    one_meaning (after bytes v) x y a (subst (λ u. StandFor (after bytes u) y) (value_is_one (plan bytes) bytes w v also reads) b)

-- where they stand they have no fault
pub no_fault_if_they_stand : {X : Type 0} (files : FilePlan X) (x : X) (spot : Spot) → HoldBytes files → StandFor files x → IsFaultAmong files spot → ⊥
no_fault_if_they_stand (stands z) x spot made a fault = fault
no_fault_if_they_stand (needs kind None plan after) x spot made a fault = a
no_fault_if_they_stand (needs kind (Some bytes) plan after) x spot made (v, reads, a) (inl f) = no_fault_if_read (plan bytes) bytes v spot.offset spot.rule made.0 reads f.1
no_fault_if_they_stand (needs kind (Some bytes) plan after) x spot made (v, reads, a) (inr (w, also, f)) =
    no_fault_if_they_stand (after bytes v) x spot (made.1 v) a (subst (λ u. IsFaultAmong (after bytes u) spot) (value_is_one (plan bytes) bytes w v also reads) f)

-- they have one first fault at most
pub one_fault_among : {X : Type 0} (files : FilePlan X) (a b : Spot) → HoldBytes files → IsFaultAmong files a → IsFaultAmong files b → a ≡ b
one_fault_among (stands z) a b made f g = absurd f
one_fault_among (needs kind None plan after) a b made f g = f ∙ sym g
one_fault_among (needs kind (Some bytes) plan after) a b made (inl f) (inl g) =
    let same = fault_is_one (plan bytes) bytes a.offset a.rule b.offset b.rule made.0 f.1 g.1 in
    same_spot a b (f.0 ∙ sym g.0) same.0 same.1
one_fault_among (needs kind (Some bytes) plan after) a b made (inl f) (inr (w, also, g)) = absurd (no_fault_if_read (plan bytes) bytes w a.offset a.rule made.0 also f.1)
one_fault_among (needs kind (Some bytes) plan after) a b made (inr (v, reads, f)) (inl g) = absurd (no_fault_if_read (plan bytes) bytes v b.offset b.rule made.0 reads g.1)
one_fault_among (needs kind (Some bytes) plan after) a b made (inr (v, reads, f)) (inr (w, also, g)) =
    one_fault_among (after bytes v) a b (made.1 v) f (subst (λ u. IsFaultAmong (after bytes u) b) (value_is_one (plan bytes) bytes w v also reads) g)

-- they stand, or they have a first fault
pub judged_somehow : {X : Type 0} (files : FilePlan X) → HoldBytes files → ((x : X) × StandFor files x) ⊎ ((spot : Spot) × IsFaultAmong files spot)
judged_somehow (stands z) made = inl (z, refl)
judged_somehow (needs kind None plan after) made = inr (missing kind, refl)
judged_somehow {X} (needs {V} {R} kind (Some bytes) plan after) made = go (read_file (plan bytes) bytes) (read_file-judges (plan bytes) bytes made.0) (λ v. judged_somehow (after bytes v) (made.1 v))
  where
    go : (r : Result V Broken) → FileJudges (plan bytes) bytes r → ((v : V) → ((x : X) × StandFor (after bytes v) x) ⊎ ((spot : Spot) × IsFaultAmong (after bytes v) spot))
        → ((x : X) × StandFor (needs kind (Some bytes) plan after) x) ⊎ ((spot : Spot) × IsFaultAmong (needs kind (Some bytes) plan after) spot)
    go (Ok v) reads later = elim (later v) [
      | inl (x, a) ↦ inl (x, (v, reads, a))
      | inr (spot, f) ↦ inr (spot, inr (v, reads, f))
    ]
    go (Err b) fault later = inr (spot_of kind b.offset b.rule, inl (refl, fault))

-- ---- some files and then others

-- they stand where the first do, and then the others
pub followed_by-stand : {A X : Type 0} (files : FilePlan A) (next : A → FilePlan X) (a : A) (x : X) → StandFor files a → StandFor (next a) x → StandFor (followed_by files next) x
followed_by-stand (stands b) next a x is h = subst (λ c. StandFor (next c) x) is h
followed_by-stand (needs kind None plan after) next a x front h = front
followed_by-stand (needs kind (Some bytes) plan after) next a x (v, reads, front) h = (v, reads, followed_by-stand (after bytes v) next a x front h)

-- a fault of the first is one of them all
pub followed_by-fault : {A X : Type 0} (files : FilePlan A) (next : A → FilePlan X) (spot : Spot) → IsFaultAmong files spot → IsFaultAmong (followed_by files next) spot
followed_by-fault (stands b) next spot f = absurd f
followed_by-fault (needs kind None plan after) next spot f = f
followed_by-fault (needs kind (Some bytes) plan after) next spot (inl f) = inl f
followed_by-fault (needs kind (Some bytes) plan after) next spot (inr (v, reads, f)) = inr (v, reads, followed_by-fault (after bytes v) next spot f)

-- and so is a fault of the others, where the first stand
pub followed_by-later : {A X : Type 0} (files : FilePlan A) (next : A → FilePlan X) (a : A) (spot : Spot) → StandFor files a → IsFaultAmong (next a) spot → IsFaultAmong (followed_by files next) spot
followed_by-later (stands b) next a spot is f = subst (λ c. IsFaultAmong (next c) spot) is f
followed_by-later (needs kind None plan after) next a spot front f = absurd front
followed_by-later (needs kind (Some bytes) plan after) next a spot (v, reads, front) f = inr (v, reads, followed_by-later (after bytes v) next a spot front f)

-- files that stand one after others
pub followed_by-was : {A X : Type 0} (files : FilePlan A) (next : A → FilePlan X) (x : X) → StandFor (followed_by files next) x → (a : A) × StandFor files a × StandFor (next a) x
followed_by-was (stands b) next x h = (b, refl, h)
followed_by-was (needs kind None plan after) next x h = absurd h
followed_by-was (needs kind (Some bytes) plan after) next x (v, reads, h) = let later = followed_by-was (after bytes v) next x h in (later.0, (v, reads, later.1), later.2)

-- ---- the files of some things, one after another: what a loop over them keeps

pub each_file-none : {A S : Type 0} (files : A → S → FilePlan S) (s : S) → StandFor (each_file files [] s) s
unfolding each_file
each_file-none files s = refl

pub each_file-more : {A S : Type 0} (files : A → S → FilePlan S) (front : List A) (a : A) (s t u : S) → StandFor (each_file files front s) t → StandFor (files a t) u → StandFor (each_file files (front ++ a ∷ []) s) u
unfolding each_file
each_file-more files [] a s t u before here = followed_by-stand (files a s) (λ w. stands w) u u (subst (λ w. StandFor (files a w) u) before here) refl
each_file-more files (b ∷ bs) a s t u before here =
    let first = followed_by-was (files b s) (each_file files bs) t before in
    followed_by-stand (files b s) (each_file files (bs ++ a ∷ [])) first.0 u first.1 (each_file-more files bs a first.0 t u first.2 here)

pub each_file-fault : {A S : Type 0} (files : A → S → FilePlan S) (front : List A) (a : A) (rest : List A) (s t : S) (spot : Spot) → StandFor (each_file files front s) t → IsFaultAmong (files a t) spot → IsFaultAmong (each_file files (front ++ a ∷ rest) s) spot
unfolding each_file
each_file-fault files [] a rest s t spot before fault = followed_by-fault (files a s) (each_file files rest) spot (subst (λ w. IsFaultAmong (files a w) spot) before fault)
each_file-fault files (b ∷ bs) a rest s t spot before fault =
    let first = followed_by-was (files b s) (each_file files bs) t before in
    followed_by-later (files b s) (each_file files (bs ++ a ∷ rest)) first.0 spot first.1 (each_file-fault files bs a rest first.0 t spot first.2 fault)

-- the same of what checks answer
pub first-judged : {A B X Y : Type 0} (view : B → A) (seen : Y → X) (files : FilePlan A) (next : A → FilePlan X) (fault : CodecFault) → Judges view files (Err fault) → Judges seen (followed_by files next) (Err fault)
first-judged view seen files next (faults.Spot spot) h = followed_by-fault files next spot h
first-judged view seen files next faults.OutOfMemory h = tt

pub then-judged : {A X Y : Type 0} (seen : Y → X) (files : FilePlan A) (next : A → FilePlan X) (a : A) (r : Result Y CodecFault) → StandFor files a → Judges seen (next a) r → Judges seen (followed_by files next) r
then-judged seen files next a (Ok y) front h = followed_by-stand files next a (seen y) front h
then-judged seen files next a (Err (faults.Spot spot)) front h = followed_by-later files next a spot front h
then-judged seen files next a (Err faults.OutOfMemory) front h = tt

-- files that are followed by others are made of bytes where both are
pub followed_by-bytes : {A X : Type 0} (files : FilePlan A) (next : A → FilePlan X) → HoldBytes files → ((a : A) → HoldBytes (next a)) → HoldBytes (followed_by files next)
followed_by-bytes (stands a) next made later = later a
followed_by-bytes (needs kind None plan after) next made later = tt
followed_by-bytes (needs kind (Some bytes) plan after) next made later = (made.0, λ v. followed_by-bytes (after bytes v) next (made.1 v) later)

-- ---- what a check of one file shows of them all

pub judges-fault : {X Y V R : Type 0} (seen : Y → X) (kind : FileKind) (found : Option (List ℕ)) (bytes : List ℕ) (plan : List ℕ → Plan V R) (after : List ℕ → V → FilePlan X) (fault : CodecFault) → found ≡ Some bytes → Checks {X = V} (λ v. v) kind (plan bytes) bytes (Err fault)
    → Judges seen (needs kind found plan after) (Err fault)
judges-fault {X} {Y} {V} {R} seen kind found bytes plan after fault e f = subst (λ (o : Option (List ℕ)). Judges seen (needs kind o plan after) (Err fault)) (sym e) (go fault f)
  where
    go : (fault : CodecFault) → Checks {X = V} (λ v. v) kind (plan bytes) bytes (Err fault) → Judges seen (needs kind (Some bytes) plan after) (Err fault)
    go (faults.Spot spot) f = inl f
    go faults.OutOfMemory f = tt

pub judges-after : {X Y V R : Type 0} (seen : Y → X) (kind : FileKind) (found : Option (List ℕ)) (bytes : List ℕ) (plan : List ℕ → Plan V R) (after : List ℕ → V → FilePlan X) (v : V) (r : Result Y CodecFault) → found ≡ Some bytes → Reads (plan bytes) bytes v
    → Judges seen (after bytes v) r → Judges seen (needs kind found plan after) r
judges-after {X} {Y} {V} {R} seen kind found bytes plan after v r e reads h = subst (λ (o : Option (List ℕ)). Judges seen (needs kind o plan after) r) (sym e) (go r h)
  where
    go : (r : Result Y CodecFault) → Judges seen (after bytes v) r → Judges seen (needs kind (Some bytes) plan after) r
    go (Ok x) h = (v, reads, h)
    go (Err (faults.Spot spot)) h = inr (v, reads, h)
    go (Err faults.OutOfMemory) h = tt

-- a needed file is made of bytes, and so are those after it
pub made_of_bytes : {X V R : Type 0} (kind : FileKind) (found : Option (List ℕ)) (plan : List ℕ → Plan V R) (after : List ℕ → V → FilePlan X) → ForSome found IsBytes → ((bytes : List ℕ) (v : V) → HoldBytes (after bytes v)) → HoldBytes (needs kind found plan after)
made_of_bytes kind None plan after made later = tt
made_of_bytes kind (Some bytes) plan after made later = (made bytes refl, later bytes)
