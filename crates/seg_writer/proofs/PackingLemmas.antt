-- The parts of a segment in the order in which files are checked are of different kinds, and what they are packed into.
use Rattle.std.proofs.Common.{◌≡◌, ◌≢◌, refl, ap, sym, ◌∙◌, subst, ℕ, zero, suc, ◌<◌, ◌≤◌, ◌++◌, List, [], ◌∷◌, length, get_or, Option, None, Some, All, AllPairs, arith}
use Rattle.lu_types.specs.Names.{IsPart}
use Rattle.lu_types.specs.declared.kind.FileKind.{FileKind}
use Rattle.lu_types.specs.declared.kind.FileKind.TheVariants.{Commit, Cfs, Cfx, Fnm, Fdx, Fdt, Tis, Tii, Frq, Prx, Nrm, Sep, Del, Tvx, Tvd, Tvf}
use Rattle.lu_types.specs.declared.named_file.NamedFile.{NamedFile}
use Rattle.check_index.specs.Files.{PartFiles}
use Rattle.compound_file.specs.Packing.{cfs_bytes, packed_parts}
use Rattle.segment_files.specs.Written.{checked_in_order, file_if_there, first_past, packed_file}
use Rattle.posting_files.specs.States.{named}
use Rattle.seg_writer.specs.PartsGathered.{AreChecked}
use Rattle.seg_writer.proofs.FnmLemmas.{past-alone, within-alone}

-- the turn of a part
turn_of : FileKind → ℕ
turn_of Commit = 0
turn_of Cfs = 0
turn_of Cfx = 0
turn_of Fnm = 1
turn_of Fdx = 2
turn_of Fdt = 3
turn_of Tis = 4
turn_of Tii = 5
turn_of Frq = 6
turn_of Prx = 7
turn_of Nrm = 8
turn_of (Sep field) = 0
turn_of Del = 0
turn_of Tvx = 9
turn_of Tvd = 10
turn_of Tvf = 11

-- parts whose turns rise, after a turn and up to another
InTurn : ℕ → ℕ → List NamedFile → Type 0
InTurn n m [] = n ≤ m
InTurn n m (file ∷ files) = (n < turn_of file.kind) × IsPart file.kind × InTurn (turn_of file.kind) m files

in-turn-after : (k n m : ℕ) (files : List NamedFile) → k ≤ n → InTurn n m files → InTurn k m files
unfolding InTurn
in-turn-after k n m [] le h = omega (arith, le, h)
in-turn-after k n m (file ∷ files) le (low, part, rest) = (omega (arith, le, low), part, rest)

in-turn-both : (k n m : ℕ) (xs ys : List NamedFile) → InTurn k n xs → InTurn n m ys → InTurn k m (xs ++ ys)
unfolding InTurn
in-turn-both k n m [] ys h more = in-turn-after k n m ys h more
in-turn-both k n m (file ∷ xs) ys (low, part, rest) more = (low, part, in-turn-both (turn_of file.kind) n m xs ys rest more)

in-turn-one : (n m : ℕ) (kind : FileKind) (found : Option (List ℕ)) → n < m → turn_of kind ≡ m → IsPart kind → InTurn n m (file_if_there kind found)
unfolding InTurn
in-turn-one n m kind None low is part = omega (arith, low)
in-turn-one n m kind (Some bytes) low is part = (omega (arith, low, is), part, omega (arith, is))

checked-in-turn : (parts : PartFiles) → InTurn 0 11 (checked_in_order parts)
unfolding turn_of
checked-in-turn parts =
    let ds = parts.documents in
    let is = parts.index in
    in-turn-both 0 10 11 _ _ (
    in-turn-both 0 9 10 _ _ (
    in-turn-both 0 8 9 _ _ (
    in-turn-both 0 7 8 _ _ (
    in-turn-both 0 6 7 _ _ (
    in-turn-both 0 5 6 _ _ (
    in-turn-both 0 4 5 _ _ (
    in-turn-both 0 3 4 _ _ (
    in-turn-both 0 2 3 _ _ (
    in-turn-both 0 1 2 _ _ (in-turn-one 0 1 Fnm is.fnm (omega arith) refl tt)
    (in-turn-one 1 2 Fdx ds.fdx (omega arith) refl tt))
    (in-turn-one 2 3 Fdt ds.fdt (omega arith) refl tt))
    (in-turn-one 3 4 Tis is.tis (omega arith) refl tt))
    (in-turn-one 4 5 Tii is.tii (omega arith) refl tt))
    (in-turn-one 5 6 Frq is.frq (omega arith) refl tt))
    (in-turn-one 6 7 Prx is.prx (omega arith) refl tt))
    (in-turn-one 7 8 Nrm is.nrm (omega arith) refl tt))
    (in-turn-one 8 9 Tvx ds.tvx (omega arith) refl tt))
    (in-turn-one 9 10 Tvd ds.tvd (omega arith) refl tt))
    (in-turn-one 10 11 Tvf ds.tvf (omega arith) refl tt)

-- what holds of one of them
one-of : (n m : ℕ) (files : List NamedFile) → InTurn n m files → (k : ℕ) (d : NamedFile) → k < length files → (n < turn_of (get_or files k d).kind) × IsPart (get_or files k d).kind
unfolding InTurn
one-of n m [] h k d lt = absurd (omega (arith, lt))
one-of n m (file ∷ files) (low, part, rest) zero d lt = (low, part)
one-of n m (file ∷ files) (low, part, rest) (suc k) d lt =
    let later = one-of (turn_of file.kind) m files rest k d (omega (arith, lt)) in
    let above = later.0 in
    (omega (arith, low, above), later.1)

turns-rise : (n m : ℕ) (files : List NamedFile) → InTurn n m files → (i j : ℕ) (d : NamedFile) → i < j → j < length files → turn_of (get_or files i d).kind < turn_of (get_or files j d).kind
unfolding InTurn
turns-rise n m [] h i j d low lt = absurd (omega (arith, lt))
turns-rise n m (file ∷ files) h zero zero d low lt = absurd (omega (arith, low))
turns-rise n m (file ∷ files) (l, part, rest) zero (suc j) d low lt = (one-of (turn_of file.kind) m files rest j d (omega (arith, lt))).0
turns-rise n m (file ∷ files) h (suc i) zero d low lt = absurd (omega (arith, low))
turns-rise n m (file ∷ files) (l, part, rest) (suc i) (suc j) d low lt = turns-rise (turn_of file.kind) m files rest i j d (omega (arith, low)) (omega (arith, lt))

kinds-differ : (files : List NamedFile) → InTurn 0 11 files → AllPairs (λ (file later : NamedFile). file.kind ≢ later.kind) files
kinds-differ files h i j d low lt same =
    let below = turns-rise 0 11 files h i j d low lt in
    let level = ap turn_of same in
    omega (arith, below, level)

pub checked-parts : (files : List NamedFile) → AreChecked files → All (λ (file : NamedFile). IsPart file.kind) files
checked-parts files (parts, is) k d lt = (one-of 0 11 files (subst (InTurn 0 11) (sym is) (checked-in-turn parts)) k d lt).1

pub checked-apart : (files : List NamedFile) → AreChecked files → AllPairs (λ (file later : NamedFile). file.kind ≢ later.kind) files
checked-apart files (parts, is) = kinds-differ files (subst (InTurn 0 11) (sym is) (checked-in-turn parts))

-- ---- packed

same-packed : (number : ℕ) (parts : PartFiles) (files : List NamedFile) → files ≡ checked_in_order parts → cfs_bytes (packed_parts number files) ≡ cfs_bytes (packed_parts number (checked_in_order parts))
same-packed number parts files is = ap (λ w. cfs_bytes (packed_parts number w)) is

pub packed-within : (number limit : ℕ) (parts : PartFiles) (files : List NamedFile) (bytes : List ℕ) → files ≡ checked_in_order parts → bytes ≡ cfs_bytes (packed_parts number files) → length (cfs_bytes (packed_parts number files)) ≤ limit
    → (first_past limit (packed_file number parts ∷ []) ≡ None) × (named Cfs bytes ∷ [] ≡ packed_file number parts ∷ [])
packed-within number limit parts files bytes is own short =
    let same = same-packed number parts files is in (
      within-alone limit Cfs (cfs_bytes (packed_parts number (checked_in_order parts))) (subst (λ w. length w ≤ limit) same short),
      ap (λ w. named Cfs w ∷ []) (own ∙ same),
    )

pub packed-past : (number limit : ℕ) (parts : PartFiles) (files : List NamedFile) → files ≡ checked_in_order parts → limit < length (cfs_bytes (packed_parts number files)) → first_past limit (packed_file number parts ∷ []) ≡ Some Cfs
packed-past number limit parts files is long =
    past-alone limit Cfs (cfs_bytes (packed_parts number (checked_in_order parts))) (subst (λ w. limit < length w) (same-packed number parts files is) long)
