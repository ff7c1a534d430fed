-- The kinds of files that are parts, and the names of parts.
use Rattle.std.proofs.Common.{◌≡◌, ℕ, zero, suc, ◌+◌, ◌<◌, ◌≤◌, ◌^◌, Bool, true, false, eqb, ◌&&◌, List, [], ◌∷◌, ◌++◌, length, map, drop, get_or, slice_get, option_map, filter_map, All, cond, Option, Some, None, refl, sym, ap, subst, ◌∙◌, arith}
use Rattle.std.specs.Prelude.{codes, find}
use Rattle.std.specs.List.{AllByRecursion, cons_option, position_or_len}
use Rattle.std.specs.Char.{digit_char}
use Rattle.std.proofs.lemmas.Option.{slice_get_within, get_or_from_slice_get}
use Rattle.std.proofs.lemmas.List.Folds.{find_at}
use Rattle.std.proofs.lemmas.List.Sums.{passes_at_first}
use Rattle.std.specs.Option.{option_to_list}
use Rattle.std.specs.Int.Digits.{digits_of}
use Rattle.std.proofs.Math.Seq.{drop-cons}
use Rattle.std.specs.Str.{bytes_eq}
use Rattle.std.proofs.lemmas.Bool.{eqb-true}
use Rattle.std.proofs.lemmas.List.{length-append, length-map, append_cancel_left}
use Rattle.std.proofs.lemmas.Int.Digits.{length-digits_of-le}
use Rattle.lu_prims.specs.Base36.{base36}
use Rattle.lu_types.specs.declared.kind.FileKind.{FileKind}
use Rattle.lu_types.specs.declared.kind.FileKind.TheVariants.{Commit, Cfs, Cfx, Fnm, Fdx, Fdt, Tis, Tii, Frq, Prx, Nrm, Sep, Del, Tvx, Tvd, Tvf}
use Rattle.lu_types.specs.declared.named_file.NamedFile.{NamedFile}
use Rattle.lu_types.specs.Kinds.{turn, extension, part_kinds}
use Rattle.lu_types.specs.Names.{segment_name, part_name, IsPart}
use Rattle.compound_file.specs.Entries.{NamedPart}
use Rattle.compound_file.specs.declared.packing.Packed.{Packed}
use Rattle.compound_file.specs.Packing.{is_same, file_of, packed_in}
use Rattle.compound_file.specs.Packs.{part_of}

-- ---- one kind

-- the kind whose files are checked in a turn
kind_at : ℕ × ℕ → FileKind
kind_at t = get_or (Commit ∷ Cfs ∷ Cfx ∷ Fnm ∷ Fdx ∷ Fdt ∷ Tis ∷ Tii ∷ Frq ∷ Prx ∷ Nrm ∷ Sep t.1 ∷ Del ∷ Tvx ∷ Tvd ∷ Tvf ∷ []) t.0 Commit

kind_at-turn : (kind : FileKind) → kind_at (turn kind) ≡ kind
unfolding kind_at
kind_at-turn Commit = refl
kind_at-turn Cfs = refl
kind_at-turn Cfx = refl
kind_at-turn Fnm = refl
kind_at-turn Fdx = refl
kind_at-turn Fdt = refl
kind_at-turn Tis = refl
kind_at-turn Tii = refl
kind_at-turn Frq = refl
kind_at-turn Prx = refl
kind_at-turn Nrm = refl
kind_at-turn (Sep field) = refl
kind_at-turn Del = refl
kind_at-turn Tvx = refl
kind_at-turn Tvd = refl
kind_at-turn Tvf = refl

both : (b c : Bool) → (b && c) ≡ true → (b ≡ true) × (c ≡ true)
both true c e = (refl, e)
both false c e = cc

-- kinds of one turn are one
pub same_kind : (a b : FileKind) → is_same a b ≡ true → a ≡ b
same_kind a b e =
    let parts = both (eqb (turn a).0 (turn b).0) (eqb (turn a).1 (turn b).1) e in
    let first : (turn a).0 ≡ (turn b).0 = eqb-true _ _ parts.0 in
    let second : (turn a).1 ≡ (turn b).1 = eqb-true _ _ parts.1 in
    sym (kind_at-turn a) ∙ ap (λ n. kind_at (n, (turn a).1)) first ∙ ap (λ n. kind_at ((turn b).0, n)) second ∙ kind_at-turn b

-- what is found passes
found-passes : {X : Type 0} (p : X → Bool) (xs : List X) (x : X) → find p xs ≡ Some x → p x ≡ true
found-passes p xs x e =
    let there : slice_get xs (position_or_len p xs) ≡ Some x = sym (find_at p xs) ∙ e in
    let within : position_or_len p xs < length xs = slice_get_within xs (position_or_len p xs) x there in
    sym (ap p (get_or_from_slice_get xs (position_or_len p xs) x x there)) ∙ passes_at_first p xs x within

-- the file of a kind has the kind
pub file_of-kind : (files : List NamedFile) (kind : FileKind) (file : NamedFile) → file_of files kind ≡ Some file → file.kind ≡ kind
file_of-kind files kind file e = same_kind file.kind kind (found-passes (λ f. is_same f.kind kind) files file e)

-- ---- names

-- the part kind of an extension
kind_of : List ℕ → Option FileKind
kind_of ext = find (λ kind. bytes_eq ext (extension kind)) part_kinds

kind_of-extension : (kind : FileKind) → IsPart kind → kind_of (extension kind) ≡ Some kind
unfolding kind_of
kind_of-extension Commit part = absurd part
kind_of-extension Cfs part = refl
kind_of-extension Cfx part = refl
kind_of-extension Fnm part = refl
kind_of-extension Fdx part = refl
kind_of-extension Fdt part = refl
kind_of-extension Tis part = refl
kind_of-extension Tii part = refl
kind_of-extension Frq part = refl
kind_of-extension Prx part = refl
kind_of-extension Nrm part = refl
kind_of-extension (Sep field) part = absurd part
kind_of-extension Del part = absurd part
kind_of-extension Tvx part = refl
kind_of-extension Tvd part = refl
kind_of-extension Tvf part = refl

-- files of two kinds have two names
pub same_name : (segment : List ℕ) (a b : FileKind) → IsPart a → IsPart b → part_name segment a ≡ part_name segment b → a ≡ b
same_name segment a b part_a part_b e =
    let exts : extension a ≡ extension b = append_cancel_left (segment ++ codes ".") (extension a) (extension b) e in
    let kinds : Some a ≡ Some b = sym (kind_of-extension a part_a) ∙ ap kind_of exts ∙ kind_of-extension b part_b in
    cc

short-extension : (kind : FileKind) → IsPart kind → length (extension kind) ≡ 3
short-extension Commit part = absurd part
short-extension Cfs part = refl
short-extension Cfx part = refl
short-extension Fnm part = refl
short-extension Fdx part = refl
short-extension Fdt part = refl
short-extension Tis part = refl
short-extension Tii part = refl
short-extension Frq part = refl
short-extension Prx part = refl
short-extension Nrm part = refl
short-extension (Sep field) part = absurd part
short-extension Del part = absurd part
short-extension Tvx part = refl
short-extension Tvd part = refl
short-extension Tvf part = refl

short-number : (number : ℕ) → number < 2 ^ 31 → length (base36 number) ≤ 6
short-number number small = go (eqb number 0)
  where
    go : (b : Bool) → length (cond b (48 ∷ []) (map digit_char (digits_of 36 number))) ≤ 6
    go true = omega arith
    go false = omega (arith, length-map (digits_of 36 number) digit_char, length-digits_of-le 36 6 number (omega arith) (omega arith))

-- the name of a part is short
pub short-name : (number : ℕ) (kind : FileKind) → number < 2 ^ 31 → IsPart kind → length (part_name (segment_name number) kind) < 128
short-name number kind small part =
    omega (arith, length-append (segment_name number ++ codes ".") (extension kind), length-append (segment_name number) (codes "."), length-append (codes "_") (base36 number), short-number number small, short-extension kind part)

-- ---- the files that are parts, kind by kind

pub all-parts : AllByRecursion IsPart part_kinds
all-parts = (tt, (tt, (tt, (tt, (tt, (tt, (tt, (tt, (tt, (tt, (tt, (tt, (tt, tt)))))))))))))

pub All-cons : {X : Type 0} (P : X → Type 0) (x : X) (xs : List X) → P x → All P xs → All P (x ∷ xs)
All-cons P x xs here there zero d within = here
All-cons P x xs here there (suc k) d within = there k d (omega arith)

-- what holds of each file that is a part holds of those that are found
pub found-all : (files : List NamedFile) (P : NamedFile → Type 0) → ((file : NamedFile) → IsPart file.kind → P file) → (kinds : List FileKind) → AllByRecursion IsPart kinds → All P (filter_map (file_of files) kinds)
found-all files P holds [] parts = λ k d within. absurd (omega arith)
found-all files P holds (kind ∷ kinds) parts = go (file_of files kind) refl (found-all files P holds kinds parts.1)
  where
    go : (o : Option NamedFile) → file_of files kind ≡ o → All P (filter_map (file_of files) kinds) → All P (cons_option o (filter_map (file_of files) kinds))
    go None e rest = rest
    go (Some file) e rest = All-cons P file (filter_map (file_of files) kinds) (holds file (subst IsPart (sym (file_of-kind files kind file e)) parts.0)) rest

-- no more files are found than there are kinds
pub found-few : (files : List NamedFile) (kinds : List FileKind) → length (filter_map (file_of files) kinds) ≤ length kinds
found-few files [] = omega arith
found-few files (kind ∷ kinds) = go (file_of files kind) (found-few files kinds)
  where
    go : (o : Option NamedFile) → length (filter_map (file_of files) kinds) ≤ length kinds → length (cons_option o (filter_map (file_of files) kinds)) ≤ length (kind ∷ kinds)
    go None rest = omega arith
    go (Some file) rest = omega arith

-- ---- the files that are left to be packed

module _ (files : List NamedFile) (segment : List ℕ) where
  -- the parts of the kinds from a number on
  abbrev pub parts_from : ℕ → List NamedPart
  parts_from i = map (packed_in segment) (filter_map (file_of files) (drop i part_kinds))

  pub parts_from-next : (i : ℕ) (part : Option Packed) → i < length part_kinds → option_map part_of part ≡ option_map (packed_in segment) (file_of files (get_or part_kinds i Commit))
      → parts_from i ≡ map part_of (option_to_list part) ++ parts_from (i + 1)
  parts_from-next i part within is =
      ap (λ (kinds : List FileKind). map (packed_in segment) (filter_map (file_of files) kinds)) (drop-cons part_kinds i Commit within)
      ∙ go (file_of files (get_or part_kinds i Commit)) part is
      ∙ ap (λ n. map part_of (option_to_list part) ++ parts_from n) (let e : suc i ≡ i + 1 = omega arith in e)
    where
      go : (o : Option NamedFile) (p : Option Packed) → option_map part_of p ≡ option_map (packed_in segment) o
          → map (packed_in segment) (cons_option o (filter_map (file_of files) (drop (suc i) part_kinds))) ≡ map part_of (option_to_list p) ++ parts_from (suc i)
      go None None e = refl
      go None (Some q) e = cc
      go (Some file) None e = cc
      go (Some file) (Some q) e = let same : packed_in segment file ≡ part_of q = cc in ap (λ (r : NamedPart). r ∷ parts_from (suc i)) same
