-- The packed parts of a segment can be in one file, and each file is found under its name.
use Rattle.std.proofs.Common.{◌≡◌, ◌≢◌, ℕ, zero, suc, ◌<◌, ◌≤◌, ◌^◌, Bool, true, false, not, ◌&&◌, ◌||◌, eqb, List, [], ◌∷◌, ◌++◌, length, map, filter_map, All, Option, Some, None, refl, sym, ap, subst, ◌∙◌, arith, inl, inr}
use Rattle.std.specs.Prelude.{codes, AllPairs, slice_index}
use Rattle.std.specs.Str.{IsAscii, is_utf8, chars}
use Rattle.std.specs.List.{AllByRecursion, cons_option}
use Rattle.std.proofs.lemmas.Bool.{eq-eqb, cases_lt, or_parts}
use Rattle.std.proofs.lemmas.List.{length-map, get_or-map}
use Rattle.std.proofs.lemmas.List.Elements.{All-map}
use Rattle.std.proofs.lemmas.List.Kept.{AllPairs-cons}
use Rattle.std.proofs.lemmas.Str.{IsUtf8-append, IsUtf8-from_ascii, IsUtf8-from_is_utf8}
use Rattle.lu_prims.specs.Base36.{base36, IsPlainByte}
use Rattle.lu_prims.proofs.Base36Lemmas.{spelled_plain}
use Rattle.lu_types.specs.declared.kind.FileKind.{FileKind}
use Rattle.lu_types.specs.declared.kind.FileKind.TheVariants.{Commit, Cfs, Cfx, Fnm, Fdx, Fdt, Tis, Tii, Frq, Prx, Nrm, Sep, Del, Tvx, Tvd, Tvf}
use Rattle.lu_types.specs.declared.named_file.NamedFile.{NamedFile}
use Rattle.lu_types.specs.Kinds.{turn, extension, part_kinds}
use Rattle.lu_types.specs.Names.{segment_name, part_name, IsPart}
use Rattle.lu_grammar.specs.Bytes.{IsBytes}
use Rattle.lu_grammar.specs.Parts.{text, IsValue}
use Rattle.compound_file.specs.declared.packing.Packed.{Packed}
use Rattle.compound_file.specs.Entries.{NamedPart, AreParts}
use Rattle.compound_file.specs.Packing.{is_same, file_of, packed_in, packed_parts}
use Rattle.compound_file.specs.Packs.{part_of}
use Rattle.compound_file.proofs.KindLemmas.{file_of-kind, same_name, short-name, found-all, found-few, all-parts, All-cons}

-- ---- the name of a part is a text

ascii-extension : (kind : FileKind) → IsPart kind → is_utf8 (extension kind) ≡ true
unfolding is_utf8 chars lib.Utf8.encode
ascii-extension Commit part = absurd part
ascii-extension Cfs part = refl
ascii-extension Cfx part = refl
ascii-extension Fnm part = refl
ascii-extension Fdx part = refl
ascii-extension Fdt part = refl
ascii-extension Tis part = refl
ascii-extension Tii part = refl
ascii-extension Frq part = refl
ascii-extension Prx part = refl
ascii-extension Nrm part = refl
ascii-extension (Sep field) part = absurd part
ascii-extension Del part = absurd part
ascii-extension Tvx part = refl
ascii-extension Tvd part = refl
ascii-extension Tvf part = refl

plain-low : (c : ℕ) → IsPlainByte c → c < 128
plain-low c (inl digit) = omega arith
plain-low c (inr letter) = omega arith

past-low : (bs : List ℕ) (i : ℕ) → length bs ≤ i → slice_index bs i < 128
past-low [] i past = omega arith
past-low (b ∷ bs) zero past = absurd (omega arith)
past-low (b ∷ bs) (suc i) past = past-low bs i (omega arith)

ascii-number : (number : ℕ) → IsAscii (base36 number)
ascii-number number i = elim (cases_lt i (length (base36 number))) [
  | inl lt ↦ plain-low (slice_index (base36 number) i) ((spelled_plain number).0.1 i lt)
  | inr past ↦ past-low (base36 number) i past
]

single : (codes_are : Unit {0}) → (is_utf8 (codes "_") ≡ true) × (is_utf8 (codes ".") ≡ true)
unfolding is_utf8 chars lib.Utf8.encode
single u = (refl, refl)

text-name : (number : ℕ) (kind : FileKind) → number < 2 ^ 31 → IsPart kind → IsValue text (part_name (segment_name number) kind)
text-name number kind small part =
    let mark = IsUtf8-from_is_utf8 (codes "_") (single tt).0 in
    let dot = IsUtf8-from_is_utf8 (codes ".") (single tt).1 in
    let segment = IsUtf8-append (codes "_") (base36 number) mark (IsUtf8-from_ascii (base36 number) (ascii-number number)) in (
      (let s = short-name number kind small part in omega arith),
      IsUtf8-append (segment_name number ++ codes ".") (extension kind) (IsUtf8-append (segment_name number) (codes ".") segment dot) (IsUtf8-from_is_utf8 (extension kind) (ascii-extension kind part)),
    )

-- ---- no two names are one

pub same_kind-refl : (kind : FileKind) → is_same kind kind ≡ true
same_kind-refl kind =
    let first : eqb (turn kind).0 (turn kind).0 ≡ true = eq-eqb _ _ refl in
    let second : eqb (turn kind).1 (turn kind).1 ≡ true = eq-eqb _ _ refl in
    rw (first, second) refl

-- the kind is among these
unfoldable pub has : FileKind → List FileKind → Bool
has kind [] = false
has kind (k ∷ ks) = is_same k kind || has kind ks

-- no kind is among those after it
unfoldable pub differ : List FileKind → Bool
differ [] = true
differ (k ∷ ks) = not (has k ks) && differ ks

pub part_kinds-differ : differ part_kinds ≡ true
unfolding differ has
part_kinds-differ = refl

module _ (files : List NamedFile) (segment : List ℕ) where
  abbrev names_from : List FileKind → List (List ℕ)
  names_from kinds = map (λ (part : NamedPart). part.name) (map (packed_in segment) (filter_map (file_of files) kinds))

  -- a kind that is not among these has a name of its own
  own-name : (kind : FileKind) → IsPart kind → (kinds : List FileKind) → AllByRecursion IsPart kinds → has kind kinds ≡ false → All (λ name. part_name segment kind ≢ name) (names_from kinds)
  unfolding has
  own-name kind part [] parts none = λ k d within. absurd (omega arith)
  own-name kind part (j ∷ js) parts none =
      let apart = or_parts (is_same j kind) (has kind js) none in go (file_of files j) refl apart.0 (own-name kind part js parts.1 apart.1)
    where
      go : (o : Option NamedFile) → file_of files j ≡ o → is_same j kind ≡ false → All (λ name. part_name segment kind ≢ name) (names_from js)
          → All (λ name. part_name segment kind ≢ name) (map (λ (p : NamedPart). p.name) (map (packed_in segment) (cons_option o (filter_map (file_of files) js))))
      go None e other rest = rest
      go (Some file) e other rest =
          let is : file.kind ≡ j = file_of-kind files j file e in
          let differs : part_name segment kind ≢ part_name segment file.kind =
          λ same. (let k : kind ≡ j = same_name segment kind j part parts.0 (same ∙ ap (part_name segment) is) in
          let t : is_same j kind ≡ true = ap (is_same j) k ∙ same_kind-refl j in absurd (true_is_not (sym t ∙ other))) in
          All-cons (λ name. part_name segment kind ≢ name) (part_name segment file.kind) (names_from js) differs rest
        where
          true_is_not : true ≡ false → ⊥
          true_is_not h = cc

  names-apart : (kinds : List FileKind) → AllByRecursion IsPart kinds → differ kinds ≡ true → AllPairs (λ a b. a ≢ b) (names_from kinds)
  unfolding differ
  names-apart [] parts d = λ i j x lt within. absurd (omega arith)
  names-apart (k ∷ ks) parts d = go (file_of files k) refl (first (has k ks) (differ ks) d) (names-apart ks parts.1 (second (has k ks) (differ ks) d))
    where
      first : (a b : Bool) → (not a && b) ≡ true → a ≡ false
      first false b e = refl
      first true b e = cc

      second : (a b : Bool) → (not a && b) ≡ true → b ≡ true
      second false b e = e
      second true b e = cc

      go : (o : Option NamedFile) → file_of files k ≡ o → has k ks ≡ false → AllPairs (λ a b. a ≢ b) (names_from ks)
          → AllPairs (λ a b. a ≢ b) (map (λ (p : NamedPart). p.name) (map (packed_in segment) (cons_option o (filter_map (file_of files) ks))))
      go None e none rest = rest
      go (Some file) e none rest =
          let is : k ≡ file.kind = sym (file_of-kind files k file e) in
          let own : All (λ name. part_name segment file.kind ≢ name) (names_from ks) = subst (λ (j : FileKind). All (λ name. part_name segment j ≢ name) (names_from ks)) is (own-name k parts.0 ks parts.1 none) in
          AllPairs-cons (λ a b. a ≢ b) (part_name segment file.kind) (names_from ks) own rest

-- ---- the parts of a segment

module _ (files : List NamedFile) (number : ℕ) (small : number < 2 ^ 31) where
  pub packed-short : All (λ part. length part.name < 128) (packed_parts number files)
  packed-short =
      All-map (λ (p : NamedPart). length p.name < 128) (packed_in (segment_name number)) (filter_map (file_of files) part_kinds)
      (found-all files (λ f. length (part_name (segment_name number) f.kind) < 128) (λ f part. short-name number f.kind small part) part_kinds all-parts)

  pub packed-parts : All (λ part. IsBytes part.bytes) (packed_parts number files) → AreParts (packed_parts number files)
  packed-parts bytes = record {
    few = omega (arith, length-map (filter_map (file_of files) part_kinds) (packed_in (segment_name number)), found-few files part_kinds);
    named = All-map (λ (p : NamedPart). IsValue text p.name) (packed_in (segment_name number)) (filter_map (file_of files) part_kinds)
        (found-all files (λ f. IsValue text (part_name (segment_name number) f.kind)) (λ f part. text-name number f.kind small part) part_kinds all-parts);
    apart = names-apart files (segment_name number) part_kinds all-parts part_kinds-differ;
    bytes = bytes;
  }

-- what holds of parts as contracts see them holds of those of the program
pub All-part_of : (P : NamedPart → Type 0) (parts : List Packed) → All P (map part_of parts) → All (λ p. P (part_of p)) parts
All-part_of P parts holds k d within =
    subst P (get_or-map part_of parts k d (part_of d) within) (holds k (part_of d) (omega (arith, length-map parts part_of)))
