-- The name that a text spells: each spelling is that of one name.
use Rattle.std.proofs.Common.{◌≡◌, ◌≢◌, ◌⊎◌, ℕ, ◌^◌, Bool, true, false, eqb, ltb, leb, ◌&&◌, List, [], ◌∷◌, ◌++◌, get_or, Option, Some, None, codes, refl, sym, ap, subst, ◌∙◌, arith, append_assoc, inl, inr, bytes_eq}
use borrow.Author.Tests.{lt-ltb, ltb-true}
use Rattle.std.specs.List.{after_first}
use Rattle.std.specs.Prelude.{is_some, decimal}
use Rattle.std.specs.Str.Parse.{digits_value}
use Rattle.std.specs.Cmp.Lexicographic.{bytes_decides}
use Rattle.std.proofs.lemmas.Bool.{cases_Bool, le-leb, leb-true}
use Rattle.std.proofs.lemmas.Fmt.{decimal_is_IsNumeral}
use Rattle.lu_prims.specs.Base36.{base36, IsPlainByte}
use Rattle.lu_prims.proofs.Base36Lemmas.{spelled_value, spelled_plain}
use Rattle.lu_types.specs.declared.kind.FileKind.{FileKind}
use Rattle.lu_types.specs.declared.kind.FileKind.TheVariants as kinds
use Rattle.lu_types.specs.Kinds.{extension}
use Rattle.lu_types.specs.Names.{greatest_segment, segment_name, part_name, IsPart}
use Rattle.segment_infos.specs.declared.naming.LuceneName.{LuceneName}
use Rattle.segment_infos.specs.declared.naming.LuceneName.TheVariants.{Commit, Part, Del, Sep}
use Rattle.segment_infos.specs.LuceneNames.{IsGenerationNumber, IsName, with_generation, name_spelling, SpellsName, part_kind_of, is_generation_number, is_name, segment_digits, generation_digits, file_candidate, candidate, if_spelled_by, lucene_name_in}
use Rattle.segment_infos.specs.Parsing.{TellsName}
use Rattle.segment_infos.specs.Keeping.{HasOwnSpelling}
use Rattle.segment_infos.proofs.Cuts.{IsNoneOf, IsNoneOf-cons, IsNoneOf-append, before-cut, after-cut}

-- ---- digits have no `.` and no `_`

plain-other : (b c : ℕ) → IsPlainByte b → (c ≡ 46) ⊎ (c ≡ 95) → b ≢ c
plain-other b c (inl digit) (inl dot) same = let e : b ≡ 46 = same ∙ dot in absurd (omega arith)
plain-other b c (inl digit) (inr line) same = let e : b ≡ 95 = same ∙ line in absurd (omega arith)
plain-other b c (inr letter) (inl dot) same = let e : b ≡ 46 = same ∙ dot in absurd (omega arith)
plain-other b c (inr letter) (inr line) same = let e : b ≡ 95 = same ∙ line in absurd (omega arith)

pub base36-without : (c n : ℕ) → (c ≡ 46) ⊎ (c ≡ 95) → IsNoneOf c (base36 n)
base36-without c n mark i within = plain-other (get_or (base36 n) i 0) c ((spelled_plain n).0.1 i within) mark

pub base36-no_dot : (n : ℕ) → IsNoneOf 46 (base36 n)
base36-no_dot n = base36-without 46 n (inl refl)

pub base36-no_line : (n : ℕ) → IsNoneOf 95 (base36 n)
base36-no_line n = base36-without 95 n (inr refl)

-- ---- kinds and extensions

-- a part has its extension, and no extension of a file of a generation is that of a part
pub part_kind_of-extension : (kind : FileKind) → IsPart kind → part_kind_of (extension kind) ≡ Some kind
part_kind_of-extension kinds.Commit part = absurd part
part_kind_of-extension kinds.Cfs part = refl
part_kind_of-extension kinds.Cfx part = refl
part_kind_of-extension kinds.Fnm part = refl
part_kind_of-extension kinds.Fdx part = refl
part_kind_of-extension kinds.Fdt part = refl
part_kind_of-extension kinds.Tis part = refl
part_kind_of-extension kinds.Tii part = refl
part_kind_of-extension kinds.Frq part = refl
part_kind_of-extension kinds.Prx part = refl
part_kind_of-extension kinds.Nrm part = refl
part_kind_of-extension (kinds.Sep field) part = absurd part
part_kind_of-extension kinds.Del part = absurd part
part_kind_of-extension kinds.Tvx part = refl
part_kind_of-extension kinds.Tvd part = refl
part_kind_of-extension kinds.Tvf part = refl

-- 115 is `s`
pub part_kind_of-sep : (rest : List ℕ) → part_kind_of (115 ∷ rest) ≡ None
part_kind_of-sep rest = refl

-- ---- the candidate of a spelling is its name

-- a name that a stem, a dot and an extension make
pub part_name-cut : (stem : List ℕ) (kind : FileKind) → part_name stem kind ≡ stem ++ 46 ∷ extension kind
part_name-cut stem kind = append_assoc stem (46 ∷ []) (extension kind)

pub candidate-cut : (stem text : List ℕ) → IsNoneOf 46 (95 ∷ stem) → candidate (95 ∷ (stem ++ 46 ∷ text)) ≡ file_candidate (95 ∷ stem) text (part_kind_of text)
candidate-cut stem text none =
    ap (λ (front : List ℕ). file_candidate front (after_first (λ b. eqb b 46) ((95 ∷ stem) ++ 46 ∷ text)) (part_kind_of (after_first (λ b. eqb b 46) ((95 ∷ stem) ++ 46 ∷ text)))) (before-cut 46 (95 ∷ stem) text none)
    ∙ ap (λ (rest : List ℕ). file_candidate (95 ∷ stem) rest (part_kind_of rest)) (after-cut 46 (95 ∷ stem) text none)

-- a stem has no dot: `_`, digits, and another `_` and digits
pub underscored : (digits : List ℕ) → IsNoneOf 46 digits → IsNoneOf 46 (95 ∷ digits)
underscored ds none = IsNoneOf-cons 46 95 ds (λ same. absurd (omega arith)) none

pub segment_stem-no_dot : (segment : ℕ) → IsNoneOf 46 (95 ∷ base36 segment)
segment_stem-no_dot segment = underscored (base36 segment) (base36-no_dot segment)

pub generation_stem-no_dot : (segment generation : ℕ) → IsNoneOf 46 (95 ∷ (base36 segment ++ 95 ∷ base36 generation))
generation_stem-no_dot segment generation = underscored (base36 segment ++ 95 ∷ base36 generation) (IsNoneOf-append 46 (base36 segment) (95 ∷ base36 generation) (base36-no_dot segment) (segment_stem-no_dot generation))

segment_of_stem : (segment generation : ℕ) → digits_value 36 (segment_digits (95 ∷ (base36 segment ++ 95 ∷ base36 generation))) ≡ segment
segment_of_stem segment generation = ap (digits_value 36) (before-cut 95 (base36 segment) (base36 generation) (base36-no_line segment)) ∙ spelled_value segment

generation_of_stem : (segment generation : ℕ) → digits_value 36 (generation_digits (95 ∷ (base36 segment ++ 95 ∷ base36 generation))) ≡ generation
generation_of_stem segment generation = ap (digits_value 36) (after-cut 95 (base36 segment) (base36 generation) (base36-no_line segment)) ∙ spelled_value generation

pub candidate-name_spelling : (name : LuceneName) → HasOwnSpelling name → candidate (name_spelling name) ≡ name
candidate-name_spelling (Commit generation) is = ap Commit (spelled_value generation)
candidate-name_spelling (Part segment kind) is =
    ap candidate (part_name-cut (segment_name segment) kind)
    ∙ candidate-cut (base36 segment) (extension kind) (segment_stem-no_dot segment)
    ∙ ap (file_candidate (95 ∷ base36 segment) (extension kind)) (part_kind_of-extension kind is)
    ∙ ap (λ (n : ℕ). Part n kind) (spelled_value segment)
candidate-name_spelling (Del segment generation) is =
    ap candidate (part_name-cut (with_generation segment generation) kinds.Del)
    ∙ candidate-cut (base36 segment ++ 95 ∷ base36 generation) (codes "del") (generation_stem-no_dot segment generation)
    ∙ ap (λ (n : ℕ). Del n (digits_value 36 (generation_digits (95 ∷ (base36 segment ++ 95 ∷ base36 generation))))) (segment_of_stem segment generation)
    ∙ ap (Del segment) (generation_of_stem segment generation)
candidate-name_spelling (Sep segment generation field) is =
    ap candidate (part_name-cut (with_generation segment generation) (kinds.Sep field))
    ∙ candidate-cut (base36 segment ++ 95 ∷ base36 generation) (115 ∷ decimal field) (generation_stem-no_dot segment generation)
    ∙ ap (λ (n : ℕ). Sep n (digits_value 36 (generation_digits (95 ∷ (base36 segment ++ 95 ∷ base36 generation)))) (digits_value 10 (decimal field))) (segment_of_stem segment generation)
    ∙ ap (λ (n : ℕ). Sep segment n (digits_value 10 (decimal field))) (generation_of_stem segment generation)
    ∙ ap (Sep segment generation) (decimal_is_IsNumeral field is).1

-- ---- the test of a name's numbers

pub is_generation_number-of : (generation : ℕ) → IsGenerationNumber generation → is_generation_number generation ≡ true
is_generation_number-of generation is =
    let low : ltb 0 generation ≡ true = lt-ltb 0 generation is.0 in
    let high : ltb generation (2 ^ 63) ≡ true = lt-ltb generation (2 ^ 63) is.1 in
    rw (low, high) refl

both : (a b : Bool) → (a && b) ≡ true → (a ≡ true) × (b ≡ true)
both true true is = (refl, refl)
both true false is = absurd (cc)
both false b is = absurd (cc)

pub of-is_generation_number : (generation : ℕ) → is_generation_number generation ≡ true → IsGenerationNumber generation
of-is_generation_number generation is =
    let parts = both (ltb 0 generation) (ltb generation (2 ^ 63)) is in
    (ltb-true 0 generation parts.0, ltb-true generation (2 ^ 63) parts.1)

part-known : (kind : FileKind) → is_some (part_kind_of (extension kind)) ≡ true → IsPart kind
part-known kinds.Commit is = cc
part-known kinds.Cfs is = tt
part-known kinds.Cfx is = tt
part-known kinds.Fnm is = tt
part-known kinds.Fdx is = tt
part-known kinds.Fdt is = tt
part-known kinds.Tis is = tt
part-known kinds.Tii is = tt
part-known kinds.Frq is = tt
part-known kinds.Prx is = tt
part-known kinds.Nrm is = tt
part-known (kinds.Sep field) is = let never : false ≡ true = is in cc
part-known kinds.Del is = cc
part-known kinds.Tvx is = tt
part-known kinds.Tvd is = tt
part-known kinds.Tvf is = tt

pub is_name-of : (name : LuceneName) → IsName name → is_name name ≡ true
is_name-of (Commit generation) is = is_generation_number-of generation is
is_name-of (Part segment kind) is =
    let most : leb segment greatest_segment ≡ true = le-leb segment greatest_segment is.0 in
    let known : is_some (part_kind_of (extension kind)) ≡ true = ap (λ (o : Option FileKind). is_some o) (part_kind_of-extension kind is.1) in
    rw (most, known) refl
is_name-of (Del segment generation) is =
    let most : leb segment greatest_segment ≡ true = le-leb segment greatest_segment is.0 in
    rw (most, is_generation_number-of generation is.1) refl
is_name-of (Sep segment generation field) is =
    let most : leb segment greatest_segment ≡ true = le-leb segment greatest_segment is.0 in
    let below : ltb field (2 ^ 31) ≡ true = lt-ltb field (2 ^ 31) is.2 in
    rw (most, is_generation_number-of generation is.1, below) refl

pub of-is_name : (name : LuceneName) → is_name name ≡ true → IsName name
of-is_name (Commit generation) is = of-is_generation_number generation is
of-is_name (Part segment kind) is =
    let parts = both (leb segment greatest_segment) (is_some (part_kind_of (extension kind))) is in
    (leb-true segment greatest_segment parts.0, part-known kind parts.1)
of-is_name (Del segment generation) is =
    let parts = both (leb segment greatest_segment) (is_generation_number generation) is in
    (leb-true segment greatest_segment parts.0, of-is_generation_number generation parts.1)
of-is_name (Sep segment generation field) is =
    let parts = both (leb segment greatest_segment) (is_generation_number generation && ltb field (2 ^ 31)) is in
    let rest = both (is_generation_number generation) (ltb field (2 ^ 31)) parts.1 in
    (leb-true segment greatest_segment parts.0, of-is_generation_number generation rest.0, ltb-true field (2 ^ 31) rest.1)

-- ---- the name in a text

pub HasOwnSpelling-IsName : (name : LuceneName) → IsName name → HasOwnSpelling name
HasOwnSpelling-IsName (Commit generation) is = tt
HasOwnSpelling-IsName (Part segment kind) is = is.1
HasOwnSpelling-IsName (Del segment generation) is = tt
HasOwnSpelling-IsName (Sep segment generation field) is = omega arith

-- names of one spelling are one
pub name_spelling-same : (name other : LuceneName) → HasOwnSpelling name → HasOwnSpelling other → name_spelling name ≡ name_spelling other → name ≡ other
name_spelling-same name other first second same = sym (candidate-name_spelling name first) ∙ ap candidate same ∙ candidate-name_spelling other second

lucene_name_in-spelling : (name : LuceneName) → IsName name → lucene_name_in (name_spelling name) ≡ Some name
lucene_name_in-spelling name is =
    let same : bytes_eq (name_spelling name) (name_spelling name) ≡ true = (bytes_decides (name_spelling name) (name_spelling name)).1 refl in
    ap (if_spelled_by (name_spelling name)) (candidate-name_spelling name (HasOwnSpelling-IsName name is)) ∙ rw (is_name-of name is, same) refl

pub lucene_name_in-SpellsName : (text : List ℕ) (name : LuceneName) → SpellsName text name → lucene_name_in text ≡ Some name
lucene_name_in-SpellsName text name spells = ap lucene_name_in spells.1 ∙ lucene_name_in-spelling name spells.0

pub SpellsName-lucene_name_in : (text : List ℕ) (name : LuceneName) → lucene_name_in text ≡ Some name → SpellsName text name
SpellsName-lucene_name_in text name e = go (candidate text) e
  where
    go : (found : LuceneName) → if_spelled_by text found ≡ Some name → SpellsName text name
    go found h = elim (cases_Bool (is_name found)) [
      | inr other ↦ absurd (let bad : None ≡ Some name = rw other at h in cc)
      | inl valid ↦ elim (cases_Bool (bytes_eq text (name_spelling found))) [
        | inr other ↦ absurd (let bad : None ≡ Some name = rw (valid, other) at h in cc)
        | inl same ↦
            let is : Some found ≡ Some name = rw (valid, same) at h in
            let one : found ≡ name = cc in
            subst (SpellsName text) one (of-is_name found valid, (bytes_decides text (name_spelling found)).0 same)
      ]
    ]

-- what is found of a text is the name that it spells
pub TellsName-lucene_name_in : (text : List ℕ) (found : Option LuceneName) → TellsName text found → found ≡ lucene_name_in text
TellsName-lucene_name_in text None none = go (lucene_name_in text) refl
  where
    go : (o : Option LuceneName) → lucene_name_in text ≡ o → None ≡ o
    go None e = refl
    go (Some name) e = absurd (none (name, SpellsName-lucene_name_in text name e))
TellsName-lucene_name_in text (Some name) spells = sym (lucene_name_in-SpellsName text name spells)

-- a text spells one name
pub SpellsName-one : (text : List ℕ) (name other : LuceneName) → SpellsName text name → SpellsName text other → name ≡ other
SpellsName-one text name other first second = name_spelling-same name other (HasOwnSpelling-IsName name first.0) (HasOwnSpelling-IsName other second.0) (sym first.1 ∙ second.1)
