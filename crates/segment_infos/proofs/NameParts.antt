-- The parts that the name of a file of a segment is read from.
use Rattle.std.proofs.Common.{◌≡◌, ◌≢◌, ℕ, ◌^◌, ◌<◌, ◌≤◌, List, ◌∷◌, ◌++◌, get_or, Option, Some, None, codes, refl, sym, ap, subst, ◌∙◌, arith, append_assoc}
use Rattle.std.specs.Prelude.{MatchOption}
use Rattle.lu_prims.specs.Base36.{base36}
use Rattle.lu_types.specs.declared.kind.FileKind.{FileKind}
use Rattle.lu_types.specs.declared.kind.FileKind.TheVariants as kinds
use Rattle.lu_types.specs.Kinds.{extension}
use Rattle.lu_types.specs.Names.{greatest_segment, segment_name, IsPart}
use Rattle.segment_infos.specs.declared.naming.LuceneName.{LuceneName}
use Rattle.segment_infos.specs.declared.naming.LuceneName.TheVariants.{Commit, Part, Del, Sep}
use Rattle.segment_infos.specs.LuceneNames.{IsGenerationNumber, IsName, with_generation, name_spelling, SpellsName, IsLuceneName}
use Rattle.segment_infos.specs.Parsing.{HasNeither, file_text, generation_text, TellsName, IsFile}
use Rattle.segment_infos.proofs.Cuts.{IsNoneOf, IsNoneOf-left, IsNoneOf-right, IsNoneOf-rest, IsNoneOf-append, cut-front, cut-rest, no-cut}
use Rattle.segment_infos.proofs.NameSpelled.{underscored, base36-no_line, part_name-cut, segment_stem-no_dot, generation_stem-no_dot}

-- a stem after its `_` and an extension are those of the name
abbrev pub AreOf : List ℕ → List ℕ → LuceneName → Type 0
AreOf stem text (Commit generation) = ⊥
AreOf stem text (Part segment kind) = (stem ≡ base36 segment) × (text ≡ extension kind)
AreOf stem text (Del segment generation) = (stem ≡ base36 segment ++ 95 ∷ base36 generation) × (text ≡ codes "del")
AreOf stem text (Sep segment generation field) = (stem ≡ base36 segment ++ 95 ∷ base36 generation) × (text ≡ extension (kinds.Sep field))

different : (a b : ℕ) → a ≡ 95 → b ≡ 115 → a ≡ b → ⊥
different a b one other same = omega arith

without_first : (stem other : List ℕ) → 95 ∷ stem ≡ 95 ∷ other → stem ≡ other
without_first stem other same = cc

cut-stem : (stem text other_stem other : List ℕ) → IsNoneOf 46 stem → IsNoneOf 46 (95 ∷ other_stem) → file_text stem text ≡ 95 ∷ (other_stem ++ 46 ∷ other) → stem ≡ other_stem
cut-stem stem text other_stem other none also same = without_first stem other_stem (cut-front 46 (95 ∷ stem) text (95 ∷ other_stem) other (underscored stem none) also same)

cut-extension : (stem text other_stem other : List ℕ) → IsNoneOf 46 stem → IsNoneOf 46 (95 ∷ other_stem) → file_text stem text ≡ 95 ∷ (other_stem ++ 46 ∷ other) → text ≡ other
cut-extension stem text other_stem other none also same = cut-rest 46 (95 ∷ stem) text (95 ∷ other_stem) other (underscored stem none) also same

-- the parts of a text that is a name
pub AreOf-spelled : (stem text : List ℕ) (name : LuceneName) → IsNoneOf 46 stem → file_text stem text ≡ name_spelling name → AreOf stem text name
AreOf-spelled stem text (Commit generation) none same = different 95 115 refl refl (ap (λ (list : List ℕ). get_or list 0 0) same)
AreOf-spelled stem text (Part segment kind) none same =
    let whole : file_text stem text ≡ 95 ∷ (base36 segment ++ 46 ∷ extension kind) = same ∙ part_name-cut (segment_name segment) kind in
    (cut-stem stem text (base36 segment) (extension kind) none (segment_stem-no_dot segment) whole, cut-extension stem text (base36 segment) (extension kind) none (segment_stem-no_dot segment) whole)
AreOf-spelled stem text (Del segment generation) none same =
    let whole : file_text stem text ≡ 95 ∷ ((base36 segment ++ 95 ∷ base36 generation) ++ 46 ∷ codes "del") = same ∙ part_name-cut (with_generation segment generation) kinds.Del in
    let also = generation_stem-no_dot segment generation in
    (cut-stem stem text (base36 segment ++ 95 ∷ base36 generation) (codes "del") none also whole, cut-extension stem text (base36 segment ++ 95 ∷ base36 generation) (codes "del") none also whole)
AreOf-spelled stem text (Sep segment generation field) none same =
    let whole : file_text stem text ≡ 95 ∷ ((base36 segment ++ 95 ∷ base36 generation) ++ 46 ∷ extension (kinds.Sep field)) = same ∙ part_name-cut (with_generation segment generation) (kinds.Sep field) in
    let also = generation_stem-no_dot segment generation in
    (cut-stem stem text (base36 segment ++ 95 ∷ base36 generation) (extension (kinds.Sep field)) none also whole, cut-extension stem text (base36 segment ++ 95 ∷ base36 generation) (extension (kinds.Sep field)) none also whole)

-- and they spell it
pub spelled-AreOf : (stem text : List ℕ) (name : LuceneName) → AreOf stem text name → file_text stem text ≡ name_spelling name
spelled-AreOf stem text (Commit generation) is = absurd is
spelled-AreOf stem text (Part segment kind) is = ap (λ (s : List ℕ). file_text s text) is.0 ∙ ap (file_text (base36 segment)) is.1 ∙ sym (part_name-cut (segment_name segment) kind)
spelled-AreOf stem text (Del segment generation) is = ap (λ (s : List ℕ). file_text s text) is.0 ∙ ap (file_text (base36 segment ++ 95 ∷ base36 generation)) is.1 ∙ sym (part_name-cut (with_generation segment generation) kinds.Del)
spelled-AreOf stem text (Sep segment generation field) is =
    ap (λ (s : List ℕ). file_text s text) is.0 ∙ ap (file_text (base36 segment ++ 95 ∷ base36 generation)) is.1 ∙ sym (part_name-cut (with_generation segment generation) (kinds.Sep field))

-- ---- a part: digits, and an extension

neither-dot : (digits : List ℕ) → HasNeither digits → IsNoneOf 46 digits
neither-dot digits neither i within = (neither i within).0

neither-line : (digits : List ℕ) → HasNeither digits → IsNoneOf 95 digits
neither-line digits neither i within = (neither i within).1

-- what digits alone and an extension name is a part
part-of : (digits text : List ℕ) (name : LuceneName) → HasNeither digits → SpellsName (file_text digits text) name → (segment : ℕ) × (kind : FileKind) × (segment ≤ greatest_segment) × IsPart kind × (digits ≡ base36 segment) × (text ≡ extension kind)
part-of digits text name neither spells = go name spells.0 (AreOf-spelled digits text name (neither-dot digits neither) spells.1)
  where
    go : (name : LuceneName) → IsName name → AreOf digits text name → (segment : ℕ) × (kind : FileKind) × (segment ≤ greatest_segment) × IsPart kind × (digits ≡ base36 segment) × (text ≡ extension kind)
    go (Commit generation) valid are = absurd are
    go (Part segment kind) valid are = (segment, kind, valid.0, valid.1, are.0, are.1)
    go (Del segment generation) valid are = absurd (no-cut 95 digits (base36 segment) (base36 generation) (neither-line digits neither) are.0)
    go (Sep segment generation field) valid are = absurd (no-cut 95 digits (base36 segment) (base36 generation) (neither-line digits neither) are.0)

pub part-no_segment : (digits text : List ℕ) → HasNeither digits → ((segment : ℕ) → segment ≤ greatest_segment → digits ≡ base36 segment → ⊥) → IsLuceneName (file_text digits text) → ⊥
part-no_segment digits text neither none name = let is = part-of digits text name.0 neither name.1 in none is.0 is.2 is.4

pub part-no_kind : (digits text : List ℕ) → HasNeither digits → ((kind : FileKind) → IsPart kind → text ≢ extension kind) → IsLuceneName (file_text digits text) → ⊥
part-no_kind digits text neither none name = let is = part-of digits text name.0 neither name.1 in none is.1 is.3 is.5

pub part-spelled : (digits text : List ℕ) (segment : ℕ) (kind : FileKind) → segment ≤ greatest_segment → digits ≡ base36 segment → IsPart kind → text ≡ extension kind → SpellsName (file_text digits text) (Part segment kind)
part-spelled digits text segment kind most is part ends = ((most, part), spelled-AreOf digits text (Part segment kind) (is, ends))

-- ---- a file of a generation: digits, digits behind a `_`, and an extension

-- the segment, the generation and the extension of the name of such a file
abbrev pub IsOfGeneration : List ℕ → List ℕ → List ℕ → LuceneName → Type 0
IsOfGeneration first second text (Commit generation) = ⊥
IsOfGeneration first second text (Part segment kind) = ⊥
IsOfGeneration first second text (Del segment generation) = (first ≡ base36 segment) × (second ≡ base36 generation) × (text ≡ codes "del")
IsOfGeneration first second text (Sep segment generation field) = (first ≡ base36 segment) × (second ≡ base36 generation) × (text ≡ extension (kinds.Sep field))

generation_text-cut : (first second text : List ℕ) → generation_text first second text ≡ file_text (first ++ 95 ∷ second) text
generation_text-cut first second text = ap (λ (rest : List ℕ). 95 ∷ rest) (sym (append_assoc first (95 ∷ second) (46 ∷ text)))

both-no_dot : (first second : List ℕ) → HasNeither first → IsNoneOf 46 second → IsNoneOf 46 (first ++ 95 ∷ second)
both-no_dot first second neither none = IsNoneOf-append 46 first (95 ∷ second) (neither-dot first neither) (underscored second none)

pub of_generation : (first second text : List ℕ) (name : LuceneName) → HasNeither first → IsNoneOf 46 second → generation_text first second text ≡ name_spelling name → IsOfGeneration first second text name
of_generation first second text name neither none same = go name (AreOf-spelled (first ++ 95 ∷ second) text name (both-no_dot first second neither none) (sym (generation_text-cut first second text) ∙ same))
  where
    cut : (segment generation : ℕ) → first ++ 95 ∷ second ≡ base36 segment ++ 95 ∷ base36 generation → (first ≡ base36 segment) × (second ≡ base36 generation)
    cut segment generation is =
        (cut-front 95 first second (base36 segment) (base36 generation) (neither-line first neither) (base36-no_line segment) is, cut-rest 95 first second (base36 segment) (base36 generation) (neither-line first neither) (base36-no_line segment) is)

    go : (name : LuceneName) → AreOf (first ++ 95 ∷ second) text name → IsOfGeneration first second text name
    go (Commit generation) are = are
    go (Part segment kind) are = no-cut 95 (base36 segment) first second (base36-no_line segment) (sym are.0)
    go (Del segment generation) are = let is = cut segment generation are.0 in (is.0, is.1, are.1)
    go (Sep segment generation field) are = let is = cut segment generation are.0 in (is.0, is.1, are.1)

-- no such file where a part of its name is wrong
pub generation-no_segment : (first second text : List ℕ) → HasNeither first → IsNoneOf 46 second → ((segment : ℕ) → segment ≤ greatest_segment → first ≡ base36 segment → ⊥) → IsLuceneName (generation_text first second text) → ⊥
generation-no_segment first second text neither dots none name = go name.0 name.1.0 (of_generation first second text name.0 neither dots name.1.1)
  where
    go : (name : LuceneName) → IsName name → IsOfGeneration first second text name → ⊥
    go (Commit generation) valid is = is
    go (Part segment kind) valid is = is
    go (Del segment generation) valid is = none segment valid.0 is.0
    go (Sep segment generation field) valid is = none segment valid.0 is.0

pub generation-no_generation : (first second text : List ℕ) → HasNeither first → IsNoneOf 46 second → ((generation : ℕ) → IsGenerationNumber generation → second ≡ base36 generation → ⊥) → IsLuceneName (generation_text first second text) → ⊥
generation-no_generation first second text neither dots none name = go name.0 name.1.0 (of_generation first second text name.0 neither dots name.1.1)
  where
    go : (name : LuceneName) → IsName name → IsOfGeneration first second text name → ⊥
    go (Commit generation) valid is = is
    go (Part segment kind) valid is = is
    go (Del segment generation) valid is = none generation valid.1 is.1
    go (Sep segment generation field) valid is = none generation valid.1 is.1

pub generation-no_field : (first second text : List ℕ) → HasNeither first → IsNoneOf 46 second → text ≢ codes "del" → ((field : ℕ) → field < 2 ^ 31 → text ≡ extension (kinds.Sep field) → ⊥) → IsLuceneName (generation_text first second text) → ⊥
generation-no_field first second text neither dots other none name = go name.0 name.1.0 (of_generation first second text name.0 neither dots name.1.1)
  where
    go : (name : LuceneName) → IsName name → IsOfGeneration first second text name → ⊥
    go (Commit generation) valid is = is
    go (Part segment kind) valid is = is
    go (Del segment generation) valid is = other is.2
    go (Sep segment generation field) valid is = none field valid.2 is.2

pub generation-del : (first second text : List ℕ) (segment generation : ℕ) → segment ≤ greatest_segment → first ≡ base36 segment → IsGenerationNumber generation → second ≡ base36 generation → text ≡ codes "del" → SpellsName (generation_text first second text) (Del segment generation)
generation-del first second text segment generation most one valid two is =
    ((most, valid), generation_text-cut first second text ∙ spelled-AreOf (first ++ 95 ∷ second) text (Del segment generation) (ap (λ (f : List ℕ). f ++ 95 ∷ second) one ∙ ap (λ (g : List ℕ). base36 segment ++ 95 ∷ g) two, is))

pub generation-sep : (first second text : List ℕ) (segment generation field : ℕ) → segment ≤ greatest_segment → first ≡ base36 segment → IsGenerationNumber generation → second ≡ base36 generation → field < 2 ^ 31 → text ≡ extension (kinds.Sep field)
    → SpellsName (generation_text first second text) (Sep segment generation field)
generation-sep first second text segment generation field most one valid two below is =
    ((most, valid, below), generation_text-cut first second text ∙ spelled-AreOf (first ++ 95 ∷ second) text (Sep segment generation field) (ap (λ (f : List ℕ). f ++ 95 ∷ second) one ∙ ap (λ (g : List ℕ). base36 segment ++ 95 ∷ g) two, is))

-- ---- a text with a dot in it, or none

-- the name of a file is `_`, something without a dot, a dot and an extension
file-stem : (name : LuceneName) → IsFile name → (stem : List ℕ) × (text : List ℕ) × (name_spelling name ≡ (95 ∷ stem) ++ 46 ∷ text) × IsNoneOf 46 (95 ∷ stem)
file-stem (Commit generation) file = absurd file
file-stem (Part segment kind) file = (base36 segment, extension kind, part_name-cut (segment_name segment) kind, segment_stem-no_dot segment)
file-stem (Del segment generation) file = (base36 segment ++ 95 ∷ base36 generation, codes "del", part_name-cut (with_generation segment generation) kinds.Del, generation_stem-no_dot segment generation)
file-stem (Sep segment generation field) file = (base36 segment ++ 95 ∷ base36 generation, extension (kinds.Sep field), part_name-cut (with_generation segment generation) (kinds.Sep field), generation_stem-no_dot segment generation)

pub file-no_dot : (text : List ℕ) → IsNoneOf 46 text → (name : LuceneName) → IsFile name → SpellsName text name → ⊥
file-no_dot text none name file spells = let cut = file-stem name file in no-cut 46 text (95 ∷ cut.0) cut.1 none (spells.1 ∙ cut.2)

pub file-no_line : (text stem rest : List ℕ) → text ≡ stem ++ 46 ∷ rest → IsNoneOf 46 stem → ((digits : List ℕ) → stem ≢ 95 ∷ digits) → (name : LuceneName) → IsFile name → SpellsName text name → ⊥
file-no_line text stem rest split none other name file spells = let cut = file-stem name file in other cut.0 (cut-front 46 stem rest (95 ∷ cut.0) cut.1 none cut.3 (sym split ∙ spells.1 ∙ cut.2))

-- the digits behind a `_` have no dot, where the stem has none
pub digits-no_dot : (stem digits : List ℕ) → stem ≡ 95 ∷ digits → IsNoneOf 46 stem → IsNoneOf 46 digits
digits-no_dot stem ds is none = IsNoneOf-rest 46 95 ds (subst (IsNoneOf 46) is none)

pub neither-of : (digits : List ℕ) → IsNoneOf 46 digits → IsNoneOf 95 digits → HasNeither digits
neither-of ds dots lines i within = (dots i within, lines i within)

pub first-neither : (digits first second : List ℕ) → digits ≡ first ++ 95 ∷ second → IsNoneOf 46 digits → IsNoneOf 95 first → HasNeither first
first-neither ds first second is none lines = neither-of first (IsNoneOf-left 46 first (95 ∷ second) (subst (IsNoneOf 46) is none)) lines

pub second-no_dot : (digits first second : List ℕ) → digits ≡ first ++ 95 ∷ second → IsNoneOf 46 digits → IsNoneOf 46 second
second-no_dot ds first second is none = IsNoneOf-rest 46 95 second (IsNoneOf-right 46 first (95 ∷ second) (subst (IsNoneOf 46) is none))

-- the text whose parts were read
pub generation_text-is : (text stem rest digits first second : List ℕ) → text ≡ stem ++ 46 ∷ rest → stem ≡ 95 ∷ digits → digits ≡ first ++ 95 ∷ second → text ≡ generation_text first second rest
generation_text-is text stem rest ds first second split is cut =
    split ∙ ap (λ (s : List ℕ). s ++ 46 ∷ rest) (is ∙ ap (λ (d : List ℕ). 95 ∷ d) cut) ∙ sym (generation_text-cut first second rest)

-- what is told of the text whose parts were read
pub file-tells : (text whole : List ℕ) (found : Option LuceneName) → text ≡ whole → TellsName whole found → MatchOption found ((name : LuceneName) → IsFile name → SpellsName text name → ⊥) (SpellsName text)
file-tells text whole None same none = λ name file spells. none (name, (spells.0, sym same ∙ spells.1))
file-tells text whole (Some name) same spells = (spells.0, same ∙ spells.1)
