-- Numbers above those of some names, one name after another.
use Rattle.std.proofs.Common.{◌≡◌, ℕ, ◌+◌, ◌<◌, ◌≤◌, max, List, [], ◌∷◌, ◌++◌, length, take, get_or, Option, Some, None, refl, sym, ap, ◌∙◌, arith, string_bytes}
use Rattle.std.specs.Option.{option_and_then}
use Rattle.std.specs.List.{fold, filter_map, cons_option}
use Rattle.std.specs.declared.string.String.{String}
use Rattle.std.specs.declared.alloc.Global.{Global}
use Rattle.std.proofs.lemmas.List.Elements.{filter_map-append}
use Rattle.std.proofs.lemmas.List.Sums.{fold-append}
use Rattle.lu_dir.specs.Loading.{texts}
use Rattle.lu_dir.proofs.Loads.{texts-more}
use Rattle.segment_infos.specs.declared.naming.LuceneName.{LuceneName}
use Rattle.segment_infos.specs.LuceneNames.{SpellsName, IsLuceneName, lucene_name_in}
use Rattle.segment_infos.proofs.NameSpelled.{lucene_name_in-SpellsName, TellsName-lucene_name_in}
use Rattle.lu_folder.specs.declared.numbering.Counted.{Counted}
use Rattle.lu_folder.specs.Numbers.{above}
use Rattle.lu_folder.specs.Counting.{counted_number, counted_number_in, drawn}

-- a number above one number more, where it is there
abbrev pub above_found : ℕ → Option ℕ → ℕ
above_found number None = number
above_found number (Some used) = max number (used + 1)

above-last : (least : ℕ) (found : Option ℕ) (numbers : List ℕ) → above least (numbers ++ cons_option found []) ≡ above_found (above least numbers) found
above-last least None numbers = fold-append (λ (number used : ℕ). max number (used + 1)) least numbers []
above-last least (Some used) numbers = fold-append (λ (number used : ℕ). max number (used + 1)) least numbers (used ∷ [])

-- one name more
pub drawn-more : (counted : Counted) (least : ℕ) (names : List (String Global)) (place : ℕ) (text : String Global) (name : List ℕ) (found : Option ℕ) → place < length names → text ≡ get_or names place text → name ≡ string_bytes text → found ≡ counted_number_in counted name
    → drawn counted least (texts (take (place + 1) names)) ≡ above_found (drawn counted least (texts (take place names))) found
drawn-more counted least names place text name found within at named is =
    ap (drawn counted least) (texts-more names place text within at)
    ∙ ap (λ (last : List ℕ). drawn counted least (texts (take place names) ++ last ∷ [])) (sym named)
    ∙ ap (above least) (filter_map-append (counted_number_in counted) (texts (take place names)) (name ∷ []))
    ∙ ap (λ (one : Option ℕ). above least (filter_map (counted_number_in counted) (texts (take place names)) ++ cons_option one [])) (sym is)
    ∙ above-last least found (filter_map (counted_number_in counted) (texts (take place names)))

-- the number of a text that is a name
pub counted_number_in-name : (counted : Counted) (text : List ℕ) (name : LuceneName) (number : Option ℕ) → SpellsName text name → number ≡ counted_number counted name → number ≡ counted_number_in counted text
counted_number_in-name counted text name number spells is = is ∙ sym (ap (option_and_then (counted_number counted)) (lucene_name_in-SpellsName text name spells))

-- that of one that is none
pub counted_number_in-none : (counted : Counted) (text : List ℕ) → ¬ IsLuceneName text → None ≡ counted_number_in counted text
counted_number_in-none counted text none = sym (ap (option_and_then (counted_number counted)) (sym (TellsName-lucene_name_in text None none)))
