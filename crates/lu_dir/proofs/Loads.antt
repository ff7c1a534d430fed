-- Files that are loaded one after another.
use Rattle.std.proofs.Common.{◌≡◌, ℕ, ◌+◌, ◌≤◌, ◌<◌, List, [], ◌∷◌, ◌++◌, take, drop, length, Bool, true, false, ◌||◌, cond, Option, Some, None, refl, sym, ap, subst, ◌∙◌, arith, string_bytes, IfSome, IsErrOf, Result, Err, suc, get_or, add-one, add-zero, drop-cons}
use Rattle.std.specs.declared.string.String.{String}
use Rattle.std.specs.declared.vec.Vec.{Vec}
use Rattle.std.specs.declared.alloc.Global.{Global}
use Rattle.std.specs.Option.{option_map}
use Rattle.std.specs.Str.{bytes_eq}
use Rattle.std.proofs.lemmas.List.{map-append, take-append-drop, take_more, take_all, length-take-le, length-map}
use Rattle.std.proofs.lemmas.List.Folds.{list_any-append}
use Rattle.std.proofs.lemmas.Slice.Eq.{bytes_eq-Decides}
use Rattle.lu_dir.proofs.Contents.{contents-with_file}
use Rattle.lu_dir.specs.Files.{Files, contents}
use Rattle.lu_dir.specs.FileMap.{with_found, items_of}
use Rattle.lu_dir.specs.Loading.{is_over, first_over, texts}
use Rattle.lu_dir.specs.InnerLoading.{is_named, AreLoaded, AreOnly, HaveAtMost}

-- the texts of one string more
pub texts-more : (names : List (String Global)) (place : ℕ) (name : String Global) → place < length names → name ≡ get_or names place name → texts (take (place + 1) names) ≡ texts (take place names) ++ string_bytes name ∷ []
texts-more names place name within is =
    ap texts (take_more names place name within ∙ ap (λ (item : String Global). take place names ++ item ∷ []) (sym is))
    ∙ map-append string_bytes (take place names) (name ∷ [])

-- the texts of one copy more
pub texts-push : (copies after names : List (String Global)) (copy name : String Global) (place : ℕ) → after ≡ copies ++ copy ∷ [] → string_bytes copy ≡ string_bytes name → place < length names → name ≡ get_or names place name
    → texts copies ≡ texts (take place names) → texts after ≡ texts (take (place + 1) names)
texts-push copies after names copy name place pushed same within is before =
    ap texts pushed
    ∙ map-append string_bytes copies (copy ∷ [])
    ∙ ap (λ (front : List (List ℕ)). front ++ string_bytes copy ∷ []) before
    ∙ ap (λ (bytes : List ℕ). texts (take place names) ++ bytes ∷ []) same
    ∙ sym (texts-more names place name within is)

-- all of the texts
pub texts-all : (names : List (String Global)) (place : ℕ) → length names ≤ place → texts (take place names) ≡ texts names
texts-all names place le = ap texts (take_all place names le)

rest_at : (names : List (String Global)) (place : ℕ) (name : String Global) → place < length names → name ≡ get_or names place name → drop place names ≡ name ∷ drop (place + 1) names
rest_at names place name within is = drop-cons names place name within ∙ rw (add-one) (ap (λ (item : String Global). item ∷ drop (suc place) names) (sym is))

-- one string among others, with those before it and those after it
pub texts-at : (names : List (String Global)) (place : ℕ) (name : String Global) → place < length names → name ≡ get_or names place name → texts names ≡ texts (take place names) ++ string_bytes name ∷ texts (drop (place + 1) names)
texts-at names place name within is =
    ap texts (sym (take-append-drop place names))
    ∙ map-append string_bytes (take place names) (drop place names)
    ∙ ap (λ (rest : List (String Global)). texts (take place names) ++ texts rest) (rest_at names place name within is)

-- a name is one of these or the one behind them
is_named-more : (names : List (List ℕ)) (name asked : List ℕ) → is_named (names ++ name ∷ []) asked ≡ (is_named names asked || bytes_eq asked name)
is_named-more names name asked =
    list_any-append (bytes_eq asked) names (name ∷ [])
    ∙ ap (λ same. is_named names asked || same) (elim (bytes_eq asked name) as (λ same. (same || false) ≡ same) [ true ↦ refl | false ↦ refl ])

or_else : Option (List ℕ) → Option (List ℕ) → Option (List ℕ)
or_else (Some bytes) old = Some bytes
or_else None old = old

contents-with_found : (name : List ℕ) (found : Option (List ℕ)) (files : Files) (asked : List ℕ) → contents (with_found name found files) asked ≡ cond (bytes_eq asked name) (or_else found (contents files asked)) (contents files asked)
unfolding or_else
contents-with_found name (Some bytes) files asked = contents-with_file name bytes files asked
contents-with_found name None files asked = elim (bytes_eq asked name) as (λ same. contents files asked ≡ cond same (contents files asked) (contents files asked)) [ true ↦ refl | false ↦ refl ]

loaded-more : (same named : Bool) (found here old : Option (List ℕ)) → old ≡ cond named here None → (same ≡ true → here ≡ found) → cond same (or_else found old) old ≡ cond (named || same) here None
unfolding or_else
loaded-more true true (Some bytes) here old was is = sym (is refl)
loaded-more true false (Some bytes) here old was is = sym (is refl)
loaded-more true true None here old was is = was
loaded-more true false None here old was is = was ∙ sym (is refl)
loaded-more false true found here old was is = was
loaded-more false false found here old was is = was

only-more : (same named : Bool) (found old : Option (List ℕ)) → (named ≡ false → old ≡ None) → (named || same) ≡ false → cond same (or_else found old) old ≡ None
only-more true true found old was apart = cc
only-more true false found old was apart = cc
only-more false true found old was apart = cc
only-more false false found old was apart = was refl

within-more : (limit : ℕ) (same : Bool) (found old : Option (List ℕ)) → IfSome old (λ bytes. length bytes ≤ limit) → IfSome found (λ bytes. length bytes ≤ limit) → IfSome (cond same (or_else found old) old) (λ bytes. length bytes ≤ limit)
unfolding or_else
within-more limit true (Some bytes) old was new = new
within-more limit true None old was new = was
within-more limit false found old was new = was

-- the files of one name more are loaded
pub AreLoaded-more : (told : Files) (names : List (List ℕ)) (files : Files) (name : List ℕ) (found : Option (List ℕ)) → AreLoaded told names files → found ≡ contents told name → AreLoaded told (names ++ name ∷ []) (with_found name found files)
AreLoaded-more told names files name found loaded is = λ asked.
    contents-with_found name found files asked
    ∙ loaded-more (bytes_eq asked name) (is_named names asked) found (contents told asked) (contents files asked) (loaded asked)
    (λ same. ap (contents told) ((bytes_eq-Decides asked name).0 same) ∙ sym is)
    ∙ ap (λ named. cond named (contents told asked) None) (sym (is_named-more names name asked))

-- no others are
pub AreOnly-more : (names : List (List ℕ)) (files : Files) (name : List ℕ) (found : Option (List ℕ)) → AreOnly names files → AreOnly (names ++ name ∷ []) (with_found name found files)
AreOnly-more names files name found only = λ asked apart.
    contents-with_found name found files asked
    ∙ only-more (bytes_eq asked name) (is_named names asked) found (contents files asked) (only asked) (sym (is_named-more names name asked) ∙ apart)

-- and none is over the limit
pub HaveAtMost-more : (limit : ℕ) (files : Files) (name : List ℕ) (found : Option (List ℕ)) → HaveAtMost limit files → IfSome found (λ bytes. length bytes ≤ limit) → HaveAtMost limit (with_found name found files)
HaveAtMost-more limit files name found within new = λ asked.
    let P : Option (List ℕ) → Type 0 = λ there. IfSome there (λ bytes. length bytes ≤ limit) in
    subst P (sym (contents-with_found name found files asked)) (within-more limit (bytes_eq asked name) found (contents files asked) (within asked) new)

or_later : ℕ → Option ℕ → Option ℕ → Option ℕ
or_later count (Some place) later = Some place
or_later count None later = option_map (λ place. count + place) later

or_later-suc : (count : ℕ) (first later : Option ℕ) → option_map (λ place. place + 1) (or_later count first later) ≡ or_later (suc count) (option_map (λ place. place + 1) first) later
unfolding or_later
or_later-suc count (Some place) later = refl
or_later-suc count None None = refl
or_later-suc count None (Some place) = ap Some (omega arith)

first_over-append : (told : Files) (limit : ℕ) (front back : List (List ℕ)) → first_over told limit (front ++ back) ≡ or_later (length front) (first_over told limit front) (first_over told limit back)
unfolding or_later
first_over-append told limit [] back = elim (first_over told limit back) as (λ later. later ≡ option_map (λ place. 0 + place) later) [ None ↦ refl | Some place ↦ ap Some (omega arith) ]
first_over-append told limit (name ∷ front) back =
    elim (is_over limit (contents told name))
    as (λ over. cond over (Some 0) (option_map (λ place. place + 1) (first_over told limit (front ++ back))) ≡ or_later (suc (length front)) (cond over (Some 0) (option_map (λ place. place + 1) (first_over told limit front))) (first_over told limit back)) [
      | true ↦ refl
      | false ↦ ap (option_map (λ place. place + 1)) (first_over-append told limit front back) ∙ or_later-suc (length front) (first_over told limit front) (first_over told limit back)
    ]

-- no file of one name more is over the limit
pub first_over-more : (told : Files) (limit : ℕ) (names : List (List ℕ)) (name : List ℕ) → first_over told limit names ≡ None → is_over limit (contents told name) ≡ false → first_over told limit (names ++ name ∷ []) ≡ None
unfolding or_later
first_over-more told limit names name none fits =
    first_over-append told limit names (name ∷ [])
    ∙ ap (λ first. or_later (length names) first (first_over told limit (name ∷ []))) none
    ∙ ap (λ over. or_later (length names) None (cond over (Some 0) None)) fits

-- the first name whose file is over the limit, with those before it
pub first_over-at : (told : Files) (limit : ℕ) (names : List (List ℕ)) (name : List ℕ) (rest : List (List ℕ)) → first_over told limit names ≡ None → is_over limit (contents told name) ≡ true → first_over told limit (names ++ name ∷ rest) ≡ Some (length names)
unfolding or_later
first_over-at told limit names name rest none over =
    first_over-append told limit names (name ∷ rest)
    ∙ ap (λ first. or_later (length names) first (first_over told limit (name ∷ rest))) none
    ∙ ap (λ there. or_later (length names) None (cond there (Some 0) (option_map (λ place. place + 1) (first_over told limit rest)))) over
    ∙ ap Some (add-zero (length names))

-- the step of a loop over names: the files of the name at this place are loaded
pub AreLoaded-next : (told : Files) (names : List (String Global)) (place : ℕ) (text : String Global) (name : List ℕ) (files new : Files) (found : Option (List ℕ)) → place < length names → text ≡ get_or names place text → name ≡ string_bytes text → new ≡ with_found name found files
    → AreLoaded told (texts (take place names)) files → found ≡ contents told name → AreLoaded told (texts (take (place + 1) names)) new
AreLoaded-next told names place text name files new found within at named put loaded is =
    subst (λ (listed : List (List ℕ)). AreLoaded told listed new) (ap (λ (bytes : List ℕ). texts (take place names) ++ bytes ∷ []) named ∙ sym (texts-more names place text within at))
    (subst (λ (held : Files). AreLoaded told (texts (take place names) ++ name ∷ []) held) (sym put) (AreLoaded-more told (texts (take place names)) files name found loaded is))

pub AreOnly-next : (names : List (String Global)) (place : ℕ) (text : String Global) (name : List ℕ) (files new : Files) (found : Option (List ℕ)) → place < length names → text ≡ get_or names place text → name ≡ string_bytes text → new ≡ with_found name found files
    → AreOnly (texts (take place names)) files → AreOnly (texts (take (place + 1) names)) new
AreOnly-next names place text name files new found within at named put only =
    subst (λ (listed : List (List ℕ)). AreOnly listed new) (ap (λ (bytes : List ℕ). texts (take place names) ++ bytes ∷ []) named ∙ sym (texts-more names place text within at))
    (subst (λ (held : Files). AreOnly (texts (take place names) ++ name ∷ []) held) (sym put) (AreOnly-more (texts (take place names)) files name found only))

pub HaveAtMost-next : (limit : ℕ) (name : List ℕ) (files new : Files) (found : Option (Vec ℕ Global)) → new ≡ with_found name (option_map items_of found) files → HaveAtMost limit files → IfSome found (λ bytes. length bytes.items ≤ limit) → HaveAtMost limit new
HaveAtMost-next limit name files new None put within fits = subst (λ (held : Files). HaveAtMost limit held) (sym put) within
HaveAtMost-next limit name files new (Some bytes) put within fits = subst (λ (held : Files). HaveAtMost limit held) (sym put) (HaveAtMost-more limit files name (Some bytes.items) within fits)

pub first_over-next : (told : Files) (limit : ℕ) (names : List (String Global)) (place : ℕ) (text : String Global) (name : List ℕ) → place < length names → text ≡ get_or names place text → name ≡ string_bytes text
    → first_over told limit (texts (take place names)) ≡ None → is_over limit (contents told name) ≡ false → first_over told limit (texts (take (place + 1) names)) ≡ None
first_over-next told limit names place text name within at named none fits =
    ap (first_over told limit) (texts-more names place text within at ∙ ap (λ (bytes : List ℕ). texts (take place names) ++ bytes ∷ []) (sym named))
    ∙ first_over-more told limit (texts (take place names)) name none fits

pub first_over-here : (told : Files) (limit : ℕ) (names : List (String Global)) (place : ℕ) (text : String Global) (name : List ℕ) → place < length names → text ≡ get_or names place text → name ≡ string_bytes text
    → first_over told limit (texts (take place names)) ≡ None → is_over limit (contents told name) ≡ true → first_over told limit (texts names) ≡ Some place
first_over-here told limit names place text name within at named none over =
    ap (first_over told limit) (texts-at names place text within at ∙ ap (λ (bytes : List ℕ). texts (take place names) ++ bytes ∷ texts (drop (place + 1) names)) (sym named))
    ∙ first_over-at told limit (texts (take place names)) name (texts (drop (place + 1) names)) none over
    ∙ ap Some (length-map (take place names) string_bytes ∙ length-take-le place names (omega arith))

-- an error is the same in results of two types
pub IsErrOf-same : {T U E : Type 0} (error other : E) → IsErrOf {T = T} (Err error) other → IsErrOf {T = U} (Err error) other
IsErrOf-same {U = U} {E = E} error other is =
    let same : error ≡ other = cc in
    let fails : E → Result U E = λ fault. Err fault in
    ap fails same
