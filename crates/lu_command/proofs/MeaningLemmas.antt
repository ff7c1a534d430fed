-- Meanings of words.
use Rattle.std.proofs.Common.{◌≡◌, ◌≢◌, ℕ, Bool, true, false, List, [], ◌∷◌, get_or, codes, refl, sym, ◌∙◌, ap, arith}
use Rattle.std.specs.Str.Parse.{digits_value}
use Rattle.lu_command.specs.Words.{HasDirAndSegment, HasDirAndTerm, HasDirTermAndFrom, options_in, options_asking, arguments_in}
use Rattle.lu_command.specs.Asking.{AskFor}
use Rattle.lu_command.specs.Commands.{Meaning, fields, docs, check, show, build, delete, postings, merge, Means}

-- the words after the first are what they are
pub same_rest : {X : Type 0} (x y : X) (words xs ys : List X) → words ≡ x ∷ xs → words ≡ y ∷ ys → ys ≡ xs
same_rest x y words xs ys here there =
    let both : x ∷ xs ≡ y ∷ ys = sym here ∙ there in
    cc

-- and so is the first
same_first : (x y : List ℕ) (words xs ys : List (List ℕ)) → words ≡ x ∷ xs → words ≡ y ∷ ys → x ≡ y
same_first x y words xs ys here there =
    let both : x ∷ xs ≡ y ∷ ys = sym here ∙ there in
    cc

-- `check` and `build` are two words
check-not_build : codes "check" ≢ codes "build"
check-not_build same =
    let first : 99 ≡ 98 = ap (λ (name : List ℕ). get_or name 0 0) same in
    absurd (omega (arith, first))

-- so are `check` and `merge`
check-not_merge : codes "check" ≢ codes "merge"
check-not_merge same =
    let first : 99 ≡ 109 = ap (λ (name : List ℕ). get_or name 0 0) same in
    absurd (omega (arith, first))

-- and `build` and `merge`
build-not_merge : codes "build" ≢ codes "merge"
build-not_merge same =
    let first : 98 ≡ 109 = ap (λ (name : List ℕ). get_or name 0 0) same in
    absurd (omega (arith, first))

-- so are `show` and `docs`
show-not_docs : codes "show" ≢ codes "docs"
show-not_docs same =
    let first : 115 ≡ 100 = ap (λ (name : List ℕ). get_or name 0 0) same in
    absurd (omega (arith, first))

-- so are `delete` and `fields`
delete-not_fields : codes "delete" ≢ codes "fields"
delete-not_fields same =
    let first : 100 ≡ 102 = ap (λ (name : List ℕ). get_or name 0 0) same in
    absurd (omega (arith, first))

-- a folder is the only one
only_dir : (words words' : List (List ℕ)) (dir dir' : List ℕ) → words' ≡ words → arguments_in words ≡ dir ∷ [] → arguments_in words' ≡ dir' ∷ [] → dir ≡ dir'
only_dir words words' dir dir' same one other =
    let both : dir ∷ [] ≡ dir' ∷ [] = sym one ∙ ap arguments_in (sym same) ∙ other in
    cc

-- a folder and a segment are the only ones
only_pair : (words words' : List (List ℕ)) (dir segment dir' segment' : List ℕ) → words' ≡ words → HasDirAndSegment words dir segment → HasDirAndSegment words' dir' segment' → (dir ≡ dir') × (segment ≡ segment')
only_pair words words' dir segment dir' segment' same one other =
    let both : dir ∷ segment ∷ [] ≡ dir' ∷ segment' ∷ [] = sym one.arguments ∙ ap arguments_in (sym same) ∙ other.arguments in
    (cc, cc)

-- a folder, a field and a text are the only ones
only_term : (words words' : List (List ℕ)) (dir field text dir' field' text' : List ℕ) → words' ≡ words → HasDirAndTerm words dir field text → HasDirAndTerm words' dir' field' text' → (dir ≡ dir') × (field ≡ field') × (text ≡ text')
only_term words words' dir field text dir' field' text' same one other =
    let both : dir ∷ field ∷ text ∷ [] ≡ dir' ∷ field' ∷ text' ∷ [] = sym one.arguments ∙ ap arguments_in (sym same) ∙ other.arguments in
    (cc, cc, cc)

-- a folder, a field, a text and a first document are the only ones
only_reach : (words words' : List (List ℕ)) (dir field text dir' field' text' : List ℕ) (from from' : ℕ) → words' ≡ words → HasDirTermAndFrom words dir field text from → HasDirTermAndFrom words' dir' field' text' from'
    → (dir ≡ dir') × (field ≡ field') × (text ≡ text') × (from ≡ from')
only_reach words words' dir field text dir' field' text' from from' same one other =
    let both : dir ∷ field ∷ text ∷ one.number ∷ [] ≡ dir' ∷ field' ∷ text' ∷ other.number ∷ [] = sym one.arguments ∙ ap arguments_in (sym same) ∙ other.arguments in
    let number : one.number ≡ other.number = cc in
    (cc, cc, cc, one.first.value ∙ ap (digits_value 10) number ∙ sym other.first.value)

-- options ask for one thing
only_asked : (compound compound' : Bool) → options_asking compound ≡ options_asking compound' → compound ≡ compound'
only_asked true true same = refl
only_asked true false same = absurd (cc)
only_asked false true same = absurd (cc)
only_asked false false same = refl

-- words have one meaning at most
pub only_meaning : (words : List (List ℕ)) (one other : Meaning) → Means words one → Means words other → one ≡ other
only_meaning words (fields dir segment) (fields dir' segment') one other =
    let pair = only_pair one.0 other.0 dir segment dir' segment' (same_rest _ _ words one.0 other.0 one.1 other.1) one.2 other.2 in
    ap (λ d. fields d segment) pair.0 ∙ ap (fields dir') pair.1
only_meaning words (docs dir segment) (docs dir' segment') one other =
    let pair = only_pair one.0 other.0 dir segment dir' segment' (same_rest _ _ words one.0 other.0 one.1 other.1) one.2 other.2 in
    ap (λ d. docs d segment) pair.0 ∙ ap (docs dir') pair.1
only_meaning words (check dir) (check dir') one other = ap check (only_dir one.0 other.0 dir dir' (same_rest _ _ words one.0 other.0 one.1 other.1) one.2.arguments other.2.arguments)
only_meaning words (show dir) (show dir') one other = ap show (only_dir one.0 other.0 dir dir' (same_rest _ _ words one.0 other.0 one.1 other.1) one.2.arguments other.2.arguments)
only_meaning words (build dir compound) (build dir' compound') one other =
    let rest = same_rest _ _ words one.0 other.0 one.1 other.1 in
    ap (λ d. build d compound) (only_dir one.0 other.0 dir dir' rest one.2.arguments other.2.arguments)
    ∙ ap (build dir') (only_asked compound compound' (sym one.2.options ∙ ap options_in (sym rest) ∙ other.2.options))
only_meaning words (fields dir segment) (docs dir' segment') one other = let both = sym one.1 ∙ other.1 in absurd (cc)
only_meaning words (fields dir segment) (check dir') one other = let both = sym one.1 ∙ other.1 in absurd (cc)
only_meaning words (fields dir segment) (build dir' compound') one other = let both = sym one.1 ∙ other.1 in absurd (cc)
only_meaning words (docs dir segment) (fields dir' segment') one other = let both = sym one.1 ∙ other.1 in absurd (cc)
only_meaning words (docs dir segment) (check dir') one other = let both = sym one.1 ∙ other.1 in absurd (cc)
only_meaning words (docs dir segment) (build dir' compound') one other = let both = sym one.1 ∙ other.1 in absurd (cc)
only_meaning words (check dir) (fields dir' segment') one other = let both = sym one.1 ∙ other.1 in absurd (cc)
only_meaning words (check dir) (docs dir' segment') one other = let both = sym one.1 ∙ other.1 in absurd (cc)
only_meaning words (check dir) (build dir' compound') one other = absurd (check-not_build (same_first _ _ words one.0 other.0 one.1 other.1))
only_meaning words (build dir compound) (fields dir' segment') one other = let both = sym one.1 ∙ other.1 in absurd (cc)
only_meaning words (build dir compound) (docs dir' segment') one other = let both = sym one.1 ∙ other.1 in absurd (cc)
only_meaning words (build dir compound) (check dir') one other = absurd (check-not_build (same_first _ _ words other.0 one.0 other.1 one.1))
only_meaning words (fields dir segment) (show dir') one other = let both = sym one.1 ∙ other.1 in absurd (cc)
only_meaning words (docs dir segment) (show dir') one other = absurd (show-not_docs (same_first _ _ words other.0 one.0 other.1 one.1))
only_meaning words (check dir) (show dir') one other = let both = sym one.1 ∙ other.1 in absurd (cc)
only_meaning words (build dir compound) (show dir') one other = let both = sym one.1 ∙ other.1 in absurd (cc)
only_meaning words (show dir) (fields dir' segment') one other = let both = sym one.1 ∙ other.1 in absurd (cc)
only_meaning words (show dir) (docs dir' segment') one other = absurd (show-not_docs (same_first _ _ words one.0 other.0 one.1 other.1))
only_meaning words (show dir) (check dir') one other = let both = sym one.1 ∙ other.1 in absurd (cc)
only_meaning words (show dir) (build dir' compound') one other = let both = sym one.1 ∙ other.1 in absurd (cc)
only_meaning words (delete dir field text) (delete dir' field' text') one other =
    let all = only_term one.0 other.0 dir field text dir' field' text' (same_rest _ _ words one.0 other.0 one.1 other.1) one.2 other.2 in
    ap (λ d. delete d field text) all.0 ∙ ap (λ f. delete dir' f text) all.1 ∙ ap (delete dir' field') all.2
only_meaning words (delete dir field text) (fields dir' segment') one other = absurd (delete-not_fields (same_first _ _ words one.0 other.0 one.1 other.1))
only_meaning words (delete dir field text) (docs dir' segment') one other = let both = sym one.1 ∙ other.1 in absurd (cc)
only_meaning words (delete dir field text) (check dir') one other = let both = sym one.1 ∙ other.1 in absurd (cc)
only_meaning words (delete dir field text) (show dir') one other = let both = sym one.1 ∙ other.1 in absurd (cc)
only_meaning words (delete dir field text) (build dir' compound') one other = let both = sym one.1 ∙ other.1 in absurd (cc)
only_meaning words (fields dir segment) (delete dir' field' text') one other = absurd (delete-not_fields (same_first _ _ words other.0 one.0 other.1 one.1))
only_meaning words (docs dir segment) (delete dir' field' text') one other = let both = sym one.1 ∙ other.1 in absurd (cc)
only_meaning words (check dir) (delete dir' field' text') one other = let both = sym one.1 ∙ other.1 in absurd (cc)
only_meaning words (show dir) (delete dir' field' text') one other = let both = sym one.1 ∙ other.1 in absurd (cc)
only_meaning words (build dir compound) (delete dir' field' text') one other = let both = sym one.1 ∙ other.1 in absurd (cc)
only_meaning words (postings dir field text from) (postings dir' field' text' from') one other =
    let all = only_reach one.0 other.0 dir field text dir' field' text' from from' (same_rest _ _ words one.0 other.0 one.1 other.1) one.2 other.2 in
    ap (λ d. postings d field text from) all.0 ∙ ap (λ f. postings dir' f text from) all.1 ∙ ap (λ t. postings dir' field' t from) all.2 ∙ ap (postings dir' field' text') all.3
only_meaning words (postings dir field text from) (fields dir' segment') one other = let both = sym one.1 ∙ other.1 in absurd (cc)
only_meaning words (fields dir segment) (postings dir' field' text' from') one other = let both = sym one.1 ∙ other.1 in absurd (cc)
only_meaning words (postings dir field text from) (docs dir' segment') one other = let both = sym one.1 ∙ other.1 in absurd (cc)
only_meaning words (docs dir segment) (postings dir' field' text' from') one other = let both = sym one.1 ∙ other.1 in absurd (cc)
only_meaning words (postings dir field text from) (check dir') one other = let both = sym one.1 ∙ other.1 in absurd (cc)
only_meaning words (check dir) (postings dir' field' text' from') one other = let both = sym one.1 ∙ other.1 in absurd (cc)
only_meaning words (postings dir field text from) (show dir') one other = let both = sym one.1 ∙ other.1 in absurd (cc)
only_meaning words (show dir) (postings dir' field' text' from') one other = let both = sym one.1 ∙ other.1 in absurd (cc)
only_meaning words (postings dir field text from) (build dir' compound') one other = let both = sym one.1 ∙ other.1 in absurd (cc)
only_meaning words (build dir compound) (postings dir' field' text' from') one other = let both = sym one.1 ∙ other.1 in absurd (cc)
only_meaning words (postings dir field text from) (delete dir' field' text') one other = let both = sym one.1 ∙ other.1 in absurd (cc)
only_meaning words (delete dir field text) (postings dir' field' text' from') one other = let both = sym one.1 ∙ other.1 in absurd (cc)
only_meaning words (merge dir compound) (merge dir' compound') one other =
    let rest = same_rest _ _ words one.0 other.0 one.1 other.1 in
    ap (λ d. merge d compound) (only_dir one.0 other.0 dir dir' rest one.2.arguments other.2.arguments)
    ∙ ap (merge dir') (only_asked compound compound' (sym one.2.options ∙ ap options_in (sym rest) ∙ other.2.options))
only_meaning words (merge dir compound) (fields dir' segment') one other = let both = sym one.1 ∙ other.1 in absurd (cc)
only_meaning words (fields dir segment) (merge dir' compound') one other = let both = sym one.1 ∙ other.1 in absurd (cc)
only_meaning words (merge dir compound) (docs dir' segment') one other = let both = sym one.1 ∙ other.1 in absurd (cc)
only_meaning words (docs dir segment) (merge dir' compound') one other = let both = sym one.1 ∙ other.1 in absurd (cc)
only_meaning words (merge dir compound) (check dir') one other = absurd (check-not_merge (same_first _ _ words other.0 one.0 other.1 one.1))
only_meaning words (check dir) (merge dir' compound') one other = absurd (check-not_merge (same_first _ _ words one.0 other.0 one.1 other.1))
only_meaning words (merge dir compound) (show dir') one other = let both = sym one.1 ∙ other.1 in absurd (cc)
only_meaning words (show dir) (merge dir' compound') one other = let both = sym one.1 ∙ other.1 in absurd (cc)
only_meaning words (merge dir compound) (build dir' compound') one other = absurd (build-not_merge (same_first _ _ words other.0 one.0 other.1 one.1))
only_meaning words (build dir compound) (merge dir' compound') one other = absurd (build-not_merge (same_first _ _ words one.0 other.0 one.1 other.1))
only_meaning words (merge dir compound) (delete dir' field' text') one other = let both = sym one.1 ∙ other.1 in absurd (cc)
only_meaning words (delete dir field text) (merge dir' compound') one other = let both = sym one.1 ∙ other.1 in absurd (cc)
only_meaning words (merge dir compound) (postings dir' field' text' from') one other = let both = sym one.1 ∙ other.1 in absurd (cc)
only_meaning words (postings dir field text from) (merge dir' compound') one other = let both = sym one.1 ∙ other.1 in absurd (cc)

-- words with a meaning that is not of a kind do not ask for one of it
pub asks-not : (IsOfKind : Meaning → Type 0) (words : List (List ℕ)) (meaning : Meaning) → Means words meaning → ¬ AskFor IsOfKind words → ¬ IsOfKind meaning
asks-not IsOfKind words meaning means not is = not (meaning, means, is)
