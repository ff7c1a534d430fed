-- The next run of uses in a column.
use Rattle.std.proofs.Common.{◌≡◌, ◌≢◌, refl, ap, sym, ◌∙◌, subst, ℕ, suc, ◌+◌, ◌<◌, ◌++◌, List, [], ◌∷◌, length, drop, get_or, Bool, cond, arith}
use Rattle.lu_model.specs.Contents.{tokens_with}
use Rattle.seg_writer.specs.declared.appearance.Appearance.{Appearance}
use Rattle.seg_writer.specs.declared.inverted.Use.{Use}
use Rattle.seg_writer.specs.Columns.{tokens_in_field, uses_among, uses_from}
use Rattle.seg_writer.specs.Entries.{entry_with, entry_if_any, entries_of_text, run_length}
use Rattle.seg_writer.proofs.TokenLemmas.{uses-many, empty-some, empty-none, run-own, run-other, among-entry}

-- the first use is in the field that stands so many after the first of the column, and those before have none
pub record NextRun (text : List ℕ) (omit : Bool) (n : ℕ) (column : List Appearance) (first : Use) (d : Appearance) : Type 0 where
  pub skip : ℕ
  pub entry : first.entry ≡ n + skip
  pub inside : skip < length column
  pub uses : uses_from text n column ≡ uses_among text (get_or column skip d).doc first.entry 0 (tokens_in_field (get_or column skip d)) ++ uses_from text (suc first.entry) (drop (suc skip) column)
  pub some : 0 < length (uses_among text (get_or column skip d).doc first.entry 0 (tokens_in_field (get_or column skip d)))
  pub entries : entries_of_text omit text column ≡ entry_with omit (get_or column skip d).doc (tokens_with text (tokens_in_field (get_or column skip d))) ∷ entries_of_text omit text (drop (suc skip) column)

abbrev first_in : Use → List Use → Use
first_in d [] = d
first_in d (u ∷ us) = u

next-own : (text : List ℕ) (omit : Bool) (n : ℕ) (a : Appearance) (column : List Appearance) (first : Use) (more : List Use) (d : Appearance) (own : List Use) → uses_among text a.doc n 0 (tokens_in_field a) ≡ own
    → (uses_from text (suc n) column ≡ first ∷ more → NextRun text omit (suc n) column first d) → uses_from text n (a ∷ column) ≡ first ∷ more → NextRun text omit n (a ∷ column) first d
next-own text omit n a column first more d [] none find is =
    let later = find (ap (λ w. w ++ uses_from text (suc n) column) (sym none) ∙ is) in
    let at = later.entry in
    let inside = later.inside in
    let empty : entry_if_any omit a.doc (tokens_with text (tokens_in_field a)) ≡ [] = ap (λ b. cond b [] (entry_with omit a.doc (tokens_with text (tokens_in_field a)) ∷ [])) (empty-none (tokens_with text (tokens_in_field a)) (sym (uses-many text a.doc n (tokens_in_field a)) ∙ ap length none)) in
    record {
      skip = suc later.skip;
      entry = omega (arith, at);
      inside = omega (arith, inside);
      uses = ap (λ w. w ++ uses_from text (suc n) column) none ∙ later.uses;
      some = later.some;
      entries = ap (λ w. w ++ entries_of_text omit text column) empty ∙ later.entries;
    }
next-own text omit n a column first more d (u ∷ us) own find is =
    let head : u ≡ first = ap (first_in u) (ap (λ w. w ++ uses_from text (suc n) column) (sym own) ∙ is) in
    let here : first.entry ≡ n = ap (λ (x : Use). x.entry) (sym head) ∙ among-entry text a.doc n 0 (tokens_in_field a) u us own in
    let many : 0 < length (uses_among text a.doc n 0 (tokens_in_field a)) = let size = ap length own in omega (arith, size) in
    let same = uses-many text a.doc n (tokens_in_field a) in
    record {
      skip = 0;
      entry = here ∙ (let e : n ≡ n + 0 = omega arith in e);
      inside = omega arith;
      uses = ap (λ k. uses_among text a.doc k 0 (tokens_in_field a) ++ uses_from text (suc k) column) (sym here);
      some = subst (λ k. 0 < length (uses_among text a.doc k 0 (tokens_in_field a))) (sym here) many;
      entries = ap (λ b. cond b [] (entry_with omit a.doc (tokens_with text (tokens_in_field a)) ∷ []) ++ entries_of_text omit text column) (empty-some (tokens_with text (tokens_in_field a)) (omega (arith, many, same)));
    }

pub next-run : (text : List ℕ) (omit : Bool) (n : ℕ) (column : List Appearance) (first : Use) (more : List Use) (d : Appearance) → uses_from text n column ≡ first ∷ more → NextRun text omit n column first d
next-run text omit n [] first more d is = absurd (let size = ap length is in omega (arith, size))
next-run text omit n (a ∷ column) first more d is = next-own text omit n a column first more d (uses_among text a.doc n 0 (tokens_in_field a)) refl (next-run text omit (suc n) column first more d) is

run-later : (text : List ℕ) (entry n : ℕ) (column : List Appearance) → entry < n → run_length entry (uses_from text n column) ≡ 0
run-later text entry n [] lt = refl
run-later text entry n (a ∷ column) lt =
    let differs : n ≢ entry = omega arith in
    run-other text a.doc entry n 0 (tokens_in_field a) (uses_from text (suc n) column) differs (run-later text entry (suc n) column (omega (arith, lt)))

-- how long it is
pub run-is : (text : List ℕ) (omit : Bool) (n : ℕ) (column : List Appearance) (first : Use) (d : Appearance) (r : NextRun text omit n column first d) → run_length first.entry (uses_from text n column) ≡ length (uses_among text (get_or column r.skip d).doc first.entry 0 (tokens_in_field (get_or column r.skip d)))
run-is text omit n column first d r =
    let own = uses_among text (get_or column r.skip d).doc first.entry 0 (tokens_in_field (get_or column r.skip d)) in
    let rest = uses_from text (suc first.entry) (drop (suc r.skip) column) in
    let none = run-later text first.entry (suc first.entry) (drop (suc r.skip) column) (omega arith) in
    let all = ap (run_length first.entry) r.uses ∙ run-own text (get_or column r.skip d).doc first.entry 0 (tokens_in_field (get_or column r.skip d)) rest in
    omega (arith, none, all)
