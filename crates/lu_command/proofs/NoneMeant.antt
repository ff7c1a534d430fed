-- Words that begin with the name of a command, and go on otherwise, have no meaning.
use Rattle.std.proofs.Common.{◌≡◌, ℕ, Bool, true, List, ◌∷◌, codes, string_bytes, ap, sym, subst, ◌∙◌}
use Rattle.std.specs.Prelude.{String}
use Rattle.std.specs.Str.{bytes_eq}
use Rattle.std.proofs.lemmas.Slice.Eq.{bytes_eq-Decides}
use Rattle.lu_dir.specs.Loading.{texts}
use Rattle.lu_command.specs.Words.{HasDirTermAndFrom}
use Rattle.lu_command.specs.Commands.{Meaning, fields, docs, check, show, build, delete, postings, merge, Means}
use Rattle.lu_command.proofs.MeaningLemmas.{same_rest}

-- so it is of `postings`, where the rest is not what is asked for
pub none-postings : (words rest : List (List ℕ)) → words ≡ codes "postings" ∷ rest → ((dir field text : List ℕ) (from : ℕ) → ¬ HasDirTermAndFrom rest dir field text from) → (meaning : Meaning) → ¬ Means words meaning
none-postings words rest is none (postings dir field text from) means =
    none dir field text from (subst (λ (ws : List (List ℕ)). HasDirTermAndFrom ws dir field text from) (same_rest _ _ words rest means.0 is means.1) means.2)
none-postings words rest is none (fields dir segment) means = let both = sym is ∙ means.1 in absurd (cc)
none-postings words rest is none (docs dir segment) means = let both = sym is ∙ means.1 in absurd (cc)
none-postings words rest is none (check dir) means = let both = sym is ∙ means.1 in absurd (cc)
none-postings words rest is none (show dir) means = let both = sym is ∙ means.1 in absurd (cc)
none-postings words rest is none (build dir compound) means = let both = sym is ∙ means.1 in absurd (cc)
none-postings words rest is none (delete dir field text) means = let both = sym is ∙ means.1 in absurd (cc)
none-postings words rest is none (merge dir compound) means = let both = sym is ∙ means.1 in absurd (cc)

-- the words of texts of which the first is this name
pub words-begin : {A : Type 0} (words : List (String A)) (first : String A) (rest : List (String A)) (word name : List ℕ) (same : Bool) → words ≡ first ∷ rest → word ≡ string_bytes first → same ≡ bytes_eq word name → same ≡ true
    → texts words ≡ name ∷ texts rest
words-begin words first rest word name same split is compared equal =
    ap texts split ∙ ap (λ (n : List ℕ). n ∷ texts rest) (sym is ∙ (bytes_eq-Decides word name).0 (sym compared ∙ equal))
