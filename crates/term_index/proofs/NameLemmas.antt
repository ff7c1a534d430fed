-- The names of the first fields of a table.
use Rattle.std.proofs.Common.{◌≡◌, ℕ, ◌+◌, ◌<◌, List, [], ◌∷◌, ◌++◌, length, map, take, get_or, Some, sym, ap, ◌∙◌}
use Rattle.std.specs.Prelude.{slice_get}
use Rattle.std.proofs.lemmas.List.{map-append, take_more}
use Rattle.std.proofs.lemmas.Option.{get_or_from_slice_get}
use Rattle.lu_types.specs.Tables.{TableField}
use Rattle.term_index.specs.Seeking.{names_of}

abbrev name_in : TableField → List ℕ
name_in f = f.name

-- one name more
pub names-more : (fields : List TableField) (names more : List (List ℕ)) (n : ℕ) (f : TableField) → n < length fields → names ≡ names_of (take n fields) → Some f ≡ slice_get fields n → more ≡ names ++ f.name ∷ [] → more ≡ names_of (take (n + 1) fields)
names-more fields names more n f lt is at to =
    to ∙ ap (λ (ns : List (List ℕ)). ns ++ f.name ∷ []) is
    ∙ ap (λ (g : TableField). names_of (take n fields) ++ g.name ∷ []) (sym (get_or_from_slice_get fields n f f (sym at)))
    ∙ sym (map-append name_in (take n fields) (get_or fields n f ∷ [])) ∙ ap (map name_in) (sym (take_more fields n f lt))
