-- Which names may be removed.
use Rattle.std.proofs.Common.{◌≡◌, ◌↔◌, ℕ, Bool, true, false, not, ◌&&◌, List, All, Contains, Option, Some, None, refl, sym, ap, ◌∙◌}
use Rattle.std.specs.Prelude.{is_some}
use mathlib.Core.Bool.{true≢false}
use Rattle.segment_infos.specs.declared.naming.LuceneName.{LuceneName}
use Rattle.segment_infos.specs.Values.{IsCommit}
use Rattle.segment_infos.specs.LuceneNames.{SpellsName, IsLuceneName, lucene_name_in}
use Rattle.segment_infos.specs.Referring.{KeptValue, kept_names, is_spelled_among, is_removable}
use Rattle.segment_infos.proofs.NameSpelled.{lucene_name_in-SpellsName, SpellsName-lucene_name_in}
use Rattle.segment_infos.proofs.KeptNames.{own-kept_names, among-Contains}

pub unkept-removable : (kept : List KeptValue) (text : List ℕ) (name : LuceneName) → All (λ k. IsCommit k.commit) kept → SpellsName text name → (is_removable kept text ≡ true) ↔ ¬ Contains (kept_names kept) name
unkept-removable kept text name are spells = (λ free has. kept-not (is_spelled_among (kept_names kept) text) refl (both.1 has) (sym found ∙ free), λ free. found ∙ not-kept (is_spelled_among (kept_names kept) text) (λ has. free (both.0 has)))
  where
    both : (is_spelled_among (kept_names kept) text ≡ true) ↔ Contains (kept_names kept) name
    both = among-Contains text name (kept_names kept) spells (own-kept_names kept are)

    found : is_removable kept text ≡ not (is_spelled_among (kept_names kept) text)
    found = ap (λ (o : Option LuceneName). is_some o && not (is_spelled_among (kept_names kept) text)) (lucene_name_in-SpellsName text name spells)

    kept-not : (t : Bool) → is_spelled_among (kept_names kept) text ≡ t → is_spelled_among (kept_names kept) text ≡ true → not (is_spelled_among (kept_names kept) text) ≡ true → ⊥
    kept-not t is has free = true≢false (sym free ∙ ap not has)

    not-kept : (t : Bool) → (t ≡ true → ⊥) → not t ≡ true
    not-kept true absent = absurd (absent refl)
    not-kept false absent = refl

pub removable-IsLuceneName : (kept : List KeptValue) (text : List ℕ) → is_removable kept text ≡ true → IsLuceneName text
removable-IsLuceneName kept text free = go (lucene_name_in text) refl
  where
    go : (o : Option LuceneName) → lucene_name_in text ≡ o → IsLuceneName text
    go (Some name) is = (name, SpellsName-lucene_name_in text name is)
    go None is = absurd (true≢false (sym free ∙ ap (λ (o : Option LuceneName). is_some o && not (is_spelled_among (kept_names kept) text)) is))
