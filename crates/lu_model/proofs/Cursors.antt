-- Where a cursor goes, against the entries that are left for it.
use Rattle.std.proofs.Common.{◌≡◌, ℕ, ◌+◌, ◌<◌, ◌≤◌, Bool, true, false, not, cond, List, [], ◌∷◌, Some, None, map, refl, sym, ap, ◌∙◌, arith}
use Rattle.std.specs.Prelude.{filter, nat_le, ◌&&◌}
use Rattle.std.specs.List.{find}
use Rattle.std.specs.List.Sorted.{IsStrictlySortedBy}
use Rattle.std.specs.Ordering.{nat_cmp}
use Rattle.std.proofs.lemmas.Bool.Decides.{nat_tests}
use Rattle.lu_model.specs.Contents.{after, is_deleted}
use Rattle.lu_model.specs.Index.{IndexedEntry}
use Rattle.lu_model.proofs.Words.{Each, EachPair}
use Rattle.lu_model.proofs.Each.{each_at}
use Rattle.lu_model.proofs.Held.{both_true}
use Rattle.lu_model.proofs.Renumbered.{rises}
use Rattle.lu_model.proofs.Tables.{find_in}

is_le : (m n : ℕ) → m ≤ n → nat_le m n ≡ true
is_le m n h = grind (arith, nat_tests)

from_le : (m n : ℕ) → nat_le m n ≡ true → m ≤ n
from_le m n e = grind (arith, nat_tests)

not_le : (m n : ℕ) → n < m → nat_le m n ≡ false
not_le m n h = grind (arith, nat_tests)

-- none passes where none is found
pub none_left : {X : Type 0} (p : X → Bool) (xs : List X) → find p xs ≡ None → filter p xs ≡ []
none_left p [] e = refl
none_left p (x ∷ xs) e = elim (p x) as (λ b. cond b (Some x) (find p xs) ≡ None → cond b (x ∷ filter p xs) (filter p xs) ≡ []) [ true ↦ λ e. cc | false ↦ λ e. none_left p xs e ] e

module _ (deleted : List ℕ) where
  -- the entry is where a cursor goes on from one document, and not below another
  abbrev is_ahead : ℕ → ℕ → IndexedEntry → Bool
  is_ahead next target entry = nat_le next entry.document && nat_le target entry.document && not (is_deleted deleted entry.document)

  abbrev is_behind : ℕ → IndexedEntry → Bool
  is_behind document entry = nat_le (document + 1) entry.document && not (is_deleted deleted entry.document)

  -- of entries above one that is ahead, those that are ahead are those that stand behind it
  same_left : (next target document : ℕ) → next ≤ document → target ≤ document → (entries : List IndexedEntry) → Each (λ entry. document < entry.document) entries
      → filter (is_ahead next target) entries ≡ filter (is_behind document) entries
  same_left next target document low high [] h = refl
  same_left next target document low high (e ∷ entries) h =
      let above : document < e.document = h.0 in
      let a = is_le next e.document (omega (arith, above, low)) in
      let b = is_le target e.document (omega (arith, above, high)) in
      let c = is_le (document + 1) e.document (omega (arith, above)) in
      let same : is_ahead next target e ≡ is_behind document e = (λ i. a i && b i && not (is_deleted deleted e.document)) ∙ sym (ap (λ v. v && not (is_deleted deleted e.document)) c) in
      let rest = same_left next target document low high entries h.1 in
      λ i. cond (same i) (e ∷ rest i) (rest i)

  -- what a cursor goes to is the first that is left, and the others stand behind it
  goes : (next target : ℕ) (e : IndexedEntry) (entries : List IndexedEntry) → EachPair (λ d f. d.document < f.document) entries → find (is_ahead next target) entries ≡ Some e
      → filter (is_ahead next target) entries ≡ e ∷ filter (is_behind e.document) entries
  goes next target e [] rise q = cc
  goes next target e (x ∷ entries) rise q =
      elim (is_ahead next target x) as (λ b. is_ahead next target x ≡ b → cond b (Some x) (find (is_ahead next target) entries) ≡ Some e
      → cond b (x ∷ filter (is_ahead next target) entries) (filter (is_ahead next target) entries) ≡ e ∷ filter (is_behind e.document) (x ∷ entries)) [
        | true ↦ λ t q.
            let same : x ≡ e = cc in
            let ahead = both_true (nat_le next x.document && nat_le target x.document) (not (is_deleted deleted x.document)) t in
            let both = both_true (nat_le next x.document) (nat_le target x.document) ahead.0 in
            let here : is_behind x.document x ≡ false = ap (λ v. v && not (is_deleted deleted x.document)) (not_le (x.document + 1) x.document (omega arith)) in
            ap (λ rest. x ∷ rest) (same_left next target x.document (from_le next x.document both.0) (from_le target x.document both.1) entries rise.0
            ∙ sym (ap (λ b. cond b (x ∷ filter (is_behind x.document) entries) (filter (is_behind x.document) entries)) here))
            ∙ ap (λ (w : IndexedEntry). w ∷ filter (is_behind w.document) (x ∷ entries)) same
        | false ↦ λ t q.
            let above : x.document < e.document = each_at (λ (f : IndexedEntry). x.document < f.document) e entries rise.0 (find_in (is_ahead next target) e entries q).0 in
            let here : is_behind e.document x ≡ false = ap (λ v. v && not (is_deleted deleted x.document)) (not_le (e.document + 1) x.document (omega (arith, above))) in
            goes next target e entries rise.1 q
            ∙ ap (λ b. e ∷ cond b (x ∷ filter (is_behind e.document) entries) (filter (is_behind e.document) entries)) (sym here)
      ] refl q

  pub goes-first : (next target : ℕ) (e : IndexedEntry) (entries : List IndexedEntry) → IsStrictlySortedBy nat_cmp (map (λ (entry : IndexedEntry). entry.document) entries) → after entries deleted next target ≡ Some e
      → filter (is_ahead next target) entries ≡ e ∷ filter (is_behind e.document) entries
  goes-first next target e entries rise q = goes next target e entries (rises entries rise) q
