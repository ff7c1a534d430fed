-- The entries that a cursor answers, one more.
use Rattle.std.proofs.Common.{◌≡◌, ℕ, ◌<◌, ◌++◌, Bool, true, false, List, ◌∷◌, length, map, Option, Some, None, refl, sym, ap, ◌∙◌, subst}
use Rattle.std.specs.Prelude.{option_map}
use Rattle.lu_model.specs.Index.{IndexedEntry}
use Rattle.lu_model.specs.Contents.{kept}
use Rattle.seg_reader.specs.Postings.{PostingsWalk, answered, entries_left, next_entry, occurrences_kept}
use Rattle.seg_merger.specs.TermNumbers.{number_in, renamed}
use Rattle.seg_merger.specs.declared.terms.documents.DocMap.{DocMap}

-- the entry that was answered is the first of those that were left
pub record IsAnswered (w new : PostingsWalk) (doc : ℕ) : Type 0 where
  pub entry : IndexedEntry
  pub here : new.here ≡ Some entry
  pub left : entries_left w ≡ entry ∷ entries_left new
  pub occurrences : new.left ≡ occurrences_kept entry.occurrences
  pub is : doc ≡ entry.document

answered-here : (w : PostingsWalk) (o : Option IndexedEntry) → (answered w o).here ≡ o
answered-here w None = refl
answered-here w (Some e) = refl

pub is_answered : (w new : PostingsWalk) (doc : ℕ) → Some doc ≡ option_map (λ (e : IndexedEntry). e.document) (next_entry w 0) → new ≡ answered w (next_entry w 0)
    → (e : IndexedEntry) × (new.here ≡ Some e) × (entries_left w ≡ e ∷ entries_left new) → IsAnswered w new doc
is_answered w new doc document walk (e, here, left) =
    let found : next_entry w 0 ≡ Some e = sym (answered-here w (next_entry w 0)) ∙ ap (λ (v : PostingsWalk). v.here) (sym walk) ∙ here in
    record {
      entry = e;
      here = here;
      left = left;
      occurrences = ap (λ (v : PostingsWalk). v.left) (walk ∙ ap (answered w) found);
      is = (let same : Some doc ≡ Some e.document = document ∙ ap (option_map (λ (x : IndexedEntry). x.document)) found in cc);
    }

-- under the new numbers
pub renamed-first : (bits : ℕ) (docs : DocMap) (w new : PostingsWalk) (doc number : ℕ) (a : IsAnswered w new doc) → number ≡ number_in docs doc → (more : List IndexedEntry)
    → map (renamed bits docs) (entries_left w) ++ more ≡ record { document = number; occurrences = kept bits a.entry.occurrences } ∷ (map (renamed bits docs) (entries_left new) ++ more)
renamed-first bits docs w new doc number a is more =
    ap (λ es. map (renamed bits docs) es ++ more) a.left
    ∙ ap (λ n. (let e : IndexedEntry = record { document = n; occurrences = kept bits a.entry.occurrences } in e) ∷ (map (renamed bits docs) (entries_left new) ++ more)) (ap (number_in docs) (sym a.is) ∙ sym is)

-- there were some, if there are some now
pub some-step : {X : Type 0} (b : Bool) (now initial : List X) → (b ≡ false → now ≡ initial) → (b ≡ true → 0 < length initial) → 0 < length now → 0 < length initial
some-step false now initial none some h = subst (λ xs. 0 < length xs) (none refl) h
some-step true now initial none some h = some refl
