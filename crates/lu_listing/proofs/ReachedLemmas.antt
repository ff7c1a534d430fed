-- The entries of a term from a document on.
use Rattle.std.proofs.Common.{◌≡◌, ℕ, ◌+◌, ◌&&◌, ◌||◌, Bool, not, List, [], ◌∷◌, Some, None, Option, refl, sym, ap, subst, ◌∙◌, arith}
use Rattle.std.specs.Prelude.{All, filter, nat_le, option_map, map}
use Rattle.std.specs.Cmp.{nat_eq_equiv}
use Rattle.std.specs.List.{find}
use Rattle.std.specs.List.Sorted.{IsStrictlySortedBy}
use Rattle.std.specs.Ordering.{nat_cmp}
use Rattle.std.proofs.lemmas.Bool.Decides.{nat_tests}
use Rattle.lu_model.specs.Index.{IndexedEntry}
use Rattle.lu_model.specs.Contents.{is_deleted}
use Rattle.lu_model.proofs.Cursors.{goes-first, none_left}
use Rattle.lu_model.proofs.Each.{all_at, all-from_each, each-from_all, each_filter}
use Rattle.lu_model.proofs.Tables.{find_in}
use Rattle.doc_marks.specs.Marking.{is_in}
use Rattle.seg_reader.specs.Postings.{PostingsWalk, may_answer, next_entry, answered, entries_left}
use Rattle.lu_listing.specs.InnerEntries.{IsOmittedBy, AreOfTerm, StandsOn}

-- ---- which entries may be answered, in the words of an index

is_in-deleted : (d : ℕ) (hidden : List ℕ) → is_in d hidden ≡ is_deleted hidden d
unfolding is_in
is_in-deleted d [] = refl
is_in-deleted d (x ∷ xs) = λ i. nat_eq_equiv.symm x d i || is_in-deleted d xs i

may : List ℕ → ℕ → ℕ → IndexedEntry → Bool
may hidden from target e = (nat_le from e.document && nat_le target e.document) && not (is_deleted hidden e.document)

behind : List ℕ → ℕ → IndexedEntry → Bool
behind hidden document e = nat_le (document + 1) e.document && not (is_deleted hidden e.document)

may_answer-is : (hidden : List ℕ) (from target : ℕ) → may_answer hidden from target ≡ may hidden from target
unfolding may
may_answer-is hidden from target = λ i e. (nat_le from e.document && nat_le target e.document) && not (is_in-deleted e.document hidden i)

and_low : (b : Bool) (n : ℕ) → b && nat_le 0 n ≡ b
and_low b n = grind (arith, nat_tests)

may_answer-behind : (hidden : List ℕ) (document : ℕ) → may_answer hidden (document + 1) 0 ≡ behind hidden document
unfolding behind
may_answer-behind hidden document = λ i e. and_low (nat_le (document + 1) e.document) e.document i && not (is_in-deleted e.document hidden i)

-- the first that is answered, and those behind it
first_left : (hidden : List ℕ) (target : ℕ) (e : IndexedEntry) (entries : List IndexedEntry) → IsStrictlySortedBy nat_cmp (map (λ (entry : IndexedEntry). entry.document) entries)
    → find (may_answer hidden 0 target) entries ≡ Some e → filter (may_answer hidden 0 target) entries ≡ e ∷ filter (may_answer hidden (e.document + 1) 0) entries
unfolding may behind
first_left hidden target e entries rise found =
    ap (λ (p : IndexedEntry → Bool). filter p entries) (may_answer-is hidden 0 target)
    ∙ goes-first hidden 0 target e entries rise (ap (λ (p : IndexedEntry → Bool). find p entries) (sym (may_answer-is hidden 0 target)) ∙ found)
    ∙ ap (λ (p : IndexedEntry → Bool). e ∷ filter p entries) (sym (may_answer-behind hidden e.document))

-- ---- a walk that jumped

document_found : (o : Option IndexedEntry) (document : ℕ) → option_map (λ (e : IndexedEntry). e.document) o ≡ Some document → (e : IndexedEntry) × (o ≡ Some e) × (document ≡ e.document)
document_found None document found = cc
document_found (Some e) document found = (e, refl, cc)

-- the walk answered the first of the entries that are reached, and the others are left
pub record HasJumped (walk new : PostingsWalk) (from : ℕ) (omits : Bool) (document : ℕ) : Type 0 where
  pub entry : IndexedEntry
  pub stands : StandsOn new omits document entry
  pub reached : filter (may_answer walk.hidden 0 from) walk.entries ≡ entry ∷ entries_left new
  pub left : All (λ (e : IndexedEntry). IsOmittedBy omits e.occurrences) (entries_left new)

jumped : (walk : PostingsWalk) (from : ℕ) (omits : Bool) (document : ℕ) (e : IndexedEntry) → walk.from ≡ 0 → AreOfTerm omits walk.entries → next_entry walk from ≡ Some e → document ≡ e.document
    → HasJumped walk (answered walk (Some e)) from omits document
jumped walk from omits document e start entries found is =
    let found_first = ap (λ (n : ℕ). find (may_answer walk.hidden n from) walk.entries) (sym start) ∙ found in
    let each = each-from_all (λ (x : IndexedEntry). IsOmittedBy omits x.occurrences) walk.entries entries.omitted_by in
    record {
      entry = e;
      stands = record {
        here = refl;
        left = refl;
        document_is = is;
        omitted_by = all_at (λ (x : IndexedEntry). IsOmittedBy omits x.occurrences) e walk.entries entries.omitted_by (find_in (may_answer walk.hidden 0 from) e walk.entries found_first).0;
      };
      reached = first_left walk.hidden from e walk.entries entries.rise found_first;
      left = all-from_each (λ (x : IndexedEntry). IsOmittedBy omits x.occurrences) (filter (may_answer walk.hidden (e.document + 1) 0) walk.entries)
          (each_filter (λ (x : IndexedEntry). IsOmittedBy omits x.occurrences) (may_answer walk.hidden (e.document + 1) 0) walk.entries each);
    }

pub has-jumped : (walk new : PostingsWalk) (from : ℕ) (omits : Bool) (document : ℕ) → walk.from ≡ 0 → AreOfTerm omits walk.entries → option_map (λ (e : IndexedEntry). e.document) (next_entry walk from) ≡ Some document
    → new ≡ answered walk (next_entry walk from) → HasJumped walk new from omits document
has-jumped walk new from omits document start entries told moved =
    let found = document_found (next_entry walk from) document told in
    subst (λ (w : PostingsWalk). HasJumped walk w from omits document) (sym (moved ∙ ap (answered walk) found.1)) (jumped walk from omits document found.0 start entries found.1 found.2)

-- none is reached
pub none-reached : (walk : PostingsWalk) (from : ℕ) → walk.from ≡ 0 → option_map (λ (e : IndexedEntry). e.document) (next_entry walk from) ≡ None → filter (may_answer walk.hidden 0 from) walk.entries ≡ []
none-reached walk from start told =
    none_left (may_answer walk.hidden 0 from) walk.entries (ap (λ (n : ℕ). find (may_answer walk.hidden n from) walk.entries) (sym start) ∙ not_found (next_entry walk from) told)
  where
    not_found : (o : Option IndexedEntry) → option_map (λ (e : IndexedEntry). e.document) o ≡ None → o ≡ None
    not_found None e = refl
    not_found (Some x) e = cc
