-- What is found in an index: fields by number, norms by number, terms by name, and entries by document.
use Rattle.std.proofs.Common.{◌≡◌, ℕ, zero, suc, ◌+◌, ◌<◌, true, false, cond, List, [], ◌∷◌, Option, Some, None, length, map, get_or, refl, sym, ap, ◌∙◌, subst, inl, inr, arith, eqb}
use Rattle.std.specs.Prelude.{option_map}
use Rattle.std.specs.List.{AllZip, find, range_with_len}
use Rattle.std.specs.List.Sorted.{IsStrictlySortedBy}
use mathlib.Core.Bool.{true≢false}
use Rattle.lu_types.specs.Bits.{has_bit}
use Rattle.lu_types.specs.Tables.{TableField}
use Rattle.lu_types.specs.Bits as bit
use Rattle.lu_grammar.specs.Bytes.{IsBytes}
use Rattle.lu_model.specs.Index.{Term, term_cmp, KeptOccurrences, given, omitted, IndexedEntry, IndexedTerm}
use Rattle.lu_model.specs.Contents.{field_at, kept, occurrences_at, term_of}
use Rattle.lu_model.specs.Valid.{IsKept, AreNorms}
use Rattle.lu_model.proofs.Words.{IsIn, same_term}
use Rattle.lu_model.proofs.Among.{in_map}
use Rattle.lu_model.proofs.Ordered.{not_below_itself, least}
use Rattle.lu_model.proofs.Bits.{Says}
use Rattle.lu_model.proofs.Alike.{term_order}
use Rattle.lu_model.proofs.Held.{same_term-true, same_term-itself}
use Rattle.lu_model.proofs.Bits.{turned_false}

-- the item at a place within the list
pub get_in : {X : Type 0} (xs : List X) (n : ℕ) (d : X) → n < length xs → IsIn (get_or xs n d) xs
get_in [] n d h = absurd (omega arith)
get_in (x ∷ xs) zero d h = inl refl
get_in (x ∷ xs) (suc n) d h = inr (get_in xs n d (omega arith))

-- a field with a bit is in the table
pub bit_within : (bit : ℕ) (table : List TableField) (n : ℕ) → has_bit bit 0 ≡ false → has_bit bit (field_at n table).bits ≡ true → n < length table
bit_within bit [] n none e = absurd (true≢false (sym e ∙ none))
bit_within bit (f ∷ table) zero none e = omega arith
bit_within bit (f ∷ table) (suc n) none e = let rest = bit_within bit table n none e in omega arith

pub from_range : (n a k : ℕ) → IsIn n (range_with_len a k) → n < a + k
from_range n a zero h = absurd h
from_range n a (suc k) (inl e) = omega arith
from_range n a (suc k) (inr h) = let rest = from_range n (a + 1) k h in omega arith

-- the bytes of norms that are valid
pub norm_bytes : (size : ℕ) (fields : List TableField) (norms : List (Option (List ℕ))) (n : ℕ) (bytes : List ℕ) → AllZip (AreNorms size) fields norms → get_or norms n None ≡ Some bytes → IsBytes bytes
norm_bytes size [] [] n bytes h e = cc
norm_bytes size [] (x ∷ norms) n bytes h e = absurd h
norm_bytes size (f ∷ fields) [] n bytes h e = cc
norm_bytes size (f ∷ fields) (x ∷ norms) zero bytes h e = let k : AreNorms size f (Some bytes) = subst (AreNorms size f) e h.0 in k.2
norm_bytes size (f ∷ fields) (x ∷ norms) (suc n) bytes h e = norm_bytes size fields norms n bytes h.1 e

-- what one table keeps, as another wants it that says as much
pub kept_above : (below above : ℕ) (o : KeptOccurrences) → Says above below → IsKept below o → IsKept above (kept above o)
kept_above below above o says h =
    elim (has_bit bit.omit_tf above) as (λ b. has_bit bit.omit_tf above ≡ b → IsKept above (cond b omitted o)) [
      | true ↦ λ t. t
      | false ↦ λ t. given_case o h t
    ] refl
  where
    given_case : (o : KeptOccurrences) → IsKept below o → has_bit bit.omit_tf above ≡ false → IsKept above o
    given_case (given occurrences) h t = (
      t,
      record {
        some = h.1.some;
        few = h.1.few;
        rise = h.1.rise;
        small = h.1.small;
        payloads = λ e. h.1.payloads (turned_false (has_bit bit.payloads above) (has_bit bit.payloads below) says.payloads e);
      },
    )
    given_case omitted h t = absurd (true≢false (sym (says.omit_tf h) ∙ t))

-- the one term of rising terms that has the name
pub one_found : (fields : List TableField) (terms : List IndexedTerm) (it : IndexedTerm) (t : Term) → IsStrictlySortedBy term_cmp (map (term_of fields) terms) → IsIn it terms → t ≡ term_of fields it → find (λ u. same_term t (term_of fields u)) terms ≡ Some it
unfolding IsStrictlySortedBy
one_found fields [] it t rise h e = absurd h
one_found fields (u ∷ terms) it t rise (inl q) e =
    let same : same_term t (term_of fields u) ≡ true = ap (λ w. same_term w (term_of fields u)) (e ∙ ap (term_of fields) q) ∙ same_term-itself (term_of fields u) in
    ap (λ b. cond b (Some u) (find (λ u. same_term t (term_of fields u)) terms)) same ∙ ap Some (sym q)
one_found fields (u ∷ terms) it t rise (inr k) e =
    elim (same_term t (term_of fields u)) as (λ b. same_term t (term_of fields u) ≡ b → cond b (Some u) (find (λ u. same_term t (term_of fields u)) terms) ≡ Some it) [
      | true ↦ λ q.
          let level : term_of fields u ≡ term_of fields it = sym (same_term-true t (term_of fields u) q) ∙ e in
          let up = least term_cmp term_order (term_of fields u) (term_of fields it) (map (term_of fields) terms) rise.0 (in_map (term_of fields) it terms k) in
          absurd (not_below_itself term_cmp term_order (term_of fields u) (ap (term_cmp (term_of fields u)) level ∙ up))
      | false ↦ λ q. one_found fields terms it t rise.1 k e
    ] refl

-- the entry that tells of a document
pub found_entry : (n : ℕ) (entries : List IndexedEntry) (o : KeptOccurrences) → occurrences_at n entries ≡ Some o → (e : IndexedEntry) × IsIn e entries × (e.occurrences ≡ o)
found_entry n [] o e = cc
found_entry n (f ∷ entries) o e =
    elim (eqb n f.document) as (λ b. option_map (λ (g : IndexedEntry). g.occurrences) (cond b (Some f) (find (λ (g : IndexedEntry). eqb n g.document) entries)) ≡ Some o → (e : IndexedEntry) × IsIn e (f ∷ entries) × (e.occurrences ≡ o)) [
      | true ↦ λ e. let same : f.occurrences ≡ o = cc in (f, inl refl, same)
      | false ↦ λ e. let r = found_entry n entries o e in (r.0, inr r.1, r.2)
    ] e
