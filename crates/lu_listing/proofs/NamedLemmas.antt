-- Fields and terms that are found by their names.
use Rattle.std.proofs.Common.{◌≡◌, ℕ, ◌<◌, Bool, true, false, cond, List, [], length, get_or, Some, None, refl, sym, ap, ◌∙◌, arith}
use Rattle.std.specs.Prelude.{nat_lt, slice_get}
use Rattle.std.specs.Str.{bytes_eq}
use Rattle.std.specs.Cmp.Lexicographic.{bytes_decides}
use Rattle.std.specs.List.{position_or_len}
use Rattle.std.proofs.lemmas.Bool.Decides.{nat_tests}
use Rattle.std.proofs.lemmas.List.Elements.{All-weaker}
use Rattle.std.proofs.lemmas.Option.{slice_get-get_or}
use Rattle.std.proofs.lemmas.List.Sums.{position_or_len_is}
use Rattle.lu_types.specs.Bits as bit
use Rattle.lu_types.specs.Bits.{has_bit}
use Rattle.lu_types.specs.Tables.{TableField, number_of, IsTable}
use Rattle.lu_model.specs.Index.{KeptOccurrences, given, omitted, IndexedEntry, IndexedTerm, Index}
use Rattle.lu_model.specs.Contents.{field_at}
use Rattle.lu_model.specs.Valid.{IsKept, IsIndexedTerm, IsValid}
use Rattle.lu_model.proofs.Each.{all_at}
use Rattle.lu_model.proofs.Held.{both_true}
use Rattle.lu_model.proofs.Tables.{find_in}
use Rattle.seg_reader.specs.Terms.{has_name, term_named}
use Rattle.lu_listing.specs.InnerEntries.{IsOmittedBy, AreOfTerm}

-- ---- fields

is_false : (b : Bool) → (b ≡ true → ⊥) → b ≡ false
is_false true h = absurd (h refl)
is_false false h = refl

is_below : (m n : ℕ) → m < n → nat_lt m n ≡ true
is_below m n lt = grind (arith, nat_tests)

-- the number of a field's name is that of the field
pub number-own : (fields : List TableField) (n : ℕ) (name : List ℕ) → IsTable fields → n < length fields → (field_at n fields).name ≡ name → number_of name fields ≡ Some n
number-own fields n name table lt is = ap (λ (m : ℕ). cond (nat_lt m (length fields)) (Some m) None) first ∙ ap (λ (b : Bool). cond b (Some n) None) (is_below n (length fields) lt)
  where
    none : TableField
    none = record { name = []; bits = 0 }

    first : position_or_len (λ (field : TableField). bytes_eq name field.name) fields ≡ n
    first = position_or_len_is (λ (field : TableField). bytes_eq name field.name) fields n none (omega arith)
        (λ k below. is_false _ (λ same. table.apart k n none below lt (sym ((bytes_decides name (get_or fields k none).name).0 same) ∙ sym is)))
        (λ within. (bytes_decides name (get_or fields n none).name).1 (sym is))

-- the field with the number of a name has the name
pub field-own : (fields : List TableField) (n m : ℕ) (name : List ℕ) → IsTable fields → n < length fields → (field_at n fields).name ≡ name → Some m ≡ number_of name fields → slice_get fields m ≡ Some (field_at n fields)
field-own fields n m name table lt is found =
    let both : Some m ≡ Some n = found ∙ number-own fields n name table lt is in
    let same : m ≡ n = cc in
    ap (slice_get fields) same ∙ slice_get-get_or fields n (record { name = []; bits = 0 }) lt

-- ---- terms

-- a term that is found is one of an index that is valid, in the field of the name
pub valid-named : (x : Index) (field text : List ℕ) (t : IndexedTerm) → IsValid x → term_named x field text ≡ Some t → IsIndexedTerm x.size (field_at t.field x.fields).bits t × ((field_at t.field x.fields).name ≡ field)
valid-named x field text t valid found =
    let among = find_in (has_name x.fields field text) t x.terms found in (
      all_at (λ (term : IndexedTerm). IsIndexedTerm x.size (field_at term.field x.fields).bits term) t x.terms valid.terms among.0,
      (bytes_decides (field_at t.field x.fields).name field).0 (both_true (bytes_eq (field_at t.field x.fields).name field) (bytes_eq t.text text) among.1).0,
    )

omitted_by : (omits : Bool) (bits : ℕ) (k : KeptOccurrences) → omits ≡ has_bit bit.omit_tf bits → IsKept bits k → IsOmittedBy omits k
omitted_by omits bits (given occurrences) same h = same ∙ h.0
omitted_by omits bits omitted same h = same ∙ h

-- the entries of a term of a field with these bits
pub entries-of_term : (omits : Bool) (size bits : ℕ) (t : IndexedTerm) → omits ≡ has_bit bit.omit_tf bits → IsIndexedTerm size bits t → AreOfTerm omits t.entries
entries-of_term omits size bits t same term = record {
  rise = term.rise;
  omitted_by = All-weaker (λ (e : IndexedEntry). (e.document < size) × IsKept bits e.occurrences) (λ (e : IndexedEntry). IsOmittedBy omits e.occurrences) (λ e h. omitted_by omits bits e.occurrences same h.1) t.entries term.entries;
}
