-- The spelling of a table is read as the table.
use Rattle.std.proofs.Common.{◌≡◌, ◌≢◌, ℕ, zero, suc, ◌+◌, ◌<◌, ◌≤◌, ◌^◌, Bool, false, leb, List, [], ◌∷◌, ◌++◌, length, take, get_or, flat_map, All, bytes_eq, Option, None, Ok, refl, sym, ap, subst, ◌∙◌, arith, inl, inr}
use Rattle.std.specs.List.{position_or_len}
use Rattle.std.specs.Cmp.Lexicographic.{bytes_decides}
use Rattle.std.proofs.Math.Seq.{take-suc}
use Rattle.std.proofs.lemmas.Bool.{cases_lt, lt-leb}
use Rattle.std.proofs.lemmas.Grind.{common_steps}
use Rattle.std.proofs.lemmas.List.{append-nil, take_all, get_or-take, flat_map_more}
use Rattle.std.proofs.lemmas.List.Sums.{passes_at_first}
use Rattle.lu_grammar.specs.Bytes.{IsBytes}
use Rattle.lu_grammar.specs.Parts.{text, IsValue, spelling, groups}
use Rattle.lu_grammar.specs.Records.{Spells, first_broken}
use Rattle.lu_grammar.specs.Plans.{one, times, read_file}
use Rattle.lu_grammar.specs.Meaning.{Reads}
use Rattle.lu_grammar.proofs.Files.{Reads-from}
use Rattle.lu_grammar.proofs.Writers.{Writes, Writes-due, Writes-none, Writes-record, read_file-Writes}
use Rattle.lu_types.specs.Tables.{TableField, number_of, IsTable}
use Rattle.field_infos.specs.Fnm.{header, field, header_shape, header_conditions, field_shape, field_conditions, format_number, is_other_count, lacks_prox, one_field, after_header, fnm_plan}
use Rattle.lu_grammar.proofs.Codecs.{IsBytes-nil, IsBytes-cons, IsBytes-append, IsBytes-flat_map, IsBytes-groups, IsBytes-spelling}
use Rattle.field_infos.specs.Spelling.{AreNamed, field_spelling, header_spelling, fnm_spelling}

-- ---- one record

pub header-spells : (count : ℕ) → count < 2 ^ 31 → Spells header_shape (header format_number count) (header_spelling count)
header-spells count few = (format_number, _, omega arith, refl, (count, [], few, sym (append-nil _), (refl, refl)))

pub header-good : (norm_fields : Option ℕ) (count : ℕ) → is_other_count norm_fields count ≡ false → first_broken (header_conditions norm_fields (header format_number count)) ≡ None
header-good norm_fields count same = rw same refl

pub field-spells : (f : TableField) → IsValue text f.name → f.bits < 128 → Spells field_shape (field f) (field_spelling f)
field-spells f named clear = (f.name, _, named, refl, (f.bits, [], omega arith, refl, (refl, refl)))

-- a name that no field has, has no number
pub number_of-none : (name : List ℕ) (fields : List TableField) (d : TableField) → ((k : ℕ) → k < length fields → (get_or fields k d).name ≢ name) → number_of name fields ≡ None
number_of-none name fields d apart =
    let p = λ (f : TableField). bytes_eq name f.name in
    elim (cases_lt (position_or_len p fields) (length fields)) [
      | inl lt ↦ absurd (apart (position_or_len p fields) lt (sym ((bytes_decides name _).0 (passes_at_first p fields d lt))))
      | inr past ↦ grind (arith, common_steps)
    ]

pub field-good : (has_prox : Bool) (fields : List TableField) (f : TableField) → number_of f.name fields ≡ None → f.bits < 128 → lacks_prox has_prox f.bits ≡ false
    → first_broken (field_conditions has_prox fields (field f)) ≡ None
field-good has_prox fields f new clear proxed =
    let fine : leb 128 f.bits ≡ false = lt-leb 128 f.bits clear in
    rw (new, fine, proxed) refl

-- ---- all of them

no_field : TableField
no_field = record { name = []; bits = 0 }

-- the same number of records, bytes and fields
Writes-same : (has_prox : Bool) (place n m : ℕ) (bytes others : List ℕ) (before after : List TableField) → n ≡ m → bytes ≡ others → before ≡ after → Writes (times (one_field has_prox) n []) place bytes before
    → Writes (times (one_field has_prox) m []) place others after
Writes-same has_prox place n m bytes others before after number same is w =
    subst (λ k. Writes (times (one_field has_prox) k []) place others after) number
    (subst (λ t. Writes (times (one_field has_prox) n []) place t after) same (subst (λ v. Writes (times (one_field has_prox) n []) place bytes v) is w))

-- the spelling of a table is bytes
pub IsBytes-fnm : (fields : List TableField) → IsTable fields → AreNamed fields → IsBytes (fnm_spelling fields)
IsBytes-fnm fields table named =
    let format : IsBytes (groups 4 format_number) = IsBytes-groups 4 format_number (omega arith) in
    let count : IsBytes (groups 4 (length fields)) = IsBytes-groups 4 (length fields) (omega (arith, table.few)) in
    let each : All (λ f. IsBytes (field_spelling f)) fields =
    λ k d within. let f = get_or fields k d in IsBytes-append (spelling text f.name) (f.bits ∷ []) (IsBytes-spelling text f.name (named k d within)) (IsBytes-cons f.bits [] (omega (arith, table.clear k d within)) IsBytes-nil) in
    IsBytes-append (header_spelling (length fields)) (flat_map field_spelling fields) (IsBytes-append (groups 4 format_number) (groups 4 (length fields)) format count) (IsBytes-flat_map field_spelling fields each)

module _ (has_prox : Bool) (fields : List TableField) (table : IsTable fields) (named : AreNamed fields) (proxed : All (λ f. lacks_prox has_prox f.bits ≡ false) fields) where
  -- a field of the table is new after those before it
  new-after : (i : ℕ) → i < length fields → number_of (get_or fields i no_field).name (take i fields) ≡ None
  new-after i within = number_of-none (get_or fields i no_field).name (take i fields) no_field (λ k lt same.
      let before : k < i = grind (arith, common_steps) in
      table.apart k i no_field before within (ap (λ (f : TableField). f.name) (sym (get_or-take i fields k no_field before)) ∙ same))

  fields-written : (place i : ℕ) → i ≤ length fields → Writes (times (one_field has_prox) i []) place (flat_map field_spelling (take i fields)) (take i fields)
  fields-written place zero within = Writes-none (one (one_field has_prox)) place []
  fields-written place (suc i) within =
      let f = get_or fields i no_field in
      let front = take i fields in
      let inside : i < length fields = omega arith in
      let more : take (suc i) fields ≡ front ++ f ∷ [] = take-suc fields i no_field inside in
      let clear : f.bits < 128 = table.clear i no_field inside in
      let spelled : flat_map field_spelling front ++ field_spelling f ≡ flat_map field_spelling (front ++ f ∷ []) = flat_map_more field_spelling [] front f in
      Writes-same has_prox place (i + 1) (suc i) _ _ _ _ (omega arith) (spelled ∙ ap (flat_map field_spelling) (sym more)) (sym more)
      (Writes-record (one_field has_prox) [] place i (flat_map field_spelling front) front (field f) (field_spelling f) (fields-written place i (omega arith))
      (field-spells f (named i no_field inside) clear) (field-good has_prox front f (new-after i inside) clear (proxed i no_field inside)))

  -- the whole file
  pub fnm-written : (norm_fields : Option ℕ) → is_other_count norm_fields (length fields) ≡ false → read_file (fnm_plan has_prox norm_fields) (fnm_spelling fields) ≡ Ok fields
  fnm-written norm_fields same =
      let count = length fields in
      let all : take count fields ≡ fields = take_all count fields (omega arith) in
      let place = 0 + length (header_spelling count) in
      let after : Writes (times (one_field has_prox) count []) place (flat_map field_spelling fields) fields =
      Writes-same has_prox place count count _ _ _ _ refl (ap (flat_map field_spelling) all) all (fields-written place count (omega arith)) in
      read_file-Writes (fnm_plan has_prox norm_fields) (fnm_spelling fields) fields
      (Writes-due header_shape (λ place r. header_conditions norm_fields r) (λ place r. after_header has_prox r) 0 (header format_number count) (header_spelling count) (flat_map field_spelling fields) fields
      (header-spells count table.few) (header-good norm_fields count same) after)

  pub fnm-reads : (norm_fields : Option ℕ) → is_other_count norm_fields (length fields) ≡ false → Reads (fnm_plan has_prox norm_fields) (fnm_spelling fields) fields
  fnm-reads norm_fields same = Reads-from (fnm_plan has_prox norm_fields) (fnm_spelling fields) fields (IsBytes-fnm fields table named) (fnm-written norm_fields same)

-- ---- fields as they are taken

-- one field more
pub fields-more : (fields : List TableField) (i : ℕ) (d : TableField) → i < length fields → take (i + 1) fields ≡ take i fields ++ get_or fields i d ∷ []
fields-more fields i d within =
    let next : i + 1 ≡ suc i = omega arith in
    ap (λ n. take n fields) next ∙ take-suc fields i d within
