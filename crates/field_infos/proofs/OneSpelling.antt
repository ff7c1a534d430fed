-- Bytes that read as a table are its spelling.
use Rattle.std.proofs.Common.{◌≡◌, ℕ, zero, suc, ◌+◌, Bool, true, false, List, [], ◌∷◌, ◌++◌, length, flat_map, Option, None, refl, sym, ap, subst, ◌∙◌, append_assoc}
use mathlib.Core.Bool.{true≢false}
use Rattle.std.proofs.lemmas.List.{append-nil}
use Rattle.lu_grammar.specs.Parts.{spelling, num, text, vint}
use Rattle.lu_grammar.specs.Records.{Spells, first_broken}
use Rattle.lu_grammar.specs.Plans.{Plan, done, due, each, times}
use Rattle.lu_grammar.specs.Meaning.{Spelled, bytes_of, AreGood, due_after, Reads}
use Rattle.lu_types.specs.Tables.{TableField}
use Rattle.field_infos.specs.Fnm.{FnmRecord, header, field, header_shape, header_conditions, field_shape, format_number, with_field, one_field, after_header, fnm_plan}
use Rattle.field_infos.specs.Spelling.{field_spelling, header_spelling, fnm_spelling}
use Rattle.field_infos.proofs.Records.{format-good}

-- ---- one record

-- the record of a field, and its bytes
abbrev pub IsField : FnmRecord → List ℕ → Type 0
IsField r front = (f : TableField) × (r ≡ field f) × (front ≡ field_spelling f)

field-only : (r : FnmRecord) (front : List ℕ) → Spells field_shape r front → IsField r front
field-only r front (name, back, named, is, (bits, end, fits, more, (made, none))) =
    (record { name = name; bits = bits }, sym made, is ∙ ap (λ t. spelling text name ++ t) (more ∙ ap (λ t. bits ∷ t) none))

-- the header, and its bytes
abbrev pub IsHeader : FnmRecord → List ℕ → Type 0
IsHeader r front = (format : ℕ) × (count : ℕ) × (r ≡ header format count) × (front ≡ spelling vint format ++ spelling num count)

header-only : (r : FnmRecord) (front : List ℕ) → Spells header_shape r front → IsHeader r front
header-only r front (format, back, fits, is, (count, end, few, more, (made, none))) =
    (format, count, sym made, is ∙ ap (λ t. spelling vint format ++ t) (more ∙ ap (λ t. spelling num count ++ t) none ∙ append-nil (spelling num count)))

-- ---- a list of them

-- what a plan stands for where nothing more is due, and whether that is so
abbrev value_or : List TableField → Plan (List TableField) FnmRecord → List TableField
value_or other (done v) = v
value_or other (due shape conditions after) = other

abbrev ends : Plan (List TableField) FnmRecord → Bool
ends (done v) = true
ends (due shape conditions after) = false

-- the fields after those before, and their bytes
pub record MoreFields (n : ℕ) (before fields : List TableField) (bytes : List ℕ) : Type 0 where
  pub more : List TableField
  pub all : fields ≡ before ++ more
  pub count : length more ≡ n
  pub spelled : bytes ≡ flat_map field_spelling more

fields-only : (has_prox : Bool) (n : ℕ) (before : List TableField) (place : ℕ) (ss : List (Spelled FnmRecord)) (fields : List TableField) → AreGood (times (one_field has_prox) n before) place ss
    → due_after (times (one_field has_prox) n before) place ss ≡ done fields → MoreFields n before fields (bytes_of ss)
unfolding each
fields-only has_prox zero before place [] fields good none = record { more = []; all = sym (ap (value_or []) none) ∙ sym (append-nil before); count = refl; spelled = refl }
fields-only has_prox zero before place (s ∷ ss) fields good none = absurd good
fields-only has_prox (suc n) before place [] fields good none = absurd (true≢false (sym (ap ends none)))
fields-only has_prox (suc n) before place (s ∷ ss) fields good none =
    let is = field-only s.it s.front good.0.0 in
    let next = times (one_field has_prox) n in
    let there = place + length s.front in
    let made : with_field before s.it ≡ before ++ is.0 ∷ [] = ap (with_field before) is.1 in
    let rest = fields-only has_prox n (before ++ is.0 ∷ []) there ss fields (subst (λ (fs : List TableField). AreGood (next fs) there ss) made good.1) (subst (λ (fs : List TableField). due_after (next fs) there ss ≡ done fields) made none) in
    record {
      more = is.0 ∷ rest.more;
      all = rest.all ∙ append_assoc before (is.0 ∷ []) rest.more;
      count = ap suc rest.count;
      spelled = ap (λ (t : List ℕ). t ++ bytes_of ss) is.2 ∙ ap (λ (t : List ℕ). field_spelling is.0 ++ t) rest.spelled;
    }

-- ---- the whole file

file-only : (has_prox : Bool) (norm_fields : Option ℕ) (ss : List (Spelled FnmRecord)) (fields : List TableField) → AreGood (fnm_plan has_prox norm_fields) 0 ss
    → due_after (fnm_plan has_prox norm_fields) 0 ss ≡ done fields → bytes_of ss ≡ fnm_spelling fields
file-only has_prox norm_fields [] fields good none = absurd (true≢false (sym (ap ends none)))
file-only has_prox norm_fields (s ∷ ss) fields good none =
    let is = header-only s.it s.front good.0.0 in
    let count = is.1 in
    let there = 0 + length s.front in
    let rest = fields-only has_prox count [] there ss fields (subst (λ (r : FnmRecord). AreGood (after_header has_prox r) there ss) is.2 good.1) (subst (λ (r : FnmRecord). due_after (after_header has_prox r) there ss ≡ done fields) is.2 none) in
    let format : is.0 ≡ format_number = format-good norm_fields is.0 count (subst (λ (r : FnmRecord). first_broken (header_conditions norm_fields r) ≡ None) is.2 good.0.1) in
    let number : count ≡ length fields = sym (ap length rest.all ∙ rest.count) in
    ap (λ (t : List ℕ). t ++ bytes_of ss) (is.3 ∙ ap (λ (n : ℕ). spelling vint n ++ spelling num count) format ∙ ap header_spelling number)
    ∙ ap (λ (t : List ℕ). header_spelling (length fields) ++ t) (rest.spelled ∙ ap (flat_map field_spelling) (sym rest.all))

pub fnm-only : (has_prox : Bool) (norm_fields : Option ℕ) (bytes : List ℕ) (fields : List TableField) → Reads (fnm_plan has_prox norm_fields) bytes fields → bytes ≡ fnm_spelling fields
fnm-only has_prox norm_fields bytes fields h = h.front ∙ append-nil (bytes_of h.records) ∙ file-only has_prox norm_fields h.records fields h.good h.none_due
