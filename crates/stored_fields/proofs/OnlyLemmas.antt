-- Only what the writer gives is read as stored documents.
use Rattle.std.proofs.Common.{◌≡◌, ℕ, zero, suc, ◌^◌, ◌<◌, Bool, true, false, List, [], ◌∷◌, ◌++◌, length, None, Result, refl, sym, ap, subst, ◌∙◌, arith, append_assoc, ℤ, pos}
use Rattle.std.specs.Prelude.{All, ◌&&◌, nat_le}
use Rattle.std.specs.List.{flat_map}
use borrow.Author.Tests.{ltb-false, leb-false}
use Rattle.std.proofs.lemmas.List.{append-nil}
use Rattle.lu_types.specs.declared.stored.Stored.{Stored}
use Rattle.lu_types.specs.declared.stored.Stored.TheVariants.{Text, Binary}
use Rattle.lu_grammar.specs.declared.bad.Bad.{Bad}
use Rattle.lu_grammar.specs.Bytes.{IsBytes, Cursor}
use Rattle.lu_grammar.specs.Parts.{num, spelling}
use Rattle.lu_grammar.specs.Records.{Shape, whole, followed, first_broken, Spells, read_shape}
use Rattle.lu_grammar.specs.Plans.{done, and_then, one, times, each, read_plan}
use Rattle.lu_grammar.proofs.Codecs.{ok_pair, same_pair, ok_of, read_plan-and_then, then_ok, record_at-was, due_was}
use Rattle.lu_grammar.proofs.Records.{TakesRecord, ShapeJudges, read_shape-judges}
use Rattle.lu_grammar.proofs.Loops.{one-was}
use Rattle.stored_fields.specs.Format.{bit_tokenized, bit_binary}
use Rattle.lu_types.specs.Bits.{has_bit}
use Rattle.lu_types.specs.StoredFields.{StoredField}
use Rattle.stored_fields.specs.Values.{StoredDocument, StoredEntry, content_shape, stored}
use Rattle.stored_fields.specs.Documents.{FdtRecord, value, value_shape, has_other_bit, stored_entry_conditions, value_conditions, with_value, values_kind, count_of, count_shape, start_conditions, document_at}
use Rattle.stored_fields.specs.Writing.{IsStorableField, IsStorableDocument, value_bits, value_bytes, document_bytes}
use Rattle.stored_fields.proofs.WriteLemmas.{IsField}
use Rattle.stored_fields.proofs.StandsLemmas.{not_elsewhere}

-- what was taken between two places
pub taken : {R : Type 0} (shape : Shape R) (c : Cursor) (r : R) (d : Cursor) → IsBytes c.rest → read_shape shape c ≡ ok_pair r d → TakesRecord shape c r d
taken {R} shape c r d fits e = let h : ShapeJudges shape c (ok_pair r d) = subst (λ (x : Result (R × Cursor) Bad). ShapeJudges shape c x) e (read_shape-judges shape c fits) in h

-- ---- one value

-- the bits that mean something are those of a value
text_bits : (bits : ℕ) (t : List ℕ) → has_other_bit bits ≡ false → has_bit bit_binary bits ≡ false → value_bits (has_bit bit_tokenized bits) (Text t) ≡ bits
text_bits zero t few text = refl
text_bits (suc zero) t few text = refl
text_bits (suc (suc zero)) t few text = cc
text_bits (suc (suc (suc zero))) t few text = cc
text_bits (suc (suc (suc (suc n)))) t few text = absurd (omega (arith, ltb-false 3 (suc (suc (suc (suc n)))) few))

binary_bits : (bits : ℕ) (bs : List ℕ) → has_other_bit bits ≡ false → has_bit bit_binary bits ≡ true → value_bits (has_bit bit_tokenized bits) (Binary bs) ≡ bits
binary_bits zero bs few binary = cc
binary_bits (suc zero) bs few binary = cc
binary_bits (suc (suc zero)) bs few binary = refl
binary_bits (suc (suc (suc zero))) bs few binary = refl
binary_bits (suc (suc (suc (suc n)))) bs few binary = absurd (omega (arith, ltb-false 3 (suc (suc (suc (suc n)))) few))

-- a record spells a value as the writer does
record SpellsValue (asked : Bool) (fields : ℕ) (r : FdtRecord) (front : List ℕ) : Type 0 where
  it : StoredField
  named : IsField asked fields it
  storable : IsStorableField it
  is : front ≡ value_bytes it
  adds : (values : StoredDocument) → with_value values r ≡ values ++ it ∷ []

abbrev entry_with : ℕ → ℕ → Stored → StoredEntry
entry_with field bits v = record { field = field; bits = bits; value = v }

no_other : (asked : Bool) (fields field bits : ℕ) → first_broken (stored_entry_conditions asked fields field bits) ≡ None → has_other_bit bits ≡ false
no_other asked fields field bits good = go (asked && nat_le fields field) (has_other_bit bits) refl good
  where
    go : (a b : Bool) → has_other_bit bits ≡ b → first_broken (record { rule = 45; broken = a } ∷ record { rule = 46; broken = b } ∷ []) ≡ None → has_other_bit bits ≡ false
    go true b is h = cc
    go false true is h = cc
    go false false is h = is

spells_value : (asked : Bool) (fields : ℕ) (r : FdtRecord) (front : List ℕ) → Spells value_shape r front → first_broken (value_conditions asked fields r) ≡ None → SpellsValue asked fields r front
spells_value asked fields r front (field, back, is_field, front_is, (bits, rest, is_bits, back_is, tail)) good = go (has_bit bit_binary bits) refl tail
  where
    whole_is : (content_bytes : List ℕ) (b : ℕ) → rest ≡ content_bytes → b ≡ bits → front ≡ spelling num field ++ (b ∷ content_bytes)
    whole_is bytes b e same = front_is ∙ ap (λ (t : List ℕ). spelling num field ++ t) (back_is ∙ ap (λ (t : List ℕ). bits ∷ t) e ∙ ap (λ (n : ℕ). n ∷ bytes) (sym same))

    known : first_broken (stored_entry_conditions asked fields field bits) ≡ None → asked ≡ true → field < fields
    known judged yes_asked = at_field (nat_le fields field) (has_other_bit bits) refl (ap (λ (a : Bool). first_broken (record { rule = 45; broken = a && nat_le fields field } ∷ record { rule = 46; broken = has_other_bit bits } ∷ [])) (sym yes_asked) ∙ judged)
      where
        at_field : (a b : Bool) → nat_le fields field ≡ a → first_broken (record { rule = 45; broken = true && a } ∷ record { rule = 46; broken = b } ∷ []) ≡ None → field < fields
        at_field true b is h = cc
        at_field false b is h = leb-false fields field is

    go : (b : Bool) → has_bit bit_binary bits ≡ b → Spells (followed (followed (content_shape b) (λ v. whole (entry_with field bits v))) (λ entry. whole (value entry))) r rest → SpellsValue asked fields r front
    go true binary (n, more, is_n, rest_is, (bs, none, is_bs, more_is, (r_is, none_is))) =
        let judged = ap (λ (x : FdtRecord). first_broken (value_conditions asked fields x)) r_is ∙ good in
        let few = no_other asked fields field bits judged in
        let content_is : rest ≡ spelling num (length bs) ++ bs = rest_is ∙ ap (λ (k : ℕ). spelling num k ++ more) (sym is_bs.0) ∙ ap (λ (t : List ℕ). spelling num (length bs) ++ t) (more_is ∙ ap (λ (t : List ℕ). bs ++ t) none_is ∙ append-nil bs) in
        record {
          it = stored (entry_with field bits (Binary bs));
          named = known judged;
          storable = (is_field, (subst (λ (k : ℕ). k < 2 ^ 31) (sym is_bs.0) is_n, (refl, is_bs.1)));
          is = whole_is (spelling num (length bs) ++ bs) (value_bits (has_bit bit_tokenized bits) (Binary bs)) content_is (binary_bits bits bs few binary);
          adds = λ values. ap (λ (x : FdtRecord). with_value values x) (sym r_is);
        }
    go false text (t, none, is_t, rest_is, (r_is, none_is)) =
        let judged = ap (λ (x : FdtRecord). first_broken (value_conditions asked fields x)) r_is ∙ good in
        let few = no_other asked fields field bits judged in
        let content_is : rest ≡ spelling num (length t) ++ t = rest_is ∙ ap (λ (x : List ℕ). (spelling num (length t) ++ t) ++ x) none_is ∙ append-nil (spelling num (length t) ++ t) in
        record {
          it = stored (entry_with field bits (Text t));
          named = known judged;
          storable = (is_field, is_t);
          is = whole_is (spelling num (length t) ++ t) (value_bits (has_bit bit_tokenized bits) (Text t)) content_is (text_bits bits t few text);
          adds = λ values. ap (λ (x : FdtRecord). with_value values x) (sym r_is);
        }

-- ---- so many values

-- the values that were read, after those in front, are spelled as the writer does
pub record SpellsValues (asked : Bool) (fields number : ℕ) (front all : StoredDocument) (c d : Cursor) : Type 0 where
  pub more : StoredDocument
  pub named : All (IsField asked fields) more
  pub all_is : all ≡ front ++ more
  pub many : length more ≡ number
  pub storable : All IsStorableField more
  pub is : c.rest ≡ flat_map value_bytes more ++ d.rest
  pub fits : IsBytes d.rest

pub all_cons : {A : Type 0} (P : A → Type 0) (x : A) (xs : List A) → P x → All P xs → All P (x ∷ xs)
all_cons P x xs h t zero d lt = h
all_cons P x xs h t (suc k) d lt = t k d (omega arith)

pub spells_values : (asked : Bool) (fields number : ℕ) (front : StoredDocument) (c d : Cursor) (all : StoredDocument) → IsBytes c.rest → read_plan (times (values_kind asked fields) number front) c ≡ ok_pair all d → SpellsValues asked fields number front all c d
unfolding each read_plan
spells_values asked fields zero front c d all fits e =
    let p = same_pair front all c d e in
    record { more = []; all_is = sym p.0 ∙ sym (append-nil front); many = refl; storable = λ k v lt. absurd (omega arith); named = λ k v lt. absurd (omega arith); is = ap (λ (x : Cursor). x.rest) p.1; fits = subst (λ (x : Cursor). IsBytes x.rest) p.1 fits }
spells_values asked fields (suc n) front c d all fits e =
    let kind = values_kind asked fields in
    let first = then_ok (read_plan (one kind front) c) (λ x. read_plan (times kind n x.0) x.1) (all, d) (sym (read_plan-and_then (one kind front) (times kind n) c) ∙ e) in
    let was = one-was kind front c first.0 first.1 in
    let judged = record_at-was value_shape (value_conditions asked fields) c was.0 first.0.1 was.1 in
    let took = taken value_shape c was.0 first.0.1 fits judged.0 in
    let one = spells_value asked fields was.0 took.front took.spells judged.1 in
    let rest = spells_values asked fields n first.0.0 first.0.1 d all took.fits first.2 in
    let state : first.0.0 ≡ front ++ one.it ∷ [] = sym was.2 ∙ one.adds front in
    record {
      more = one.it ∷ rest.more;
      all_is = rest.all_is ∙ ap (λ (vs : StoredDocument). vs ++ rest.more) state ∙ append_assoc front (one.it ∷ []) rest.more;
      many = ap suc rest.many;
      storable = all_cons IsStorableField one.it rest.more one.storable rest.storable;
      named = all_cons (IsField asked fields) one.it rest.more one.named rest.named;
      is = took.rest ∙ ap (λ (t : List ℕ). t ++ first.0.1.rest) one.is ∙ ap (λ (t : List ℕ). value_bytes one.it ++ t) rest.is ∙ sym (append_assoc (value_bytes one.it) (flat_map value_bytes rest.more) d.rest);
      fits = rest.fits;
    }

-- ---- one document

-- a document that was read is spelled as the writer does, and stands where it is wanted
pub record SpellsDocument (asked : Bool) (fields : ℕ) (wanted : ℤ) (documents all : List StoredDocument) (c d : Cursor) : Type 0 where
  pub it : StoredDocument
  pub named : All (IsField asked fields) it
  pub all_is : all ≡ documents ++ it ∷ []
  pub storable : IsStorableDocument it
  pub is : c.rest ≡ document_bytes it ++ d.rest
  pub wanted_is : pos c.place ≡ wanted
  pub fits : IsBytes d.rest

pub spells_document : (asked : Bool) (fields : ℕ) (wanted : ℤ) (documents : List StoredDocument) (c : Cursor) (x : List StoredDocument × Cursor) → IsBytes c.rest → read_plan (document_at asked fields wanted documents) c ≡ ok_of x
    → SpellsDocument asked fields wanted documents x.0 c x.1
unfolding read_plan
spells_document asked fields wanted documents c x fits e =
    let kind = values_kind asked fields in
    let head = due_was count_shape (λ place _. start_conditions wanted place) (λ _ r. and_then (times kind (count_of r) []) (λ values. done (documents ++ values ∷ []))) c x e in
    let judged = record_at-was count_shape (λ _. start_conditions wanted c.place) c head.0.0 head.0.1 head.1 in
    let took = taken count_shape c head.0.0 head.0.1 fits judged.0 in
    let counted = count_spelled head.0.0 took.front took.spells in
    let body = then_ok (read_plan (times kind (count_of head.0.0) []) head.0.1) (λ y. ok_pair (documents ++ y.0 ∷ []) y.1) x (sym (read_plan-and_then (times kind (count_of head.0.0) []) (λ values. done (documents ++ values ∷ [])) head.0.1) ∙ head.2) in
    let same = same_pair (documents ++ body.0.0 ∷ []) x.0 body.0.1 x.1 body.2 in
    let values = spells_values asked fields (count_of head.0.0) [] head.0.1 body.0.1 body.0.0 took.fits body.1 in
    let many : count_of head.0.0 ≡ length values.more = sym values.many in
    record {
      it = values.more;
      named = values.named;
      all_is = sym same.0 ∙ ap (λ (vs : StoredDocument). documents ++ vs ∷ []) values.all_is;
      storable = (subst (λ (n : ℕ). n < 2 ^ 31) many counted.0, values.storable);
      is = took.rest ∙ ap (λ (t : List ℕ). t ++ head.0.1.rest) counted.1 ∙ ap (λ (n : ℕ). spelling num n ++ head.0.1.rest) many ∙ ap (λ (t : List ℕ). spelling num (length values.more) ++ t) values.is
          ∙ sym (append_assoc (spelling num (length values.more)) (flat_map value_bytes values.more) body.0.1.rest) ∙ ap (λ (y : Cursor). document_bytes values.more ++ y.rest) same.1;
      wanted_is = not_elsewhere c.place wanted judged.1;
      fits = subst (λ (y : Cursor). IsBytes y.rest) same.1 values.fits;
    }
  where
    count_spelled : (r : FdtRecord) (front : List ℕ) → Spells count_shape r front → (count_of r < 2 ^ 31) × (front ≡ spelling num (count_of r))
    count_spelled r front (n, none, is_n, front_is, (r_is, none_is)) =
        let same : n ≡ count_of r = ap count_of r_is in
        (subst (λ (k : ℕ). k < 2 ^ 31) same is_n, front_is ∙ ap (λ (t : List ℕ). spelling num n ++ t) none_is ∙ append-nil (spelling num n) ∙ ap (λ (k : ℕ). spelling num k) same)
