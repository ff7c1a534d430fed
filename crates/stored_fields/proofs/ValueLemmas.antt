-- The values that stand in a document, one after another.
use Rattle.std.proofs.Common.{◌≡◌, ℕ, zero, suc, ◌-◌, ◌<◌, Bool, [], ◌∷◌, ◌++◌, Result, Ok, Err, refl, sym, ap, ◌∙◌, arith, append_assoc}
use Rattle.std.proofs.lemmas.List.{append-nil}
use Rattle.lu_grammar.specs.declared.bad.Bad.{Bad}
use Rattle.lu_grammar.specs.Bytes.{Cursor}
use Rattle.lu_grammar.specs.Reading.{◌>>=◌, value_or}
use Rattle.lu_grammar.specs.Records.{whole, read_shape}
use Rattle.lu_grammar.specs.Plans.{one, times, each, read_plan}
use Rattle.lu_grammar.proofs.Codecs.{ok_pair, same_pair, ok_of, err_is_not_ok, read_plan-and_then, then_ok, record_at-was}
use Rattle.lu_grammar.proofs.Loops.{read_shape-followed, one-was}
use Rattle.stored_fields.specs.Values.{StoredDocument, StoredEntry, stored_entry_shape, stored}
use Rattle.stored_fields.specs.Documents.{FdtRecord, value, value_shape, value_conditions, with_value, values_kind}
use Rattle.stored_fields.specs.Remaining.{values_at}

-- nothing is left
pub values_none : (left : ℕ) (c : Cursor) → left ≡ 0 → value_or [] (values_at left c) ≡ []
unfolding values_at
values_none zero c e = refl
values_none (suc n) c e = absurd (omega arith)

-- the first of the values that are left, and those after it
pub record OneMore (left : ℕ) (c : Cursor) : Type 0 where
  pub entry : StoredEntry
  pub next : Cursor
  pub read : read_shape stored_entry_shape c ≡ ok_pair entry next
  pub later : values_at (left - 1) next ≡ Ok (value_or [] (values_at (left - 1) next))
  pub all : value_or [] (values_at left c) ≡ stored entry ∷ value_or [] (values_at (left - 1) next)

same_ok : {A : Type 0} {E : Type 0} {x y : A} → ok_of {E = E} x ≡ ok_of y → x ≡ y
same_ok e = cc

pub one_more : (left : ℕ) (c : Cursor) → 0 < left → values_at left c ≡ Ok (value_or [] (values_at left c)) → OneMore left c
unfolding values_at
one_more zero c lt e = absurd (omega arith)
one_more (suc n) c lt e =
    let first = then_ok (read_shape stored_entry_shape c) (λ x. values_at n x.1 >>= λ values. Ok (stored x.0 ∷ values)) (value_or [] (values_at (suc n) c)) e in
    let second = then_ok (values_at n first.0.1) (λ values. Ok (stored first.0.0 ∷ values)) (value_or [] (values_at (suc n) c)) first.2 in
    let back : n ≡ suc n - 1 = omega arith in
    let rest : value_or [] (values_at n first.0.1) ≡ second.0 = ap (value_or []) second.1 in
    record {
      entry = first.0.0;
      next = first.0.1;
      read = first.1;
      later = ap (λ (k : ℕ). values_at k first.0.1) (sym back) ∙ second.1 ∙ ap (λ (vs : StoredDocument). ok_of vs) (sym rest ∙ ap (λ (k : ℕ). value_or [] (values_at k first.0.1)) back);
      all = sym (same_ok second.2) ∙ ap (λ (vs : StoredDocument). stored first.0.0 ∷ vs) (sym rest ∙ ap (λ (k : ℕ). value_or [] (values_at k first.0.1)) back);
    }

-- the values that were read among the records of a document stand there
pub values_read : (asked : Bool) (fields n : ℕ) (front : StoredDocument) (c d : Cursor) (all : StoredDocument) → read_plan (times (values_kind asked fields) n front) c ≡ ok_pair all d
    → (more : StoredDocument) × (all ≡ front ++ more) × (values_at n c ≡ Ok more)
unfolding each read_plan values_at
values_read asked fields zero front c d all e = let p = same_pair front all c d e in ([], sym p.0 ∙ sym (append-nil front), refl)
values_read asked fields (suc n) front c d all e =
    let kind = values_kind asked fields in
    let first = then_ok (read_plan (one kind front) c) (λ x. read_plan (times kind n x.0) x.1) (all, d) (sym (read_plan-and_then (one kind front) (times kind n) c) ∙ e) in
    let was = one-was kind front c first.0 first.1 in
    let shape = (record_at-was value_shape (value_conditions asked fields) c was.0 first.0.1 was.1).0 in
    let entry = entry_was c was.0 first.0.1 shape in
    let rest = values_read asked fields n first.0.0 first.0.1 d all first.2 in
    let state : first.0.0 ≡ front ++ stored entry.0 ∷ [] = sym was.2 ∙ ap (λ (r : FdtRecord). with_value front r) (sym entry.2) in (
      stored entry.0 ∷ rest.0,
      rest.1 ∙ ap (λ (t : StoredDocument). t ++ rest.0) state ∙ append_assoc front (stored entry.0 ∷ []) rest.0,
      ap (λ (r : Result (StoredEntry × Cursor) Bad). r >>= λ x. values_at n x.1 >>= λ values. ok_of (stored x.0 ∷ values)) entry.1 ∙ ap (λ (r : Result StoredDocument Bad). r >>= λ values. ok_of (stored entry.0 ∷ values)) rest.2,
    )
  where
    entry_was : (c : Cursor) (r : FdtRecord) (d : Cursor) → read_shape value_shape c ≡ ok_pair r d → (entry : StoredEntry) × (read_shape stored_entry_shape c ≡ ok_pair entry d) × (value entry ≡ r)
    entry_was c r d e =
        let first = then_ok (read_shape stored_entry_shape c) (λ x. ok_pair (value x.0) x.1) (r, d) (sym (read_shape-followed stored_entry_shape (λ x. whole (value x)) c) ∙ e) in
        let p = same_pair (value first.0.0) r first.0.1 d first.2 in
        (first.0.0, first.1 ∙ ap (λ (y : Cursor). ok_pair first.0.0 y) p.1, p.0)

-- the value that was read is the first of those that are left
pub one_read : (left : ℕ) (c : Cursor) (entry : StoredEntry) (next : Cursor) → 0 < left → values_at left c ≡ Ok (value_or [] (values_at left c)) → read_shape stored_entry_shape c ≡ ok_pair entry next
    → (values_at (left - 1) next ≡ Ok (value_or [] (values_at (left - 1) next))) × (value_or [] (values_at left c) ≡ stored entry ∷ value_or [] (values_at (left - 1) next))
one_read left c entry next lt e here =
    let more = one_more left c lt e in
    let p = same_pair more.entry entry more.next next (sym more.read ∙ here) in (
      ap (values_at (left - 1)) (sym p.1) ∙ more.later ∙ ap (λ (d : Cursor). ok_of (value_or [] (values_at (left - 1) d))) p.1,
      more.all ∙ ap (λ (x : StoredEntry). stored x ∷ value_or [] (values_at (left - 1) more.next)) p.0 ∙ ap (λ (d : Cursor). stored entry ∷ value_or [] (values_at (left - 1) d)) p.1,
    )

-- where values are left reading one does not fail
pub one_not_bad : (left : ℕ) (c : Cursor) (bad : Bad) → 0 < left → values_at left c ≡ Ok (value_or [] (values_at left c)) → read_shape stored_entry_shape c ≡ Err bad → ⊥
one_not_bad left c bad lt e here = let more = one_more left c lt e in err_is_not_ok (sym here ∙ more.read)
