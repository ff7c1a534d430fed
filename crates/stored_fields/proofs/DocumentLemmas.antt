-- The records of `.fdt`, one after another.
use Rattle.std.proofs.Common.{◌≡◌, ℕ, ◌+◌, ◌<◌, Bool, true, false, List, [], ◌∷◌, ◌++◌, length, get_or, Some, None, Result, Ok, Err, refl, sym, ap, ◌∙◌, arith, ℤ, pos}
use Rattle.std.proofs.lemmas.List.{length-append}
use Rattle.lu_types.specs.declared.stored.Window.{Window}
use Rattle.lu_grammar.specs.declared.bad.Bad.{Bad}
use Rattle.lu_grammar.specs.Bytes.{Cursor, start_of}
use Rattle.lu_grammar.specs.Parts.{int32, num}
use Rattle.lu_grammar.specs.Reading.{◌>>=◌, read_part, value_or}
use Rattle.lu_grammar.specs.Records.{whole, first_broken, rule_of, read_shape, record_at}
use Rattle.lu_types.specs.declared.kind.FileKind.TheVariants.{Fdt}
use Rattle.lu_types.specs.declared.fault.Spot.{Spot}
use Rattle.lu_types.specs.Judging.{IsBroken}
use Rattle.lu_grammar.specs.Plans.{Plan, done, times, one, each, Broken, read_plan, ended, read_file}
use Rattle.lu_grammar.proofs.Codecs.{ok_pair, record_at-read, record_at-breaks, record_at-unread, read_due, read_due_broken, read_plan-and_then, times-more, times-fault, each-none, each-more, each-fault, alone_read, alone_breaks, nothing_left, trailing}
use Rattle.lu_grammar.proofs.Loops.{read_shape-followed}
use Rattle.stored_fields.specs.Format.{store_format, is_other_store_format}
use Rattle.stored_fields.specs.Values.{StoredDocument, StoredEntry, stored_entry_shape}
use Rattle.stored_fields.specs.Documents.{FdtRecord, format, count, value, header_shape, format_conditions, count_shape, is_elsewhere, start_conditions, value_shape, stored_entry_conditions, value_conditions, with_value, values_kind, count_of, is_within, document_plan, document_at, next_document, fdt_plan}
use Rattle.stored_fields.specs.Stores.{document_here}
use Rattle.stored_fields.proofs.SpotLemmas.{same_format}

-- ---- one record

pub format_given : (c d : Cursor) (z : ℤ) (w : ℤ) → w ≡ z → read_part int32 c ≡ Ok (z, d) → is_other_store_format w ≡ false → record_at header_shape format_conditions c ≡ Ok (format store_format, d)
format_given c d z w is e good =
    let here : is_other_store_format z ≡ false = ap is_other_store_format (sym is) ∙ good in
    alone_read int32 (λ z. format z) format_conditions c d z e (rw here refl) ∙ ap (λ (x : ℤ). Ok (format x, d)) (same_format z here)

pub format_broken : (c d : Cursor) (z : ℤ) (w : ℤ) → w ≡ z → read_part int32 c ≡ Ok (z, d) → is_other_store_format w ≡ true → record_at header_shape format_conditions c ≡ Err 43
format_broken c d z w is e bad =
    let here : is_other_store_format z ≡ true = ap is_other_store_format (sym is) ∙ bad in
    alone_breaks int32 (λ z. format z) format_conditions c d z 43 e (rw here refl)

pub count_given : (wanted : ℤ) (c d : Cursor) (n : ℕ) → read_part num c ≡ Ok (n, d) → is_elsewhere c.place wanted ≡ false → record_at count_shape (λ _. start_conditions wanted c.place) c ≡ Ok (count n, d)
count_given wanted c d n e good = alone_read num (λ n. count n) (λ _. start_conditions wanted c.place) c d n e (rw good refl)

pub count_broken : (wanted : ℤ) (c d : Cursor) (n : ℕ) → read_part num c ≡ Ok (n, d) → is_elsewhere c.place wanted ≡ true → record_at count_shape (λ _. start_conditions wanted c.place) c ≡ Err 44
count_broken wanted c d n e bad = alone_breaks num (λ n. count n) (λ _. start_conditions wanted c.place) c d n 44 e (rw bad refl)

-- a value that was read
value_read : (c d : Cursor) (entry : StoredEntry) → read_shape stored_entry_shape c ≡ Ok (entry, d) → read_shape value_shape c ≡ Ok (value entry, d)
value_read c d entry e =
    read_shape-followed stored_entry_shape (λ x. whole (value x)) c ∙ ap (λ (r : Result (StoredEntry × Cursor) Bad). r >>= λ x. read_shape (whole (value x.0)) x.1) e

pub value_given : (asked : Bool) (fields : ℕ) (c d : Cursor) (entry : StoredEntry) → read_shape stored_entry_shape c ≡ Ok (entry, d) → None ≡ first_broken (stored_entry_conditions asked fields entry.field entry.bits)
    → record_at value_shape (value_conditions asked fields) c ≡ Ok (value entry, d)
value_given asked fields c d entry e good = record_at-read value_shape (value_conditions asked fields) c (value entry) d (value_read c d entry e) (sym good)

pub value_broken : (asked : Bool) (fields : ℕ) (c d : Cursor) (entry : StoredEntry) (rule : ℕ) → read_shape stored_entry_shape c ≡ Ok (entry, d) → Some rule ≡ first_broken (stored_entry_conditions asked fields entry.field entry.bits)
    → record_at value_shape (value_conditions asked fields) c ≡ Err rule
value_broken asked fields c d entry rule e broken = record_at-breaks value_shape (value_conditions asked fields) c (value entry) d rule (value_read c d entry e) (sym broken)

pub value_unread : (asked : Bool) (fields : ℕ) (c : Cursor) (bad : Bad) (rule : ℕ) → read_shape stored_entry_shape c ≡ Err bad → rule ≡ rule_of bad → record_at value_shape (value_conditions asked fields) c ≡ Err rule
value_unread asked fields c bad rule e is =
    record_at-unread value_shape (value_conditions asked fields) c bad
    (read_shape-followed stored_entry_shape (λ x. whole (value x)) c ∙ ap (λ (r : Result (StoredEntry × Cursor) Bad). r >>= λ x. read_shape (whole (value x.0)) x.1) e)
    ∙ ap (λ (n : ℕ). Err n) (sym is)

-- ---- one document

-- from this cursor on so many values are good, and the cursor stands behind them
pub record PassedValues (asked : Bool) (fields : ℕ) (from : Cursor) (number : ℕ) (here : Cursor) : Type 0 where
  pub values : StoredDocument
  pub reads : read_plan (times (values_kind asked fields) number []) from ≡ Ok (values, here)

pub passed_no_value : (asked : Bool) (fields : ℕ) (from : Cursor) → PassedValues asked fields from 0 from
passed_no_value asked fields from = record { values = []; reads = each-none (one (values_kind asked fields)) [] from }

pub passed_value : (asked : Bool) (fields : ℕ) (from : Cursor) (number : ℕ) (here : Cursor) (r : FdtRecord) (next : Cursor) → PassedValues asked fields from number here
    → record_at value_shape (value_conditions asked fields) here ≡ Ok (r, next) → PassedValues asked fields from (number + 1) next
passed_value asked fields from number here r next before e = record {
  values = with_value before.values r;
  reads = times-more (values_kind asked fields) number [] from before.values here r next before.reads e;
}

-- a document whose number of values was read
document_from : (asked : Bool) (fields : ℕ) (wanted : ℤ) (c from : Cursor) (n : ℕ) → record_at count_shape (λ _. start_conditions wanted c.place) c ≡ Ok (count n, from)
    → read_plan (document_plan asked fields wanted) c ≡ read_plan (times (values_kind asked fields) n []) from
document_from asked fields wanted c from n e = read_due count_shape (λ place _. start_conditions wanted place) (λ _ r. times (values_kind asked fields) (count_of r) []) c (count n) from e

-- a document that was read is the one here
document_is : (asked : Bool) (fields : ℕ) (wanted : ℤ) (c : Cursor) (values : StoredDocument) (here : Cursor) → read_plan (document_plan asked fields wanted) c ≡ Ok (values, here)
    → read_plan (document_plan asked fields wanted) c ≡ Ok (document_here asked fields wanted c, here)
document_is asked fields wanted c values here e = e ∙ ap (λ (d : StoredDocument). ok_pair d here) (sym (ap (λ (r : Result (StoredDocument × Cursor) Broken). (value_or ([], c) r).0) e))

pub document_read : (asked : Bool) (fields : ℕ) (wanted : ℤ) (c from : Cursor) (n number : ℕ) (here : Cursor) → record_at count_shape (λ _. start_conditions wanted c.place) c ≡ Ok (count n, from)
    → PassedValues asked fields from number here → number ≡ n → read_plan (document_plan asked fields wanted) c ≡ Ok (document_here asked fields wanted c, here)
document_read asked fields wanted c from n number here e passed all =
    document_is asked fields wanted c passed.values here (document_from asked fields wanted c from n e ∙ ap (λ (k : ℕ). read_plan (times (values_kind asked fields) k []) from) (sym all) ∙ passed.reads)

pub document_count_fault : (asked : Bool) (fields : ℕ) (wanted : ℤ) (c : Cursor) (rule : ℕ) → record_at count_shape (λ _. start_conditions wanted c.place) c ≡ Err rule
    → read_plan (document_plan asked fields wanted) c ≡ Err (record { offset = c.place; rule = rule })
document_count_fault asked fields wanted c rule e = read_due_broken count_shape (λ place _. start_conditions wanted place) (λ _ r. times (values_kind asked fields) (count_of r) []) c rule e

pub document_value_fault : (asked : Bool) (fields : ℕ) (wanted : ℤ) (c from : Cursor) (n number : ℕ) (here : Cursor) (rule : ℕ) → record_at count_shape (λ _. start_conditions wanted c.place) c ≡ Ok (count n, from)
    → PassedValues asked fields from number here → number < n → record_at value_shape (value_conditions asked fields) here ≡ Err rule
    → read_plan (document_plan asked fields wanted) c ≡ Err (record { offset = here.place; rule = rule })
document_value_fault asked fields wanted c from n number here rule e passed lt broken =
    document_from asked fields wanted c from n e ∙ times-fault (values_kind asked fields) number n [] from passed.values here rule lt passed.reads broken

-- ---- the documents

-- from this cursor on so many documents are good, and the cursor stands behind them
pub record PassedDocuments (window : Window) (fields : ℕ) (places : List ℤ) (from : Cursor) (number : ℕ) (here : Cursor) : Type 0 where
  pub documents : List StoredDocument
  pub many : length documents ≡ number
  pub reads : read_plan (each (next_document window fields places) number []) from ≡ Ok (documents, here)

pub passed_no_document : (window : Window) (fields : ℕ) (places : List ℤ) (from : Cursor) → PassedDocuments window fields places from 0 from
passed_no_document window fields places from = record { documents = []; many = refl; reads = each-none (next_document window fields places) [] from }

-- the plan of the next document, by its number, its place and whether the window has it
next_is : (window : Window) (fields : ℕ) (places : List ℤ) (documents : List StoredDocument) (number : ℕ) (asked : Bool) (wanted : ℤ) → length documents ≡ number → asked ≡ is_within window number → get_or places number (pos 0) ≡ wanted
    → next_document window fields places documents ≡ document_at asked fields wanted documents
next_is window fields places documents number asked wanted many within place =
    ap (λ (n : ℕ). document_at (is_within window n) fields (get_or places n (pos 0)) documents) many
    ∙ ap (λ (b : Bool). document_at b fields (get_or places number (pos 0)) documents) (sym within) ∙ ap (λ (z : ℤ). document_at asked fields z documents) place

-- a document, after those so far
document_after : (asked : Bool) (fields : ℕ) (wanted : ℤ) (documents : List StoredDocument) (c : Cursor) → read_plan (document_at asked fields wanted documents) c ≡ read_plan (document_plan asked fields wanted) c >>= (λ x. Ok (documents ++ x.0 ∷ [], x.1))
unfolding read_plan
document_after asked fields wanted documents c = read_plan-and_then (document_plan asked fields wanted) (λ values. done (documents ++ values ∷ [])) c

pub passed_document : (window : Window) (fields : ℕ) (places : List ℤ) (from : Cursor) (number : ℕ) (here next : Cursor) (asked : Bool) (wanted : ℤ) (values : StoredDocument) → PassedDocuments window fields places from number here
    → asked ≡ is_within window number → get_or places number (pos 0) ≡ wanted → read_plan (document_plan asked fields wanted) here ≡ Ok (values, next) → PassedDocuments window fields places from (number + 1) next
passed_document window fields places from number here next asked wanted values before within place e = record {
  documents = before.documents ++ values ∷ [];
  many = omega (arith, length-append before.documents (values ∷ []), before.many);
  reads = each-more (next_document window fields places) number [] from before.documents here (before.documents ++ values ∷ []) next before.reads
      (ap (λ (p : Plan (List StoredDocument) FdtRecord). read_plan p here) (next_is window fields places before.documents number asked wanted before.many within place)
      ∙ document_after asked fields wanted before.documents here ∙ ap (λ (r : Result (StoredDocument × Cursor) Broken). r >>= λ x. ok_pair (before.documents ++ x.0 ∷ []) x.1) e);
}

-- ---- the file

-- the header is passed
abbrev pub IsBehindFormat : List ℕ → Cursor → Type 0
IsBehindFormat bytes here = record_at header_shape format_conditions (start_of bytes) ≡ Ok (format store_format, here)

fdt_from : (window : Window) (fields : ℕ) (places : List ℤ) (bytes : List ℕ) (from : Cursor) → IsBehindFormat bytes from
    → read_plan (fdt_plan window fields places) (start_of bytes) ≡ read_plan (each (next_document window fields places) (length places) []) from
fdt_from window fields places bytes from e = read_due header_shape (λ _ r. format_conditions r) (λ _ _. each (next_document window fields places) (length places) []) (start_of bytes) (format store_format) from e

pub fdt_header_fault : (window : Window) (fields : ℕ) (places : List ℤ) (bytes : List ℕ) (rule : ℕ) → record_at header_shape format_conditions (start_of bytes) ≡ Err rule
    → read_file (fdt_plan window fields places) bytes ≡ Err (record { offset = 0; rule = rule })
fdt_header_fault window fields places bytes rule e =
    ap (λ (r : Result (List StoredDocument × Cursor) Broken). r >>= ended)
    (read_due_broken header_shape (λ _ r. format_conditions r) (λ _ _. each (next_document window fields places) (length places) []) (start_of bytes) rule e)

pub fdt_document_fault : (window : Window) (fields : ℕ) (places : List ℤ) (bytes : List ℕ) (from : Cursor) (number : ℕ) (here : Cursor) (asked : Bool) (wanted : ℤ) (s : Spot) → IsBehindFormat bytes from
    → PassedDocuments window fields places from number here → number < length places → asked ≡ is_within window number → get_or places number (pos 0) ≡ wanted
    → IsBroken Fdt (read_plan (document_plan asked fields wanted) here) s → IsBroken Fdt (read_file (fdt_plan window fields places) bytes) s
fdt_document_fault window fields places bytes from number here asked wanted s header before lt within place (kind, broken) = (
  kind,
  ap (λ (r : Result (List StoredDocument × Cursor) Broken). r >>= ended)
      (fdt_from window fields places bytes from header
      ∙ each-fault (next_document window fields places) number (length places) [] from before.documents here (record { offset = s.offset; rule = s.rule }) lt before.reads
      (ap (λ (p : Plan (List StoredDocument) FdtRecord). read_plan p here) (next_is window fields places before.documents number asked wanted before.many within place)
      ∙ document_after asked fields wanted before.documents here ∙ ap (λ (r : Result (StoredDocument × Cursor) Broken). r >>= λ x. ok_pair (before.documents ++ x.0 ∷ []) x.1) broken)),
)

pub fdt_trailing : (window : Window) (fields : ℕ) (places : List ℤ) (bytes : List ℕ) (from : Cursor) (number : ℕ) (here : Cursor) → IsBehindFormat bytes from → PassedDocuments window fields places from number here
    → number ≡ length places → 0 < length here.rest → read_file (fdt_plan window fields places) bytes ≡ Err (record { offset = here.place; rule = 6 })
fdt_trailing window fields places bytes from number here header before all some =
    ap (λ (r : Result (List StoredDocument × Cursor) Broken). r >>= ended)
    (fdt_from window fields places bytes from header ∙ ap (λ (n : ℕ). read_plan (each (next_document window fields places) n []) from) (sym all) ∙ before.reads)
    ∙ trailing before.documents here some

pub fdt_read : (window : Window) (fields : ℕ) (places : List ℤ) (bytes : List ℕ) (from : Cursor) (number : ℕ) (here : Cursor) → IsBehindFormat bytes from → (before : PassedDocuments window fields places from number here)
    → number ≡ length places → length here.rest ≡ 0 → read_file (fdt_plan window fields places) bytes ≡ Ok before.documents
fdt_read window fields places bytes from number here header before all none =
    ap (λ (r : Result (List StoredDocument × Cursor) Broken). r >>= ended)
    (fdt_from window fields places bytes from header ∙ ap (λ (n : ℕ). read_plan (each (next_document window fields places) n []) from) (sym all) ∙ before.reads)
    ∙ nothing_left before.documents here none
