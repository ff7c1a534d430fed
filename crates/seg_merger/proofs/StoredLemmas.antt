-- Stored values of a merge, one more.
use Rattle.std.proofs.Common.{◌≡◌, refl, ap, sym, ◌∙◌, subst, ℕ, ◌+◌, ◌<◌, ◌^◌, ◌++◌, ◌≤◌, Bool, true, false, cond, List, [], ◌∷◌, length, take, get_or, Option, None, Some, All, arith}
use Rattle.std.specs.Prelude.{flat_map, is_some, nat_lt}
use Rattle.std.proofs.lemmas.Bool.{le-ltb, lt-ltb}
use Rattle.std.proofs.lemmas.Grind.{flat_map-append}
use Rattle.std.proofs.lemmas.List.{append-nil, append_assoc, length-append, length-map, take_all, take_more}
use Rattle.lu_types.specs.StoredFields.{StoredField}
use Rattle.lu_types.specs.declared.kind.FileKind.{FileKind}
use Rattle.lu_types.specs.declared.kind.FileKind.TheVariants.{Fdt, Fdx}
use Rattle.lu_model.specs.Contents.{joined_table, merge_of}
use Rattle.lu_model.specs.Index.{Index}
use Rattle.lu_model.specs.Valid.{IsStorable, IsValid}
use Rattle.lu_model.proofs.Each.{all_at, each-from_all}
use Rattle.lu_model.proofs.Found.{get_in}
use Rattle.lu_model.proofs.Words.{Each, IsIn, IsValue}
use Rattle.posting_files.specs.States.{named}
use Rattle.segment_files.specs.Written.{first_past}
use Rattle.stored_fields.specs.Writing.{HeldDocuments, fdt_bytes, fdx_bytes, with_begun, with_document, with_stored}
use Rattle.check_index.specs.Segments.{SegmentValue}
use Rattle.seg_writer.proofs.StoreLemmas.{open_of, open-end, open-more, open-while}
use Rattle.seg_writer.specs.Stores.{store_files_due}
use Rattle.seg_merger.specs.Merged.{indexes_of, numbers_in}
use Rattle.seg_merger.specs.Renumbered.{AreNewNumbers, live_stored, renumbered_value, renumbered_values, with_finished}
use Rattle.seg_merger.proofs.SourceLemmas.{stored-alike, stored-merged, stored_under}

-- ---- the values of a document

-- the first of the values are written, and these are left
pub record AreWritten (numbers : List ℕ) (finished : List (List StoredField)) (values left : List StoredField) (held : HeldDocuments) : Type 0 where
  pub front : List StoredField
  pub is : held ≡ with_document finished (open_of (length values) front)
  pub all : front ++ renumbered_values numbers left ≡ renumbered_values numbers values
  pub valid : Each (IsValue (length numbers)) left

module _ (numbers : List ℕ) (finished : List (List StoredField)) (values : List StoredField) where
  pub written-none : (count : ℕ) (held new : HeldDocuments) → count ≡ length values → held.finished ≡ finished → new ≡ with_begun count held → Each (IsValue (length numbers)) values → AreWritten numbers finished values values new
  written-none count held new many is begun valid = record {
    front = [];
    is = begun ∙ ap (λ n. with_document held.finished (open_of n [])) many ∙ ap (λ f. with_document f (open_of (length values) [])) is;
    all = refl;
    valid = valid;
  }

  lacking : (front left : List StoredField) (v : StoredField) → front ++ renumbered_values numbers (v ∷ left) ≡ renumbered_values numbers values → length front < length values
  lacking front left v all =
      let size = ap length all in
      let both = length-append front (renumbered_values numbers (v ∷ left)) in
      let mine = length-map (v ∷ left) (renumbered_value numbers) in
      let whole = length-map values (renumbered_value numbers) in
      omega (arith, size, both, mine, whole)

  pub written-open : (v : StoredField) (left all_left : List StoredField) (held : HeldDocuments) → all_left ≡ v ∷ left → AreWritten numbers finished values all_left held → is_some held.opened ≡ true
  written-open v left all_left held is h =
      let lt = lacking h.front left v (ap (λ vs. h.front ++ renumbered_values numbers vs) (sym is) ∙ h.all) in
      ap (λ (w : HeldDocuments). is_some w.opened) (h.is ∙ open-while finished (length values) h.front lt)

  pub written-valid : (v : StoredField) (left all_left : List StoredField) (held : HeldDocuments) → all_left ≡ v ∷ left → AreWritten numbers finished values all_left held → IsValue (length numbers) v
  written-valid v left all_left held is h = (subst (Each (IsValue (length numbers))) is h.valid).0

  pub written-more : (v : StoredField) (left all_left : List StoredField) (held new : HeldDocuments) → all_left ≡ v ∷ left → AreWritten numbers finished values all_left held → new ≡ with_stored (renumbered_value numbers v) held → AreWritten numbers finished values left new
  written-more v left all_left held new is h step =
      let all = ap (λ vs. h.front ++ renumbered_values numbers vs) (sym is) ∙ h.all in
      let w = renumbered_value numbers v in
      record {
        front = h.front ++ w ∷ [];
        is = step ∙ ap (with_stored w) h.is ∙ open-more finished (length values) h.front w (lacking h.front left v all);
        all = append_assoc h.front (w ∷ []) (renumbered_values numbers left) ∙ all;
        valid = (subst (Each (IsValue (length numbers))) is h.valid).1;
      }

  pub written-all : (left : List StoredField) (start held : HeldDocuments) → start.finished ≡ finished → left ≡ [] → AreWritten numbers finished values left held → held ≡ with_finished (renumbered_values numbers values ∷ []) start
  written-all left start held from none h =
      let whole : h.front ≡ renumbered_values numbers values = sym (append-nil h.front) ∙ ap (λ vs. h.front ++ renumbered_values numbers vs) (sym none) ∙ h.all in
      let size : length h.front ≡ length values = ap length whole ∙ length-map values (renumbered_value numbers) in
      h.is ∙ open-end finished (length values) h.front size
      ∙ ap (λ vs. let w : HeldDocuments = record { finished = finished ++ vs ∷ []; opened = None } in w) whole
      ∙ ap (λ f. let w : HeldDocuments = record { finished = f ++ renumbered_values numbers values ∷ []; opened = None } in w) (sym from)

-- the values of a document of a valid index
module _ (index : Index) (ok : IsValid index) (document : ℕ) (lt : document < index.size) where
  within : document < length index.stored
  within = let many = ok.stored in omega (arith, lt, many)

  pub few-values : length (get_or index.stored document []) < 2 ^ 31
  few-values = all_at (λ values. length values < 2 ^ 31) (get_or index.stored document []) index.stored ok.few_values (get_in index.stored document [] within)

  pub valid-values : (numbers : List ℕ) → AreNewNumbers index numbers → Each (IsValue (length numbers)) (get_or index.stored document [])
  valid-values numbers new =
      let values = get_or index.stored document [] in
      subst (λ n. Each (IsValue n) values) (sym new.many)
      (each-from_all (IsValue (length index.fields)) values (all_at (All (IsValue (length index.fields))) values index.stored ok.values (get_in index.stored document [] within)))

-- ---- documents

pub finished-none : (held : HeldDocuments) → held.opened ≡ None → held ≡ with_finished [] held
finished-none held is = λ i. record { finished = sym (append-nil held.finished) i; opened = is i }

pub finished-next : (documents more : List (List StoredField)) (start held new : HeldDocuments) → held ≡ with_finished documents start → new ≡ with_finished more held → new ≡ with_finished (documents ++ more) start
finished-next documents more start held new was adds =
    adds ∙ ap (with_finished more) was ∙ ap (λ f. let w : HeldDocuments = record { finished = f; opened = None } in w) (append_assoc start.finished documents more)

-- ---- sources

-- a list of sources with one more
pub sources-more : {X Y : Type 0} (f : X → List Y) (xs : List X) (i : ℕ) (x : X) → i < length xs → x ≡ get_or xs i x → flat_map f (take i xs) ++ f x ≡ flat_map f (take (i + 1) xs)
sources-more f xs i x lt is =
    sym (ap (flat_map f) (take_more xs i x lt ∙ ap (λ y. take i xs ++ y ∷ []) (sym is)) ∙ flat_map-append f (take i xs) (x ∷ []) ∙ ap (λ ys. flat_map f (take i xs) ++ ys) (append-nil (f x)))

module _ (sources : List SegmentValue) where
  -- the stored values of the first sources
  abbrev stored_of : SegmentValue → List (List StoredField)
  stored_of s = stored_under (joined_table (indexes_of sources)) s.index

  abbrev finished_with : List (List StoredField) → HeldDocuments
  finished_with documents = record { finished = documents; opened = None }

  pub sources-stored : (i : ℕ) (s : SegmentValue) (inside : IsIn s sources) → IsValid s.index → (numbers : List ℕ) → numbers ≡ numbers_in (joined_table (indexes_of sources)) s → (held new : HeldDocuments) → i < length sources → s ≡ get_or sources i s
      → held ≡ finished_with (flat_map stored_of (take i sources)) → new ≡ with_finished (live_stored numbers s.index) held → new ≡ finished_with (flat_map stored_of (take (i + 1) sources))
  sources-stored i s inside ok numbers are held new lt is was adds =
      let before = flat_map stored_of (take i sources) in
      adds ∙ ap (with_finished (live_stored numbers s.index)) was
      ∙ ap (λ documents. finished_with (before ++ documents)) (stored-alike sources s inside ok numbers are)
      ∙ ap finished_with (sources-more stored_of sources i s lt is)

  -- those of all
  pub sources-all : (i : ℕ) (held : HeldDocuments) → length sources ≤ i → held ≡ finished_with (flat_map stored_of (take i sources)) → held.finished ≡ (merge_of (indexes_of sources)).stored
  sources-all i held le was =
      ap (λ (h : HeldDocuments). h.finished) was ∙ ap (flat_map stored_of) (take_all i sources le) ∙ sym (stored-merged sources)

-- ---- the files, against the limit

module _ (limit : ℕ) (documents held : List (List StoredField)) (fdt fdx : List ℕ) (same : held ≡ documents) (fdt_is : fdt ≡ fdt_bytes held) (fdx_is : fdx ≡ fdx_bytes held) where
  due : store_files_due documents ≡ named Fdt fdt ∷ named Fdx fdx ∷ []
  due = ap store_files_due (sym same) ∙ ap (λ bytes. named Fdt bytes ∷ named Fdx (fdx_bytes held) ∷ []) (sym fdt_is) ∙ ap (λ bytes. named Fdt fdt ∷ named Fdx bytes ∷ []) (sym fdx_is)

  past-if : Bool → Bool → Option FileKind
  past-if first second = cond first (Some Fdt) (cond second (Some Fdx) None)

  found : (first second : Bool) → nat_lt limit (length fdt) ≡ first → nat_lt limit (length fdx) ≡ second → first_past limit (store_files_due documents) ≡ past-if first second
  unfolding past-if
  found first second a b = ap (first_past limit) due ∙ ap (λ x. cond x (Some Fdt) (cond (nat_lt limit (length fdx)) (Some Fdx) None)) a ∙ ap (λ x. cond first (Some Fdt) (cond x (Some Fdx) None)) b

  pub fdt-past : limit < length fdt → first_past limit (store_files_due documents) ≡ Some Fdt
  unfolding past-if
  fdt-past long = found true (nat_lt limit (length fdx)) (lt-ltb limit (length fdt) long) refl

  pub fdx-past : length fdt ≤ limit → limit < length fdx → first_past limit (store_files_due documents) ≡ Some Fdx
  unfolding past-if
  fdx-past short long = found false true (le-ltb limit (length fdt) short) (lt-ltb limit (length fdx) long)

  pub store-within : length fdt ≤ limit → length fdx ≤ limit → (first_past limit (store_files_due documents) ≡ None) × (named Fdt fdt ∷ named Fdx fdx ∷ [] ≡ store_files_due documents)
  unfolding past-if
  store-within short small = (found false false (le-ltb limit (length fdt) short) (le-ltb limit (length fdx) small), sym due)
