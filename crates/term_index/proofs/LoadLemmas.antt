-- What the loop that reads the entries of a good index keeps.
use Rattle.std.proofs.Common.{◌≡◌, ℕ, zero, suc, ◌+◌, ◌-◌, ◌*◌, ◌<◌, ◌≤◌, ◌^◌, List, [], ◌∷◌, ◌++◌, length, map, get_or, None, Ok, refl, sym, ap, subst, ◌∙◌, arith, inl, inr}
use Rattle.std.specs.Prelude.{All}
use Rattle.std.proofs.lemmas.Bool.{cases_lt}
use Rattle.std.proofs.lemmas.List.{map-append}
use Rattle.std.specs.Str.{IsUtf8}
use Rattle.std.specs.Ordering.{ordering_then}
use Rattle.std.proofs.lemmas.Str.{IsUtf8-nil}
use Rattle.lu_prims.specs.Order.{text_cmp}
use Rattle.lu_types.specs.Tables.{TableField}
use Rattle.term_dict.specs.Checks.{AreBounded}
use Rattle.term_dict.proofs.FactLemmas.{good-terms}
use Rattle.lu_grammar.specs.declared.bad.Bad.{Bad}
use Rattle.lu_grammar.specs.Bytes.{Cursor, start_of}
use Rattle.lu_grammar.specs.Records.{whole, followed, first_broken, read_shape, record_at}
use Rattle.lu_grammar.specs.Plans.{broken_at, one, times, read_plan, ended}
use Rattle.lu_grammar.specs.Meaning.{Reads}
use Rattle.lu_grammar.proofs.Files.{read_file-Reads}
use Rattle.lu_grammar.proofs.Plans.{ok_of, err_of, err_is_not_ok}
use Rattle.lu_grammar.proofs.Loops.{then_ok, each-none, times-again, times-more, read_plan-and_then, read_shape-followed}
use Rattle.lu_grammar.proofs.Records.{ok_pair, same_pair}
use Rattle.term_dict.specs.declared.heading.Heading.{Heading}
use Rattle.term_dict.specs.Headings.{Line, heading, entry, header, heading_of, heading_shape, on_entry}
use Rattle.term_dict.specs.Terms.{DictionaryTerm, no_term, term_after, field_of, dictionary_term_cmp}
use Rattle.term_dict.specs.Dictionary.{Dictionary}
use Rattle.term_dict.specs.Index.{IndexEntry, IndexProgress, index_shape, index_kind, index_conditions, index_heading_conditions, index_entry_term, indexed_place, no_entries, entry_count, entries_plan, tii_plan, point_after}
use Rattle.term_dict.proofs.FileLemmas.{record_at-was}
use Rattle.term_dict.proofs.DictionaryRead.{was_ok}
use Rattle.term_index.specs.declared.mark.Mark.{Mark}
use Rattle.term_index.specs.Points.{progress}
use Rattle.term_index.specs.Seeking.{Searched, searched, field_name_of, names_of, AreChecked}
use Rattle.term_index.specs.InnerSearch.{IsSearchable, IndexMark, HasEntry, index_mark_of, mark_at, marks_to, terms_cmp}
use Rattle.term_index.proofs.EntryLemmas.{good_entry}
use Rattle.term_index.proofs.PointLoop.{finish, interval_begins}

-- ---- the header, and all entries behind it

-- a header was read, and all entries
pub record AllEntries (d : Dictionary) (tii : List ℕ) : Type 0 where
  pub h : Heading
  pub start : Cursor
  pub head : read_shape heading_shape (start_of tii) ≡ ok_pair h start
  pub z : IndexProgress × Cursor
  pub read : read_plan (times (index_kind d) (entry_count d.numbers) no_entries) start ≡ ok_of z

abbrev heading_line : Heading → Line IndexEntry
heading_line h = heading h

pub all_entries : (d : Dictionary) (tii : List ℕ) → Reads (tii_plan d) tii tt → AllEntries d tii
unfolding read_plan
all_entries d tii reads =
    let c = start_of tii in
    let conditions = λ (line : Line IndexEntry). index_heading_conditions d.numbers (heading_of line) in
    let file = then_ok (read_plan (tii_plan d) c) ended tt (read_file-Reads (tii_plan d) tii tt reads) in
    let head = then_ok (broken_at 0 (record_at (header {E = IndexEntry}) conditions c)) (λ x. read_plan (entries_plan d) x.1) file.0 file.1 in
    let was = record_at-was (header {E = IndexEntry}) conditions c head.0.0 head.0.1 (was_ok 0 (record_at (header {E = IndexEntry}) conditions c) head.0 head.1) in
    let x = then_ok (read_shape heading_shape c) (λ y. read_shape (whole (heading_line y.0)) y.1) (head.0.0, head.0.1) (sym (read_shape-followed heading_shape (λ h. whole (heading_line h)) c) ∙ was.0) in
    let same = same_pair (heading_line x.0.0) head.0.0 x.0.1 head.0.1 x.2 in
    let body = then_ok (read_plan (times (index_kind d) (entry_count d.numbers) no_entries) head.0.1) (λ x. read_plan (finish x.0) x.1) file.0
    (sym (read_plan-and_then (times (index_kind d) (entry_count d.numbers) no_entries) finish head.0.1) ∙ head.2) in
    record { h = x.0.0; start = head.0.1; head = x.1 ∙ ap (λ (y : Cursor). ok_pair x.0.0 y) same.1; z = body.0; read = body.1 }

-- the header that was read is that one
pub header-there : (d : Dictionary) (tii : List ℕ) (c : Cursor) (bad : Bad) → Reads (tii_plan d) tii tt → c ≡ start_of tii → read_shape heading_shape c ≡ err_of bad → ⊥
header-there d tii c bad reads at unread =
    let all = all_entries d tii reads in
    err_is_not_ok (sym unread ∙ ap (λ (x : Cursor). read_shape heading_shape x) at ∙ all.head)

pub header-start : (d : Dictionary) (tii : List ℕ) (c new : Cursor) (h : Heading) (reads : Reads (tii_plan d) tii tt) → c ≡ start_of tii → read_shape heading_shape c ≡ ok_pair h new → (all_entries d tii reads).start ≡ new
header-start d tii c new h reads at read =
    let all = all_entries d tii reads in
    (same_pair all.h h all.start new (sym all.head ∙ ap (λ (x : Cursor). read_shape heading_shape x) (sym at) ∙ read)).1

-- ---- the entries

-- so many entries were read, the last is this one, and the entries behind entry 0 are kept
pub record IsLoading (s : Searched) (start : Cursor) (n : ℕ) (here : Cursor) (last : DictionaryTerm) (place : ℕ) (marks : List Mark) : Type 0 where
  pub read : read_plan (times (index_kind s.dictionary) n no_entries) start ≡ Ok (progress n last place, here)
  pub kept : map index_mark_of marks ≡ marks_to s (n - 1)

pub IsLoading-none : (s : Searched) (start : Cursor) (last : DictionaryTerm) (place : ℕ) (marks : List Mark) → last ≡ no_term → place ≡ 0 → marks ≡ [] → IsLoading s start 0 start last place marks
IsLoading-none s start last place marks is none empty = record {
  read = each-none (one (index_kind s.dictionary)) no_entries start ∙ ap (λ (t : DictionaryTerm). Ok (progress 0 t 0, start)) (sym is) ∙ ap (λ (p : ℕ). Ok (progress 0 last p, start)) (sym none);
  kept = ap (map index_mark_of) empty;
}

-- the next entry is good, and stands for what it should
pub record IsNextEntry (d : Dictionary) (start : Cursor) (n : ℕ) (here : Cursor) (last : DictionaryTerm) (place : ℕ) : Type 0 where
  pub e : IndexEntry
  pub new : Cursor
  pub read : read_shape (index_shape d.numbers.skip_interval) here ≡ ok_pair e new
  pub term : term_after last e.term ≡ index_entry_term d n
  pub place_is : place + e.step ≡ indexed_place d n
  pub more : read_plan (times (index_kind d) (n + 1) no_entries) start ≡ Ok (progress (n + 1) (index_entry_term d n) (indexed_place d n), new)

line-was : (k : ℕ) (c : Cursor) (line : Line IndexEntry) (d : Cursor) → read_shape (followed (index_shape k) (λ e. whole (entry e))) c ≡ ok_pair line d → (e : IndexEntry) × (read_shape (index_shape k) c ≡ ok_pair e d) × (line ≡ entry e)
line-was k c line d e =
    let x = then_ok (read_shape (index_shape k) c) (λ y. read_shape (whole (entry y.0)) y.1) (line, d) (sym (read_shape-followed (index_shape k) (λ e. whole (entry e)) c) ∙ e) in
    let same = same_pair (entry x.0.0) line x.0.1 d x.2 in
    (x.0.0, x.1 ∙ ap (λ (f : Cursor). ok_pair x.0.0 f) same.1, sym same.0)

pub next_entry_is : (d : Dictionary) (start : Cursor) (n : ℕ) (here : Cursor) (last : DictionaryTerm) (place : ℕ) (z : IndexProgress × Cursor) → read_plan (times (index_kind d) (entry_count d.numbers) no_entries) start ≡ ok_of z → n < entry_count d.numbers
    → read_plan (times (index_kind d) n no_entries) start ≡ Ok (progress n last place, here) → IsNextEntry d start n here last place
next_entry_is d start n here last place z all lt read =
    let s = progress n last place in
    let k = d.numbers.skip_interval in
    let turn = times-again (index_kind d) n (entry_count d.numbers) no_entries start s here z lt all read in
    let was = record_at-was ((index_kind d).shape s) ((index_kind d).conditions s here.place) here turn.0 turn.1 turn.2 in
    let x = line-was k here turn.0 turn.1 was.0 in
    let good = subst (λ (l : Line IndexEntry). first_broken (on_entry [] (index_conditions d s) l) ≡ None) x.2 was.1 in
    let is = good_entry last place x.0 (index_entry_term d n) (indexed_place d n) good in
    let whole_record = turn.2 ∙ ap (λ (l : Line IndexEntry). ok_pair l turn.1) x.2 in
    record {
      e = x.0;
      new = turn.1;
      read = x.1;
      term = is.0;
      place_is = is.1;
      more =
          times-more (index_kind d) n no_entries start s here (entry x.0) turn.1 read whole_record
          ∙ ap (λ (t : DictionaryTerm). Ok (progress (n + 1) t (place + x.0.step), turn.1)) is.0 ∙ ap (λ (p : ℕ). Ok (progress (n + 1) (index_entry_term d n) p, turn.1)) is.1;
    }

-- what an entry of a good index stands for is within the limits
pub record IsWithin (t : DictionaryTerm) (place : ℕ) : Type 0 where
  pub freq : t.info.freq < 2 ^ 31
  pub prox : t.info.prox < 2 ^ 31
  pub place_in : place < 2 ^ 31

pub indexed-within : (s : Searched) (n : ℕ) → IsSearchable s → n < entry_count s.dictionary.numbers → IsWithin (index_entry_term s.dictionary n) (indexed_place s.dictionary n)
indexed-within s n h lt =
    let d = s.dictionary in
    let k = n * d.numbers.index_interval in
    let begins = interval_begins d.numbers n h.bounded lt in
    let t = term-within d.terms k h.freqs h.proxs (omega (arith, begins, h.count)) in
    record { freq = t.0; prox = t.1; place_in = h.places k 0 (omega (arith, begins, h.starts)) }
  where
    term-within : (terms : List DictionaryTerm) (k : ℕ) → All (λ t. t.info.freq < 2 ^ 31) terms → All (λ t. t.info.prox < 2 ^ 31) terms → k ≤ length terms → ((point_after terms k).info.freq < 2 ^ 31) × ((point_after terms k).info.prox < 2 ^ 31)
    term-within terms zero freqs proxs le = (omega arith, omega arith)
    term-within terms (suc k) freqs proxs le = (freqs k no_term (omega (arith, le)), proxs k no_term (omega (arith, le)))

pub HasEntry-there : (s : Searched) (start : Cursor) (n : ℕ) (here : Cursor) (last : DictionaryTerm) (place interval : ℕ) → IsSearchable s → n < entry_count s.dictionary.numbers → interval ≡ s.dictionary.numbers.skip_interval → IsNextEntry s.dictionary start n here last place
    → HasEntry interval last place here
HasEntry-there s start n here last place interval h lt same next =
    let w = indexed-within s n h lt in record {
      e = next.e;
      new = next.new;
      read = ap (λ (k : ℕ). read_shape (index_shape k) here) same ∙ next.read;
      freq = omega (arith, ap (λ (t : DictionaryTerm). t.info.freq) next.term, w.freq);
      prox = omega (arith, ap (λ (t : DictionaryTerm). t.info.prox) next.term, w.prox);
      place_after = omega (arith, next.place_is, w.place_in);
    }

-- what was read is that entry
pub record IsEntryRead (d : Dictionary) (start : Cursor) (n : ℕ) (new : Cursor) (last : DictionaryTerm) (place : ℕ) : Type 0 where
  pub read : read_plan (times (index_kind d) (n + 1) no_entries) start ≡ Ok (progress (n + 1) last place, new)
  pub term : last ≡ index_entry_term d n
  pub place_is : place ≡ indexed_place d n

pub entry_read : (d : Dictionary) (start : Cursor) (n : ℕ) (here new : Cursor) (last : DictionaryTerm) (place : ℕ) (last_new : DictionaryTerm) (place_new interval : ℕ) (e : IndexEntry) → interval ≡ d.numbers.skip_interval → IsNextEntry d start n here last place
    → read_shape (index_shape interval) here ≡ Ok (e, new) → last_new ≡ term_after last e.term → place_new ≡ place + e.step → IsEntryRead d start n new last_new place_new
entry_read d start n here new last place last_new place_new interval e k next read is at =
    let same = same_pair next.e e next.new new (sym next.read ∙ ap (λ (i : ℕ). read_shape (index_shape i) here) (sym k) ∙ read) in
    let term : last_new ≡ index_entry_term d n = is ∙ ap (λ (x : IndexEntry). term_after last x.term) (sym same.0) ∙ next.term in
    let there : place_new ≡ indexed_place d n = at ∙ ap (λ (x : IndexEntry). place + x.step) (sym same.0) ∙ next.place_is in
    record {
      read = next.more ∙ ap (λ (c : Cursor). Ok (progress (n + 1) (index_entry_term d n) (indexed_place d n), c)) same.1
          ∙ ap (λ (t : DictionaryTerm). Ok (progress (n + 1) t (indexed_place d n), new)) (sym term) ∙ ap (λ (p : ℕ). Ok (progress (n + 1) last_new p, new)) (sym there);
      term = term;
      place_is = there;
    }

-- entry 0 is not kept
pub IsLoading-first : (s : Searched) (start : Cursor) (n : ℕ) (here new : Cursor) (last last_new : DictionaryTerm) (place place_new : ℕ) (marks : List Mark) → IsLoading s start n here last place marks → IsEntryRead s.dictionary start n new last_new place_new → (0 < n → ⊥)
    → IsLoading s start (n + 1) new last_new place_new marks
IsLoading-first s start n here new last last_new place place_new marks h r none = record {
  read = r.read;
  kept = h.kept ∙ ap (marks_to s) (let e : n - 1 ≡ n + 1 - 1 = elim (cases_lt 0 n) [ inl lt ↦ absurd (none lt) | inr ge ↦ omega (arith, ge) ] in e);
}

-- each behind it is
pub IsLoading-more : (s : Searched) (start : Cursor) (n : ℕ) (here new : Cursor) (last last_new : DictionaryTerm) (place place_new : ℕ) (marks more : List Mark) (m : Mark) → IsLoading s start n here last place marks → IsEntryRead s.dictionary start n new last_new place_new → 0 < n
    → index_mark_of m ≡ record { name = field_name_of s.names last_new.info.field; term = last_new; place = place_new } → more ≡ marks ++ m ∷ [] → IsLoading s start (n + 1) new last_new place_new more
IsLoading-more s start n here new last last_new place place_new marks more m h r some is to =
    let d = s.dictionary in
    let at : index_mark_of m ≡ mark_at s n = is ∙ ap (λ (t : DictionaryTerm). mark_with (field_name_of s.names t.info.field) t place_new) r.term ∙ ap (mark_with (field_name_of s.names (index_entry_term d n).info.field) (index_entry_term d n)) r.place_is in
    let number : suc (n - 1) ≡ n = omega (arith, some) in
    record {
      read = r.read;
      kept =
          ap (map index_mark_of) to ∙ map-append index_mark_of marks (m ∷ []) ∙ ap (λ (ms : List IndexMark). ms ++ index_mark_of m ∷ []) h.kept ∙ ap (λ (x : IndexMark). marks_to s (n - 1) ++ x ∷ []) (at ∙ ap (mark_at s) (sym number))
          ∙ ap (marks_to s) (number ∙ (let e : n ≡ n + 1 - 1 = omega arith in e));
    }
  where
    mark_with : List ℕ → DictionaryTerm → ℕ → IndexMark
    mark_with name term place = record { name = name; term = term; place = place }

-- the text of each term that an entry stands for is UTF-8
pub indexed-text : (s : Searched) (n : ℕ) → IsSearchable s → n < entry_count s.dictionary.numbers → IsUtf8 (index_entry_term s.dictionary n).text
indexed-text s n h lt =
    let d = s.dictionary in
    let begins = interval_begins d.numbers n h.bounded lt in
    text-within d.terms (n * d.numbers.index_interval) h.texts (omega (arith, begins, h.count))
  where
    text-within : (terms : List DictionaryTerm) (k : ℕ) → All (λ t. IsUtf8 t.text) terms → k ≤ length terms → IsUtf8 (point_after terms k).text
    text-within terms zero texts le = IsUtf8-nil
    text-within terms (suc k) texts le = texts k no_term (omega (arith, le))

-- ---- terms that were checked can be searched

field_name_of-names : (fields : List TableField) (n : ℕ) → field_name_of (names_of fields) n ≡ (field_of fields n).name
field_name_of-names [] n = refl
field_name_of-names (f ∷ fs) zero = refl
field_name_of-names (f ∷ fs) (suc n) = field_name_of-names fs n

terms_cmp-is : (fields : List TableField) (a b : DictionaryTerm) → terms_cmp (names_of fields) a b ≡ dictionary_term_cmp fields a b
terms_cmp-is fields a b =
    ap (λ (n : List ℕ). ordering_then (text_cmp n (field_name_of (names_of fields) b.info.field)) (text_cmp a.text b.text)) (field_name_of-names fields a.info.field)
    ∙ ap (λ (n : List ℕ). ordering_then (text_cmp (field_of fields a.info.field).name n) (text_cmp a.text b.text)) (field_name_of-names fields b.info.field)

pub searchable : (tii : List ℕ) (d : Dictionary) (fields : List TableField) → AreChecked tii d fields → AreBounded d.numbers → All (λ place. place < 2 ^ 31) d.starts → IsSearchable (searched d (names_of fields))
searchable tii d fields checked bounded places =
    let good = good-terms fields checked.documents checked.tis d checked.terms in
    record {
      texts = λ k x lt. (good.each k x lt).text;
      rise = λ i j x less lt. terms_cmp-is fields (get_or d.terms i x) (get_or d.terms j x) ∙ good.rise i j x less lt;
      freqs = λ k x lt. (good.each k x lt).freq;
      proxs = λ k x lt. (good.each k x lt).prox;
      places = places;
      bounded = bounded;
      count = good.count;
      starts = good.starts;
    }

-- all entries behind the header that was read
pub all_from : (d : Dictionary) (tii : List ℕ) (c new : Cursor) (h : Heading) → Reads (tii_plan d) tii tt → c ≡ start_of tii → read_shape heading_shape c ≡ ok_pair h new
    → (z : IndexProgress × Cursor) × (read_plan (times (index_kind d) (entry_count d.numbers) no_entries) new ≡ ok_of z)
all_from d tii c new h reads at read =
    let all = all_entries d tii reads in
    (all.z, subst (λ (x : Cursor). read_plan (times (index_kind d) (entry_count d.numbers) no_entries) x ≡ ok_of all.z) (header-start d tii c new h reads at read) all.read)
