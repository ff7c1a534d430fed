-- The entries of a term, one run of uses more.
use Rattle.std.proofs.Common.{◌≡◌, refl, ap, sym, ◌∙◌, subst, ℕ, suc, ◌+◌, ◌<◌, ◌≤◌, ◌⊎◌, ◌^◌, ◌++◌, List, [], ◌∷◌, length, take, drop, get_or, All, Bool, false, cond, inl, inr, None, Err, arith}
use Rattle.std.proofs.lemmas.List.{append_assoc, append-nil, length-append, length-drop, get_or-drop, drop-drop, drop_more, get_or_default}
use Rattle.std.proofs.Math.Seq.{drop-append_seam, take-append_seam}
use Rattle.lu_types.specs.declared.document.Vector.TheVariants.{Off}
use Rattle.lu_model.specs.Index.{IndexedEntry}
use Rattle.lu_model.specs.Contents.{tokens_with}
use Rattle.freq_skips.specs.Written.{last_doc}
use Rattle.segment_files.specs.Postings.{PostingIntervals, KeptTerm, handed_from, parts_of, prx_bytes, prx_occurrences}
use Rattle.posting_files.specs.States.{PostingState, IsTermBegun, entry_begun}
use Rattle.posting_files.proofs.PostingLemmas.{entry-begun, end-may, prx_bytes-append}
use Rattle.positions.specs.Written.{document_occurrence_bytes}
use Rattle.seg_writer.specs.declared.appearance.Appearance.{Appearance}
use Rattle.seg_writer.specs.declared.inverted.Use.{Use}
use Rattle.seg_writer.specs.declared.fault.WriteFault.{WriteFault}
use Rattle.seg_writer.specs.declared.fault.WriteFault.TheVariants.{Doc, TooLarge, OutOfMemory}
use Rattle.seg_writer.specs.Columns.{tokens_in_field, uses_among, uses_from, uses_of}
use Rattle.seg_writer.specs.Entries.{entry_with, entries_of_text, run_length, tokens_at, last_document, AddsEntries, IsColumn, IsRun, IsTermFresh, IsPartly, MayFollow}
use Rattle.seg_writer.proofs.TokenLemmas.{docs-among, tokens-from, run-among, uses-few, uses-many, empty-none}
use Rattle.seg_writer.proofs.RunLemmas.{next-run, run-is}

pub length-nil : (us : List Use) → length us ≡ 0 → us ≡ []
length-nil [] none = refl
length-nil (u ∷ us) none = absurd (omega (arith, none))

pub partly-begun : (column : List Appearance) (text : List ℕ) (omit : Bool) (uses : List Use) (s : PostingState) → uses ≡ uses_of text column → IsPartly column text omit uses s s
partly-begun column text omit uses s is = record {
  passed = 0;
  entries = [];
  within = omega arith;
  uses = is;
  all = refl;
  below = λ k d le lt. inl refl;
  begun = λ i limit ts om payloads b. b;
}

-- the run that the next uses are, and the field in which they are
pub record IsNext (column : List Appearance) (text : List ℕ) (omit : Bool) (passed : ℕ) (rest : List Use) (first : Use) (d : Appearance) : Type 0 where
  pub low : passed ≤ first.entry
  pub inside : first.entry < length column
  pub run : take (run_length first.entry rest) rest ≡ uses_among text (get_or column first.entry d).doc first.entry 0 (tokens_in_field (get_or column first.entry d))
  pub behind : drop (run_length first.entry rest) rest ≡ uses_from text (suc first.entry) (drop (suc first.entry) column)
  pub some : 0 < length (uses_among text (get_or column first.entry d).doc first.entry 0 (tokens_in_field (get_or column first.entry d)))
  pub entries : entries_of_text omit text (drop passed column) ≡ entry_with omit (get_or column first.entry d).doc (tokens_with text (tokens_in_field (get_or column first.entry d))) ∷ entries_of_text omit text (drop (suc first.entry) column)
  pub fits : run_length first.entry rest ≤ length rest

pub is-next : (column : List Appearance) (text : List ℕ) (omit : Bool) (passed : ℕ) (rest : List Use) (first : Use) (more : List Use) (d : Appearance) → rest ≡ uses_from text passed (drop passed column) → rest ≡ first ∷ more → IsNext column text omit passed rest first d
is-next column text omit passed rest first more d uses is =
    let left = drop passed column in
    let all : uses_from text passed left ≡ first ∷ more = sym uses ∙ is in
    let r = next-run text omit passed left first more d all in
    let at = r.entry in
    let inside = r.inside in
    let size = length-drop passed column in
    let here : get_or left r.skip d ≡ get_or column first.entry d = get_or-drop passed column r.skip d ∙ ap (λ k. get_or column k d) (sym at) in
    let next : suc first.entry ≡ passed + suc r.skip = omega (arith, at) in
    let behind : drop (suc r.skip) left ≡ drop (suc first.entry) column = drop-drop (suc r.skip) passed column ∙ ap (λ k. drop k column) (sym next) in
    let own = uses_among text (get_or column first.entry d).doc first.entry 0 (tokens_in_field (get_or column first.entry d)) in
    let own_is : uses_among text (get_or left r.skip d).doc first.entry 0 (tokens_in_field (get_or left r.skip d)) ≡ own = ap (λ (a : Appearance). uses_among text a.doc first.entry 0 (tokens_in_field a)) here in
    let later = uses_from text (suc first.entry) (drop (suc first.entry) column) in
    let parts : rest ≡ own ++ later = uses ∙ r.uses ∙ ap (λ w. w ++ uses_from text (suc first.entry) (drop (suc r.skip) left)) own_is ∙ ap (λ c. own ++ uses_from text (suc first.entry) c) behind in
    let count : run_length first.entry rest ≡ length own = ap (run_length first.entry) uses ∙ run-is text omit passed left first d r ∙ ap length own_is in
    let long = ap length parts ∙ length-append own later in
    record {
      low = omega (arith, at);
      inside = omega (arith, at, inside, size);
      run = ap (λ k. take k rest) count ∙ ap (take (length own)) parts ∙ take-append_seam own later;
      behind = ap (λ k. drop k rest) count ∙ ap (drop (length own)) parts ∙ drop-append_seam own later;
      some = subst (λ w. 0 < length w) own_is r.some;
      entries = r.entries
          ∙ ap (λ (a : Appearance). entry_with omit a.doc (tokens_with text (tokens_in_field a)) ∷ entries_of_text omit text (drop (suc r.skip) left)) here
          ∙ ap (λ c. entry_with omit (get_or column first.entry d).doc (tokens_with text (tokens_in_field (get_or column first.entry d))) ∷ entries_of_text omit text c) behind;
      fits = omega (arith, count, long);
    }

-- the entry of the document in which the next run is
abbrev pub next_entry : List Appearance → Bool → List Use → Use → Appearance → IndexedEntry
next_entry column omit rest first d = entry_with omit (get_or column first.entry d).doc (tokens_at (tokens_in_field (get_or column first.entry d)) (take (run_length first.entry rest) rest))

-- its tokens are those that have the text
next-tokens : (column : List Appearance) (text : List ℕ) (omit : Bool) (passed : ℕ) (rest : List Use) (first : Use) (d : Appearance) → IsNext column text omit passed rest first d
    → tokens_at (tokens_in_field (get_or column first.entry d)) (take (run_length first.entry rest) rest) ≡ tokens_with text (tokens_in_field (get_or column first.entry d))
next-tokens column text omit passed rest first d x =
    let ts = tokens_in_field (get_or column first.entry d) in
    ap (tokens_at ts) x.run ∙ tokens-from text (get_or column first.entry d).doc first.entry 0 ts ts refl

-- the entries so far, with one more, are those before the fields that are left
next-all : (column : List Appearance) (text : List ℕ) (omit : Bool) (passed : ℕ) (entries : List IndexedEntry) (rest : List Use) (first : Use) (d : Appearance) → IsNext column text omit passed rest first d
    → entries ++ entries_of_text omit text (drop passed column) ≡ entries_of_text omit text column → (entries ++ next_entry column omit rest first d ∷ []) ++ entries_of_text omit text (drop (suc first.entry) column) ≡ entries_of_text omit text column
next-all column text omit passed entries rest first d x all =
    let a = get_or column first.entry d in
    append_assoc entries (next_entry column omit rest first d ∷ []) (entries_of_text omit text (drop (suc first.entry) column))
    ∙ ap (λ ts. entries ++ entry_with omit a.doc ts ∷ entries_of_text omit text (drop (suc first.entry) column)) (next-tokens column text omit passed rest first d x)
    ∙ ap (λ w. entries ++ w) (sym x.entries) ∙ all

last_document-more : (before : ℕ) (es : List IndexedEntry) (e : IndexedEntry) → last_document before (es ++ e ∷ []) ≡ e.document
last_document-more before [] e = refl
last_document-more before (x ∷ es) e = last_document-more x.document es e

last_doc-handed : (payloads : Bool) (before prox : ℕ) (es : List IndexedEntry) → last_doc before (handed_from payloads prox es) ≡ last_document before es
last_doc-handed payloads before prox [] = refl
last_doc-handed payloads before prox (e ∷ es) = last_doc-handed payloads e.document (prox + length (document_occurrence_bytes payloads None 0 (prx_occurrences e.occurrences))) es

pub partly-next : (column : List Appearance) (text : List ℕ) (omit : Bool) (rest behind : List Use) (old s new : PostingState) (first : Use) (d : Appearance) (p : IsPartly column text omit rest old s) → IsColumn column
    → IsNext column text omit p.passed rest first d → behind ≡ drop (run_length first.entry rest) rest
    → ((i : PostingIntervals) (limit : ℕ) (ts : List KeptTerm) (om payloads : Bool) (es : List IndexedEntry) → IsTermBegun i limit ts om payloads es s → IsTermBegun i limit ts om payloads (es ++ next_entry column omit rest first d ∷ []) new)
    → IsPartly column text omit behind old new
partly-next column text omit rest behind old s new first d p valid x left adds =
    let inside = x.inside in
    record {
      passed = suc first.entry;
      entries = p.entries ++ next_entry column omit rest first d ∷ [];
      within = omega (arith, inside);
      uses = left ∙ x.behind;
      all = next-all column text omit p.passed p.entries rest first d x p.all;
      below = λ k e le lt. inr (subst (λ n. n < (get_or column k e).doc) (sym (last_document-more 0 p.entries (next_entry column omit rest first d)))
          (subst (λ (a : Appearance). a.doc < (get_or column k e).doc) (get_or_default column first.entry e d inside) (valid.rise first.entry k e (omega (arith, le)) lt)));
      begun = λ i limit ts om payloads b. adds i limit ts om payloads p.entries (p.begun i limit ts om payloads b);
    }

-- what is asked of the next run
pub run-next : (column : List Appearance) (text : List ℕ) (omit : Bool) (passed : ℕ) (rest : List Use) (first : Use) (d : Appearance) → IsColumn column → IsNext column text omit passed rest first d
    → IsRun (tokens_in_field (get_or column first.entry d)) (take (run_length first.entry rest) rest) × (0 < length (take (run_length first.entry rest) rest)) × (length (take (run_length first.entry rest) rest) < 2 ^ 31)
    × All (λ (here : Use). here.doc ≡ (get_or column first.entry d).doc) (take (run_length first.entry rest) rest)
run-next column text omit passed rest first d valid x =
    let ts = tokens_in_field (get_or column first.entry d) in
    let few = uses-few text (get_or column first.entry d).doc first.entry ts in
    let small = valid.numberable.tokens first.entry d x.inside in
    let size = ap length x.run in (
      subst (IsRun ts) (sym x.run) (run-among text (get_or column first.entry d).doc first.entry ts (valid.sound first.entry d x.inside)),
      subst (λ w. 0 < length w) (sym x.run) x.some,
      omega (arith, few, small, size),
      subst (All (λ (here : Use). here.doc ≡ (get_or column first.entry d).doc)) (sym x.run) (docs-among text (get_or column first.entry d).doc first.entry ts),
    )

pub follow-next : (column : List Appearance) (text : List ℕ) (omit : Bool) (rest : List Use) (old s : PostingState) (first : Use) (d : Appearance) (p : IsPartly column text omit rest old s) → IsTermFresh old
    → IsNext column text omit p.passed rest first d → MayFollow (get_or column first.entry d).doc s
follow-next column text omit rest old s first d p (i, limit, ts, om, payloads, fresh) x within =
    let begun = p.begun i limit ts om payloads fresh in
    let order : (p.entries ≡ []) ⊎ (last_doc 0 (handed_from payloads 0 p.entries) < (get_or column first.entry d).doc) = elim (p.below first.entry d x.low x.inside) [
      | inl none ↦ inl none
      | inr above ↦ inr (subst (λ n. n < (get_or column first.entry d).doc) (sym (last_doc-handed payloads 0 0 p.entries)) above)
    ] in
    end-may i limit ts om payloads p.entries [] (get_or column first.entry d).doc (entry_begun s) (entry-begun i limit ts om payloads p.entries s begun) order within

no-entries : (text : List ℕ) (omit : Bool) (n : ℕ) (column : List Appearance) → uses_from text n column ≡ [] → entries_of_text omit text column ≡ []
no-entries text omit n [] none = refl
no-entries text omit n (a ∷ column) none =
    let own = uses_among text a.doc n 0 (tokens_in_field a) in
    let rest = uses_from text (suc n) column in
    let size = ap length none in
    let parts = length-append own rest in
    let same = uses-many text a.doc n (tokens_in_field a) in
    let nothing : length (tokens_with text (tokens_in_field a)) ≡ 0 = omega (arith, size, parts, same) in
    let later : rest ≡ [] = length-nil rest (omega (arith, size, parts)) in
    ap (λ b. cond b [] (entry_with omit a.doc (tokens_with text (tokens_in_field a)) ∷ []) ++ entries_of_text omit text column) (empty-none (tokens_with text (tokens_in_field a)) nothing) ∙ no-entries text omit (suc n) column later

-- where nothing is left all entries were added
pub partly-end : (column : List Appearance) (text : List ℕ) (omit : Bool) (rest : List Use) (old s : PostingState) → IsPartly column text omit rest old s → rest ≡ [] → (i : PostingIntervals) (limit : ℕ) (ts : List KeptTerm) (om payloads : Bool)
    → IsTermBegun i limit ts om payloads [] old → IsTermBegun i limit ts om payloads (entries_of_text omit text column) s
partly-end column text omit rest old s p none i limit ts om payloads b =
    let all : p.entries ≡ entries_of_text omit text column = sym (append-nil p.entries) ∙ ap (λ w. p.entries ++ w) (sym (no-entries text omit p.passed (drop p.passed column) (sym p.uses ∙ none))) ∙ p.all in
    subst (λ es. IsTermBegun i limit ts om payloads es s) all (p.begun i limit ts om payloads b)

-- positions of the entries so far that pass the limit
pub partly-past : (column : List Appearance) (text : List ℕ) (omit : Bool) (rest : List Use) (old s new : PostingState) (first : Use) (d : Appearance) (fault : WriteFault) (p : IsPartly column text omit rest old s) → IsNext column text omit p.passed rest first d
    → ((i : PostingIntervals) (limit : ℕ) (ts : List KeptTerm) (om payloads : Bool) (es : List IndexedEntry) → IsTermBegun i limit ts om payloads es s → AddsEntries i limit ts om payloads (es ++ next_entry column omit rest first d ∷ []) new (Err fault))
    → (i : PostingIntervals) (limit : ℕ) (ts : List KeptTerm) (om payloads : Bool) → IsTermBegun i limit ts om payloads [] old → AddsEntries i limit ts om payloads (entries_of_text omit text column) new (Err fault)
partly-past column text omit rest old s new first d fault p x says i limit ts om payloads b =
    more-entries fault (says i limit ts om payloads p.entries (p.begun i limit ts om payloads b))
  where
    more-entries : (f : WriteFault) → AddsEntries i limit ts om payloads (p.entries ++ next_entry column omit rest first d ∷ []) new (Err f) → AddsEntries i limit ts om payloads (entries_of_text omit text column) new (Err f)
    more-entries (Doc number f) never = never
    more-entries (TooLarge kind) (is, long) =
        let front = p.entries ++ next_entry column omit rest first d ∷ [] in
        let back = entries_of_text omit text (drop (suc first.entry) column) in
        let all = ap (λ es. length (prx_bytes payloads es)) (sym (next-all column text omit p.passed p.entries rest first d x p.all)) ∙ ap length (prx_bytes-append payloads front back) ∙ length-append (prx_bytes payloads front) (prx_bytes payloads back) in
        let a = length-append (parts_of i ts).prx (prx_bytes payloads front) in
        let b = length-append (parts_of i ts).prx (prx_bytes payloads (entries_of_text omit text column)) in
        (is, omega (arith, long, all, a, b))
    more-entries OutOfMemory none = tt

-- ---- at the loop of the code

abbrev pub no_appearance : Appearance
no_appearance = record { doc = 0; field = record { ref_ptr = (0, 0); now = record { field = []; norm = None; omit_tf = false; vector = Off; tokens = [] } }; tokens = record { ref_ptr = (0, 0); now = [] }; tokens_of_field = refl }

abbrev pub no_use : Use
no_use = record { head = 0; entry = 0; token = 0; doc = 0; position = 0 }

pub next-at : (column : List Appearance) (text : List ℕ) (omit : Bool) (rest : List Use) (old s : PostingState) (d : Appearance) (p : IsPartly column text omit rest old s) → 1 ≤ length rest → IsNext column text omit p.passed rest (get_or rest 0 no_use) d
next-at column text omit rest old s d p some = is-next column text omit p.passed rest (get_or rest 0 no_use) (drop (0 + 1) rest) d p.uses (drop_more rest 0 no_use (omega (arith, some)))

-- what is asked of these uses of a field
abbrev pub AskedOfRun : Appearance → List Use → Type 0
AskedOfRun a run = IsRun (tokens_in_field a) run × (0 < length run) × (length run < 2 ^ 31) × All (λ (here : Use). here.doc ≡ a.doc) run

pub run-at : (column : List Appearance) (text : List ℕ) (omit : Bool) (passed : ℕ) (rest front : List Use) (first : Use) (a : Appearance) → IsColumn column → IsNext column text omit passed rest first a → a ≡ get_or column first.entry a
    → front ≡ take (run_length first.entry rest) rest → AskedOfRun a front
run-at column text omit passed rest front first a valid x is taken =
    subst (AskedOfRun a) (sym taken) (subst (λ b. AskedOfRun b (take (run_length first.entry rest) rest)) (sym is) (run-next column text omit passed rest first a valid x))

pub entry-at : (column : List Appearance) (omit : Bool) (rest front : List Use) (first : Use) (a : Appearance) → a ≡ get_or column first.entry a → front ≡ take (run_length first.entry rest) rest
    → entry_with omit a.doc (tokens_at (tokens_in_field a) front) ≡ next_entry column omit rest first a
entry-at column omit rest front first a is taken =
    ap (λ w. entry_with omit a.doc (tokens_at (tokens_in_field a) w)) taken ∙ ap (λ (b : Appearance). entry_with omit b.doc (tokens_at (tokens_in_field b) (take (run_length first.entry rest) rest))) is
