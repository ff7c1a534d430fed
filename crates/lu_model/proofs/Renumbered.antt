-- The entries of a term in a merge are those of the sources, renumbered.
use Rattle.std.proofs.Common.{◌≡◌, ℕ, zero, suc, ◌+◌, ◌-◌, ◌<◌, ◌≤◌, Bool, true, false, not, cond, List, [], ◌∷◌, ◌++◌, Option, Some, None, length, map, refl, sym, ap, ◌∙◌, eqb, arith, add-zero}
use Rattle.std.specs.Prelude.{filter, filter_map, flat_map, option_map}
use Rattle.std.specs.List.{find, enumerate_from, range_with_len, cons_option, AllByRecursion}
use Rattle.std.specs.List.Sorted.{IsStrictlySortedBy}
use Rattle.std.specs.Ordering.{nat_cmp}
use Rattle.std.specs.declared.cmp.Ordering.TheVariants.{Less}
use Rattle.std.proofs.lemmas.List.{length-map}
use Rattle.std.proofs.lemmas.List.Elements.{filter_map-append}
use Rattle.std.proofs.lemmas.Bool.Decides.{nat_tests}
use borrow.Author.Tests.{eqb-true}
use mathlib.Core.Bool.{true≢false}
use Rattle.lu_types.specs.Tables.{TableField}
use Rattle.lu_model.specs.Index.{Term, KeptOccurrences, IndexedEntry, Index}
use Rattle.lu_model.specs.Contents.{bits_of, content_at, entries_in, is_deleted, kept, live, live_contents, live_from, merged_entries, occurrences_at, renumbered}
use Rattle.lu_model.proofs.Words.{Each, EachPair, live_between, entry_of}
use Rattle.lu_model.proofs.Each.{each_in, each_at}

apart : (m n : ℕ) → n < m → eqb m n ≡ false
apart m n h = elim (eqb m n) as (λ b. eqb m n ≡ b → b ≡ false) [
  | true ↦ λ e. let same : m ≡ n = eqb-true m n e in absurd (omega arith)
  | false ↦ λ e. refl
] refl

below : (m n : ℕ) → nat_cmp m n ≡ Less → m < n
below m n e = grind (arith, nat_tests)

-- documents rise
abbrev Rise : List IndexedEntry → Type 0
Rise entries = EachPair (λ e f. e.document < f.document) entries

pub rises : (entries : List IndexedEntry) → IsStrictlySortedBy nat_cmp (map (λ (e : IndexedEntry). e.document) entries) → Rise entries
unfolding IsStrictlySortedBy
rises [] h = tt
rises (e ∷ entries) h = (first entries h.0, rises entries h.1)
  where
    first : (fs : List IndexedEntry) → AllByRecursion (λ n. nat_cmp e.document n ≡ Less) (map (λ (f : IndexedEntry). f.document) fs) → Each (λ (f : IndexedEntry). e.document < f.document) fs
    first [] k = tt
    first (f ∷ fs) k = (below e.document f.document k.0, first fs k.1)

same_range : (a n : ℕ) (deleted : List ℕ) (m : ℕ) → m ≡ n → length (filter (λ document. not (is_deleted deleted document)) (range_with_len a m)) ≡ length (filter (λ document. not (is_deleted deleted document)) (range_with_len a n))
same_range a n deleted m e = ap (λ k. length (filter (λ document. not (is_deleted deleted document)) (range_with_len a k))) e

module _ (table : List TableField) (term : Term) (index : Index) where
  abbrev stays : ℕ → Bool
  stays document = not (is_deleted index.deleted document)

  abbrev bits : ℕ
  bits = bits_of term.field table

  abbrev numbered : ℕ → ℕ → IndexedEntry → IndexedEntry
  numbered base m entry = record { document = base + live_between index.deleted m entry.document; occurrences = kept bits entry.occurrences }

  abbrev left : ℕ → ℕ → List IndexedEntry → List IndexedEntry
  left base m entries = map (numbered base m) (filter (λ entry. stays entry.document) entries)

  abbrev gathered : ℕ → ℕ → ℕ → List IndexedEntry
  gathered base m n = filter_map (entry_of table term) (enumerate_from base (map (content_at index) (filter stays (range_with_len m n))))

  -- one more document that is counted, or not
  counted : (m d : ℕ) → m < d → live_between index.deleted m d ≡ cond (stays m) (suc (live_between index.deleted (m + 1) d)) (live_between index.deleted (m + 1) d)
  counted m d h =
      let longer : d - m ≡ suc (d - (m + 1)) = omega arith in
      ap (λ n. length (filter stays (range_with_len m n))) longer
      ∙ elim (stays m) as (λ b. length (cond b (m ∷ filter stays (range_with_len (m + 1) (d - (m + 1)))) (filter stays (range_with_len (m + 1) (d - (m + 1))))) ≡ cond b (suc (live_between index.deleted (m + 1) d)) (live_between index.deleted (m + 1) d)) [ true ↦ refl | false ↦ refl ]

  -- numbers from the next document on
  left_next : (base m : ℕ) (b : Bool) → stays m ≡ b → (entries : List IndexedEntry) → Each (λ entry. m + 1 ≤ entry.document) entries → left base m entries ≡ left (base + cond b 1 0) (m + 1) entries
  left_next base m b q [] h = refl
  left_next base m b q (e ∷ entries) h =
      let rest = left_next base m b q entries h.1 in
      let count : live_between index.deleted m e.document ≡ cond b (suc (live_between index.deleted (m + 1) e.document)) (live_between index.deleted (m + 1) e.document) =
      let up : m + 1 ≤ e.document = h.0 in counted m e.document (omega arith) ∙ ap (λ v. cond v (suc (live_between index.deleted (m + 1) e.document)) (live_between index.deleted (m + 1) e.document)) q in
      let number : base + live_between index.deleted m e.document ≡ (base + cond b 1 0) + live_between index.deleted (m + 1) e.document = ap (λ n. base + n) count ∙ shifted b (live_between index.deleted (m + 1) e.document) in
      elim (stays e.document) as (λ v. map (numbered base m) (cond v (e ∷ filter (λ entry. stays entry.document) entries) (filter (λ entry. stays entry.document) entries)) ≡ map (numbered (base + cond b 1 0) (m + 1)) (cond v (e ∷ filter (λ entry. stays entry.document) entries) (filter (λ entry. stays entry.document) entries))) [
        | true ↦ λ i. record { document = number i; occurrences = kept bits e.occurrences } ∷ rest i
        | false ↦ rest
      ]
    where
      shifted : (b : Bool) (n : ℕ) → base + cond b (suc n) n ≡ (base + cond b 1 0) + n
      shifted true n = omega arith
      shifted false n = omega arith

  -- what the index says of the documents from m on is in these entries
  abbrev Says : ℕ → List IndexedEntry → Type 0
  Says m entries = (n : ℕ) → m ≤ n → occurrences_at n (entries_in index term) ≡ occurrences_at n entries

  abbrev Within : ℕ → ℕ → List IndexedEntry → Type 0
  Within m n entries = Each (λ entry. (m ≤ entry.document) × (entry.document < m + n)) entries

  later_within : (m n : ℕ) (e : IndexedEntry) (entries : List IndexedEntry) → m ≤ e.document → Each (λ f. e.document < f.document) entries → Within m (suc n) entries → Within (m + 1) n entries
  later_within m n e entries low rise within = each_in (λ (entry : IndexedEntry). (m + 1 ≤ entry.document) × (entry.document < (m + 1) + n)) entries (λ f k.
      let above : e.document < f.document = each_at (λ (f : IndexedEntry). e.document < f.document) f entries rise k in
      let inside = each_at (λ (entry : IndexedEntry). (m ≤ entry.document) × (entry.document < m + suc n)) f entries within k in
      let high : f.document < m + suc n = inside.1 in
      (omega arith, omega arith))

  low_end : (m n : ℕ) (entries : List IndexedEntry) → Within m n entries → Each (λ entry. m ≤ entry.document) entries
  low_end m n entries h = each_in (λ (entry : IndexedEntry). m ≤ entry.document) entries (λ e k. (each_at (λ (entry : IndexedEntry). (m ≤ entry.document) × (entry.document < m + n)) e entries h k).0)

  -- a first document that has an entry, or none
  step : (base m n : ℕ) (rest : List IndexedEntry) (first : Option KeptOccurrences) → occurrences_at m (entries_in index term) ≡ first
      → (b : Bool) → stays m ≡ b → gathered (base + cond b 1 0) (m + 1) n ≡ rest
      → filter_map (entry_of table term) (enumerate_from base (map (content_at index) (cond b (m ∷ filter stays (range_with_len (m + 1) n)) (filter stays (range_with_len (m + 1) n)))))
      ≡ cond b (cons_option (option_map (λ (o : KeptOccurrences). let e : IndexedEntry = record { document = base; occurrences = kept bits o } in e) first) rest) rest
  step base m n rest first e true q r = λ i. cons_option (option_map (λ (o : KeptOccurrences). let e : IndexedEntry = record { document = base; occurrences = kept bits o } in e) (e i)) (r i)
  step base m n rest first e false q r = ap (λ k. gathered k (m + 1) n) (sym (add-zero base)) ∙ r

  gathered-is : (n base m : ℕ) (entries : List IndexedEntry) → Rise entries → Within m n entries → Says m entries → gathered base m n ≡ left base m entries
  gathered-is zero base m [] rise within says = refl
  gathered-is zero base m (e ∷ entries) rise within says = let inside = within.0 in absurd (omega (arith, inside.0, inside.1))
  gathered-is (suc n) base m [] rise within says =
      step base m n [] None (says m (omega arith)) (stays m) refl (gathered-is n (base + cond (stays m) 1 0) (m + 1) [] tt tt (λ k h. says k (omega arith)))
      ∙ elim (stays m) as (λ (b : Bool). cond b (let none : List IndexedEntry = [] in none) [] ≡ []) [ true ↦ refl | false ↦ refl ]
  gathered-is (suc n) base m (e ∷ entries) rise within says =
      elim (eqb m e.document) as (λ b. eqb m e.document ≡ b → gathered base m (suc n) ≡ left base m (e ∷ entries)) [
        | true ↦ λ t.
            let here : m ≡ e.document = eqb-true m e.document t in
            let first : occurrences_at m (entries_in index term) ≡ Some e.occurrences = says m (omega arith) ∙ ap (λ b. option_map (λ (f : IndexedEntry). f.occurrences) (cond b (Some e) (find (λ (f : IndexedEntry). eqb m f.document) entries))) t in
            let inside : Within (m + 1) n entries = later_within m n e entries (omega arith) rise.0 within.1 in
            let rest = gathered-is n (base + cond (stays m) 1 0) (m + 1) entries rise.1 inside (λ k h.
            says k (omega arith) ∙ ap (λ b. option_map (λ (f : IndexedEntry). f.occurrences) (cond b (Some e) (find (λ (f : IndexedEntry). eqb k f.document) entries))) (apart k e.document (omega arith))) in
            step base m n (left (base + cond (stays m) 1 0) (m + 1) entries) (Some e.occurrences) first (stays m) refl rest
            ∙ ap (λ fs. cond (stays m) (record { document = base; occurrences = kept bits e.occurrences } ∷ fs) fs) (sym (left_next base m (stays m) refl entries (low_end (m + 1) n entries inside)))
            ∙ kept_first base m e entries here (stays m) refl
        | false ↦ λ t.
            let low : m ≤ e.document = within.0.0 in
            let past : m < e.document = elim (eqb m e.document) as (λ b. eqb m e.document ≡ b → m < e.document) [
              | true ↦ λ u. absurd (true≢false (sym u ∙ t))
              | false ↦ λ u. differ low t
            ] refl in
            let high : e.document < m + suc n = within.0.1 in
            let inside : Within (m + 1) n (e ∷ entries) = ((omega arith, omega arith), later_within m n e entries low rise.0 within.1) in
            let none : occurrences_at m (entries_in index term) ≡ None = says m (omega arith) ∙ not_there m (e ∷ entries) (each_in (λ (f : IndexedEntry). m < f.document) (e ∷ entries) (λ f k. let up : m + 1 ≤ f.document = (each_at (λ (entry : IndexedEntry). (m + 1 ≤ entry.document) × (entry.document < (m + 1) + n)) f (e ∷ entries) inside k).0 in omega arith)) in
            let rest = gathered-is n (base + cond (stays m) 1 0) (m + 1) (e ∷ entries) rise inside (λ k h. says k (omega arith)) in
            step base m n (left (base + cond (stays m) 1 0) (m + 1) (e ∷ entries)) None none (stays m) refl rest
            ∙ elim (stays m) as (λ (b : Bool). cond b (left (base + cond (stays m) 1 0) (m + 1) (e ∷ entries)) (left (base + cond (stays m) 1 0) (m + 1) (e ∷ entries)) ≡ left (base + cond (stays m) 1 0) (m + 1) (e ∷ entries)) [ true ↦ refl | false ↦ refl ]
            ∙ sym (left_next base m (stays m) refl (e ∷ entries) (low_end (m + 1) n (e ∷ entries) inside))
      ] refl
    where
      differ : {d m : ℕ} → m ≤ d → eqb m d ≡ false → m < d
      differ {d} {m} low t = grind (arith, nat_tests)

      not_there : (m : ℕ) (fs : List IndexedEntry) → Each (λ f. m < f.document) fs → occurrences_at m fs ≡ None
      not_there m [] h = refl
      not_there m (f ∷ fs) h = ap (λ b. option_map (λ (g : IndexedEntry). g.occurrences) (cond b (Some f) (find (λ (g : IndexedEntry). eqb m g.document) fs))) (behind m f.document h.0) ∙ not_there m fs h.1
        where
          behind : (m d : ℕ) → m < d → eqb m d ≡ false
          behind m d h = grind (arith, nat_tests)

      kept_first : (base m : ℕ) (e : IndexedEntry) (entries : List IndexedEntry) → m ≡ e.document → (b : Bool) → stays m ≡ b
          → cond b (record { document = base; occurrences = kept bits e.occurrences } ∷ left base m entries) (left base m entries) ≡ left base m (e ∷ entries)
      kept_first base m e entries here true q =
          let none : live_between index.deleted m e.document ≡ 0 = same_range m 0 index.deleted (e.document - m) (omega arith) in
          let number : base ≡ base + live_between index.deleted m e.document = omega (arith, none) in
          (λ i. record { document = number i; occurrences = kept bits e.occurrences } ∷ left base m entries)
          ∙ ap (λ b. map (numbered base m) (cond b (e ∷ filter (λ (entry : IndexedEntry). stays entry.document) entries) (filter (λ (entry : IndexedEntry). stays entry.document) entries))) (sym q ∙ ap stays here)
      kept_first base m e entries here false q =
          ap (λ b. map (numbered base m) (cond b (e ∷ filter (λ (entry : IndexedEntry). stays entry.document) entries) (filter (λ (entry : IndexedEntry). stays entry.document) entries))) (sym q ∙ ap stays here)

  from_start : (base : ℕ) (entries : List IndexedEntry) → map (numbered base 0) entries ≡ map (λ (entry : IndexedEntry). let e : IndexedEntry = record { document = base + length (live_from index.deleted 0 entry.document); occurrences = kept bits entry.occurrences } in e) entries
  from_start base [] = refl
  from_start base (e ∷ entries) =
      let number = ap (λ n. base + n) (same_range 0 e.document index.deleted (e.document - 0) (omega arith)) in
      λ i. record { document = number i; occurrences = kept bits e.occurrences } ∷ from_start base entries i

  -- the entries that the live documents of one source give
  pub gathered-live : (base : ℕ) → IsStrictlySortedBy nat_cmp (map (λ (entry : IndexedEntry). entry.document) (entries_in index term)) → Each (λ entry. entry.document < index.size) (entries_in index term)
      → filter_map (entry_of table term) (enumerate_from base (live_contents index)) ≡ renumbered bits base index.deleted (entries_in index term)
  gathered-live base rise low =
      gathered-is index.size base 0 (entries_in index term) (rises (entries_in index term) rise)
      (each_in (λ (entry : IndexedEntry). (0 ≤ entry.document) × (entry.document < 0 + index.size)) (entries_in index term) (λ e k. let high : e.document < index.size = each_at (λ (entry : IndexedEntry). entry.document < index.size) e (entries_in index term) low k in (omega arith, omega arith)))
      (λ n h. refl)
      ∙ from_start base (filter (λ entry. stays entry.document) (entries_in index term))

enumerate-append : {X : Type 0} (base : ℕ) (xs ys : List X) → enumerate_from base (xs ++ ys) ≡ enumerate_from base xs ++ enumerate_from (base + length xs) ys
enumerate-append base [] ys = ap (λ n. enumerate_from n ys) (sym (add-zero base))
enumerate-append base (x ∷ xs) ys =
    ap (λ rest. (base, x) ∷ rest) (enumerate-append (base + 1) xs ys ∙ ap (λ n. enumerate_from (base + 1) xs ++ enumerate_from n ys) (next base (length xs)))
  where
    next : (b n : ℕ) → (b + 1) + n ≡ b + suc n
    next b n = omega arith

-- the entries of a term of each index rise below its size
abbrev pub HasEntries : Term → Index → Type 0
HasEntries term index = IsStrictlySortedBy nat_cmp (map (λ entry. entry.document) (entries_in index term)) × Each (λ entry. entry.document < index.size) (entries_in index term)

-- the entries that live documents of all sources give are the renumbered entries of the sources
pub entries-merged : (table : List TableField) (term : Term) (base : ℕ) (indexes : List Index) → Each (HasEntries term) indexes
    → filter_map (entry_of table term) (enumerate_from base (flat_map live_contents indexes)) ≡ merged_entries (bits_of term.field table) term base indexes
entries-merged table term base [] h = refl
entries-merged table term base (index ∷ indexes) h =
    ap (filter_map (entry_of table term)) (enumerate-append base (live_contents index) (flat_map live_contents indexes))
    ∙ filter_map-append (entry_of table term) (enumerate_from base (live_contents index)) (enumerate_from (base + length (live_contents index)) (flat_map live_contents indexes))
    ∙ ap (λ rest. rest ++ filter_map (entry_of table term) (enumerate_from (base + length (live_contents index)) (flat_map live_contents indexes))) (gathered-live table term index base h.0.0 h.0.1)
    ∙ ap (λ n. renumbered (bits_of term.field table) base index.deleted (entries_in index term) ++ filter_map (entry_of table term) (enumerate_from (base + n) (flat_map live_contents indexes))) (length-map (live index) (content_at index))
    ∙ ap (λ rest. renumbered (bits_of term.field table) base index.deleted (entries_in index term) ++ rest) (entries-merged table term (base + length (live index)) indexes h.1)
