-- The new numbers of documents.
use Rattle.std.proofs.Common.{◌≡◌, ℕ, zero, suc, ◌+◌, ◌<◌, ◌≤◌, ◌||◌, Bool, true, false, not, cond, List, [], ◌∷◌, length, map, refl, sym, ap, ◌∙◌, arith, add-zero}
use Rattle.std.specs.Cmp.{nat_eq_equiv}
use Rattle.std.specs.Prelude.{filter}
use Rattle.std.specs.List.{range_with_len}
use Rattle.lu_model.specs.Index.{IndexedEntry}
use Rattle.lu_model.specs.Contents.{is_deleted, kept, renumbered}
use Rattle.lu_model.proofs.Words.{Each}
use Rattle.doc_marks.specs.Marking.{is_in}
use Rattle.seg_merger.specs.TermNumbers.{HasNumber, IsMap, live_before, number_in, renamed}
use Rattle.seg_merger.specs.TermSources.{live_entries}
use Rattle.seg_merger.specs.declared.terms.documents.DocMap.{DocMap}
use Rattle.seg_merger.specs.declared.terms.documents.DocMap.TheVariants.{From, Each as EachNumber}

pub is_in-deleted : (d : ℕ) (deleted : List ℕ) → is_in d deleted ≡ is_deleted deleted d
unfolding is_in
is_in-deleted d [] = refl
is_in-deleted d (x ∷ xs) = λ i. nat_eq_equiv.symm x d i || is_in-deleted d xs i

-- 1 for what is counted
abbrev pub one : Bool → ℕ
one b = cond b 1 0

module _ (deleted : List ℕ) where
  abbrev stays : ℕ → Bool
  stays document = not (is_deleted deleted document)

  counted_from : (a n : ℕ) → length (filter stays (range_with_len a (suc n))) ≡ length (filter stays (range_with_len a n)) + one (stays (a + n))
  counted_from a zero =
      elim (stays a) as (λ b. stays a ≡ b → length (cond b (a ∷ []) (let none : List ℕ = [] in none)) ≡ 0 + one (stays (a + 0))) [
        | true ↦ λ q. let e = sym (ap one (ap stays (add-zero a) ∙ q)) in omega (arith, e)
        | false ↦ λ q. let e = sym (ap one (ap stays (add-zero a) ∙ q)) in omega (arith, e)
      ] refl
  counted_from a (suc n) =
      let rest = counted_from (a + 1) n in
      let place : (a + 1) + n ≡ a + suc n = omega arith in
      let last : one (stays ((a + 1) + n)) ≡ one (stays (a + suc n)) = ap (λ k. one (stays k)) place in
      elim (stays a) as (λ b. length (cond b (a ∷ filter stays (range_with_len (a + 1) (suc n))) (filter stays (range_with_len (a + 1) (suc n)))) ≡ length (cond b (a ∷ filter stays (range_with_len (a + 1) n)) (filter stays (range_with_len (a + 1) n))) + one (stays (a + suc n))) [
        | true ↦ omega (arith, rest, last)
        | false ↦ omega (arith, rest, last)
      ]

  -- one document more
  counted-next : (d : ℕ) → live_before deleted (d + 1) ≡ live_before deleted d + one (stays d)
  counted-next d =
      let more : d + 1 ≡ suc d = omega arith in
      let place : 0 + d ≡ d = omega arith in
      ap (live_before deleted) more ∙ counted_from 0 d ∙ ap (λ k. live_before deleted d + one (stays k)) place

  -- no more are counted than there are
  pub counted-le : (d : ℕ) → live_before deleted d ≤ d
  counted-le zero = let none : live_before deleted 0 ≡ 0 = refl in omega (arith, none)
  counted-le (suc d) =
      let more : suc d ≡ d + 1 = omega arith in
      let step : live_before deleted (suc d) ≡ live_before deleted d + one (stays d) = ap (live_before deleted) more ∙ counted-next d in
      let rest = counted-le d in
      elim (stays d) as (λ b. live_before deleted (suc d) ≡ live_before deleted d + one b → live_before deleted (suc d) ≤ suc d) [ true ↦ λ s. omega (arith, s, rest) | false ↦ λ s. omega (arith, s, rest) ] step

  -- the next number, after a document that is not deleted, or is
  pub number-live : (base d next new : ℕ) (b : Bool) → next ≡ base + live_before deleted d → b ≡ not (is_in d deleted) → b ≡ true → new ≡ next + 1 → new ≡ base + live_before deleted (d + 1)
  number-live base d next new b is live is_true more =
      let step = counted-next d in
      let here : one true ≡ one (stays d) = ap one (sym is_true ∙ live ∙ ap not (is_in-deleted d deleted)) in
      omega (arith, step, here, is, more)

  pub number-dead : (base d next new : ℕ) (b : Bool) → next ≡ base + live_before deleted d → b ≡ not (is_in d deleted) → b ≡ false → new ≡ next → new ≡ base + live_before deleted (d + 1)
  number-dead base d next new b is live is_false same =
      let step = counted-next d in
      let here : one false ≡ one (stays d) = ap one (sym is_false ∙ live ∙ ap not (is_in-deleted d deleted)) in
      omega (arith, step, here, is, same)

-- where none is deleted all are counted
pub counted-all : (d : ℕ) → live_before [] d ≡ d
counted-all zero = refl
counted-all (suc d) =
    let more : suc d ≡ d + 1 = omega arith in
    let rest = counted-all d in
    let step : live_before [] (suc d) ≡ live_before [] d + 1 = ap (live_before []) more ∙ counted-next [] d in
    omega (arith, rest, step)

pub none-deleted : (deleted : List ℕ) → length deleted ≡ 0 → deleted ≡ []
none-deleted [] e = refl
none-deleted (d ∷ ds) e = absurd (omega (arith, e))

-- ---- maps

-- the number of a document of the segment
pub number-is : (base : ℕ) (deleted : List ℕ) (size d : ℕ) (docs : DocMap) → IsMap base deleted size docs → d < size → number_in docs d ≡ base + live_before deleted d
number-is base deleted size d (From number) is h = ap (λ n. n + d) is.0 ∙ ap (λ n. base + n) (sym (counted-all d) ∙ ap (λ ds. live_before ds d) (sym is.1))
number-is base deleted size d (EachNumber numbers) is h = is.each d h

has-number : (base : ℕ) (deleted : List ℕ) (size d : ℕ) (docs : DocMap) → IsMap base deleted size docs → d < size → HasNumber docs d
has-number base deleted size d (From number) is h = let same = is.0 in let few = is.2 in omega (arith, same, few, h)
has-number base deleted size d (EachNumber numbers) is h = let all = is.all in omega (arith, all, h)

-- entries under their new numbers
pub renamed-live : (bits base : ℕ) (deleted : List ℕ) (size : ℕ) (docs : DocMap) → IsMap base deleted size docs → (entries : List IndexedEntry) → Each (λ entry. entry.document < size) entries
    → map (renamed bits docs) (live_entries deleted entries) ≡ renumbered bits base deleted entries
renamed-live bits base deleted size docs is [] h = refl
renamed-live bits base deleted size docs is (e ∷ entries) h =
    let rest = renamed-live bits base deleted size docs is entries h.1 in
    let number = number-is base deleted size e.document docs is h.0 in
    elim (not (is_deleted deleted e.document)) as (λ b. map (renamed bits docs) (cond b (e ∷ live_entries deleted entries) (live_entries deleted entries)) ≡ map (λ (entry : IndexedEntry). let f : IndexedEntry = record { document = base + live_before deleted entry.document; occurrences = kept bits entry.occurrences } in f) (cond b (e ∷ live_entries deleted entries) (live_entries deleted entries))) [
      | true ↦ λ i. record { document = number i; occurrences = kept bits e.occurrences } ∷ rest i
      | false ↦ rest
    ]

-- each has one
pub numbered-live : (base : ℕ) (deleted : List ℕ) (size : ℕ) (docs : DocMap) → IsMap base deleted size docs → (entries : List IndexedEntry) → Each (λ entry. entry.document < size) entries
    → Each (λ entry. HasNumber docs entry.document) (live_entries deleted entries)
numbered-live base deleted size docs is [] h = tt
numbered-live base deleted size docs is (e ∷ entries) h =
    let rest = numbered-live base deleted size docs is entries h.1 in
    elim (not (is_deleted deleted e.document)) as (λ b. Each (λ (entry : IndexedEntry). HasNumber docs entry.document) (cond b (e ∷ live_entries deleted entries) (live_entries deleted entries))) [
      | true ↦ (has-number base deleted size e.document docs is h.0, rest)
      | false ↦ rest
    ]
