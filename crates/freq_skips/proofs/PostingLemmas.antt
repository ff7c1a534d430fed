-- What holds of the postings of a good term.
use Rattle.std.proofs.Common.{◌≡◌, ℕ, zero, suc, add-one, ◌+◌, ◌<◌, ◌≤◌, inl, inr, Bool, true, false, not, List, length, Option, Some, None, refl, sym, ap, subst, ◌∙◌, arith}
use Rattle.std.specs.Prelude.{slice_index_or, ◌==◌, ◌&&◌, nat_le, nat_lt}
use Rattle.std.proofs.lemmas.Bool.{ne_eqb, cases_lt}
use Rattle.std.proofs.lemmas.Bool.Decides.{nat_tests}
use Rattle.lu_grammar.specs.Bytes.{IsBytes, Cursor, place_in}
use Rattle.lu_grammar.specs.Plans.{times}
use Rattle.lu_grammar.proofs.Parts.{IsBytes-drop}
use Rattle.lu_grammar.proofs.Codecs.{same_pair, record_at-kept, all_unbroken, place_in-after}
use Rattle.freq_skips.specs.declared.rules.RuledTerm.{RuledTerm}
use Rattle.freq_skips.specs.Records.{stated_of, delta_of, entry_shape}
use Rattle.freq_skips.specs.Entries.{Posting, no_posting, no_entry, gap, stated_or_one, is_low, posting_of, entry_conditions, entry_kind, postings_from, AreEntries, IsBehindEntries}
use Rattle.freq_skips.proofs.EntryLemmas.{IsBehindEntries-none, IsBehindEntries-more, IsBehindEntries-again, IsBehindEntries-upto, posting-is}
use Rattle.freq_skips.proofs.WantedLemmas.{posting-at}
use Rattle.freq_skips.proofs.AgainLemmas.{read_plan-on}

-- so many entries end at one place, and with one document
pub IsBehindEntries-same : (t : RuledTerm) (start : Cursor) (index d e : ℕ) (here there : Cursor) → IsBehindEntries t start index d here → IsBehindEntries t start index e there → (d ≡ e) × (here ≡ there)
IsBehindEntries-same t start index d e here there a b =
    let same = same_pair a.passed b.passed here there (sym a.reads ∙ b.reads) in
    (sym a.last ∙ ap (λ (p : _). p.doc) same.0 ∙ b.last, same.1)

-- what the conditions say of an entry that is not broken
not-low : (o : Option ℕ) → is_low o ≡ false → 1 ≤ stated_or_one o
not-low None e = omega arith
not-low (Some n) e = low n e
  where
    low : (n : ℕ) → nat_lt n 2 ≡ false → 1 ≤ n
    low n e = grind (arith, nat_tests)

within-range : (m n : ℕ) → nat_le m n ≡ false → n < m
within-range m n e = grind (arith, nat_tests)

no-repeat : (gap : ℕ) (first : Bool) → first ≡ false → (not first && (gap == 0)) ≡ false → 0 < gap
no-repeat zero false f e = cc
no-repeat (suc n) false f e = omega arith
no-repeat gap true f e = cc

-- an entry of a good term: its document is below their number, and it stands there at least once; the document before is 0 at the first, and else that of the entry before, and below its own
pub record GoodPosting (t : RuledTerm) (ps : List Posting) (index : ℕ) : Type 0 where
  pub below : (slice_index_or ps index no_posting).doc < t.rules.documents
  pub some : 1 ≤ (slice_index_or ps index no_posting).freq
  pub after : (slice_index_or ps index no_posting).before ≤ (slice_index_or ps index no_posting).doc
  pub rises : 0 < index → (slice_index_or ps index no_posting).before < (slice_index_or ps index no_posting).doc
  pub first : index ≡ 0 → (slice_index_or ps index no_posting).before ≡ 0
  pub next : (j : ℕ) → index ≡ suc j → (slice_index_or ps index no_posting).before ≡ (slice_index_or ps j no_posting).doc

abbrev nth : RuledTerm → Cursor → ℕ → Posting
nth t start index = slice_index_or (postings_from t start) index no_posting

-- the document before is that of the entry before
before-next : (t : RuledTerm) (start end : Cursor) (j doc : ℕ) (here : Cursor) → AreEntries t start end → suc j < t.info.doc_freq → IsBehindEntries t start (suc j) doc here → doc ≡ (nth t start j).doc
before-next t start end j doc here all lt h = go (IsBehindEntries-upto t start end j all (omega arith))
  where
    go : ((d : ℕ) × (there : Cursor) × IsBehindEntries t start j d there) → doc ≡ (nth t start j).doc
    go (d, there, s) =
        let again = IsBehindEntries-again t start end j d there all s (omega arith) in
        let is = posting-is t start end j d there again.0 again.1 all s (omega arith) again.2 in
        let more = subst (λ (n : ℕ). IsBehindEntries t start n (posting_of t d there.place again.0).doc again.1) (add-one j) (IsBehindEntries-more t start j d there again.0 again.1 s again.2) in
        (IsBehindEntries-same t start (suc j) doc _ here again.1 h more).0 ∙ ap (λ (p : Posting). p.doc) (sym is)

pub posting-good : (t : RuledTerm) (start end : Cursor) (index : ℕ) → AreEntries t start end → index < t.info.doc_freq → GoodPosting t (postings_from t start) index
posting-good t start end index all lt = go (IsBehindEntries-upto t start end index all (omega arith))
  where
    go : ((d : ℕ) × (here : Cursor) × IsBehindEntries t start index d here) → GoodPosting t (postings_from t start) index
    go (d, here, h) =
        let again = IsBehindEntries-again t start end index d here all h lt in
        let r = again.0 in
        let is = posting-is t start end index d here r again.1 all h lt again.2 in
        let kept = all_unbroken (entry_conditions t (index == 0) d here.place r) (record_at-kept (entry_shape t) (entry_conditions t (index == 0) d here.place) here r again.1 again.2) in
        let doc : (nth t start index).doc ≡ d + gap t (delta_of r) = ap (λ (p : Posting). p.doc) is in
        let before : (nth t start index).before ≡ d = ap (λ (p : Posting). p.before) is in
        let freq : (nth t start index).freq ≡ stated_or_one (stated_of r) = ap (λ (p : Posting). p.freq) is in
        record {
          below = subst (λ (n : ℕ). n < t.rules.documents) (sym doc) (within-range t.rules.documents (d + gap t (delta_of r)) kept.1.1.0);
          some = subst (λ (n : ℕ). 1 ≤ n) (sym freq) (not-low (stated_of r) kept.1.1.1.0);
          after = omega (arith, doc, before);
          rises = λ pos. let more = no-repeat (gap t (delta_of r)) (index == 0) (ne_eqb index 0 (λ e. absurd (omega arith))) kept.1.0 in omega (arith, doc, before, more);
          first = λ e. before ∙ (IsBehindEntries-same t start 0 d 0 here start (subst (λ (n : ℕ). IsBehindEntries t start n d here) e h) (IsBehindEntries-none t start)).0;
          next = λ j e. before ∙ before-next t start end j d here all (omega arith) (subst (λ (n : ℕ). IsBehindEntries t start n d here) e h);
        }

-- the document before does not fall from entry to entry
pub before-rises : (t : RuledTerm) (start end : Cursor) (i j : ℕ) → AreEntries t start end → i ≤ j → j < t.info.doc_freq → (nth t start i).before ≤ (nth t start j).before
before-rises t start end i zero all le lt = let e : i ≡ 0 = omega arith in subst (λ (n : ℕ). (nth t start n).before ≤ (nth t start 0).before) (sym e) (omega arith)
before-rises t start end i (suc j) all le lt = elim (cases_lt j i) [
  | inl over ↦ let e : i ≡ suc j = omega arith in subst (λ (n : ℕ). (nth t start n).before ≤ (nth t start (suc j)).before) (sym e) (omega arith)
  | inr low ↦
      let one = before-rises t start end i j all low (omega arith) in
      let here = posting-good t start end j all (omega arith) in
      let up = (posting-good t start end (suc j) all lt).next j refl in
      let rise = here.after in
      omega (arith, one, rise, up)
]

-- and so does the document itself, which rises
pub docs-rise : (t : RuledTerm) (start end : Cursor) (i j : ℕ) → AreEntries t start end → i < j → j < t.info.doc_freq → (nth t start i).doc < (nth t start j).doc
docs-rise t start end i zero all lt below = absurd (omega arith)
docs-rise t start end i (suc j) all lt below =
    let good = posting-good t start end (suc j) all below in
    let next = good.next j refl in
    let up = good.rises (omega arith) in
    elim (cases_lt i j) [
      | inl low ↦ let one = docs-rise t start end i j all low (omega arith) in omega (arith, one, next, up)
      | inr same ↦ let e : i ≡ j = omega arith in subst (λ (n : ℕ). (nth t start n).doc < (nth t start (suc j)).doc) (sym e) (omega (arith, next, up))
    ]

-- the document before is below the number of documents, or 0
pub before-small : (t : RuledTerm) (start end : Cursor) (index limit : ℕ) → AreEntries t start end → index < t.info.doc_freq → t.rules.documents ≤ limit → 0 < limit → (nth t start index).before < limit
before-small t start end zero limit all lt le pos = let none = (posting-good t start end 0 all lt).first refl in omega (arith, none)
before-small t start end (suc j) limit all lt le pos =
    let next = (posting-good t start end (suc j) all lt).next j refl in
    let low = (posting-good t start end j all (omega arith)).below in
    omega (arith, next, low)

-- an entry starts within the bytes, and not before the first
pub posting-place : (t : RuledTerm) (frq : List ℕ) (at : ℕ) (end : Cursor) (index : ℕ) → IsBytes frq → at ≤ length frq → AreEntries t (place_in frq at) end → index < t.info.doc_freq → (at ≤ (nth t (place_in frq at) index).place) × ((nth t (place_in frq at) index).place ≤ length frq)
posting-place t frq at end index fits le all lt = go (IsBehindEntries-upto t (place_in frq at) end index all (omega arith))
  where
    go : ((d : ℕ) × (here : Cursor) × IsBehindEntries t (place_in frq at) index d here) → (at ≤ (nth t (place_in frq at) index).place) × ((nth t (place_in frq at) index).place ≤ length frq)
    go (d, here, h) =
        let is = (posting-at t (place_in frq at) end index d here all h lt).1 in
        let after = place_in-after (times (entry_kind t) index no_entry) frq at h.passed here fits le h.reads in
        let on = read_plan-on (times (entry_kind t) index no_entry) (place_in frq at) h.passed here (IsBytes-drop at frq fits) h.reads in
        let within = after.1 in
        (omega (arith, is, on), omega (arith, is, within))
