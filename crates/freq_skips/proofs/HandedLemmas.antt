-- What a writer holds after each entry that it was handed.
use Rattle.std.proofs.Common.{◌≡◌, ◌≢◌, ℕ, suc, ◌+◌, ◌-◌, ◌*◌, ◌/◌, ◌%◌, ◌<◌, ◌≤◌, ◌^◌, ◌⊎◌, true, false, Bool, List, [], ◌∷◌, ◌++◌, length, take, get_or, inl, inr, refl, sym, ap, ◌∙◌, append_assoc, arith}
use Rattle.std.specs.Prelude.{slice_index_or, if◌then◌else◌}
use Rattle.std.proofs.lemmas.Bool.{cases_lt}
use Rattle.std.proofs.lemmas.List.{length-append, append-nil, take-append-le, length-take-le}
use Rattle.std.proofs.Math.ListN.{get_or-append}
use Rattle.std.proofs.Math.Seq.{get_or-append_seam, take-append_seam}
use Rattle.std.proofs.Math.Nat.{zero-div, div-mul-le_self, mul-le-mul_right}
use Rattle.freq_skips.specs.declared.writer.Mark.{Mark}
use Rattle.freq_skips.specs.Written.{Handed, no_handed, entry_bytes, entries_bytes, last_doc, mark_of, no_mark, AreInOrder}
use Rattle.freq_skips.specs.InnerLevels.{HasMarks}
use Rattle.freq_skips.specs.Writing.{IsRisingProx}
use Rattle.freq_skips.proofs.Powers.{quotient-same, multiple-index, multiple-next}

-- one entry more at the end
pub entries_bytes-more : (omit : Bool) (last : ℕ) (handed : List Handed) (h : Handed) → entries_bytes omit last (handed ++ h ∷ []) ≡ entries_bytes omit last handed ++ entry_bytes omit (last_doc last handed) h
entries_bytes-more omit last [] h = append-nil (entry_bytes omit last h)
entries_bytes-more omit last (g ∷ gs) h =
    ap (λ (b : List ℕ). entry_bytes omit last g ++ b) (entries_bytes-more omit g.doc gs h)
    ∙ sym (append_assoc (entry_bytes omit last g) (entries_bytes omit g.doc gs) (entry_bytes omit (last_doc g.doc gs) h))

pub last_doc-more : (last : ℕ) (handed : List Handed) (h : Handed) → last_doc last (handed ++ h ∷ []) ≡ h.doc
last_doc-more last [] h = refl
last_doc-more last (g ∷ gs) h = last_doc-more g.doc gs h

abbrev mark_from : Bool → List Handed → Handed → Mark
mark_from omit front h = record { doc = last_doc 0 front; freq = length (entries_bytes omit 0 front); prox = if omit then 0 else h.prox }

-- the marks of entries that were handed over before stay
pub mark_of-same : (omit : Bool) (handed more : List Handed) (k : ℕ) → k < length handed → mark_of omit (handed ++ more) k ≡ mark_of omit handed k
mark_of-same omit handed more k lt =
    let front : take k (handed ++ more) ≡ take k handed = let le : k ≤ length handed = omega arith in rw take-append-le refl in
    let here = get_or-append handed more no_handed k lt in
    ap (λ (l : List Handed). mark_from omit l (get_or (handed ++ more) k no_handed)) front ∙ ap (λ (h : Handed). mark_from omit (take k handed) h) here

-- the mark of the entry that is handed over last
pub mark_of-last : (omit : Bool) (handed : List Handed) (h : Handed) → mark_of omit (handed ++ h ∷ []) (length handed) ≡ record { doc = last_doc 0 handed; freq = length (entries_bytes omit 0 handed); prox = if omit then 0 else h.prox }
mark_of-last omit handed h =
    let front : take (length handed) (handed ++ h ∷ []) ≡ handed = take-append_seam handed (h ∷ []) in
    let here = get_or-append_seam handed h [] no_handed in
    ap (λ (l : List Handed). mark_from omit l (get_or (handed ++ h ∷ []) (length handed) no_handed)) front ∙ ap (λ (g : Handed). mark_from omit handed g) here

-- no entry has no mark
pub HasMarks-none : (omit : Bool) (interval : ℕ) → HasMarks omit interval [] []
HasMarks-none omit interval = record { count = sym (zero-div interval); are = λ j lt. absurd (omega arith) }

-- the entry of a mark is among those that were handed over
mark-within : (j count interval : ℕ) → 2 ≤ interval → j < count / interval → suc j * interval - 1 < count
mark-within j count interval two lt =
    let up : suc j * interval ≤ count / interval * interval = mul-le-mul_right interval lt in
    let low = div-mul-le_self count interval in
    let some : 1 * interval ≤ suc j * interval = mul-le-mul_right interval (let one : 1 ≤ suc j = omega arith in one) in
    omega arith

-- the marks that there are stay
marks-kept : (omit : Bool) (interval : ℕ) (entries : List Handed) (marks : List Mark) (h : Handed) → 2 ≤ interval → HasMarks omit interval entries marks → (j : ℕ) → j < length marks
    → slice_index_or marks j no_mark ≡ mark_of omit (entries ++ h ∷ []) (suc j * interval - 1)
marks-kept omit interval entries marks h two has j lt =
    has.are j lt ∙ sym (mark_of-same omit entries (h ∷ []) (suc j * interval - 1) (mark-within j (length entries) interval two (let c = has.count in omega arith)))

-- one entry more, which has a mark, and one that has none
pub HasMarks-more : (omit : Bool) (interval : ℕ) (entries : List Handed) (marks : List Mark) (h : Handed) (m : Mark) → 2 ≤ interval → HasMarks omit interval entries marks → (length entries + 1) % interval ≡ 0
    → m ≡ record { doc = last_doc 0 entries; freq = length (entries_bytes omit 0 entries); prox = if omit then 0 else h.prox } → HasMarks omit interval (entries ++ h ∷ []) (marks ++ m ∷ [])
HasMarks-more omit interval entries marks h m two has e is =
    let next = multiple-next (length entries) interval (omega arith) e in
    let size = length-append marks (m ∷ []) in
    let long = length-append entries (h ∷ []) in
    record {
      count = size ∙ omega (arith, has.count, next) ∙ ap (λ (n : ℕ). n / interval) (sym long);
      are = λ j lt. elim (cases_lt j (length marks)) [
        | inl low ↦ get_or-append marks (m ∷ []) no_mark j low ∙ marks-kept omit interval entries marks h two has j low
        | inr ge ↦
            let last : j ≡ length marks = omega (arith, size) in
            let index : suc j * interval - 1 ≡ length entries = multiple-index (length entries) interval j (omega arith) e (last ∙ has.count) ∙ (omega arith) in
            ap (λ (n : ℕ). get_or (marks ++ m ∷ []) n no_mark) last ∙ get_or-append_seam marks m [] no_mark
            ∙ is ∙ sym (mark_of-last omit entries h) ∙ ap (λ (n : ℕ). mark_of omit (entries ++ h ∷ []) n) (sym index)
      ];
    }

pub HasMarks-same : (omit : Bool) (interval : ℕ) (entries : List Handed) (marks : List Mark) (h : Handed) → 2 ≤ interval → HasMarks omit interval entries marks → (length entries + 1) % interval ≢ 0 → HasMarks omit interval (entries ++ h ∷ []) marks
HasMarks-same omit interval entries marks h two has ne = record {
  count = has.count ∙ sym (quotient-same (length entries) interval (omega arith) ne) ∙ ap (λ (n : ℕ). n / interval) (let long = length-append entries (h ∷ []) in let e : suc (length entries) ≡ length (entries ++ h ∷ []) = omega arith in e);
  are = marks-kept omit interval entries marks h two has;
}

-- entries in order, with one more behind the last
order-later : (limit last : ℕ) (hs : List Handed) (h : Handed) → AreInOrder limit false last hs → last_doc last hs < h.doc → h.doc < limit → h.doc < 2 ^ 31 → 1 ≤ h.freq → h.freq < 2 ^ 31 → AreInOrder limit false last (hs ++ h ∷ [])
order-later limit last [] h order lt below small some few = (omega arith, below, small, some, few, tt)
order-later limit last (g ∷ gs) h order lt below small some few = (order.0, order.1, order.2, order.3, order.4, order-later limit g.doc gs h order.5 lt below small some few)

pub order-more : (limit : ℕ) (hs : List Handed) (h : Handed) → AreInOrder limit true 0 hs → (hs ≡ []) ⊎ (last_doc 0 hs < h.doc) → h.doc < limit → h.doc < 2 ^ 31 → 1 ≤ h.freq → h.freq < 2 ^ 31 → AreInOrder limit true 0 (hs ++ h ∷ [])
order-more limit [] h order which below small some few = (omega arith, below, small, some, few, tt)
order-more limit (g ∷ gs) h order (inl none) below small some few = cc
order-more limit (g ∷ gs) h order (inr lt) below small some few = (order.0, order.1, order.2, order.3, order.4, order-later limit g.doc gs h order.5 lt below small some few)

-- as many entries as documents up to the last, at most
many-later : (limit last : ℕ) (hs : List Handed) → AreInOrder limit false last hs → last + length hs ≤ last_doc last hs
many-later limit last [] order = omega arith
many-later limit last (h ∷ hs) order = let rest = many-later limit h.doc hs order.5 in let up = order.0 in omega arith

pub entries-few : (limit : ℕ) (hs : List Handed) → AreInOrder limit true 0 hs → length hs ≤ last_doc 0 hs + 1
entries-few limit [] order = omega arith
entries-few limit (h ∷ hs) order = let rest = many-later limit h.doc hs order.5 in omega arith

pub last-small : (limit last : ℕ) (first : Bool) (hs : List Handed) → last < 2 ^ 31 → AreInOrder limit first last hs → last_doc last hs < 2 ^ 31
last-small limit last first [] small order = small
last-small limit last first (h ∷ hs) small order = last-small limit h.doc false hs order.2 order.5

-- the bytes with one entry more
pub written-more : (omit : Bool) (start : ℕ) (bytes more : List ℕ) (entries : List Handed) (h : Handed) → start ≤ length bytes → bytes ≡ take start bytes ++ entries_bytes omit 0 entries → more ≡ bytes ++ entry_bytes omit (last_doc 0 entries) h
    → (take start more ≡ take start bytes) × (more ≡ take start more ++ entries_bytes omit 0 (entries ++ h ∷ []))
written-more omit start bytes more entries h le is grown =
    let front : take start more ≡ take start bytes = ap (take start) grown ∙ take-append-le start bytes (entry_bytes omit (last_doc 0 entries) h) le in (
      front,
      grown ∙ ap (λ (b : List ℕ). b ++ entry_bytes omit (last_doc 0 entries) h) is ∙ append_assoc (take start bytes) (entries_bytes omit 0 entries) (entry_bytes omit (last_doc 0 entries) h)
          ∙ ap (λ (b : List ℕ). take start bytes ++ b) (sym (entries_bytes-more omit 0 entries h)) ∙ ap (λ (b : List ℕ). b ++ entries_bytes omit 0 (entries ++ h ∷ [])) (sym front),
    )

-- how many bytes the entries take
pub entries-long : (omit : Bool) (start : ℕ) (bytes : List ℕ) (entries : List Handed) → start ≤ length bytes → bytes ≡ take start bytes ++ entries_bytes omit 0 entries → length bytes - start ≡ length (entries_bytes omit 0 entries)
entries-long omit start bytes entries le is = omega (arith, ap length is, length-append (take start bytes) (entries_bytes omit 0 entries), length-take-le start bytes le)

-- the bytes of positions do not fall, with one entry more that has no fewer
pub rising-more : (handed : List Handed) (h : Handed) → IsRisingProx handed → ((k : ℕ) → k < length handed → (slice_index_or handed k no_handed).prox ≤ h.prox) → h.prox < 2 ^ 31 → IsRisingProx (handed ++ h ∷ [])
rising-more handed h rises below small j k le lt = elim (cases_lt k (length handed)) [
  | inl low ↦ rw (get_or-append handed (h ∷ []) no_handed j (omega arith), get_or-append handed (h ∷ []) no_handed k low) (rises j k le low)
  | inr ge ↦
      let last : k ≡ length handed = omega (arith, length-append handed (h ∷ [])) in
      let here : slice_index_or (handed ++ h ∷ []) k no_handed ≡ h = ap (λ (n : ℕ). get_or (handed ++ h ∷ []) n no_handed) last ∙ get_or-append_seam handed h [] no_handed in
      elim (cases_lt j (length handed)) [
        | inl before ↦ rw (here, get_or-append handed (h ∷ []) no_handed j before) (below j before, small)
        | inr same ↦ let e : j ≡ k = omega arith in rw (e, here) (omega arith, small)
      ]
]

-- and none of them has more than the last
pub prox-below : (handed : List Handed) (h : Handed) (most : ℕ) → ((k : ℕ) → k < length handed → (slice_index_or handed k no_handed).prox ≤ most) → h.prox ≤ most → (k : ℕ) → k < length (handed ++ h ∷ []) → (slice_index_or (handed ++ h ∷ []) k no_handed).prox ≤ most
prox-below handed h most below le k lt = elim (cases_lt k (length handed)) [
  | inl low ↦ rw (get_or-append handed (h ∷ []) no_handed k low) (below k low)
  | inr ge ↦
      let last : k ≡ length handed = omega (arith, length-append handed (h ∷ [])) in
      let here : slice_index_or (handed ++ h ∷ []) k no_handed ≡ h = ap (λ (n : ℕ). get_or (handed ++ h ∷ []) n no_handed) last ∙ get_or-append_seam handed h [] no_handed in
      rw here le
]
