-- What marks and postings of entries that were handed over have in common.
use Rattle.std.proofs.Common.{◌≡◌, ℕ, zero, suc, ◌+◌, ◌^◌, ◌<◌, ◌≤◌, Bool, true, false, List, [], ◌∷◌, length, take, get_or, refl, arith}
use Rattle.std.specs.Prelude.{if◌then◌else◌, slice_index_or}
use Rattle.std.proofs.lemmas.List.{length-append}
use Rattle.freq_skips.specs.Entries.{no_posting}
use Rattle.freq_skips.specs.Written.{Handed, no_handed, entry_bytes, entries_bytes, last_doc, mark_of, written_postings, AreInOrder}
use Rattle.freq_skips.specs.Writing.{IsRisingProx}
use Rattle.freq_skips.proofs.WrittenLevels.{IsUpTo}

pub postings-at : (omit : Bool) (place last : ℕ) (hs : List Handed) (k : ℕ) → k < length hs
    → ((get_or (written_postings omit place last hs) k no_posting).before ≡ last_doc last (take k hs)) × ((get_or (written_postings omit place last hs) k no_posting).place ≡ place + length (entries_bytes omit last (take k hs)))
postings-at omit place last [] k lt = absurd (omega arith)
postings-at omit place last (h ∷ hs) zero lt = (refl, omega arith)
postings-at omit place last (h ∷ hs) (suc k) lt =
    let rest = postings-at omit (place + length (entry_bytes omit last h)) h.doc hs k (omega arith) in
    (rest.0, omega (arith, rest.1, length-append (entry_bytes omit last h) (entries_bytes omit h.doc (take k hs))))

-- more entries take more bytes, and end at later documents
bytes-grow : (omit : Bool) (last : ℕ) (hs : List Handed) (a b : ℕ) → a ≤ b → length (entries_bytes omit last (take a hs)) ≤ length (entries_bytes omit last (take b hs))
bytes-grow omit last hs zero b le = omega arith
bytes-grow omit last [] (suc a) zero le = absurd (omega arith)
bytes-grow omit last [] (suc a) (suc b) le = omega arith
bytes-grow omit last (h ∷ hs) (suc a) zero le = absurd (omega arith)
bytes-grow omit last (h ∷ hs) (suc a) (suc b) le =
    omega (arith, bytes-grow omit h.doc hs a b (omega arith), length-append (entry_bytes omit last h) (entries_bytes omit h.doc (take a hs)), length-append (entry_bytes omit last h) (entries_bytes omit h.doc (take b hs)))

all-bytes : (omit : Bool) (last : ℕ) (hs : List Handed) (a : ℕ) → length (entries_bytes omit last (take a hs)) ≤ length (entries_bytes omit last hs)
all-bytes omit last hs zero = omega arith
all-bytes omit last [] (suc a) = omega arith
all-bytes omit last (h ∷ hs) (suc a) =
    omega (arith, all-bytes omit h.doc hs a, length-append (entry_bytes omit last h) (entries_bytes omit h.doc (take a hs)), length-append (entry_bytes omit last h) (entries_bytes omit h.doc hs))

up_to : (b : Bool) (last doc : ℕ) → last + (if b then 0 else 1) ≤ doc → last ≤ doc
up_to true last doc le = omega arith
up_to false last doc le = omega arith

docs-from : (documents : ℕ) (first : Bool) (last : ℕ) (hs : List Handed) (a : ℕ) → AreInOrder documents first last hs → last ≤ last_doc last (take a hs)
docs-from documents first last hs zero order = omega arith
docs-from documents first last [] (suc a) order = omega arith
docs-from documents first last (h ∷ hs) (suc a) order = omega (arith, up_to first last h.doc order.0, docs-from documents false h.doc hs a order.5)

docs-grow : (documents : ℕ) (first : Bool) (last : ℕ) (hs : List Handed) (a b : ℕ) → AreInOrder documents first last hs → a ≤ b → last_doc last (take a hs) ≤ last_doc last (take b hs)
docs-grow documents first last hs zero b order le = docs-from documents first last hs b order
docs-grow documents first last [] (suc a) zero order le = absurd (omega arith)
docs-grow documents first last [] (suc a) (suc b) order le = omega arith
docs-grow documents first last (h ∷ hs) (suc a) zero order le = absurd (omega arith)
docs-grow documents first last (h ∷ hs) (suc a) (suc b) order le = docs-grow documents false h.doc hs a b order.5 (omega arith)

docs-small : (documents : ℕ) (first : Bool) (last : ℕ) (hs : List Handed) (a : ℕ) → last < 2 ^ 31 → AreInOrder documents first last hs → last_doc last (take a hs) < 2 ^ 31
docs-small documents first last hs zero small order = small
docs-small documents first last [] (suc a) small order = small
docs-small documents first last (h ∷ hs) (suc a) small order = docs-small documents false h.doc hs a order.2 order.5

-- marks that follow one another
pub marks-up : (documents : ℕ) (omit : Bool) (handed : List Handed) (a b : ℕ) → AreInOrder documents true 0 handed → IsRisingProx handed → a ≤ b → b < length handed → IsUpTo (mark_of omit handed a) (mark_of omit handed b)
marks-up documents omit handed a b order prox le lt =
    (docs-grow documents true 0 handed a b order le, bytes-grow omit 0 handed a b le, pick omit (prox a b le lt).0)
  where
    pick : (o : Bool) → (slice_index_or handed a no_handed).prox ≤ (slice_index_or handed b no_handed).prox
        → (if o then 0 else (slice_index_or handed a no_handed).prox) ≤ (if o then 0 else (slice_index_or handed b no_handed).prox)
    pick true le = omega arith
    pick false le = le

pub mark-small : (documents : ℕ) (omit : Bool) (handed : List Handed) (a : ℕ) → AreInOrder documents true 0 handed → IsRisingProx handed → a < length handed → length (entries_bytes omit 0 handed) < 2 ^ 31
    → ((mark_of omit handed a).doc < 2 ^ 31) × ((mark_of omit handed a).freq < 2 ^ 31) × ((mark_of omit handed a).prox < 2 ^ 31)
mark-small documents omit handed a order prox lt small =
    (docs-small documents true 0 handed a (omega arith) order, omega (arith, all-bytes omit 0 handed a), pick omit (prox a a (omega arith) lt).1)
  where
    pick : (o : Bool) → (slice_index_or handed a no_handed).prox < 2 ^ 31 → (if o then 0 else (slice_index_or handed a no_handed).prox) < 2 ^ 31
    pick true lt = omega arith
    pick false lt = lt
