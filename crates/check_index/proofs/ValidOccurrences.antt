-- What a field keeps of a term in a document, and the entries of a term.
use Rattle.std.proofs.Common.{◌≡◌, ℕ, suc, ◌<◌, ◌≤◌, ◌^◌, Bool, true, false, List, [], ◌∷◌, length, map, refl, arith}
use Rattle.std.specs.Prelude.{cond, slice_index_or}
use Rattle.std.specs.List.{AllByRecursion}
use Rattle.std.specs.List.Sorted.{IsStrictlySortedBy}
use Rattle.std.specs.Ordering.{nat_cmp}
use Rattle.std.specs.declared.cmp.Ordering.TheVariants.{Less}
use Rattle.lu_prims.proofs.OrderLemmas.{nat_less}
use Rattle.lu_types.specs.Bits as bit
use Rattle.lu_types.specs.Bits.{has_bit}
use Rattle.lu_types.specs.declared.stored.Stored.TheVariants.{Binary}
use Rattle.lu_types.specs.Occurrences.{Occurrence}
use Rattle.lu_model.specs.Index.{IndexedEntry}
use Rattle.lu_model.specs.Valid.{IsSmall, IsStorable, AreOccurrences, IsKept}
use Rattle.lu_model.proofs.Words.{Each, EachPair}
use Rattle.lu_model.proofs.Each.{all-from_each, non_decreasing}
use Rattle.freq_skips.specs.Entries.{Posting, no_posting}
use Rattle.positions.specs.Written.{AreGoodOccurrences}
use Rattle.check_index.specs.Positions.{TermOccurrences}
use Rattle.check_index.specs.Indexed.{omitted_entry, given_entries}

-- ---- the occurrences in a document

abbrev places : List Occurrence → List ℕ
places os = map (λ (o : Occurrence). o.position) os

further : (m n : ℕ) (ks : List ℕ) → m ≤ n → Each (λ k. n ≤ k) ks → Each (λ k. m ≤ k) ks
further m n [] le h = tt
further m n (k ∷ ks) le h = let first : n ≤ k = h.0 in (omega (arith, le, first), further m n ks le h.1)

not-before : (payloads : Bool) (last : ℕ) (os : List Occurrence) → AreGoodOccurrences payloads last os → Each (λ n. last ≤ n) (places os)
not-before payloads last [] h = tt
not-before payloads last (o ∷ os) h = (h.0, further last o.position (places os) h.0 (not-before payloads o.position os h.5))

do-not-fall : (payloads : Bool) (last : ℕ) (os : List Occurrence) → AreGoodOccurrences payloads last os → EachPair (λ m n. m ≤ n) (places os)
do-not-fall payloads last [] h = tt
do-not-fall payloads last (o ∷ os) h = (not-before payloads o.position os h.5, do-not-fall payloads o.position os h.5)

are-small : (payloads : Bool) (last : ℕ) (os : List Occurrence) → AreGoodOccurrences payloads last os → Each (λ (o : Occurrence). IsSmall o.position × IsStorable (Binary o.payload)) os
are-small payloads last [] h = tt
are-small payloads last (o ∷ os) h = ((h.1, (h.3, h.2)), are-small payloads o.position os h.5)

are-empty : (payloads : Bool) (last : ℕ) (os : List Occurrence) → payloads ≡ false → AreGoodOccurrences payloads last os → Each (λ (o : Occurrence). o.payload ≡ []) os
are-empty payloads last [] e h = tt
are-empty payloads last (o ∷ os) e h = (h.4 e, are-empty payloads o.position os e h.5)

-- the occurrences of an entry, which are as many as its frequency
pub record Fits (bits : ℕ) (p : Posting) (os : List Occurrence) : Type 0 where
  pub document : AreGoodOccurrences (has_bit bit.payloads bits) 0 os
  pub count : length os ≡ p.freq
  pub some : 1 ≤ p.freq
  pub few : p.freq < 2 ^ 31

are-occurrences : (bits : ℕ) (p : Posting) (os : List Occurrence) → Fits bits p os → AreOccurrences bits os
are-occurrences bits p os h =
    let payloads = has_bit bit.payloads bits in
    record {
      some = omega (arith, h.count, h.some);
      few = omega (arith, h.count, h.few);
      rise = non_decreasing (places os) (do-not-fall payloads 0 os h.document);
      small = all-from_each (λ (o : Occurrence). IsSmall o.position × IsStorable (Binary o.payload)) os (are-small payloads 0 os h.document);
      payloads = λ none. all-from_each (λ (o : Occurrence). o.payload ≡ []) os (are-empty payloads 0 os none h.document);
    }

-- ---- the entries

-- each posting has its occurrences
abbrev pub AllFit : ℕ → List Posting → TermOccurrences → Type 0
AllFit bits [] os = Unit {0}
AllFit bits (p ∷ ps) [] = ⊥
AllFit bits (p ∷ ps) (o ∷ os) = Fits bits p o × AllFit bits ps os

pub all-fit : (bits : ℕ) (ps : List Posting) (os : TermOccurrences) → ((k : ℕ) → k < length ps → Fits bits (slice_index_or ps k no_posting) (slice_index_or os k [])) → AllFit bits ps os
all-fit bits [] os h = tt
all-fit bits (p ∷ ps) [] h = let first = h 0 (omega arith) in absurd (let none : 1 ≤ 0 = omega (arith, first.count, first.some) in omega (arith, none))
all-fit bits (p ∷ ps) (o ∷ os) h = (h 0 (omega arith), all-fit bits ps os (λ k lt. h (suc k) (omega (arith, lt))))

module _ (size bits : ℕ) where
  abbrev pub IsGoodEntry : IndexedEntry → Type 0
  IsGoodEntry entry = (entry.document < size) × IsKept bits entry.occurrences

  omitted-good : (ps : List Posting) → has_bit bit.omit_tf bits ≡ true → Each (λ (p : Posting). p.doc < size) ps → Each IsGoodEntry (map omitted_entry ps)
  omitted-good [] omit h = tt
  omitted-good (p ∷ ps) omit h = ((h.0, omit), omitted-good ps omit h.1)

  given-good : (ps : List Posting) (os : TermOccurrences) → has_bit bit.omit_tf bits ≡ false → Each (λ (p : Posting). p.doc < size) ps → AllFit bits ps os → Each IsGoodEntry (given_entries ps os)
  given-good [] os kept h fit = tt
  given-good (p ∷ ps) [] kept h fit = absurd fit
  given-good (p ∷ ps) (o ∷ os) kept h fit = ((h.0, (kept, are-occurrences bits p o fit.0)), given-good ps os kept h.1 fit.1)

-- ---- the documents rise

abbrev Below : Posting → Posting → Type 0
Below p q = p.doc < q.doc

abbrev documents : List IndexedEntry → List ℕ
documents entries = map (λ (entry : IndexedEntry). entry.document) entries

omitted-above : (p : Posting) (ps : List Posting) → Each (λ q. Below p q) ps → AllByRecursion (λ n. nat_cmp p.doc n ≡ Less) (documents (map omitted_entry ps))
omitted-above p [] h = tt
omitted-above p (q ∷ ps) h = (nat_less p.doc q.doc h.0, omitted-above p ps h.1)

omitted-rise : (ps : List Posting) → EachPair Below ps → IsStrictlySortedBy nat_cmp (documents (map omitted_entry ps))
unfolding IsStrictlySortedBy
omitted-rise [] h = tt
omitted-rise (p ∷ ps) h = (omitted-above p ps h.0, omitted-rise ps h.1)

given-above : (p : Posting) (ps : List Posting) (os : TermOccurrences) → Each (λ q. Below p q) ps → AllByRecursion (λ n. nat_cmp p.doc n ≡ Less) (documents (given_entries ps os))
given-above p [] os h = tt
given-above p (q ∷ ps) [] h = tt
given-above p (q ∷ ps) (o ∷ os) h = (nat_less p.doc q.doc h.0, given-above p ps os h.1)

given-rise : (ps : List Posting) (os : TermOccurrences) → EachPair Below ps → IsStrictlySortedBy nat_cmp (documents (given_entries ps os))
unfolding IsStrictlySortedBy
given-rise [] os h = tt
given-rise (p ∷ ps) [] h = tt
given-rise (p ∷ ps) (o ∷ os) h = (given-above p ps os h.0, given-rise ps os h.1)

-- ---- all of them

omitted-some : (ps : List Posting) → 0 < length ps → 0 < length (map omitted_entry ps)
omitted-some [] lt = absurd (omega (arith, lt))
omitted-some (p ∷ ps) lt = omega arith

given-some : (bits : ℕ) (ps : List Posting) (os : TermOccurrences) → 0 < length ps → AllFit bits ps os → 0 < length (given_entries ps os)
given-some bits [] os lt fit = absurd (omega (arith, lt))
given-some bits (p ∷ ps) [] lt fit = absurd fit
given-some bits (p ∷ ps) (o ∷ os) lt fit = omega arith

-- what is so of the entries of a term
pub record AreGoodEntries (size bits : ℕ) (entries : List IndexedEntry) : Type 0 where
  pub some : 0 < length entries
  pub rise : IsStrictlySortedBy nat_cmp (map (λ (entry : IndexedEntry). entry.document) entries)
  pub each : Each (IsGoodEntry size bits) entries

pub entries-good : (size bits : ℕ) (ps : List Posting) (os : TermOccurrences) → 0 < length ps → EachPair (λ p q. p.doc < q.doc) ps → Each (λ (p : Posting). p.doc < size) ps
    → (has_bit bit.omit_tf bits ≡ false → AllFit bits ps os) → AreGoodEntries size bits (cond (has_bit bit.omit_tf bits) (map omitted_entry ps) (given_entries ps os))
entries-good size bits ps os some rise below fit = go (has_bit bit.omit_tf bits) refl
  where
    go : (b : Bool) → has_bit bit.omit_tf bits ≡ b → AreGoodEntries size bits (cond b (map omitted_entry ps) (given_entries ps os))
    go true omit = record { some = omitted-some ps some; rise = omitted-rise ps rise; each = omitted-good size bits ps omit below }
    go false kept = record { some = given-some bits ps os some (fit kept); rise = given-rise ps os rise; each = given-good size bits ps os kept below (fit kept) }
