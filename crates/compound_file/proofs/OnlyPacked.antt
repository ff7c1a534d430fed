-- Bytes that are split into some parts are the one spelling of these parts.
use Rattle.std.proofs.Common.{◌≡◌, ℕ, zero, suc, ◌+◌, ◌-◌, ◌≤◌, List, [], ◌∷◌, ◌++◌, length, flat_map, sum_by, None, refl, sym, ap, subst, ◌∙◌, append_assoc, arith, ℤ, pos}
use Rattle.std.proofs.Math.IntN.{nat_abs}
use mathlib.Core.Bool.{true≢false}
use Rattle.std.proofs.lemmas.List.{append-nil, length-append}
use Rattle.lu_grammar.specs.Parts.{int64, num, text, spelling}
use Rattle.lu_grammar.specs.Records.{Spells, first_broken}
use Rattle.lu_grammar.specs.Plans.{done, and_then, times, each, gather}
use Rattle.lu_grammar.specs.Meaning.{Spelled, bytes_of, AreGood, due_after, Reads}
use Rattle.lu_grammar.proofs.Codecs.{all_unbroken, ends, value_of, split_records}
use Rattle.compound_file.specs.Entries.{NamedPart, PartEntry, entry_number_of, first_start, Rise, spans}
use Rattle.compound_file.specs.Cfs.{CfsRecord, entry, header_shape, entry_shape, content_shape, part_count_of, part_content_of, place_of, with_part_entry, after_entry, conditions_after, entry_conditions, entry_kind, part_plan, parts_plan, cfs_plan}
use Rattle.compound_file.specs.Directories.{IsGoodEntry, AreGoodEntries}
use Rattle.compound_file.specs.Packing.{entry_size, directory_size, entries_bytes, part_contents, cfs_bytes}
use Rattle.compound_file.proofs.DirectoryLemmas.{Rise-first, no_entries, one_entry}
use Rattle.compound_file.proofs.ReadLemmas.{placed, none_of, closed}
use Rattle.compound_file.proofs.PackLemmas.{length-entries_bytes}
use Rattle.compound_file.proofs.WrittenLemmas.{entries_of}

-- ---- entries

-- the bytes of an entry
abbrev pub entry_bytes : PartEntry → List ℕ
entry_bytes e = spelling int64 (pos e.start) ++ spelling text e.name

-- a record that is an entry, and good after those before it
record IsEntry (size count : ℕ) (before : List PartEntry) (place : ℕ) (r : CfsRecord) (front : List ℕ) : Type 0 where
  it : PartEntry
  is : r ≡ entry (pos it.start) it.name
  spelled : front ≡ entry_bytes it
  good : IsGoodEntry size count before it (place + length front)

module _ (size count : ℕ) where
  entry-is : (before : List PartEntry) (place : ℕ) (r : CfsRecord) (front : List ℕ) → Spells entry_shape r front → first_broken (entry_conditions size count before place r) ≡ None → IsEntry size count before place r front
  entry-is before place r front (z, back, value, is, (name, end, named, more, (made, none))) unbroken =
      let h : first_broken (conditions_after size count before (after_entry place z name) z name) ≡ None = subst (λ (q : CfsRecord). first_broken (entry_conditions size count before place q) ≡ None) (sym made) unbroken in
      let u = all_unbroken (conditions_after size count before (after_entry place z name) z name) h in
      let at = placed size before z u.0 in
      let bytes : front ≡ spelling int64 z ++ spelling text name = is ∙ ap (λ (b : List ℕ). spelling int64 z ++ b) (more ∙ ap (λ (b : List ℕ). spelling text name ++ b) none ∙ append-nil (spelling text name)) in
      let there : after_entry place z name ≡ place + length front = ap (λ (b : List ℕ). place + length b) (sym bytes) in
      record {
        it = record { name = name; start = nat_abs z };
        is = sym made ∙ ap (λ (x : ℤ). entry x name) at.0;
        spelled = bytes ∙ ap (λ (x : ℤ). spelling int64 x ++ spelling text name) at.0;
        good = record {
          rises = at.1;
          within = at.2;
          new = none_of (entry_number_of name before) u.1.0;
          closed = λ last. ap (λ (x : ℤ). first_start (place_of x) before) (sym at.0) ∙ closed count before z (after_entry place z name) u.1.1.0 last ∙ there;
        };
      }

  -- the entries after those before, and their bytes
  record MoreEntries (n : ℕ) (before entries : List PartEntry) (place : ℕ) (bytes : List ℕ) : Type 0 where
    more : List PartEntry
    all : entries ≡ before ++ more
    number : length more ≡ n
    spelled : bytes ≡ flat_map entry_bytes more
    good : AreGoodEntries size count entries (place + length bytes)

  entries-only : (n : ℕ) (before : List PartEntry) (place : ℕ) (ss : List (Spelled CfsRecord)) (entries : List PartEntry) → AreGoodEntries size count before place → AreGood (times (entry_kind size count) n before) place ss
      → due_after (times (entry_kind size count) n before) place ss ≡ done entries → MoreEntries n before entries place (bytes_of ss)
  unfolding each
  entries-only zero before place [] entries are good none =
      let same : before ≡ entries = ap (value_of []) none in
      let here : place ≡ place + 0 = omega arith in
      record { more = []; all = sym same ∙ sym (append-nil before); number = refl; spelled = refl; good = subst (λ (p : ℕ). AreGoodEntries size count entries p) here (subst (λ (es : List PartEntry). AreGoodEntries size count es place) same are) }
  entries-only zero before place (s ∷ ss) entries are good none = absurd good
  entries-only (suc n) before place [] entries are good none = absurd (true≢false (sym (ap ends none)))
  entries-only (suc n) before place (s ∷ ss) entries are good none =
      let e = entry-is before place s.it s.front good.0.0 good.0.1 in
      let next = times (entry_kind size count) n in
      let there = place + length s.front in
      let made : with_part_entry before s.it ≡ before ++ e.it ∷ [] = ap (with_part_entry before) e.is in
      let rest = entries-only n (before ++ e.it ∷ []) there ss entries (one_entry size count before e.it place there are e.good) (subst (λ (es : List PartEntry). AreGood (next es) there ss) made good.1) (subst (λ (es : List PartEntry). due_after (next es) there ss ≡ done entries) made none) in
      let long : there + length (bytes_of ss) ≡ place + length (s.front ++ bytes_of ss) = omega (arith, length-append s.front (bytes_of ss)) in
      record {
        more = e.it ∷ rest.more;
        all = rest.all ∙ append_assoc before (e.it ∷ []) rest.more;
        number = ap suc rest.number;
        spelled = ap (λ (t : List ℕ). t ++ bytes_of ss) e.spelled ∙ ap (λ (t : List ℕ). entry_bytes e.it ++ t) rest.spelled;
        good = subst (λ (p : ℕ). AreGoodEntries size count entries p) long rest.good;
      }

-- ---- parts

module _ (size : ℕ) where
  -- the parts after those in front, whose entries are those of parts that stand one after another
  record MoreParts (front : List NamedPart) (entries : List PartEntry) (parts : List NamedPart) (bytes : List ℕ) : Type 0 where
    more : List NamedPart
    all : parts ≡ front ++ more
    spelled : bytes ≡ part_contents more
    are : entries ≡ entries_of (first_start size entries) more

  parts-only : (front : List NamedPart) (entries : List PartEntry) (from place : ℕ) (ss : List (Spelled CfsRecord)) (parts : List NamedPart) → Rise from size entries → AreGood (gather part_plan front (spans size entries)) place ss
      → due_after (gather part_plan front (spans size entries)) place ss ≡ done parts → MoreParts front entries parts (bytes_of ss)
  parts-only front [] from place [] parts rise good none = record { more = []; all = ap (value_of front) (sym none) ∙ sym (append-nil front); spelled = refl; are = refl }
  parts-only front [] from place (s ∷ ss) parts rise good none = absurd good
  parts-only front (e ∷ es) from place [] parts rise good none = absurd (true≢false (sym (ap ends none)))
  parts-only front (e ∷ es) from place (s ∷ ss) parts rise good none =
      let next = first_start size es in
      let one = content-is (next - e.start) s.it s.front good.0.0 in
      let p : NamedPart = record { name = e.name; bytes = part_content_of s.it } in
      let rest = parts-only (front ++ p ∷ []) es e.start (place + length s.front) ss parts rise.1 good.1 none in
      let first : e.start ≤ next = (Rise-first e.start size es rise.1).0 in
      let after : next ≡ e.start + length (part_content_of s.it) = omega (arith, one.1) in
      record {
        more = p ∷ rest.more;
        all = rest.all ∙ append_assoc front (p ∷ []) rest.more;
        spelled = ap (λ (t : List ℕ). t ++ bytes_of ss) one.0 ∙ ap (λ (t : List ℕ). part_content_of s.it ++ t) rest.spelled;
        are = ap (λ (rest_of : List PartEntry). e ∷ rest_of) (rest.are ∙ ap (λ (n : ℕ). entries_of n rest.more) after);
      }
    where
      content-is : (n : ℕ) (r : CfsRecord) (bytes : List ℕ) → Spells (content_shape n) r bytes → (bytes ≡ part_content_of r) × (length (part_content_of r) ≡ n)
      content-is n r bytes (b, back, value, is, (made, end)) =
          subst (λ (q : CfsRecord). (bytes ≡ part_content_of q) × (length (part_content_of q) ≡ n)) made (is ∙ ap (λ (t : List ℕ). b ++ t) end ∙ append-nil b, value.0)

-- ---- the whole file

entries_bytes-is : (start : ℕ) (parts : List NamedPart) → entries_bytes start parts ≡ flat_map entry_bytes (entries_of start parts)
entries_bytes-is start [] = refl
entries_bytes-is start (p ∷ ps) = ap (λ (t : List ℕ). (spelling int64 (pos start) ++ spelling text p.name) ++ t) (entries_bytes-is (start + length p.bytes) ps)

length-entries_of : (start : ℕ) (parts : List NamedPart) → length (entries_of start parts) ≡ length parts
length-entries_of start [] = refl
length-entries_of start (p ∷ ps) = ap suc (length-entries_of (start + length p.bytes) ps)

-- the directory of the parts is that of their one spelling
directory-is : (size count there : ℕ) (entries : List PartEntry) (bytes : List ℕ) (parts : List NamedPart) → there ≡ length (spelling num count) → length entries ≡ count → bytes ≡ flat_map entry_bytes entries → AreGoodEntries size count entries (there + length bytes)
    → entries ≡ entries_of (first_start size entries) parts → bytes ≡ entries_bytes (directory_size parts) parts
directory-is size count there entries bytes [] at number spelled good are = spelled ∙ ap (flat_map entry_bytes) are
directory-is size count there entries bytes (p ∷ ps) at number spelled good are =
    let start = first_start size entries in
    let many : length entries ≡ length (p ∷ ps) = ap length are ∙ length-entries_of start (p ∷ ps) in
    let whole : bytes ≡ entries_bytes start (p ∷ ps) = spelled ∙ ap (flat_map entry_bytes) are ∙ sym (entries_bytes-is start (p ∷ ps)) in
    let long : length bytes ≡ sum_by entry_size (p ∷ ps) = ap length whole ∙ length-entries_bytes start (p ∷ ps) in
    let counted : length (p ∷ ps) ≡ count = sym many ∙ number in
    let head : length (spelling num count) ≡ length (spelling num (length (p ∷ ps))) = ap (λ (n : ℕ). length (spelling num n)) (sym counted) in
    let from : first_start 0 entries ≡ there + length bytes = good.closed (omega arith) number in
    let other : start ≡ first_start 0 entries = ap (first_start size) are ∙ sym (ap (first_start 0) are) in
    let is : start ≡ directory_size (p ∷ ps) = omega (arith, from, other, at, head, long) in
    whole ∙ ap (λ (n : ℕ). entries_bytes n (p ∷ ps)) is

-- a header, and what follows it
behind-header : (size : ℕ) (r : CfsRecord) (front : List ℕ) (ss : List (Spelled CfsRecord)) (parts : List NamedPart) → Spells header_shape r front
    → AreGood (and_then (times (entry_kind size (part_count_of r)) (part_count_of r) []) (parts_plan size)) (0 + length front) ss
    → due_after (and_then (times (entry_kind size (part_count_of r)) (part_count_of r) []) (parts_plan size)) (0 + length front) ss ≡ done parts → front ++ bytes_of ss ≡ cfs_bytes parts
behind-header size r front ss parts (n, back, value, is, (made, end)) good none =
    let there = 0 + length front in
    let plan = λ (q : CfsRecord). and_then (times (entry_kind size (part_count_of q)) (part_count_of q) []) (parts_plan size) in
    let head : front ≡ spelling num n = is ∙ ap (λ (t : List ℕ). spelling num n ++ t) end ∙ append-nil (spelling num n) in
    let split = split_records (times (entry_kind size n) n []) (parts_plan size) there ss parts (subst (λ (q : CfsRecord). AreGood (plan q) there ss) (sym made) good) (subst (λ (q : CfsRecord). due_after (plan q) there ss ≡ done parts) (sym made) none) in
    let es = entries-only size n n [] there split.first split.value (no_entries size n there) split.good split.none in
    let number : length split.value ≡ n = ap length es.all ∙ es.number in
    let ps = parts-only size [] split.value 0 (there + length (bytes_of split.first)) split.second parts es.good.rise split.others_good split.others_none in
    let are : split.value ≡ entries_of (first_start size split.value) parts = ps.are ∙ ap (entries_of (first_start size split.value)) (sym ps.all) in
    let at : there ≡ length (spelling num n) = ap (λ (t : List ℕ). 0 + length t) head ∙ (let e : 0 + length (spelling num n) ≡ length (spelling num n) = omega arith in e) in
    let directory : bytes_of split.first ≡ entries_bytes (directory_size parts) parts = directory-is size n there split.value (bytes_of split.first) parts at number (es.spelled ∙ ap (flat_map entry_bytes) (sym es.all)) es.good are in
    let many : n ≡ length parts = sym number ∙ ap length are ∙ length-entries_of (first_start size split.value) parts in
    ap (λ (t : List ℕ). t ++ bytes_of ss) (head ∙ ap (spelling num) many)
    ∙ ap (λ (t : List ℕ). spelling num (length parts) ++ t) (split.all ∙ ap (λ (t : List ℕ). t ++ bytes_of split.second) directory ∙ ap (λ (t : List ℕ). entries_bytes (directory_size parts) parts ++ t) (ps.spelled ∙ ap part_contents (sym ps.all)))
    ∙ sym (append_assoc (spelling num (length parts)) (entries_bytes (directory_size parts) parts) (part_contents parts))

pub cfs-only : (bytes : List ℕ) (parts : List NamedPart) → Reads (cfs_plan (length bytes)) bytes parts → bytes ≡ cfs_bytes parts
cfs-only bytes parts h = h.front ∙ append-nil (bytes_of h.records) ∙ go (length bytes) h.records h.good h.none_due
  where
    go : (size : ℕ) (ss : List (Spelled CfsRecord)) → AreGood (cfs_plan size) 0 ss → due_after (cfs_plan size) 0 ss ≡ done parts → bytes_of ss ≡ cfs_bytes parts
    go size [] good none = absurd (true≢false (sym (ap ends none)))
    go size (s ∷ ss) good none = behind-header size s.it s.front ss parts good.0.0 good.1 none
