-- Packed parts are read as these parts.
use Rattle.std.proofs.Common.{◌≡◌, ◌≢◌, ℕ, suc, ◌+◌, ◌-◌, ◌<◌, ◌≤◌, ◌^◌, true, false, eqb, List, [], ◌∷◌, ◌++◌, length, map, get_or, sum_by, All, None, Ok, refl, sym, ap, subst, ◌∙◌, append_assoc, arith, ◌⊎◌, inl, inr, pos}
use Rattle.std.specs.Prelude.{AllPairs, int_lt}
use Rattle.std.specs.List.{position_or_len}
use Rattle.std.specs.Str.{bytes_eq}
use Rattle.std.specs.Cmp.Lexicographic.{bytes_decides}
use Rattle.std.proofs.lemmas.Bool.{cases_lt, cases_eq, eq-eqb, ne_eqb, le-ltb, or_from}
use Rattle.std.proofs.lemmas.Grind.{common_steps}
use Rattle.std.proofs.lemmas.List.{append-nil, map-append, length-append, length-map, length_push, get_or-map, nil_from_length}
use Rattle.std.proofs.lemmas.List.Sums.{passes_at_first, sum_by-cons}
use Rattle.std.proofs.Math.ListN.{get_or-append}
use Rattle.std.proofs.Math.Seq.{get_or-append_seam}
use Rattle.lu_grammar.specs.Bytes.{IsBytes}
use Rattle.lu_grammar.specs.Parts.{int64, num, text, IsValue, spelling}
use Rattle.lu_grammar.specs.Records.{Spells, first_broken}
use Rattle.lu_grammar.specs.Plans.{one, and_then, times, each, gather, read_file}
use Rattle.lu_grammar.specs.Meaning.{Reads}
use Rattle.lu_grammar.proofs.Codecs.{Writes, read_file-Writes, Writes-due, Writes-done, Writes-and_then, Writes-none, Reads-from, IsBytes-nil, IsBytes-append, IsBytes-flat_map, IsBytes-spelling}
use Rattle.compound_file.specs.Entries.{NamedPart, AreParts, PartEntry, entry_number_of, first_start, last_start, spans}
use Rattle.compound_file.specs.Cfs.{header, entry, content, header_shape, entry_shape, content_shape, part_count_of, part_content_of, with_part_entry, after_entry, is_misplaced, is_apart, entry_conditions, entry_kind, part_plan, parts_plan, cfs_plan}
use Rattle.compound_file.specs.Packing.{entry_size, directory_size, entries_bytes, part_contents, contents_size, cfs_bytes}
use Rattle.compound_file.proofs.PackLemmas.{length-entry, length-cfs_bytes}
use Rattle.compound_file.proofs.DirectoryLemmas.{first_start-push}

-- ---- names

no_entry : PartEntry
no_entry = record { name = []; start = 0 }

-- a name that no entry has, has no number
entry_number_of-none : (name : List ℕ) (entries : List PartEntry) (d : PartEntry) → ((k : ℕ) → k < length entries → (get_or entries k d).name ≢ name) → entry_number_of name entries ≡ None
entry_number_of-none name entries d apart =
    let p = λ (e : PartEntry). bytes_eq name e.name in
    elim (cases_lt (position_or_len p entries) (length entries)) [
      | inl lt ↦ absurd (apart (position_or_len p entries) lt (sym ((bytes_decides name _).0 (passes_at_first p entries d lt))))
      | inr past ↦ grind (arith, common_steps)
    ]

abbrev names_of : List PartEntry → List (List ℕ)
names_of entries = map (λ e. e.name) entries

abbrev part_names : List NamedPart → List (List ℕ)
part_names parts = map (λ part. part.name) parts

-- a name that differs from those before it is new
new-name : (before : List PartEntry) (name : List ℕ) (later : List (List ℕ)) → AllPairs (λ a b. a ≢ b) (names_of before ++ name ∷ later) → entry_number_of name before ≡ None
new-name before name later apart =
    let many : length (names_of before) ≡ length before = length-map before (λ (e : PartEntry). e.name) in
    entry_number_of-none name before no_entry (λ k lt same.
    let within : k < length (names_of before) = omega (arith, many) in
    let at : get_or (names_of before ++ name ∷ later) k [] ≡ name = get_or-append (names_of before) (name ∷ later) [] k within ∙ get_or-map (λ (e : PartEntry). e.name) before k no_entry [] lt ∙ same in
    apart k (length (names_of before)) [] within (omega (arith, length-append (names_of before) (name ∷ later))) (at ∙ sym (get_or-append_seam (names_of before) name later [])))

-- ---- entries

last_start-push : (other : ℕ) (entries : List PartEntry) (e : PartEntry) → last_start other (entries ++ e ∷ []) ≡ e.start
last_start-push other [] e = refl
last_start-push other (x ∷ xs) e = last_start-push x.start xs e

-- the entries of parts whose bytes stand one after another, from a place on
abbrev pub entries_of : ℕ → List NamedPart → List PartEntry
entries_of start [] = []
entries_of start (part ∷ parts) = record { name = part.name; start = start } ∷ entries_of (start + length part.bytes) parts

entry-spells : (start : ℕ) (name : List ℕ) → start < 2 ^ 63 → IsValue text name → Spells entry_shape (entry (pos start) name) (spelling int64 (pos start) ++ spelling text name)
entry-spells start name small named = (pos start, spelling text name, omega arith, refl, (name, [], named, sym (append-nil (spelling text name)), (refl, refl)))

module _ (size count : ℕ) (small : size < 2 ^ 63) where
  -- an entry in its place is good
  entry-fits : (before : List PartEntry) (start : ℕ) (name : List ℕ) (place : ℕ) → last_start 0 before ≤ start → start ≤ size → entry_number_of name before ≡ None
      → (length before + 1 ≡ count → first_start start before ≡ after_entry place (pos start) name) → first_broken (entry_conditions size count before place (entry (pos start) name)) ≡ None
  entry-fits before start name place above within new closed =
      let placed : is_misplaced size before (pos start) ≡ false = or_from (int_lt (pos start) (pos (last_start 0 before))) (int_lt (pos size) (pos start)) (le-ltb start (last_start 0 before) above) (le-ltb size start within) in
      let together : is_apart count before (pos start) (after_entry place (pos start) name) ≡ false = at_end (cases_eq (length before + 1) count) in
      rw (placed, new, together) refl
    where
      at_end : (length before + 1 ≡ count) ⊎ (length before + 1 ≢ count) → is_apart count before (pos start) (after_entry place (pos start) name) ≡ false
      at_end (inl last) =
          let l : eqb (length before + 1) count ≡ true = eq-eqb _ _ last in
          let f : eqb (first_start start before) (after_entry place (pos start) name) ≡ true = eq-eqb _ _ (closed last) in
          rw (l, f) refl
      at_end (inr more) = let l : eqb (length before + 1) count ≡ false = ne_eqb _ _ more in rw l refl

  -- the entries that are left are written behind those before
  entries-written : (before : List PartEntry) (left : List NamedPart) (start place : ℕ) → length before + length left ≡ count → last_start 0 before ≤ start → start + contents_size left ≡ size
      → All (λ part. IsValue text part.name) left → AllPairs (λ a b. a ≢ b) (names_of before ++ part_names left) → (0 < length left → first_start start before ≡ place + sum_by entry_size left)
      → Writes (times (entry_kind size count) (length left) before) place (entries_bytes start left) (before ++ entries_of start left)
  unfolding each
  entries-written before [] start place number above room named apart closed =
      subst (λ (es : List PartEntry). Writes (times (entry_kind size count) 0 before) place [] es) (sym (append-nil before)) (Writes-none (one (entry_kind size count)) place before)
  entries-written before (p ∷ ps) start place number above room named apart closed =
      let e : PartEntry = record { name = p.name; start = start } in
      let front = spelling int64 (pos start) ++ spelling text p.name in
      let next = start + length p.bytes in
      let sizes : contents_size (p ∷ ps) ≡ length p.bytes + contents_size ps = sum_by-cons (λ q. length q.bytes) p ps in
      let entries : sum_by entry_size (p ∷ ps) ≡ entry_size p + sum_by entry_size ps = sum_by-cons entry_size p ps in
      let long : length front ≡ entry_size p = length-entry start p in
      let first : first_start start before ≡ place + sum_by entry_size (p ∷ ps) = closed (omega arith) in
      let ends : length before + 1 ≡ count → first_start start before ≡ place + length front = λ last. (let none : ps ≡ [] = nil_from_length ps (omega (arith, number, last)) in let nothing : sum_by entry_size ps ≡ 0 = ap (sum_by entry_size) none in omega (arith, first, entries, long, nothing)) in
      let names : names_of before ++ part_names (p ∷ ps) ≡ names_of (before ++ e ∷ []) ++ part_names ps =
      sym (ap (λ (ns : List (List ℕ)). ns ++ part_names ps) (map-append (λ (x : PartEntry). x.name) before (e ∷ [])) ∙ append_assoc (names_of before) (p.name ∷ []) (part_names ps)) in
      let later : Writes (times (entry_kind size count) (length ps) (before ++ e ∷ [])) (place + length front) (entries_bytes next ps) ((before ++ e ∷ []) ++ entries_of next ps) =
      entries-written (before ++ e ∷ []) ps next (place + length front)
      (omega (arith, number, length_push before e)) (omega (arith, last_start-push 0 before e)) (omega (arith, room, sizes)) (λ k d within. named (suc k) d (omega arith))
      (subst (λ (ns : List (List ℕ)). AllPairs (λ a b. a ≢ b) ns) names apart)
      (λ some. first_start-push next before e ∙ first ∙ (let s : place + sum_by entry_size (p ∷ ps) ≡ place + length front + sum_by entry_size ps = omega (arith, entries, long) in s)) in
      Writes-due entry_shape (entry_conditions size count before) (λ _ r. times (entry_kind size count) (length ps) (with_part_entry before r)) place (entry (pos start) p.name) front (entries_bytes next ps)
      (before ++ entries_of start (p ∷ ps)) (entry-spells start p.name (omega (arith, room, sizes)) (named 0 p (omega arith)))
      (entry-fits before start p.name place above (omega (arith, room, sizes)) (new-name before p.name (part_names ps) apart) ends)
      (subst (λ (es : List PartEntry). Writes (times (entry_kind size count) (length ps) (before ++ e ∷ [])) (place + length front) (entries_bytes next ps) es) (append_assoc before (e ∷ []) (entries_of next ps)) later)

  -- ---- the bytes of the parts

  parts-written : (front : List NamedPart) (left : List NamedPart) (start place : ℕ) → start + contents_size left ≡ size → All (λ part. IsBytes part.bytes) left
      → Writes (gather part_plan front (spans size (entries_of start left))) place (part_contents left) (front ++ left)
  parts-written front [] start place room fits = subst (λ (ps : List NamedPart). Writes (gather part_plan front []) place [] ps) (sym (append-nil front)) (Writes-done place front)
  parts-written front (p ∷ ps) start place room fits =
      let next = start + length p.bytes in
      let sizes : contents_size (p ∷ ps) ≡ length p.bytes + contents_size ps = sum_by-cons (λ q. length q.bytes) p ps in
      let end = first_start size (entries_of next ps) in
      let ends : end ≡ next = end-is ps next (omega (arith, room, sizes)) in
      let rest = spans size (entries_of next ps) in
      let later : Writes (gather part_plan (front ++ p ∷ []) rest) (place + length p.bytes) (part_contents ps) ((front ++ p ∷ []) ++ ps) =
      parts-written (front ++ p ∷ []) ps next (place + length p.bytes) (omega (arith, room, sizes)) (λ k d within. fits (suc k) d (omega arith)) in
      Writes-due (content_shape (end - start)) (λ _ _. []) (λ _ r. gather part_plan (front ++ record { name = p.name; bytes = part_content_of r } ∷ []) rest) place (content p.bytes) p.bytes (part_contents ps) (front ++ p ∷ ps)
      (p.bytes, [], (omega (arith, ends), fits 0 p (omega arith)), sym (append-nil p.bytes), (refl, refl)) refl
      (subst (λ (qs : List NamedPart). Writes (gather part_plan (front ++ p ∷ []) rest) (place + length p.bytes) (part_contents ps) qs) (append_assoc front (p ∷ []) ps) later)
    where
      end-is : (qs : List NamedPart) (next : ℕ) → next + contents_size qs ≡ size → first_start size (entries_of next qs) ≡ next
      end-is [] next all = omega (arith, all)
      end-is (q ∷ qs) next all = refl

-- ---- the whole file

-- entries are bytes
entries-fit : (start : ℕ) (parts : List NamedPart) → start + contents_size parts < 2 ^ 63 → All (λ part. IsValue text part.name) parts → IsBytes (entries_bytes start parts)
entries-fit start [] room named = IsBytes-nil
entries-fit start (p ∷ ps) room named =
    let sizes : contents_size (p ∷ ps) ≡ length p.bytes + contents_size ps = sum_by-cons (λ q. length q.bytes) p ps in
    let small : start < 2 ^ 63 = omega (arith, room, sizes) in
    IsBytes-append (spelling int64 (pos start) ++ spelling text p.name) (entries_bytes (start + length p.bytes) ps)
    (IsBytes-append (spelling int64 (pos start)) (spelling text p.name) (IsBytes-spelling int64 (pos start) (omega arith)) (IsBytes-spelling text p.name (named 0 p (omega arith))))
    (entries-fit (start + length p.bytes) ps (omega (arith, room, sizes)) (λ k d within. named (suc k) d (omega arith)))

module _ (parts : List NamedPart) (are : AreParts parts) (small : length (cfs_bytes parts) < 2 ^ 63) where
  written : read_file (cfs_plan (length (cfs_bytes parts))) (cfs_bytes parts) ≡ Ok parts
  written =
      let size = length (cfs_bytes parts) in
      let count = length parts in
      let front = spelling num count in
      let start = directory_size parts in
      let whole : start + contents_size parts ≡ size = sym (length-cfs_bytes parts) in
      let entries : Writes (times (entry_kind size count) count []) (0 + length front) (entries_bytes start parts) (entries_of start parts) =
      entries-written size count small [] parts start (0 + length front) (omega arith) (omega arith) whole are.named are.apart (λ some. omega arith) in
      let all : Writes (parts_plan size (entries_of start parts)) (0 + length front + length (entries_bytes start parts)) (part_contents parts) parts =
      parts-written size count small [] parts start (0 + length front + length (entries_bytes start parts)) whole are.bytes in
      ap (λ (t : List ℕ). read_file (cfs_plan size) t) (append_assoc front (entries_bytes start parts) (part_contents parts))
      ∙ read_file-Writes (cfs_plan size) (front ++ (entries_bytes start parts ++ part_contents parts)) parts
      (Writes-due header_shape (λ _ _. []) (λ _ r. and_then (times (entry_kind size (part_count_of r)) (part_count_of r) []) (parts_plan size)) 0 (header count) front (entries_bytes start parts ++ part_contents parts) parts
      (count, [], are.few, sym (append-nil front), (refl, refl)) refl
      (Writes-and_then (times (entry_kind size count) count []) (parts_plan size) (0 + length front) (entries_bytes start parts) (part_contents parts) (entries_of start parts) parts entries all))

  fit : IsBytes (cfs_bytes parts)
  fit =
      IsBytes-append (spelling num (length parts) ++ entries_bytes (directory_size parts) parts) (part_contents parts)
      (IsBytes-append (spelling num (length parts)) (entries_bytes (directory_size parts) parts) (IsBytes-spelling num (length parts) are.few) (entries-fit (directory_size parts) parts (omega (arith, length-cfs_bytes parts)) are.named))
      (IsBytes-flat_map (λ (p : NamedPart). p.bytes) parts are.bytes)

  pub cfs-reads : Reads (cfs_plan (length (cfs_bytes parts))) (cfs_bytes parts) parts
  cfs-reads = Reads-from (cfs_plan (length (cfs_bytes parts))) (cfs_bytes parts) parts fit written
