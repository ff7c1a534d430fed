-- The parts that are left to be packed, and how many bytes they take.
use Rattle.std.proofs.Common.{◌≡◌, ℕ, suc, ◌+◌, ◌<◌, true, ltb, List, [], ◌∷◌, ◌++◌, length, map, drop, get_or, sum_by, refl, sym, ap, ◌∙◌, append_assoc, arith, pos}
use Rattle.std.proofs.lemmas.Bool.{lt-ltb}
use Rattle.std.proofs.lemmas.List.{length-map, length-append}
use Rattle.std.proofs.lemmas.List.{get_or-map}
use Rattle.std.proofs.lemmas.List.Sums.{sum_by-cons}
use Rattle.std.proofs.lemmas.List.Concat.{length-flat_map}
use Rattle.std.proofs.Math.Seq.{drop-cons}
use Rattle.lu_grammar.specs.Parts.{groups, spelling, int64, num, text}
use Rattle.compound_file.specs.declared.packing.Packed.{Packed}
use Rattle.compound_file.specs.Entries.{NamedPart}
use Rattle.compound_file.specs.Packing.{entry_size, directory_size, entries_bytes, part_contents, contents_size, cfs_bytes}
use Rattle.compound_file.specs.Packs.{part_of}

-- a number below 128 is its own spelling
pub groups-one : (n : ℕ) → n < 128 → groups 4 n ≡ n ∷ []
unfolding groups
groups-one n small = let t : ltb n 128 ≡ true = lt-ltb n 128 small in rw t refl

-- the entry of a part with a short name
pub entry_size-short : (part : NamedPart) → length part.name < 128 → entry_size part ≡ 9 + length part.name
entry_size-short part short =
    let one : length (spelling text part.name) ≡ 1 + length part.name = length-append (groups 4 (length part.name)) part.name ∙ ap (λ (n : List ℕ). length n + length part.name) (groups-one (length part.name) short) in
    omega (arith, one)

pub directory_size-few : (parts : List NamedPart) → length parts < 128 → directory_size parts ≡ 1 + sum_by entry_size parts
directory_size-few parts few = ap (λ (n : List ℕ). length n + sum_by entry_size parts) (groups-one (length parts) few)

module _ (parts : List Packed) (i : ℕ) (item : Packed) (within : i < length parts) (is : item ≡ get_or parts i item) where
  -- the part that is next
  pub drop-next : drop i (map part_of parts) ≡ part_of item ∷ drop (i + 1) (map part_of parts)
  drop-next =
      drop-cons (map part_of parts) i (part_of item) (omega (arith, length-map parts part_of))
      ∙ ap (λ (p : NamedPart). p ∷ drop (suc i) (map part_of parts)) (get_or-map part_of parts i item (part_of item) within ∙ ap part_of (sym is))
      ∙ ap (λ n. part_of item ∷ drop n (map part_of parts)) (let e : suc i ≡ i + 1 = omega arith in e)

  pub entries_left : sum_by entry_size (drop i (map part_of parts)) ≡ entry_size (part_of item) + sum_by entry_size (drop (i + 1) (map part_of parts))
  entries_left = ap (sum_by entry_size) drop-next ∙ sum_by-cons entry_size (part_of item) (drop (i + 1) (map part_of parts))

  pub contents_size-left : contents_size (drop i (map part_of parts)) ≡ length item.bytes.now + contents_size (drop (i + 1) (map part_of parts))
  contents_size-left = ap contents_size drop-next ∙ sum_by-cons (λ p. length p.bytes) (part_of item) (drop (i + 1) (map part_of parts))

  pub part_contents-left : (front : List ℕ) → (front ++ item.bytes.now) ++ part_contents (drop (i + 1) (map part_of parts)) ≡ front ++ part_contents (drop i (map part_of parts))
  part_contents-left front =
      append_assoc front item.bytes.now (part_contents (drop (i + 1) (map part_of parts))) ∙ ap (λ (ps : List NamedPart). front ++ part_contents ps) (sym drop-next)

  pub entries_bytes-left : (front : List ℕ) (start : ℕ)
      → ((front ++ spelling int64 (pos start)) ++ spelling text item.name) ++ entries_bytes (start + length item.bytes.now) (drop (i + 1) (map part_of parts)) ≡ front ++ entries_bytes start (drop i (map part_of parts))
  entries_bytes-left front start =
      let rest = entries_bytes (start + length item.bytes.now) (drop (i + 1) (map part_of parts)) in
      ap (λ (t : List ℕ). t ++ rest) (append_assoc front (spelling int64 (pos start)) (spelling text item.name)) ∙ append_assoc front (spelling int64 (pos start) ++ spelling text item.name) rest
      ∙ ap (λ (ps : List NamedPart). front ++ entries_bytes start ps) (sym drop-next)

-- ---- the whole

pub length-entry : (start : ℕ) (part : NamedPart) → length (spelling int64 (pos start) ++ spelling text part.name) ≡ entry_size part
length-entry start part = length-append (spelling int64 (pos start)) (spelling text part.name)

pub length-entries_bytes : (start : ℕ) (parts : List NamedPart) → length (entries_bytes start parts) ≡ sum_by entry_size parts
length-entries_bytes start [] = refl
length-entries_bytes start (p ∷ ps) =
    let tail = entries_bytes (start + length p.bytes) ps in
    omega (arith, length-append (spelling int64 (pos start) ++ spelling text p.name) tail, length-entry start p, length-entries_bytes (start + length p.bytes) ps, sum_by-cons entry_size p ps)

pub length-cfs_bytes : (parts : List NamedPart) → length (cfs_bytes parts) ≡ directory_size parts + contents_size parts
length-cfs_bytes parts =
    let header = spelling num (length parts) in
    let entries = entries_bytes (directory_size parts) parts in
    omega (arith, length-append (header ++ entries) (part_contents parts), length-append header entries, length-entries_bytes (directory_size parts) parts, length-flat_map (λ (p : NamedPart). p.bytes) parts)
