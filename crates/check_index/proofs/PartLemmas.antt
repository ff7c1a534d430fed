-- No part of a compound file is longer than the file.
use Rattle.std.proofs.Common.{◌≡◌, ℕ, ◌-◌, ◌<◌, ◌≤◌, Bool, true, false, cond, nat_lt, List, [], ◌∷◌, ◌++◌, length, take, Option, Some, Result, Ok, Err, sym, ap, subst, ◌∙◌, arith}
use Rattle.std.specs.Prelude.{◌^◌, All, option_map, if◌then◌else◌}
use Rattle.std.specs.List.{find}
use Rattle.std.specs.Option.{ForSome}
use Rattle.std.specs.Str.{bytes_eq}
use Rattle.std.proofs.lemmas.List.{length-append, length-drop, length-take}
use Rattle.std.proofs.lemmas.List.Elements.{All-append, All-cons, All-nil, All-head, All-tail}
use Rattle.lu_grammar.specs.declared.bad.Bad.{Bad}
use Rattle.lu_grammar.specs.declared.bad.Bad.TheVariants.{Ends}
use Rattle.lu_grammar.specs.Bytes.{IsBytes, Cursor, start_of, end_of, moved}
use Rattle.lu_grammar.specs.Parts.{bytes as so_many}
use Rattle.lu_grammar.specs.Reading.{◌>>=◌, read, read_part}
use Rattle.lu_grammar.specs.Plans.{Plan, due, and_then, times, gather, read_plan}
use Rattle.lu_grammar.specs.Meaning.{Reads, bytes_of}
use Rattle.lu_grammar.proofs.Parts.{IsBytes-take, IsBytes-drop}
use Rattle.lu_grammar.proofs.Places.{IsBytes-after}
use Rattle.lu_grammar.proofs.Records.{ok_pair, same_pair}
use Rattle.lu_grammar.proofs.Codecs.{ok_of, record_at-was, alone_was, due_was, read_due, then_ok, read_plan-and_then, read_plan-ReadsTo, reads-read_plan}
use Rattle.compound_file.specs.Entries.{NamedPart, PartEntry, PartSpan, part_named, spans}
use Rattle.compound_file.specs.Cfs.{CfsRecord, content, header_shape, content_shape, part_count_of, part_content_of, entry_kind, part_plan, parts_plan, cfs_plan}
use Rattle.check_index.specs.Files.{IsShort}

one_bytes : (a b : List ℕ) → ◌≡◌ {A = Option (List ℕ)} (Some a) (Some b) → a ≡ b
one_bytes a b e = cc

-- the part has no more bytes, and they are bytes
abbrev pub IsWithin : ℕ → NamedPart → Type 0
IsWithin most part = (length part.bytes ≤ most) × IsBytes part.bytes

-- the first so many bytes, and how many they are
abbrev front_of : ℕ → List ℕ → Result (List ℕ × ℕ) Bad
front_of n bytes = Ok (take n bytes, n)

-- what was read, with the cursor behind it
abbrev behind : Cursor → Result (List ℕ × ℕ) Bad → Result (List ℕ × Cursor) Bad
behind c r = r >>= λ x. Ok (x.0, moved x.1 c)

-- so many bytes that were read are no more than there were, and no more are left
so_many-was : (n : ℕ) (c d : Cursor) (front : List ℕ) → IsBytes c.rest → read_part (so_many n) c ≡ ok_pair front d → (length front ≤ length c.rest) × IsBytes front × (length d.rest ≤ length c.rest) × IsBytes d.rest
unfolding read
so_many-was n c d front fits e = go (nat_lt (length c.rest) n) e
  where
    go : (b : Bool) → behind c (if b then Err Ends else front_of n c.rest) ≡ ok_pair {E = Bad} front d → (length front ≤ length c.rest) × IsBytes front × (length d.rest ≤ length c.rest) × IsBytes d.rest
    go true h = cc
    go false h =
        let same = same_pair (take n c.rest) front (moved n c) d h in (
          subst (λ (bs : List ℕ). length bs ≤ length c.rest) same.0 (omega (arith, length-take n c.rest)),
          subst IsBytes same.0 (IsBytes-take n c.rest fits),
          subst (λ (m : Cursor). length m.rest ≤ length c.rest) same.1 (omega (arith, length-drop n c.rest)),
          subst (λ (m : Cursor). IsBytes m.rest) same.1 (IsBytes-drop n c.rest fits),
        )

-- parts that were read are within what there was
parts-within : (most : ℕ) (front : List NamedPart) (ss : List PartSpan) (c : Cursor) (parts : List NamedPart) (d : Cursor) → length c.rest ≤ most → IsBytes c.rest → All (IsWithin most) front → read_plan (gather part_plan front ss) c ≡ ok_of (parts, d)
    → All (IsWithin most) parts
unfolding read_plan
parts-within most front [] c parts d le fits all e = subst (All (IsWithin most)) (same_pair front parts c d e).0 all
parts-within most front (s ∷ ss) c parts d le fits all e =
    let first = due_was (content_shape (s.end - s.start)) (λ _ _. []) (λ _ r. gather part_plan (front ++ record { name = s.name; bytes = part_content_of r } ∷ []) ss) c (parts, d) e in
    let was = record_at-was (content_shape (s.end - s.start)) (λ _. []) c first.0.0 first.0.1 first.1 in
    let alone = alone_was (so_many (s.end - s.start)) content c first.0.0 first.0.1 was.0 in
    let within = so_many-was (s.end - s.start) c first.0.1 alone.0 fits alone.1 in
    let part : NamedPart = record { name = s.name; bytes = part_content_of first.0.0 } in
    let le_most : length alone.0 ≤ most = omega (arith, within.0, le) in
    let here : IsWithin most part = subst (λ (r : CfsRecord). (length (part_content_of r) ≤ most) × IsBytes (part_content_of r)) alone.2 (le_most, within.1) in
    parts-within most (front ++ part ∷ []) ss first.0.1 parts d (omega (arith, within.2, le)) within.3 (All-append (IsWithin most) front (part ∷ []) all (All-cons (IsWithin most) part [] here (All-nil (IsWithin most)))) first.2

-- a plan that was read leaves no more than there was
left-within : {V R : Type 0} (plan : Plan V R) (c : Cursor) (v : V) (d : Cursor) → IsBytes c.rest → read_plan plan c ≡ Ok (v, d) → length d.rest ≤ length c.rest
left-within plan c v d fits e =
    let reads = reads-read_plan plan c v d fits e in
    omega (arith, ap length reads.front, length-append (bytes_of reads.records) d.rest)

-- no part is longer than the file
pub file-within : (cfs : List ℕ) (parts : List NamedPart) → IsBytes cfs → Reads (cfs_plan (length cfs)) cfs parts → All (IsWithin (length cfs)) parts
file-within cfs parts fits reads =
    let n = length cfs in
    let whole = read_plan-ReadsTo (cfs_plan n) (start_of cfs) parts (end_of cfs) reads in
    let head = due_was header_shape (λ _ _. []) (λ _ r. and_then (times (entry_kind n (part_count_of r)) (part_count_of r) []) (parts_plan n)) (start_of cfs) (parts, end_of cfs) whole in
    let count = part_count_of head.0.0 in
    let body = then_ok (read_plan (times (entry_kind n count) count []) head.0.1) (λ (x : List PartEntry × Cursor). read_plan (parts_plan n x.0) x.1) (parts, end_of cfs)
    (sym (read_plan-and_then (times (entry_kind n count) count []) (parts_plan n) head.0.1) ∙ head.2) in
    let directory : Plan (List PartEntry) CfsRecord = due header_shape (λ _ _. []) (λ _ r. times (entry_kind n (part_count_of r)) (part_count_of r) []) in
    let read = read_due header_shape (λ _ _. []) (λ _ r. times (entry_kind n (part_count_of r)) (part_count_of r) []) (start_of cfs) head.0.0 head.0.1 head.1 ∙ body.1 in
    parts-within n [] (spans n body.0.0) body.0.1 parts (end_of cfs) (left-within directory (start_of cfs) body.0.0 body.0.1 fits read) (IsBytes-after directory (start_of cfs) body.0.0 body.0.1 fits read) (All-nil (IsWithin n)) body.2

-- nor is one that is found by its name
pub named-within : (most : ℕ) (name : List ℕ) (parts : List NamedPart) → All (IsWithin most) parts → most < 2 ^ 31 → IsShort (part_named name parts)
named-within most name [] all lt = tt
named-within most name (part ∷ parts) all lt =
    let here : length part.bytes < 2 ^ 31 = omega (arith, lt, (All-head (IsWithin most) part parts all).0) in
    go (bytes_eq name part.name) here (named-within most name parts (All-tail (IsWithin most) part parts all) lt)
  where
    go : (b : Bool) → length part.bytes < 2 ^ 31 → IsShort (part_named name parts) → IsShort (option_map (λ (p : NamedPart). p.bytes) (cond b (Some part) (find (λ (p : NamedPart). bytes_eq name p.name) parts)))
    go true here later = here
    go false here later = later

-- and it is made of bytes
pub named-bytes : (most : ℕ) (name : List ℕ) (parts : List NamedPart) → All (IsWithin most) parts → ForSome (part_named name parts) IsBytes
named-bytes most name [] all bytes is = cc
named-bytes most name (part ∷ parts) all bytes is = go (bytes_eq name part.name) (All-head (IsWithin most) part parts all).1 (named-bytes most name parts (All-tail (IsWithin most) part parts all) bytes) is
  where
    go : (b : Bool) → IsBytes part.bytes → (part_named name parts ≡ Some bytes → IsBytes bytes) → option_map (λ (p : NamedPart). p.bytes) (cond b (Some part) (find (λ (p : NamedPart). bytes_eq name p.name) parts)) ≡ Some bytes → IsBytes bytes
    go true here later is = subst IsBytes (one_bytes part.bytes bytes is) here
    go false here later is = later is
