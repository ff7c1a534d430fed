-- The parts of a file behind its directory, and what the whole file is.
use Rattle.std.proofs.Common.{◌≡◌, ℕ, ◌+◌, ◌-◌, ◌<◌, ◌≤◌, false, nat_lt, List, [], ◌∷◌, ◌++◌, length, drop, Result, Ok, Err, refl, sym, ap, ◌∙◌, arith, append_assoc}
use Rattle.std.specs.Prelude.{slice_range}
use Rattle.std.proofs.lemmas.Bool.{le-ltb}
use Rattle.std.proofs.lemmas.List.{append-nil, length-drop, drop-drop, nil_from_length}
use Rattle.std.proofs.Math.Seq.{drop-length}
use Rattle.lu_grammar.specs.declared.bad.Bad.{Bad}
use Rattle.lu_grammar.specs.Bytes.{IsBytes, Cursor, start_of, end_of, place_in}
use Rattle.lu_grammar.specs.Parts.{num, bytes as so_many}
use Rattle.lu_grammar.specs.Reading.{◌>>=◌, read, read_part}
use Rattle.lu_grammar.specs.Records.{rule_of, record_at}
use Rattle.lu_grammar.specs.Plans.{done, due, and_then, times, gather, Broken, read_plan}
use Rattle.lu_grammar.specs.Meaning.{Reads, FirstFault}
use Rattle.lu_grammar.specs.RuleNumbers as rules
use Rattle.lu_grammar.proofs.Codecs.{ok_pair, alone_read, alone_unread, read_due, read_due_broken, read_plan-and_then, place_in-after, file-fault, file-left, file-read}
use Rattle.compound_file.specs.Entries.{NamedPart, PartEntry, PartSpan, first_start, Rise, spans, part_at, parts_in}
use Rattle.compound_file.specs.Cfs.{header, content, header_shape, content_shape, part_count_of, part_content_of, entry_kind, part_plan, parts_plan, cfs_plan}
use Rattle.compound_file.specs.Directories.{AreGoodEntries}
use Rattle.compound_file.proofs.DirectoryLemmas.{Rise-first}

-- ---- the bytes of the parts

module _ (bytes : List ℕ) where
  -- so many bytes at a place, up to another
  bytes-read : (from end : ℕ) → from ≤ end → end ≤ length bytes → read_part (so_many (end - from)) (place_in bytes from) ≡ Ok (slice_range bytes from end, place_in bytes end)
  unfolding read
  bytes-read from end le within =
      let enough : nat_lt (length (drop from bytes)) (end - from) ≡ false = le-ltb (length (drop from bytes)) (end - from) (omega (arith, length-drop from bytes)) in
      let number : from + (end - from) ≡ end = omega arith in
      rw enough (ap (λ (t : List ℕ). ok_pair {E = Bad} (slice_range bytes from end) (record { place = from + (end - from); rest = t })) (drop-drop (end - from) from bytes)
      ∙ ap (λ (n : ℕ). ok_pair {E = Bad} (slice_range bytes from end) (place_in bytes n)) number)

  part-read : (span : PartSpan) → span.start ≤ span.end → span.end ≤ length bytes → read_plan (part_plan span) (place_in bytes span.start) ≡ Ok (part_at bytes span, place_in bytes span.end)
  unfolding read_plan
  part-read span le within =
      read_due (content_shape (span.end - span.start)) (λ _ _. []) (λ _ r. done (record { name = span.name; bytes = part_content_of r })) (place_in bytes span.start) (content (slice_range bytes span.start span.end)) (place_in bytes span.end)
      (alone_read (so_many (span.end - span.start)) content (λ _. []) (place_in bytes span.start) (place_in bytes span.end) (slice_range bytes span.start span.end) (bytes-read span.start span.end le within) refl)

  -- entries that rise: behind the directory their parts are read, up to the end
  pub parts-read : (front : List NamedPart) (entries : List PartEntry) (from : ℕ) → Rise from (length bytes) entries
      → read_plan (gather part_plan front (spans (length bytes) entries)) (place_in bytes (first_start (length bytes) entries)) ≡ Ok (front ++ parts_in bytes entries, end_of bytes)
  unfolding read_plan
  parts-read front [] from rise =
      ap (λ (t : List ℕ). ok_pair {E = Broken} front (record { place = length bytes; rest = t })) (drop-length bytes) ∙ ap (λ (ps : List NamedPart). ok_pair {E = Broken} ps (end_of bytes)) (sym (append-nil front))
  parts-read front (e ∷ es) from rise =
      let next = first_start (length bytes) es in
      let span : PartSpan = record { name = e.name; start = e.start; end = next } in
      let first = Rise-first e.start (length bytes) es rise.1 in
      let rest = spans (length bytes) es in
      read_plan-and_then (part_plan span) (λ v. gather part_plan (front ++ v ∷ []) rest) (place_in bytes e.start)
      ∙ ap (λ (r : Result (NamedPart × Cursor) Broken). r >>= λ x. read_plan (gather part_plan (front ++ x.0 ∷ []) rest) x.1) (part-read span first.0 first.1)
      ∙ parts-read (front ++ part_at bytes span ∷ []) es e.start rise.1
      ∙ ap (λ (ps : List NamedPart). ok_pair {E = Broken} ps (end_of bytes)) (append_assoc front (part_at bytes span ∷ []) (parts_in bytes es))

-- ---- the whole file

module _ (bytes : List ℕ) (fits : IsBytes bytes) where
  -- the number of parts cannot be read
  pub header-fault : (bad : Bad) → read_part num (start_of bytes) ≡ Err bad → FirstFault (cfs_plan (length bytes)) bytes 0 (rule_of bad)
  header-fault bad e =
      file-fault (cfs_plan (length bytes)) bytes 0 (rule_of bad) fits
      (read_due_broken header_shape (λ _ _. []) (λ _ r. and_then (times (entry_kind (length bytes) (part_count_of r)) (part_count_of r) []) (parts_plan (length bytes))) (start_of bytes) (rule_of bad)
      (alone_unread num header (λ _. []) (start_of bytes) bad (rule_of bad) e refl))

  module _ (count : ℕ) (here : Cursor) (counted : read_part num (start_of bytes) ≡ Ok (count, here)) where
    header_is : record_at header_shape (λ _. []) (start_of bytes) ≡ Ok (header count, here)
    header_is = alone_read num header (λ _. []) (start_of bytes) here count counted refl

    -- the file is its directory, and then the parts
    after_header : read_plan (cfs_plan (length bytes)) (start_of bytes)
        ≡ read_plan (times (entry_kind (length bytes) count) count []) here >>= λ x. read_plan (parts_plan (length bytes) x.0) x.1
    after_header =
        read_due header_shape (λ _ _. []) (λ _ r. and_then (times (entry_kind (length bytes) (part_count_of r)) (part_count_of r) []) (parts_plan (length bytes))) (start_of bytes) (header count) here header_is
        ∙ read_plan-and_then (times (entry_kind (length bytes) count) count []) (parts_plan (length bytes)) here

    -- a fault of the directory
    pub directory-fault : (offset rule : ℕ) → read_plan (times (entry_kind (length bytes) count) count []) here ≡ Err (record { offset = offset; rule = rule }) → FirstFault (cfs_plan (length bytes)) bytes offset rule
    directory-fault offset rule e =
        file-fault (cfs_plan (length bytes)) bytes offset rule fits
        (after_header ∙ ap (λ (r : Result (List PartEntry × Cursor) Broken). r >>= λ x. read_plan (parts_plan (length bytes) x.0) x.1) e)

    module _ (entries : List PartEntry) (there : Cursor) (e : read_plan (times (entry_kind (length bytes) count) count []) here ≡ Ok (entries, there)) where
      after_directory : read_plan (cfs_plan (length bytes)) (start_of bytes) ≡ read_plan (parts_plan (length bytes) entries) there
      after_directory = after_header ∙ ap (λ (r : Result (List PartEntry × Cursor) Broken). r >>= λ x. read_plan (parts_plan (length bytes) x.0) x.1) e

      -- behind the directory stands a place in the bytes
      there_is : there ≡ place_in bytes there.place
      there_is =
          (place_in-after (due header_shape (λ _ _. []) (λ _ r. times (entry_kind (length bytes) (part_count_of r)) (part_count_of r) [])) bytes 0 entries there fits (omega arith)
          (read_due header_shape (λ _ _. []) (λ _ r. times (entry_kind (length bytes) (part_count_of r)) (part_count_of r) []) (start_of bytes) (header count) here header_is ∙ e)).0

      nothing : length entries ≡ 0 → read_plan (cfs_plan (length bytes)) (start_of bytes) ≡ ok_pair (parts_in bytes entries) there
      unfolding read_plan
      nothing none =
          after_directory ∙ ap (λ (es : List PartEntry). read_plan (parts_plan (length bytes) es) there) (nil_from_length entries none)
          ∙ ap (λ (es : List PartEntry). ok_pair (parts_in bytes es) there) (sym (nil_from_length entries none))

      -- no part, and bytes that are left
      pub none-left : length entries ≡ 0 → 0 < length there.rest → FirstFault (cfs_plan (length bytes)) bytes there.place rules.trailing
      none-left none some = file-left (cfs_plan (length bytes)) bytes (parts_in bytes entries) there fits (nothing none) some

      -- no part, and nothing left
      none-read : length entries ≡ 0 → length there.rest ≡ 0 → Reads (cfs_plan (length bytes)) bytes (parts_in bytes entries)
      none-read none end = file-read (cfs_plan (length bytes)) bytes (parts_in bytes entries) there fits (nothing none) end

      -- parts, of which the first starts behind the directory
      some-read : Rise 0 (length bytes) entries → first_start (length bytes) entries ≡ there.place → Reads (cfs_plan (length bytes)) bytes (parts_in bytes entries)
      some-read rise first =
          let from : there ≡ place_in bytes (first_start (length bytes) entries) = there_is ∙ ap (place_in bytes) (sym first) in
          file-read (cfs_plan (length bytes)) bytes (parts_in bytes entries) (end_of bytes) fits
          (after_directory ∙ ap (read_plan (parts_plan (length bytes) entries)) from ∙ parts-read bytes [] entries 0 rise) refl

      -- a directory of so many entries, behind which nothing is left where there are none
      pub all-read : length entries ≡ count → AreGoodEntries (length bytes) count entries there.place → (count ≡ 0 → length there.rest ≡ 0) → Reads (cfs_plan (length bytes)) bytes (parts_in bytes entries)
      all-read number good end = go entries refl
        where
          go : (es : List PartEntry) → entries ≡ es → Reads (cfs_plan (length bytes)) bytes (parts_in bytes entries)
          go [] is = none-read (ap length is) (end (sym number ∙ ap length is))
          go (x ∷ xs) is =
              let some : 0 < length entries = omega (arith, ap length is) in
              some-read good.rise (ap (first_start (length bytes)) is ∙ sym (ap (first_start 0) is) ∙ good.closed some number)
