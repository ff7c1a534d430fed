-- Parts by name.
use Rattle.std.proofs.Common.{◌≡◌, ℕ, zero, suc, ◌+◌, ◌≤◌, Bool, true, false, not, cond, List, [], ◌∷◌, length, map, slice_get, option_map, Option, Some, None, refl, ap, ◌∙◌, arith, inl, inr}
use Rattle.std.specs.Prelude.{slice_range, nat_lt}
use Rattle.std.specs.List.{find, position, position_or_len}
use Rattle.std.specs.Option.{option_and_then}
use Rattle.std.specs.Str.{bytes_eq}
use Rattle.std.proofs.lemmas.Bool.{cases_lt, lt-ltb, le-ltb}
use Rattle.std.proofs.lemmas.Option.{slice_get-map, slice_get_past}
use Rattle.std.proofs.lemmas.List.Folds.{find_at}
use Rattle.compound_file.specs.Entries.{NamedPart, PartEntry, PartSpan, part_named, entry_number_of, first_start, Rise, spans, part_at, parts_in}
use Rattle.compound_file.proofs.EntryLemmas.{ends_of}
use Rattle.compound_file.proofs.DirectoryLemmas.{Rise-first}

-- the first element that passes stands at the first place where one passes
find-position : {X : Type 0} (p : X → Bool) (xs : List X) → find p xs ≡ option_and_then (slice_get xs) (position p xs)
find-position {X} p xs = find_at p xs ∙ elim (cases_lt (position_or_len p xs) (length xs)) [
  | inl lt ↦ let t : nat_lt (position_or_len p xs) (length xs) ≡ true = lt-ltb _ _ lt in rw t refl
  | inr past ↦ let f : nat_lt (position_or_len p xs) (length xs) ≡ false = le-ltb _ _ past in rw f (slice_get_past xs (position_or_len p xs) past)
]

module _ (bytes name : List ℕ) where
  parts : ℕ → List PartEntry → List NamedPart
  parts size entries = map (part_at bytes) (spans size entries)

  same-length : (size : ℕ) (entries : List PartEntry) → length (map (part_at bytes) (spans size entries)) ≡ length entries
  same-length size [] = refl
  same-length size (e ∷ es) = ap suc (same-length size es)

  same-place : (size : ℕ) (entries : List PartEntry) → position_or_len (λ (part : NamedPart). bytes_eq name part.name) (map (part_at bytes) (spans size entries)) ≡ position_or_len (λ (e : PartEntry). bytes_eq name e.name) entries
  same-place size [] = refl
  same-place size (e ∷ es) = ap (λ n. cond (not (bytes_eq name e.name)) (1 + n) 0) (same-place size es)

  -- a part has the number of its entry
  same-number : (size : ℕ) (entries : List PartEntry) → position (λ (part : NamedPart). bytes_eq name part.name) (map (part_at bytes) (spans size entries)) ≡ entry_number_of name entries
  same-number size entries =
      ap (λ n. cond (nat_lt n (length (map (part_at bytes) (spans size entries)))) (Some n) None) (same-place size entries)
      ∙ ap (λ n. cond (nat_lt (position_or_len (λ (e : PartEntry). bytes_eq name e.name) entries) n) (Some (position_or_len (λ (e : PartEntry). bytes_eq name e.name) entries)) None) (same-length size entries)

  named : (size : ℕ) (entries : List PartEntry) → part_named name (map (part_at bytes) (spans size entries))
      ≡ option_map (λ (p : NamedPart). p.bytes) (option_and_then (λ k. option_map (part_at bytes) (slice_get (spans size entries) k)) (entry_number_of name entries))
  named size entries =
      ap (option_map (λ (p : NamedPart). p.bytes)) (find-position (λ (part : NamedPart). bytes_eq name part.name) (map (part_at bytes) (spans size entries))
      ∙ ap (option_and_then (slice_get (map (part_at bytes) (spans size entries)))) (same-number size entries) ∙ go (entry_number_of name entries))
    where
      go : (o : Option ℕ) → option_and_then (slice_get (map (part_at bytes) (spans size entries))) o ≡ option_and_then (λ k. option_map (part_at bytes) (slice_get (spans size entries) k)) o
      go None = refl
      go (Some k) = slice_get-map (part_at bytes) (spans size entries) k

  -- no part has a name that no entry has
  pub part_named-none : (entries : List PartEntry) → entry_number_of name entries ≡ None → part_named name (parts_in bytes entries) ≡ None
  part_named-none entries none =
      named (length bytes) entries ∙ ap (λ o. option_map (λ (p : NamedPart). p.bytes) (option_and_then (λ k. option_map (part_at bytes) (slice_get (spans (length bytes) entries) k)) o)) none

  -- the part of an entry is the bytes between its ends
  pub part_named-some : (entries : List PartEntry) (k start end : ℕ) → entry_number_of name entries ≡ Some k → ends_of (slice_get (spans (length bytes) entries) k) ≡ Some (start, end)
      → part_named name (parts_in bytes entries) ≡ Some (slice_range bytes start end)
  part_named-some entries k start end number ends =
      named (length bytes) entries
      ∙ ap (λ o. option_map (λ (p : NamedPart). p.bytes) (option_and_then (λ n. option_map (part_at bytes) (slice_get (spans (length bytes) entries) n)) o)) number
      ∙ go (slice_get (spans (length bytes) entries) k) ends
    where
      pair_of : Option (ℕ × ℕ) → List ℕ
      pair_of (Some (a, b)) = slice_range bytes a b
      pair_of None = []

      go : (o : Option PartSpan) → ends_of o ≡ Some (start, end) → option_map (λ (p : NamedPart). p.bytes) (option_map (part_at bytes) o) ≡ Some (slice_range bytes start end)
      go None e = cc
      go (Some span) e = ap (λ o. Some (pair_of o)) e

-- the ends of a part of entries that rise
pub ends-rise : (from size : ℕ) (entries : List PartEntry) (k start end : ℕ) → Rise from size entries → ends_of (slice_get (spans size entries) k) ≡ Some (start, end) → (start ≤ end) × (end ≤ size)
ends-rise from size [] k start end rise e = cc
ends-rise from size (x ∷ xs) zero start end rise e =
    let first = Rise-first x.start size xs rise.1 in
    let starts : x.start ≡ start = ap fst_of e in
    let ends : first_start size xs ≡ end = ap snd_of e in
    (omega (arith, first.0, starts, ends), omega (arith, first.1, ends))
  where
    fst_of : Option (ℕ × ℕ) → ℕ
    fst_of (Some p) = p.0
    fst_of None = 0

    snd_of : Option (ℕ × ℕ) → ℕ
    snd_of (Some p) = p.1
    snd_of None = 0
ends-rise from size (x ∷ xs) (suc k) start end rise e = ends-rise x.start size xs k start end rise.1 e
