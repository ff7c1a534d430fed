-- Entries of a directory by number and by name.
use Rattle.std.proofs.Common.{◌≡◌, ℕ, zero, suc, ◌-◌, Bool, true, false, List, [], ◌∷◌, ◌++◌, length, drop, map, slice_get, option_map, Option, Some, None, cond, refl, sym, ap, subst, ◌∙◌, arith, Bor, BTreeMap}
use Rattle.std.specs.Option.{option_or}
use Rattle.std.specs.Map.{update}
use Rattle.std.specs.BTreeMap.{UpdatesBy}
use Rattle.std.specs.Cmp.Lexicographic.{slice_cmp, bytes_decides, nat_list_eq_equiv}
use Rattle.std.specs.Ordering.{nat_cmp}
use Rattle.std.specs.Str.{bytes_eq}
use Rattle.std.proofs.lemmas.Option.{slice_get-map}
use Rattle.std.proofs.lemmas.List.{length-map}
use Rattle.std.proofs.lemmas.Map.Text.{btree_map_updates_str}
use Rattle.lu_types.proofs.NumberLemmas.{position_push}
use Rattle.compound_file.specs.Entries.{PartEntry, PartSpan, entry_number_of, first_start, last_start, spans}
use Rattle.compound_file.specs.declared.entry.DirectoryEntry.{DirectoryEntry}
use Rattle.compound_file.specs.Directories.{part_entry_of, HasEntryNumbers}

-- ---- by number

-- the last entry is the one whose number is one below their number
pub last_start-is : (other : ℕ) (entries : List PartEntry) (e : PartEntry) → slice_get entries (length entries - 1) ≡ Some e → last_start other entries ≡ e.start
last_start-is other [] e is = cc
last_start-is other (x ∷ []) e is = ap start_of (let same : Some x ≡ Some e = is in same)
  where
    start_of : Option PartEntry → ℕ
    start_of (Some d) = d.start
    start_of None = 0
last_start-is other (x ∷ y ∷ ys) e is =
    let number : length (x ∷ y ∷ ys) - 1 ≡ suc (length (y ∷ ys) - 1) = omega arith in
    last_start-is x.start (y ∷ ys) e (subst (λ (n : ℕ). slice_get (x ∷ y ∷ ys) n ≡ Some e) number is)

-- the first of the entries from a number on, and where there is none
pub first_start-is : (other : ℕ) (entries : List PartEntry) (k : ℕ) (e : PartEntry) → slice_get entries k ≡ Some e → first_start other (drop k entries) ≡ e.start
first_start-is other [] k e is = cc
first_start-is other (x ∷ xs) zero e is = ap start_of (let same : Some x ≡ Some e = is in same)
  where
    start_of : Option PartEntry → ℕ
    start_of (Some d) = d.start
    start_of None = 0
first_start-is other (x ∷ xs) (suc k) e is = first_start-is other xs k e is

pub first_start-past : (other : ℕ) (entries : List PartEntry) (k : ℕ) → slice_get entries k ≡ None → first_start other (drop k entries) ≡ other
first_start-past other [] zero is = refl
first_start-past other [] (suc k) is = refl
first_start-past other (x ∷ xs) zero is = cc
first_start-past other (x ∷ xs) (suc k) is = first_start-past other xs k is

-- where the part of an entry stands
pub spans-at : (size : ℕ) (entries : List PartEntry) (k : ℕ) (e : PartEntry) → slice_get entries k ≡ Some e
    → slice_get (spans size entries) k ≡ Some (record { name = e.name; start = e.start; end = first_start size (drop (suc k) entries) })
spans-at size [] k e is = cc
spans-at size (x ∷ xs) zero e is = ap span_of (let same : Some x ≡ Some e = is in same)
  where
    span_of : Option PartEntry → Option PartSpan
    span_of (Some d) = Some (record { name = d.name; start = d.start; end = first_start size xs })
    span_of None = None
spans-at size (x ∷ xs) (suc k) e is = spans-at size xs k e is

-- the same of the entries that the program has
abbrev pub ends_of : Option PartSpan → Option (ℕ × ℕ)
ends_of o = option_map (λ s. (s.start, s.end)) o

module _ (items : List DirectoryEntry) where
  nth : (k : ℕ) (e : DirectoryEntry) → slice_get items k ≡ Some e → slice_get (map part_entry_of items) k ≡ Some (part_entry_of e)
  nth k e is = slice_get-map part_entry_of items k ∙ ap (option_map part_entry_of) is

  pub last_start-items : (e : DirectoryEntry) → slice_get items (length items - 1) ≡ Some e → last_start 0 (map part_entry_of items) ≡ e.start
  last_start-items e is =
      last_start-is 0 (map part_entry_of items) (part_entry_of e) (ap (λ (n : ℕ). slice_get (map part_entry_of items) (n - 1)) (length-map items part_entry_of) ∙ nth (length items - 1) e is)

  -- a part reaches to the start of the next one, or to the end
  pub ends_of-next : (size k : ℕ) (e next : DirectoryEntry) → slice_get items k ≡ Some e → slice_get items (suc k) ≡ Some next → ends_of (slice_get (spans size (map part_entry_of items)) k) ≡ Some (e.start, next.start)
  ends_of-next size k e next is after =
      ap ends_of (spans-at size (map part_entry_of items) k (part_entry_of e) (nth k e is)) ∙ ap (λ (n : ℕ). Some (e.start, n)) (first_start-is size (map part_entry_of items) (suc k) (part_entry_of next) (nth (suc k) next after))

  pub ends_of-last : (size k : ℕ) (e : DirectoryEntry) → slice_get items k ≡ Some e → slice_get items (suc k) ≡ None → ends_of (slice_get (spans size (map part_entry_of items)) k) ≡ Some (e.start, size)
  ends_of-last size k e is after =
      ap ends_of (spans-at size (map part_entry_of items) k (part_entry_of e) (nth k e is))
      ∙ ap (λ (n : ℕ). Some (e.start, n)) (first_start-past size (map part_entry_of items) (suc k) (slice_get-map part_entry_of items (suc k) ∙ ap (option_map part_entry_of) after))

-- ---- by name

or_none : {X : Type 0} (o : Option X) → option_or o None ≡ o
or_none None = refl
or_none (Some x) = refl

-- a new name is the last, and other names keep their numbers
pub entry_number_of-push : (e : PartEntry) (entries : List PartEntry) → entry_number_of e.name entries ≡ None → (q : List ℕ)
    → update bytes_eq (λ r. entry_number_of r entries) e.name (Some (length entries)) q ≡ entry_number_of q (entries ++ e ∷ [])
entry_number_of-push e entries new q = sym (position_push _ entries e ∙ at_test (bytes_eq e.name q) refl)
  where
    at_test : (b : Bool) → bytes_eq e.name q ≡ b → option_or (entry_number_of q entries) (cond (bytes_eq q e.name) (Some (length entries)) None) ≡ cond b (Some (length entries)) (entry_number_of q entries)
    at_test true same =
        let turned : bytes_eq q e.name ≡ true = nat_list_eq_equiv.symm q e.name ∙ same in
        let none : entry_number_of q entries ≡ None = subst (λ r. entry_number_of r entries ≡ None) ((bytes_decides e.name q).0 same) new in
        rw (none, turned) refl
    at_test false differs =
        let turned : bytes_eq q e.name ≡ false = nat_list_eq_equiv.symm q e.name ∙ differs in
        rw turned (or_none (entry_number_of q entries))

-- a map to which the new name and its number are added
pub HasEntryNumbers-push : (name : Bor (List ℕ)) (e : PartEntry) (number : ℕ) (entries : List PartEntry) (before after : BTreeMap (Bor (List ℕ)) ℕ) → e.name ≡ name.now → entry_number_of e.name entries ≡ None → number ≡ length entries
    → HasEntryNumbers before entries → UpdatesBy (λ x y. slice_cmp nat_cmp x.now y.now) (λ key. slice_cmp nat_cmp name.now key.now) before after (Some number) → HasEntryNumbers after (entries ++ e ∷ [])
HasEntryNumbers-push name e number entries before after named new is_last numbers updates q =
    btree_map_updates_str name.now before after (Some number) updates q ∙ ap (cond (bytes_eq name.now q) (Some number)) (numbers q)
    ∙ ap (λ n. cond (bytes_eq name.now q) (Some n) (entry_number_of q entries)) is_last
    ∙ ap (λ (t : List ℕ). cond (bytes_eq t q) (Some (length entries)) (entry_number_of q entries)) (sym named) ∙ entry_number_of-push e entries new q
