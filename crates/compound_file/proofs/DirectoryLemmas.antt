-- Entries one after another: what each good one keeps, and that they rise.
use Rattle.std.proofs.Common.{◌≡◌, ℕ, ◌+◌, ◌<◌, ◌≤◌, List, [], ◌∷◌, ◌++◌, length, Ok, Err, refl, sym, ap, ◌∙◌, arith, pos}
use Rattle.std.proofs.lemmas.List.{length_push}
use Rattle.lu_grammar.specs.Bytes.{IsBytes, Cursor}
use Rattle.lu_grammar.specs.Records.{record_at}
use Rattle.lu_grammar.specs.Plans.{one, times, read_plan}
use Rattle.lu_grammar.proofs.Codecs.{times-more, times-fault, each-none}
use Rattle.compound_file.specs.Entries.{PartEntry, first_start, last_start, Rise}
use Rattle.compound_file.specs.Cfs.{entry, entry_shape, entry_conditions, entry_kind}
use Rattle.compound_file.specs.Directories.{IsGoodEntry, AreGoodEntries}

-- entries that rise, and one more
pub Rise-push : (from end : ℕ) (entries : List PartEntry) (e : PartEntry) → Rise from end entries → last_start from entries ≤ e.start → e.start ≤ end → Rise from end (entries ++ e ∷ [])
Rise-push from end [] e rise above within = (above, within)
Rise-push from end (x ∷ xs) e rise above within = (rise.0, Rise-push x.start end xs e rise.1 above within)

-- the first part starts within the file, and no earlier than that
pub Rise-first : (from end : ℕ) (entries : List PartEntry) → Rise from end entries → (from ≤ first_start end entries) × (first_start end entries ≤ end)
Rise-first from end [] rise = (rise, omega arith)
Rise-first from end (x ∷ xs) rise = (rise.0, let later = Rise-first x.start end xs rise.1 in omega arith)

-- the first of all is the first of those before, or the new one
pub first_start-push : (other : ℕ) (entries : List PartEntry) (e : PartEntry) → first_start other (entries ++ e ∷ []) ≡ first_start e.start entries
first_start-push other [] e = refl
first_start-push other (x ∷ xs) e = refl

module _ (size count : ℕ) where
  pub no_entries : (place : ℕ) → AreGoodEntries size count [] place
  no_entries place = record { rise = omega arith; closed = λ some. absurd (omega arith) }

  pub one_entry : (entries : List PartEntry) (e : PartEntry) (place after : ℕ) → AreGoodEntries size count entries place → IsGoodEntry size count entries e after → AreGoodEntries size count (entries ++ e ∷ []) after
  one_entry entries e place after before good = record {
    rise = Rise-push 0 size entries e before.rise good.rises good.within;
    closed = λ some all. first_start-push 0 entries e ∙ good.closed (sym (length_push entries e) ∙ all);
  }

  -- the cursor stands behind so many good entries
  pub record ArePassed (from : Cursor) (number : ℕ) (entries : List PartEntry) (here : Cursor) : Type 0 where
    pub read : read_plan (times (entry_kind size count) number []) from ≡ Ok (entries, here)
    pub number_is : length entries ≡ number
    pub good : AreGoodEntries size count entries here.place
    pub bytes : IsBytes here.rest

  pub none_passed : (from : Cursor) → IsBytes from.rest → ArePassed from 0 [] from
  none_passed from bytes = record { read = each-none (one (entry_kind size count)) [] from; number_is = refl; good = no_entries from.place; bytes = bytes }

  pub one_passed : (from : Cursor) (number : ℕ) (entries : List PartEntry) (here : Cursor) (e : PartEntry) (next : Cursor) → ArePassed from number entries here
      → record_at entry_shape (entry_conditions size count entries here.place) here ≡ Ok (entry (pos e.start) e.name, next) → IsGoodEntry size count entries e next.place → IsBytes next.rest
      → ArePassed from (number + 1) (entries ++ e ∷ []) next
  one_passed from number entries here e next before read good bytes = record {
    read = times-more (entry_kind size count) number [] from entries here (entry (pos e.start) e.name) next before.read read;
    number_is = length_push entries e ∙ ap (λ (n : ℕ). n + 1) before.number_is;
    good = one_entry entries e here.place next.place before.good good;
    bytes = bytes;
  }

  pub fault_passed : (from : Cursor) (number all : ℕ) (entries : List PartEntry) (here : Cursor) (rule : ℕ) → number < all → ArePassed from number entries here
      → record_at entry_shape (entry_conditions size count entries here.place) here ≡ Err rule → read_plan (times (entry_kind size count) all []) from ≡ Err (record { offset = here.place; rule = rule })
  fault_passed from number all entries here rule lt before broken = times-fault (entry_kind size count) number all [] from entries here rule lt before.read broken
