-- The record of a term: what it shares with the term before, and what it adds.
use Rattle.std.specs.Prelude.{◌≡◌, ℕ, ◌<◌, ◌^◌, Bool, true, false, List, Result, Ok, Err, nat_le}
use Rattle.std.specs.Option.{unwrap_or}
use Rattle.lu_grammar.specs.declared.bad.Bad.{Bad}
use Rattle.lu_grammar.specs.Bytes.{Cursor}
use Rattle.lu_grammar.specs.Parts.{num, vint, vlong, bytes}
use Rattle.lu_grammar.specs.Records.{Shape, whole, part, followed, optional, read_shape}
use Rattle.term_dict.specs.declared.entry.TermEntry.{TermEntry}

-- what the record says
pub record TermRecord : Type 0 where
  pub prefix : ℕ
  pub suffix : List ℕ
  pub field : ℕ
  pub doc_freq : ℕ
  pub freq : ℕ
  pub prox : ℕ
  pub skip : ℕ

-- the number of a field: any, or below 2^31
abbrev pub field_number_shape : Bool → Shape ℕ
field_number_shape true = part vint (λ n. whole n)
field_number_shape false = part num (λ n. whole n)

-- its parts, given whether any number of a field may stand, and the interval of skip data: SkipDelta stands exactly where DocFreq reaches the interval
abbrev pub entry_shape : Bool → ℕ → Shape TermRecord
entry_shape any interval =
    part num (λ prefix. part num (λ count. part (bytes count) (λ suffix. followed (field_number_shape any) (λ field. part num (λ doc_freq. part vlong (λ freq. part vlong (λ prox.
    optional (nat_le interval doc_freq) (part num (λ n. whole n)) (λ skip.
    whole (record { prefix = prefix; suffix = suffix; field = field; doc_freq = doc_freq; freq = freq; prox = prox; skip = unwrap_or skip 0 })))))))))

-- what an entry of the program says
abbrev pub term_record_of : TermEntry → TermRecord
term_record_of e = record { prefix = e.prefix; suffix = e.suffix.now; field = e.field; doc_freq = e.doc_freq; freq = e.freq; prox = e.prox; skip = e.skip }

-- the numbers of an entry are within their limits
pub record IsBounded (e : TermEntry) : Type 0 where
  pub prefix : e.prefix < 2 ^ 31
  pub doc_freq : e.doc_freq < 2 ^ 31
  pub freq : e.freq < 2 ^ 63
  pub prox : e.prox < 2 ^ 63
  pub skip : e.skip < 2 ^ 31
