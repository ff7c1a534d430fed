-- New numbers of documents.
use Rattle.std.specs.Prelude.{◌≡◌, ℕ, ◌+◌, ◌<◌, ◌^◌, List, [], length, slice_index}
use Rattle.lu_model.specs.Index.{IndexedEntry}
use Rattle.lu_model.specs.Contents.{kept, live_from}
use Rattle.seg_merger.specs.declared.terms.documents.DocMap.{DocMap}
use Rattle.seg_merger.specs.declared.terms.documents.DocMap.TheVariants.{From, Each}
use Rattle.seg_merger.specs.declared.terms.documents.Numbered.{Numbered}

-- how many of the documents before this one are not deleted
abbrev pub live_before : List ℕ → ℕ → ℕ
live_before deleted document = length (live_from deleted 0 document)

-- the number of each document, where the first that is not deleted gets this one
pub record AreNumbers (base : ℕ) (deleted : List ℕ) (size : ℕ) (numbers : List ℕ) : Type 0 where
  pub all : length numbers ≡ size
  pub each : (document : ℕ) → document < size → slice_index numbers document ≡ base + live_before deleted document

-- the map gives these numbers
abbrev pub IsMap : ℕ → List ℕ → ℕ → DocMap → Type 0
IsMap base deleted size (From number) = (number ≡ base) × (deleted ≡ []) × (base + size < 2 ^ 31)
IsMap base deleted size (Each numbers) = AreNumbers base deleted size numbers.items

-- the map has a number for the document
abbrev pub HasNumber : DocMap → ℕ → Type 0
HasNumber (From number) document = number + document < 2 ^ 31
HasNumber (Each numbers) document = document < length numbers.items

-- this one
abbrev pub number_in : DocMap → ℕ → ℕ
number_in (From number) document = number + document
number_in (Each numbers) document = slice_index numbers.items document

-- an entry under its new number, in a field with these bits
abbrev pub renamed : ℕ → DocMap → IndexedEntry → IndexedEntry
renamed bits docs entry = record { document = number_in docs entry.document; occurrences = kept bits entry.occurrences }

-- so many documents, of which these are deleted, are numbered from here on, and the next number is behind them
pub record AreNumbered (deleted : List ℕ) (size : ℕ) (numbered : Numbered) : Type 0 where
  pub docs : IsMap numbered.base deleted size numbered.docs
  pub next : numbered.next ≡ numbered.base + live_before deleted size
