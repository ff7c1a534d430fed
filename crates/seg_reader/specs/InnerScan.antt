-- Entries of a term that are read in order, and which of them may be answered.
use Rattle.std.specs.Prelude.{◌≡◌, ℕ, suc, ◌+◌, ◌*◌, ◌<◌, ◌≤◌, ◌^◌, ◌⊎◌, Bool, true, false, not, ◌&&◌, nat_le, List, length, slice_index_or}
use Rattle.freq_skips.specs.declared.rules.RuledTerm.{RuledTerm}
use Rattle.freq_skips.specs.declared.entry.Entry.{Entry}
use Rattle.freq_skips.specs.declared.skip_point.SkipPoint.{SkipPoint}
use Rattle.freq_skips.specs.Entries.{Posting, no_posting, entry_of}
use Rattle.freq_skips.specs.Terms.{TermData}
use Rattle.positions.specs.Standing.{count_before}
use Rattle.positions.specs.Cursors.{posted_term}
use Rattle.doc_marks.specs.Marking.{is_in}
use Rattle.seg_reader.specs.declared.scan.Scan.{Scan}

-- the posting with an index
abbrev pub posting_in : TermData → ℕ → Posting
posting_in value index = slice_index_or value.postings index no_posting

-- the entries are as many as the dictionary says; their documents rise, below the number of documents; each but the first tells the last
pub record AreInOrder (t : RuledTerm) (value : TermData) : Type 0 where
  pub count : length value.postings ≡ t.info.doc_freq
  pub few : t.info.doc_freq < 2 ^ 31
  pub rise : (i j : ℕ) → i < j → j < t.info.doc_freq → (posting_in value i).doc < (posting_in value j).doc
  pub below : (i : ℕ) → i < t.info.doc_freq → (posting_in value i).doc < t.rules.documents
  pub before : (i : ℕ) → suc i < t.info.doc_freq → (posting_in value (suc i)).before ≡ (posting_in value i).doc

-- the document is not below the target, and is not passed over
abbrev pub may_stop : List ℕ → ℕ → ℕ → Bool
may_stop hidden target document = nat_le target document && not (is_in document hidden)

-- the entries are in order, those that were read are counted, and no document was asked for behind the next entry's
pub record IsScan (s : Scan) : Type 0 where
  pub order : AreInOrder s.entries.term s.entries.value
  pub passed : s.passed ≡ s.entries.passed
  pub within : s.passed ≤ s.entries.term.info.doc_freq
  pub asked : (i : ℕ) → s.passed ≤ i → i < s.entries.term.info.doc_freq → s.live.from ≤ (posting_in s.entries.value i).doc
  pub few : s.between ≤ s.passed * 4294967296

-- more entries of the same term were read, of which the occurrences are counted
pub record HasRead (old new : Scan) : Type 0 where
  pub term : new.entries.term ≡ old.entries.term
  pub value : new.entries.value ≡ old.entries.value
  pub hidden : new.live.documents ≡ old.live.documents
  pub grows : old.passed ≤ new.passed
  pub counts : old.entries.term.rules.omit_tf ≡ false
      → count_before (posted_term old.entries.term old.entries.value) new.passed + old.between
      ≡ count_before (posted_term old.entries.term old.entries.value) old.passed + new.between

-- none of the entries from an index on, up to another, may be answered
pub record ArePassed (s : Scan) (target first end : ℕ) : Type 0 where
  pub none : (i : ℕ) → first ≤ i → i < end → may_stop s.live.documents target (posting_in s.entries.value i).doc ≡ false

-- the entry that was read last is the first that may be answered
pub record IsFound (target : ℕ) (old new : Scan) (e : Entry) : Type 0 where
  pub index : ℕ
  pub last : new.passed ≡ suc index
  pub from : old.passed ≤ index
  pub entry : e ≡ entry_of (posting_in old.entries.value index)
  pub stops : may_stop old.live.documents target (posting_in old.entries.value index).doc ≡ true
  pub passed : ArePassed old target old.passed index

-- all entries were read, and none may be answered
pub record IsEnded (target : ℕ) (old new : Scan) : Type 0 where
  pub last : new.passed ≡ old.entries.term.info.doc_freq
  pub passed : ArePassed old target old.passed old.entries.term.info.doc_freq

-- the entries have gone on to a point, where that is behind those that were read
pub record HasJumped (old new : Scan) (point : SkipPoint) : Type 0 where
  pub term : new.entries.term ≡ old.entries.term
  pub value : new.entries.value ≡ old.entries.value
  pub hidden : new.live.documents ≡ old.live.documents
  pub grows : old.passed ≤ new.passed
  pub far : point.passed ≤ new.passed
  pub is : (new.passed ≡ old.passed) ⊎ (new.passed ≡ point.passed)
