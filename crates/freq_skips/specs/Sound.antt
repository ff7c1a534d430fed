-- What a reader relies on of a term that was checked (docs/FORMAT.md, "Entries and skip data").
use Rattle.std.specs.Prelude.{◌≡◌, ◌<◌, ◌≤◌, ◌-◌, ◌*◌, ℕ, suc, length, slice_index_or}
use Rattle.freq_skips.specs.declared.rules.RuledTerm.{RuledTerm}
use Rattle.freq_skips.specs.Entries.{no_posting}
use Rattle.freq_skips.specs.Levels.{level_count, stride, data_count}
use Rattle.freq_skips.specs.Terms.{TermData}
use Rattle.freq_skips.specs.Walks.{point_at}

-- the entries are as many as the dictionary says; their documents rise, and are below the number of documents; the term stands in each at least once; each entry tells the document before it, 0 for the
-- first; and each datum leads to the document before the entry that it belongs to, and to the place where that entry starts
pub record IsSoundTermData (t : RuledTerm) (v : TermData) : Type 0 where
  pub count : length v.postings ≡ t.info.doc_freq
  pub rise : (i j : ℕ) → i < j → j < t.info.doc_freq → (slice_index_or v.postings i no_posting).doc < (slice_index_or v.postings j no_posting).doc
  pub below : (i : ℕ) → i < t.info.doc_freq → (slice_index_or v.postings i no_posting).doc < t.rules.documents
  pub some : (i : ℕ) → i < t.info.doc_freq → 1 ≤ (slice_index_or v.postings i no_posting).freq
  pub first : 0 < t.info.doc_freq → (slice_index_or v.postings 0 no_posting).before ≡ 0
  pub before : (i : ℕ) → suc i < t.info.doc_freq → (slice_index_or v.postings (suc i) no_posting).before ≡ (slice_index_or v.postings i no_posting).doc
  pub leads : (level m : ℕ) → level < level_count t → m < data_count t level → ((point_at v level m).doc ≡ (slice_index_or v.postings (suc m * stride t level - 1) no_posting).before)
      × ((point_at v level m).freq ≡ (slice_index_or v.postings (suc m * stride t level - 1) no_posting).place - t.info.freq)
