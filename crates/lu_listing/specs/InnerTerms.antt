-- The terms that are listed (docs/FORMAT.md, "Printed texts").
use Rattle.std.specs.Prelude.{ℕ, ◌<◌, length}
use Rattle.check_index.specs.Segments.{SegmentValue}
use Rattle.check_index.specs.Opened.{IsTermOf}
use Rattle.seg_reader.specs.Terms.{term_at, IsSaidOf}
use Rattle.lu_listing.specs.declared.terms.ListedTerm.{ListedTerm}

-- the dictionary says this of the term with a number, and it is so of the index's
pub record IsListed (s : SegmentValue) (n : ℕ) (term : ListedTerm) : Type 0 where
  pub within : n < length s.index.terms
  pub is_term : IsTermOf s n term.info
  pub said : IsSaidOf (record { text = term.text.now; info = term.info }) (term_at s n)
