use Rattle.lu_prims.proofs.QuotedLemmas.{quoted_same, quoted_utf8}
use Rattle.lu_prims.proofs.quoting.quoted_texts.Goals as goal

pub returns-clause-apart : goal.returns-clause-apart
returns-clause-apart c = quoted_same

pub returns-clause-utf8 : goal.returns-clause-utf8
returns-clause-utf8 c = quoted_utf8
