use Rattle.lu_types.specs.Documents.{IsDocument}
use Rattle.lu_model.specs.Valid.{IsValid}
use Rattle.lu_model.proofs.Each.{each_at, each-from_all}
use Rattle.lu_model.proofs.IndexTerms.{document_terms, merge_terms, one_list}
use Rattle.lu_model.proofs.laws.terms_have_entries.Goals as goal

pub returns-clause-documents : goal.returns-clause-documents
returns-clause-documents c = λ table docs covers made. document_terms table docs covers (λ doc h. each_at IsDocument doc docs (each-from_all IsDocument docs made) h)

pub returns-clause-merges : goal.returns-clause-merges
returns-clause-merges c = λ indexes ok. merge_terms indexes (each-from_all IsValid indexes ok)

pub returns-clause-only : goal.returns-clause-only
returns-clause-only c = one_list
