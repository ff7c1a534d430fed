use Rattle.std.proofs.Common.{◌≡◌, List, None, length}
use Rattle.std.specs.Prelude.{All}
use Rattle.lu_types.specs.DocFaults.{doc_fault}
use Rattle.lu_types.specs.Documents.{IsDocument}
use Rattle.lu_types.specs.Joins.{table_of}
use Rattle.lu_types.specs.Tables.{TableField}
use Rattle.lu_types.specs.declared.document.Document.{Document}
use Rattle.lu_types.specs.declared.stored.StoredValue.{StoredValue}
use Rattle.lu_model.specs.Valid.{IsSmall, IsStorable}
use Rattle.lu_model.proofs.Words.{IsIn, IsShort, IsText}
use Rattle.lu_model.proofs.Covering.{table_of-covers}
use Rattle.lu_model.proofs.Each.{each_at, each-from_all}
use Rattle.lu_model.proofs.ValidIndex.{is_valid}
use Rattle.lu_model.proofs.WrittenTables.{table_of-is_table, table_of-names}
use Rattle.lu_model.proofs.laws.written_documents.Goals as goal

of_each : (P : Document → Type 0) (docs : List Document) → All P docs → (doc : Document) → IsIn doc docs → P doc
of_each P docs h doc k = each_at P doc docs (each-from_all P docs h) k

-- few stored values and fields, and short values
abbrev HasFew : Document → Type 0
HasFew doc = IsSmall (length doc.stored) × IsSmall (length doc.indexed) × All (λ value. IsStorable value.value) doc.stored

is_short : (docs : List Document) → All HasFew docs → (doc : Document) → IsIn doc docs → IsShort doc
is_short docs h doc k = let few = of_each HasFew docs h doc k in record { stored = few.0; fields = few.1; values = each-from_all (λ (value : StoredValue). IsStorable value.value) doc.stored few.2 }

pub returns-clause-index : goal.returns-clause-index
returns-clause-index c = λ docs limits made faultless short few few_fields few_terms. is_valid (table_of docs) docs limits (record {
  fields = table_of-is_table docs few_fields;
  names = table_of-names docs limits (of_each IsDocument docs made) (of_each (λ doc. doc_fault doc limits ≡ None) docs faultless);
  covers = table_of-covers docs;
  documents = of_each IsDocument docs made;
  sound = of_each (λ doc. doc_fault doc limits ≡ None) docs faultless;
  short = is_short docs short;
  few = few;
  few_terms = few_terms;
})

pub returns-clause-under : goal.returns-clause-under
returns-clause-under c = λ table docs limits made faultless short few fields names covers few_terms. is_valid table docs limits (record {
  fields = fields;
  names = each-from_all (λ (field : TableField). IsText field.name) table names;
  covers = covers;
  documents = of_each IsDocument docs made;
  sound = of_each (λ doc. doc_fault doc limits ≡ None) docs faultless;
  short = is_short docs short;
  few = few;
  few_terms = few_terms;
})
