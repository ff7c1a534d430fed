use Rattle.seg_writer.proofs.TableLemmas.{table-first, table-has}
use Rattle.seg_writer.proofs.laws.tables_of_documents.Goals as goal

pub returns : goal.returns
returns c = record { first = table-first; there = table-has }
