use Rattle.compound_file.proofs.DirectoryLemmas.{ArePassed}
use Rattle.compound_file.proofs.reading.read_directory.Given as goal

-- the directory has the entries that were read, and the cursor stands behind them
abbrev pub invariant-loop : goal.invariant-loop
invariant-loop l = ArePassed l.bounds.size l.bounds.count l.fn.cur l.counter l.directory l.cur
