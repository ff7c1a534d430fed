use Rattle.std.proofs.Common.{◌≡◌, ℕ, List, Option, Some, None, Ok, Err, sym, ap, subst, ◌∙◌, arith}
use Rattle.lu_grammar.specs.Bytes.{Cursor, start_of}
use Rattle.lu_types.specs.RuleNumbers as number
use Rattle.lu_grammar.specs.Plans.{Broken, read_plan, times, read_file}
use Rattle.lu_types.specs.declared.kind.FileKind.TheVariants.{Tii}
use Rattle.lu_types.specs.declared.term.TermNumbers.{TermNumbers}
use Rattle.term_dict.specs.Dictionary.{Dictionary}
use Rattle.term_dict.specs.Index.{IndexProgress, index_kind, no_entries, entry_count, tii_plan}
use Rattle.term_dict.specs.Walk.{TermWalk}
use Rattle.term_dict.proofs.LoopLemmas.{IsBrokenSo-same, IsBrokenSo-map}
use Rattle.term_dict.proofs.FileLemmas.{file-read, file-trailing, file-broken}
use Rattle.term_index.specs.Points.{IsIndexHeader}
use Rattle.term_index.proofs.PointLoop.{index-header-good, index-header-broken, entries-read, entries-broken}
use Rattle.term_index.proofs.checking.check_bytes.Goals as goal

-- the entries that were read are all of the index
to_end : (d e : Dictionary) (numbers : TermNumbers) (bytes : List ℕ) (c after last : Cursor) (s : IndexProgress) → c ≡ start_of bytes → numbers ≡ d.numbers → e ≡ d → IsIndexHeader numbers c after None
    → read_plan (times (index_kind e) (entry_count numbers) no_entries) after ≡ Ok (s, last) → read_plan (tii_plan d) (start_of bytes) ≡ Ok (tt, last)
to_end d e numbers bytes c after last s at same is header read =
    ap (λ (x : Cursor). read_plan (tii_plan d) x) (sym at) ∙ index-header-good d numbers c after same header
    ∙ entries-read d after last s (ap (λ (m : TermNumbers). read_plan (times (index_kind d) (entry_count m) no_entries) after) (sym same) ∙ ap (λ (x : Dictionary). read_plan (times (index_kind x) (entry_count numbers) no_entries) after) (sym is) ∙ read)

to_fault : (d e : Dictionary) (numbers : TermNumbers) (bytes : List ℕ) (c after : Cursor) → c ≡ start_of bytes → numbers ≡ d.numbers → e ≡ d → IsIndexHeader numbers c after None → (b : Broken)
    → read_plan (times (index_kind e) (entry_count numbers) no_entries) after ≡ Err b → read_file (tii_plan d) bytes ≡ Err b
to_fault d e numbers bytes c after at same is header b broken =
    file-broken (tii_plan d) bytes b (ap (λ (x : Cursor). read_plan (tii_plan d) x) (sym at) ∙ index-header-good d numbers c after same header
    ∙ entries-broken d after b (ap (λ (m : TermNumbers). read_plan (times (index_kind d) (entry_count m) no_entries) after) (sym same) ∙ ap (λ (x : Dictionary). read_plan (times (index_kind x) (entry_count numbers) no_entries) after) (sym is) ∙ broken))

pub returns-in-Some-clause-err : goal.returns-in-Some-clause-err
returns-in-Some-clause-err c =
    let d = c.args.terms.now in
    let bytes = c.args.tii.now in
    IsBrokenSo-same Tii 0 c.in-Some.rule (read_file (tii_plan d) bytes) c.fault_at.result
    (file-broken (tii_plan d) bytes (record { offset = 0; rule = c.in-Some.rule })
    (index-header-broken d c.numbers-numbers.result (start_of bytes) c.header_at.new.cur c.in-Some.rule c.numbers-numbers.ensures.numbers (subst (λ (x : Cursor). IsIndexHeader c.numbers-numbers.result x c.header_at.new.cur (Some c.in-Some.rule)) c.at-cur.ensures c.in-Some.ensures)))
    c.fault_at.ensures

pub returns-in-Err-clause-err : goal.returns-in-Err-clause-err
returns-in-Err-clause-err c =
    let d = c.args.terms.now in
    let n = c.numbers-numbers.result in
    let e = c.in_ok-cursor.cursor.dictionary in
    let bytes = c.args.tii.now in
    let header = subst (λ (o : Option ℕ). IsIndexHeader n c.at-cur.result c.header_at.new.cur o) c.in_default.is c.header_at.ensures in
    IsBrokenSo-map Tii (read_plan (times (index_kind e) (entry_count n) no_entries) c.header_at.new.cur) (read_file (tii_plan d) bytes) c.in-Err.fault
    (to_fault d e n bytes c.at-cur.result c.header_at.new.cur c.at-cur.ensures c.numbers-numbers.ensures.numbers (ap (λ (w : TermWalk). w.dictionary) c.in_ok-cursor.ensures) header) c.in-Err.ensures.err

pub returns-then-left-gt0-clause-err : goal.returns-then-left-gt0-clause-err
returns-then-left-gt0-clause-err c =
    let d = c.args.terms.now in
    let n = c.numbers-numbers.result in
    let e = c.in_ok-cursor.cursor.dictionary in
    let bytes = c.args.tii.now in
    let header = subst (λ (o : Option ℕ). IsIndexHeader n c.at-cur.result c.header_at.new.cur o) c.in_default.is c.header_at.ensures in
    let ok = c.in_default-check_points.ensures.ok in
    let read = to_end d e n bytes c.at-cur.result c.header_at.new.cur c.check_points.new.cur ok.0 c.at-cur.ensures c.numbers-numbers.ensures.numbers (ap (λ (w : TermWalk). w.dictionary) c.in_ok-cursor.ensures) header ok.1 in
    IsBrokenSo-same Tii c.place.result number.trailing (read_file (tii_plan d) bytes) c.fault_at-then-left-gt0.result
    (file-trailing (tii_plan d) bytes tt c.check_points.new.cur read (λ none. omega (arith, c.left.ensures, none)) ∙ ap (λ (k : ℕ). Err (record { offset = k; rule = number.trailing })) (sym c.place.ensures))
    c.fault_at-then-left-gt0.ensures

pub returns-clause-ok : goal.returns-clause-ok
returns-clause-ok c =
    let d = c.args.terms.now in
    let n = c.numbers-numbers.result in
    let e = c.in_ok-cursor.cursor.dictionary in
    let bytes = c.args.tii.now in
    let header = subst (λ (o : Option ℕ). IsIndexHeader n c.at-cur.result c.header_at.new.cur o) c.in_default.is c.header_at.ensures in
    let ok = c.in_default-check_points.ensures.ok in
    let read = to_end d e n bytes c.at-cur.result c.header_at.new.cur c.check_points.new.cur ok.0 c.at-cur.ensures c.numbers-numbers.ensures.numbers (ap (λ (w : TermWalk). w.dictionary) c.in_ok-cursor.ensures) header ok.1 in
    file-read (tii_plan d) bytes tt c.check_points.new.cur read (omega arith)
