use Rattle.std.proofs.Common.{◌≡◌, ℕ, length, List, Ok, Err, sym, ap, subst, ◌∙◌, arith, refl}
use Rattle.lu_grammar.specs.Bytes.{Cursor, start_of}
use Rattle.lu_types.specs.RuleNumbers as number
use Rattle.lu_grammar.specs.Plans.{Broken, read_plan, times, read_file}
use Rattle.lu_types.specs.declared.kind.FileKind.TheVariants.{Tis}
use Rattle.lu_types.specs.declared.term.TermNumbers.{TermNumbers}
use Rattle.term_dict.specs.Dictionary.{TermConditions, Progress, within, term_kind, no_terms, dictionary_plan}
use Rattle.term_dict.specs.Checks.{IsHeader}
use Rattle.term_dict.proofs.LoopLemmas.{IsBrokenSo-same, IsBrokenSo-map}
use Rattle.term_dict.proofs.FileLemmas.{header-good, header-broken, dictionary_of, terms-read, terms-broken, file-read, file-trailing, file-broken}
use Rattle.term_dict.proofs.checking.check_bytes.Goals as goal

-- what is read of a file whose header is good, and whose terms are
to_terms : (standing : TermConditions) (bytes : List ℕ) (c d : Cursor) (numbers : TermNumbers) → c ≡ start_of bytes → IsHeader c d (Ok numbers) → (s : Progress) (e : Cursor)
    → read_plan (times (term_kind standing numbers.skip_interval) numbers.count no_terms) d ≡ Ok (s, e)
    → read_plan (dictionary_plan standing (length bytes)) (start_of bytes) ≡ Ok (dictionary_of numbers (length bytes) s, e)
to_terms standing bytes c d numbers is good s e read =
    ap (λ (x : Cursor). read_plan (dictionary_plan standing (length bytes)) x) (sym is) ∙ header-good standing (length bytes) c d numbers good ∙ terms-read standing (length bytes) numbers d e s read

to_fault : (standing : TermConditions) (bytes : List ℕ) (c d : Cursor) (numbers : TermNumbers) → c ≡ start_of bytes → IsHeader c d (Ok numbers) → (b : Broken)
    → read_plan (times (term_kind standing numbers.skip_interval) numbers.count no_terms) d ≡ Err b → read_file (dictionary_plan standing (length bytes)) bytes ≡ Err b
to_fault standing bytes c d numbers is good b broken =
    file-broken (dictionary_plan standing (length bytes)) bytes b (ap (λ (x : Cursor). read_plan (dictionary_plan standing (length bytes)) x) (sym is) ∙ header-good standing (length bytes) c d numbers good ∙ terms-broken standing (length bytes) numbers d b broken)

pub returns-in-Err-clause-err : goal.returns-in-Err-clause-err
returns-in-Err-clause-err c =
    let standing = within c.args.fields.now c.args.documents in
    let bytes = c.args.tis.now in
    let header : IsHeader (start_of bytes) c.header_at.new.cur (Err c.in-Err.rule) = subst (λ (x : Cursor). IsHeader x c.header_at.new.cur (Err c.in-Err.rule)) c.at-cur.ensures c.in-Err.ensures in
    IsBrokenSo-same Tis 0 c.in-Err.rule (read_file (dictionary_plan standing (length bytes)) bytes) c.fault_at.result
    (file-broken (dictionary_plan standing (length bytes)) bytes (record { offset = 0; rule = c.in-Err.rule }) (header-broken standing (length bytes) (start_of bytes) c.header_at.new.cur c.in-Err.rule header))
    c.fault_at.ensures

pub returns-in-Err-check_terms-clause-err : goal.returns-in-Err-check_terms-clause-err
returns-in-Err-check_terms-clause-err c =
    let standing = within c.args.fields.now c.args.documents in
    let bytes = c.args.tis.now in
    IsBrokenSo-map Tis (read_plan (times (term_kind standing c.in-Ok.numbers.skip_interval) c.in-Ok.numbers.count no_terms) c.header_at.new.cur) (read_file (dictionary_plan standing (length bytes)) bytes) c.in-Err-check_terms.fault
    (to_fault standing bytes c.at-cur.result c.header_at.new.cur c.in-Ok.numbers c.at-cur.ensures c.in-Ok.ensures) c.in-Err-check_terms.ensures.err

pub returns-then-left-gt0-clause-err : goal.returns-then-left-gt0-clause-err
returns-then-left-gt0-clause-err c =
    let standing = within c.args.fields.now c.args.documents in
    let bytes = c.args.tis.now in
    let ok = c.in-Ok-check_terms.ensures.ok in
    let read = to_terms standing bytes c.at-cur.result c.header_at.new.cur c.in-Ok.numbers c.at-cur.ensures c.in-Ok.ensures ok.0 c.check_terms.new.cur ok.1 in
    IsBrokenSo-same Tis c.place.result number.trailing (read_file (dictionary_plan standing (length bytes)) bytes) c.fault_at-then-left-gt0.result
    (file-trailing (dictionary_plan standing (length bytes)) bytes (dictionary_of c.in-Ok.numbers (length bytes) ok.0) c.check_terms.new.cur read (λ none. omega (arith, c.left.ensures, none))
    ∙ ap (λ (n : ℕ). Err (record { offset = n; rule = number.trailing })) (sym c.place.ensures))
    c.fault_at-then-left-gt0.ensures

pub returns-clause-ok : goal.returns-clause-ok
returns-clause-ok c =
    let standing = within c.args.fields.now c.args.documents in
    let bytes = c.args.tis.now in
    let ok = c.in-Ok-check_terms.ensures.ok in
    let read = to_terms standing bytes c.at-cur.result c.header_at.new.cur c.in-Ok.numbers c.at-cur.ensures c.in-Ok.ensures ok.0 c.check_terms.new.cur ok.1 in
    (dictionary_of c.in-Ok.numbers (length bytes) ok.0, file-read (dictionary_plan standing (length bytes)) bytes (dictionary_of c.in-Ok.numbers (length bytes) ok.0) c.check_terms.new.cur read (omega arith), refl, c.in-Ok.ensures.3, ok.2)
