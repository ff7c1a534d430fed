use Rattle.std.proofs.Common.{◌≡◌, ℕ, ◌+◌, ◌<◌, List, refl, sym, ap, subst, ◌∙◌, arith}
use Rattle.std.specs.Str.{IsUtf8}
use Rattle.lu_grammar.specs.Bytes.{Cursor}
use Rattle.lu_grammar.specs.Plans.{read_plan, times}
use Rattle.lu_grammar.proofs.Plans.{ok_of}
use Rattle.lu_types.specs.declared.term.TermNumbers.{TermNumbers}
use Rattle.term_dict.specs.Terms.{DictionaryTerm}
use Rattle.term_dict.specs.Index.{index_kind, no_entries, entry_count}
use Rattle.term_index.specs.declared.mark.Mark.{Mark}
use Rattle.term_index.specs.Points.{last_term_of}
use Rattle.term_index.specs.Seeking.{searched}
use Rattle.term_index.proofs.LoadLemmas.{AllEntries, all_entries, all_from, header-there, header-start, IsLoading, IsLoading-none, next_entry_is, HasEntry-there, entry_read, IsLoading-first, IsLoading-more, indexed-text}
use Rattle.term_index.proofs.loading.marks_of.Goals as goal
use Rattle.term_index.proofs.loading.marks_of.Goals.{then-number-gt0+in_ok-mark_of_last+in_ok-push, else-number-gt0}

pub unreachable-requires : goal.unreachable-requires
unreachable-requires c = header-there c.args.terms.now c.args.tii.now c.at-cur.result c.in_default.field-0 c.requires.index c.at-cur.ensures c.in_default.ensures

pub loop-number-init : goal.loop-number-init
loop-number-init c = IsLoading-none (searched c.args.terms.now c.args.names.now) c.heading_at.new.cur (last_term_of c.new-last.result) c.new-last.result.place c.new-marks.result.items c.new-last.ensures.last c.new-last.ensures.place c.new-marks.ensures.items

pub next_entry-requires : goal.next_entry-requires
next_entry-requires c =
    let d = c.args.terms.now in
    let s = searched d c.args.names.now in
    let l = c.loop-number in
    let same = ap (λ (m : TermNumbers). entry_count m) c.numbers-numbers.ensures.numbers in
    let lt : l.number < entry_count d.numbers = omega (arith, c.loop-number-test.true, c.entry_count-number-end.ensures, same) in
    let all = all_from d c.args.tii.now c.at-cur.result c.heading_at.new.cur c.in-Ok.field-0 c.requires.index c.at-cur.ensures c.in-Ok.ensures in
    let next = next_entry_is d c.heading_at.new.cur l.number l.cur (last_term_of l.last) l.last.place all.0 all.1 lt l.invariant.read in
    HasEntry-there s c.heading_at.new.cur l.number l.cur (last_term_of l.last) l.last.place c.numbers-numbers.result.skip_interval c.requires.terms lt (ap (λ (m : TermNumbers). m.skip_interval) c.numbers-numbers.ensures.numbers) next

pub mark_of_last-requires : goal.mark_of_last-requires
mark_of_last-requires c =
    let d = c.args.terms.now in
    let s = searched d c.args.names.now in
    let l = c.loop-number in
    let same = ap (λ (m : TermNumbers). entry_count m) c.numbers-numbers.ensures.numbers in
    let lt : l.number < entry_count d.numbers = omega (arith, c.loop-number-test.true, c.entry_count-number-end.ensures, same) in
    let all = all_from d c.args.tii.now c.at-cur.result c.heading_at.new.cur c.in-Ok.field-0 c.requires.index c.at-cur.ensures c.in-Ok.ensures in
    let next = next_entry_is d c.heading_at.new.cur l.number l.cur (last_term_of l.last) l.last.place all.0 all.1 lt l.invariant.read in
    let e = c.in_ok-next_entry.ensures in
    let read = entry_read d c.heading_at.new.cur l.number l.cur c.next_entry.new.cur (last_term_of l.last) l.last.place (last_term_of c.next_entry.new.last) c.next_entry.new.last.place c.numbers-numbers.result.skip_interval e.0 (ap (λ (m : TermNumbers). m.skip_interval) c.numbers-numbers.ensures.numbers) next e.1 e.2 e.3 in
    subst (λ (t : DictionaryTerm). IsUtf8 t.text) (sym read.term) (indexed-text s l.number c.requires.terms lt)

pub loop-number-preserved : goal.loop-number-preserved
loop-number-preserved c =
    let d = c.args.terms.now in
    let s = searched d c.args.names.now in
    let l = c.loop-number in
    let last = last_term_of c.next_entry.new.last in
    let place = c.next_entry.new.last.place in
    let same = ap (λ (m : TermNumbers). entry_count m) c.numbers-numbers.ensures.numbers in
    let lt : l.number < entry_count d.numbers = omega (arith, c.loop-number-test.true, c.entry_count-number-end.ensures, same) in
    let all = all_from d c.args.tii.now c.at-cur.result c.heading_at.new.cur c.in-Ok.field-0 c.requires.index c.at-cur.ensures c.in-Ok.ensures in
    let next = next_entry_is d c.heading_at.new.cur l.number l.cur (last_term_of l.last) l.last.place all.0 all.1 lt l.invariant.read in
    let e = c.in_ok-next_entry.ensures in
    let read = entry_read d c.heading_at.new.cur l.number l.cur c.next_entry.new.cur (last_term_of l.last) l.last.place last place c.numbers-numbers.result.skip_interval e.0 (ap (λ (m : TermNumbers). m.skip_interval) c.numbers-numbers.ensures.numbers) next e.1 e.2 e.3 in
    elim c.if-number-gt0.branch [
      | then-number-gt0+in_ok-mark_of_last+in_ok-push w ↦
          subst (λ (ms : List Mark). IsLoading s c.heading_at.new.cur (l.number + 1) c.next_entry.new.cur last place ms) (sym (ap (λ v. v.items) w.marks-is))
          (IsLoading-more s c.heading_at.new.cur l.number l.cur c.next_entry.new.cur (last_term_of l.last) last l.last.place place l.marks.items w.push.new.self.items w.in_ok-mark_of_last.field-0 l.invariant read (omega (arith, w.if-number-gt0.true)) w.in_ok-mark_of_last.ensures w.in_ok-push.ensures.items)
      | else-number-gt0 w ↦
          subst (λ (ms : List Mark). IsLoading s c.heading_at.new.cur (l.number + 1) c.next_entry.new.cur last place ms) (sym (ap (λ v. v.items) w.marks-is))
          (IsLoading-first s c.heading_at.new.cur l.number l.cur c.next_entry.new.cur (last_term_of l.last) last l.last.place place l.marks.items l.invariant read (λ some. omega (arith, some, w.if-number-gt0.false)))
    ]
