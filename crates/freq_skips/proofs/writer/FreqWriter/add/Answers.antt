use Rattle.std.proofs.Common.{◌≡◌, ℕ, ◌+◌, ◌-◌, ◌%◌, ◌^◌, ◌<◌, ◌≤◌, ◌⊎◌, ◌++◌, ◌∷◌, [], Bool, true, List, Option, length, take, rules, ap, sym, subst, ◌∙◌, arith}
use Rattle.std.specs.Prelude.{if◌then◌else◌}
use Rattle.std.proofs.lemmas.List.{length-append}
use Rattle.freq_skips.specs.declared.writer.Mark.{Mark}
use Rattle.freq_skips.specs.Written.{Handed, canonical_parts, entry_parts_bytes, entry_bytes, entries_bytes, last_doc, AreInOrder}
use Rattle.freq_skips.specs.InnerLevels.{HasMarks}
use Rattle.freq_skips.specs.Writing.{FrqWriting, entry_added}
use Rattle.freq_skips.proofs.WriterLemmas.{AreWithin, AreWithin-more, AreWithin-same}
use Rattle.freq_skips.proofs.HandedLemmas.{HasMarks-more, HasMarks-same, order-more, entries-few, last-small, last_doc-more, written-more, entries-long}
use Rattle.freq_skips.proofs.writer.FreqWriter.add.Goals as goal
use Rattle.freq_skips.proofs.writer.FreqWriter.add.Goals.{then-self-eq0+in-Ok-push, else-self-eq0}

-- few entries, as their documents are below 2^31
few-entries : (count : ℕ) (entries : List Handed) → count ≡ length entries → AreInOrder (2 ^ 31) true 0 entries → count + 1 < 2 ^ 32
few-entries count entries is order = omega (arith, entries-few (2 ^ 31) entries order, last-small (2 ^ 31) 0 true entries (omega arith) order)

pub overflow_add-self-inside : goal.overflow_add-self-inside
overflow_add-self-inside c = let lt = few-entries c.self.inside.count c.self.inside.entries.items c.self.invariant.count c.self.invariant.order in search rules

pub overflow_add-self : goal.overflow_add-self
overflow_add-self c =
    let lt = few-entries c.self.inside.count c.self.inside.entries.items c.self.invariant.count c.self.invariant.order in
    elim c.if-self-eq0.branch [
      | then-self-eq0+in-Ok-push w ↦ rw w.self-inside-is (search rules)
      | else-self-eq0 w ↦ rw w.self-inside-is (search rules)
    ]

-- the entry is appended
entry-put : (omit : Bool) (doc now freq prox : ℕ) (bytes more : List ℕ) (x : ℕ × Option ℕ) (entries : List Handed) → x ≡ canonical_parts omit (doc - now) freq → now ≡ last_doc 0 entries → more ≡ bytes ++ entry_parts_bytes x.0 x.1
    → more ≡ bytes ++ entry_bytes omit (last_doc 0 entries) (record { doc = doc; freq = freq; prox = prox })
entry-put omit doc now freq prox bytes more x entries is at e =
    e ∙ ap (λ (y : ℕ × Option ℕ). bytes ++ entry_parts_bytes y.0 y.1) is ∙ ap (λ (n : ℕ). bytes ++ entry_parts_bytes (canonical_parts omit (doc - n) freq).0 (canonical_parts omit (doc - n) freq).1) at

abbrev mark_with : ℕ → ℕ → ℕ → Mark
mark_with doc freq prox = record { doc = doc; freq = freq; prox = prox }

-- the mark is that of the entry
mark-is : (omit : Bool) (start now before prox : ℕ) (bytes : List ℕ) (m : Mark) (entries : List Handed) → m ≡ mark_with now (before - start) (if omit then 0 else prox) → now ≡ last_doc 0 entries → before ≡ length bytes
    → start ≤ length bytes → bytes ≡ take start bytes ++ entries_bytes omit 0 entries → m ≡ mark_with (last_doc 0 entries) (length (entries_bytes omit 0 entries)) (if omit then 0 else prox)
mark-is omit start now before prox bytes m entries is at size le whole =
    is ∙ ap (λ (n : ℕ). mark_with n (before - start) (if omit then 0 else prox)) at
    ∙ ap (λ (n : ℕ). mark_with (last_doc 0 entries) n (if omit then 0 else prox)) (ap (λ (n : ℕ). n - start) size ∙ entries-long omit start bytes entries le whole)

pub invariant_of-self-2 : goal.invariant_of-self-2
invariant_of-self-2 c =
    let i = c.self.invariant in
    let s = c.self.inside in
    let h : Handed = record { doc = c.args.doc; freq = c.args.freq; prox = c.args.prox } in
    let grown = entry-put s.omit_tf c.args.doc s.doc c.args.freq c.args.prox s.bytes.items c.put_entry.new.out.items c.canonical-delta.result s.entries.items c.canonical-delta.ensures i.last c.in_ok-put_entry.ensures.ok in
    let more = written-more s.omit_tf s.start s.bytes.items c.put_entry.new.out.items s.entries.items h i.start_within i.written grown in
    let pushed : c.push.new.self.items ≡ s.entries.items ++ h ∷ [] = c.in-Ok.ensures.items in
    let size : length s.bytes.items ≤ length c.put_entry.new.out.items = omega (arith, ap length grown, length-append s.bytes.items (entry_bytes s.omit_tf (last_doc 0 s.entries.items) h)) in
    let room : length s.bytes.items - s.start ≤ length c.put_entry.new.out.items - s.start = omega arith in
    let written = more.1 ∙ ap (λ (l : List Handed). take s.start c.put_entry.new.out.items ++ entries_bytes s.omit_tf 0 l) (sym pushed) in
    let count : s.count + 1 ≡ length c.push.new.self.items = omega (arith, i.count, ap length pushed, length-append s.entries.items (h ∷ [])) in
    let last : c.args.doc ≡ last_doc 0 c.push.new.self.items = sym (last_doc-more 0 s.entries.items h) ∙ ap (λ (l : List Handed). last_doc 0 l) (sym pushed) in
    let which = subst (λ (w : FrqWriting). (w.entries ≡ []) ⊎ (last_doc 0 w.entries < c.args.doc)) (sym c.self.view_is) c.requires.order in
    let order = subst (λ (l : List Handed). AreInOrder (2 ^ 31) true 0 l) (sym pushed) (order-more (2 ^ 31) s.entries.items h i.order which c.requires.doc_small c.requires.doc_small c.requires.some c.requires.freq_small) in
    let small = last-small (2 ^ 31) 0 true s.entries.items (omega arith) i.order in
    let mark = mark-is s.omit_tf s.start s.doc c.len-before.result c.args.prox s.bytes.items c.mark_before-mark.result s.entries.items c.mark_before-mark.ensures i.last (omega (arith, c.len-before.ensures)) i.start_within i.written in
    elim c.if-self-eq0.branch [
      | then-self-eq0+in-Ok-push w ↦
          let due = ap (λ (n : ℕ). (n + 1) % s.skip_interval) (sym i.count) ∙ w.if-self-eq0.true in
          let marks = HasMarks-more s.omit_tf s.skip_interval s.entries.items s.marks.items h c.mark_before-mark.result i.interval i.marks due mark in
          rw w.self-inside-is (record {
            interval = i.interval;
            start_within = omega (arith, i.start_within);
            written = written;
            count = count;
            last = last;
            order = order;
            marks = subst (λ (l : List Mark). HasMarks s.omit_tf s.skip_interval c.push.new.self.items l) (sym w.in-Ok-push.ensures.items) (subst (λ (l : List Handed). HasMarks s.omit_tf s.skip_interval l (s.marks.items ++ c.mark_before-mark.result ∷ [])) (sym pushed) marks);
            small = subst (λ (l : List Mark). AreWithin l (length c.put_entry.new.out.items - s.start)) (sym w.in-Ok-push.ensures.items)
                (AreWithin-more s.marks.items (length s.bytes.items - s.start) (length c.put_entry.new.out.items - s.start) c.mark_before-mark.result i.small room
                (subst (λ (m : Mark). m.doc < 2 ^ 31) (sym mark) small)
                (subst (λ (m : Mark). m.freq ≤ length c.put_entry.new.out.items - s.start) (sym c.mark_before-mark.ensures) (omega (arith, c.len-before.ensures))));
          })
      | else-self-eq0 w ↦
          let marks = HasMarks-same s.omit_tf s.skip_interval s.entries.items s.marks.items h i.interval i.marks (λ e. w.if-self-eq0.false (ap (λ (n : ℕ). (n + 1) % s.skip_interval) i.count ∙ e)) in
          rw w.self-inside-is (record {
            interval = i.interval;
            start_within = omega (arith, i.start_within);
            written = written;
            count = count;
            last = last;
            order = order;
            marks = subst (λ (l : List Handed). HasMarks s.omit_tf s.skip_interval l s.marks.items) (sym pushed) marks;
            small = AreWithin-same s.marks.items (length s.bytes.items - s.start) (length c.put_entry.new.out.items - s.start) i.small room;
          })
    ]

abbrev state : ℕ → ℕ → List ℕ → Bool → Bool → List Handed → FrqWriting
state interval most bytes omit payloads entries = record { interval = interval; most = most; bytes = bytes; omit = omit; payloads = payloads; entries = entries }

pub returns-clause-ok : goal.returns-clause-ok
returns-clause-ok c =
    let i = c.self.invariant in
    let s = c.self.inside in
    let h : Handed = record { doc = c.args.doc; freq = c.args.freq; prox = c.args.prox } in
    let grown = entry-put s.omit_tf c.args.doc s.doc c.args.freq c.args.prox s.bytes.items c.put_entry.new.out.items c.canonical-delta.result s.entries.items c.canonical-delta.ensures i.last c.in_ok-put_entry.ensures.ok in
    let more = written-more s.omit_tf s.start s.bytes.items c.put_entry.new.out.items s.entries.items h i.start_within i.written grown in
    let is : state s.skip_interval s.max_levels (take s.start c.put_entry.new.out.items) s.omit_tf s.payloads c.push.new.self.items ≡ entry_added c.args.self.now h =
    ap (λ (b : List ℕ). state s.skip_interval s.max_levels b s.omit_tf s.payloads c.push.new.self.items) more.0
    ∙ ap (λ (l : List Handed). state s.skip_interval s.max_levels (take s.start s.bytes.items) s.omit_tf s.payloads l) c.in-Ok.ensures.items
    ∙ ap (λ (w : FrqWriting). entry_added w h) c.self.view_is in
    elim c.if-self-eq0.branch [
      | then-self-eq0+in-Ok-push w ↦ rw w.self-inside-is is
      | else-self-eq0 w ↦ rw w.self-inside-is is
    ]
