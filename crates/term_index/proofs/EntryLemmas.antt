-- What a good entry of the index is.
use Rattle.std.proofs.Common.{◌≡◌, ℕ, ◌+◌, Bool, true, false, not, ◌&&◌, eqb, ltb, List, [], length, Option, Some, None, Result, Ok, Err, refl, sym, ap, ◌∙◌}
use Rattle.std.specs.Prelude.{IfOk, if◌then◌else◌}
use Rattle.std.specs.Str.{bytes_eq}
use Rattle.std.proofs.lemmas.Bool.{eqb-true}
use Rattle.std.proofs.lemmas.Slice.Eq.{bytes_eq-Decides}
use Rattle.lu_grammar.specs.declared.bad.Bad.{Bad}
use Rattle.lu_grammar.specs.Bytes.{Cursor}
use Rattle.lu_grammar.specs.Records.{first_broken, rule_of, read_shape}
use Rattle.lu_types.specs.declared.term.TermInfo.{TermInfo}
use Rattle.lu_types.specs.RuleNumbers as number
use Rattle.term_dict.specs.Headings.{entry, on_entry}
use Rattle.term_dict.specs.Terms.{DictionaryTerm, term_after}
use Rattle.term_dict.specs.Dictionary.{Dictionary}
use Rattle.term_dict.specs.Index.{IndexEntry, IndexProgress, index_shape, index_kind, index_against, index_conditions, index_entry_term, indexed_place, same_info, same_term}
use Rattle.term_dict.specs.Checks.{record_of}
use Rattle.term_dict.proofs.LineLemmas.{line_at-good, line_at-broken, line_at-unread}
use Rattle.term_index.specs.Points.{progress, IsNextPoint}

both : (a b : Bool) → (a && b) ≡ true → (a ≡ true) × (b ≡ true)
both true b e = (refl, e)
both false b e = cc

holds : (b : Bool) → not b ≡ false → b ≡ true
holds true e = refl
holds false e = cc

three : (a b c : Bool) (r s t : ℕ) → (if a then Some r else if b then Some s else if c then Some t else None) ≡ None → (a ≡ false) × (b ≡ false) × (c ≡ false)
three true b c r s t e = cc
three false true c r s t e = cc
three false false true r s t e = cc
three false false false r s t e = (refl, refl, refl)

pub bytes_eq-true : (xs ys : List ℕ) → bytes_eq xs ys ≡ true → xs ≡ ys
bytes_eq-true xs ys e = (bytes_eq-Decides xs ys).0 e

abbrev info_of : ℕ → ℕ → ℕ → ℕ → ℕ → TermInfo
info_of field doc_freq freq prox skip = record { field = field; doc_freq = doc_freq; freq = freq; prox = prox; skip = skip }

same_info-true : (a b : TermInfo) → same_info a b ≡ true → a ≡ b
same_info-true a b e =
    let p = both (eqb a.field b.field && eqb a.doc_freq b.doc_freq && eqb a.freq b.freq && eqb a.prox b.prox) (eqb a.skip b.skip) e in
    let q = both (eqb a.field b.field && eqb a.doc_freq b.doc_freq && eqb a.freq b.freq) (eqb a.prox b.prox) p.0 in
    let r = both (eqb a.field b.field && eqb a.doc_freq b.doc_freq) (eqb a.freq b.freq) q.0 in
    let s = both (eqb a.field b.field) (eqb a.doc_freq b.doc_freq) r.0 in
    ap (λ (n : ℕ). info_of n a.doc_freq a.freq a.prox a.skip) (eqb-true _ _ s.0)
    ∙ ap (λ (n : ℕ). info_of b.field n a.freq a.prox a.skip) (eqb-true _ _ s.1)
    ∙ ap (λ (n : ℕ). info_of b.field b.doc_freq n a.prox a.skip) (eqb-true _ _ r.1)
    ∙ ap (λ (n : ℕ). info_of b.field b.doc_freq b.freq n a.skip) (eqb-true _ _ q.1)
    ∙ ap (info_of b.field b.doc_freq b.freq b.prox) (eqb-true _ _ p.1)

abbrev term_with : List ℕ → TermInfo → DictionaryTerm
term_with text info = record { text = text; info = info }

same_term-true : (a b : DictionaryTerm) → same_term a b ≡ true → a ≡ b
same_term-true a b e =
    let p = both (bytes_eq a.text b.text) (same_info a.info b.info) e in
    ap (λ (t : List ℕ). term_with t a.info) (bytes_eq-true a.text b.text p.0) ∙ ap (term_with b.text) (same_info-true a.info b.info p.1)

-- a good entry stands for what is wanted
pub good_entry : (last : DictionaryTerm) (place : ℕ) (e : IndexEntry) (wanted : DictionaryTerm) (wanted_place : ℕ) → first_broken (index_against last place e wanted wanted_place) ≡ None → (term_after last e.term ≡ wanted) × (place + e.step ≡ wanted_place)
good_entry last place e wanted wanted_place good =
    let all = three (ltb (length last.text) e.term.prefix) (not (same_term (term_after last e.term) wanted)) (not (eqb (place + e.step) wanted_place)) number.tii_prefix number.tii_term number.tii_place good in
    (same_term-true (term_after last e.term) wanted (holds _ all.1), eqb-true (place + e.step) wanted_place (holds _ all.2))

-- an entry that was read, and what was found against it
next-read : (d : Dictionary) (n : ℕ) (last : DictionaryTerm) (place : ℕ) (old new : Cursor) (e : IndexEntry) (o : Option ℕ) → read_shape (index_shape d.numbers.skip_interval) old ≡ Ok (e, new)
    → o ≡ first_broken (index_conditions d (progress n last place) e) → IsNextPoint d (progress n last place) old new o
next-read d n last place old new e None read is =
    let s = progress n last place in
    let good = good_entry last place e (index_entry_term d n) (indexed_place d n) (sym is) in (
      e,
      line_at-good (index_shape d.numbers.skip_interval) entry (λ line. on_entry [] (index_conditions d s) line) old e new read (sym is),
      ap (λ (t : DictionaryTerm). progress (n + 1) t (place + e.step)) good.0 ∙ ap (progress (n + 1) (index_entry_term d n)) good.1,
    )
next-read d n last place old new e (Some rule) read is =
    line_at-broken (index_shape d.numbers.skip_interval) entry (λ line. on_entry [] (index_conditions d (progress n last place)) line) old e new rule read (sym is)

pub next-judged : {E : Type 0} (d : Dictionary) (n : ℕ) (last : DictionaryTerm) (place : ℕ) (old new : Cursor) (e : IndexEntry) (interval : ℕ) (wanted : DictionaryTerm) (wanted_place : ℕ) (r : Result (Option ℕ) E) → interval ≡ d.numbers.skip_interval → wanted ≡ index_entry_term d n
    → wanted_place ≡ indexed_place d n → read_shape (index_shape interval) old ≡ Ok (e, new) → IfOk r (λ o. o ≡ first_broken (index_against last place e wanted wanted_place)) → IfOk r (IsNextPoint d (progress n last place) old new)
next-judged d n last place old new e interval wanted wanted_place (Ok o) k t p read judged =
    next-read d n last place old new e o (ap (λ (i : ℕ). read_shape (index_shape i) old) (sym k) ∙ read)
    (judged ∙ ap (λ (w : DictionaryTerm). first_broken (index_against last place e w wanted_place)) t ∙ ap (λ (w : ℕ). first_broken (index_against last place e (index_entry_term d n) w)) p)
next-judged d n last place old new e interval wanted wanted_place (Err x) k t p read judged = tt

pub next-unread : (d : Dictionary) (s : IndexProgress) (interval : ℕ) (old : Cursor) (bad : Bad) (rule : ℕ) → interval ≡ d.numbers.skip_interval → read_shape (index_shape interval) old ≡ Err bad → rule ≡ rule_of bad → record_of (index_kind d) s old ≡ Err rule
next-unread d s interval old bad rule k e is =
    line_at-unread (index_shape d.numbers.skip_interval) entry (λ line. on_entry [] (index_conditions d s) line) old bad (ap (λ (i : ℕ). read_shape (index_shape i) old) (sym k) ∙ e) ∙ ap (λ (n : ℕ). Err n) (sym is)
