-- The files of a writer are read as the terms that it was handed.
use Rattle.std.proofs.Common.{rules, ◌≡◌, ℕ, ◌<◌, ◌≤◌, ◌^◌, false, ltb, leb, List, [], ◌∷◌, ◌++◌, length, take, None, Ok, pos, negsuc, refl, sym, ap, subst, ◌∙◌, arith}
use Rattle.std.specs.Prelude.{slice_index_or}
use Rattle.std.proofs.lemmas.Bool.{le-ltb, lt-leb}
use Rattle.std.proofs.lemmas.Str.{is_utf8-from_IsUtf8}
use Rattle.std.proofs.lemmas.List.{append-nil, length-drop}
use Rattle.std.proofs.Math.Seq.{take-length}
use Rattle.lu_grammar.specs.Bytes.{IsBytes}
use Rattle.lu_grammar.specs.Parts.{int32, int64, spelling, IsValue}
use Rattle.lu_grammar.specs.Records.{Spells, first_broken}
use Rattle.lu_grammar.specs.Plans.{times}
use Rattle.lu_grammar.specs.Meaning.{Reads}
use Rattle.lu_grammar.proofs.Writers.{Writes, Writes-due, Writes-done, Writes-and_then, read_file-Writes}
use Rattle.lu_grammar.proofs.Parts.{IsBytes-drop}
use Rattle.lu_grammar.proofs.Files.{Reads-from}
use Rattle.lu_types.specs.Tables.{TableField}
use Rattle.term_dict.specs.declared.heading.Heading.{Heading}
use Rattle.lu_types.specs.declared.term.TermNumbers.{TermNumbers}
use Rattle.term_dict.specs.Headings.{heading_conditions, header, numbers_of, heading, heading_of}
use Rattle.term_dict.specs.Terms.{DictionaryTerm, no_term, last_term, term_after}
use Rattle.term_dict.specs.Dictionary.{Dictionary, no_terms, within, term_place_conditions, against, term_conditions, term_kind, terms_plan, dictionary_plan, tis_plan}
use Rattle.term_dict.specs.Canonical.{shared, entry_between, terms_bytes, term_record_bytes, header_bytes, canonical_tis}
use Rattle.term_dict.specs.Writing.{TermsWritten, numbers_written, FollowsTerm, IsSpellable, AreSpellable}
use Rattle.term_dict.specs.Laws.{IsReadable, dictionary_written}
use Rattle.lu_grammar.proofs.SpelledBytes.{IsBytes-append}
use Rattle.term_dict.proofs.ByteLemmas.{IsSmallEntry, term_record_bytes-bytes, header_bytes-bytes}
use Rattle.lu_grammar.proofs.Codecs.{first_broken-after}
use Rattle.term_dict.proofs.ConditionLemmas.{against-text}
use Rattle.term_dict.proofs.FileLemmas.{finish, dictionary_of}
use Rattle.term_dict.proofs.WriteLemmas.{entry_at, spelled, spellable-at, last_after-last, entry_between-again, shared-within}

-- ---- the header

-- a header as it is written
abbrev pub heading_written : TermNumbers → ℕ → Heading
heading_written numbers count = record { format = negsuc 3; count = pos count; index_interval = pos numbers.index_interval; skip_interval = pos numbers.skip_interval; max_levels = pos numbers.max_levels }

fits32 : (n : ℕ) → n < 2 ^ 31 → IsValue int32 (pos n)
fits32 n lt = search rules

fits64 : (n : ℕ) → n < 2 ^ 63 → IsValue int64 (pos n)
fits64 n lt = search rules

pub header-spells : {E : Type 0} (numbers : TermNumbers) (count : ℕ) → count < 2 ^ 63 → numbers.index_interval < 2 ^ 31 → numbers.skip_interval < 2 ^ 31 → numbers.max_levels < 2 ^ 31
    → Spells (header {E = E}) (heading (heading_written numbers count)) (header_bytes numbers count)
header-spells numbers count c i s m =
    let e = spelling int32 (pos numbers.max_levels) in
    let d = spelling int32 (pos numbers.skip_interval) ++ e in
    let b = spelling int32 (pos numbers.index_interval) ++ d in
    let a = spelling int64 (pos count) ++ b in (
      negsuc 3,
      a,
      search rules,
      refl,
      (
        pos count,
        b,
        fits64 count c,
        refl,
        (
          pos numbers.index_interval,
          d,
          fits32 numbers.index_interval i,
          refl,
          (
            pos numbers.skip_interval,
            e,
            fits32 numbers.skip_interval s,
            refl,
            (pos numbers.max_levels, [], fits32 numbers.max_levels m, sym (append-nil e), (refl, refl)),
          ),
        ),
      ),
    )

header-good : (numbers : TermNumbers) (count : ℕ) → count < 2 ^ 31 → 1 ≤ numbers.index_interval → 2 ≤ numbers.skip_interval → 1 ≤ numbers.max_levels → first_broken (heading_conditions (heading_written numbers count)) ≡ None
header-good numbers count c i s m =
    let f1 : ltb count 0 ≡ false = le-ltb _ _ (omega arith) in
    let f2 : ltb 2147483647 count ≡ false = le-ltb _ _ (omega arith) in
    let f3 : ltb numbers.index_interval 1 ≡ false = le-ltb _ _ i in
    let f4 : ltb numbers.skip_interval 2 ≡ false = le-ltb _ _ s in
    let f5 : ltb numbers.max_levels 1 ≡ false = le-ltb _ _ m in
    rw (f1, f2, f3, f4, f5) refl

-- ---- the terms

-- a term that can stand is good
term-good : (fields : List TableField) (documents : ℕ) (w : TermsWritten) (k : ℕ) → IsReadable fields documents w → k < length w.terms → first_broken (term_conditions (within fields documents) (take k w.terms) (entry_at w.terms k)) ≡ None
term-good fields documents w k h lt =
    let ts = w.terms in
    let before = last_term (take k ts) in
    let t = slice_index_or ts k no_term in
    let at = spellable-at w.skip_interval no_term ts k h.spellable lt in
    let follows : FollowsTerm before.info t.info = subst (λ (b : DictionaryTerm). FollowsTerm b.info t.info) (last_after-last (take k ts)) at.follows in
    let e = entry_between before t in
    let again : term_after before e ≡ t = entry_between-again before t follows.freq follows.prox in
    let stands = h.stands k lt in
    let text = against-text (within fields documents) (take k ts) e t (shared-within before.text t.text).0 (is_utf8-from_IsUtf8 t.text at.here.text) in
    let f1 : leb (2 ^ 31) t.info.freq ≡ false = lt-leb _ _ stands.1 in
    let f2 : leb (2 ^ 31) t.info.prox ≡ false = lt-leb _ _ stands.2 in
    let place : first_broken (term_place_conditions t) ≡ None = rw (f1, f2) refl in
    ap (λ (x : DictionaryTerm). first_broken (against (within fields documents) (take k ts) e x)) again ∙ text ∙ first_broken-after (within fields documents (take k ts) t) (term_place_conditions t) stands.0 ∙ place

-- the bytes of terms
small-entry : (interval : ℕ) (before t : DictionaryTerm) → IsSpellable interval t → FollowsTerm before.info t.info → IsSmallEntry (entry_between before t)
small-entry interval before t here follows = record {
  prefix = omega (arith, (shared-within before.text t.text).1, here.small);
  count = omega (arith, length-drop (shared before.text t.text) t.text, here.small);
  suffix = IsBytes-drop (shared before.text t.text) t.text here.bytes;
  field = omega (arith, here.field);
  doc_freq = omega (arith, follows.doc_freq);
  freq = omega (arith, here.freq);
  prox = omega (arith, here.prox);
  skip = omega (arith, follows.skip);
}

terms_bytes-bytes : (interval : ℕ) (before : DictionaryTerm) (ts : List DictionaryTerm) → AreSpellable interval before ts → IsBytes (terms_bytes interval before ts)
terms_bytes-bytes interval before [] h = λ i. omega arith
terms_bytes-bytes interval before (t ∷ ts) h =
    IsBytes-append (term_record_bytes interval (entry_between before t) []) (terms_bytes interval t ts) (term_record_bytes-bytes interval (entry_between before t) [] (small-entry interval before t h.0 h.1) (λ i. omega arith)) (terms_bytes-bytes interval t ts h.2)

-- the file of terms
pub tis-reads : (fields : List TableField) (documents : ℕ) (w : TermsWritten) → IsReadable fields documents w
    → Reads (tis_plan fields documents (length (canonical_tis (numbers_written w) w.terms))) (canonical_tis (numbers_written w) w.terms) (dictionary_written w)
tis-reads fields documents w h =
    let ts = w.terms in
    let k = w.skip_interval in
    let numbers = numbers_written w in
    let bytes = canonical_tis numbers ts in
    let size = length bytes in
    let standing = within fields documents in
    let all : take (length ts) ts ≡ ts = take-length ts in
    let done_terms = spelled (term_conditions standing) k ts (length ts) h.spellable (omega arith) (λ i lt. term-good fields documents w i h lt) in
    let s = done_terms.s in
    let v = dictionary_of numbers size s in
    let body : Writes (terms_plan standing size numbers) 24 (terms_bytes k no_term (take (length ts) ts) ++ []) v =
    Writes-and_then (times (term_kind standing k) (length ts) no_terms) (finish numbers size) 24 (terms_bytes k no_term (take (length ts) ts)) [] s v done_terms.writes (Writes-done _ v) in
    let whole_body : Writes (terms_plan standing size numbers) 24 (terms_bytes k no_term ts) v = subst (λ (b : List ℕ). Writes (terms_plan standing size numbers) 24 b v) (append-nil (terms_bytes k no_term (take (length ts) ts)) ∙ ap (terms_bytes k no_term) all) body in
    let file : Writes (dictionary_plan standing size) 0 bytes v =
    Writes-due header (λ place line. heading_conditions (heading_of line)) (λ place line. terms_plan standing size (numbers_of (heading_of line))) 0 (heading (heading_written numbers (length ts))) (header_bytes numbers (length ts)) (terms_bytes k no_term ts) v
    (header-spells numbers (length ts) (omega (arith, h.few)) h.intervals.index_interval.1 h.intervals.skip_interval.1 h.intervals.max_levels.1)
    (header-good numbers (length ts) h.few h.intervals.index_interval.0 h.intervals.skip_interval.0 h.intervals.max_levels.0) whole_body in
    let value : v ≡ dictionary_written w = ap (λ (xs : List DictionaryTerm). made numbers xs s.starts size) (done_terms.terms ∙ all) ∙ ap (λ (ns : List ℕ). made numbers ts ns size) done_terms.starts in
    let fits : IsBytes bytes = IsBytes-append (header_bytes numbers (length ts)) (terms_bytes k no_term ts) (header_bytes-bytes numbers (length ts)) (terms_bytes-bytes k no_term ts h.spellable) in
    Reads-from (dictionary_plan standing size) bytes (dictionary_written w) fits (read_file-Writes (dictionary_plan standing size) bytes v file ∙ ap (λ (d : Dictionary). Ok d) value)
  where
    made : TermNumbers → List DictionaryTerm → List ℕ → ℕ → Dictionary
    made numbers terms starts size = record { numbers = numbers; terms = terms; starts = starts; size = size }
