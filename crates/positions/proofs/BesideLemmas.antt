-- Both parts of a term that was written stand together.
use Rattle.std.proofs.Common.{◌≡◌, ℕ, zero, suc, ◌+◌, ◌-◌, ◌*◌, ◌<◌, ◌≤◌, Bool, true, false, if◌then◌else◌, List, [], ◌∷◌, ◌++◌, length, take, get_or, refl, sym, ap, subst, ◌∙◌, arith}
use Rattle.std.specs.Prelude.{slice_index_or}
use Rattle.std.proofs.lemmas.List.{length-append}
use Rattle.lu_grammar.specs.Bytes.{IsBytes, Cursor, place_in}
use Rattle.lu_grammar.specs.Meaning.{ReadsTo}
use Rattle.lu_types.specs.Occurrences.{Occurrence}
use Rattle.freq_skips.specs.declared.rules.RuledTerm.{RuledTerm}
use Rattle.freq_skips.specs.Entries.{Posting, no_posting}
use Rattle.freq_skips.specs.Levels.{stride}
use Rattle.freq_skips.specs.Terms.{TermData, term_plan}
use Rattle.freq_skips.specs.declared.writer.Handed.{Handed}
use Rattle.freq_skips.specs.Written.{no_handed, entry_bytes, written_postings}
use Rattle.freq_skips.specs.Writing.{IsAsHanded}
use Rattle.freq_skips.proofs.Powers.{power-pos}
use Rattle.positions.specs.Terms.{term_plan as prx_term_plan}
use Rattle.positions.specs.Written.{occurrences_bytes, IsHanded}
use Rattle.positions.specs.Beside.{IsBeside}
use Rattle.positions.specs.Cursors.{StandsInBoth, posted_term}
use Rattle.positions.proofs.PlaceLemmas.{datum-entry}
use Rattle.positions.proofs.WritingLemmas.{written-read}

posting-freq : (place last : ℕ) (hs : List Handed) (k : ℕ) → k < length hs → (get_or (written_postings false place last hs) k no_posting).freq ≡ (get_or hs k no_handed).freq
posting-freq place last [] k lt = absurd (omega arith)
posting-freq place last (h ∷ hs) zero lt = refl
posting-freq place last (h ∷ hs) (suc k) lt = posting-freq (place + length (entry_bytes false last h)) h.doc hs k (omega arith)

pub beside-handed : (t : RuledTerm) (value : TermData) (handed : List Handed) (written : List ℕ) (entries : List (List Occurrence)) → IsAsHanded t handed value → IsBeside t handed written entries → IsHanded (posted_term t value) (length written) entries
beside-handed t value handed written entries as_handed b = record {
  interval = b.interval;
  kept = b.kept;
  starts = b.starts;
  count = b.count;
  some = b.some;
  documents = b.documents;
  frequencies = λ k lt.
      let within : k < length handed = omega (arith, b.count, b.as_many) in
      ap (λ (l : List Posting). (get_or l k no_posting).freq) as_handed.postings
      ∙ ap (λ (o : Bool). (get_or (written_postings o t.info.freq 0 handed) k no_posting).freq) b.kept
      ∙ posting-freq t.info.freq 0 handed k within
      ∙ (b.each k (omega (arith, b.count))).0;
  sums = λ level m below lt.
      let at = datum-entry m (stride t level) t.info.doc_freq (power-pos t.rules.skip_interval (suc level) b.interval) lt in
      let k = suc m * stride t level - 1 in
      (as_handed.leads level m below lt).2
      ∙ ap (λ (o : Bool). if o then 0 else (slice_index_or handed k no_handed).prox) b.kept
      ∙ (b.each k (omega (arith, b.count, at.0))).1;
}

-- so the term stands in both files
pub beside-stands : (t : RuledTerm) (value : TermData) (handed : List Handed) (written : List ℕ) (entries : List (List Occurrence)) (frq : List ℕ) (behind : Cursor) (prx rest : List ℕ) → IsAsHanded t handed value → IsBeside t handed written entries
    → ReadsTo (term_plan t) (place_in frq t.info.freq) value behind → prx ≡ written ++ (occurrences_bytes t.rules.payloads entries ++ rest) → IsBytes prx → StandsInBoth t value prx entries
beside-stands t value handed written entries frq behind prx rest as_handed b read is fits =
    let p = posted_term t value in
    let reads = written-read p written entries prx rest (beside-handed t value handed written entries as_handed b) is fits in
    let end = place_in prx (length written + length (occurrences_bytes t.rules.payloads entries)) in
    record {
      interval = b.interval;
      frq = frq;
      behind = behind;
      entries = read;
      end = end;
      reads = subst (λ (n : ℕ). ReadsTo (prx_term_plan p) (place_in prx n) entries end) b.starts reads;
      within = λ kept. omega (arith, b.starts, ap length is, length-append written (occurrences_bytes t.rules.payloads entries ++ rest));
    }
