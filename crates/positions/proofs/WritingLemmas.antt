-- What a writer holds, from call to call.
use Rattle.std.proofs.Common.{◌≡◌, ℕ, ◌+◌, ◌-◌, Bool, List, [], ◌∷◌, ◌++◌, length, Option, Some, None, refl, sym, ap, subst, ◌∙◌, append_assoc, arith}
use Rattle.std.proofs.lemmas.List.{append-nil, length-append, drop_at}
use Rattle.lu_grammar.specs.Bytes.{IsBytes, Cursor, place_in}
use Rattle.lu_grammar.specs.Meaning.{ReadsTo}
use Rattle.lu_grammar.specs.Plans.{read_plan}
use Rattle.lu_grammar.proofs.Plans.{ok_of}
use Rattle.lu_grammar.proofs.Parts.{IsBytes-drop}
use Rattle.lu_grammar.proofs.Records.{at}
use Rattle.lu_grammar.proofs.Codecs.{Writes, reads-read_plan}
use Rattle.lu_types.specs.Occurrences.{Occurrence}
use Rattle.positions.specs.Occurrences.{PostedTerm}
use Rattle.positions.specs.Terms.{term_plan}
use Rattle.positions.specs.Written.{written_record, record_bytes, document_occurrence_bytes, occurrences_bytes, last_length, last_position, IsHanded}
use Rattle.positions.specs.Writing.{WriterState, occurrences_begun, document_begun, occurrence_added, HoldsTerm, HoldsDocument}
use Rattle.positions.proofs.WrittenTerms.{occurrences_bytes-more, occurrences_bytes-none, term-written}

pub holds-begun : (w : WriterState) (payloads : Bool) → HoldsTerm (occurrences_begun w payloads) payloads w.bytes []
holds-begun w payloads = record { bytes = sym (append-nil w.bytes) ∙ ap (λ (l : List ℕ). w.bytes ++ l) (sym (occurrences_bytes-none payloads)); payloads_are = refl; start = refl }

pub holds-document : (w : WriterState) (payloads : Bool) (written : List ℕ) (entries : List (List Occurrence)) → HoldsTerm w payloads written entries → HoldsDocument (document_begun w) payloads written entries []
holds-document w payloads written entries h = record {
  holds = record {
    bytes = h.bytes ∙ ap (λ (l : List ℕ). written ++ l) (sym (append-nil (occurrences_bytes payloads entries)) ∙ sym (occurrences_bytes-more payloads entries []));
    payloads_are = h.payloads_are;
    start = h.start;
  };
  before = refl;
  position = refl;
}

-- how many bytes the term has so far
pub holds-so_far : (w : WriterState) (payloads : Bool) (written : List ℕ) (entries : List (List Occurrence)) → HoldsTerm w payloads written entries → length w.bytes - w.start ≡ length (occurrences_bytes payloads entries)
holds-so_far w payloads written entries h = omega (arith, ap length h.bytes, length-append written (occurrences_bytes payloads entries), h.start)

document_occurrence_bytes-more : (payloads : Bool) (before : Option ℕ) (last : ℕ) (os : List Occurrence) (o : Occurrence)
    → document_occurrence_bytes payloads before last (os ++ o ∷ []) ≡ document_occurrence_bytes payloads before last os ++ record_bytes (written_record payloads (last_length before os) (last_position last os) o)
document_occurrence_bytes-more payloads before last [] o = append-nil (record_bytes (written_record payloads before last o))
document_occurrence_bytes-more payloads before last (x ∷ os) o =
    ap (λ (l : List ℕ). record_bytes (written_record payloads before last x) ++ l) (document_occurrence_bytes-more payloads (Some (length x.payload)) x.position os o)
    ∙ sym (append_assoc (record_bytes (written_record payloads before last x)) (document_occurrence_bytes payloads (Some (length x.payload)) x.position os) (record_bytes (written_record payloads (last_length (Some (length x.payload)) os) (last_position x.position os) o)))

last_length-more : (before : Option ℕ) (os : List Occurrence) (o : Occurrence) → last_length before (os ++ o ∷ []) ≡ Some (length o.payload)
last_length-more before [] o = refl
last_length-more before (x ∷ os) o = last_length-more (Some (length x.payload)) os o

last_position-more : (last : ℕ) (os : List Occurrence) (o : Occurrence) → last_position last (os ++ o ∷ []) ≡ o.position
last_position-more last [] o = refl
last_position-more last (x ∷ os) o = last_position-more x.position os o

pub holds-added : (w : WriterState) (payloads : Bool) (written : List ℕ) (entries : List (List Occurrence)) (now : List Occurrence) (o : Occurrence) → HoldsDocument w payloads written entries now → HoldsDocument (occurrence_added w o) payloads written entries (now ++ o ∷ [])
holds-added w payloads written entries now o h =
    let front = occurrences_bytes payloads entries in
    let doc = document_occurrence_bytes payloads None 0 now in
    let new = record_bytes (written_record payloads (last_length None now) (last_position 0 now) o) in
    let same : record_bytes (written_record w.payloads w.before w.position o) ≡ new =
    ap (λ (b : Bool). record_bytes (written_record b w.before w.position o)) h.holds.payloads_are
    ∙ ap (λ (b : Option ℕ). record_bytes (written_record payloads b w.position o)) h.before
    ∙ ap (λ (q : ℕ). record_bytes (written_record payloads (last_length None now) q o)) h.position in
    let whole : w.bytes ≡ written ++ (front ++ doc) = h.holds.bytes ∙ ap (λ (l : List ℕ). written ++ l) (occurrences_bytes-more payloads entries now) in
    record {
      holds = record {
        bytes = ap (λ (l : List ℕ). w.bytes ++ l) same
            ∙ ap (λ (l : List ℕ). l ++ new) whole
            ∙ append_assoc written (front ++ doc) new
            ∙ ap (λ (l : List ℕ). written ++ l) (append_assoc front doc new ∙ ap (λ (l : List ℕ). front ++ l) (sym (document_occurrence_bytes-more payloads None 0 now o)) ∙ sym (occurrences_bytes-more payloads entries (now ++ o ∷ [])));
        payloads_are = h.holds.payloads_are;
        start = h.holds.start;
      };
      before = sym (last_length-more None now o);
      position = sym (last_position-more 0 now o);
    }

-- what is written of a term is read, whatever follows
pub written-read : (p : PostedTerm) (written : List ℕ) (entries : List (List Occurrence)) (prx rest : List ℕ) → IsHanded p (length written) entries → prx ≡ written ++ (occurrences_bytes p.term.rules.payloads entries ++ rest) → IsBytes prx
    → ReadsTo (term_plan p) (place_in prx (length written)) entries (place_in prx (length written + length (occurrences_bytes p.term.rules.payloads entries)))
written-read p written entries prx rest h is fits =
    let bytes = occurrences_bytes p.term.rules.payloads entries in
    let w = term-written p (length written) entries h in
    let here : place_in prx (length written) ≡ at (length written) (bytes ++ rest) = ap (λ (l : List ℕ). place_in l (length written)) is ∙ ap (λ (l : List ℕ). at (length written) l) (drop_at written (bytes ++ rest) (length written) refl) in
    let whole : prx ≡ (written ++ bytes) ++ rest = is ∙ sym (append_assoc written bytes rest) in
    let size : length written + length bytes ≡ length (written ++ bytes) = sym (length-append written bytes) in
    let there : place_in prx (length written + length bytes) ≡ at (length written + length bytes) rest =
    ap (λ (l : List ℕ). place_in l (length written + length bytes)) whole ∙ ap (λ (l : List ℕ). at (length written + length bytes) l) (drop_at (written ++ bytes) rest (length written + length bytes) (sym size)) in
    reads-read_plan (term_plan p) (place_in prx (length written)) entries (place_in prx (length written + length bytes)) (IsBytes-drop (length written) prx fits)
    (ap (λ (c : Cursor). read_plan (term_plan p) c) here ∙ w.reads rest ∙ ap (λ (c : Cursor). ok_of (entries, c)) (sym there))
