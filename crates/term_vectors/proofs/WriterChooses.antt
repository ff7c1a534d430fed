-- The writer makes the choices: where records spell the written bytes, each text shares what it can with the text before.
use Rattle.std.proofs.Common.{◌≡◌, ℕ, zero, suc, ◌+◌, ◌^◌, ◌<◌, List, [], ◌∷◌, ◌++◌, length, take, drop, Option, Some, None, refl, sym, ap, subst, ◌∙◌, append_assoc, arith}
use Rattle.std.specs.Prelude.{All}
use Rattle.std.specs.Option.{unwrap_or}
use Rattle.std.specs.List.{flat_map}
use Rattle.std.proofs.lemmas.List.{append-nil, append_cancel_left}
use Rattle.lu_types.specs.Tables.{TableField}
use Rattle.lu_types.specs.declared.stored.Window.{Window}
use Rattle.lu_types.specs.FilePlans.{StandFor}
use Rattle.lu_types.specs.Stores.{windowed}
use Rattle.lu_grammar.specs.Parts.{num, spelling}
use Rattle.lu_grammar.specs.Records.{Spells}
use Rattle.lu_grammar.specs.Plans.{read_file, Broken}
use Rattle.lu_grammar.specs.Meaning.{Spelled, bytes_of, Reads}
use Rattle.lu_grammar.proofs.LawLemmas.{spelling_is_one}
use Rattle.lu_grammar.proofs.Codecs.{ok_of, read_file-Reads}
use Rattle.lu_model.specs.Index.{VectorTerm}
use Rattle.term_vectors.specs.declared.layout.DocumentPlaces.{DocumentPlaces}
use Rattle.term_vectors.specs.Format.{headed}
use Rattle.term_vectors.specs.Places.{tvx_plan}
use Rattle.term_vectors.specs.Fields.{VectorPlace, tvd_plan}
use Rattle.term_vectors.specs.Vectors.{TvfRecord, format, term, StoredVector, format_conditions, text_after, term_shape, term_plan, terms_plan, bits_of_heading, vector_plan, vectors_plan, all_plan, tvf_plan}
use Rattle.term_vectors.specs.Stores.{vector_files}
use Rattle.term_vectors.specs.Writable.{AreWritableVectors, IsCheckableWindow}
use Rattle.term_vectors.specs.VectorBytes.{vector_header_bytes, vector_positions_bytes, vector_spans_bytes, shared_length, vector_term_bytes, vector_terms_bytes, vector_heading_bytes, vector_bytes, vectors_bytes, document_fields_bytes, written_places, tvx_bytes, tvd_bytes, tvf_bytes}
use Rattle.term_vectors.specs.WrittenChoices.{text_behind, SharesMost, AllShareMost, StandAtEnds, MakeWrittenChoices}
use Rattle.term_vectors.proofs.SharedLemmas.{shared-within}
use Rattle.term_vectors.proofs.WritesVectors.{all_slots}
use Rattle.term_vectors.proofs.WrittenFiles.{written_reads}
use Rattle.term_vectors.proofs.PlanRecords.{AreRecordsOf, bytes_of-append, records_done, records_then, records_headed, of_one}
use Rattle.term_vectors.proofs.OnlyOccurrences.{text_after_all, shares-join}
use Rattle.term_vectors.proofs.OnlyTerms.{PartsOfTerm, term_parts, term_only}
use Rattle.term_vectors.proofs.OnlyVectors.{header_only, PartsOfVector, vector_parts, vector_only}

-- ---- bytes in another grouping

first_alone : (a b c x : List ℕ) → ((a ++ b) ++ c) ++ x ≡ a ++ ((b ++ c) ++ x)
first_alone a b c x = ap (λ (t : List ℕ). t ++ x) (append_assoc a b c) ∙ append_assoc a (b ++ c) x

-- two parts and more on either side
apart : (a b x c d y : List ℕ) → (a ++ b) ++ x ≡ (c ++ d) ++ y → a ++ (b ++ x) ≡ c ++ (d ++ y)
apart a b x c d y e = sym (append_assoc a b x) ∙ e ∙ append_assoc c d y

-- where the first parts are the same, the others are
left_over : (a b x c d y : List ℕ) → a ≡ c → (a ++ b) ++ x ≡ (c ++ d) ++ y → b ++ x ≡ d ++ y
left_over a b x c d y same e = append_cancel_left c (b ++ x) (d ++ y) (ap (λ (t : List ℕ). t ++ (b ++ x)) (sym same) ∙ apart a b x c d y e)

-- the records of two plans, as bytes
both_parts : (ss first second : List (Spelled TvfRecord)) (x : List ℕ) → ss ≡ first ++ second → bytes_of ss ++ x ≡ (bytes_of first ++ bytes_of second) ++ x
both_parts ss first second x all = ap (λ (t : List ℕ). t ++ x) (ap (λ (xs : List (Spelled TvfRecord)). bytes_of xs) all ∙ bytes_of-append first second)

no_records : (before : List ℕ) (ss : List (Spelled TvfRecord)) → ss ≡ [] → AllShareMost before ss
unfolding AllShareMost
no_records before ss none = subst (λ (xs : List (Spelled TvfRecord)). AllShareMost before xs) (sym none) tt

-- ---- terms

-- the text is one that can be written
abbrev IsShort : VectorTerm → Type 0
IsShort t = length t.text < 2 ^ 31

front_shares : (before : Option (List ℕ)) (s : Spelled TvfRecord) (text x y : List ℕ) → Spells term_shape s.it s.front → text_after before s.it ≡ text → length text < 2 ^ 31
    → s.front ++ x ≡ spelling num (shared_length (unwrap_or before []) text) ++ y → SharesMost (unwrap_or before []) s.it
front_shares before s text x y (prefix, a, prefix_fits, front_is, (n, b, n_fits, a_is, (suffix, c, suffix_fits, b_is, tail))) text_is short e =
    let one = of_one num (λ freq. term prefix suffix freq) s.it c tail in
    let base = unwrap_or before [] in
    let most = shared_length base text in
    let fits : most < 2 ^ 31 = omega (arith, (shared-within base text).1, short) in
    let spelled : spelling num prefix ++ (a ++ x) ≡ spelling num most ++ y = sym (append_assoc (spelling num prefix) a x) ∙ ap (λ (t : List ℕ). t ++ x) (sym front_is) ∙ e in
    let same = spelling_is_one num prefix most (spelling num prefix) (spelling num most) (a ++ x) y (prefix_fits, refl) (fits, refl) spelled in
    let full : take prefix base ++ suffix ≡ text = ap (λ (r : TvfRecord). text_after before r) one.is ∙ text_is in
    subst (λ (r : TvfRecord). SharesMost base r) one.is (same.0 ∙ ap (λ (t : List ℕ). shared_length base t) (sym full))

term_shares : (before : Option (List ℕ)) (ss : List (Spelled TvfRecord)) (t : VectorTerm) (x y : List ℕ) → PartsOfTerm before ss t → IsShort t → bytes_of ss ++ x ≡ vector_term_bytes (unwrap_or before []) t ++ y
    → AllShareMost (unwrap_or before []) ss
unfolding AllShareMost
term_shares before ss t x y parts short e =
    let base = unwrap_or before [] in
    let s = parts.first in
    let most = shared_length base t.text in
    let suffix = drop most t.text in
    let more = spelling num (length suffix) ++ (suffix ++ spelling num t.frequency) in
    let occurrences = vector_positions_bytes 0 t.positions ++ vector_spans_bytes 0 t.spans in
    let spelled : s.front ++ (bytes_of parts.rest ++ x) ≡ spelling num most ++ ((more ++ occurrences) ++ y) =
    sym (append_assoc s.front (bytes_of parts.rest) x) ∙ ap (λ (xs : List (Spelled TvfRecord)). bytes_of xs ++ x) (sym parts.all) ∙ e ∙ first_alone (spelling num most) more occurrences y in
    let head = front_shares before s t.text (bytes_of parts.rest ++ x) ((more ++ occurrences) ++ y) parts.spells parts.text short spelled in
    subst (λ (xs : List (Spelled TvfRecord)). AllShareMost base xs) (sym parts.all) (head, parts.others.shares (text_behind base s.it))

terms_share : (bits n : ℕ) (before : Option (List ℕ)) (place : ℕ) (ss : List (Spelled TvfRecord)) (ts : List VectorTerm) (x y : List ℕ) → AreRecordsOf (terms_plan bits n before) place ss ts → All IsShort ts
    → bytes_of ss ++ x ≡ vector_terms_bytes (unwrap_or before []) ts ++ y → AllShareMost (unwrap_or before []) ss
unfolding terms_plan vector_terms_bytes
terms_share bits zero before place ss ts x y h short e = no_records (unwrap_or before []) ss (records_done [] ts place ss h).0
terms_share bits (suc n) before place ss ts x y h short e =
    let base = unwrap_or before [] in
    let parts = records_then (term_plan bits before) (λ t. headed t (terms_plan bits n (Some t.text))) place ss ts h in
    let t = parts.value in
    let here = place + length (bytes_of parts.first) in
    let more = records_headed t (terms_plan bits n (Some t.text)) here parts.second ts parts.two in
    let all_short = subst (λ (us : List VectorTerm). All IsShort us) more.2 short in
    let first = vector_term_bytes base t in
    let later = vector_terms_bytes t.text more.0 in
    let a = bytes_of parts.first in
    let b = bytes_of parts.second in
    let same : (a ++ b) ++ x ≡ (first ++ later) ++ y = sym (both_parts ss parts.first parts.second x parts.all) ∙ e ∙ ap (λ (us : List VectorTerm). vector_terms_bytes base us ++ y) more.2 in
    let pieces = term_parts bits before place parts.first t parts.one in
    let shares = term_shares before parts.first t (b ++ x) (later ++ y) pieces (all_short 0 t (omega arith)) (apart a b x first later y same) in
    let one = term_only before parts.first t pieces shares in
    let rest = terms_share bits n (Some t.text) here parts.second more.0 x y more.1 (λ k d lt. all_short (suc k) d (omega (arith, lt))) (left_over a b x first later y one.is same) in
    subst (λ (xs : List (Spelled TvfRecord)). AllShareMost base xs) (sym parts.all) (shares-join base parts.first parts.second shares (subst (λ (z : List ℕ). AllShareMost z parts.second) (sym one.next) rest))

-- ---- vectors

abbrev HasShortTexts : StoredVector → Type 0
HasShortTexts v = All IsShort v.terms

vector_shares : (at : VectorPlace) (before : List ℕ) (place : ℕ) (ss : List (Spelled TvfRecord)) (v : StoredVector) (x y : List ℕ) → PartsOfVector at place ss v → HasShortTexts v → bytes_of ss ++ x ≡ vector_bytes v ++ y
    → AllShareMost before ss
unfolding AllShareMost
vector_shares at before place ss v x y parts short e =
    let s = parts.first in
    let front = vector_heading_bytes (length v.terms) v.bits in
    let terms = vector_terms_bytes [] v.terms in
    let same : (s.front ++ bytes_of parts.rest) ++ x ≡ (front ++ terms) ++ y = ap (λ (xs : List (Spelled TvfRecord)). bytes_of xs ++ x) (sym parts.all) ∙ e in
    let rest = terms_share (bits_of_heading s.it) parts.count None parts.there parts.rest v.terms x y parts.terms short (left_over s.front (bytes_of parts.rest) x front terms y parts.front same) in
    subst (λ (xs : List (Spelled TvfRecord)). AllShareMost before xs) (sym parts.all) (parts.heading.shares before, subst (λ (t : List ℕ). AllShareMost t parts.rest) (sym (parts.heading.next before)) rest)

vectors_share : (slots : List VectorPlace) (before : List ℕ) (place : ℕ) (ss : List (Spelled TvfRecord)) (vs : List StoredVector) (x y : List ℕ) → AreRecordsOf (vectors_plan slots) place ss vs → All HasShortTexts vs
    → bytes_of ss ++ x ≡ vectors_bytes vs ++ y → (AllShareMost before ss) × (bytes_of ss ≡ vectors_bytes vs)
unfolding vectors_plan
vectors_share [] before place ss vs x y h short e =
    let none = records_done [] vs place ss h in
    (no_records before ss none.0, ap (λ (xs : List (Spelled TvfRecord)). bytes_of xs) none.0 ∙ ap (λ (ws : List StoredVector). vectors_bytes ws) none.1)
vectors_share (at ∷ slots) before place ss vs x y h short e =
    let parts = records_then (vector_plan at) (λ v. headed v (vectors_plan slots)) place ss vs h in
    let v = parts.value in
    let here = place + length (bytes_of parts.first) in
    let more = records_headed v (vectors_plan slots) here parts.second vs parts.two in
    let all_short = subst (λ (ws : List StoredVector). All HasShortTexts ws) more.2 short in
    let a = bytes_of parts.first in
    let b = bytes_of parts.second in
    let later = vectors_bytes more.0 in
    let same : (a ++ b) ++ x ≡ (vector_bytes v ++ later) ++ y = sym (both_parts ss parts.first parts.second x parts.all) ∙ e ∙ ap (λ (ws : List StoredVector). vectors_bytes ws ++ y) more.2 in
    let pieces = vector_parts at place parts.first v parts.one in
    let shares = vector_shares at before place parts.first v (b ++ x) (later ++ y) pieces (all_short 0 v (omega arith)) (apart a b x (vector_bytes v) later y same) in
    let one = vector_only at before place parts.first v pieces shares in
    let rest = vectors_share slots (text_after_all before parts.first) here parts.second more.0 x y more.1 (λ k d lt. all_short (suc k) d (omega (arith, lt))) (left_over a b x (vector_bytes v) later y one same) in (
      subst (λ (xs : List (Spelled TvfRecord)). AllShareMost before xs) (sym parts.all) (shares-join before parts.first parts.second shares rest.0),
      ap (λ (xs : List (Spelled TvfRecord)). bytes_of xs) parts.all ∙ bytes_of-append parts.first parts.second ∙ ap (λ (t : List ℕ). t ++ b) one ∙ ap (λ (t : List ℕ). vector_bytes v ++ t) rest.1
          ∙ ap (λ (ws : List StoredVector). vectors_bytes ws) (sym more.2),
    )

all_share : (documents : List (List VectorPlace)) (before : List ℕ) (place : ℕ) (ss : List (Spelled TvfRecord)) (ds : List (List StoredVector)) (x y : List ℕ) → AreRecordsOf (all_plan documents) place ss ds
    → All (All HasShortTexts) ds → bytes_of ss ++ x ≡ flat_map vectors_bytes ds ++ y → AllShareMost before ss
unfolding all_plan
all_share [] before place ss ds x y h short e = no_records before ss (records_done [] ds place ss h).0
all_share (slots ∷ documents) before place ss ds x y h short e =
    let parts = records_then (vectors_plan slots) (λ vs. headed vs (all_plan documents)) place ss ds h in
    let d = parts.value in
    let here = place + length (bytes_of parts.first) in
    let more = records_headed d (all_plan documents) here parts.second ds parts.two in
    let all_short = subst (λ (es : List (List StoredVector)). All (All HasShortTexts) es) more.2 short in
    let a = bytes_of parts.first in
    let b = bytes_of parts.second in
    let later = flat_map vectors_bytes more.0 in
    let same : (a ++ b) ++ x ≡ (vectors_bytes d ++ later) ++ y = sym (both_parts ss parts.first parts.second x parts.all) ∙ e ∙ ap (λ (es : List (List StoredVector)). flat_map vectors_bytes es ++ y) more.2 in
    let one = vectors_share slots before place parts.first d (b ++ x) (later ++ y) parts.one (all_short 0 d (omega arith)) (apart a b x (vectors_bytes d) later y same) in
    let rest = all_share documents (text_after_all before parts.first) here parts.second more.0 x y more.1 (λ k v lt. all_short (suc k) v (omega (arith, lt))) (left_over a b x (vectors_bytes d) later y one.1 same) in
    subst (λ (xs : List (Spelled TvfRecord)). AllShareMost before xs) (sym parts.all) (shares-join before parts.first parts.second one.0 rest)

-- ---- the files

short_texts : (ds : List (List StoredVector)) → All AreWritableVectors ds → All (All HasShortTexts) ds
short_texts ds good k d lt = λ j v within. λ i t inside. (((good k d lt).each j v within).terms i t inside).text.1

tvf_shares : (slots : List (List VectorPlace)) (ds : List (List StoredVector)) (tvf : List ℕ) (read : Reads (tvf_plan slots) tvf ds) → tvf ≡ tvf_bytes ds → All AreWritableVectors ds → AllShareMost [] read.records
unfolding AllShareMost
tvf_shares slots ds tvf read is good =
    let head = header_only format format_conditions 105 (λ z. refl) (all_plan slots) read.records ds (record { good = read.good; none = read.none_due }) in
    let same : (head.first.front ++ bytes_of head.more) ++ [] ≡ (vector_header_bytes ++ flat_map vectors_bytes ds) ++ [] =
    ap (λ (xs : List (Spelled TvfRecord)). bytes_of xs ++ []) (sym head.all) ∙ sym read.front ∙ is ∙ sym (append-nil (tvf_bytes ds)) in
    let rest = all_share slots (text_behind [] head.first.it) 4 head.more ds [] [] head.others (short_texts ds good) (left_over head.first.front (bytes_of head.more) [] vector_header_bytes (flat_map vectors_bytes ds) [] head.is same) in
    subst (λ (xs : List (Spelled TvfRecord)). AllShareMost [] xs) (sym head.all) (subst (λ (r : TvfRecord). SharesMost [] r) head.it tt, rest)

stand_written : (tvd tvf : ℕ) (ds : List (List StoredVector)) → StandAtEnds tvf (written_places tvd tvf ds) ds
unfolding StandAtEnds written_places
stand_written tvd tvf [] = tt
stand_written tvd tvf (d ∷ ds) = (λ _. refl, stand_written (tvd + length (document_fields_bytes d)) (tvf + length (vectors_bytes d)) ds)

same_value : {V : Type 0} {v w : V} → ok_of {E = Broken} v ≡ ok_of w → v ≡ w
same_value q = cc

pub made_by_writer : (documents : List (List StoredVector)) (fields : List TableField) (window : Window) → All AreWritableVectors documents → IsCheckableWindow fields window documents
    → (stand : StandFor (vector_files (length documents) window fields (Some (tvx_bytes documents)) (Some (tvd_bytes documents)) (Some (tvf_bytes documents))) (windowed window documents))
    → MakeWrittenChoices (length documents) window fields (tvx_bytes documents) (tvd_bytes documents) (tvf_bytes documents) (windowed window documents) stand
made_by_writer ds fields window good h (at, at_read, (slots, slots_read, (documents, read, is))) =
    let written = written_reads ds fields window good h in
    let first : at ≡ written_places 4 4 ds = same_value (sym (read_file-Reads (tvx_plan (length ds)) (tvx_bytes ds) at at_read) ∙ written.tvx) in
    let second : slots ≡ all_slots 4 ds =
    same_value (sym (read_file-Reads (tvd_plan fields window at) (tvd_bytes ds) slots slots_read) ∙ ap (λ (ps : List DocumentPlaces). read_file (tvd_plan fields window ps) (tvd_bytes ds)) first ∙ written.tvd) in
    let third : documents ≡ ds =
    same_value (sym (read_file-Reads (tvf_plan slots) (tvf_bytes ds) documents read) ∙ ap (λ (ss : List (List VectorPlace)). read_file (tvf_plan ss) (tvf_bytes ds)) second ∙ written.tvf) in
    record {
      places = subst (λ (ps : List DocumentPlaces). StandAtEnds 4 ps documents) (sym first) (subst (λ (es : List (List StoredVector)). StandAtEnds 4 (written_places 4 4 ds) es) (sym third) (stand_written 4 4 ds));
      prefixes = tvf_shares slots documents (tvf_bytes ds) read (ap (λ (es : List (List StoredVector)). tvf_bytes es) (sym third)) (subst (λ (es : List (List StoredVector)). All AreWritableVectors es) (sym third) good);
    }
