-- `.tvf` that was read is what the writer gives, where each text shares what it can with the text before.
use Rattle.std.proofs.Common.{◌≡◌, ℕ, ◌+◌, Bool, true, false, List, [], ◌∷◌, ◌++◌, length, None, refl, sym, ap, subst, ◌∙◌, arith, ℤ}
use Rattle.std.specs.List.{flat_map}
use Rattle.std.proofs.lemmas.List.{append-nil}
use Rattle.lu_grammar.specs.Parts.{int32, num, byte, spelling}
use Rattle.lu_grammar.specs.Records.{Condition, Spells, first_broken}
use Rattle.lu_grammar.specs.Plans.{Plan, done, due, and_then}
use Rattle.lu_grammar.specs.Meaning.{Spelled, bytes_of, Reads}
use Rattle.lu_model.specs.Index.{VectorTerm}
use Rattle.term_vectors.specs.Format.{format_shape, is_other_format, format_rule, headed}
use Rattle.term_vectors.specs.Fields.{VectorPlace}
use Rattle.term_vectors.specs.Vectors.{TvfRecord, format, heading, StoredVector, format_conditions, count_of_heading, bits_of_heading, heading_shape, heading_conditions, terms_plan, vector_plan, vectors_plan, all_plan, tvf_plan}
use Rattle.term_vectors.specs.VectorBytes.{vector_header_bytes, vector_heading_bytes, vector_bytes, vectors_bytes, tvf_bytes}
use Rattle.term_vectors.specs.WrittenChoices.{text_behind, SharesMost, AllShareMost}
use Rattle.term_vectors.proofs.FormatLemmas.{same_format}
use Rattle.term_vectors.proofs.StandLemmas.{at_its_place}
use Rattle.term_vectors.proofs.WritesVectors.{slots_from, all_slots}
use Rattle.term_vectors.proofs.PlanRecords.{AreRecordsOf, bytes_of-append, records_done, records_due, records_then, records_headed, of_one}
use Rattle.term_vectors.proofs.OnlyOccurrences.{text_after_all, shares-append}
use Rattle.term_vectors.proofs.OnlyTerms.{terms_many, terms_only}

-- ---- the header of each file

pub record HeaderOf {V R : Type 0} (of_number : ℤ → R) (rest : Plan V R) (ss : List (Spelled R)) (v : V) : Type 0 where
  pub first : Spelled R
  pub more : List (Spelled R)
  pub all : ss ≡ first ∷ more
  pub number : ℤ
  pub it : of_number number ≡ first.it
  pub is : first.front ≡ vector_header_bytes
  pub others : AreRecordsOf rest 4 more v

pub header_only : {V R : Type 0} (of_number : ℤ → R) (conditions : R → List Condition) (rule : ℕ) → ((z : ℤ) → conditions (of_number z) ≡ format_rule rule z) → (rest : Plan V R) (ss : List (Spelled R)) (v : V)
    → AreRecordsOf (due (format_shape of_number) (λ _ r. conditions r) (λ _ _. rest)) 0 ss v → HeaderOf of_number rest ss v
header_only {V} {R} of_number conditions rule same rest ss v h =
    let parts = records_due (format_shape of_number) (λ _ r. conditions r) (λ _ _. rest) 0 ss v h in
    let one = of_one int32 of_number parts.first.it parts.first.front parts.spells in
    let good : first_broken (format_rule rule one.value) ≡ None = ap first_broken (sym (same one.value)) ∙ ap (λ (r : R). first_broken (conditions r)) one.is ∙ parts.unbroken in
    let is : parts.first.front ≡ vector_header_bytes = one.front_is ∙ ap (λ (z : ℤ). spelling int32 z) (same_format one.value (right (is_other_format one.value) good)) in
    let four : length vector_header_bytes ≡ 4 = refl in
    let place : 0 + length parts.first.front ≡ 4 = omega (arith, ap length is, four) in
    record { first = parts.first; more = parts.rest; all = parts.all; number = one.value; it = one.is; is = is; others = subst (λ (p : ℕ). AreRecordsOf rest p parts.rest v) place parts.others }
  where
    right : (b : Bool) → first_broken (record { rule = rule; broken = b } ∷ []) ≡ None → b ≡ false
    right true q = cc
    right false q = refl

-- ---- a vector

pub record SpellsHeading (s : Spelled TvfRecord) : Type 0 where
  pub is : s.front ≡ vector_heading_bytes (count_of_heading s.it) (bits_of_heading s.it)
  pub next : (before : List ℕ) → text_behind before s.it ≡ []
  pub shares : (before : List ℕ) → SharesMost before s.it

heading_spelled : (s : Spelled TvfRecord) → Spells heading_shape s.it s.front → SpellsHeading s
heading_spelled s (count, a, fits, front_is, tail) =
    let one = of_one byte (λ bits. heading count bits) s.it a tail in
    record {
      is = front_is ∙ ap (λ (t : List ℕ). spelling num count ++ t) one.front_is ∙ ap (λ (r : TvfRecord). vector_heading_bytes (count_of_heading r) (bits_of_heading r)) one.is;
      next = λ before. ap (λ (r : TvfRecord). text_behind before r) (sym one.is);
      shares = λ before. subst (λ (r : TvfRecord). SharesMost before r) one.is tt;
    }

-- the heading of a vector, which stands where its place is, and its terms
pub record PartsOfVector (at : VectorPlace) (place : ℕ) (ss : List (Spelled TvfRecord)) (v : StoredVector) : Type 0 where
  pub first : Spelled TvfRecord
  pub rest : List (Spelled TvfRecord)
  pub all : ss ≡ first ∷ rest
  pub front : first.front ≡ vector_heading_bytes (length v.terms) v.bits
  pub heading : SpellsHeading first
  pub count : ℕ
  pub there : ℕ
  pub terms : AreRecordsOf (terms_plan (bits_of_heading first.it) count None) there rest v.terms
  pub placed : at ≡ record { field = v.field; place = place }

pub vector_parts : (at : VectorPlace) (place : ℕ) (ss : List (Spelled TvfRecord)) (v : StoredVector) → AreRecordsOf (vector_plan at) place ss v → PartsOfVector at place ss v
vector_parts at place ss v h =
    let whole : TvfRecord → List VectorTerm → StoredVector = λ r terms. record { field = at.field; bits = bits_of_heading r; terms = terms } in
    let parts = records_due heading_shape (λ p r. heading_conditions at.place p r) (λ _ r. and_then (terms_plan (bits_of_heading r) (count_of_heading r) None) (λ terms. done (whole r terms))) place ss v h in
    let s = parts.first in
    let here = place + length s.front in
    let bits = bits_of_heading s.it in
    let count = count_of_heading s.it in
    let heading = heading_spelled s parts.spells in
    let second = records_then (terms_plan bits count None) (λ terms. done (whole s.it terms)) here parts.rest v parts.others in
    let last = records_done (whole s.it second.value) v (here + length (bytes_of second.first)) second.second second.two in
    let same : parts.rest ≡ second.first = second.all ∙ ap (λ (xs : List (Spelled TvfRecord)). second.first ++ xs) last.0 ∙ append-nil second.first in
    let place_is : place ≡ at.place = at_its_place at.place place s.it parts.unbroken in
    record {
      first = s;
      rest = parts.rest;
      all = parts.all;
      front = heading.is ∙ ap (λ (n : ℕ). vector_heading_bytes n bits) (sym (terms_many bits count None here second.first second.value second.one)) ∙ ap (λ (w : StoredVector). vector_heading_bytes (length w.terms) w.bits) last.1;
      heading = heading;
      count = count;
      there = here;
      terms = subst (λ (ts : List VectorTerm). AreRecordsOf (terms_plan bits count None) here parts.rest ts) (ap (λ (w : StoredVector). w.terms) last.1)
          (subst (λ (xs : List (Spelled TvfRecord)). AreRecordsOf (terms_plan bits count None) here xs second.value) (sym same) second.one);
      placed = ap (λ (n : ℕ). at_place at.field n) (sym place_is) ∙ ap (λ (w : StoredVector). at_place w.field place) last.1;
    }
  where
    at_place : ℕ → ℕ → VectorPlace
    at_place field place = record { field = field; place = place }

pub vector_only : (at : VectorPlace) (before : List ℕ) (place : ℕ) (ss : List (Spelled TvfRecord)) (v : StoredVector) → PartsOfVector at place ss v → AllShareMost before ss → bytes_of ss ≡ vector_bytes v
unfolding AllShareMost
vector_only at before place ss v parts shares =
    let s = parts.first in
    let both = subst (λ (xs : List (Spelled TvfRecord)). AllShareMost before xs) parts.all shares in
    let from_none : AllShareMost [] parts.rest = subst (λ (t : List ℕ). AllShareMost t parts.rest) (parts.heading.next before) both.1 in
    ap (λ (xs : List (Spelled TvfRecord)). bytes_of xs) parts.all ∙ ap (λ (t : List ℕ). t ++ bytes_of parts.rest) parts.front
    ∙ ap (λ (t : List ℕ). vector_heading_bytes (length v.terms) v.bits ++ t) (terms_only (bits_of_heading s.it) parts.count None parts.there parts.rest v.terms parts.terms from_none)

-- ---- vectors and documents

vectors_only : (slots : List VectorPlace) (before : List ℕ) (place : ℕ) (ss : List (Spelled TvfRecord)) (vs : List StoredVector) → AreRecordsOf (vectors_plan slots) place ss vs → AllShareMost before ss
    → (bytes_of ss ≡ vectors_bytes vs) × (slots ≡ slots_from place vs)
unfolding vectors_plan slots_from
vectors_only [] before place ss vs h shares =
    let none = records_done [] vs place ss h in
    (ap (λ (xs : List (Spelled TvfRecord)). bytes_of xs) none.0 ∙ ap (λ (ws : List StoredVector). vectors_bytes ws) none.1, ap (λ (ws : List StoredVector). slots_from place ws) none.1)
vectors_only (at ∷ slots) before place ss vs h shares =
    let parts = records_then (vector_plan at) (λ v. headed v (vectors_plan slots)) place ss vs h in
    let v = parts.value in
    let here = place + length (bytes_of parts.first) in
    let both = shares-append before parts.first parts.second (subst (λ (xs : List (Spelled TvfRecord)). AllShareMost before xs) parts.all shares) in
    let pieces = vector_parts at place parts.first v parts.one in
    let one = vector_only at before place parts.first v pieces both.0 in
    let more = records_headed v (vectors_plan slots) here parts.second vs parts.two in
    let rest = vectors_only slots (text_after_all before parts.first) here parts.second more.0 more.1 both.1 in (
      ap (λ (xs : List (Spelled TvfRecord)). bytes_of xs) parts.all ∙ bytes_of-append parts.first parts.second ∙ ap (λ (t : List ℕ). t ++ bytes_of parts.second) one ∙ ap (λ (t : List ℕ). vector_bytes v ++ t) rest.0
          ∙ ap (λ (ws : List StoredVector). vectors_bytes ws) (sym more.2),
      ap (λ (a : VectorPlace). a ∷ slots) pieces.placed ∙ ap (λ (t : List VectorPlace). record { field = v.field; place = place } ∷ t) (rest.1 ∙ ap (λ (t : List ℕ). slots_from (place + length t) more.0) one)
          ∙ ap (λ (ws : List StoredVector). slots_from place ws) (sym more.2),
    )

all_only : (documents : List (List VectorPlace)) (before : List ℕ) (place : ℕ) (ss : List (Spelled TvfRecord)) (ds : List (List StoredVector)) → AreRecordsOf (all_plan documents) place ss ds → AllShareMost before ss
    → (bytes_of ss ≡ flat_map vectors_bytes ds) × (documents ≡ all_slots place ds)
unfolding all_plan all_slots
all_only [] before place ss ds h shares =
    let none = records_done [] ds place ss h in
    (ap (λ (xs : List (Spelled TvfRecord)). bytes_of xs) none.0 ∙ ap (λ (ws : List (List StoredVector)). flat_map vectors_bytes ws) none.1, ap (λ (ws : List (List StoredVector)). all_slots place ws) none.1)
all_only (slots ∷ documents) before place ss ds h shares =
    let parts = records_then (vectors_plan slots) (λ vs. headed vs (all_plan documents)) place ss ds h in
    let d = parts.value in
    let here = place + length (bytes_of parts.first) in
    let both = shares-append before parts.first parts.second (subst (λ (xs : List (Spelled TvfRecord)). AllShareMost before xs) parts.all shares) in
    let one = vectors_only slots before place parts.first d parts.one both.0 in
    let more = records_headed d (all_plan documents) here parts.second ds parts.two in
    let rest = all_only documents (text_after_all before parts.first) here parts.second more.0 more.1 both.1 in (
      ap (λ (xs : List (Spelled TvfRecord)). bytes_of xs) parts.all ∙ bytes_of-append parts.first parts.second ∙ ap (λ (t : List ℕ). t ++ bytes_of parts.second) one.0 ∙ ap (λ (t : List ℕ). vectors_bytes d ++ t) rest.0
          ∙ ap (λ (ws : List (List StoredVector)). flat_map vectors_bytes ws) (sym more.2),
      ap (λ (a : List VectorPlace). a ∷ documents) one.1 ∙ ap (λ (t : List (List VectorPlace)). slots_from place d ∷ t) (rest.1 ∙ ap (λ (t : List ℕ). all_slots (place + length t) more.0) one.0)
          ∙ ap (λ (ws : List (List StoredVector)). all_slots place ws) (sym more.2),
    )

-- ---- the file

pub tvf_only : (slots : List (List VectorPlace)) (tvf : List ℕ) (ds : List (List StoredVector)) (read : Reads (tvf_plan slots) tvf ds) → AllShareMost [] read.records → (tvf ≡ tvf_bytes ds) × (slots ≡ all_slots 4 ds)
unfolding AllShareMost
tvf_only slots tvf ds read shares =
    let head = header_only format format_conditions 105 (λ z. refl) (all_plan slots) read.records ds (record { good = read.good; none = read.none_due }) in
    let both = subst (λ (xs : List (Spelled TvfRecord)). AllShareMost [] xs) head.all shares in
    let body = all_only slots (text_behind [] head.first.it) 4 head.more ds head.others both.1 in (
      read.front ∙ append-nil (bytes_of read.records) ∙ ap (λ (xs : List (Spelled TvfRecord)). bytes_of xs) head.all ∙ ap (λ (t : List ℕ). t ++ bytes_of head.more) head.is ∙ ap (λ (t : List ℕ). vector_header_bytes ++ t) body.0,
      body.1,
    )
