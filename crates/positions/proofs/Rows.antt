-- Worked rows on the definitions.
use Rattle.std.proofs.Common.{◌≡◌, ℕ, true, false, Bool, List, [], ◌∷◌, ◌++◌, map, Result, Ok, Err, refl}
use Rattle.lu_grammar.specs.Parts.{groups}
use Rattle.lu_grammar.specs.Bytes.{Cursor, start_of}
use Rattle.lu_grammar.specs.Reading.{read, read_groups}
use Rattle.lu_grammar.specs.Records.{record_at}
use Rattle.lu_grammar.specs.Plans.{each, read_plan, Broken}
use Rattle.lu_types.specs.Occurrences.{Occurrence}
use Rattle.freq_skips.specs.declared.datum.Point.{Point}
use Rattle.freq_skips.specs.declared.rules.RuledTerm.{RuledTerm}
use Rattle.freq_skips.specs.Entries.{Posting}
use Rattle.freq_skips.specs.Levels.{greatest_power}
use Rattle.positions.specs.Occurrences.{PostedTerm}
use Rattle.positions.specs.Terms.{term_plan}

-- a term of so many entries, in a field that may have payloads, with one skip datum for each two entries on the lowest of so many levels
term : Bool → Bool → ℕ → ℕ → ℕ → RuledTerm
term omit payloads doc_freq most prox = record {
  info = record { field = 0; doc_freq = doc_freq; freq = 0; prox = prox; skip = doc_freq };
  rules = record { documents = 100; skip_interval = 2; max_levels = most; omit_tf = omit; payloads = payloads };
}

-- an entry in which the term stands so often
posting : ℕ → Posting
posting freq = record { doc = 0; freq = freq; before = 0; place = 0 }

-- a datum with a sum of bytes of positions and a payload length
point : ℕ × ℕ → Point
point (prox, payload) = record { doc = 0; freq = 0; prox = prox; payload = payload; child = 0; place = 0 }

posted : RuledTerm → List ℕ → List (List (ℕ × ℕ)) → PostedTerm
posted t freqs levels = record { term = t; value = record { postings = map posting freqs; levels = map (map point) levels } }

-- the occurrences of each entry and where the term ends, or its first fault
shown : Result (List (List Occurrence) × Cursor) Broken → Result (List (List (ℕ × List ℕ)) × ℕ) (ℕ × ℕ)
shown (Ok x) = Ok (map (map (λ (o : Occurrence). (o.position, o.payload))) x.0, x.1.place)
shown (Err b) = Err (b.offset, b.rule)

tried : PostedTerm → List ℕ → Result (List (List (ℕ × List ℕ)) × ℕ) (ℕ × ℕ)
tried p bytes = shown (read_plan (term_plan p) (start_of bytes))

-- two documents, with one occurrence and with two
two : PostedTerm
two = posted (term false true 2 0 0) (1 ∷ 2 ∷ []) []

a : List ℕ
a = 0xAA ∷ 0xBB ∷ 0xCC ∷ []

d : List ℕ
d = 0xDD ∷ 0xEE ∷ 0xFF ∷ []

-- the lengths are stated again, with a byte that follows
stated_again : tried two (0x01 ∷ 0x03 ∷ a ++ 0x01 ∷ 0x03 ∷ d ++ 0x03 ∷ 0x00 ∷ 0x55 ∷ []) ≡ Ok (((0, a) ∷ []) ∷ ((0, d) ∷ (1, []) ∷ []) ∷ [], 12)
unfolding tried shown two term posted posting point a d read read_groups each read_plan record_at greatest_power groups
stated_again = refl

-- the second document's first length is left in force
left_in_force : tried two (0x01 ∷ 0x03 ∷ a ++ 0x00 ∷ d ++ 0x03 ∷ 0x00 ∷ []) ≡ Ok (((0, a) ∷ []) ∷ ((0, d) ∷ (1, []) ∷ []) ∷ [], 11)
unfolding tried shown two term posted posting point a d read read_groups each read_plan record_at greatest_power groups
left_in_force = refl

-- the same, one position further
one_further : tried two (0x01 ∷ 0x03 ∷ a ++ 0x02 ∷ d ++ 0x03 ∷ 0x00 ∷ []) ≡ Ok (((0, a) ∷ []) ∷ ((1, d) ∷ (2, []) ∷ []) ∷ [], 11)
unfolding tried shown two term posted posting point a d read read_groups each read_plan record_at greatest_power groups
one_further = refl

-- a field without positions has no record, and its place is not looked at
omitted : tried (posted (term true true 2 0 7) (1 ∷ 1 ∷ []) []) (0x55 ∷ []) ≡ Ok ([] ∷ [] ∷ [], 0)
unfolding tried shown term posted posting point read read_groups each read_plan record_at greatest_power groups
omitted = refl

-- the term is to start elsewhere
elsewhere : tried (posted (term false false 1 0 1) (1 ∷ []) []) (0x00 ∷ []) ≡ Err (0, 80)
unfolding tried shown term posted posting point read read_groups each read_plan record_at greatest_power groups
elsewhere = refl

-- positions up to the greatest, and one above it
greatest : tried (posted (term false false 1 0 0) (2 ∷ []) []) (0xFF ∷ 0xFF ∷ 0xFF ∷ 0xFF ∷ 0x07 ∷ 0x00 ∷ []) ≡ Ok (((2147483647, []) ∷ (2147483647, []) ∷ []) ∷ [], 6)
unfolding tried shown term posted posting point read read_groups each read_plan record_at greatest_power groups
greatest = refl

above_it : tried (posted (term false false 1 0 0) (2 ∷ []) []) (0xFF ∷ 0xFF ∷ 0xFF ∷ 0xFF ∷ 0x07 ∷ 0x01 ∷ []) ≡ Err (5, 81)
unfolding tried shown term posted posting point read read_groups each read_plan record_at greatest_power groups
above_it = refl

-- four documents on two levels: the sums of the bytes of positions
four : ℕ → ℕ → ℕ → PostedTerm
four low high upper = posted (term false false 4 2 0) (1 ∷ 2 ∷ 1 ∷ 1 ∷ []) (((low, 0) ∷ (high, 0) ∷ []) ∷ ((upper, 0) ∷ []) ∷ [])

sums_right : tried (four 1 4 4) (0 ∷ 1 ∷ 2 ∷ 0 ∷ 5 ∷ []) ≡ Ok (((0, []) ∷ []) ∷ ((1, []) ∷ (3, []) ∷ []) ∷ ((0, []) ∷ []) ∷ ((5, []) ∷ []) ∷ [], 5)
unfolding tried shown four term posted posting point read read_groups each read_plan record_at greatest_power groups
sums_right = refl

low_sum_wrong : tried (four 2 4 4) (0 ∷ 1 ∷ 2 ∷ 0 ∷ 5 ∷ []) ≡ Err (1, 82)
unfolding tried shown four term posted posting point read read_groups each read_plan record_at greatest_power groups
low_sum_wrong = refl

upper_sum_wrong : tried (four 1 4 3) (0 ∷ 1 ∷ 2 ∷ 0 ∷ 5 ∷ []) ≡ Err (4, 82)
unfolding tried shown four term posted posting point read read_groups each read_plan record_at greatest_power groups
upper_sum_wrong = refl

-- four documents with payloads of one byte, the length stated only at the first: the lengths that the data carry
carried : ℕ → ℕ → ℕ → PostedTerm
carried low high upper = posted (term false true 4 2 0) (1 ∷ 1 ∷ 1 ∷ 1 ∷ []) (((3, low) ∷ (7, high) ∷ []) ∷ ((7, upper) ∷ []) ∷ [])

lengths_right : tried (carried 1 1 1) (1 ∷ 1 ∷ 9 ∷ 0 ∷ 8 ∷ 0 ∷ 7 ∷ 0 ∷ 6 ∷ []) ≡ Ok (((0, 9 ∷ []) ∷ []) ∷ ((0, 8 ∷ []) ∷ []) ∷ ((0, 7 ∷ []) ∷ []) ∷ ((0, 6 ∷ []) ∷ []) ∷ [], 9)
unfolding tried shown carried term posted posting point read read_groups each read_plan record_at greatest_power groups
lengths_right = refl

low_length_wrong : tried (carried 0 1 1) (1 ∷ 1 ∷ 9 ∷ 0 ∷ 8 ∷ 0 ∷ 7 ∷ 0 ∷ 6 ∷ []) ≡ Err (3, 83)
unfolding tried shown carried term posted posting point read read_groups each read_plan record_at greatest_power groups
low_length_wrong = refl

upper_length_wrong : tried (carried 1 1 0) (1 ∷ 1 ∷ 9 ∷ 0 ∷ 8 ∷ 0 ∷ 7 ∷ 0 ∷ 6 ∷ []) ≡ Err (7, 83)
unfolding tried shown carried term posted posting point read read_groups each read_plan record_at greatest_power groups
upper_length_wrong = refl
