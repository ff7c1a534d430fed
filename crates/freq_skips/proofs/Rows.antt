-- Worked rows on the definitions.
use Rattle.std.proofs.Common.{◌≡◌, ℕ, true, false, Bool, List, [], ◌∷◌, ◌++◌, map, Result, Ok, Err, refl}
use Rattle.std.specs.Prelude.{replicate}
use Rattle.lu_grammar.specs.Parts.{groups}
use Rattle.lu_grammar.specs.Bytes.{Cursor, start_of}
use Rattle.lu_grammar.specs.Reading.{read, read_groups}
use Rattle.lu_grammar.specs.Records.{record_at}
use Rattle.lu_grammar.specs.Plans.{each, read_plan, Broken}
use Rattle.freq_skips.specs.declared.datum.Point.{Point}
use Rattle.freq_skips.specs.declared.rules.RuledTerm.{RuledTerm}
use Rattle.freq_skips.specs.Entries.{Posting}
use Rattle.freq_skips.specs.Levels.{greatest_power, levels}
use Rattle.freq_skips.specs.Terms.{TermData, term_plan}

term : Bool → ℕ → ℕ → ℕ → ℕ → RuledTerm
term omit doc_freq skip interval most = record {
  info = record { field = 0; doc_freq = doc_freq; freq = 0; prox = 0; skip = skip };
  rules = record { documents = 100; skip_interval = interval; max_levels = most; omit_tf = omit; payloads = false };
}

-- the place where a term ends, or its first fault
end : Result (TermData × Cursor) Broken → Result ℕ Broken
end (Ok x) = Ok x.1.place
end (Err b) = Err b

tried : RuledTerm → List ℕ → Result ℕ Broken
tried t bytes = end (read_plan (term_plan t) (start_of bytes))

fault : ℕ → ℕ → Result ℕ Broken
fault offset rule = Err (record { offset = offset; rule = rule })

-- documents and frequencies, and of each datum where it leads
shown : Result (TermData × Cursor) Broken → List (ℕ × ℕ) × List (List (ℕ × ℕ × ℕ))
shown (Ok x) = (map (λ (p : Posting). (p.doc, p.freq)) x.0.postings, map (map (λ (p : Point). (p.doc, p.freq, p.child))) x.0.levels)
shown (Err b) = ([], [])

-- once in document 7 and three times in document 11, with a byte that follows
once_and_thrice : shown (read_plan (term_plan (term false 2 0 16 10)) (start_of (0x0F ∷ 0x08 ∷ 0x03 ∷ 0x55 ∷ []))) ≡ ((7, 1) ∷ (11, 3) ∷ [], [])
unfolding shown term read read_groups each read_plan record_at greatest_power levels
once_and_thrice = refl

-- the same documents in a field without frequencies
omitted : shown (read_plan (term_plan (term true 2 0 16 10)) (start_of (0x07 ∷ 0x04 ∷ 0x55 ∷ []))) ≡ ((7, 1) ∷ (11, 1) ∷ [], [])
unfolding shown term read read_groups each read_plan record_at greatest_power levels
omitted = refl

-- once in each of the first documents
every : ℕ → List ℕ → List ℕ
every more skips = 1 ∷ replicate more 3 ++ skips

sixteen : tried (term false 16 16 16 10) (every 15 (0x0E ∷ 0x0F ∷ 0x0F ∷ 0x55 ∷ [])) ≡ Ok 19
unfolding tried end every term read read_groups each read_plan record_at greatest_power levels groups
sixteen = refl

seventeen : tried (term false 17 17 16 10) (every 16 (0x0E ∷ 0x0F ∷ 0x0F ∷ 0x55 ∷ [])) ≡ Ok 20
unfolding tried end every term read read_groups each read_plan record_at greatest_power levels groups
seventeen = refl

fifteen : tried (term false 15 0 16 10) (every 14 (0x55 ∷ [])) ≡ Ok 15
unfolding tried end every term read read_groups each read_plan record_at greatest_power levels groups
fifteen = refl

-- two levels over documents 0 to 34: the length of the upper, its first child pointer, and what follows
two_levels : ℕ → ℕ → List ℕ → List ℕ
two_levels size child after = every 34 (size ∷ 0x0E ∷ 0x0F ∷ 0x0F ∷ child ∷ 0x10 ∷ 0x10 ∷ 0x10 ∷ 0x18 ∷ 0x02 ∷ 0x03 ∷ 0x03 ∷ [] ++ replicate 21 4 ++ after)

thirty_five : tried (term false 35 35 4 2) (two_levels 8 0x0C (0x55 ∷ [])) ≡ Ok 68
unfolding tried end two_levels every term read read_groups each read_plan record_at greatest_power levels groups
thirty_five = refl

one_shorter : tried (term false 35 35 4 2) (two_levels 7 0x0C []) ≡ fault 40 79
unfolding tried fault end two_levels every term read read_groups each read_plan record_at greatest_power levels groups
one_shorter = refl

child_below : tried (term false 35 35 4 2) (two_levels 8 0x0B []) ≡ fault 53 78
unfolding tried fault end two_levels every term read read_groups each read_plan record_at greatest_power levels groups
child_below = refl
