-- Plans in turn over a file: so many have passed, one more, the first fault, and bytes behind the last.
use Rattle.std.proofs.Common.{◌≡◌, ℕ, ◌<◌, List, [], ◌∷◌, ◌++◌, length, drop, Result, Ok, Err, refl, ap, subst, ◌∙◌, arith}
use Rattle.std.proofs.lemmas.List.{length-drop}
use Rattle.std.proofs.Math.Seq.{drop-length}
use Rattle.lu_grammar.specs.Bytes.{IsBytes, Cursor, start_of, place_in}
use Rattle.lu_grammar.specs.Reading.{◌>>=◌}
use Rattle.lu_grammar.specs.Plans.{Plan, Broken, in_turn, read_plan, ended}
use Rattle.lu_grammar.specs.Meaning.{ReadsTo, Reads, FirstFault}
use Rattle.lu_grammar.specs.RuleNumbers as rules
use Rattle.lu_grammar.proofs.Plans.{read_plan-ReadsTo, reads-read_plan}
use Rattle.lu_grammar.proofs.Files.{FirstFault-from}
use Rattle.lu_grammar.proofs.FileEnds.{trailing}
use Rattle.lu_grammar.proofs.Loops.{in_turn-more, in_turn-fault}

-- the first records of a file are the plans in turn, which stand for these, and they end at a place
abbrev pub AreUpTo : {C V R : Type 0} → (C → Plan V R) → List C → List ℕ → ℕ → List V → Type 0
AreUpTo plan cs bytes place values = ReadsTo (in_turn plan cs) (start_of bytes) values (place_in bytes place)

-- where they end with the file they are the whole of it
pub turns-whole : {C V R : Type 0} (plan : C → Plan V R) (cs : List C) (bytes : List ℕ) (values : List V) → AreUpTo plan cs bytes (length bytes) values → Reads (in_turn plan cs) bytes values
turns-whole plan cs bytes values h = subst (λ (bs : List ℕ). ReadsTo (in_turn plan cs) (start_of bytes) values (record { place = length bytes; rest = bs })) (drop-length bytes) h

module _ {C V R : Type 0} (plan : C → Plan V R) (bytes : List ℕ) (fits : IsBytes bytes) where
  pub turns-none : AreUpTo plan [] bytes 0 []
  unfolding read_plan
  turns-none = reads-read_plan (in_turn plan []) (start_of bytes) [] (place_in bytes 0) fits refl

  pub turns-more : (cs : List C) (values : List V) (c : C) (place end : ℕ) (v : V) → AreUpTo plan cs bytes place values → read_plan (plan c) (place_in bytes place) ≡ Ok (v, place_in bytes end)
      → AreUpTo plan (cs ++ c ∷ []) bytes end (values ++ v ∷ [])
  turns-more cs values c place end v before here =
      reads-read_plan (in_turn plan (cs ++ c ∷ [])) (start_of bytes) (values ++ v ∷ []) (place_in bytes end) fits
      (in_turn-more plan cs c (start_of bytes) (place_in bytes place) values v (place_in bytes end) (read_plan-ReadsTo (in_turn plan cs) (start_of bytes) values (place_in bytes place) before) here)

  pub turns-fault : (cs : List C) (values : List V) (c : C) (rest : List C) (place : ℕ) (b : Broken) → AreUpTo plan cs bytes place values → read_plan (plan c) (place_in bytes place) ≡ Err b
      → FirstFault (in_turn plan (cs ++ c ∷ rest)) bytes b.offset b.rule
  turns-fault cs values c rest place b before here =
      let e = in_turn-fault plan cs c rest (start_of bytes) (place_in bytes place) values b (read_plan-ReadsTo (in_turn plan cs) (start_of bytes) values (place_in bytes place) before) here in
      FirstFault-from (in_turn plan (cs ++ c ∷ rest)) bytes b fits (ap (λ (r : Result (List V × Cursor) Broken). r >>= ended) e)

  pub turns-trailing : (cs : List C) (values : List V) (place : ℕ) → AreUpTo plan cs bytes place values → place < length bytes → FirstFault (in_turn plan cs) bytes place rules.trailing
  turns-trailing cs values place before lt =
      let e = read_plan-ReadsTo (in_turn plan cs) (start_of bytes) values (place_in bytes place) before in
      let some : 0 < length (drop place bytes) = omega (arith, length-drop place bytes) in
      FirstFault-from (in_turn plan cs) bytes (record { offset = place; rule = rules.trailing }) fits (ap (λ (r : Result (List V × Cursor) Broken). r >>= ended) e ∙ trailing values (place_in bytes place) some)
