-- What was read is bytes.
use Rattle.std.proofs.Common.{ℕ, ◌+◌, List, [], ◌∷◌, length, sym, subst, ◌∙◌}
use Rattle.std.proofs.lemmas.List.{append-nil}
use Rattle.lu_grammar.specs.Bytes.{IsBytes}
use Rattle.lu_grammar.specs.Plans.{Plan, done, due}
use Rattle.lu_grammar.specs.Meaning.{Spelled, bytes_of, AreGood, Reads}
use Rattle.lu_grammar.proofs.SpelledBytes.{IsBytes-nil, IsBytes-append, IsBytes-Spells}

good-bytes : {V R : Type 0} (plan : Plan V R) (place : ℕ) (records : List (Spelled R)) → AreGood plan place records → IsBytes (bytes_of records)
good-bytes plan place [] h = IsBytes-nil
good-bytes (done v) place (s ∷ ss) h = absurd h
good-bytes (due shape conditions after) place (s ∷ ss) h =
    IsBytes-append s.front (bytes_of ss) (IsBytes-Spells shape s.it s.front h.0.0) (good-bytes (after place s.it) (place + length s.front) ss h.1)

-- the bytes of a file that was read are bytes
pub read-bytes : {V R : Type 0} (plan : Plan V R) (bytes : List ℕ) (v : V) → Reads plan bytes v → IsBytes bytes
read-bytes plan bytes v h = subst IsBytes (sym (h.front ∙ append-nil (bytes_of h.records))) (good-bytes plan 0 h.records h.good)
