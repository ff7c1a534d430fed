-- The laws that the functions of `laws` state.
use Rattle.std.proofs.Common.{◌≡◌, ℕ, ◌+◌, List, ◌++◌, length, drop, Result, Ok, Err, refl, sym, ap, subst, ◌∙◌}
use Rattle.std.proofs.lemmas.List.{append_cancel_left}
use Rattle.lu_grammar.specs.declared.bad.Bad.{Bad}
use Rattle.lu_grammar.specs.Bytes.{IsBytes, Cursor}
use Rattle.lu_grammar.specs.Parts.{Part, Value, IsValue, IsSpelling, spelling, HasNone, IsWrong}
use Rattle.lu_grammar.specs.Reading.{read}
use Rattle.lu_grammar.specs.Plans.{Plan, Broken}
use Rattle.lu_grammar.specs.Meaning.{Spelled, AreGood, due_after, bytes_of, BreaksHere, Reads, FaultFrom, FirstFault}
use Rattle.lu_grammar.proofs.Parts.{read-spelling, read-judges, Takes, Judges}
use Rattle.lu_grammar.proofs.Records.{ok_pair, same_pair}
use Rattle.lu_grammar.proofs.Plans.{FaultFrom-EndsAt, ok_of, err_of, err_is_not_ok}
use Rattle.lu_grammar.proofs.Files.{read_file-Reads, read_file-FirstFault}

pub spelling_is_one : (p : Part) (v w : Value p) (a b x y : List ℕ) → IsSpelling p v a → IsSpelling p w b → a ++ x ≡ b ++ y → (v ≡ w) × (a ≡ b) × (x ≡ y)
spelling_is_one p v w a b x y f g same =
    let bytes : spelling p v ++ x ≡ spelling p w ++ y = ap (λ (t : List ℕ). t ++ x) (sym f.1) ∙ same ∙ ap (λ (t : List ℕ). t ++ y) g.1 in
    let both : ok_pair {E = Bad} v (length (spelling p v)) ≡ ok_pair w (length (spelling p w)) = sym (read-spelling p v x f.0) ∙ ap (read p) bytes ∙ read-spelling p w y g.0 in
    let parts = same_pair v w (length (spelling p v)) (length (spelling p w)) both in
    let fronts : a ≡ b = f.1 ∙ ap (spelling p) parts.0 ∙ sym g.1 in
    (parts.0, fronts, append_cancel_left a x y (same ∙ ap (λ (t : List ℕ). t ++ y) (sym fronts)))

pub read_is_spelled : (p : Part) (bs : List ℕ) (v : Value p) (n : ℕ) → IsBytes bs → read p bs ≡ Ok (v, n) → IsValue p v × (bs ≡ spelling p v ++ drop n bs) × (n ≡ length (spelling p v))
read_is_spelled p bs v n fits e =
    let taken : Takes p bs v n = subst (λ (r : Result (Value p × ℕ) Bad). Judges p bs r) e (read-judges p bs fits) in
    let again : read p bs ≡ Ok (v, length (spelling p v)) = ap (read p) taken.front ∙ read-spelling p v (drop n bs) taken.value in
    (taken.value, taken.front, (same_pair v v n (length (spelling p v)) (sym e ∙ again)).1)

pub failed_is_wrong : (p : Part) (bs : List ℕ) (bad : Bad) → IsBytes bs → read p bs ≡ Err bad → IsWrong p bs bad
failed_is_wrong p bs bad fits e = let h : Judges p bs (err_of bad) = subst (λ (r : Result (Value p × ℕ) Bad). Judges p bs r) e (read-judges p bs fits) in h

pub failed_has_none : (p : Part) (bs : List ℕ) (bad : Bad) → read p bs ≡ Err bad → HasNone p bs
failed_has_none p bs bad e v back value front =
    let again : read p bs ≡ ok_of (v, length (spelling p v)) = ap (read p) front ∙ read-spelling p v back value in
    err_is_not_ok (sym e ∙ again)

pub none_fails : (p : Part) (bs : List ℕ) → IsBytes bs → HasNone p bs → (bad : Bad) × (read p bs ≡ Err bad)
none_fails p bs fits none = go (read p bs) refl (read-judges p bs fits)
  where
    go : (r : Result (Value p × ℕ) Bad) → read p bs ≡ r → Judges p bs r → (bad : Bad) × (read p bs ≡ Err bad)
    go (Ok x) e taken = absurd (none x.0 (drop x.1 bs) taken.value taken.front)
    go (Err bad) e wrong = (bad, e)

pub value_is_one : {V R : Type 0} (plan : Plan V R) (bytes : List ℕ) (v w : V) → Reads plan bytes v → Reads plan bytes w → v ≡ w
value_is_one {V} {R} plan bytes v w f g = same (sym (read_file-Reads plan bytes v f) ∙ read_file-Reads plan bytes w g)
  where
    same : ok_of {E = Broken} v ≡ ok_of w → v ≡ w
    same e = cc

pub no_fault_if_read : {V R : Type 0} (plan : Plan V R) (bytes : List ℕ) (v : V) (offset rule : ℕ) → IsBytes bytes → Reads plan bytes v → FirstFault plan bytes offset rule → ⊥
no_fault_if_read {V} {R} plan bytes v offset rule fits f g = err_is_not_ok (sym (read_file-FirstFault plan bytes offset rule fits g) ∙ read_file-Reads plan bytes v f)

abbrev pub fault : ℕ → ℕ → Broken
fault offset rule = record { offset = offset; rule = rule }

pub fault_is_one : {V R : Type 0} (plan : Plan V R) (bytes : List ℕ) (offset rule other_offset other_rule : ℕ) → IsBytes bytes → FirstFault plan bytes offset rule → FirstFault plan bytes other_offset other_rule
    → (offset ≡ other_offset) × (rule ≡ other_rule)
fault_is_one {V} {R} plan bytes offset rule other_offset other_rule fits f g = same (sym (read_file-FirstFault plan bytes offset rule fits f) ∙ read_file-FirstFault plan bytes other_offset other_rule fits g)
  where
    same : err_of {A = V} (fault offset rule) ≡ err_of (fault other_offset other_rule) → (offset ≡ other_offset) × (rule ≡ other_rule)
    same e = let b : fault offset rule ≡ fault other_offset other_rule = cc in (ap (λ (x : Broken). x.offset) b, ap (λ (x : Broken). x.rule) b)

pub fault_is_local : {V R : Type 0} (plan : Plan V R) (from : Cursor) (records : List (Spelled R)) (more : List ℕ) (rule : ℕ) → IsBytes from.rest → AreGood plan from.place records → from.rest ≡ bytes_of records ++ more
    → BreaksHere (due_after plan from.place records) (from.place + length (bytes_of records)) more rule → FaultFrom plan from (from.place + length (bytes_of records)) rule
fault_is_local plan from records more rule fits good front broken =
    FaultFrom-EndsAt plan from (from.place + length (bytes_of records)) rule fits (record { records = records; more = more; good = good; front = front; place = refl; broken = broken })
