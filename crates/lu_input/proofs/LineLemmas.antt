-- The walk over the lines of an input.
use Rattle.std.proofs.Common.{◌≡◌, ◌≢◌, ℕ, suc, ◌+◌, ◌-◌, ◌<◌, ◌≤◌, Bool, true, false, cond, List, [], ◌∷◌, ◌++◌, length, take, drop, slice_index, drop-cons, add-one, Option, Some, None, Result, Ok, Err, ◌⊎◌, inl, inr, refl, sym, ap, ◌∙◌, arith, append_assoc, length-drop}
use Rattle.std.specs.Option.{option_to_list}
use Rattle.std.specs.List.{slice_range}
use Rattle.std.proofs.lemmas.Bool.{eq-eqb, ne_eqb}
use Rattle.std.proofs.Math.Seq.{take-suc}
use Rattle.std.proofs.Math.ListN.{drop_of_length-le}
use Rattle.std.proofs.lemmas.List.{append-nil, get_or-drop, take_all}
use Rattle.std.specs.Str.{is_utf8, IsUtf8}
use Rattle.serde_json.specs.Data.{Data}
use Rattle.serde_json.specs.Read.{read}
use Rattle.std.proofs.lemmas.Str.{is_utf8-from_IsUtf8, IsUtf8-from_is_utf8}
use Rattle.lu_types.specs.declared.document.Document.{Document}
use Rattle.lu_types.specs.declared.document.Limits.{Limits}
use Rattle.lu_input.specs.declared.fault.LineFault.{LineFault}
use Rattle.lu_input.specs.declared.fault.InputFault.{InputFault}
use Rattle.lu_input.specs.declared.fault.InputFault.TheVariants.{Line, OutOfMemory}
use Rattle.lu_input.specs.Answers.{Appends}
use Rattle.lu_input.specs.Lines.{json_of, lines_after, before_all, before_the_rest, numbered_line, line_document, line_found, documents_from, input_documents}

-- the lines before the byte at `start` were read; a line begins there, and reaches at least up to `place`
abbrev pub ReadLines : Limits → List ℕ → List Document → ℕ → ℕ → ℕ → Type 0
ReadLines limits bytes docs number start place =
    input_documents limits bytes ≡ before_all docs (documents_from limits number (lines_after (slice_range bytes start place) (drop place bytes)))

before_nil : (r : Result (List Document) InputFault) → r ≡ before_all [] r
before_nil (Ok docs) = refl
before_nil (Err fault) = refl

before_twice : (docs more : List Document) (r : Result (List Document) InputFault) → before_all docs (before_all more r) ≡ before_all (docs ++ more) r
before_twice docs more (Ok rest) = ap (λ ds. Ok ds) (sym (append_assoc docs more rest))
before_twice docs more (Err fault) = refl

found_at : (number : ℕ) (judged_line : Result Document LineFault) (found : Option Document) (rest : Result (List Document) InputFault) → numbered_line number judged_line ≡ Ok found → before_the_rest number judged_line rest ≡ before_all (option_to_list found) rest
found_at number (Ok doc) found rest e = ap (λ (o : Option Document). before_all (option_to_list o) rest) same
  where
    same : Some doc ≡ found
    same = cc
found_at number (Err fault) found rest e = absurd (cc)

fault_at : (number : ℕ) (judged_line : Result Document LineFault) (fault : InputFault) (rest : Result (List Document) InputFault) → numbered_line number judged_line ≡ Err fault → before_the_rest number judged_line rest ≡ Err fault
fault_at number (Ok doc) fault rest e = absurd (cc)
fault_at number (Err told) fault rest e = same
  where
    bare : Line number told ≡ fault
    bare = cc

    same : before_the_rest number (Err told) rest ≡ Err fault
    same = ap (λ f. Err f) bare

found_first : (limits : Limits) (number : ℕ) (line : List ℕ) (rest : List (List ℕ)) (found : Option Document) → line_found limits number line ≡ Ok found
    → documents_from limits number (line ∷ rest) ≡ before_all (option_to_list found) (documents_from limits (number + 1) rest)
unfolding line_found documents_from
found_first limits number [] rest found e = before_nil (documents_from limits (number + 1) rest) ∙ ap (λ (o : Option Document). before_all (option_to_list o) (documents_from limits (number + 1) rest)) same
  where
    same : None ≡ found
    same = cc
found_first limits number (b ∷ line) rest found e = found_at number (line_document limits (b ∷ line)) found (documents_from limits (number + 1) rest) e

fault_first : (limits : Limits) (number : ℕ) (line : List ℕ) (rest : List (List ℕ)) (fault : InputFault) → line_found limits number line ≡ Err fault → documents_from limits number (line ∷ rest) ≡ Err fault
unfolding line_found documents_from
fault_first limits number [] rest fault e = absurd (cc)
fault_first limits number (b ∷ line) rest fault e = fault_at number (line_document limits (b ∷ line)) fault (documents_from limits (number + 1) rest) e

-- ---- the document of one line

pub json_some : (line : List ℕ) (d : Data) → IsUtf8 line × (read line ≡ Some d) → json_of line ≡ Some d
json_some line d h = ap (λ b. cond b (read line) None) (is_utf8-from_IsUtf8 line h.0) ∙ h.1

pub json_none : (line : List ℕ) → (IsUtf8 line → read line ≡ None) → json_of line ≡ None
json_none line h = at (is_utf8 line) refl
  where
    at : (b : Bool) → is_utf8 line ≡ b → json_of line ≡ None
    at true e = ap (λ x. cond x (read line) None) e ∙ h (IsUtf8-from_is_utf8 line e)
    at false e = ap (λ x. cond x (read line) None) e

pub line_found-some : (limits : Limits) (number : ℕ) (line : List ℕ) (doc : Document) → (length line ≡ 0 → ⊥) → line_document limits line ≡ Ok doc → line_found limits number line ≡ Ok (Some doc)
unfolding line_found
line_found-some limits number [] doc some e = absurd (some refl)
line_found-some limits number (b ∷ line) doc some e = ap (numbered_line number) e

-- ---- the walk

module _ (limits : Limits) (bytes : List ℕ) where
  pub read_start : ReadLines limits bytes [] 1 0 0
  read_start = before_nil (input_documents limits bytes)

  module _ (docs : List Document) (number start place : ℕ) (so : ReadLines limits bytes docs number start place) where
    -- the line that ends at this place
    line : List ℕ
    line = slice_range bytes start place

    first : place < length bytes → drop place bytes ≡ slice_index bytes place ∷ drop (place + 1) bytes
    first h = drop-cons bytes place 0 h ∙ ap (λ n. slice_index bytes place ∷ drop n bytes) (sym (add-one place))

    longer : start ≤ place → place < length bytes → slice_range bytes start (place + 1) ≡ slice_range bytes start place ++ slice_index bytes place ∷ []
    longer s h =
        let n : place + 1 - start ≡ suc (place - start) = omega arith in
        let within : place - start < length (drop start bytes) = omega (arith, length-drop start bytes) in
        let at : start + (place - start) ≡ place = omega arith in
        ap (λ k. take k (drop start bytes)) n ∙ take-suc (drop start bytes) (place - start) 0 within
        ∙ ap (λ b. take (place - start) (drop start bytes) ++ b ∷ []) (get_or-drop start bytes (place - start) 0 ∙ ap (λ k. slice_index bytes k) at)

    pub read_byte : start ≤ place → place < length bytes → slice_index bytes place ≢ 10 → ReadLines limits bytes docs number start (place + 1)
    unfolding lines_after
    read_byte s h other =
        so ∙ ap (λ bs. before_all docs (documents_from limits number (lines_after (slice_range bytes start place) bs))) (first h)
        ∙ ap (λ b. before_all docs (documents_from limits number (cond b (slice_range bytes start place ∷ lines_after [] (drop (place + 1) bytes)) (lines_after (slice_range bytes start place ++ slice_index bytes place ∷ []) (drop (place + 1) bytes))))) (ne_eqb (slice_index bytes place) 10 other)
        ∙ ap (λ l. before_all docs (documents_from limits number (lines_after l (drop (place + 1) bytes)))) (sym (longer s h))

    at_feed : place < length bytes → slice_index bytes place ≡ 10 → input_documents limits bytes ≡ before_all docs (documents_from limits number (slice_range bytes start place ∷ lines_after [] (drop (place + 1) bytes)))
    unfolding lines_after
    at_feed h feed =
        so ∙ ap (λ bs. before_all docs (documents_from limits number (lines_after (slice_range bytes start place) bs))) (first h)
        ∙ ap (λ b. before_all docs (documents_from limits number (cond b (slice_range bytes start place ∷ lines_after [] (drop (place + 1) bytes)) (lines_after (slice_range bytes start place ++ slice_index bytes place ∷ []) (drop (place + 1) bytes))))) (eq-eqb (slice_index bytes place) 10 feed)

    pub read_line : place < length bytes → slice_index bytes place ≡ 10 → (found : Option Document) → line_found limits number (slice_range bytes start place) ≡ Ok found
        → ReadLines limits bytes (docs ++ option_to_list found) (number + 1) (place + 1) (place + 1)
    read_line h feed found e =
        let none : place + 1 - (place + 1) ≡ 0 = omega arith in
        at_feed h feed ∙ ap (before_all docs) (found_first limits number (slice_range bytes start place) (lines_after [] (drop (place + 1) bytes)) found e)
        ∙ before_twice docs (option_to_list found) (documents_from limits (number + 1) (lines_after [] (drop (place + 1) bytes)))
        ∙ ap (λ l. before_all (docs ++ option_to_list found) (documents_from limits (number + 1) (lines_after l (drop (place + 1) bytes)))) (sym (ap (λ k. take k (drop (place + 1) bytes)) none))

    pub refuse_line : place < length bytes → slice_index bytes place ≡ 10 → (fault : InputFault) → line_found limits number (slice_range bytes start place) ≡ Err fault → input_documents limits bytes ≡ Err fault
    refuse_line h feed fault e = at_feed h feed ∙ ap (before_all docs) (fault_first limits number (slice_range bytes start place) (lines_after [] (drop (place + 1) bytes)) fault e)

    last_line : length bytes ≤ place → slice_range bytes start place ≡ drop start bytes
    last_line h = let all : length (drop start bytes) ≤ place - start = omega (arith, length-drop start bytes) in take_all (place - start) (drop start bytes) all

    at_end : length bytes ≤ place → input_documents limits bytes ≡ before_all docs (documents_from limits number (drop start bytes ∷ []))
    unfolding lines_after
    at_end h =
        so ∙ ap (λ bs. before_all docs (documents_from limits number (lines_after (slice_range bytes start place) bs))) (drop_of_length-le bytes h)
        ∙ ap (λ l. before_all docs (documents_from limits number (l ∷ []))) (last_line h)

    pub read_last : length bytes ≤ place → (tail : List ℕ) → tail ≡ drop start bytes → (found : Option Document) → line_found limits number tail ≡ Ok found → input_documents limits bytes ≡ Ok (docs ++ option_to_list found)
    unfolding documents_from
    read_last h tail is found e =
        at_end h ∙ ap (λ l. before_all docs (documents_from limits number (l ∷ []))) (sym is) ∙ ap (before_all docs) (found_first limits number tail [] found e)
        ∙ ap (λ ds. Ok (docs ++ ds)) (append-nil (option_to_list found))

    pub refuse_last : length bytes ≤ place → (tail : List ℕ) → tail ≡ drop start bytes → (fault : InputFault) → line_found limits number tail ≡ Err fault → input_documents limits bytes ≡ Err fault
    refuse_last h tail is fault e = at_end h ∙ ap (λ l. before_all docs (documents_from limits number (l ∷ []))) (sym is) ∙ ap (before_all docs) (fault_first limits number tail [] fault e)

-- what an answer that is no success says
pub told : (expected : Result (Option Document) InputFault) (old new : List Document) (fault : InputFault) → Appends expected old new (Err fault) → (fault ≡ OutOfMemory) ⊎ (expected ≡ Err fault)
told expected old new (Line number fault) h = inr h
told expected old new OutOfMemory h = inl refl

pub moved : (limits : Limits) (bytes : List ℕ) (docs news : List Document) (number later start begin place : ℕ) → ReadLines limits bytes docs number start place → news ≡ docs → later ≡ number → begin ≡ start → ReadLines limits bytes news later begin place
moved limits bytes docs news number later start begin place so d n s =
    so ∙ ap (λ ds. before_all ds (documents_from limits number (lines_after (slice_range bytes start place) (drop place bytes)))) (sym d)
    ∙ ap (λ k. before_all news (documents_from limits k (lines_after (slice_range bytes start place) (drop place bytes)))) (sym n)
    ∙ ap (λ k. before_all news (documents_from limits later (lines_after (slice_range bytes k place) (drop place bytes)))) (sym s)
