-- The documents of an input have no fault.
use Rattle.std.proofs.Common.{◌≡◌, ℕ, ◌+◌, All, List, [], ◌∷◌, Option, Some, None, Result, Ok, Err, refl, subst}
use Rattle.std.proofs.lemmas.List.Elements.{All-nil, All-cons}
use Rattle.serde_json.specs.Data.{Data}
use Rattle.lu_types.specs.declared.document.Document.{Document}
use Rattle.lu_types.specs.declared.document.DocFault.{DocFault}
use Rattle.lu_types.specs.declared.document.Limits.{Limits}
use Rattle.lu_types.specs.DocFaults.{doc_fault}
use Rattle.lu_input.specs.declared.fault.LineFault.{LineFault}
use Rattle.lu_input.specs.declared.fault.InputFault.{InputFault}
use Rattle.lu_input.specs.Shapes.{document_of}
use Rattle.lu_input.specs.Lines.{lines, json_of, faulty, shaped, judged_line, line_document, before_all, before_the_rest, documents_from, input_documents}

abbrev IsSoundDocument : Limits → Document → Type 0
IsSoundDocument limits doc = doc_fault doc limits ≡ None

abbrev SoundIfOk : Limits → Result Document LineFault → Type 0
SoundIfOk limits (Ok doc) = IsSoundDocument limits doc
SoundIfOk limits (Err fault) = Unit {0}

abbrev AllSoundIfOk : Limits → Result (List Document) InputFault → Type 0
AllSoundIfOk limits (Ok docs) = All (IsSoundDocument limits) docs
AllSoundIfOk limits (Err fault) = Unit {0}

faulty-sound : (limits : Limits) (doc : Document) (o : Option DocFault) → doc_fault doc limits ≡ o → SoundIfOk limits (faulty doc o)
faulty-sound limits doc None e = e
faulty-sound limits doc (Some fault) e = tt

shaped-sound : (limits : Limits) (o : Option Document) → SoundIfOk limits (shaped limits o)
shaped-sound limits None = tt
shaped-sound limits (Some doc) = faulty-sound limits doc (doc_fault doc limits) refl

judged_line-sound : (limits : Limits) (o : Option Data) → SoundIfOk limits (judged_line limits o)
judged_line-sound limits None = tt
judged_line-sound limits (Some d) = shaped-sound limits (document_of d)

line-sound : (limits : Limits) (line : List ℕ) → SoundIfOk limits (line_document limits line)
unfolding line_document
line-sound limits line = judged_line-sound limits (json_of line)

more-sound : (limits : Limits) (doc : Document) (r : Result (List Document) InputFault) → IsSoundDocument limits doc → AllSoundIfOk limits r → AllSoundIfOk limits (before_all (doc ∷ []) r)
more-sound limits doc (Ok docs) first rest = All-cons (IsSoundDocument limits) doc docs first rest
more-sound limits doc (Err fault) first rest = tt

line-and-more : (limits : Limits) (number : ℕ) (line : Result Document LineFault) (r : Result (List Document) InputFault) → SoundIfOk limits line → AllSoundIfOk limits r → AllSoundIfOk limits (before_the_rest number line r)
line-and-more limits number (Ok doc) r first rest = more-sound limits doc r first rest
line-and-more limits number (Err fault) r first rest = tt

lines-sound : (limits : Limits) (number : ℕ) (ls : List (List ℕ)) → AllSoundIfOk limits (documents_from limits number ls)
unfolding documents_from
lines-sound limits number [] = All-nil (IsSoundDocument limits)
lines-sound limits number ([] ∷ rest) = lines-sound limits (number + 1) rest
lines-sound limits number ((b ∷ line) ∷ rest) = line-and-more limits number (line_document limits (b ∷ line)) (documents_from limits (number + 1) rest) (line-sound limits (b ∷ line)) (lines-sound limits (number + 1) rest)

pub input-sound : (limits : Limits) (bytes : List ℕ) (documents : List Document) → input_documents limits bytes ≡ Ok documents → All (IsSoundDocument limits) documents
input-sound limits bytes documents e = subst (AllSoundIfOk limits) e (lines-sound limits 1 (lines bytes))
