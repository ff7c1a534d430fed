-- What stands in the two files of a writer of stored documents (format page, "Stored documents").
use Rattle.std.specs.Prelude.{◌≡◌, ℕ, zero, suc, ◌+◌, ◌-◌, ◌<◌, false, List, [], ◌∷◌, ◌++◌, length, All, Option, Some, None}
use Rattle.std.specs.List.{flat_map}
use Rattle.lu_grammar.specs.Parts.{num, IsValue, spelling}
use Rattle.lu_grammar.specs.Reading.{value_or}
use Rattle.lu_grammar.specs.Plans.{Plan, done, due, and_then, times, each, read_file}
use Rattle.stored_fields.specs.Values.{StoredDocument}
use Rattle.stored_fields.specs.Documents.{FdtRecord, header_shape, count_of, count_shape, values_kind}
use Rattle.stored_fields.specs.Stores.{total_of}
use Rattle.stored_fields.specs.Writing.{IsStorableField, AreStorable, value_bytes, fdt_bytes, place_bytes, fdx_bytes, OpenDocument, HeldDocuments}

-- ---- which documents stand there

-- a document that lacks so many of its values
abbrev pub open_plan : ℕ → Plan OpenDocument FdtRecord
open_plan lacks =
    due count_shape (λ _ _. [])
    (λ _ r. and_then (times (values_kind false 0) (count_of r - lacks) []) (λ values. done (record { announced = count_of r; values = values })))

-- one more document, with all of its values
abbrev pub finished_plan : List StoredDocument → Plan (List StoredDocument) FdtRecord
finished_plan documents = and_then (open_plan 0) (λ d. done (documents ++ d.values ∷ []))

-- so many documents, the last of which lacks so many values
abbrev pub held_documents : ℕ → ℕ → Plan HeldDocuments FdtRecord
held_documents total zero = and_then (each finished_plan total []) (λ documents. done (record { finished = documents; opened = None }))
held_documents total (suc n) =
    and_then (each finished_plan (total - 1) [])
    (λ documents. and_then (open_plan (suc n)) (λ d. done (record { finished = documents; opened = Some d })))

-- `.fdt` of them
abbrev pub held_plan : ℕ → ℕ → Plan HeldDocuments FdtRecord
held_plan total lacks = due header_shape (λ _ _. []) (λ _ _. held_documents total lacks)

-- what both files hold, whose last document lacks so many values
abbrev pub held_in : List ℕ → List ℕ → ℕ → HeldDocuments
held_in fdx fdt lacks = value_or (record { finished = []; opened = None }) (read_file (held_plan (total_of fdx) lacks) fdt)

-- ---- how they are spelled

-- how many values an open document is to have, and those so far
abbrev pub open_bytes : OpenDocument → List ℕ
open_bytes d = spelling num d.announced ++ flat_map value_bytes d.values

-- both files are the spelling of these finished documents and of the open one, which lacks so many values
abbrev pub AreSpelled : List ℕ → List ℕ → ℕ → List StoredDocument → Option OpenDocument → Type 0
AreSpelled fdx fdt lacks finished None = (fdx ≡ fdx_bytes finished) × (fdt ≡ fdt_bytes finished) × (lacks ≡ 0)
AreSpelled fdx fdt lacks finished (Some d) =
    (fdx ≡ fdx_bytes finished ++ place_bytes (length (fdt_bytes finished))) × (fdt ≡ fdt_bytes finished ++ open_bytes d)
    × (length d.values + lacks ≡ d.announced) × (0 < lacks)

-- the open document, if there is one, has fewer than 2^31 values, and those so far can be stored
abbrev pub IsStorableSoFar : Option OpenDocument → Type 0
IsStorableSoFar None = Unit {0}
IsStorableSoFar (Some d) = IsValue num d.announced × All IsStorableField d.values

-- both files are the spelling of what is held, which can be stored
abbrev pub AreHeld : List ℕ → List ℕ → ℕ → HeldDocuments → Type 0
AreHeld fdx fdt lacks held = AreStorable held.finished × IsStorableSoFar held.opened × AreSpelled fdx fdt lacks held.finished held.opened
