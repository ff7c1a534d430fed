-- The line of an entry, in parts.
use Rattle.std.proofs.Common.{◌≡◌, Bool, true, false, List, ◌∷◌, ℕ, ◌++◌, codes, Option, Some, None, refl, sym, ap, ◌∙◌}
use Rattle.std.specs.Prelude.{option_map}
use Rattle.std.specs.Fmt.{decimal}
use Rattle.std.specs.List.{flat_map}
use Rattle.lu_model.specs.Index.{KeptOccurrences, given, omitted, frequency, IndexedEntry}
use Rattle.seg_reader.specs.Postings.{PostingsWalk, occurrences_kept, answered}
use Rattle.lu_listing.specs.InnerEntries.{IsOmittedBy, StandsOn}
use Rattle.lu_listing.specs.Listing.{occurrence_text, kept_text}

-- what is kept is a frequency and occurrences
pub kept-given : (omits : Bool) (k : KeptOccurrences) → IsOmittedBy omits k → omits ≡ false → codes " " ++ (decimal (frequency k) ++ flat_map occurrence_text (occurrences_kept k)) ≡ kept_text k
kept-given omits (given occurrences) is so = refl
kept-given omits omitted is so = absurd (cc is)

-- nothing is kept
pub kept-omitted : (omits : Bool) (k : KeptOccurrences) → IsOmittedBy omits k → omits ≡ true → flat_map occurrence_text (occurrences_kept k) ≡ kept_text k
kept-omitted omits (given occurrences) is so = absurd (cc is)
kept-omitted omits omitted is so = refl

-- ---- walks over entries

-- a walk that moved on stands on the entry that it answered
pub stands-next : (old new : PostingsWalk) (o : Option IndexedEntry) (omits : Bool) (document : ℕ) (e : IndexedEntry) → new ≡ answered old o → Some document ≡ option_map (λ (x : IndexedEntry). x.document) o → new.here ≡ Some e → IsOmittedBy omits e.occurrences
    → StandsOn new omits document e
stands-next old new None omits document e moved told here kept = absurd (cc told)
stands-next old new (Some x) omits document e moved told here kept =
    let both : Some x ≡ Some e = sym (ap (λ (w : PostingsWalk). w.here) moved) ∙ here in
    let same : x ≡ e = cc in
    let document_same : document ≡ x.document = cc in
    record {
      here = here;
      left = ap (λ (w : PostingsWalk). w.left) moved ∙ ap (λ (y : IndexedEntry). occurrences_kept y.occurrences) same;
      document_is = document_same ∙ ap (λ (y : IndexedEntry). y.document) same;
      omitted_by = kept;
    }

-- the lines of entries are that of the first and those of the others
pub lines-split : (text : IndexedEntry → List ℕ) (all : List IndexedEntry) (e : IndexedEntry) (left rest : List IndexedEntry) → all ≡ e ∷ left → rest ≡ left → flat_map text all ≡ text e ++ flat_map text rest
lines-split text all e left rest split same = ap (flat_map text) split ∙ ap (λ (es : List IndexedEntry). text e ++ flat_map text es) (sym same)
