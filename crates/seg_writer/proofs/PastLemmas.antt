-- The first of some files that passes the limit, piece by piece.
use Rattle.std.proofs.Common.{◌≡◌, refl, ap, sym, ◌∙◌, subst, ℕ, ◌<◌, ◌^◌, ◌++◌, Bool, true, false, cond, List, [], ◌∷◌, length, Option, None, Some, Err, inl, inr, arith}
use Rattle.std.specs.Option.{option_or}
use Rattle.std.specs.Prelude.{nat_lt}
use Rattle.std.proofs.lemmas.Bool.{cases_lt, le-ltb}
use Rattle.check_index.specs.Files.{PartFiles}
use Rattle.field_infos.specs.Spelling.{fnm_spelling}
use Rattle.lu_types.specs.Tables.{TableField}
use Rattle.lu_types.specs.declared.kind.FileKind.{FileKind}
use Rattle.lu_types.specs.declared.kind.FileKind.TheVariants.{Fnm, Fdx, Fdt, Tis, Tii, Frq, Prx, Nrm, Tvx, Tvd, Tvf}
use Rattle.lu_types.specs.declared.named_file.NamedFile.{NamedFile}
use Rattle.posting_files.specs.States.{named}
use Rattle.segment_files.specs.Written.{first_past, written_in_order}
use Rattle.seg_writer.specs.Answers.{Wrote}
use Rattle.seg_writer.specs.declared.fault.WriteFault.{WriteFault}
use Rattle.seg_writer.specs.declared.fault.WriteFault.TheVariants.{Doc, TooLarge, OutOfMemory}
use Rattle.seg_writer.proofs.FnmLemmas.{fnm-past}

pub first_past-append : (limit : ℕ) (xs ys : List NamedFile) → first_past limit (xs ++ ys) ≡ option_or (first_past limit xs) (first_past limit ys)
first_past-append limit [] ys = refl
first_past-append limit (x ∷ xs) ys =
    elim (nat_lt limit (length x.bytes)) as (λ b. cond b (Some x.kind) (first_past limit (xs ++ ys)) ≡ option_or (cond b (Some x.kind) (first_past limit xs)) (first_past limit ys)) [
      | true ↦ refl
      | false ↦ first_past-append limit xs ys
    ]

pub past-here : (limit : ℕ) (xs ys : List NamedFile) (kind : FileKind) → first_past limit xs ≡ Some kind → first_past limit (xs ++ ys) ≡ Some kind
past-here limit xs ys kind past = first_past-append limit xs ys ∙ ap (λ f. option_or f (first_past limit ys)) past

pub past-later : (limit : ℕ) (xs ys : List NamedFile) (found : Option FileKind) → first_past limit xs ≡ None → first_past limit ys ≡ found → first_past limit (xs ++ ys) ≡ found
past-later limit xs ys found within past = first_past-append limit xs ys ∙ ap (λ f. option_or f (first_past limit ys)) within ∙ past

-- what was not written of some files was not of these and others
pub wrote-here : {X Y : Type 0} (view : X → List NamedFile) (whole : Y → List NamedFile) (limit : ℕ) (xs ys : List NamedFile) (fault : WriteFault) → Wrote view limit xs (Err fault) → Wrote whole limit (xs ++ ys) (Err fault)
wrote-here view whole limit xs ys (Doc number fault) h = h
wrote-here view whole limit xs ys (TooLarge kind) h = past-here limit xs ys kind h
wrote-here view whole limit xs ys OutOfMemory h = tt

pub wrote-later : {X Y : Type 0} (view : X → List NamedFile) (whole : Y → List NamedFile) (limit : ℕ) (xs ys : List NamedFile) (fault : WriteFault) → first_past limit xs ≡ None → Wrote view limit ys (Err fault) → Wrote whole limit (xs ++ ys) (Err fault)
wrote-later view whole limit xs ys (Doc number fault) within h = h
wrote-later view whole limit xs ys (TooLarge kind) within h = past-later limit xs ys (Some kind) within h
wrote-later view whole limit xs ys OutOfMemory within h = tt

-- a table whose file is within the limit has few fields
pub few-fields : (limit : ℕ) (fields table : List TableField) → limit < 2 ^ 31 → fields ≡ table → first_past limit (named Fnm (fnm_spelling fields) ∷ []) ≡ None → length table < 2 ^ 31
few-fields limit fields table small same within = subst (λ t. length t < 2 ^ 31) same (elim (cases_lt (length fields) (2 ^ 31)) [
  | inl few ↦ few
  | inr many ↦ (let past = sym within ∙ fnm-past limit Fnm fields small many in cc)
])

-- ---- files that are there or not

-- a file without bytes passes no limit
past-empty : (limit : ℕ) (kind : FileKind) (bytes : List ℕ) (front rest : List NamedFile) → bytes ≡ [] → first_past limit (front ++ named kind bytes ∷ rest) ≡ first_past limit (front ++ rest)
past-empty limit kind bytes front rest none =
    first_past-append limit front (named kind bytes ∷ rest)
    ∙ ap (λ b. option_or (first_past limit front) (cond b (Some kind) (first_past limit rest))) (le-ltb limit (length bytes) (let size = ap length none in omega (arith, size)))
    ∙ sym (first_past-append limit front rest)

module _ (limit : ℕ) (fnm fdt fdx prx frq tis tii nrm tvf tvd tvx : List ℕ) where
  -- parts of which some are there or not
  abbrev parts_if : Bool → Bool → Bool → PartFiles
  parts_if positions norms vectors = record {
    index = record { fnm = Some fnm; tis = Some tis; tii = Some tii; frq = Some frq; prx = cond positions (Some prx) None; nrm = cond norms (Some nrm) None };
    documents = record { fdx = Some fdx; fdt = Some fdt; tvx = cond vectors (Some tvx) None; tvd = cond vectors (Some tvd) None; tvf = cond vectors (Some tvf) None };
  }

  abbrev before_positions : List NamedFile
  before_positions = named Fnm fnm ∷ named Fdt fdt ∷ named Fdx fdx ∷ []

  abbrev behind_positions : Bool → Bool → List NamedFile
  behind_positions norms vectors = named Frq frq ∷ named Tis tis ∷ named Tii tii ∷ cond norms (named Nrm nrm ∷ []) [] ++ cond vectors (named Tvf tvf ∷ named Tvd tvd ∷ named Tvx tvx ∷ []) []

  written-if : (positions norms vectors : Bool) → written_in_order (parts_if positions norms vectors) ≡ before_positions ++ cond positions (named Prx prx ∷ []) [] ++ behind_positions norms vectors
  written-if true true true = refl
  written-if true true false = refl
  written-if true false true = refl
  written-if true false false = refl
  written-if false true true = refl
  written-if false true false = refl
  written-if false false true = refl
  written-if false false false = refl

  -- positions may be judged also where they are not written, if there are none then
  pub past-written : (positions norms vectors : Bool) → (positions ≡ false → prx ≡ []) → first_past limit (written_in_order (parts_if positions norms vectors)) ≡ first_past limit (before_positions ++ named Prx prx ∷ behind_positions norms vectors)
  past-written true norms vectors none = ap (first_past limit) (written-if true norms vectors)
  past-written false norms vectors none = ap (first_past limit) (written-if false norms vectors) ∙ sym (past-empty limit Prx prx before_positions (behind_positions norms vectors) (none refl))
