-- The files of a segment that a command opens: what they stand for together, and their first fault.
use Rattle.std.proofs.Common.{◌≡◌, ℕ, List, length, Option, Some, None, subst, inr}
use Rattle.lu_types.specs.Tables.{TableField}
use Rattle.lu_types.specs.FilePlans.{StandFor, IsFaultAmong}
use Rattle.lu_types.specs.declared.fault.Spot.{Spot}
use Rattle.stored_fields.specs.Values.{StoredDocument}
use Rattle.stored_fields.specs.Stores.{total_of, own_files, all_files}
use Rattle.lu_outcomes.specs.declared.outcome.Outcome.{Outcome}
use Rattle.lu_reads.specs.Needs.{table_files, document_files}
use Rattle.lu_outcomes.specs.Outcomes.{faulty_outcome}
use Rattle.lu_reads.specs.FilesDue.{IsFaultIn}

module _ (segment : List ℕ) (fdx fdt : Option (List ℕ)) (outcome : Outcome) where
  -- behind a field table that is good a fault of the store is one of the files of documents
  pub fault-store : (fnm : Option (List ℕ)) (table : List TableField) → StandFor (table_files fnm) table → IsFaultIn segment (all_files (length table) fdx fdt) outcome → IsFaultIn segment (document_files fnm fdx fdt) outcome
  fault-store None table stand says = absurd stand
  fault-store (Some bytes) table (read, reads, same) (spot, fault, is) = (spot, inr (read, reads, subst (λ (t : List TableField). IsFaultAmong (all_files (length t) fdx fdt) spot) same fault), is)

-- a field table and a store that are good
pub stand-store : (fdx fdt : Option (List ℕ)) (fnm : Option (List ℕ)) (table : List TableField) (documents : List StoredDocument) → StandFor (table_files fnm) table → StandFor (all_files (length table) fdx fdt) documents
    → StandFor (document_files fnm fdx fdt) documents
stand-store fdx fdt None table documents stand all = absurd stand
stand-store fdx fdt (Some bytes) table documents (read, reads, same) all = (read, reads, subst (λ (t : List TableField). StandFor (all_files (length t) fdx fdt) documents) same all)

-- a fault of both files
pub fault-files : (segment fdx fdt : List ℕ) (fields total : ℕ) (spot : Spot) (outcome : Outcome) → total ≡ total_of fdx → IsFaultAmong (own_files total fields (Some fdx) (Some fdt)) spot → outcome ≡ faulty_outcome segment spot
    → IsFaultIn segment (all_files fields (Some fdx) (Some fdt)) outcome
fault-files segment fdx fdt fields total spot outcome same fault is = (spot, subst (λ (n : ℕ). IsFaultAmong (own_files n fields (Some fdx) (Some fdt)) spot) same fault, is)
