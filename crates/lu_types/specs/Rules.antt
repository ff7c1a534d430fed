-- The rules' numbers and printed names.
use Rattle.std.specs.Prelude.{ℕ, List, [], ◌∷◌, ◌++◌, Option, Some, None, ◌==◌, if◌then◌else◌, codes}
use Rattle.lu_types.specs.RuleNumbers as rules

-- the name that stands beside a number in a table of rules
abbrev pub name_in : List (ℕ × List ℕ) → ℕ → Option (List ℕ)
name_in [] rule = None
name_in (entry ∷ entries) rule = if rule == entry.0 then Some entry.1 else name_in entries rule

-- the rules on any file
unfoldable pub general_rules : List (ℕ × List ℕ)
general_rules =
    (rules.ends, codes "Ends") ∷
    (rules.long_number, codes "LongNumber") ∷
    (rules.too_great, codes "TooGreat") ∷
    (rules.not_utf8, codes "NotUtf8") ∷
    (rules.missing, codes "Missing") ∷
    (rules.trailing, codes "Trailing") ∷
    []

-- the rules on `segments_N`
unfoldable pub commit_rules : List (ℕ × List ℕ)
commit_rules =
    (rules.format, codes "Format") ∷
    (rules.version, codes "Version") ∷
    (rules.name_counter, codes "NameCounter") ∷
    (rules.seg_count, codes "SegCount") ∷
    (rules.seg_name, codes "SegName") ∷
    (rules.seg_twice, codes "SegTwice") ∷
    (rules.seg_size, codes "SegSize") ∷
    (rules.size_sum, codes "SizeSum") ∷
    (rules.del_gen, codes "DelGen") ∷
    (rules.shared_store, codes "SharedStore") ∷
    (rules.old_norms, codes "OldNorms") ∷
    (rules.num_field, codes "NumField") ∷
    (rules.separate_norms, codes "SeparateNorms") ∷
    (rules.compound_flag, codes "CompoundFlag") ∷
    (rules.deletion_count, codes "DeletionCount") ∷
    (rules.prox_flag, codes "ProxFlag") ∷
    (rules.map_count, codes "MapCount") ∷
    (rules.checksum, codes "Checksum") ∷
    (rules.store_name, codes "StoreName") ∷
    (rules.store_flag, codes "StoreFlag") ∷
    []

-- the rules on `.cfs` and `.cfx`
unfoldable pub compound_rules : List (ℕ × List ℕ)
compound_rules =
    (rules.cfs_offset, codes "CfsOffset") ∷
    (rules.cfs_twice, codes "CfsTwice") ∷
    (rules.cfs_first, codes "CfsFirst") ∷
    []

-- the rules on `.fnm`
unfoldable pub field_table_rules : List (ℕ × List ℕ)
field_table_rules =
    (rules.fnm_format, codes "FnmFormat") ∷
    (rules.field_twice, codes "FieldTwice") ∷
    (rules.field_bits, codes "FieldBits") ∷
    (rules.prox_field, codes "ProxField") ∷
    (rules.norm_count, codes "NormCount") ∷
    []

-- the rules on `.fdx` and `.fdt`
unfoldable pub stored_rules : List (ℕ × List ℕ)
stored_rules =
    (rules.fdx_format, codes "FdxFormat") ∷
    (rules.fdx_place, codes "FdxPlace") ∷
    (rules.store_range, codes "StoreRange") ∷
    (rules.fdt_format, codes "FdtFormat") ∷
    (rules.fdt_place, codes "FdtPlace") ∷
    (rules.stored_field, codes "StoredField") ∷
    (rules.stored_bits, codes "StoredBits") ∷
    []

-- the rules on `.tis` and `.tii`
unfoldable pub term_rules : List (ℕ × List ℕ)
term_rules =
    (rules.tis_format, codes "TisFormat") ∷
    (rules.term_count, codes "TermCount") ∷
    (rules.index_interval, codes "IndexInterval") ∷
    (rules.skip_interval, codes "SkipInterval") ∷
    (rules.skip_levels, codes "SkipLevels") ∷
    (rules.term_prefix, codes "TermPrefix") ∷
    (rules.term_utf8, codes "TermUtf8") ∷
    (rules.term_field, codes "TermField") ∷
    (rules.term_order, codes "TermOrder") ∷
    (rules.doc_freq, codes "DocFreq") ∷
    (rules.term_place, codes "TermPlace") ∷
    (rules.tii_format, codes "TiiFormat") ∷
    (rules.tii_count, codes "TiiCount") ∷
    (rules.tii_intervals, codes "TiiIntervals") ∷
    (rules.tii_prefix, codes "TiiPrefix") ∷
    (rules.tii_term, codes "TiiTerm") ∷
    (rules.tii_place, codes "TiiPlace") ∷
    []

-- the rules on `.frq` and `.prx`
unfoldable pub entry_rules : List (ℕ × List ℕ)
entry_rules =
    (rules.freq_start, codes "FreqStart") ∷
    (rules.doc_order, codes "DocOrder") ∷
    (rules.doc_range, codes "DocRange") ∷
    (rules.freq, codes "Freq") ∷
    (rules.skip_start, codes "SkipStart") ∷
    (rules.skip_doc, codes "SkipDoc") ∷
    (rules.skip_freq, codes "SkipFreq") ∷
    (rules.skip_omit, codes "SkipOmit") ∷
    (rules.skip_child, codes "SkipChild") ∷
    (rules.skip_length, codes "SkipLength") ∷
    (rules.prox_start, codes "ProxStart") ∷
    (rules.position, codes "Position") ∷
    (rules.skip_prox, codes "SkipProx") ∷
    (rules.skip_payload, codes "SkipPayload") ∷
    []

-- the rules on `.nrm`, `.sN` and `.del`
unfoldable pub mark_rules : List (ℕ × List ℕ)
mark_rules =
    (rules.norm_header, codes "NormHeader") ∷
    (rules.del_size, codes "DelSize") ∷
    (rules.del_count, codes "DelCount") ∷
    (rules.del_gap, codes "DelGap") ∷
    (rules.del_byte, codes "DelByte") ∷
    (rules.del_past, codes "DelPast") ∷
    (rules.del_total, codes "DelTotal") ∷
    []

-- the rules on `.tvx`, `.tvd` and `.tvf`
unfoldable pub vector_rules : List (ℕ × List ℕ)
vector_rules =
    (rules.tvx_format, codes "TvxFormat") ∷
    (rules.tvx_place, codes "TvxPlace") ∷
    (rules.tvd_format, codes "TvdFormat") ∷
    (rules.tvd_place, codes "TvdPlace") ∷
    (rules.vector_field, codes "VectorField") ∷
    (rules.vector_twice, codes "VectorTwice") ∷
    (rules.tvf_sum, codes "TvfSum") ∷
    (rules.tvf_format, codes "TvfFormat") ∷
    (rules.tvf_place, codes "TvfPlace") ∷
    (rules.vector_bits, codes "VectorBits") ∷
    (rules.vector_prefix, codes "VectorPrefix") ∷
    (rules.vector_utf8, codes "VectorUtf8") ∷
    (rules.vector_order, codes "VectorOrder") ∷
    (rules.vector_freq, codes "VectorFreq") ∷
    (rules.vector_position, codes "VectorPosition") ∷
    (rules.vector_offset, codes "VectorOffset") ∷
    []

-- all rules
unfoldable pub all_rules : List (ℕ × List ℕ)
all_rules =
    general_rules
    ++ commit_rules
    ++ compound_rules
    ++ field_table_rules
    ++ stored_rules
    ++ term_rules
    ++ entry_rules
    ++ mark_rules
    ++ vector_rules

-- the printed name of a rule; none where no rule has the number
abbrev pub name_of_rule : ℕ → Option (List ℕ)
name_of_rule = name_in all_rules
