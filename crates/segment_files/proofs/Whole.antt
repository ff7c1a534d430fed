-- The canonical files of an index stand for it.
use Rattle.std.proofs.Common.{◌≡◌, ℕ, ◌^◌, ◌<◌, Bool, true, false, cond, List, [], ◌∷◌, length, map, Some, None, refl, sym, ap, subst, ◌∙◌, arith}
use Rattle.std.specs.Prelude.{◌&&◌, All, is_some}
use Rattle.lu_grammar.specs.Meaning.{Reads}
use Rattle.lu_types.specs.Bits as bit
use Rattle.lu_types.specs.Bits.{has_bit}
use Rattle.lu_types.specs.FilePlans.{StandFor}
use Rattle.lu_types.specs.Tables.{bits_at}
use Rattle.lu_model.specs.Index.{IndexedTerm, Index}
use Rattle.lu_model.specs.Contents.{field_at}
use Rattle.lu_model.specs.Valid.{IsSmall, IsIndexedTerm, IsVector, IsValid}
use Rattle.lu_model.proofs.Words.{Each}
use Rattle.lu_model.proofs.Each.{each-from_all}
use Rattle.field_infos.specs.Fnm.{fnm_plan}
use Rattle.field_infos.specs.Spelling.{fnm_spelling}
use Rattle.stored_fields.specs.Values.{StoredDocument}
use Rattle.stored_fields.specs.Places.{fdx_plan}
use Rattle.stored_fields.specs.Documents.{fdt_plan}
use Rattle.lu_types.specs.Stores.{whole_store}
use Rattle.stored_fields.specs.Writing.{fdx_bytes, fdt_bytes}
use Rattle.term_dict.specs.Dictionary.{Dictionary, tis_plan}
use Rattle.term_dict.specs.Index.{tii_plan}
use Rattle.term_dict.specs.Laws.{dictionary_written}
use Rattle.term_dict.specs.Writing.{TermsWritten, AreIntervals}
use Rattle.freq_skips.specs.Terms.{frq_plan}
use Rattle.positions.specs.Terms.{prx_plan}
use Rattle.doc_marks.specs.Norms.{nrm_plan, nrm_spelling}
use Rattle.term_vectors.specs.Vectors.{StoredVector}
use Rattle.term_vectors.specs.VectorBytes.{tvx_bytes, tvd_bytes, tvf_bytes}
use Rattle.segment_infos.specs.declared.infos.MapPair.{MapPair}
use Rattle.segment_infos.specs.declared.infos.SegInfo.{SegInfo}
use Rattle.check_index.specs.Files.{PartFiles, FolderFiles}
use Rattle.check_index.specs.Terms.{infos_of, listed_terms}
use Rattle.check_index.specs.Positions.{TermOccurrences, no_positions}
use Rattle.check_index.specs.Indexed.{indexed_terms}
use Rattle.check_index.specs.Norms.{count_with_norms, norms_from}
use Rattle.check_index.specs.Vectors.{have_vectors, no_vectors}
use Rattle.check_index.specs.Segments.{SegmentValue, Contents, Columns, segment_value, segment_files}
use Rattle.check_index.specs.Stands.{Holds, AreOwn, Either, AreStored, AreStoreVectors, HoldColumns, HoldVectors, SegmentStands}
use Rattle.check_index.proofs.ReadBytes.{read-bytes}
use Rattle.check_index.proofs.StandsLaws.{stands-from}
use Rattle.segment_files.specs.declared.options.WriteOptions.{WriteOptions}
use Rattle.segment_files.specs.Postings.{PostingIntervals, PostingParts, no_parts, lines_written, tis_bytes, tii_bytes}
use Rattle.segment_files.specs.Stores.{canonical_store}
use Rattle.segment_files.specs.Parts.{keep_positions, have_norms, norm_columns, intervals_of, postings_of, canonical_parts_of}
use Rattle.segment_files.specs.Written.{canonical_files, all_written, first_past, too_large_file}
use Rattle.segment_files.specs.Lines.{new_line, folder_with}
use Rattle.segment_files.proofs.Reading.{CanStand}
use Rattle.segment_files.proofs.TermsReading.{PostingsRead, postings-read}
use Rattle.segment_files.proofs.Dictionary.{AreWritableTerms, tis-read, tii-read}
use Rattle.segment_files.proofs.Writable.{writable-terms, can-stand}
use Rattle.segment_files.proofs.Fields.{fnm-read, all-omit}
use Rattle.segment_files.proofs.NormColumns.{columns-held}
use Rattle.segment_files.proofs.Stored.{IsGoodValue, good-documents, stored-held}
use Rattle.segment_files.proofs.Sides.{separate-stand, vectors-held}
use Rattle.segment_files.proofs.Vectors.{good-vectors, vectors-there}
use Rattle.segment_files.proofs.Limits.{IsWithinLimit, ArePartsWithin, parts-within, packed-within}
use Rattle.segment_files.proofs.Unposted.{nothing-added}
use Rattle.segment_files.proofs.Folders.{PartBytes, IfThere, AreBytesThere, own-parts}

module _ (options : WriteOptions) (index : Index) (v : IsValid index) (fit : too_large_file options index ≡ None) where
  abbrev o : PostingIntervals
  o = intervals_of options

  abbrev limit : ℕ
  limit = options.limits.file_bytes

  abbrev parts : PartFiles
  parts = canonical_parts_of o index

  abbrev postings : PostingParts
  postings = postings_of o index

  abbrev written : TermsWritten
  written = lines_written o postings.lines

  abbrev dictionary : Dictionary
  dictionary = dictionary_written written

  small : limit < 2 ^ 31
  small = let few = options.limits.few_bytes in omega (arith, few)

  within : ArePartsWithin limit parts
  within = parts-within limit options.compound options.number parts fit

  frq-small : length postings.frq < 2 ^ 31
  frq-small = let le = within.frq in omega (arith, le, small)

  tis-small : length (tis_bytes written) < 2 ^ 31
  tis-small = let le = within.tis in omega (arith, le, small)

  fdt-small : length (fdt_bytes index.stored) < 2 ^ 31
  fdt-small = let le = within.fdt in omega (arith, le, small)

  writable : AreWritableTerms index.fields index.size o index.terms
  writable = writable-terms index o v

  -- where no field keeps positions, each term's field omits them
  omit-all : keep_positions index.fields ≡ false → (ts : List IndexedTerm) → Each (λ (t : IndexedTerm). IsIndexedTerm index.size (field_at t.field index.fields).bits t) ts
      → Each (λ (t : IndexedTerm). has_bit bit.omit_tf (bits_at index.fields t.field) ≡ true) ts
  omit-all none [] h = tt
  omit-all none (t ∷ ts) h = (all-omit index.fields t.field none h.0.indexed, omit-all none ts h.1)

  terms-valid : Each (λ (t : IndexedTerm). IsIndexedTerm index.size (field_at t.field index.fields).bits t) index.terms
  terms-valid = each-from_all (λ (t : IndexedTerm). IsIndexedTerm index.size (field_at t.field index.fields).bits t) index.terms v.terms

  can : Each (CanStand index.fields index.size o (length index.terms)) index.terms
  can = can-stand index.fields index.size o (length index.terms) index.terms writable.each

  prx-small : length postings.prx < 2 ^ 31
  prx-small = go (keep_positions index.fields) refl within.prx
    where
      go : (b : Bool) → keep_positions index.fields ≡ b → IsWithinLimit options.limits.file_bytes (cond b (Some (postings_of (intervals_of options) index).prx) None) → length (postings_of (intervals_of options) index).prx < 2 ^ 31
      go true is le = let few = options.limits.few_bytes in omega (arith, le, few)
      go false is le =
          let none = nothing-added index.fields index.size (intervals_of options) (length index.terms) no_parts index.terms can (omit-all is index.terms terms-valid) in
          omega (arith, ap length none)

  read : PostingsRead index.fields index.size o (length index.terms) options.skip.0 v.small index.terms
  read = postings-read index.fields index.size o (length index.terms) options.skip.0 v.small index.terms (record { can = can; frq = frq-small; prx = prx-small })

  intervals : AreIntervals written
  intervals = record { index_interval = options.index; skip_interval = options.skip; max_levels = options.levels }

  -- the occurrences that are read: none of any term where no field keeps positions
  abbrev occurrences : List TermOccurrences
  occurrences = cond (keep_positions index.fields) read.occurrences (no_positions read.values)

  again : indexed_terms index.fields postings.lines read.values occurrences ≡ index.terms
  again = go (keep_positions index.fields) refl
    where
      go : (b : Bool) → keep_positions index.fields ≡ b → indexed_terms index.fields (postings_of (intervals_of options) index).lines read.values (cond b read.occurrences (no_positions read.values)) ≡ index.terms
      go true is = read.again
      go false is = read.unposted (omit-all is index.terms terms-valid)

  -- what the files stand for
  abbrev contents : Contents
  contents = record { fields = index.fields; stored = index.stored; terms = listed_terms dictionary read.values; occurrences = occurrences }

  abbrev columns : Columns
  columns = record { norms = index.norms; deleted = []; vectors = index.vectors }

  abbrev segment : SegmentValue
  segment = segment_value index.size contents columns

  -- ---- file by file

  fnm-held : Reads (fnm_plan (keep_positions index.fields) None) (fnm_spelling index.fields) index.fields
  fnm-held = fnm-read index.fields v.fields v.names

  store-held : AreStored (λ _. index.size) (whole_store index.size) (length index.fields) (Some (fdx_bytes index.stored)) (Some (fdt_bytes index.stored)) index.stored
  store-held =
      subst (λ (n : ℕ). AreStored (λ _. n) (whole_store n) (length index.fields) (Some (fdx_bytes index.stored)) (Some (fdt_bytes index.stored)) index.stored) v.stored
      (stored-held (length index.fields) index.stored v.fields.few
      (good-documents (length index.fields) index.stored (each-from_all (λ (values : StoredDocument). IsSmall (length values)) index.stored v.few_values) (each-from_all (λ (values : StoredDocument). All (IsGoodValue (length index.fields)) values) index.stored v.values)) fdt-small)

  dictionary-held : Reads (tis_plan index.fields index.size (length (tis_bytes written))) (tis_bytes written) dictionary
  dictionary-held = tis-read index.fields index.size o index.terms intervals v.small writable frq-small prx-small

  index-held : Reads (tii_plan dictionary) (tii_bytes written) tt
  index-held = tii-read index.fields index.size o index.terms intervals v.small writable frq-small prx-small tis-small

  entries-held : Reads (frq_plan index.fields dictionary.numbers index.size (infos_of dictionary)) postings.frq read.values
  entries-held = read.entries

  positions-held : Either (keep_positions index.fields) (Holds parts.index.prx (λ _. prx_plan index.fields dictionary.numbers index.size (infos_of dictionary) read.values) occurrences) occurrences (no_positions read.values)
  positions-held = go (keep_positions index.fields)
    where
      go : (b : Bool) → Either b (Holds (cond b (Some (postings_of (intervals_of options) index).prx) None)
          (λ _. prx_plan index.fields (dictionary_written (lines_written (intervals_of options) (postings_of (intervals_of options) index).lines)).numbers index.size (infos_of (dictionary_written (lines_written (intervals_of options) (postings_of (intervals_of options) index).lines))) read.values)
          (cond b read.occurrences (no_positions read.values))) (cond b read.occurrences (no_positions read.values)) (no_positions read.values)
      go true = read.positions
      go false = refl

  norms-held : HoldColumns index.size index.fields parts.index.nrm index.norms
  norms-held = columns-held index.size index.fields index.norms v.norms

  -- the vectors' files stand for the vectors, where a field has vectors
  abbrev pub HoldOwnVectors : Type 0
  HoldOwnVectors = have_vectors index.fields ≡ true → AreStoreVectors (record { total = length index.vectors; window = whole_store (length index.vectors) }) index.fields (canonical_store true index.stored index.vectors) index.vectors

  module _ (own_vectors : HoldOwnVectors) (diagnostics : List MapPair) where
    abbrev folder : FolderFiles
    folder = folder_with (canonical_files options index).files

    abbrev line : SegInfo
    line = new_line options.number diagnostics (canonical_files options index)

    vectors-stand : HoldVectors line index.fields parts.documents index.vectors
    vectors-stand =
        subst (λ (n : ℕ). Either (have_vectors index.fields && is_some parts.documents.tvx) (AreStoreVectors (record { total = n; window = whole_store n }) index.fields parts.documents index.vectors) index.vectors (no_vectors n)) v.vectors
        (vectors-held index.fields index.stored index.vectors (good-vectors index.fields index.vectors (each-from_all (λ (d : List StoredVector). All (IsVector index.fields) d) index.vectors v.vector_fields)) own_vectors)

    prx-there : (b : Bool) → IfThere (cond b (Some postings.prx) None)
    prx-there true = read-bytes (prx_plan index.fields dictionary.numbers index.size (infos_of dictionary) read.values) postings.prx read.occurrences read.positions
    prx-there false = tt

    nrm-there : (b : Bool) → Either b ((columns : List (List ℕ)) × Holds (cond b (Some (nrm_spelling (norm_columns index.norms))) None) (λ _. nrm_plan (count_with_norms index.fields) index.size) columns × (index.norms ≡ norms_from 0 columns index.fields)) index.norms (map (λ _. None) index.fields) → IfThere (cond b (Some (nrm_spelling (norm_columns index.norms))) None)
    nrm-there true h = read-bytes (nrm_plan (count_with_norms index.fields) index.size) (nrm_spelling (norm_columns index.norms)) h.0 h.1
    nrm-there false h = tt

    bytes-there : AreBytesThere parts
    bytes-there =
        let v3 = vectors-there index.fields index.stored index.vectors (have_vectors index.fields) own_vectors in
        record {
          fnm = read-bytes (fnm_plan (keep_positions index.fields) None) (fnm_spelling index.fields) index.fields fnm-held;
          fdx = read-bytes (fdx_plan index.size (whole_store index.size)) (fdx_bytes index.stored) store-held.places store-held.places_held;
          fdt = read-bytes (fdt_plan (whole_store index.size) (length index.fields) store-held.places) (fdt_bytes index.stored) store-held.all store-held.documents_held;
          tis = read-bytes (tis_plan index.fields index.size (length (tis_bytes written))) (tis_bytes written) dictionary dictionary-held;
          tii = read-bytes (tii_plan dictionary) (tii_bytes written) tt index-held;
          frq = read-bytes (frq_plan index.fields dictionary.numbers index.size (infos_of dictionary)) postings.frq read.values entries-held;
          prx = prx-there (keep_positions index.fields);
          nrm = nrm-there (have_norms index.fields) norms-held;
          tvx = v3.0;
          tvd = v3.1;
          tvf = v3.2;
        }

    -- the bytes of all parts
    bytes-of : PartBytes
    bytes-of = record {
      fnm = fnm_spelling index.fields;
      fdx = fdx_bytes index.stored;
      fdt = fdt_bytes index.stored;
      tis = tis_bytes written;
      tii = tii_bytes written;
      frq = postings.frq;
      prx = postings.prx;
      nrm = nrm_spelling (norm_columns index.norms);
      tvx = tvx_bytes index.vectors;
      tvd = tvd_bytes index.vectors;
      tvf = tvf_bytes index.vectors;
    }

    is-own : AreOwn options.compound folder options.number parts
    unfolding bytes-of
    is-own =
        let few = options.is_number in
        own-parts options.number bytes-of (keep_positions index.fields) (have_norms index.fields) (have_vectors index.fields) options.compound (omega (arith, few)) bytes-there (λ packed.
        let none : first_past options.limits.file_bytes (all_written true options.number parts) ≡ None = ap (λ (b : Bool). first_past options.limits.file_bytes (all_written b options.number parts)) (sym packed) ∙ fit in
        let le = packed-within options.limits.file_bytes options.number parts none in
        let most = options.limits.few_bytes in
        omega (arith, le, most))

    stands : SegmentStands folder line segment
    stands = record {
      own = parts;
      is_own = is-own;
      documents = parts.documents;
      are_documents = refl;
      fnm = fnm-held;
      stored = store-held;
      tis = dictionary-held;
      tii = index-held;
      frq = entries-held;
      prx = positions-held;
      columns = index.norms;
      nrm = norms-held;
      separate = separate-stand index.fields index.size index.norms;
      del = refl;
      vectors = vectors-stand;
      value = refl;
    }

    -- an index by its parts
    index_made : List IndexedTerm → List ℕ → Index
    index_made terms deleted = record { size = index.size; fields = index.fields; stored = index.stored; terms = terms; norms = index.norms; vectors = index.vectors; deleted = deleted }

    is-index : index.deleted ≡ [] → segment.index ≡ index
    unfolding index_made
    is-index none = ap (λ (terms : List IndexedTerm). index_made terms []) again ∙ ap (λ (deleted : List ℕ). index_made index.terms deleted) (sym none)

    pub files-stand : index.deleted ≡ [] → (x : SegmentValue) × StandFor (segment_files folder line) x × (x.index ≡ index)
    files-stand none = (segment, stands-from folder line segment stands, is-index none)
