-- The terms of the index that the files of a segment stand for.
use Rattle.std.proofs.Common.{◌≡◌, ℕ, ◌<◌, ◌^◌, Bool, true, false, List, length, map, Option, Some, None, refl, sym, ap, subst, arith}
use Rattle.std.specs.Prelude.{All}
use Rattle.std.specs.List.Sorted.{IsStrictlySortedBy}
use Rattle.std.specs.declared.cmp.Ordering.TheVariants.{Less}
use Rattle.std.proofs.lemmas.List.{get_or_default}
use Rattle.lu_types.specs.FilePlans.{StandFor}
use Rattle.lu_types.specs.Names.{segment_name, part_name}
use Rattle.lu_types.specs.declared.kind.FileKind.TheVariants.{Tis}
use Rattle.lu_types.specs.Tables.{TableField}
use Rattle.lu_model.specs.Index.{IndexedTerm, term_cmp}
use Rattle.lu_model.specs.Contents.{field_at, term_of}
use Rattle.lu_model.specs.Valid.{IsIndexedTerm}
use Rattle.lu_model.proofs.Words.{Each}
use Rattle.lu_model.proofs.Each.{all-from_each, each-from_all, each-from_pairs}
use Rattle.term_dict.specs.Dictionary.{Dictionary, tis_plan}
use Rattle.term_dict.specs.Terms.{DictionaryTerm, no_term, dictionary_term_cmp}
use Rattle.term_dict.specs.Facts.{IsTermOfSegment, AreGoodTerms}
use Rattle.term_dict.proofs.FactLemmas.{good-terms}
use Rattle.compound_file.specs.Entries.{NamedPart}
use Rattle.compound_file.specs.Cfs.{cfs_plan}
use Rattle.segment_infos.specs.declared.infos.SegInfo.{SegInfo}
use Rattle.check_index.specs.Files.{PartFiles, FolderFiles, IsShort, AreShort}
use Rattle.check_index.specs.Locating.{packed_files}
use Rattle.check_index.specs.Documents.{norm_fields}
use Rattle.check_index.specs.Indexed.{indexed_terms}
use Rattle.check_index.specs.Segments.{SegmentValue, segment_files}
use Rattle.check_index.specs.Stands.{Holds, AreOwn}
use Rattle.check_index.proofs.ReadBytes.{read-bytes}
use Rattle.check_index.proofs.PartLemmas.{file-within, named-within}
use Rattle.check_index.proofs.StandsLaws.{stands-by_files}
use Rattle.check_index.proofs.ValidFields.{fields-are}
use Rattle.check_index.proofs.ValidLists.{terms-are}
use Rattle.check_index.proofs.ValidTexts.{AreTexts, texts-are}
use Rattle.check_index.proofs.ValidTerms.{terms-rise, terms-few}

-- the terms of a `.tis` file
pub terms-good : (fields : List TableField) (size : ℕ) (file : Option (List ℕ)) (d : Dictionary) → Holds file (λ bytes. tis_plan fields size (length bytes)) d → AreGoodTerms fields size d
terms-good fields size None d h = absurd h
terms-good fields size (Some bytes) d h = good-terms fields size bytes d h

pub texts-good : (fields : List TableField) (size : ℕ) (file : Option (List ℕ)) (d : Dictionary) → Holds file (λ bytes. tis_plan fields size (length bytes)) d → (bytes : List ℕ) × (file ≡ Some bytes) × AreTexts bytes d
texts-good fields size None d h = absurd h
texts-good fields size (Some bytes) d h = (bytes, refl, texts-are fields size bytes d h)

-- the terms of a segment are no longer than its files may be
tis-short : (compound : Bool) (folder : FolderFiles) (number : ℕ) (own : PartFiles) → AreShort folder → AreOwn compound folder number own → IsShort own.index.tis
tis-short true folder number own short h = go folder.cfs short.cfs h
  where
    go : (file : Option (List ℕ)) → IsShort file → (parts : List NamedPart) × Holds file (λ bytes. cfs_plan (length bytes)) parts × (own ≡ packed_files (segment_name number) parts) → IsShort own.index.tis
    go None few (parts, holds, is) = absurd holds
    go (Some bytes) few (parts, reads, is) =
        let all = file-within bytes parts (read-bytes (cfs_plan (length bytes)) bytes parts reads) reads in
        subst (λ (files : PartFiles). IsShort files.index.tis) (sym is) (named-within (length bytes) (part_name (segment_name number) Tis) parts all few)
tis-short false folder number own short is = subst (λ (files : PartFiles). IsShort files.index.tis) (sym is) short.parts.tis

-- the texts of a file that is short are
texts-short : (bytes : List ℕ) (d : Dictionary) → AreTexts bytes d → length bytes < 2 ^ 31 → Each (λ (t : DictionaryTerm). length t.text < 2 ^ 31) d.terms
texts-short bytes d texts few = each-from_all (λ (t : DictionaryTerm). length t.text < 2 ^ 31) d.terms (λ k e lt.
    subst (λ (t : DictionaryTerm). length t.text < 2 ^ 31) (get_or_default d.terms k no_term e lt) (let le = texts.short k in omega (arith, le, few)))

module _ (folder : FolderFiles) (line : SegInfo) (x : SegmentValue) (h : StandFor (segment_files folder line) x) where
  terms-is : x.index.terms ≡ indexed_terms x.index.fields x.dictionary.terms x.lists x.occurrences
  terms-is = let by = stands-by_files folder line x h in ap (λ (y : SegmentValue). y.index.terms) by.value

  pub indexed-rise : IsStrictlySortedBy term_cmp (map (term_of x.index.fields) x.index.terms)
  indexed-rise =
      let by = stands-by_files folder line x h in
      let good = terms-good x.index.fields line.size by.own.index.tis x.dictionary by.tis in
      subst (λ (ts : List IndexedTerm). IsStrictlySortedBy term_cmp (map (term_of x.index.fields) ts)) (sym terms-is)
      (terms-rise x.index.fields x.dictionary.terms x.lists x.occurrences (each-from_pairs (λ a b. dictionary_term_cmp x.index.fields a b ≡ Less) x.dictionary.terms good.rise))

  pub indexed-few : length x.index.terms < 2 ^ 31
  indexed-few =
      let by = stands-by_files folder line x h in
      let texts = texts-good x.index.fields line.size by.own.index.tis x.dictionary by.tis in
      omega (arith, ap length terms-is, terms-few x.index.fields x.dictionary.terms x.lists x.occurrences, texts.2.few)

  pub indexed-each : AreShort folder → All (λ (term : IndexedTerm). IsIndexedTerm line.size (field_at term.field x.index.fields).bits term) x.index.terms
  indexed-each short =
      let by = stands-by_files folder line x h in
      let fields = x.index.fields in
      let d = x.dictionary in
      let P : IndexedTerm → Type 0 = λ term. IsIndexedTerm line.size (field_at term.field fields).bits term in
      let good = terms-good fields line.size by.own.index.tis d by.tis in
      let texts = texts-good fields line.size by.own.index.tis d by.tis in
      let few : length texts.0 < 2 ^ 31 = subst IsShort texts.1 (tis-short line.compound folder line.number by.own short by.is_own) in
      let fine = fields-are line.has_prox (norm_fields line) by.own.index.fnm fields by.fnm in
      let all = terms-are fields line.size d.numbers line.has_prox by.own.index.frq by.own.index.prx d.terms x.lists x.occurrences texts.2.interval fine
      (each-from_all (IsTermOfSegment fields line.size d.numbers.skip_interval) d.terms good.each) (texts-short texts.0 d texts.2 few) by.frq by.prx in
      subst (λ (ts : List IndexedTerm). All P ts) (sym terms-is) (all-from_each P (indexed_terms fields d.terms x.lists x.occurrences) all)
