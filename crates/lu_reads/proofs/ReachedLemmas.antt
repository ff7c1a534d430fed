-- The texts of the documents of a term in segments, one after another.
use Rattle.std.proofs.Common.{◌≡◌, ℕ, ◌+◌, ◌<◌, ◌≤◌, ◌⊎◌, inl, inr, Bool, List, [], ◌∷◌, ◌++◌, length, All, Option, Some, None, refl, sym, subst, ap, ◌∙◌, get_or, append_assoc, append-nil, arith}
use Rattle.std.specs.Prelude.{slice_get, option_map}
use Rattle.std.specs.List.{find, position_or_len}
use Rattle.std.proofs.lemmas.Option.{slice_get_within, slice_get_cases, get_or_from_slice_get}
use Rattle.std.proofs.lemmas.List.Elements.{All-head, All-tail}
use Rattle.std.proofs.lemmas.List.Folds.{find_at}
use Rattle.lu_types.specs.FilePlans.{StandFor}
use Rattle.lu_types.specs.declared.term.TermInfo.{TermInfo}
use Rattle.lu_types.proofs.FileLaws.{followed_by-was}
use Rattle.lu_model.specs.Index.{IndexedTerm}
use Rattle.segment_infos.specs.declared.infos.SegInfo.{SegInfo}
use Rattle.term_dict.specs.Terms.{DictionaryTerm}
use Rattle.check_index.specs.Files.{FolderFiles}
use Rattle.check_index.specs.Locating.{located_parts}
use Rattle.check_index.specs.Opened.{IsTermOf}
use Rattle.check_index.specs.Segments.{SegmentValue, content_files, side_files, segment_files}
use Rattle.check_index.proofs.ValidTerms.{terms-few}
use Rattle.seg_reader.specs.Terms.{no_term, term_at, has_name, term_named}
use Rattle.lu_listing.specs.Reached.{postings_lines, JumpIsBound, IsReachedText}
use Rattle.lu_reads.specs.Holding.{IsMade}
use Rattle.lu_reads.specs.Reaching.{AreReachedTexts}

-- the index of a segment that stands has no more terms than its dictionary
terms-made : (folder : FolderFiles) (line : SegInfo) (x : SegmentValue) → StandFor (segment_files folder line) x → length x.index.terms ≤ length x.dictionary.terms
terms-made folder line x stands =
    let parts = followed_by-was (located_parts folder line) _ x stands in
    let contents = followed_by-was (content_files parts.0 line) _ x parts.2 in
    let columns = followed_by-was (side_files folder parts.0 line contents.0.fields) _ x contents.2 in
    let c = contents.0 in
    omega (
      arith,
      ap (λ (y : SegmentValue). length y.index.terms) columns.2,
      ap (λ (y : SegmentValue). length y.dictionary.terms) columns.2,
      terms-few c.fields c.terms.dictionary.terms c.terms.lists c.occurrences,
    )

-- a term of a segment, with what its dictionary says of it
record HasPlace (x : SegmentValue) (t : IndexedTerm) : Type 0 where
  number : ℕ
  info : TermInfo
  is_sought : term_at x number ≡ t
  is_term : IsTermOf x number info

-- a term that is found has a place
found-place : (x : SegmentValue) (passes : IndexedTerm → Bool) (t : IndexedTerm) → length x.index.terms ≤ length x.dictionary.terms → find passes x.index.terms ≡ Some t → HasPlace x t
found-place x passes t few found = place (slice_get_cases x.dictionary.terms n).1
  where
    n : ℕ
    n = position_or_len passes x.index.terms

    there : slice_get x.index.terms n ≡ Some t
    there = sym (find_at passes x.index.terms) ∙ found

    place : ((d : DictionaryTerm) × (n < length x.dictionary.terms) × (slice_get x.dictionary.terms n ≡ Some d) × (get_or x.dictionary.terms n d ≡ d)) ⊎ ((length x.dictionary.terms ≤ n) × (slice_get x.dictionary.terms n ≡ None)) → HasPlace x t
    place (inl said) = record {
      number = n;
      info = said.0.info;
      is_sought = get_or_from_slice_get x.index.terms n t no_term there;
      is_term = ap (option_map (λ (d : DictionaryTerm). d.info)) said.2;
    }
    place (inr past) = absurd (omega (arith, few, past.0, slice_get_within x.index.terms n t there))

module _ (field text : List ℕ) (from : ℕ) where
  -- a text is printed of each segment that stands
  reached-one : (x : SegmentValue) (place : ℕ) → length x.index.terms ≤ length x.dictionary.terms → (lines : List ℕ) × IsReachedText x place field text from lines
  reached-one x place few = go (term_named x.index field text) refl
    where
      go : (found : Option IndexedTerm) → term_named x.index field text ≡ found → (lines : List ℕ) × IsReachedText x place field text from lines
      go None is = (
        postings_lines x.index place from None 0 0,
        record {
          seek = 0;
          advance = 0;
          found = omega arith;
          jumped = subst (λ (t : Option IndexedTerm). JumpIsBound x from t 0) (sym is) refl;
          lines_are = ap (λ (t : Option IndexedTerm). postings_lines x.index place from t 0 0) (sym is);
        },
      )
      go (Some t) is =
          let at = found-place x (has_name x.index.fields field text) t few is in (
            postings_lines x.index place from (Some t) 0 0,
            record {
              seek = 0;
              advance = 0;
              found = omega arith;
              jumped = subst (λ (s : Option IndexedTerm). JumpIsBound x from s 0) (sym is) (record { number = at.number; info = at.info; is_sought = at.is_sought; is_term = at.is_term; bound = omega arith });
              lines_are = ap (λ (s : Option IndexedTerm). postings_lines x.index place from s 0 0) (sym is);
            },
          )

  -- and so of segments one after another
  pub reached-all : (xs : List SegmentValue) (place : ℕ) → All IsMade xs → (lines : List ℕ) × AreReachedTexts field text from place xs lines
  reached-all [] place are = ([], refl)
  reached-all (x ∷ xs) place are =
      let made = All-head IsMade x xs are in
      let first = reached-one x place (terms-made made.folder made.line x made.stands) in
      let rest = reached-all xs (place + 1) (All-tail IsMade x xs are) in
      (first.0 ++ rest.0, (first.0, rest.0, first.1, rest.1, refl))

  -- with what is printed of the segments that are left, from this place on, the text is that of all
  abbrev pub LeadsOn : List SegmentValue → ℕ → List SegmentValue → List ℕ → Type 0
  LeadsOn all place left lines = (rest : List ℕ) → AreReachedTexts field text from place left rest → AreReachedTexts field text from 0 all (lines ++ rest)

  -- one segment more in front, and one fewer behind
  pub leads-more : (all : List SegmentValue) (place : ℕ) (lines first : List ℕ) (x : SegmentValue) (xs : List SegmentValue) → LeadsOn all place (x ∷ xs) lines → IsReachedText x place field text from first
      → LeadsOn all (place + 1) xs (lines ++ first)
  leads-more all place lines first x xs leads is rest are =
      subst (AreReachedTexts field text from 0 all) (sym (append_assoc lines first rest)) (leads (first ++ rest) (first, rest, is, are, refl))

  -- none is left
  pub leads-end : (all : List SegmentValue) (place : ℕ) (lines : List ℕ) → LeadsOn all place [] lines → AreReachedTexts field text from 0 all lines
  leads-end all place lines leads = subst (AreReachedTexts field text from 0 all) (append-nil lines) (leads [] refl)
