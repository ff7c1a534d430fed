-- The new files of deleted documents have names that no file has, and two of one name are one.
use Rattle.std.proofs.Common.{◌≡◌, ◌≢◌, ◌⊎◌, ℕ, ◌≤◌, List, [], ◌∷◌, All, Some, Contains, refl, sym, ap, subst, ◌∙◌, inl, inr, arith}
use Rattle.std.specs.List.{flat_map}
use Rattle.std.proofs.lemmas.List.Elements.{All-head, All-tail, Contains-append_cases}
use Rattle.lu_types.specs.Names.{greatest_segment}
use Rattle.lu_model.specs.Index.{Index}
use Rattle.lu_model.proofs.Words.{IsIn, Each, EachPair}
use Rattle.lu_model.proofs.Each.{each_at, each-from_pairs}
use Rattle.segment_infos.specs.declared.infos.SegInfo.{SegInfo}
use Rattle.segment_infos.specs.declared.naming.LuceneName.TheVariants.{Del}
use Rattle.segment_infos.specs.LuceneNames.{SpellsName}
use Rattle.segment_infos.specs.Values.{IsLine, AreLines}
use Rattle.segment_infos.proofs.NameSpelled.{SpellsName-one}
use Rattle.check_index.specs.Segments.{SegmentValue}
use Rattle.lu_folder.specs.Drawing.{next_del}
use Rattle.lu_folder.specs.Fresh.{AreNewFiles}
use Rattle.lu_folder.specs.declared.new_file.NewFile.{NewFile}
use Rattle.lu_folder.proofs.FreshLemmas.{del-valid, del-unlisted}
use Rattle.lu_folder.proofs.SameName.{none-within, only-is}
use Rattle.lu_changes.specs.Deleting.{deleted_with, del_file, marking_to, marking_of, markings_of, file_of}
use Rattle.lu_changes.proofs.MarkedCommitLemmas.{by_marking}

module _ (names : List (List ℕ)) where
  -- the file is a new one of this segment
  pub record IsNewDel (line : SegInfo) (file : NewFile) : Type 0 where
    pub generation : ℕ
    pub bytes : List ℕ
    pub drawn : next_del names line ≡ Some generation
    pub is : file ≡ del_file line generation bytes

  -- so it is of one of these
  pub record IsNewDelAmong (lines : List SegInfo) (file : NewFile) : Type 0 where
    pub line : SegInfo
    pub among : IsIn line lines
    pub new : IsNewDel line file

  -- the file of a marking is a new one of its segment
  marking-file : (line : SegInfo) (x : Index) (documents : List ℕ) (file : NewFile) → Contains (file_of (marking_to names line x documents)) file → IsNewDel line file
  marking-file line x documents file =
      by_marking names line x documents (λ m. Contains (file_of m) file → IsNewDel line file) (λ _ there. absurd (none-within file there)) (λ there. absurd (none-within file there))
      (λ generation drawn _ there. record { generation = generation; bytes = _; drawn = drawn; is = sym (only-is _ file there) })

  -- two files of one marking are one
  marking-one : (line : SegInfo) (x : Index) (documents : List ℕ) (file other : NewFile) → Contains (file_of (marking_to names line x documents)) file → Contains (file_of (marking_to names line x documents)) other → file ≡ other
  marking-one line x documents file other =
      by_marking names line x documents (λ m. Contains (file_of m) file → Contains (file_of m) other → file ≡ other) (λ _ there also. absurd (none-within file there)) (λ there also. absurd (none-within file there))
      (λ generation drawn _ there also. sym (only-is _ file there) ∙ only-is _ other also)

  new-spells : (line : SegInfo) (file : NewFile) (new : IsNewDel line file) → line.number ≤ greatest_segment → SpellsName file.name (Del line.number new.generation)
  new-spells line file new number = ((number, del-valid names line new.generation new.drawn), ap (λ (f : NewFile). f.name) new.is)

  -- files of segments with different numbers have different names
  names-differ : (line later : SegInfo) (file other : NewFile) → IsNewDel line file → IsNewDel later other → line.number ≤ greatest_segment → later.number ≤ greatest_segment → line.number ≢ later.number → file.name ≢ other.name
  names-differ line later file other new also number number_also differ same =
      let first = new-spells line file new number in
      let second = new-spells later other also number_also in
      differ (del-number (SpellsName-one file.name (Del line.number new.generation) (Del later.number also.generation) first (second.0, same ∙ second.1)))
    where
      del-number : {m n g h : ℕ} → Del m g ≡ Del n h → m ≡ n
      del-number e = cc

  module _ (field text : List ℕ) where
    abbrev files_in : List SegInfo → List SegmentValue → List NewFile
    files_in lines xs = flat_map file_of (markings_of names field text lines xs)

    pub file-among : (lines : List SegInfo) (xs : List SegmentValue) (file : NewFile) → Contains (files_in lines xs) file → IsNewDelAmong lines file
    file-among [] xs file there = absurd (none-within file there)
    file-among (line ∷ lines) [] file there = absurd (none-within file there)
    file-among (line ∷ lines) (x ∷ xs) file there =
        by_part (Contains-append_cases (file_of (marking_of names field text line x.index)) (files_in lines xs) file there) (file-among lines xs file)
      where
        by_part : Contains (file_of (marking_of names field text line x.index)) file ⊎ Contains (files_in lines xs) file → (Contains (files_in lines xs) file → IsNewDelAmong lines file) → IsNewDelAmong (line ∷ lines) file
        by_part (inl here) among_rest = record { line = line; among = inl refl; new = marking-file line x.index (deleted_with field text x.index) file here }
        by_part (inr later) among_rest = let more = among_rest later in record { line = more.line; among = inr more.among; new = more.new }

    one-file : (lines : List SegInfo) (xs : List SegmentValue) → Each (λ line. line.number ≤ greatest_segment) lines → EachPair (λ line later. line.number ≢ later.number) lines
        → (file other : NewFile) → Contains (files_in lines xs) file → Contains (files_in lines xs) other → file.name ≡ other.name → file ≡ other
    one-file [] xs numbers apart file other there also same = absurd (none-within file there)
    one-file (line ∷ lines) [] numbers apart file other there also same = absurd (none-within file there)
    one-file (line ∷ lines) (x ∷ xs) numbers apart file other there also same =
        by_parts (Contains-append_cases (file_of (marking_of names field text line x.index)) (files_in lines xs) file there) (Contains-append_cases (file_of (marking_of names field text line x.index)) (files_in lines xs) other also)
        (λ here too. one-file lines xs numbers.1 apart.1 file other here too same)
      where
        differ : (one another : NewFile) → Contains (file_of (marking_of names field text line x.index)) one → Contains (files_in lines xs) another → one.name ≢ another.name
        differ one another here later =
            let more = file-among lines xs another later in
            names-differ line more.line one another (marking-file line x.index (deleted_with field text x.index) one here) more.new numbers.0
            (each_at (λ (l : SegInfo). l.number ≤ greatest_segment) more.line lines numbers.1 more.among) (each_at (λ (l : SegInfo). line.number ≢ l.number) more.line lines apart.0 more.among)

        by_parts : Contains (file_of (marking_of names field text line x.index)) file ⊎ Contains (files_in lines xs) file → Contains (file_of (marking_of names field text line x.index)) other ⊎ Contains (files_in lines xs) other
            → (Contains (files_in lines xs) file → Contains (files_in lines xs) other → file ≡ other) → file ≡ other
        by_parts (inl here) (inl too) one_later = marking-one line x.index (deleted_with field text x.index) file other here too
        by_parts (inl here) (inr later) one_later = absurd (differ file other here later same)
        by_parts (inr later) (inl here) one_later = absurd (differ other file here later (sym same))
        by_parts (inr here) (inr too) one_later = one_later here too

    numbers-of : (lines : List SegInfo) → All IsLine lines → Each (λ line. line.number ≤ greatest_segment) lines
    numbers-of [] are = tt
    numbers-of (line ∷ lines) are = ((All-head IsLine line lines are).number, numbers-of lines (All-tail IsLine line lines are))

    -- the new files are new
    pub marked-new_files : (lines : List SegInfo) (xs : List SegmentValue) → AreLines lines → AreNewFiles names (flat_map file_of (markings_of names field text lines xs))
    marked-new_files lines xs are = record {
      named = λ file there.
          let new = file-among lines xs file there in
          (Del new.line.number new.new.generation, new-spells new.line file new.new (number-at new.line new.among), tt);
      unlisted = λ file there listed.
          let new = file-among lines xs file there in
          let number = number-at new.line new.among in
          del-unlisted names new.line new.new.generation new.new.generation number new.new.drawn (omega arith) (del-valid names new.line new.new.generation new.new.drawn).1
          (subst (λ (text : List ℕ). Contains names text) (new-spells new.line file new.new number).1 listed);
      one = one-file lines xs (numbers-of lines are.lines) (each-from_pairs (λ line later. line.number ≢ later.number) lines are.apart);
    }
      where
        number-at : (line : SegInfo) → IsIn line lines → line.number ≤ greatest_segment
        number-at line among = each_at (λ (l : SegInfo). l.number ≤ greatest_segment) line lines (numbers-of lines are.lines) among
