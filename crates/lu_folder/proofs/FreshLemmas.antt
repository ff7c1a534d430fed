-- Numbers that are drawn are new.
use Rattle.std.proofs.Common.{◌≡◌, ◌≢◌, ◌⊎◌, ℕ, ◌+◌, ◌^◌, ◌<◌, ◌≤◌, List, [], ◌∷◌, ◌++◌, Option, Some, None, Contains, refl, sym, ap, subst, ◌∙◌, inl, inr, arith, lit<}
use Rattle.std.specs.Prelude.{IsPermutation, option_and_then, option_to_list}
use Rattle.std.specs.List.{filter_map, flat_map}
use Rattle.std.specs.FinMap.{keys}
use Rattle.std.proofs.lemmas.Bool.Decides.{nat_tests}
use Rattle.std.proofs.lemmas.List.Elements.{Contains-append_cases}
use Rattle.lu_types.specs.Names.{greatest_segment}
use Rattle.lu_dir.specs.Files.{Files, contents}
use Rattle.segment_infos.specs.declared.infos.SegInfo.{SegInfo}
use Rattle.segment_infos.specs.declared.naming.LuceneName.{LuceneName}
use Rattle.segment_infos.specs.declared.naming.LuceneName.TheVariants.{Commit, Part, Del, Sep}
use Rattle.segment_infos.specs.Generations.{generation_of}
use Rattle.segment_infos.specs.LuceneNames.{IsGenerationNumber, IsName, SpellsName, name_spelling, lucene_name_in}
use Rattle.segment_infos.specs.Referring.{line_names, referred_names}
use Rattle.segment_infos.specs.Parsing.{IsFile}
use Rattle.segment_infos.specs.Values.{CommitValue}
use Rattle.segment_infos.proofs.NameSpelled.{lucene_name_in-SpellsName}
use Rattle.lu_folder.specs.declared.new_file.NewFile.{NewFile}
use Rattle.lu_folder.specs.ChangeValues.{ChangeValue, commit_name}
use Rattle.lu_folder.specs.Changes.{pending_file, written}
use Rattle.lu_folder.specs.Commits.{commit_file}
use Rattle.lu_folder.specs.Keeping.{IsFreshChange}
use Rattle.lu_folder.specs.Fresh.{AreNewFiles}
use Rattle.lu_folder.specs.Numbers.{above, if_below, segment_of_name, del_generation_of}
use Rattle.lu_folder.specs.Drawing.{numbers_in, next_generation, line_numbers, next_segment, next_del}
use Rattle.lu_folder.proofs.AboveLemmas.{above-least, above-each, IsBelow, below-is}
use Rattle.lu_folder.proofs.ListedLemmas.{filter_map-Contains, unnamed-none}
use Rattle.lu_folder.proofs.ReferredLemmas.{referred-segment, file-no_commit}
use Rattle.lu_folder.proofs.SameName.{Contains-only, only-is}

-- the number of a name that is listed is below the one above all
pub listed-below : (counted_number : LuceneName → Option ℕ) (least : ℕ) (names : List (List ℕ)) (name : LuceneName) (n : ℕ) → IsName name → counted_number name ≡ Some n → Contains names (name_spelling name) → n < above least (numbers_in counted_number names)
listed-below counted_number least names name n valid is among =
    above-each least (numbers_in counted_number names) n
    (filter_map-Contains (λ (text : List ℕ). option_and_then counted_number (lucene_name_in text)) names (name_spelling name) n among (ap (option_and_then counted_number) (lucene_name_in-SpellsName (name_spelling name) name (valid, refl)) ∙ is))

-- a generation from the drawn one on is that of no listed commit
pub generation-unlisted : (names : List (List ℕ)) (number later : ℕ) → next_generation names ≡ Some number → number ≤ later → later < 2 ^ 63 → ¬ Contains names (commit_name later)
generation-unlisted names number later drawn le bound among =
    let below : IsBelow (2 ^ 63) (above 1 (numbers_in generation_of names)) number = below-is (2 ^ 63) (above 1 (numbers_in generation_of names)) number drawn in
    let least : 1 ≤ above 1 (numbers_in generation_of names) = above-least 1 (numbers_in generation_of names) in
    let same : number ≡ above 1 (numbers_in generation_of names) = below.same in
    let positive : 0 < later = omega arith in
    let less : later < above 1 (numbers_in generation_of names) = listed-below generation_of 1 names (Commit later) later (positive, bound) refl among in
    omega arith

-- the drawn generation is one
pub generation-valid : (names : List (List ℕ)) (number : ℕ) → next_generation names ≡ Some number → IsGenerationNumber number
generation-valid names number drawn =
    let below : IsBelow (2 ^ 63) (above 1 (numbers_in generation_of names)) number = below-is (2 ^ 63) (above 1 (numbers_in generation_of names)) number drawn in
    let least : 1 ≤ above 1 (numbers_in generation_of names) = above-least 1 (numbers_in generation_of names) in
    let same : number ≡ above 1 (numbers_in generation_of names) = below.same in
    let less : above 1 (numbers_in generation_of names) < 2 ^ 63 = below.less in
    (omega arith, subst (λ (n : ℕ). n < 2 ^ 63) (sym same) less)

-- a file of a segment from the drawn number on is not listed
pub segment-unlisted : (names : List (List ℕ)) (commit : CommitValue) (number : ℕ) (name : LuceneName) (segment : ℕ) → next_segment names commit ≡ Some number → IsName name → segment_of_name name ≡ Some segment → number ≤ segment → ¬ Contains names (name_spelling name)
segment-unlisted names commit number name segment drawn valid is le among =
    let least : ℕ = above commit.counter (flat_map line_numbers commit.segments) in
    let below : IsBelow (greatest_segment + 1) (above least (numbers_in segment_of_name names)) number = below-is (greatest_segment + 1) (above least (numbers_in segment_of_name names)) number drawn in
    let same : number ≡ above least (numbers_in segment_of_name names) = below.same in
    let less : segment < above least (numbers_in segment_of_name names) = listed-below segment_of_name least names name segment valid is among in
    omega arith

-- the commit refers to no file of such a segment
pub segment-unreferred : (names : List (List ℕ)) (commit : CommitValue) (number : ℕ) (name : LuceneName) (segment : ℕ) → next_segment names commit ≡ Some number → Contains (referred_names commit) name → segment_of_name name ≡ Some segment → segment < number
segment-unreferred names commit number name segment drawn among is =
    let least : ℕ = above commit.counter (flat_map line_numbers commit.segments) in
    let below : IsBelow (greatest_segment + 1) (above least (numbers_in segment_of_name names)) number = below-is (greatest_segment + 1) (above least (numbers_in segment_of_name names)) number drawn in
    let same : number ≡ above least (numbers_in segment_of_name names) = below.same in
    let more : least ≤ above least (numbers_in segment_of_name names) = above-least least (numbers_in segment_of_name names) in
    let less : segment < least = above-each commit.counter (flat_map line_numbers commit.segments) segment (referred-segment commit.segments name segment among is) in
    omega arith

-- the drawn number is one that a segment may have, and at least the name counter
pub segment-valid : (names : List (List ℕ)) (commit : CommitValue) (number : ℕ) → next_segment names commit ≡ Some number → (number ≤ greatest_segment) × (commit.counter ≤ number)
segment-valid names commit number drawn =
    let least : ℕ = above commit.counter (flat_map line_numbers commit.segments) in
    let below : IsBelow (greatest_segment + 1) (above least (numbers_in segment_of_name names)) number = below-is (greatest_segment + 1) (above least (numbers_in segment_of_name names)) number drawn in
    let same : number ≡ above least (numbers_in segment_of_name names) = below.same in
    let less : above least (numbers_in segment_of_name names) < greatest_segment + 1 = below.less in
    let counted : commit.counter ≤ least = above-least commit.counter (flat_map line_numbers commit.segments) in
    let more : least ≤ above least (numbers_in segment_of_name names) = above-least least (numbers_in segment_of_name names) in
    (omega arith, omega arith)

-- a file of deleted documents from the drawn generation on is not listed
pub del-unlisted : (names : List (List ℕ)) (line : SegInfo) (number later : ℕ) → line.number ≤ greatest_segment → next_del names line ≡ Some number → number ≤ later → later < 2 ^ 63 → ¬ Contains names (name_spelling (Del line.number later))
del-unlisted names line number later segment drawn le bound among =
    let least : ℕ = above 1 (option_to_list line.del_gen) in
    let below : IsBelow (2 ^ 63) (above least (numbers_in (del_generation_of line.number) names)) number = below-is (2 ^ 63) (above least (numbers_in (del_generation_of line.number) names)) number drawn in
    let same : number ≡ above least (numbers_in (del_generation_of line.number) names) = below.same in
    let one : 1 ≤ least = above-least 1 (option_to_list line.del_gen) in
    let more : least ≤ above least (numbers_in (del_generation_of line.number) names) = above-least least (numbers_in (del_generation_of line.number) names) in
    let positive : 0 < later = omega arith in
    let less : later < above least (numbers_in (del_generation_of line.number) names) = listed-below (del_generation_of line.number) least names (Del line.number later) later (segment, (positive, bound)) (own line.number later) among in
    omega arith
  where
    own : (segment generation : ℕ) → del_generation_of segment (Del segment generation) ≡ Some generation
    own segment generation = grind (arith, nat_tests)

-- it is one, and above that of the line
pub del-valid : (names : List (List ℕ)) (line : SegInfo) (number : ℕ) → next_del names line ≡ Some number → IsGenerationNumber number
del-valid names line number drawn =
    let least : ℕ = above 1 (option_to_list line.del_gen) in
    let below : IsBelow (2 ^ 63) (above least (numbers_in (del_generation_of line.number) names)) number = below-is (2 ^ 63) (above least (numbers_in (del_generation_of line.number) names)) number drawn in
    let same : number ≡ above least (numbers_in (del_generation_of line.number) names) = below.same in
    let less : above least (numbers_in (del_generation_of line.number) names) < 2 ^ 63 = below.less in
    let one : 1 ≤ least = above-least 1 (option_to_list line.del_gen) in
    let more : least ≤ above least (numbers_in (del_generation_of line.number) names) = above-least least (numbers_in (del_generation_of line.number) names) in
    (omega arith, subst (λ (n : ℕ). n < 2 ^ 63) (sym same) less)

pub del-later : (names : List (List ℕ)) (line : SegInfo) (number was : ℕ) → next_del names line ≡ Some number → line.del_gen ≡ Some was → was < number
del-later names line number was drawn is =
    let least : ℕ = above 1 (option_to_list line.del_gen) in
    let below : IsBelow (2 ^ 63) (above least (numbers_in (del_generation_of line.number) names)) number = below-is (2 ^ 63) (above least (numbers_in (del_generation_of line.number) names)) number drawn in
    let same : number ≡ above least (numbers_in (del_generation_of line.number) names) = below.same in
    let more : least ≤ above least (numbers_in (del_generation_of line.number) names) = above-least least (numbers_in (del_generation_of line.number) names) in
    let less : was < least = above-each 1 (option_to_list line.del_gen) was (subst (λ (o : Option ℕ). Contains (option_to_list o) was) (sym is) (Contains-only was)) in
    omega arith

-- a file of a segment has one
file-segment : (name : LuceneName) → IsFile name → (segment : ℕ) × (segment_of_name name ≡ Some segment)
file-segment (Commit generation) none = absurd none
file-segment (Part segment kind) some = (segment, refl)
file-segment (Del segment generation) some = (segment, refl)
file-segment (Sep segment generation field) some = (segment, refl)

-- a change whose numbers are drawn from the names of the folder is fresh in it
pub drawn-fresh : (files : Files) (names : List (List ℕ)) (change : ChangeValue) → IsPermutation (keys files) names → next_generation names ≡ Some change.generation → AreNewFiles names change.files → ((name : List ℕ) → Contains change.removable name → Contains names name) → IsFreshChange change files
drawn-fresh files names change all drawn new among = record {
  absent = λ file there. unnamed-none files names all file.name (new.unlisted file there);
  greatest = λ generation le bound. unnamed-none files names all (commit_name generation) (generation-unlisted names change.generation generation drawn le bound);
  no_commit = λ file there generation same. let (name, spells, is) : (name : LuceneName) × SpellsName file.name name × IsFile name = new.named file there in file-no_commit name (file-segment name is).0 generation (file-segment name is).1 (sym spells.1 ∙ same);
  one = new.one;
  kept = λ file there removed. by_part file (Contains-append_cases change.files (pending_file change ∷ []) file there) (among file.name removed);
}
  where
    by_part : (file : NewFile) → Contains change.files file ⊎ Contains (pending_file change ∷ []) file → Contains names file.name → ⊥
    by_part file (inl there) listed = new.unlisted file there listed
    by_part file (inr own) listed =
        generation-unlisted names change.generation change.generation drawn (omega arith) (generation-valid names change.generation drawn).1
        (subst (λ (f : NewFile). Contains names f.name) (sym (only-is (pending_file change) file own)) listed)
