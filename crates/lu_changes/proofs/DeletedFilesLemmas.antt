-- What is found of a segment whose new `.del` is in the folder, and whose other files are as before.
use Rattle.std.proofs.Common.{◌≡◌, ◌⊎◌, ℕ, zero, suc, ◌+◌, ◌^◌, ◌<◌, ◌≤◌, Bool, true, false, cond, ◌||◌, List, [], ◌∷◌, ◌++◌, length, map, All, Option, Some, None, ℤ, pos, negsuc, Contains, refl, sym, ap, subst, ◌∙◌, inl, inr, arith}
use Rattle.std.specs.Prelude.{slice_get, unwrap_or, option_and_then}
use Rattle.std.specs.List.{list_any, range_with_len}
use Rattle.std.specs.Str.{bytes_eq}
use Rattle.std.proofs.lemmas.List.Elements.{All-contains, Contains-append_left, Contains-append_right, Contains-append_cases}
use Rattle.std.proofs.lemmas.Slice.Eq.{bytes_eq-Decides}
use Rattle.lu_dir.specs.Files.{Files, contents}
use Rattle.lu_dir.specs.Loading.{found_at}
use Rattle.lu_types.specs.Kinds.{front_kinds, vector_kinds}
use Rattle.lu_types.specs.Names.{IsPart}
use Rattle.lu_types.specs.declared.kind.FileKind.{FileKind}
use Rattle.lu_types.specs.declared.kind.FileKind.TheVariants as kinds
use Rattle.segment_infos.specs.declared.infos.SegInfo.{SegInfo}
use Rattle.segment_infos.specs.declared.naming.LuceneName.{LuceneName}
use Rattle.segment_infos.specs.declared.naming.LuceneName.TheVariants.{Part, Del, Sep}
use Rattle.segment_infos.specs.Keeping.{HasOwnSpelling}
use Rattle.segment_infos.specs.LuceneNames.{name_spelling}
use Rattle.segment_infos.specs.Referring.{del_names, norm_names}
use Rattle.segment_infos.proofs.NameSpelled.{name_spelling-same}
use Rattle.lu_folder.specs.Reading.{parts_read, read_names}
use Rattle.lu_folder.proofs.SameName.{only-is}
use Rattle.lu_reads.specs.Naming.{owner_of, norm_name}
use Rattle.lu_reads.specs.Finding.{spelled_names, file_among, folder_files}
use Rattle.lu_changes.proofs.StandingReadLemmas.{Contains-map, found_at-contents, named-any}
use Rattle.lu_changes.proofs.DeletedStandLemmas.{with_del, del_line}

abbrev spelled_all : List LuceneName → List (List ℕ)
spelled_all names = map name_spelling names

-- no file of deleted documents has this text for its name
abbrev pub IsNoDel : List ℕ → Type 0
IsNoDel asked = (number generation : ℕ) → bytes_eq asked (name_spelling (Del number generation)) ≡ false

-- ---- a text among the names

any-front : (asked : List ℕ) (front one other : List LuceneName) → list_any (bytes_eq asked) (spelled_all one) ≡ list_any (bytes_eq asked) (spelled_all other) → list_any (bytes_eq asked) (spelled_all (front ++ one)) ≡ list_any (bytes_eq asked) (spelled_all (front ++ other))
any-front asked [] one other same = same
any-front asked (name ∷ front) one other same = ap (λ (b : Bool). bytes_eq asked (name_spelling name) || b) (any-front asked front one other same)

any-dels : (asked : List ℕ) (number : ℕ) (del_gen : Option ℕ) (back : List LuceneName) → IsNoDel asked → list_any (bytes_eq asked) (spelled_all (del_names number del_gen ++ back)) ≡ list_any (bytes_eq asked) (spelled_all back)
any-dels asked number None back none = refl
any-dels asked number (Some generation) back none = ap (λ (b : Bool). b || list_any (bytes_eq asked) (spelled_all back)) (none number generation)

any-named : (asked : List ℕ) (names : List LuceneName) → list_any (bytes_eq asked) (spelled_all names) ≡ true → (name : LuceneName) × Contains names name × (asked ≡ name_spelling name)
any-named asked [] is = absurd (cc)
any-named asked (name ∷ names) is = by_test (bytes_eq asked (name_spelling name)) refl is (any-named asked names)
  where
    later : (one : LuceneName) × Contains names one × (asked ≡ name_spelling one) → (one : LuceneName) × Contains (name ∷ names) one × (asked ≡ name_spelling one)
    later (one, there, same) = (one, Contains-append_right (name ∷ []) names one there, same)

    by_test : (b : Bool) → bytes_eq asked (name_spelling name) ≡ b → (b || list_any (bytes_eq asked) (spelled_all names)) ≡ true
        → (list_any (bytes_eq asked) (spelled_all names) ≡ true → (one : LuceneName) × Contains names one × (asked ≡ name_spelling one)) → (one : LuceneName) × Contains (name ∷ names) one × (asked ≡ name_spelling one)
    by_test true same some rest = (name, (0, omega arith, refl), (bytes_eq-Decides asked (name_spelling name)).0 same)
    by_test false same some rest = later (rest some)

-- ---- one segment

module _ (line : SegInfo) (generation count : ℕ) where
  abbrev new_line : SegInfo
  new_line = del_line line generation count

  abbrev front : List LuceneName
  front = parts_read line front_kinds

  abbrev norms : List LuceneName
  norms = norm_names line.number line.norm_gens

  abbrev back : List LuceneName
  back = parts_read line vector_kinds

  new-names : read_names new_line ≡ front ++ (norms ++ (del_names line.number (Some generation) ++ back))
  new-names = refl

  -- a name that is not of deleted documents is read as before
  pub any-same : (asked : List ℕ) → IsNoDel asked → list_any (bytes_eq asked) (spelled_names new_line) ≡ list_any (bytes_eq asked) (spelled_names line)
  any-same asked none =
      any-front asked front (norms ++ (del_names line.number (Some generation) ++ back)) (norms ++ (del_names line.number line.del_gen ++ back))
      (any-front asked norms (del_names line.number (Some generation) ++ back) (del_names line.number line.del_gen ++ back)
      (any-dels asked line.number (Some generation) back none ∙ sym (any-dels asked line.number line.del_gen back none)))

  -- its own file is read
  pub del-read : Contains (read_names new_line) (Del line.number generation)
  del-read =
      Contains-append_right front (norms ++ (Del line.number generation ∷ back)) (Del line.number generation)
      (Contains-append_right norms (Del line.number generation ∷ back) (Del line.number generation) (0, omega arith, refl))

  -- each other name that is read was read
  pub read-before : (name : LuceneName) → Contains (read_names new_line) name → (name ≡ Del line.number generation) ⊎ Contains (read_names line) name
  read-before name among = by_front (Contains-append_cases front (norms ++ (Del line.number generation ∷ back)) name among)
    where
      by_del : Contains (Del line.number generation ∷ []) name ⊎ Contains back name → (name ≡ Del line.number generation) ⊎ Contains (read_names line) name
      by_del (inl here) = inl (sym (only-is (Del line.number generation) name here))
      by_del (inr here) =
          inr (Contains-append_right front (norms ++ (del_names line.number line.del_gen ++ back)) name
          (Contains-append_right norms (del_names line.number line.del_gen ++ back) name (Contains-append_right (del_names line.number line.del_gen) back name here)))

      by_norm : Contains norms name ⊎ Contains (Del line.number generation ∷ back) name → (name ≡ Del line.number generation) ⊎ Contains (read_names line) name
      by_norm (inl here) = inr (Contains-append_right front (norms ++ (del_names line.number line.del_gen ++ back)) name (Contains-append_left norms (del_names line.number line.del_gen ++ back) name here))
      by_norm (inr here) = by_del (Contains-append_cases (Del line.number generation ∷ []) back name here)

      by_front : Contains front name ⊎ Contains (norms ++ (Del line.number generation ∷ back)) name → (name ≡ Del line.number generation) ⊎ Contains (read_names line) name
      by_front (inl here) = inr (Contains-append_left front (norms ++ (del_names line.number line.del_gen ++ back)) name here)
      by_front (inr here) = by_norm (Contains-append_cases norms (Del line.number generation ∷ back) name here)

  module _ (old new : Files) (bytes : List ℕ) (own : All HasOwnSpelling (read_names new_line)) (whole : contents new (name_spelling (Del line.number generation)) ≡ Some bytes)
      (kept : (name : LuceneName) → Contains (read_names new_line) name → Contains (read_names line) name → contents new (name_spelling name) ≡ contents old (name_spelling name)) where
    abbrev found : List (Option (List ℕ))
    found = map (contents old) (spelled_names line)

    abbrev new_found : List (Option (List ℕ))
    new_found = map (contents new) (spelled_names new_line)

    -- a name of another file
    record IsOther (name : LuceneName) : Type 0 where
      spells : HasOwnSpelling name
      other : (n g : ℕ) → name ≡ Del n g → ⊥

    no-del-text : (name : LuceneName) → IsOther name → IsNoDel (name_spelling name)
    no-del-text name is n g = by_test (bytes_eq (name_spelling name) (name_spelling (Del n g))) refl
      where
        by_test : (b : Bool) → bytes_eq (name_spelling name) (name_spelling (Del n g)) ≡ b → b ≡ false
        by_test true same = absurd (is.other n g (name_spelling-same name (Del n g) is.spells tt ((bytes_eq-Decides (name_spelling name) (name_spelling (Del n g))).0 same)))
        by_test false same = refl

    -- what is found under the name of another file is what was found
    other-found : (name : LuceneName) → IsOther name → found_at (spelled_names new_line) new_found (name_spelling name) ≡ found_at (spelled_names line) found (name_spelling name)
    other-found name is =
        found_at-contents new (spelled_names new_line) (name_spelling name)
        ∙ by_test (list_any (bytes_eq (name_spelling name)) (spelled_names new_line)) refl
        ∙ ap (λ (b : Bool). cond b (contents old (name_spelling name)) None) (any-same (name_spelling name) (no-del-text name is))
        ∙ sym (found_at-contents old (spelled_names line) (name_spelling name))
      where
        name-kept : Contains (read_names new_line) name → contents new (name_spelling name) ≡ contents old (name_spelling name)
        name-kept among = by_part (read-before name among)
          where
            by_part : (name ≡ Del line.number generation) ⊎ Contains (read_names line) name → contents new (name_spelling name) ≡ contents old (name_spelling name)
            by_part (inl del) = absurd (is.other line.number generation del)
            by_part (inr before) = kept name among before

        by_test : (b : Bool) → list_any (bytes_eq (name_spelling name)) (spelled_names new_line) ≡ b → cond b (contents new (name_spelling name)) None ≡ cond b (contents old (name_spelling name)) None
        by_test true some =
            let (one, there, same) : (one : LuceneName) × Contains (read_names new_line) one × (name_spelling name ≡ name_spelling one) = any-named (name_spelling name) (read_names new_line) some in
            let is_one : name ≡ one = name_spelling-same name one is.spells (All-contains HasOwnSpelling (read_names new_line) one own there) same in
            name-kept (subst (λ (n : LuceneName). Contains (read_names new_line) n) (sym is_one) there)
        by_test false none = refl

    part-other : (number : ℕ) (kind : FileKind) → IsPart kind → IsOther (Part number kind)
    part-other number kind part = record { spells = part; other = λ n g same. differ n g same }
      where
        differ : (n g : ℕ) → Part number kind ≡ Del n g → ⊥
        differ n g e = cc

    part-found : (number : ℕ) (kind : FileKind) → IsPart kind → found_at (spelled_names new_line) new_found (name_spelling (Part number kind)) ≡ found_at (spelled_names line) found (name_spelling (Part number kind))
    part-found number kind part = other-found (Part number kind) (part-other number kind part)

    -- so is the file of norms of a field
    norm-found : (field : ℕ) (counted : Option ℤ) → field < 2 ^ 64
        → option_and_then (λ name. found_at (spelled_names new_line) new_found (name_spelling name)) (norm_name line.number field counted) ≡ option_and_then (λ name. found_at (spelled_names line) found (name_spelling name)) (norm_name line.number field counted)
    norm-found field None small = refl
    norm-found field (Some (pos zero)) small = refl
    norm-found field (Some (pos (suc n))) small = other-found (Sep line.number (suc n) field) (record { spells = small; other = λ m g same. differ m g same })
      where
        differ : (m g : ℕ) → Sep line.number (suc n) field ≡ Del m g → ⊥
        differ m g e = cc
    norm-found field (Some (negsuc n)) small = refl

    norms-found : (first many : ℕ) → first + many ≤ 2 ^ 64
        → map (λ field. file_among (spelled_names new_line) new_found new_line (kinds.Sep field)) (range_with_len first many) ≡ map (λ field. file_among (spelled_names line) found line (kinds.Sep field)) (range_with_len first many)
    norms-found first zero small = refl
    norms-found first (suc many) small =
        ap (λ (o : Option (List ℕ)). o ∷ map (λ field. file_among (spelled_names new_line) new_found new_line (kinds.Sep field)) (range_with_len (first + 1) many)) (norm-found first (slice_get (unwrap_or line.norm_gens []) first) (omega (arith, small)))
        ∙ ap (λ (os : List (Option (List ℕ))). file_among (spelled_names line) found line (kinds.Sep first) ∷ os) (norms-found (first + 1) many (omega (arith, small)))

    -- its own file is the new one
    del-found : file_among (spelled_names new_line) new_found new_line kinds.Del ≡ Some bytes
    del-found =
        found_at-contents new (spelled_names new_line) (name_spelling (Del line.number generation))
        ∙ ap (λ (b : Bool). cond b (contents new (name_spelling (Del line.number generation))) None)
        (named-any (spelled_names new_line) (name_spelling (Del line.number generation)) (Contains-map name_spelling (read_names new_line) (Del line.number generation) del-read))
        ∙ whole

    -- all files that are found
    pub folder-found : length (unwrap_or line.norm_gens []) < 2 ^ 31 → folder_files new_line new_found ≡ with_del (folder_files line found) bytes
    folder-found few = λ i. record {
      cfs = part-found line.number kinds.Cfs tt i;
      cfx = part-found (owner_of line.store line.number) kinds.Cfx tt i;
      parts = record {
        index = record {
          fnm = part-found line.number kinds.Fnm tt i;
          tis = part-found line.number kinds.Tis tt i;
          tii = part-found line.number kinds.Tii tt i;
          frq = part-found line.number kinds.Frq tt i;
          prx = part-found line.number kinds.Prx tt i;
          nrm = part-found line.number kinds.Nrm tt i;
        };
        documents = record {
          fdx = part-found (owner_of line.store line.number) kinds.Fdx tt i;
          fdt = part-found (owner_of line.store line.number) kinds.Fdt tt i;
          tvx = part-found (owner_of line.store line.number) kinds.Tvx tt i;
          tvd = part-found (owner_of line.store line.number) kinds.Tvd tt i;
          tvf = part-found (owner_of line.store line.number) kinds.Tvf tt i;
        };
      };
      separate = norms-found 0 (length (unwrap_or line.norm_gens [])) (omega (arith, few)) i;
      del = del-found i;
    }
