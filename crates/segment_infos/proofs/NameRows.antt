-- Worked rows on the definitions of names, and of what commits refer to.
use Rattle.std.proofs.Common.{◌≡◌, ℕ, Bool, true, false, List, [], ◌∷◌, ◌++◌, Option, Some, None, ℤ, pos, negsuc, map, refl}
use Rattle.std.specs.Prelude.{codes}
use Rattle.std.specs.Fmt.{digits}
use Rattle.lu_types.specs.declared.kind.FileKind.TheVariants as kinds
use Rattle.segment_infos.specs.declared.naming.LuceneName.{LuceneName}
use Rattle.segment_infos.specs.declared.naming.LuceneName.TheVariants.{Commit, Part, Del, Sep}
use Rattle.segment_infos.specs.declared.infos.SegInfo.{SegInfo}
use Rattle.segment_infos.specs.Values.{CommitValue}
use Rattle.segment_infos.specs.LuceneNames.{lucene_name_in, name_spelling}
use Rattle.segment_infos.specs.Generations.{listed_generations}
use Rattle.segment_infos.specs.Referring.{KeptValue, line_names, removable}

a_commit : lucene_name_in (codes "segments_1z") ≡ Some (Commit 71)
a_commit = refl

past_commit : lucene_name_in (codes "segments_1y2p0ij32e8e8") ≡ None
past_commit = refl

no_commit : map lucene_name_in (codes "segments_0" ∷ codes "segments_01" ∷ codes "segments_A" ∷ codes "segments.gen" ∷ codes "segments" ∷ []) ≡ None ∷ None ∷ None ∷ None ∷ None ∷ []
no_commit = refl

a_part : lucene_name_in (codes "_1z.fnm") ≡ Some (Part 71 kinds.Fnm)
a_part = refl

no_part : map lucene_name_in (codes "_zik0zj.fnm" ∷ codes "_0.s1" ∷ codes "_0.segments" ∷ codes "_0.del" ∷ codes "_00.fnm" ∷ codes "_0" ∷ []) ≡ None ∷ None ∷ None ∷ None ∷ None ∷ None ∷ []
no_part = refl

a_del : lucene_name_in (codes "_0_1.del") ≡ Some (Del 0 1)
a_del = refl

a_sep : lucene_name_in (codes "_0_1.s0") ≡ Some (Sep 0 1 0)
unfolding digits
a_sep = refl

greatest_sep : lucene_name_in (codes "_0_1.s2147483647") ≡ Some (Sep 0 1 2147483647)
unfolding digits
greatest_sep = refl

no_file : map lucene_name_in (codes "_0_0.del" ∷ codes "_0_1.s01" ∷ codes "_0_1.s2147483648" ∷ codes "_0_1.s" ∷ codes "_0_1.fnm" ∷ []) ≡ None ∷ None ∷ None ∷ None ∷ None ∷ []
unfolding digits
no_file = refl

listed : listed_generations (codes "segments_2" ∷ codes "_0.fnm" ∷ codes "segments_01" ∷ codes "segments_z" ∷ []) ≡ 2 ∷ 35 ∷ []
listed = refl

-- a segment with a shared store of its own number, deleted documents, and the norms of field 1 in a file of their own
shared : SegInfo
shared = record { number = 3; size = 1; del_gen = Some 2; store = Some (record { offset = 0; number = 3; compound = false }); norm_gens = Some (negsuc 0 ∷ pos 1 ∷ []); compound = true; deleted = 0; has_prox = true; diagnostics = [] }

shared_refers : line_names shared ≡ Part 3 kinds.Cfs ∷ Part 3 kinds.Fdx ∷ Part 3 kinds.Fdt ∷ Part 3 kinds.Tvx ∷ Part 3 kinds.Tvd ∷ Part 3 kinds.Tvf ∷ Del 3 2 ∷ Sep 3 1 1 ∷ []
unfolding shared
shared_refers = refl

kept : KeptValue
unfolding shared
kept = record { generation = 4; commit = record { version = 1; counter = 4; segments = shared ∷ []; user = [] } }

removed : removable (kept ∷ []) (codes "segments_4" ∷ codes "segments_3" ∷ codes "write.lock" ∷ codes "_3.fdx" ∷ codes "_3.fnm" ∷ codes "_3_1.s1" ∷ codes "_3_1.s0" ∷ []) ≡ codes "segments_3" ∷ codes "_3.fnm" ∷ codes "_3_1.s0" ∷ []
unfolding kept shared digits
removed = refl
