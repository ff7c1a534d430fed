use Rattle.std.proofs.Common.{◌≡◌, ◌++◌, ℕ, List, pos, ap, subst, sym, ◌∙◌}
use Rattle.lu_grammar.specs.Parts.{int64, spelling}
use Rattle.lu_grammar.specs.Meaning.{Reads}
use Rattle.lu_prims.specs.Checksum.{checksum}
use Rattle.segment_infos.specs.Format.{commit_plan}
use Rattle.segment_infos.specs.Spelling.{commit_bytes}
use Rattle.segment_infos.proofs.WrittenCommits.{commit-reads}
use Rattle.segment_infos.proofs.writing.write.Goals as goal

pub returns-clause-spelling : goal.returns-clause-spelling
returns-clause-spelling c = c.in_ok-put_seal.ensures ∙ ap (λ (t : List ℕ). t ++ spelling int64 (pos (checksum t))) c.in_ok-out.ensures.bytes

pub returns-clause-reads : goal.returns-clause-reads
returns-clause-reads c =
    let is : c.put_seal.new.out.items ≡ commit_bytes c.args.commit.now = c.in_ok-put_seal.ensures ∙ ap (λ (t : List ℕ). t ++ spelling int64 (pos (checksum t))) c.in_ok-out.ensures.bytes in
    subst (λ (t : List ℕ). Reads (commit_plan t) t c.args.commit.now) (sym is) (commit-reads c.args.commit.now c.in_ok-out.ensures.commit)
