use Rattle.std.proofs.Common.{subst, List, ℕ}
use Rattle.std.specs.Str.{IsCharBoundary}
use Rattle.std.proofs.lemmas.Str.{IsUtf8-take}
use Rattle.lu_prims.proofs.texts.cut_before.Goals as goal

pub returns-clause-front : goal.returns-clause-front
returns-clause-front c =
    IsUtf8-take c.args.text.now c.floor_char_boundary.result c.requires
    (subst (λ (t : List ℕ). IsCharBoundary t c.floor_char_boundary.result) c.from_utf8_unchecked.ensures c.floor_char_boundary.ensures.boundary)
