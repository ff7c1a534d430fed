use Rattle.std.proofs.Common.{◌≡◌, ◌∷◌, [], ◌++◌, ◌%◌, ap, ◌∙◌}
use Rattle.std.specs.Char.{digit_char}
use Rattle.std.specs.String.{string_bytes}
use Rattle.lu_prims.proofs.Base36Lemmas.{pushed_digit, pushed_last, pushed_more}
use Rattle.lu_prims.proofs.base36.+push_base36.Goals as goal
use Rattle.lu_prims.proofs.base36.+push_base36.Goals.{then-value-ge-BASE+in_ok-push_base36, else-value-ge-BASE}

pub returns : goal.returns
returns t c =
    let one : string_bytes c.push.new.self ≡ string_bytes c.if-value-ge-BASE.text ++ digit_char (c.args.value % 36) ∷ [] =
    pushed_digit (string_bytes c.if-value-ge-BASE.text) (string_bytes c.push.new.self) c.args.value c.digit_of.result c.digit_of.ensures c.push.ensures.ascii c.in_ok-push.ensures.bytes in
    elim c.if-value-ge-BASE.branch [
      | then-value-ge-BASE+in_ok-push_base36 w ↦
          pushed_more (string_bytes c.args.text.now) (string_bytes c.if-value-ge-BASE.text) (string_bytes c.push.new.self) c.args.value w.if-value-ge-BASE.true (ap string_bytes w.text-is ∙ w.in_ok-push_base36.ensures) one
      | else-value-ge-BASE w ↦
          pushed_last (string_bytes c.args.text.now) (string_bytes c.if-value-ge-BASE.text) (string_bytes c.push.new.self) c.args.value w.if-value-ge-BASE.false (ap string_bytes w.text-is) one
    ]
