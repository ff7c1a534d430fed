use Rattle.std.proofs.Common.{◌≡◌, ◌<◌, ◌^◌, to_z, of_z, w32, w64, ◌++◌, ℕ, ℤ, List, pos, negsuc, ap, ◌∙◌}
use Rattle.std.proofs.lemmas.Int.{to_z_pos}
use Rattle.lu_grammar.specs.Parts.{int32, int64, spelling}
use Rattle.term_dict.proofs.SpellingLemmas.{appended-five}
use Rattle.term_dict.proofs.writer.push_header.Goals as goal

-- a number with its sign after some bytes
step : (new old before : List ℕ) (z w : ℤ) → new ≡ old ++ spelling int32 z → z ≡ w → old ≡ before → new ≡ before ++ spelling int32 w
step new old before z w e is at = e ∙ ap (λ (x : ℤ). old ++ spelling int32 x) is ∙ ap (λ (t : List ℕ). t ++ spelling int32 w) at

step64 : (new old before : List ℕ) (z w : ℤ) → new ≡ old ++ spelling int64 z → z ≡ w → old ≡ before → new ≡ before ++ spelling int64 w
step64 new old before z w e is at = e ∙ ap (λ (x : ℤ). old ++ spelling int64 x) is ∙ ap (λ (t : List ℕ). t ++ spelling int64 w) at

-- a number with a sign that was passed
sent : (n : ℕ) (z : ℤ) → n < 2 ^ 31 → z ≡ pos n → to_z w32 (of_z w32 z) ≡ pos n
sent n z lt is = ap (λ (x : ℤ). to_z w32 (of_z w32 x)) is ∙ to_z_pos w32 n lt

sent64 : (n : ℕ) (z : ℤ) → n < 2 ^ 63 → z ≡ pos n → to_z w64 (of_z w64 z) ≡ pos n
sent64 n z lt is = ap (λ (x : ℤ). to_z w64 (of_z w64 x)) is ∙ to_z_pos w64 n lt

pub returns : goal.returns
returns c =
    let one = c.args.out.now.items ++ spelling int32 (negsuc 3) in
    let two = one ++ spelling int64 (pos c.args.count) in
    let three = two ++ spelling int32 (pos c.args.index_interval) in
    let four = three ++ spelling int32 (pos c.args.skip_interval) in
    let first : c.put_i32.new.out.items ≡ one = c.in_ok-put_i32.ensures.ok in
    let second = step64 c.put_i64.new.out.items c.put_i32.new.out.items one (to_z w64 (of_z w64 c.signed_count-terms.result)) (pos c.args.count) c.in_ok-put_i64.ensures.ok (sent64 c.args.count c.signed_count-terms.result c.requires.count c.signed_count-terms.ensures) first in
    let third = step c.put_i32-2.new.out.items c.put_i64.new.out.items two (to_z w32 (of_z w32 c.signed-index.result)) (pos c.args.index_interval) c.in_ok-put_i32-2.ensures.ok (sent c.args.index_interval c.signed-index.result c.requires.index_interval c.signed-index.ensures) second in
    let fourth = step c.put_i32-3.new.out.items c.put_i32-2.new.out.items three (to_z w32 (of_z w32 c.signed-skip.result)) (pos c.args.skip_interval) c.in_ok-put_i32-3.ensures.ok (sent c.args.skip_interval c.signed-skip.result c.requires.skip_interval c.signed-skip.ensures) third in
    step c.put_i32-4.new.out.items c.put_i32-3.new.out.items four (to_z w32 (of_z w32 c.signed-levels.result)) (pos c.args.max_levels) c.in_ok-put_i32-4.ensures.ok (sent c.args.max_levels c.signed-levels.result c.requires.max_levels c.signed-levels.ensures) fourth
    ∙ appended-five c.args.out.now.items (spelling int32 (negsuc 3)) (spelling int64 (pos c.args.count)) (spelling int32 (pos c.args.index_interval)) (spelling int32 (pos c.args.skip_interval)) (spelling int32 (pos c.args.max_levels))
