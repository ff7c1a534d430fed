use Rattle.std.proofs.Common.{◌≡◌, refl, ap, sym, ◌∙◌, subst, ◌+◌, false, length, drop, get_or, arith}
use Rattle.std.proofs.lemmas.List.{get_or_default, take_all}
use Rattle.lu_types.specs.DocFaults.{AreSoundTokens}
use Rattle.posting_files.specs.States.{PostingState, IsEntryBegun, occurrence_put}
use Rattle.seg_writer.specs.Columns.{tokens_in_field}
use Rattle.seg_writer.specs.Entries.{no_token, occurrence_of_token, listed_occurrences, tokens_at}
use Rattle.seg_writer.proofs.OccurrenceLemmas.{tokens-left, occurrences-next}
use Rattle.seg_writer.proofs.PartlyLemmas.{no_use}
use Rattle.seg_writer.proofs.uses.add_occurrences.Goals as goal

pub payload_of-requires-clause-within : goal.payload_of-requires-clause-within
payload_of-requires-clause-within c = c.requires.run.within c.loop-here.here-index no_use c.loop-here-test.true

pub add_occurrence-requires : goal.add_occurrence-requires
add_occurrence-requires c =
    let run = c.args.run.now in
    let tokens = tokens_in_field c.args.place.now in
    let k = c.loop-here.here-index in
    let here = get_or run k no_use in
    let token = get_or tokens here.token no_token in
    let at : here ≡ get_or run k here = get_or_default run k no_use here c.loop-here-test.true in
    let left = tokens-left tokens run k here token c.loop-here.writer.prox.position c.loop-here-test.true at refl c.loop-here.invariant.sound in
    let same : here.position ≡ token.position = c.requires.run.positions k no_use c.loop-here-test.true in
    let rises = left.0 in
    let small = left.1.position in
    let few = left.1.payload in
    let size = ap length c.payload_of.ensures in
    record {
      small = omega (arith, same, small);
      rises = omega (arith, same, rises);
      few = omega (arith, few, size);
    }

pub loop-here-preserved : goal.loop-here-preserved
loop-here-preserved c =
    let run = c.args.run.now in
    let tokens = tokens_in_field c.args.place.now in
    let k = c.loop-here.here-index in
    let here = get_or run k no_use in
    let token = get_or tokens here.token no_token in
    let at : here ≡ get_or run k here = get_or_default run k no_use here c.loop-here-test.true in
    let adds : c.add_occurrence.new.self ≡ occurrence_put c.loop-here.writer (occurrence_of_token token) =
    c.in-Ok.ensures ∙ ap (λ w. occurrence_put c.loop-here.writer (record { position = here.position; payload = w })) c.payload_of.ensures
    ∙ ap (λ n. occurrence_put c.loop-here.writer (record { position = n; payload = token.payload })) (c.requires.run.positions k no_use c.loop-here-test.true) in
    let left = tokens-left tokens run k here token c.loop-here.writer.prox.position c.loop-here-test.true at refl c.loop-here.invariant.sound in
    record {
      sound = subst (λ (s : PostingState). AreSoundTokens s.prox.position (tokens_at tokens (drop (k + 1) run))) (sym adds) left.2;
      lists = ap (λ (s : PostingState). s.lists) adds ∙ c.loop-here.invariant.lists;
      begun = λ i limit ts omit payloads es b. occurrences-next tokens run k here token c.loop-here.writer c.add_occurrence.new.self c.loop-here-test.true at refl adds i limit ts omit payloads es (c.loop-here.invariant.begun i limit ts omit payloads es b);
    }

pub returns-clause-begun : goal.returns-clause-begun
returns-clause-begun c i limit ts omit payloads es b =
    subst (λ us. IsEntryBegun i limit ts omit payloads es (listed_occurrences false (tokens_at (tokens_in_field c.args.place.now) us)) c.loop-here.writer) (take_all c.loop-here.here-index c.args.run.now c.loop-here-test.false) (c.loop-here.invariant.begun i limit ts omit payloads es b)
