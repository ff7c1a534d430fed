-- What the calls of a printer make of a text.
use Rattle.std.proofs.Common.{◌≡◌, ℕ, ◌+◌, ◌<◌, ◌≤◌, true, List, [], ◌++◌, length, take, Option, Some, None, Result, Ok, Err, OnOk, OnErr, IsErrOf, refl, sym, ap, subst, ◌∙◌, append_assoc, append-nil, arith, length-append}
use Rattle.std.specs.Option.{is_some}
use Rattle.std.specs.Result.{result_err}
use Rattle.std.proofs.Math.Seq.{take-append_seam, take-append-add}
use Rattle.lu_dir.specs.Faults.{Rose, IsCaused}
use Rattle.lu_dir.specs.Streams.{with_taken}
use Rattle.lu_dir.specs.declared.fail.DirFail.{DirFail}
use Rattle.lu_dir.specs.declared.fail.DirFail.TheVariants as fails
use Rattle.lu_dir.proofs.Taken.{with_taken-with_taken}
use Rattle.lu_dir.proofs.Causes.{Rose-earlier}
use Rattle.lu_listing.specs.Printing.{PrinterState, page, IsOnItsWay, IsPut, Prints}
use Rattle.lu_listing.proofs.PrintingLemmas.{prints-failed}

-- bytes wait behind what waits
prints-waiting : (old new : PrinterState) (bytes : List ℕ) (taken : Option (List ℕ)) (faults : ℕ) → old.failed ≡ None → new.failed ≡ None → new.waiting ≡ old.waiting ++ bytes
    → Prints (page old taken faults) (page new taken faults) bytes
prints-waiting old new bytes taken faults works still more start before h = record {
  later = h.later;
  put = subst (λ (failed : Option DirFail). IsPut failed start (before ++ bytes) (page new taken faults)) (sym still) (record {
    gone = way.gone;
    text_is = ap (λ (t : List ℕ). t ++ bytes) way.text_is ∙ append_assoc way.gone old.waiting bytes ∙ ap (λ (t : List ℕ). way.gone ++ t) (sym more);
    took = way.took;
  });
}
  where
    way : IsOnItsWay start before old.waiting taken
    way = subst (λ (failed : Option DirFail). IsPut failed start before (page old taken faults)) works h.put

-- what waits went out, and these bytes behind it
prints-gone : (waiting bytes : List ℕ) (taken after : Option (List ℕ)) (faults later : ℕ) → faults ≤ later → after ≡ with_taken (waiting ++ bytes) taken
    → Prints (page (record { waiting = waiting; failed = None }) taken faults) (page (record { waiting = []; failed = None }) after later) bytes
prints-gone waiting bytes taken after faults later more took start before h = record {
  later = omega (arith, h.later);
  put = record {
    gone = h.put.gone ++ (waiting ++ bytes);
    text_is = ap (λ (t : List ℕ). t ++ bytes) h.put.text_is ∙ append_assoc h.put.gone waiting bytes ∙ sym (append-nil (h.put.gone ++ (waiting ++ bytes)));
    took = took ∙ ap (with_taken (waiting ++ bytes)) h.put.took ∙ with_taken-with_taken (waiting ++ bytes) h.put.gone start.taken;
  };
}

-- a strict prefix of what waits and of these bytes went out, and then the device or memory failed
prints-cut : (fail : DirFail) (waiting bytes rest : List ℕ) (count : ℕ) (taken after : Option (List ℕ)) (faults later : ℕ) → count < length (waiting ++ bytes) → after ≡ with_taken (take count (waiting ++ bytes)) taken
    → faults ≤ later → (fail ≡ fails.Failed → Rose faults later)
    → Prints (page (record { waiting = waiting; failed = None }) taken faults) (page (record { waiting = rest; failed = Some fail }) after later) bytes
prints-cut fail waiting bytes rest count taken after faults later strict took more rose start before h = record {
  later = omega (arith, h.later);
  put = cut_by fail rose;
}
  where
    whole : before ++ bytes ≡ h.put.gone ++ (waiting ++ bytes)
    whole = ap (λ (t : List ℕ). t ++ bytes) h.put.text_is ∙ append_assoc h.put.gone waiting bytes

    took_both : after ≡ with_taken (take (length h.put.gone + count) (before ++ bytes)) start.taken
    took_both =
        took
        ∙ ap (with_taken (take count (waiting ++ bytes))) h.put.took
        ∙ with_taken-with_taken (take count (waiting ++ bytes)) h.put.gone start.taken
        ∙ ap (λ (t : List ℕ). with_taken t start.taken) (sym (take-append-add h.put.gone (waiting ++ bytes) count))
        ∙ ap (λ (t : List ℕ). with_taken (take (length h.put.gone + count) t) start.taken) (sym whole)

    cut_by : (reason : DirFail) → (reason ≡ fails.Failed → Rose faults later) → IsPut (Some reason) start (before ++ bytes) (page (record { waiting = rest; failed = Some reason }) after later)
    cut_by fails.Failed failure = record {
      count = length h.put.gone + count;
      strict = omega (arith, strict, ap length whole, length-append h.put.gone (waiting ++ bytes));
      took = took_both;
      rose = Rose-earlier start.faults faults later h.later (failure refl);
    }
    cut_by fails.OutOfMemory failure = record { count = length h.put.gone + count; took = took_both }

-- memory ended
pub prints-ended : (old new : PrinterState) (text : List ℕ) (taken : Option (List ℕ)) (faults : ℕ) → old.failed ≡ None → new.failed ≡ Some fails.OutOfMemory → Prints (page old taken faults) (page new taken faults) text
prints-ended old new text taken faults works ended start before h = record {
  later = h.later;
  put = subst (λ (failed : Option DirFail). IsPut failed start (before ++ text) (page new taken faults)) (sym ended) (record {
    count = length way.gone;
    took = way.took ∙ ap (λ (t : List ℕ). with_taken t start.taken) (sym (ap (take (length way.gone)) whole ∙ take-append_seam way.gone (old.waiting ++ text)));
  });
}
  where
    way : IsOnItsWay start before old.waiting taken
    way = subst (λ (failed : Option DirFail). IsPut failed start before (page old taken faults)) works h.put

    whole : before ++ text ≡ way.gone ++ (old.waiting ++ text)
    whole = ap (λ (t : List ℕ). t ++ text) way.text_is ∙ append_assoc way.gone old.waiting text

handed : (answer : Result (Unit {0}) DirFail) (waiting bytes : List ℕ) (taken after : Option (List ℕ)) (faults later : ℕ)
    → OnOk answer (after ≡ with_taken (waiting ++ bytes) taken)
    → OnErr answer ((count : ℕ) × (count < length (waiting ++ bytes)) × (after ≡ with_taken (take count (waiting ++ bytes)) taken))
    → IsCaused faults later (IsErrOf answer fails.Failed)
    → Prints (page (record { waiting = waiting; failed = None }) taken faults) (page (record { waiting = []; failed = result_err answer }) after later) bytes
handed (Ok done) waiting bytes taken after faults later took partly caused = prints-gone waiting bytes taken after faults later caused.later took
handed (Err fail) waiting bytes taken after faults later took partly caused =
    prints-cut fail waiting bytes [] partly.0 taken after faults later partly.1 partly.2 caused.later (λ (is : fail ≡ fails.Failed). caused.rose (ap Err is))

-- what waits and these bytes were handed to the output, and this was answered
pub prints-handed : (old new : PrinterState) (answer : Result (Unit {0}) DirFail) (whole bytes : List ℕ) (taken after : Option (List ℕ)) (faults later : ℕ)
    → old.failed ≡ None → new.waiting ≡ [] → new.failed ≡ result_err answer → whole ≡ old.waiting ++ bytes
    → OnOk answer (after ≡ with_taken whole taken)
    → OnErr answer ((count : ℕ) × (count < length whole) × (after ≡ with_taken (take count whole) taken))
    → IsCaused faults later (IsErrOf answer fails.Failed)
    → Prints (page old taken faults) (page new after later) bytes
prints-handed old new answer whole bytes taken after faults later works sent failed is took partly caused =
    let sure = handed answer old.waiting bytes taken after faults later
    (subst (λ (w : List ℕ). OnOk answer (after ≡ with_taken w taken)) is took)
    (subst (λ (w : List ℕ). OnErr answer ((count : ℕ) × (count < length w) × (after ≡ with_taken (take count w) taken))) is partly)
    caused in
    let from_old = subst (λ (f : Option DirFail). Prints (page (record { waiting = old.waiting; failed = f }) taken faults) (page (record { waiting = []; failed = result_err answer }) after later) bytes) (sym works) sure in
    let to_waiting = subst (λ (w : List ℕ). Prints (page old taken faults) (page (record { waiting = w; failed = result_err answer }) after later) bytes) (sym sent) from_old in
    subst (λ (f : Option DirFail). Prints (page old taken faults) (page (record { waiting = new.waiting; failed = f }) after later) bytes) (sym failed) to_waiting

-- nothing goes out after a failure
pub prints-dropped : (old new : PrinterState) (text : List ℕ) (taken : Option (List ℕ)) (faults : ℕ) → is_some old.failed ≡ true → new.failed ≡ old.failed → Prints (page old taken faults) (page new taken faults) text
prints-dropped old new text taken faults is same start before h =
    let longer = prints-failed (page old taken faults) text is start before h in
    record {
      later = longer.later;
      put = unread new.failed (subst (λ (failed : Option DirFail). IsPut failed start (before ++ text) (page old taken faults)) (sym same) longer.put) (ap is_some same ∙ is);
    }
  where
    unread : (failed : Option DirFail) → IsPut failed start (before ++ text) (page old taken faults) → is_some failed ≡ true → IsPut failed start (before ++ text) (page new taken faults)
    unread None put none = absurd (cc none)
    unread (Some fails.Failed) put some = put
    unread (Some fails.OutOfMemory) put some = put

-- bytes wait behind what waits, or go nowhere after a failure
pub prints-more : (old new : PrinterState) (bytes : List ℕ) (taken : Option (List ℕ)) (faults : ℕ) → new.failed ≡ old.failed → new.waiting ≡ old.waiting ++ bytes → Prints (page old taken faults) (page new taken faults) bytes
prints-more old new bytes taken faults same more = go old.failed refl
  where
    go : (failed : Option DirFail) → old.failed ≡ failed → Prints (page old taken faults) (page new taken faults) bytes
    go None works = prints-waiting old new bytes taken faults works (same ∙ works) more
    go (Some fail) is = prints-dropped old new bytes taken faults (ap is_some is) same
