-- Texts that are handed to a printer one after another.
use Rattle.std.proofs.Common.{◌≡◌, ℕ, ◌<◌, ◌≤◌, true, List, [], ◌++◌, length, Option, Some, None, refl, sym, ap, subst, ◌∙◌, ⊎_elim, append_assoc, append-nil, arith, length-append}
use Rattle.std.specs.Option.{is_some}
use Rattle.std.proofs.lemmas.Bool.{cases_lt}
use Rattle.std.proofs.lemmas.List.{take-append-le, take_all}
use Rattle.std.proofs.Math.Seq.{take-append_seam}
use Rattle.lu_dir.specs.Streams.{with_taken}
use Rattle.lu_dir.specs.declared.fail.DirFail.{DirFail}
use Rattle.lu_dir.specs.declared.fail.DirFail.TheVariants as fails
use Rattle.lu_listing.specs.Printing.{Start, Page, IsCut, IsCutShort, IsPut, HasPrinted, Prints}

-- ---- one text after another

-- nothing is printed
pub prints-nothing : (p : Page) → Prints p p []
prints-nothing p start before h = subst (λ (text : List ℕ). HasPrinted start text p) (sym (append-nil before)) h

-- one text and then another
pub prints-both : (a b c : Page) (text more : List ℕ) → Prints a b text → Prints b c more → Prints a c (text ++ more)
prints-both a b c text more first second start before h =
    subst (λ (all : List ℕ). HasPrinted start all c) (append_assoc before text more) (second start (before ++ text) (first start before h))

-- a text that is another
pub prints-same : (a b : Page) (text other : List ℕ) → text ≡ other → Prints a b text → Prints a b other
prints-same a b text other same prints = subst (λ (t : List ℕ). Prints a b t) same prints

-- ---- after a failure

cut_longer : (start : Start) (text more : List ℕ) (taken : Option (List ℕ)) (faults : ℕ) → IsCut start text taken faults → IsCut start (text ++ more) taken faults
cut_longer start text more taken faults cut = record {
  count = cut.count;
  strict = omega (arith, cut.strict, length-append text more);
  took = cut.took ∙ ap (λ (t : List ℕ). with_taken t start.taken) (sym (take-append-le cut.count text more (omega (arith, cut.strict))));
  rose = cut.rose;
}

cut_short_longer : (start : Start) (text more : List ℕ) (taken : Option (List ℕ)) → IsCutShort start text taken → IsCutShort start (text ++ more) taken
cut_short_longer start text more taken cut =
    ⊎_elim
    (λ (lt : cut.count < length text). record {
      count = cut.count;
      took = cut.took ∙ ap (λ (t : List ℕ). with_taken t start.taken) (sym (take-append-le cut.count text more (omega arith)));
    })
    (λ (ge : length text ≤ cut.count). record {
      count = length text;
      took = cut.took ∙ ap (λ (t : List ℕ). with_taken t start.taken) (take_all cut.count text ge ∙ sym (take-append_seam text more));
    })
    (cases_lt cut.count (length text))

put_failed : (failed : Option DirFail) (start : Start) (text more : List ℕ) (p : Page) → is_some failed ≡ true → IsPut failed start text p → IsPut failed start (text ++ more) p
put_failed None start text more p is put = absurd (cc is)
put_failed (Some fails.Failed) start text more p is put = cut_longer start text more p.taken p.faults put
put_failed (Some fails.OutOfMemory) start text more p is put = cut_short_longer start text more p.taken put

-- what is handed to a printer that failed goes nowhere
pub prints-failed : (p : Page) (text : List ℕ) → is_some p.printer.failed ≡ true → Prints p p text
prints-failed p text is start before h = record {
  later = h.later;
  put = put_failed p.printer.failed start before text p is h.put;
}

-- ---- a text that is printed in steps

-- the front of a whole was printed, and this rest of it is left
pub record Lacks (old new : Page) (rest whole : List ℕ) : Type 0 where
  pub text : List ℕ
  pub prints : Prints old new text
  pub split : text ++ rest ≡ whole

-- nothing was printed yet
pub lacks-all : (p : Page) (whole : List ℕ) → Lacks p p whole whole
lacks-all p whole = record { text = []; prints = prints-nothing p; split = refl }

-- the next text was printed
pub lacks-less : (a b c : Page) (more rest left whole : List ℕ) → Lacks a b left whole → Prints b c more → left ≡ more ++ rest → Lacks a c rest whole
lacks-less a b c more rest left whole so_far prints split = record {
  text = so_far.text ++ more;
  prints = prints-both a b c so_far.text more so_far.prints prints;
  split = append_assoc so_far.text more rest ∙ ap (λ (t : List ℕ). so_far.text ++ t) (sym split) ∙ so_far.split;
}

-- the rest is printed
pub lacks-last : (a b c : Page) (rest whole : List ℕ) → Lacks a b rest whole → Prints b c rest → Prints a c whole
lacks-last a b c rest whole so_far prints = prints-same a c (so_far.text ++ rest) whole so_far.split (prints-both a b c so_far.text rest so_far.prints prints)

-- nothing is left
pub lacks-none : (a b : Page) (rest whole : List ℕ) → Lacks a b rest whole → rest ≡ [] → Prints a b whole
lacks-none a b rest whole so_far none = lacks-last a b b rest whole so_far (prints-same b b [] rest (sym none) (prints-nothing b))

-- the rest is not printed after a failure
pub lacks-failed : (a b : Page) (rest whole : List ℕ) → Lacks a b rest whole → is_some b.printer.failed ≡ true → Prints a b whole
lacks-failed a b rest whole so_far is = lacks-last a b b rest whole so_far (prints-failed b rest is)
