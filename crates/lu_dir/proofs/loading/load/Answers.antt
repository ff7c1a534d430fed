use Rattle.std.proofs.Common.{ℕ, List, ◌≤◌, ◌<◌, length, arith, ap, ◌∙◌, sym, rules, subst, Some, Option, IfSome, All}
use Rattle.lu_dir.specs.declared.loading.LoadFault.TheVariants.{TooLarge}
use Rattle.std.specs.Option.{option_map}
use Rattle.std.specs.Ordering.{nat_cmp}
use Rattle.std.specs.Cmp.Lexicographic.{slice_cmp}
use Rattle.std.specs.FinMap.{get-empty}
use Rattle.lu_dir.specs.FileMap.{items_of}
use Rattle.lu_dir.specs.Files.{contents}
use Rattle.lu_dir.specs.Loading.{IsLoadable, first_over, texts}
use Rattle.lu_dir.specs.InnerLoading.{AreLoaded, AreOnly}
use Rattle.lu_dir.proofs.Named.{AreLoaded-found, All-loadable}
use Rattle.lu_dir.proofs.Loads.{AreLoaded-next, AreOnly-next, HaveAtMost-next, first_over-next, first_over-here, texts-all, IsErrOf-same}
use Rattle.lu_dir.proofs.loading.load.Goals as goal

pub loop-place-init : goal.loop-place-init
loop-place-init g c =
    let none = λ (name : List ℕ). ap (λ files. contents files name) c.new-files.ensures ∙ get-empty (slice_cmp nat_cmp) name in
    record {
      loaded = λ told _ name. none name;
      only = λ name _. none name;
      within = λ name. subst (λ (there : Option (List ℕ)). IfSome there (λ bytes. length bytes ≤ c.args.limit)) (sym (none name)) tt;
      fits = search rules;
      files = search rules;
      asked = search rules;
      later = omega arith;
    }

pub loop-place-preserved : goal.loop-place-preserved
loop-place-preserved g c =
    let names = c.args.names.now in
    let place = c.loop-place.place in
    let text = c.index-names-place.result in
    let within : place < length names = omega arith in
    let same = c.as_str-in-Ok.ensures.value ∙ sym c.as_str.ensures.value in
    record {
      loaded = λ told is. AreLoaded-next told names place text c.as_str-in-Ok.result.now c.loop-place.files c.put_found.new.self (option_map items_of c.in-Ok.found)
          within c.index-names-place.is c.as_str-in-Ok.ensures.value c.in_ok-put_found-in-Ok.ensures (c.loop-place.invariant.loaded told is)
          (c.in-Ok.ensures.found told (c.loop-place.invariant.files ∙ is) ∙ ap (contents told) (sym same));
      only = AreOnly-next names place text c.as_str-in-Ok.result.now c.loop-place.files c.put_found.new.self (option_map items_of c.in-Ok.found)
          within c.index-names-place.is c.as_str-in-Ok.ensures.value c.in_ok-put_found-in-Ok.ensures c.loop-place.invariant.only;
      within = HaveAtMost-next c.args.limit c.as_str-in-Ok.result.now c.loop-place.files c.put_found.new.self c.in-Ok.found
          c.in_ok-put_found-in-Ok.ensures c.loop-place.invariant.within c.in-Ok.ensures.within;
      fits = λ told is. first_over-next told c.args.limit names place text c.as_str.result.now within c.index-names-place.is c.as_str.ensures.value
          (c.loop-place.invariant.fits told is) (c.in-Ok.ensures.fits told (c.loop-place.invariant.files ∙ is));
      files = c.in-Ok.ensures.files ∙ c.loop-place.invariant.files;
      asked = c.in-Ok.ensures.asked ∙ c.loop-place.invariant.asked;
      later = omega (arith, c.in-Ok.ensures.cause.later);
    }

pub returns-in-Err-clause-over : goal.returns-in-Err-clause-over
returns-in-Err-clause-over g c = λ place is.
    let over = c.in-Err.ensures.over place (IsErrOf-same c.in-Err.fault (TooLarge place) is) in
    let within : c.loop-place.place < length c.args.names.now = omega arith in (
      omega (arith, over.0),
      λ told shown. first_over-here told c.args.limit c.args.names.now c.loop-place.place c.index-names-place.result c.as_str.result.now within c.index-names-place.is c.as_str.ensures.value
          (c.loop-place.invariant.fits told shown) (over.1 told (c.loop-place.invariant.files ∙ shown)) ∙ ap Some (sym over.0),
    )

pub beside-requires : goal.beside-requires
beside-requires g c = subst (λ (names : List (List ℕ)). AreOnly names c.loop-place.files) (texts-all c.args.names.now c.loop-place.place c.loop-place-test.false) c.loop-place.invariant.only

pub returns-clause-loaded : goal.returns-clause-loaded
returns-clause-loaded g c = λ told is.
    c.in_ok-beside.ensures.found
    ∙ AreLoaded-found told c.loop-place.files (texts c.args.names.now)
    (subst (λ (names : List (List ℕ)). AreLoaded told names c.loop-place.files) (texts-all c.args.names.now c.loop-place.place c.loop-place-test.false) (c.loop-place.invariant.loaded told is))

pub returns-clause-each : goal.returns-clause-each
returns-clause-each g c =
    subst (λ (found : List (Option (List ℕ))). All (IsLoadable c.args.limit) found) (sym c.in_ok-beside.ensures.found)
    (All-loadable c.args.limit c.loop-place.files (texts c.args.names.now) c.in_ok-beside.ensures.bytes c.loop-place.invariant.within)

pub returns-clause-fits : goal.returns-clause-fits
returns-clause-fits g c = λ told is.
    ap (first_over told c.args.limit) (sym (texts-all c.args.names.now c.loop-place.place c.loop-place-test.false)) ∙ c.loop-place.invariant.fits told is
