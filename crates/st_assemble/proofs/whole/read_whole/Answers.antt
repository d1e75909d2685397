use Rattle.std.proofs.Common.{◌≡◌, ℕ, Bool, true, false, List, Option, Some, None, length, refl, sym, ◌∙◌, ap, subst}
use Rattle.st_units.specs.declared.rows.DevRow.{DevRow}
use Rattle.st_seg.specs.Blocks.{blocks_of}
use Rattle.st_flexlog.specs.declared.state.FlexState.{FlexState}
use Rattle.st_flexlog.specs.declared.state.Mapping.{Mapping}
use Rattle.st_deltalog.specs.declared.area.FlexArea.{FlexArea}
use Rattle.st_deltalog.specs.declared.area.Tail.{Tail}
use Rattle.st_flexat.specs.FlexAt.{IsFlexAt, FlexFound}
use Rattle.st_rack.specs.Device.{Path, held}
use Rattle.st_slots.specs.Places.{Lies}
use Rattle.st_image.specs.Looks.{flex_area}
use Rattle.st_image.specs.Bears.{HasRow, first_of, path_in}
use Rattle.st_judge.specs.declared.rows.FoundRow.{FoundRow}
use Rattle.st_assemble.specs.inner.Told.{IsKnownRow}
use Rattle.st_assemble.specs.inner.Places.{have_places}
use Rattle.st_assemble.proofs.Rows.{all_at}
use Rattle.st_assemble.proofs.Logs.{area_lies, log_said, whole_known, no_log, other_version, other_places, same_is, differ_is}
use Rattle.st_assemble.proofs.whole.read_whole.Goals as goal

pub flex_at-requires : goal.flex_at-requires
flex_at-requires g c =
    let p = c.args.serial in
    let g0 = c.args.generation in
    let rec = c.args.rec in
    let devs = g.R.Rack.devs c.args.rack.now in
    let image = held (g.R.Rack.state_at c.args.rack.now (g.R.Rack.moment c.args.rack.now)) in
    let has : HasRow p devs image c.at.result.now = all_at (HasRow p devs image) rec.devs 0 c.at.result.now c.requires.here.rows c.at.ensures in
    subst (λ (fa : FlexArea). Lies devs c.at.result.now.path fa.area) (sym c.flex_area.ensures) (area_lies p devs image c.at.result.now c.requires.rises has)

pub returns-in-None-clause-whole : goal.returns-in-None-clause-whole
returns-in-None-clause-whole g c =
    let p = c.args.serial in
    let g0 = c.args.generation in
    let rec = c.args.rec in
    let devs = g.R.Rack.devs c.args.rack.now in
    let image = held (g.R.Rack.state_at c.args.rack.now (g.R.Rack.moment c.args.rack.now)) in
    let first : c.at.result.now.path ≡ first_of rec = sym (ap path_in c.at.ensures) in
    let said : IsFlexAt flex_area p g0 (image (first_of rec)) c.in_ok-read.read = log_said image c.flex_area.result c.number.result p g0 c.at.result.now.path (first_of rec) c.in_ok-read.read c.flex_area.ensures c.number.ensures.value first c.in_ok-read.ensures.found in
    no_log p devs image g0 rec c.requires.here (subst (λ (o : Option (FlexState × Tail)). IsFlexAt flex_area p g0 (image (first_of rec)) o) c.in-None.is said)

pub returns-then-not-is_same-clause-whole : goal.returns-then-not-is_same-clause-whole
returns-then-not-is_same-clause-whole g c =
    let p = c.args.serial in
    let g0 = c.args.generation in
    let rec = c.args.rec in
    let devs = g.R.Rack.devs c.args.rack.now in
    let image = held (g.R.Rack.state_at c.args.rack.now (g.R.Rack.moment c.args.rack.now)) in
    let first : c.at.result.now.path ≡ first_of rec = sym (ap path_in c.at.ensures) in
    let said : IsFlexAt flex_area p g0 (image (first_of rec)) c.in_ok-read.read = log_said image c.flex_area.result c.number.result p g0 c.at.result.now.path (first_of rec) c.in_ok-read.read c.flex_area.ensures c.number.ensures.value first c.in_ok-read.ensures.found in
    let tail = c.in-Some.field-0-1 in
    let one : FlexFound flex_area p g0 (image (first_of rec)) (c.in-Some.state, tail) = subst (λ (o : Option (FlexState × Tail)). IsFlexAt flex_area p g0 (image (first_of rec)) o) c.in-Some.is said in
    other_version p devs image g0 rec c.requires.here c.in-Some.state one.at (differ_is c.in-Some.state.version2 rec.version2 (sym c.is_same.ensures ∙ c.if-not-is_same.true))

pub returns-then-not-have_places-clause-whole : goal.returns-then-not-have_places-clause-whole
returns-then-not-have_places-clause-whole g c =
    let p = c.args.serial in
    let g0 = c.args.generation in
    let rec = c.args.rec in
    let devs = g.R.Rack.devs c.args.rack.now in
    let image = held (g.R.Rack.state_at c.args.rack.now (g.R.Rack.moment c.args.rack.now)) in
    let first : c.at.result.now.path ≡ first_of rec = sym (ap path_in c.at.ensures) in
    let said : IsFlexAt flex_area p g0 (image (first_of rec)) c.in_ok-read.read = log_said image c.flex_area.result c.number.result p g0 c.at.result.now.path (first_of rec) c.in_ok-read.read c.flex_area.ensures c.number.ensures.value first c.in_ok-read.ensures.found in
    let tail = c.in-Some.field-0-1 in
    let one : FlexFound flex_area p g0 (image (first_of rec)) (c.in-Some.state, tail) = subst (λ (o : Option (FlexState × Tail)). IsFlexAt flex_area p g0 (image (first_of rec)) o) c.in-Some.is said in
    let tested : have_places (length (blocks_of rec.segments)) c.in-Some.state.mappings ≡ c.have_places.result = sym (c.have_places.ensures ∙ (λ j. have_places (length (blocks_of rec.segments)) (c.items-mappings.ensures j))) in
    other_places p devs image g0 rec c.requires.here c.in-Some.state one.at (tested ∙ c.if-not-have_places.true)

pub returns-else-not-have_places-clause-whole : goal.returns-else-not-have_places-clause-whole
returns-else-not-have_places-clause-whole g c =
    let p = c.args.serial in
    let g0 = c.args.generation in
    let rec = c.args.rec in
    let devs = g.R.Rack.devs c.args.rack.now in
    let image = held (g.R.Rack.state_at c.args.rack.now (g.R.Rack.moment c.args.rack.now)) in
    let first : c.at.result.now.path ≡ first_of rec = sym (ap path_in c.at.ensures) in
    let said : IsFlexAt flex_area p g0 (image (first_of rec)) c.in_ok-read.read = log_said image c.flex_area.result c.number.result p g0 c.at.result.now.path (first_of rec) c.in_ok-read.read c.flex_area.ensures c.number.ensures.value first c.in_ok-read.ensures.found in
    let tail = c.in-Some.field-0-1 in
    let one : FlexFound flex_area p g0 (image (first_of rec)) (c.in-Some.state, tail) = subst (λ (o : Option (FlexState × Tail)). IsFlexAt flex_area p g0 (image (first_of rec)) o) c.in-Some.is said in
    let tested : have_places (length (blocks_of rec.segments)) c.in-Some.state.mappings ≡ c.have_places.result = sym (c.have_places.ensures ∙ (λ j. have_places (length (blocks_of rec.segments)) (c.items-mappings.ensures j))) in
    subst (λ (r : FoundRow). IsKnownRow p devs image r) (sym c.row_of.ensures) (whole_known p devs image g0 rec c.requires.here c.in-Some.state one.at (same_is c.in-Some.state.version2 rec.version2 (sym c.is_same.ensures ∙ c.if-not-is_same.false)) (tested ∙ c.if-not-have_places.false))
