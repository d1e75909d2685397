use Rattle.std.proofs.Common.{rules, ◌≡◌, ◌<◌, ◌^◌, ◌++◌, List, true, Some, None, OnErr, Result, Ok, Err, slice_set, sym, ap, ◌∙◌, subst}
use Rattle.std.specs.List.{position}
use Rattle.st_units.specs.declared.rows.DevRow.{DevRow}
use Rattle.st_model.specs.declared.reply.Reply.{Reply}
use Rattle.st_model.specs.declared.state.PoolState.{PoolState}
use Rattle.st_model.specs.declared.reply.Given.TheVariants.{Added}
use Rattle.st_model.specs.Answer.{accepted, first_answer}
use Rattle.st_model.specs.Checks.{rows_on}
use Rattle.st_model.specs.Look.{Text, is_called}
use Rattle.st_model.specs.Parts.{pool_at}
use Rattle.st_model.specs.Sums.{AreSmall}
use Rattle.st_model.specs.steps.AddDevices.{add_answers, on_devices, with_devices}
use Rattle.st_step.specs.Adding.{adding_of}
use Rattle.st_step.proofs.AddingSo.{added_so, answered_so, fits_after, new_of, place_found, place_none, unknown_so}
use Rattle.st_step.proofs.AtPlace.{put_back}
use Rattle.st_step.proofs.add_devices.add_devices.Goals as goal

pub returns-in_default-clause-ok : goal.returns-in_default-clause-ok
returns-in_default-clause-ok c =
    let pools = c.args.state.now.pools in
    let none : position (is_called c.args.name.now) pools ≡ None = ap (λ (l : List PoolState). position (is_called c.args.name.now) l) (sym c.items.ensures) ∙ (sym c.place_of.ensures ∙ c.in_default.is) in
    ap (λ (r : Reply). (r, c.args.state.now)) c.refused.ensures ∙ unknown_so c.args.adding c.args.state.now c.args.name.now c.args.devices.now (place_none c.args.name.now pools none)

pub returns-in-Some-2-clause-ok : goal.returns-in-Some-2-clause-ok
returns-in-Some-2-clause-ok c =
    let pools = c.args.state.now.pools in
    let p = c.at-pool.result.now in
    let there : position (is_called c.args.name.now) pools ≡ Some c.in-Some.place = ap (λ (l : List PoolState). position (is_called c.args.name.now) l) (sym c.items.ensures) ∙ (sym c.place_of.ensures ∙ c.in-Some.is) in
    let at : pool_at c.args.name.now pools ≡ Some p = place_found c.args.name.now pools c.in-Some.place p there c.at-pool.ensures in
    let new : c.in_ok-new.new ≡ new_of c.args.adding c.args.devices.now p = search rules in
    let said : first_answer (add_answers (adding_of c.args.adding) c.args.state.now c.args.devices.now c.in_ok-new.new p) ≡ Some c.in-Some-2.reply = search rules in
    answered_so c.args.adding c.args.state.now c.args.name.now c.args.devices.now p c.in-Some-2.reply at
    (subst (λ (l : List Text). first_answer (add_answers (adding_of c.args.adding) c.args.state.now c.args.devices.now l p) ≡ Some c.in-Some-2.reply) new said)

pub take_devices-requires-clause-small : goal.take_devices-requires-clause-small
take_devices-requires-clause-small c =
    let pools = c.args.state.now.pools in
    let p = c.at-pool.result.now in
    let there : position (is_called c.args.name.now) pools ≡ Some c.in-Some.place = ap (λ (l : List PoolState). position (is_called c.args.name.now) l) (sym c.items.ensures) ∙ (sym c.place_of.ensures ∙ c.in-Some.is) in
    let at : pool_at c.args.name.now pools ≡ Some p = place_found c.args.name.now pools c.in-Some.place p there c.at-pool.ensures in
    let new : c.in_ok-new.new ≡ new_of c.args.adding c.args.devices.now p = search rules in
    let said : first_answer (add_answers (adding_of c.args.adding) c.args.state.now c.args.devices.now c.in_ok-new.new p) ≡ None = search rules in
    let rows : c.in_ok-rows.rows ≡ rows_on (adding_of c.args.adding).tier c.args.state.now.devices c.in_ok-new.new = search rules in
    let same : c.at_mut.result.now ≡ p = (let e : Some c.at_mut.result.now ≡ Some p = sym c.at_mut.ensures.value ∙ c.at-pool.ensures in cc) in
    let fits = fits_after c.args.adding c.args.state.now c.args.name.now c.args.devices.now p c.requires at
    (subst (λ (l : List Text). first_answer (add_answers (adding_of c.args.adding) c.args.state.now c.args.devices.now l p) ≡ None) new said) in
    subst (λ (q : PoolState). AreSmall (q.devices ++ c.in_ok-rows.rows)) (sym same)
    (subst (λ (l : List DevRow). AreSmall (p.devices ++ l)) (sym (rows ∙ ap (rows_on (adding_of c.args.adding).tier c.args.state.now.devices) new)) fits.small)

pub take_devices-requires-clause-room : goal.take_devices-requires-clause-room
take_devices-requires-clause-room c =
    let pools = c.args.state.now.pools in
    let p = c.at-pool.result.now in
    let there : position (is_called c.args.name.now) pools ≡ Some c.in-Some.place = ap (λ (l : List PoolState). position (is_called c.args.name.now) l) (sym c.items.ensures) ∙ (sym c.place_of.ensures ∙ c.in-Some.is) in
    let at : pool_at c.args.name.now pools ≡ Some p = place_found c.args.name.now pools c.in-Some.place p there c.at-pool.ensures in
    let new : c.in_ok-new.new ≡ new_of c.args.adding c.args.devices.now p = search rules in
    let said : first_answer (add_answers (adding_of c.args.adding) c.args.state.now c.args.devices.now c.in_ok-new.new p) ≡ None = search rules in
    let none : first_answer (add_answers (adding_of c.args.adding) c.args.state.now c.args.devices.now (new_of c.args.adding c.args.devices.now p) p) ≡ None =
    subst (λ (l : List Text). first_answer (add_answers (adding_of c.args.adding) c.args.state.now c.args.devices.now l p) ≡ None) new said in
    let same : c.at_mut.result.now ≡ p = (let e : Some c.at_mut.result.now ≡ Some p = sym c.at_mut.ensures.value ∙ c.at-pool.ensures in cc) in
    subst (λ (q : PoolState). q.commits < 2 ^ 48) (sym same) (fits_after c.args.adding c.args.state.now c.args.name.now c.args.devices.now p c.requires at none).commits

on_err : {X E : Type 0} (r : Result X E) (P : Type 0) → P → OnErr r P
on_err (Ok x) P h = tt
on_err (Err e) P h = h

pub returns-in_err-take_devices-clause-err : goal.returns-in_err-take_devices-clause-err
returns-in_err-take_devices-clause-err c =
    let pools = c.args.state.now.pools in
    let kept : c.take_devices.new.pool ≡ c.at_mut.result.now = search rules in
    let back : slice_set pools c.in-Some.place c.take_devices.new.pool ≡ pools = ap (slice_set pools c.in-Some.place) kept ∙ put_back pools c.in-Some.place c.at_mut.result.now c.at_mut.ensures.value in
    on_err _ _ (ap (λ (ps : List PoolState). record c.args.state.now { pools = ps }) back)

pub returns-clause-ok : goal.returns-clause-ok
returns-clause-ok c =
    let pools = c.args.state.now.pools in
    let p = c.at-pool.result.now in
    let there : position (is_called c.args.name.now) pools ≡ Some c.in-Some.place = ap (λ (l : List PoolState). position (is_called c.args.name.now) l) (sym c.items.ensures) ∙ (sym c.place_of.ensures ∙ c.in-Some.is) in
    let at : pool_at c.args.name.now pools ≡ Some p = place_found c.args.name.now pools c.in-Some.place p there c.at-pool.ensures in
    let new : c.in_ok-new.new ≡ new_of c.args.adding c.args.devices.now p = search rules in
    let said : first_answer (add_answers (adding_of c.args.adding) c.args.state.now c.args.devices.now c.in_ok-new.new p) ≡ None = search rules in
    let none : first_answer (add_answers (adding_of c.args.adding) c.args.state.now c.args.devices.now (new_of c.args.adding c.args.devices.now p) p) ≡ None =
    subst (λ (l : List Text). first_answer (add_answers (adding_of c.args.adding) c.args.state.now c.args.devices.now l p) ≡ None) new said in
    let same : c.at_mut.result.now ≡ p = (let e : Some c.at_mut.result.now ≡ Some p = sym c.at_mut.ensures.value ∙ c.at-pool.ensures in cc) in
    let rows : c.in_ok-rows.rows ≡ rows_on (adding_of c.args.adding).tier c.args.state.now.devices c.in_ok-new.new = search rules in
    let after : c.take_devices.new.pool ≡ on_devices (adding_of c.args.adding) (c.at_mut.result.now.devices ++ c.in_ok-rows.rows) c.at_mut.result.now = search rules in
    let done : c.take_devices.new.pool ≡ with_devices (adding_of c.args.adding) c.args.state.now.devices (new_of c.args.adding c.args.devices.now p) p =
    after
    ∙ ap (λ (q : PoolState). on_devices (adding_of c.args.adding) (q.devices ++ c.in_ok-rows.rows) q) same
    ∙ ap (λ (l : List DevRow). on_devices (adding_of c.args.adding) (p.devices ++ l) p) (rows ∙ ap (rows_on (adding_of c.args.adding).tier c.args.state.now.devices) new) in
    let reply : c.accepted.result ≡ accepted (Added true (new_of c.args.adding c.args.devices.now p)) = c.accepted.ensures ∙ ap (λ (l : List Text). accepted (Added true l)) new in
    ap (λ (r : Reply). (r, record c.args.state.now { pools = slice_set pools c.in-Some.place c.take_devices.new.pool })) reply
    ∙ ap (λ (q : PoolState). (accepted (Added true (new_of c.args.adding c.args.devices.now p)), record c.args.state.now { pools = slice_set pools c.in-Some.place q })) done
    ∙ added_so c.args.adding c.args.state.now c.args.name.now c.args.devices.now c.in-Some.place p c.requires c.at-pool.ensures at none
