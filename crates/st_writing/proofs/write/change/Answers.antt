use Rattle.std.proofs.Common.{rules, ◌≡◌, ◌∙◌, ℕ, List, Result, Ok, Err, OnOk, map, ap, arith}
use Rattle.st_model.specs.declared.state.FsState.{FsState}
use Rattle.st_model.specs.declared.state.PoolState.{PoolState}
use Rattle.st_model.specs.Content.{Stretch}
use Rattle.st_model.specs.Merged.{with_filesystems}
use Rattle.st_model.specs.steps.FsWrite.{bytes_in, with_map}
use Rattle.st_writing.specs.declared.carried.Carried.{Carried}
use Rattle.st_writing.specs.inner.Carry.{begins, carried}
use Rattle.st_writing.specs.inner.Plans.{taking}
use Rattle.st_writing.proofs.Puts.{counts_stay, finished_so}
use Rattle.st_writing.proofs.write.change.Goals as goal

on_ok_so : {X E : Type 0} (r : Result X E) (P Q : Type 0) → OnOk r P → (P → Q) → OnOk r Q
on_ok_so (Ok x) P Q h f = f h
on_ok_so (Err e) P Q h f = tt

done_so : (p : PoolState) (fs : FsState) (l ss : List Stretch) (b bytes : List ℕ) (from d : Carried) → d ≡ carried p fs l b from → l ≡ ss → b ≡ bytes → from ≡ begins p fs → d ≡ carried p fs ss bytes (begins p fs)
done_so p fs l ss b bytes from d put stretches same begun =
    put
    ∙ ap (λ (x : List Stretch). carried p fs x b from) stretches
    ∙ ap (λ (x : List ℕ). carried p fs ss x from) same
    ∙ ap (λ (x : Carried). carried p fs ss bytes x) begun

pub finish-requires-clause-cell : goal.finish-requires-clause-cell
finish-requires-clause-cell c =
    let p = c.args.pool.now in
    let fs = c.args.fs.now in
    let stretches : c.items-2.result.now ≡ c.args.plan.now.stretches = search rules in
    let bytes : c.items-3.result.now ≡ bytes_in c.args.payload.now = search rules in
    let put : c.put_all.new.done ≡ carried p fs c.items-2.result.now c.items-3.result.now c.args.carried.now = search rules in
    let done : c.put_all.new.done ≡ carried p fs c.args.plan.now.stretches (bytes_in c.args.payload.now) (begins p fs) =
    done_so p fs c.items-2.result.now c.args.plan.now.stretches c.items-3.result.now (bytes_in c.args.payload.now) c.args.carried.now c.put_all.new.done put stretches bytes c.requires.begins in
    let counts = counts_stay p fs c.args.plan.now.stretches (bytes_in c.args.payload.now) in
    let cell : c.put_all.new.done.pool.next_cell ≡ p.next_cell = ap (λ (x : Carried). x.pool.next_cell) done ∙ counts.0 in
    omega (arith, cell, c.requires.cells, c.requires.needed)

pub finish-requires-clause-commits : goal.finish-requires-clause-commits
finish-requires-clause-commits c =
    let p = c.args.pool.now in
    let fs = c.args.fs.now in
    let stretches : c.items-2.result.now ≡ c.args.plan.now.stretches = search rules in
    let bytes : c.items-3.result.now ≡ bytes_in c.args.payload.now = search rules in
    let put : c.put_all.new.done ≡ carried p fs c.items-2.result.now c.items-3.result.now c.args.carried.now = search rules in
    let done : c.put_all.new.done ≡ carried p fs c.args.plan.now.stretches (bytes_in c.args.payload.now) (begins p fs) =
    done_so p fs c.items-2.result.now c.args.plan.now.stretches c.items-3.result.now (bytes_in c.args.payload.now) c.args.carried.now c.put_all.new.done put stretches bytes c.requires.begins in
    let counts = counts_stay p fs c.args.plan.now.stretches (bytes_in c.args.payload.now) in
    let same : c.put_all.new.done.pool.commits ≡ p.commits = ap (λ (x : Carried). x.pool.commits) done ∙ counts.1 in
    omega (arith, same, c.requires.commits)

pub returns : goal.returns
returns c =
    let p = c.args.pool.now in
    let fs = c.args.fs.now in
    let stretches : c.items-2.result.now ≡ c.args.plan.now.stretches = search rules in
    let bytes : c.items-3.result.now ≡ bytes_in c.args.payload.now = search rules in
    let put : c.put_all.new.done ≡ carried p fs c.items-2.result.now c.items-3.result.now c.args.carried.now = search rules in
    let done : c.put_all.new.done ≡ carried p fs c.args.plan.now.stretches (bytes_in c.args.payload.now) (begins p fs) =
    done_so p fs c.items-2.result.now c.args.plan.now.stretches c.items-3.result.now (bytes_in c.args.payload.now) c.args.carried.now c.put_all.new.done put stretches bytes c.requires.begins in
    let fss : c.items-4.result.now ≡ p.filesystems = search rules in
    on_ok_so c.finish.result _ _ c.finish.ensures (λ e.
    e
    ∙ ap (λ (l : List FsState). with_filesystems (map (with_map fs.row.serial c.put_all.new.done.map) l) (taking c.args.plan.now.needed c.put_all.new.done.pool)) fss
    ∙ ap (λ (x : Carried). with_filesystems (map (with_map fs.row.serial x.map) p.filesystems) (taking c.args.plan.now.needed x.pool)) done
    ∙ finished_so p fs c.args.plan.now.stretches (bytes_in c.args.payload.now) c.args.plan.now.needed)
