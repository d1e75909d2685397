use Rattle.std.proofs.Common.{◌≡◌, OnOk, OnErr, subst, sym}
use Rattle.st_rack.specs.Device.{Settling, Synced}
use Rattle.st_rack.specs.Calls.{Devices, Rises}
use Rattle.st_rack.specs.Moments.{OnDevice}
use Rattle.st_shelf.proofs.Change.{goes}
use Rattle.st_sparse.specs.Sparse.{sparse_path, sparse_size, sparse_state, sparse_reads}
use Rattle.st_memrack.specs.Ends.{SyncEnds}
use Rattle.st_memrack.proofs.One.{rows_one, look_same, on_device}
use Rattle.st_memrack.proofs.Whole.{both_now}
use Rattle.st_memrack.proofs.Mem.{past_of, list_of, sync_settles}
use Rattle.st_memrack.proofs.memrack.MemRackRack.sync.Goals as goal

pub invariant_of-self : goal.invariant_of-self
invariant_of-self c =
    let rel = SyncEnds c.sync_on-result.result in
    record { rises = subst (λ (rows : Devices). Rises rows) (sym (rows_one sparse_path rel c.args.dev.now (list_of c.args.self.now) c.sync_on-result.new.devices.items c.sync_on-result.ensures.one sparse_size (λ a b r. r.size))) c.args.self.now.rises }

pub returns-clause-devs : goal.returns-clause-devs
returns-clause-devs c =
    let rel = SyncEnds c.sync_on-result.result in
    rows_one sparse_path rel c.args.dev.now (list_of c.args.self.now) c.sync_on-result.new.devices.items c.sync_on-result.ensures.one sparse_size (λ a b r. r.size)

pub returns-clause-synced : goal.returns-clause-synced
returns-clause-synced c =
    let result = c.sync_on-result.result in
    let dev = c.args.dev.now in
    let l = list_of c.args.self.now in
    let new = c.sync_on-result.new.devices.items in
    let change = on_device sparse_path (SyncEnds result) dev l new c.sync_on-result.ensures.one sparse_state (λ a b. OnOk result (Synced a b)) (λ a b r. r.synced) in
    both_now sparse_path sparse_state (past_of c.args.self.now) c.remember.new.past.value l new (λ a b. OnOk result (Synced (a dev) (b dev))) change.here

pub returns-clause-unsynced : goal.returns-clause-unsynced
returns-clause-unsynced c =
    let result = c.sync_on-result.result in
    let dev = c.args.dev.now in
    let l = list_of c.args.self.now in
    let new = c.sync_on-result.new.devices.items in
    let change = on_device sparse_path (SyncEnds result) dev l new c.sync_on-result.ensures.one sparse_state (λ a b. OnErr result (b ≡ a)) (λ a b r. r.unsynced) in
    both_now sparse_path sparse_state (past_of c.args.self.now) c.remember.new.past.value l new (λ a b. OnErr result (b dev ≡ a dev)) change.here

pub returns-clause-time : goal.returns-clause-time
returns-clause-time c =
    let result = c.sync_on-result.result in
    let dev = c.args.dev.now in
    let change = on_device sparse_path (SyncEnds result) dev (list_of c.args.self.now) c.sync_on-result.new.devices.items c.sync_on-result.ensures.one sparse_state Settling (λ a b r. sync_settles result a b r) in
    goes past_of list_of sparse_path sparse_size sparse_state c.args.self.now _ c.remember.ensures.depth c.remember.ensures.was (OnDevice dev Settling) change

pub returns-clause-reads : goal.returns-clause-reads
returns-clause-reads c =
    let rel = SyncEnds c.sync_on-result.result in
    λ k p. look_same sparse_path rel c.args.dev.now (list_of c.args.self.now) c.sync_on-result.new.devices.items c.sync_on-result.ensures.one sparse_reads 0 (λ a b r. r.reads) p k
