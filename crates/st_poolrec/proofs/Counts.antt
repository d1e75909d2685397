-- The counts of a record fit their fields.
use Rattle.std.proofs.Common.{◌≡◌, ◌≤◌, Bool, true, false, ◌&&◌, leb, length, refl}
use Rattle.std.proofs.lemmas.Bool.{leb-true}
use Rattle.st_limits.specs.declared.TheConstants.{MAX_POOL_DEVICES}
use Rattle.st_poolrec.specs.declared.record.PoolRec.{PoolRec}
use Rattle.st_poolrec.specs.Conditions.{most_filesystems, rows_fit}
use Rattle.st_poolrec.specs.Record.{is_record}

and_first : (a b : Bool) → (a && b) ≡ true → a ≡ true
and_first true b h = refl
and_first false b h = h

and_rest : (a b : Bool) → (a && b) ≡ true → b ≡ true
and_rest true b h = h
and_rest false b h = absurd cc

pub devs_few : (rec : PoolRec) → is_record rec ≡ true → length rec.devs ≤ 16
devs_few rec h =
    let at_least = and_rest (leb rec.fs_limit (most_filesystems rec.version2)) (leb 1 (length rec.devs) && (leb (length rec.devs) MAX_POOL_DEVICES && (leb (length rec.segments) MAX_POOL_DEVICES && rows_fit rec.devs rec.segments))) h in
    let at_most = and_rest (leb 1 (length rec.devs)) (leb (length rec.devs) MAX_POOL_DEVICES && (leb (length rec.segments) MAX_POOL_DEVICES && rows_fit rec.devs rec.segments)) at_least in
    leb-true _ _ (and_first (leb (length rec.devs) MAX_POOL_DEVICES) (leb (length rec.segments) MAX_POOL_DEVICES && rows_fit rec.devs rec.segments) at_most)

pub segments_few : (rec : PoolRec) → is_record rec ≡ true → length rec.segments ≤ 16
segments_few rec h =
    let at_least = and_rest (leb rec.fs_limit (most_filesystems rec.version2)) (leb 1 (length rec.devs) && (leb (length rec.devs) MAX_POOL_DEVICES && (leb (length rec.segments) MAX_POOL_DEVICES && rows_fit rec.devs rec.segments))) h in
    let at_most = and_rest (leb 1 (length rec.devs)) (leb (length rec.devs) MAX_POOL_DEVICES && (leb (length rec.segments) MAX_POOL_DEVICES && rows_fit rec.devs rec.segments)) at_least in
    let segments = and_rest (leb (length rec.devs) MAX_POOL_DEVICES) (leb (length rec.segments) MAX_POOL_DEVICES && rows_fit rec.devs rec.segments) at_most in
    leb-true _ _ (and_first (leb (length rec.segments) MAX_POOL_DEVICES) (rows_fit rec.devs rec.segments) segments)
