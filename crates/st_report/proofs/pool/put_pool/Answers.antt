use Rattle.st_report.specs.Pool.{pool_data}
use Rattle.st_json.proofs.Objects.{adds_close, adds_key, adds_member, adds_object}
use Rattle.st_report.proofs.pool.put_pool.Goals as goal

pub returns : goal.returns
unfolding pool_data
returns c =
    adds_object c.in_ok-open_object.ensures (
    adds_member c.in_ok-count_member.ensures (
    adds_member (adds_key c.in_ok-put_key.ensures c.in_ok-put_cache.ensures) (
    adds_member (adds_key c.in_ok-put_key-2.ensures (rw c.items.ensures at c.in_ok-put_devices.ensures)) (
    adds_member (adds_key c.in_ok-put_key-3.ensures (rw c.items-2.ensures at c.in_ok-put_filesystems.ensures)) (
    adds_member c.in_ok-count_member-2.ensures (
    adds_member c.in_ok-name_member.ensures (
    adds_member c.in_ok-bool_member.ensures (
    adds_member c.in_ok-count_member-3.ensures (
    adds_member c.in_ok-count_member-4.ensures (
    adds_member (adds_key c.in_ok-put_key-4.ensures c.in_ok-put_uuid.ensures) (
    adds_close c.in_ok-close_object.ensures)))))))))))
