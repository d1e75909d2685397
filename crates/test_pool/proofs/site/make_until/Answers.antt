use Rattle.std.proofs.Common.{ℕ, List, sym, ◌∙◌, subst}
use Rattle.std.specs.Str.{bytes_eq}
use Rattle.st_rack.specs.Device.{Path}
use Rattle.st_memrack.specs.MemRack.{mem_devs, mem_moment, mem_state_at, mem_reads}
use Rattle.st_pool.specs.Makes.{MayTake}
use Rattle.test_pool.proofs.Two.{moved}
use Rattle.test_pool.proofs.site.make_until.Goals as goal

pub blank-requires : goal.blank-requires
blank-requires c = (λ i. bytes_eq (sym c.bytes.ensures.value i) (sym c.bytes-2.ensures.value i)) ∙ sym c.eq.ensures ∙ c.if-eq.false

pub make-requires : goal.make-requires
make-requires c =
    let r0 = c.in_ok-rack.rack in
    let r1 = c.set_stops.new.rack in
    let r2 = c.pick.new.self in
    let r3 = c.mark.new.self in
    let one = moved mem_devs mem_moment mem_state_at mem_reads _ r0 r1 c.set_stops.ensures c.in_ok-rack.ensures in
    let two = moved mem_devs mem_moment mem_state_at mem_reads _ r1 r2 c.pick.ensures.same one in
    let three = moved mem_devs mem_moment mem_state_at mem_reads _ r2 r3 c.mark.ensures.same two in
    record { may = subst (λ (x : ℕ × List Path). MayTake x.0 x.1 (mem_devs r3) (mem_state_at r3 (mem_moment r3))) (λ i. (sym c.of.ensures i, sym c.in_ok-devs.ensures i)) three }
