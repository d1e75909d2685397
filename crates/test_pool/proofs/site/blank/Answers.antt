use Rattle.std.specs.List.{IsDistinct}
use Rattle.st_memrack.specs.MemRack.{mem_devs, mem_moment, mem_state_at, mem_reads}
use Rattle.test_pool.proofs.Two.{ok_blank}
use Rattle.test_pool.proofs.site.blank.Goals as goal

pub blank-requires : goal.blank-requires
unfolding IsDistinct
blank-requires c = ((c.requires, tt), (tt, tt))

pub returns : goal.returns
returns c = ok_blank c.args.first c.args.second c.requires mem_devs mem_moment mem_state_at mem_reads c.blank.result c.blank.ensures.blank
