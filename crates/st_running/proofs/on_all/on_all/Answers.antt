use Rattle.st_running.proofs.on_all.on_all.Goals as goal

pub returns-in-CreatePool : goal.returns-in-CreatePool
returns-in-CreatePool g c = rw c.in-CreatePool.is c.create.ensures.ran

pub returns-in-DestroyPool : goal.returns-in-DestroyPool
returns-in-DestroyPool g c = rw c.in-DestroyPool.is c.destroy.ensures.ran

pub returns-in-StopPool : goal.returns-in-StopPool
returns-in-StopPool g c = rw c.in-StopPool.is c.stop.ensures.ran

pub returns-in-StartPool : goal.returns-in-StartPool
returns-in-StartPool g c = rw c.in-StartPool.is c.start.ensures.ran

pub returns-in-RenamePool : goal.returns-in-RenamePool
returns-in-RenamePool g c = rw c.in-RenamePool.is c.rename.ensures.ran
