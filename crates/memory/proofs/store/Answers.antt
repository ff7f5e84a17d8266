-- A store: why it fails, where nothing changes, and what it leaves. Assumes nothing.
use Rattle.memory.proofs.Faults.{room, store_leaves}
use Rattle.memory.proofs.store.Goals as goal

pub write-requires : goal.write-requires
write-requires c = room c.args.flags c.args.address c.args.m.now c.in_ok-permit.ensures

pub returns : goal.returns
returns c = store_leaves c.args.flags c.args.address c.args.m.now c.in_ok-permit.ensures c.args.value c.write.ensures
