-- A load: why it fails, and what it gives with and without the sign. Assumes nothing.
use mathlib.Core.Path.{refl}
use Rattle.memory.specs.Answer.{access_width}
use Rattle.memory.proofs.Faults.{room, load_gives}
use Rattle.memory.proofs.load.Goals as goal

pub read-x-requires : goal.read-x-requires
read-x-requires c = room c.args.flags c.args.address c.args.m.now c.in_ok-permit.ensures

pub returns-then-sign_extends : goal.returns-then-sign_extends
returns-then-sign_extends c =
    load_gives c.args.flags c.args.address c.args.m.now c.in_ok-permit.ensures (access_width c.args.to64) c.read-x.ensures.value
    (rw (← c.sign_extends.ensures, c.if-sign_extends.true, ← c.size.ensures.value) c.extend.ensures)

pub returns : goal.returns
returns c =
    load_gives c.args.flags c.args.address c.args.m.now c.in_ok-permit.ensures (access_width c.args.to64) c.read-x.ensures.value
    (rw (← c.sign_extends.ensures, c.if-sign_extends.false) refl)
