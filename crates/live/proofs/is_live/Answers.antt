-- The later of the two events is told by a comparison. Assumes nothing.
use native.Mathlib.Omega.{arith}
use Rattle.passes.proofs.Events.{live_all_lem, live_own}
use Rattle.live.proofs.is_live.Goals as goal

pub returns-then-own-all : goal.returns-then-own-all
returns-then-own-all c = live_all_lem c.args.events.now c.args.floors.now c.args.classes.now c.args.v (omega arith) c.if-own-all.true

pub returns : goal.returns
returns c = live_own c.args.events.now c.args.floors.now c.args.classes.now c.args.v (omega arith) c.if-own-all.false
