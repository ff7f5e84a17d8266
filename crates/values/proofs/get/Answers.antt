-- A variable is read from the globals, or from the temporaries. Assumes nothing.
use Rattle.runs.proofs.Variables.{get_global, get_other}
use Rattle.values.proofs.get.Goals as goal

pub returns-then-i-globals : goal.returns-then-i-globals
returns-then-i-globals c = get_global _ _ c.from-i.ensures c.if-i-globals.true

pub returns : goal.returns
returns c = get_other _ _ c.from-i.ensures c.if-i-globals.false
