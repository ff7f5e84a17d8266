-- A row is the length of its kind's record. Assumes nothing.
use native.Mathlib.Omega.{arith}
use Rattle.ops.proofs.Plans.{length_in_lem}
use Rattle.plans.proofs.Lengths.record_length.Goals as goal

pub returns : goal.returns
returns c = length_in_lem c.args.kind (omega arith) c.record_length.ensures c.args.self.now.is_table
