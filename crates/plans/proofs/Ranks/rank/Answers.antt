-- A row is the rank of its kind. Assumes nothing.
use native.Mathlib.Omega.{arith}
use Rattle.ops.proofs.Plans.{rank_in}
use Rattle.plans.proofs.Ranks.rank.Goals as goal

pub returns : goal.returns
returns c = rank_in c.args.kind (omega arith) c.rank_in.ensures c.args.self.now.is_table
