-- `Refusals::new` has the tests that refuse each byte: one computed comparison. Assumes nothing.
use mathlib.Core.Path.{refl}
use Rattle.ops.specs.Rows.{test_ok}
use Rattle.memory.specs.Access.{flags_ok}
use Rattle.block.specs.Scan.{byte_ok, refusals_of}
use Rattle.rules.proofs.refusals.Refusals.new.Goals as goal

pub invariant_of-result : goal.invariant_of-result
unfolding refusals_of byte_ok test_ok flags_ok
invariant_of-result c = record { is_table = refl }
