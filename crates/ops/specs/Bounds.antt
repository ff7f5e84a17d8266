-- What follows from the limits alone. Proved in proofs/Bounds.antt. Assumes nothing.
use Rattle.std.specs.Prelude.{◌≡◌, true, false, ◌+◌, ◌*◌, ◌^◌, ◌≤◌, ◌<◌}
use Rattle.ops.specs.Limits.{max_variables, max_ops, label_count, max_bytes}
use Rattle.ops.specs.Rows.{label_ok}

-- the numbers that the functions keep have room: a variable and a label in a byte; in 16 bits the place of an op, the number of a label, which is one
-- more than its op's, and the times of liveness, which start at 2 and go on by two at each op
pub record Fitting : Type 0 where
  pub variables : max_variables ≤ 2 ^ 8
  pub labels : label_count ≤ 2 ^ 8
  pub places : max_bytes < 2 ^ 16
  pub numbers : max_ops < 2 ^ 16
  pub times : 2 * max_ops + 2 < 2 ^ 16

-- "labels to 128 (0 to 127)"; "the result is then at most 10,840 bytes"
pub record AsAsked : Type 0 where
  pub last_label : label_ok 127 ≡ true
  pub no_label : label_ok 128 ≡ false
  pub size : max_bytes ≡ 10840
