-- What code over any table asks of it. Assumes nothing.
use Rattle.std.specs.Prelude.{◌≡◌, true, ◌||◌, List, [], ℕ, ◌≤◌, ◌<◌}
use Rattle.ops.specs.Limits.{label_count}
use Rattle.ops.specs.Rows.{sets_label, declares, exits, branches, Table, is_setting, is_jumping, role_of, body_length, test_ok, asks_for}
use Rattle.ops.specs.Fields.{row_at, rest_by, label_by}

pub record LawfulTable (T : Table) : Type 0 where
  -- kind 01 declares, and has two bytes, a class and a type; kind 04 exits
  pub declaring : role_of T 0x01 ≡ declares
  pub declared_body : body_length T 0x01 ≡ 2
  pub exiting : role_of T 0x04 ≡ exits
  -- an op that sets a label reads nothing, a branch writes nothing; the test of an op that sets a label or may jump to one asks that it be below the limit
  pub label_reads : (k : ℕ) → role_of T k ≡ sets_label → (T k).ins ≡ []
  pub branch_writes : (k : ℕ) → role_of T k ≡ branches → (T k).outs ≡ []
  pub label_low : (r : List ℕ) → (is_setting (row_at T r).role || is_jumping (row_at T r).role) ≡ true → test_ok (row_at T r).test (rest_by (row_at T r) r) ≡ true
      → label_by (row_at T r) r < label_count
  -- a test asks for no more bytes than follow the operands, and no body is longer than nine bytes
  pub asks_few : (k : ℕ) → asks_for (T k).test ≤ (T k).rest
  pub body_short : (k : ℕ) → body_length T k ≤ 9
