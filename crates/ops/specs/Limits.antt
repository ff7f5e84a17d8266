-- The limits of a block. Assumes nothing.
use Rattle.std.specs.Prelude.{ℕ, ◌+◌, ◌*◌}

-- "Raise ops to 1,024, variables to 200 and labels to 128 (0 to 127)."; "memory above 65,536 bytes" is refused
abbrev pub max_variables : ℕ
max_variables = 200

abbrev pub max_ops : ℕ
max_ops = 1024

abbrev pub label_count : ℕ
label_count = 128

abbrev pub max_memory : ℕ
max_memory = 65536

-- "the result is then at most 10,840 bytes": a declaration has three bytes, the longest op, movi, ten
abbrev pub max_bytes : ℕ
max_bytes = 3 * max_variables + 10 * max_ops
