-- The roles as the code has them. Assumes nothing.
use Rattle.std.specs.Prelude.{ℕ, get_or}
use Rattle.ops.specs.Rows.{Role, roles, unknown, declares, sets_label, jumps_to, exits, branches, loads, stores, constant, computing}
use Rattle.ops.specs.declared.Role.{Role as Code}
use Rattle.ops.specs.declared.Role.TheVariants.{Unknown, Declares, SetsLabel, JumpsTo, Exits, Branches, Loads, Stores, Constant, Computing}

-- the role of a number, r for any that is none
abbrev pub role_or : ℕ → Role → Role
role_or n r = get_or roles n r

abbrev pub role_meant : Code → Role
role_meant Unknown = unknown
role_meant Declares = declares
role_meant SetsLabel = sets_label
role_meant JumpsTo = jumps_to
role_meant Exits = exits
role_meant Branches = branches
role_meant Loads = loads
role_meant Stores = stores
role_meant Constant = constant
role_meant Computing = computing
