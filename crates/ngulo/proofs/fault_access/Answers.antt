-- The flags, 256 for a store, and 65536 times the number of the reason. Assumes nothing.
use native.Mathlib.Omega.{arith}
use Rattle.ngulo.proofs.Small.{access_store, access_load, reason_small}
use Rattle.ngulo.proofs.fault_access.Goals as goal

pub overflow_mul-told : goal.overflow_mul-told
overflow_mul-told c = omega (arith, reason_small c.args.reason c.from-2.ensures)

pub overflow_add-told : goal.overflow_add-told
overflow_add-told c = omega (arith, reason_small c.args.reason c.from-2.ensures)

pub overflow_add-result : goal.overflow_add-result
overflow_add-result c = omega (arith, reason_small c.args.reason c.from-2.ensures)

pub returns-then-store : goal.returns-then-store
returns-then-store c = let s = c in access_store s.args.reason c.from.ensures c.from-2.ensures c.if-store.true

pub returns : goal.returns
returns c = let s = c in access_load s.args.reason c.from.ensures c.from-2.ensures c.if-store.false
