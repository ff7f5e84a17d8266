-- `other_step` does what the op at the place does, by its kind. Assumes nothing.
use mathlib.Core.Path.{ap}
use native.Mathlib.Omega.{arith}
use borrow.Author.Rules.{rules}
use Rattle.ops.specs.Rows.{sets_label, branches, loads, stores, constant, body_of}
use Rattle.ops.proofs.Table.{row_of_lem}
use Rattle.block.proofs.Views.{inside, branch_view_lem, load_view_lem, store_view_lem, constant_view_lem}
use Rattle.runs.proofs.Dispatch.{constant_kinds, load_kinds, store_kinds, branch_kinds, label_kind, jump_kind, exit_kind, plain_else, no_op_lem, next_is}
use Rattle.runs.specs.Evaluates.{env_of}
use Rattle.runs.proofs.Performed.{step_label, step_jumps, step_exits, step_none}
use Rattle.step.proofs.other_step.Goals as goal

pub constant_step-requires : goal.constant_step-requires
constant_step-requires c = omega (arith, inside c.requires.0 (constant_kinds c.in-16.is) 9 (omega arith))

pub load_step-requires : goal.load_step-requires
load_step-requires c = inside c.requires.0 (load_kinds c.in-43.is) 3 (omega arith)

pub store_step-requires : goal.store_step-requires
store_step-requires c = inside c.requires.0 (store_kinds c.in-44.is) 3 (omega arith)

pub branch_step-requires : goal.branch_step-requires
branch_step-requires c = inside c.requires.0 (branch_kinds c.in-42.is) 4 (omega arith)

pub bounds-block-at : goal.bounds-block-at
bounds-block-at c = inside c.requires.0 (jump_kind c.in-3.is) 1 (omega arith)

pub bounds-block-at-in-4 : goal.bounds-block-at-in-4
bounds-block-at-in-4 c = inside c.requires.0 (exit_kind c.in-4.is) 1 (omega arith)

pub returns-in-16 : goal.returns-in-16
returns-in-16 c =
    let start = c in
    let role = constant_kinds c.in-16.is in
    rw (constant_view_lem start.requires.0 role, ← next_is start.requires.0 9 (ap body_of (row_of_lem constant start.args.kind role)))
    (c.constant_step.ensures.under start.args.memory.now)

pub returns-in-43 : goal.returns-in-43
returns-in-43 c =
    let start = c in
    let role = load_kinds c.in-43.is in
    rw
    (load_view_lem start.requires.0 role, ← c.is_wide.ensures, ← next_is start.requires.0 3 (ap body_of (row_of_lem loads start.args.kind role)))
    c.load_step.ensures

pub returns-in-44 : goal.returns-in-44
returns-in-44 c =
    let start = c in
    let role = store_kinds c.in-44.is in
    rw (store_view_lem start.requires.0 role, ← next_is start.requires.0 3 (ap body_of (row_of_lem stores start.args.kind role))) c.store_step.ensures

pub returns-in-42 : goal.returns-in-42
returns-in-42 c =
    let start = c in
    let role = branch_kinds c.in-42.is in
    rw
    (branch_view_lem start.requires.0 role, ← c.is_wide-in-42.ensures, ← next_is start.requires.0 4 (ap body_of (row_of_lem branches start.args.kind role)))
    (c.branch_step.ensures.under start.args.memory.now)

pub returns-in-2 : goal.returns-in-2
returns-in-2 c =
    let start = c in
    let role = label_kind c.in-2.is in
    step_label start.requires.0 _ _ role (next_is start.requires.0 1 (ap body_of (row_of_lem sets_label start.args.kind role)))

pub returns-in-3 : goal.returns-in-3
returns-in-3 c = step_jumps c.requires.0 _ _ (jump_kind c.in-3.is)

pub returns-in-4 : goal.returns-in-4
returns-in-4 c =
    let start = c in
    step_exits start.requires.0 (env_of start.args.globals.now start.args.temps.now) _ (exit_kind c.in-4.is) c.get.ensures

pub returns-in_default : goal.returns-in_default
returns-in_default c =
    let start = c in
    (step_none start.requires.0 (env_of start.args.globals.now start.args.temps.now)
    (no_op_lem start.args.kind (plain_else start.args.kind (search rules) c.in_default.in_default-own.rest) start.requires.1)).under start.args.memory.now
