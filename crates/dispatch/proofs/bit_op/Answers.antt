-- The kinds 2d to 36 and ad to b6, each with code of its own. Assumes nothing.
use mathlib.Core.Path.{refl}
use Rattle.runs.proofs.Dispatch.{computed, computes_not}
use borrow.Author.Rules.{rules}
use Rattle.dispatch.proofs.bit_op.Goals as goal

pub compute_step-requires : goal.compute_step-requires
compute_step-requires c = computed c.requires.0 c.in-45.is refl

pub compute_step-requires-in-46 : goal.compute_step-requires-in-46
compute_step-requires-in-46 c = computed c.requires.0 c.in-46.is refl

pub compute_step-requires-in-47 : goal.compute_step-requires-in-47
compute_step-requires-in-47 c = computed c.requires.0 c.in-47.is refl

pub compute_step-requires-in-48 : goal.compute_step-requires-in-48
compute_step-requires-in-48 c = computed c.requires.0 c.in-48.is refl

pub compute_step-requires-in-49 : goal.compute_step-requires-in-49
compute_step-requires-in-49 c = computed c.requires.0 c.in-49.is refl

pub compute_step-requires-in-50 : goal.compute_step-requires-in-50
compute_step-requires-in-50 c = computed c.requires.0 c.in-50.is refl

pub compute_step-requires-in-52 : goal.compute_step-requires-in-52
compute_step-requires-in-52 c = computed c.requires.0 c.in-52.is refl

pub compute_step-requires-in-53 : goal.compute_step-requires-in-53
compute_step-requires-in-53 c = computed c.requires.0 c.in-53.is refl

pub compute_step-requires-in-54 : goal.compute_step-requires-in-54
compute_step-requires-in-54 c = computed c.requires.0 c.in-54.is refl

pub compute_step-requires-in-173 : goal.compute_step-requires-in-173
compute_step-requires-in-173 c = computed c.requires.0 c.in-173.is refl

pub compute_step-requires-in-174 : goal.compute_step-requires-in-174
compute_step-requires-in-174 c = computed c.requires.0 c.in-174.is refl

pub compute_step-requires-in-175 : goal.compute_step-requires-in-175
compute_step-requires-in-175 c = computed c.requires.0 c.in-175.is refl

pub compute_step-requires-in-176 : goal.compute_step-requires-in-176
compute_step-requires-in-176 c = computed c.requires.0 c.in-176.is refl

pub compute_step-requires-in-177 : goal.compute_step-requires-in-177
compute_step-requires-in-177 c = computed c.requires.0 c.in-177.is refl

pub compute_step-requires-in-178 : goal.compute_step-requires-in-178
compute_step-requires-in-178 c = computed c.requires.0 c.in-178.is refl

pub compute_step-requires-in-179 : goal.compute_step-requires-in-179
compute_step-requires-in-179 c = computed c.requires.0 c.in-179.is refl

pub compute_step-requires-in-180 : goal.compute_step-requires-in-180
compute_step-requires-in-180 c = computed c.requires.0 c.in-180.is refl

pub compute_step-requires-in-181 : goal.compute_step-requires-in-181
compute_step-requires-in-181 c = computed c.requires.0 c.in-181.is refl

pub compute_step-requires-in-182 : goal.compute_step-requires-in-182
compute_step-requires-in-182 c = computed c.requires.0 c.in-182.is refl

pub other_step-requires : goal.other_step-requires
other_step-requires c = let start = c in
    (start.requires.0, computes_not start.args.k (search rules) start.requires.1 start.requires.2 start.requires.3 c.in_default.in_default-own.rest)

pub returns-in-45 : goal.returns-in-45
returns-in-45 c = c.compute_step.ensures.under c.args.memory.now

pub returns-in-46 : goal.returns-in-46
returns-in-46 c = c.compute_step-in-46.ensures.under c.args.memory.now

pub returns-in-47 : goal.returns-in-47
returns-in-47 c = c.compute_step-in-47.ensures.under c.args.memory.now

pub returns-in-48 : goal.returns-in-48
returns-in-48 c = c.compute_step-in-48.ensures.under c.args.memory.now

pub returns-in-49 : goal.returns-in-49
returns-in-49 c = c.compute_step-in-49.ensures.under c.args.memory.now

pub returns-in-50 : goal.returns-in-50
returns-in-50 c = c.compute_step-in-50.ensures.under c.args.memory.now

pub returns-in-52 : goal.returns-in-52
returns-in-52 c = c.compute_step-in-52.ensures.under c.args.memory.now

pub returns-in-53 : goal.returns-in-53
returns-in-53 c = c.compute_step-in-53.ensures.under c.args.memory.now

pub returns-in-54 : goal.returns-in-54
returns-in-54 c = c.compute_step-in-54.ensures.under c.args.memory.now

pub returns-in-173 : goal.returns-in-173
returns-in-173 c = c.compute_step-in-173.ensures.under c.args.memory.now

pub returns-in-174 : goal.returns-in-174
returns-in-174 c = c.compute_step-in-174.ensures.under c.args.memory.now

pub returns-in-175 : goal.returns-in-175
returns-in-175 c = c.compute_step-in-175.ensures.under c.args.memory.now

pub returns-in-176 : goal.returns-in-176
returns-in-176 c = c.compute_step-in-176.ensures.under c.args.memory.now

pub returns-in-177 : goal.returns-in-177
returns-in-177 c = c.compute_step-in-177.ensures.under c.args.memory.now

pub returns-in-178 : goal.returns-in-178
returns-in-178 c = c.compute_step-in-178.ensures.under c.args.memory.now

pub returns-in-179 : goal.returns-in-179
returns-in-179 c = c.compute_step-in-179.ensures.under c.args.memory.now

pub returns-in-180 : goal.returns-in-180
returns-in-180 c = c.compute_step-in-180.ensures.under c.args.memory.now

pub returns-in-181 : goal.returns-in-181
returns-in-181 c = c.compute_step-in-181.ensures.under c.args.memory.now

pub returns-in-182 : goal.returns-in-182
returns-in-182 c = c.compute_step-in-182.ensures.under c.args.memory.now
