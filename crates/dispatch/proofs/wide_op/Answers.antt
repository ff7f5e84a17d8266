-- The kinds 91 to a9, each with code of its own. Assumes nothing.
use mathlib.Core.Path.{refl}
use Rattle.runs.proofs.Dispatch.{computed}
use Rattle.dispatch.proofs.wide_op.Goals as goal

pub compute_step-requires : goal.compute_step-requires
compute_step-requires c = computed c.requires.0 c.in-145.is refl

pub compute_step-requires-in-146 : goal.compute_step-requires-in-146
compute_step-requires-in-146 c = computed c.requires.0 c.in-146.is refl

pub compute_step-requires-in-147 : goal.compute_step-requires-in-147
compute_step-requires-in-147 c = computed c.requires.0 c.in-147.is refl

pub compute_step-requires-in-148 : goal.compute_step-requires-in-148
compute_step-requires-in-148 c = computed c.requires.0 c.in-148.is refl

pub compute_step-requires-in-149 : goal.compute_step-requires-in-149
compute_step-requires-in-149 c = computed c.requires.0 c.in-149.is refl

pub compute_step-requires-in-150 : goal.compute_step-requires-in-150
compute_step-requires-in-150 c = computed c.requires.0 c.in-150.is refl

pub compute_step-requires-in-151 : goal.compute_step-requires-in-151
compute_step-requires-in-151 c = computed c.requires.0 c.in-151.is refl

pub compute_step-requires-in-152 : goal.compute_step-requires-in-152
compute_step-requires-in-152 c = computed c.requires.0 c.in-152.is refl

pub compute_step-requires-in-153 : goal.compute_step-requires-in-153
compute_step-requires-in-153 c = computed c.requires.0 c.in-153.is refl

pub compute_step-requires-in-154 : goal.compute_step-requires-in-154
compute_step-requires-in-154 c = computed c.requires.0 c.in-154.is refl

pub compute_step-requires-in-155 : goal.compute_step-requires-in-155
compute_step-requires-in-155 c = computed c.requires.0 c.in-155.is refl

pub compute_step-requires-in-156 : goal.compute_step-requires-in-156
compute_step-requires-in-156 c = computed c.requires.0 c.in-156.is refl

pub compute_step-requires-in-157 : goal.compute_step-requires-in-157
compute_step-requires-in-157 c = computed c.requires.0 c.in-157.is refl

pub compute_step-requires-in-158 : goal.compute_step-requires-in-158
compute_step-requires-in-158 c = computed c.requires.0 c.in-158.is refl

pub compute_step-requires-in-159 : goal.compute_step-requires-in-159
compute_step-requires-in-159 c = computed c.requires.0 c.in-159.is refl

pub compute_step-requires-in-160 : goal.compute_step-requires-in-160
compute_step-requires-in-160 c = computed c.requires.0 c.in-160.is refl

pub compute_step-requires-in-161 : goal.compute_step-requires-in-161
compute_step-requires-in-161 c = computed c.requires.0 c.in-161.is refl

pub compute_step-requires-in-162 : goal.compute_step-requires-in-162
compute_step-requires-in-162 c = computed c.requires.0 c.in-162.is refl

pub compute_step-requires-in-163 : goal.compute_step-requires-in-163
compute_step-requires-in-163 c = computed c.requires.0 c.in-163.is refl

pub compute_step-requires-in-164 : goal.compute_step-requires-in-164
compute_step-requires-in-164 c = computed c.requires.0 c.in-164.is refl

pub compute_step-requires-in-165 : goal.compute_step-requires-in-165
compute_step-requires-in-165 c = computed c.requires.0 c.in-165.is refl

pub compute_step-requires-in-166 : goal.compute_step-requires-in-166
compute_step-requires-in-166 c = computed c.requires.0 c.in-166.is refl

pub compute_step-requires-in-167 : goal.compute_step-requires-in-167
compute_step-requires-in-167 c = computed c.requires.0 c.in-167.is refl

pub compute_step-requires-in-168 : goal.compute_step-requires-in-168
compute_step-requires-in-168 c = computed c.requires.0 c.in-168.is refl

pub compute_step-requires-in-169 : goal.compute_step-requires-in-169
compute_step-requires-in-169 c = computed c.requires.0 c.in-169.is refl

pub returns-in-145 : goal.returns-in-145
returns-in-145 c = c.compute_step.ensures.under c.args.memory.now

pub returns-in-146 : goal.returns-in-146
returns-in-146 c = c.compute_step-in-146.ensures.under c.args.memory.now

pub returns-in-147 : goal.returns-in-147
returns-in-147 c = c.compute_step-in-147.ensures.under c.args.memory.now

pub returns-in-148 : goal.returns-in-148
returns-in-148 c = c.compute_step-in-148.ensures.under c.args.memory.now

pub returns-in-149 : goal.returns-in-149
returns-in-149 c = c.compute_step-in-149.ensures.under c.args.memory.now

pub returns-in-150 : goal.returns-in-150
returns-in-150 c = c.compute_step-in-150.ensures.under c.args.memory.now

pub returns-in-151 : goal.returns-in-151
returns-in-151 c = c.compute_step-in-151.ensures.under c.args.memory.now

pub returns-in-152 : goal.returns-in-152
returns-in-152 c = c.compute_step-in-152.ensures.under c.args.memory.now

pub returns-in-153 : goal.returns-in-153
returns-in-153 c = c.compute_step-in-153.ensures.under c.args.memory.now

pub returns-in-154 : goal.returns-in-154
returns-in-154 c = c.compute_step-in-154.ensures.under c.args.memory.now

pub returns-in-155 : goal.returns-in-155
returns-in-155 c = c.compute_step-in-155.ensures.under c.args.memory.now

pub returns-in-156 : goal.returns-in-156
returns-in-156 c = c.compute_step-in-156.ensures.under c.args.memory.now

pub returns-in-157 : goal.returns-in-157
returns-in-157 c = c.compute_step-in-157.ensures.under c.args.memory.now

pub returns-in-158 : goal.returns-in-158
returns-in-158 c = c.compute_step-in-158.ensures.under c.args.memory.now

pub returns-in-159 : goal.returns-in-159
returns-in-159 c = c.compute_step-in-159.ensures.under c.args.memory.now

pub returns-in-160 : goal.returns-in-160
returns-in-160 c = c.compute_step-in-160.ensures.under c.args.memory.now

pub returns-in-161 : goal.returns-in-161
returns-in-161 c = c.compute_step-in-161.ensures.under c.args.memory.now

pub returns-in-162 : goal.returns-in-162
returns-in-162 c = c.compute_step-in-162.ensures.under c.args.memory.now

pub returns-in-163 : goal.returns-in-163
returns-in-163 c = c.compute_step-in-163.ensures.under c.args.memory.now

pub returns-in-164 : goal.returns-in-164
returns-in-164 c = c.compute_step-in-164.ensures.under c.args.memory.now

pub returns-in-165 : goal.returns-in-165
returns-in-165 c = c.compute_step-in-165.ensures.under c.args.memory.now

pub returns-in-166 : goal.returns-in-166
returns-in-166 c = c.compute_step-in-166.ensures.under c.args.memory.now

pub returns-in-167 : goal.returns-in-167
returns-in-167 c = c.compute_step-in-167.ensures.under c.args.memory.now

pub returns-in-168 : goal.returns-in-168
returns-in-168 c = c.compute_step-in-168.ensures.under c.args.memory.now

pub returns-in-169 : goal.returns-in-169
returns-in-169 c = c.compute_step-in-169.ensures.under c.args.memory.now
