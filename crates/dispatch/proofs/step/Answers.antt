-- The kinds 05 to 07 and 11 to 29, each with code of its own. Assumes nothing.
use mathlib.Core.Path.{refl}
use Rattle.runs.proofs.Dispatch.{computed}
use Rattle.dispatch.proofs.step.Goals as goal

pub compute_step-requires : goal.compute_step-requires
compute_step-requires c = computed c.requires c.in-5.is refl

pub compute_step-requires-in-6 : goal.compute_step-requires-in-6
compute_step-requires-in-6 c = computed c.requires c.in-6.is refl

pub compute_step-requires-in-7 : goal.compute_step-requires-in-7
compute_step-requires-in-7 c = computed c.requires c.in-7.is refl

pub compute_step-requires-in-17 : goal.compute_step-requires-in-17
compute_step-requires-in-17 c = computed c.requires c.in-17.is refl

pub compute_step-requires-in-18 : goal.compute_step-requires-in-18
compute_step-requires-in-18 c = computed c.requires c.in-18.is refl

pub compute_step-requires-in-19 : goal.compute_step-requires-in-19
compute_step-requires-in-19 c = computed c.requires c.in-19.is refl

pub compute_step-requires-in-20 : goal.compute_step-requires-in-20
compute_step-requires-in-20 c = computed c.requires c.in-20.is refl

pub compute_step-requires-in-21 : goal.compute_step-requires-in-21
compute_step-requires-in-21 c = computed c.requires c.in-21.is refl

pub compute_step-requires-in-22 : goal.compute_step-requires-in-22
compute_step-requires-in-22 c = computed c.requires c.in-22.is refl

pub compute_step-requires-in-23 : goal.compute_step-requires-in-23
compute_step-requires-in-23 c = computed c.requires c.in-23.is refl

pub compute_step-requires-in-24 : goal.compute_step-requires-in-24
compute_step-requires-in-24 c = computed c.requires c.in-24.is refl

pub compute_step-requires-in-25 : goal.compute_step-requires-in-25
compute_step-requires-in-25 c = computed c.requires c.in-25.is refl

pub compute_step-requires-in-26 : goal.compute_step-requires-in-26
compute_step-requires-in-26 c = computed c.requires c.in-26.is refl

pub compute_step-requires-in-27 : goal.compute_step-requires-in-27
compute_step-requires-in-27 c = computed c.requires c.in-27.is refl

pub compute_step-requires-in-28 : goal.compute_step-requires-in-28
compute_step-requires-in-28 c = computed c.requires c.in-28.is refl

pub compute_step-requires-in-29 : goal.compute_step-requires-in-29
compute_step-requires-in-29 c = computed c.requires c.in-29.is refl

pub compute_step-requires-in-30 : goal.compute_step-requires-in-30
compute_step-requires-in-30 c = computed c.requires c.in-30.is refl

pub compute_step-requires-in-31 : goal.compute_step-requires-in-31
compute_step-requires-in-31 c = computed c.requires c.in-31.is refl

pub compute_step-requires-in-32 : goal.compute_step-requires-in-32
compute_step-requires-in-32 c = computed c.requires c.in-32.is refl

pub compute_step-requires-in-33 : goal.compute_step-requires-in-33
compute_step-requires-in-33 c = computed c.requires c.in-33.is refl

pub compute_step-requires-in-34 : goal.compute_step-requires-in-34
compute_step-requires-in-34 c = computed c.requires c.in-34.is refl

pub compute_step-requires-in-35 : goal.compute_step-requires-in-35
compute_step-requires-in-35 c = computed c.requires c.in-35.is refl

pub compute_step-requires-in-36 : goal.compute_step-requires-in-36
compute_step-requires-in-36 c = computed c.requires c.in-36.is refl

pub compute_step-requires-in-37 : goal.compute_step-requires-in-37
compute_step-requires-in-37 c = computed c.requires c.in-37.is refl

pub compute_step-requires-in-38 : goal.compute_step-requires-in-38
compute_step-requires-in-38 c = computed c.requires c.in-38.is refl

pub compute_step-requires-in-39 : goal.compute_step-requires-in-39
compute_step-requires-in-39 c = computed c.requires c.in-39.is refl

pub compute_step-requires-in-40 : goal.compute_step-requires-in-40
compute_step-requires-in-40 c = computed c.requires c.in-40.is refl

pub compute_step-requires-in-41 : goal.compute_step-requires-in-41
compute_step-requires-in-41 c = computed c.requires c.in-41.is refl

pub returns-in-5 : goal.returns-in-5
returns-in-5 c = c.compute_step.ensures.under c.args.memory.now

pub returns-in-6 : goal.returns-in-6
returns-in-6 c = c.compute_step-in-6.ensures.under c.args.memory.now

pub returns-in-7 : goal.returns-in-7
returns-in-7 c = c.compute_step-in-7.ensures.under c.args.memory.now

pub returns-in-17 : goal.returns-in-17
returns-in-17 c = c.compute_step-in-17.ensures.under c.args.memory.now

pub returns-in-18 : goal.returns-in-18
returns-in-18 c = c.compute_step-in-18.ensures.under c.args.memory.now

pub returns-in-19 : goal.returns-in-19
returns-in-19 c = c.compute_step-in-19.ensures.under c.args.memory.now

pub returns-in-20 : goal.returns-in-20
returns-in-20 c = c.compute_step-in-20.ensures.under c.args.memory.now

pub returns-in-21 : goal.returns-in-21
returns-in-21 c = c.compute_step-in-21.ensures.under c.args.memory.now

pub returns-in-22 : goal.returns-in-22
returns-in-22 c = c.compute_step-in-22.ensures.under c.args.memory.now

pub returns-in-23 : goal.returns-in-23
returns-in-23 c = c.compute_step-in-23.ensures.under c.args.memory.now

pub returns-in-24 : goal.returns-in-24
returns-in-24 c = c.compute_step-in-24.ensures.under c.args.memory.now

pub returns-in-25 : goal.returns-in-25
returns-in-25 c = c.compute_step-in-25.ensures.under c.args.memory.now

pub returns-in-26 : goal.returns-in-26
returns-in-26 c = c.compute_step-in-26.ensures.under c.args.memory.now

pub returns-in-27 : goal.returns-in-27
returns-in-27 c = c.compute_step-in-27.ensures.under c.args.memory.now

pub returns-in-28 : goal.returns-in-28
returns-in-28 c = c.compute_step-in-28.ensures.under c.args.memory.now

pub returns-in-29 : goal.returns-in-29
returns-in-29 c = c.compute_step-in-29.ensures.under c.args.memory.now

pub returns-in-30 : goal.returns-in-30
returns-in-30 c = c.compute_step-in-30.ensures.under c.args.memory.now

pub returns-in-31 : goal.returns-in-31
returns-in-31 c = c.compute_step-in-31.ensures.under c.args.memory.now

pub returns-in-32 : goal.returns-in-32
returns-in-32 c = c.compute_step-in-32.ensures.under c.args.memory.now

pub returns-in-33 : goal.returns-in-33
returns-in-33 c = c.compute_step-in-33.ensures.under c.args.memory.now

pub returns-in-34 : goal.returns-in-34
returns-in-34 c = c.compute_step-in-34.ensures.under c.args.memory.now

pub returns-in-35 : goal.returns-in-35
returns-in-35 c = c.compute_step-in-35.ensures.under c.args.memory.now

pub returns-in-36 : goal.returns-in-36
returns-in-36 c = c.compute_step-in-36.ensures.under c.args.memory.now

pub returns-in-37 : goal.returns-in-37
returns-in-37 c = c.compute_step-in-37.ensures.under c.args.memory.now

pub returns-in-38 : goal.returns-in-38
returns-in-38 c = c.compute_step-in-38.ensures.under c.args.memory.now

pub returns-in-39 : goal.returns-in-39
returns-in-39 c = c.compute_step-in-39.ensures.under c.args.memory.now

pub returns-in-40 : goal.returns-in-40
returns-in-40 c = c.compute_step-in-40.ensures.under c.args.memory.now

pub returns-in-41 : goal.returns-in-41
returns-in-41 c = c.compute_step-in-41.ensures.under c.args.memory.now
