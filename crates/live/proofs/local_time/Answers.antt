-- By what the op does at its label. Assumes nothing.
use Rattle.passes.proofs.Events.{time_by}
use Rattle.live.proofs.local_time.Goals as goal

pub returns-then-is_setting-is_jumping : goal.returns-then-is_setting-is_jumping
returns-then-is_setting-is_jumping c = time_by _ _ _ _ c.is_setting.ensures c.is_jumping.ensures c.if-is_setting-is_jumping.true

pub returns : goal.returns
returns c = time_by _ _ _ _ c.is_setting.ensures c.is_jumping.ensures c.if-is_setting-is_jumping.false
