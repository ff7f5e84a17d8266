-- The conditions at the corners, by computation. Assumes nothing.
use mathlib.Core.Path.{refl}
use Rattle.word.specs.Condition.{lts_w, les_w, cond_w}
use Rattle.cases.specs.Conditions.{ConditionCorners}

pub condition_corners : ConditionCorners
unfolding ConditionCorners cond_w lts_w les_w
condition_corners = refl
