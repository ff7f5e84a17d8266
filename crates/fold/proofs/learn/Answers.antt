-- A variable that is known, with its value. Assumes nothing.
use Rattle.passes.proofs.Knowing.{put_known}
use Rattle.fold.proofs.learn.Goals as goal

pub returns : goal.returns
returns c = put_known c.put.ensures c.put-2.ensures
