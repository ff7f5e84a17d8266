-- `scan_declarations` answers where the declarations end. Assumes nothing.
use Rattle.block.proofs.Declaring.{refuses}
use Rattle.declarations.proofs.scan_declarations.Goals as goal

pub returns-in-Err : goal.returns-in-Err
returns-in-Err c T law =
    let g = c.count_globals-globals.ensures in
    let d = c.count_others-n.ensures in
    refuses law (d.0 T law _ (g.0 T law)) d.1 c.rule_at.ensures c.in-Err.is
