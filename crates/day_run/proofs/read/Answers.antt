use Rattle.day_run.proofs.PartLaws.{body_there}
use Rattle.day_run.proofs.read.Goals as goal

pub returns : goal.returns
returns c = let a = c.args in body_there a.bytes.now a.at a.n c.parse.ensures
