-- `day_run::start` meets its contract. Assumes nothing.
use Rattle.day_run.proofs.StartLaws.{started}
use Rattle.day_run.proofs.start.Goals as goal

pub returns : goal.returns
returns c = record { kept = (started c.args.image.now _ c.requires c.room.ensures).0; result_value = (started c.args.image.now _ c.requires c.room.ensures).1 }
