-- `call_transition::put_back` meets its contract: each part, and zeros behind it. Assumes nothing.
use Rattle.call_transition.proofs.SavingLaws.{all_back}
use Rattle.call_transition.proofs.put_back.Goals as goal

pub returns : goal.returns
returns c =
    all_back _ c.fronts_of-f.result c.fronts_of-f.ensures.0 c.fronts_of-f.ensures.1 c.args.ledger c.args.spare.now c.requires.1 c.copy.ensures c.copy-2.ensures c.copy-3.ensures c.copy-4.ensures
