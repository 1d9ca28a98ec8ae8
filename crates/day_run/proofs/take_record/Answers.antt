-- `day_run::take_record` meets its contract: by what the record asks for. Assumes nothing.
use Rattle.day_run.proofs.CallLaws.{call_takes}
use Rattle.day_run.proofs.take_record.Goals as goal

pub returns-clause-taking : goal.returns-clause-taking
returns-clause-taking c =
    λ s y u. rw c.in_ok-parsed.was (call_takes c.args.image.now s y _ u c.args.keys.now c.in_ok-parsed.parsed c.key_count-n.ensures c.call_of.ensures c.perform-performed.ensures.performs)
