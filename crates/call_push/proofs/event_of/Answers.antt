-- `call_push::event_of` meets its contract: by what is pushed. Assumes nothing.
use Rattle.std.proofs.Common.{◌∙◌}
use Rattle.std.proofs.lemmas.Result.{err_from_is_err_and}
use Rattle.lists.specs.Lists.{every, foldl}
use Rattle.machine.specs.Table.{set_of}
use Rattle.machine.specs.Machine.{keys_ok, root_made}
use Rattle.call_push.proofs.event_of.Goals as goal

pub returns-in_err-keys_of-in-Plain : goal.returns-in_err-keys_of-in-Plain
unfolding root_made
returns-in_err-keys_of-in-Plain c =
    let p = err_from_is_err_and c.from_residual.result c.from_residual.ensures.1 in
    let k = c.in_err-keys_of-in-Plain.ensures in
    rw (c.in-Plain.is, p.1, p.2, k.1, k.0)

pub returns-in_err-keys_of-in-Network : goal.returns-in_err-keys_of-in-Network
unfolding root_made
returns-in_err-keys_of-in-Network c =
    let p = err_from_is_err_and c.from_residual-in_err-keys_of-in-Network.result c.from_residual-in_err-keys_of-in-Network.ensures.1 in
    let k = c.in_err-keys_of-in-Network.ensures in
    rw (c.in-Network.is, p.1, p.2, k.1, k.0)

pub returns-in-Control : goal.returns-in-Control
unfolding keys_ok every set_of foldl
returns-in-Control c = rw c.in-Control.is (c.root_made-in-Control.ensures ∙ rw c.empty.ensures)
