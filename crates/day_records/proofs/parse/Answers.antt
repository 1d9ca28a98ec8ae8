-- `day_records::parse` meets its contract. Assumes nothing.
use Rattle.std.proofs.lemmas.Result.{err_from_is_err_and}
use Rattle.day_records.proofs.Laws.{parses_not, plain_yes, network_yes, control_yes, action_yes, transition_yes, one_byte, zero_byte}
use Rattle.day_records.proofs.parse.Goals as goal

pub returns-in_err-formed_op : goal.returns-in_err-formed_op
returns-in_err-formed_op c =
    let p = err_from_is_err_and c.from_residual.result c.from_residual.ensures.1 in
    rw p.1 (parses_not _ c.in_err-formed_op.ensures)

pub returns-in-Plain : goal.returns-in-Plain
returns-in-Plain c = plain_yes _ c.in_ok-formed_op.ensures c.in-Plain.is c.read_keys-n.ensures c.tag_there.ensures (one_byte _ _)

pub returns-in-Network : goal.returns-in-Network
returns-in-Network c = network_yes _ c.in_ok-formed_op.ensures c.in-Network.is c.read_keys-n-in-Network.ensures c.tag_there-in-Network.ensures

pub returns-in-Control : goal.returns-in-Control
returns-in-Control c = control_yes _ c.in_ok-formed_op.ensures c.in-Control.is c.tag_there-in-Control.ensures

pub returns-in-Action : goal.returns-in-Action
returns-in-Action c =
    action_yes _ c.in_ok-formed_op.ensures c.in-Action.is c.read_keys-n-in-Action.ensures c.two_there.ensures c.tag_there-in-Action.ensures (one_byte _ _)

pub returns-in-Transition : goal.returns-in-Transition
returns-in-Transition c =
    transition_yes _ c.in_ok-formed_op.ensures c.in-Transition.is c.two_there-reactor.ensures c.two_there-mode.ensures (zero_byte _ _) c.tag_there-in-Transition.ensures
