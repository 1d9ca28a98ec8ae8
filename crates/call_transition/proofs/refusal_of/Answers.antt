-- `call_transition::refusal_of` meets its contract. Assumes nothing.
use Rattle.call_transition.proofs.TransitLaws.{refused_key, refused_target, refused_tag, refused_none}
use Rattle.call_transition.proofs.refusal_of.Goals as goal

pub returns-then-not-is_known : goal.returns-then-not-is_known
returns-then-not-is_known c = refused_key _ _ c.is_known.ensures c.if-not-is_known.true

pub returns-then-mode_reactor-request : goal.returns-then-mode_reactor-request
returns-then-mode_reactor-request c = refused_target _ _ c.is_known.ensures c.if-not-is_known.false c.mode_reactor.ensures c.if-mode_reactor-request.true

pub returns-then-not-within : goal.returns-then-not-within
returns-then-not-within c =
    refused_tag _ _ c.is_known.ensures c.if-not-is_known.false c.mode_reactor.ensures c.if-mode_reactor-request.false c.within.ensures
    c.if-not-within.true

pub returns : goal.returns
returns c =
    refused_none _ _ c.is_known.ensures c.if-not-is_known.false c.mode_reactor.ensures c.if-mode_reactor-request.false c.within.ensures
    c.if-not-within.false
