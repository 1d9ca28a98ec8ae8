-- `call_pop::peek_tag` meets its contract. Assumes nothing.
use Rattle.machine.specs.Machine.{perform}
use Rattle.call_pop.proofs.PopLaws.{seen, seen_peek}
use Rattle.call_pop.proofs.peek_tag.Goals as goal

pub returns : goal.returns
unfolding perform
returns c =
    λ s w h.
    seen_peek
    (seen c.args.image.now s c.args.scopes.now h c.root_head-root.result c.scope_head-local.result c.count-n.ensures w c.root_head-root.ensures c.scope_head-local.ensures)
    c.peek_of.ensures
