-- `state_fresh::room` meets its contract. Assumes nothing.
use mathlib.Core.Path.{sym, ◌∙◌}
use lib.Seq.{length-take-le}
use Rattle.state_fresh.specs.Fresh.{modes_room, modes_taken, fresh_holds}
use Rattle.state_fresh.proofs.room.Goals as goal

pub slice_bounds-modes-end : goal.slice_bounds-modes-end
slice_bounds-modes-end c =
    modes_room c.args.image.now c.requires _ c.modes-modes.ensures _ (c.from-n.ensures ∙ c.count.ensures)

pub slice_bounds-scopes-end : goal.slice_bounds-scopes-end
slice_bounds-scopes-end c =
    sym (length-take-le _ _ (modes_room c.args.image.now c.requires _ c.modes-modes.ensures _ (c.from-n.ensures ∙ c.count.ensures)))

pub returns : goal.returns
returns c =
    let k = modes_taken c.args.image.now c.requires _ c.modes-modes.ensures _ (c.from-n.ensures ∙ c.count.ensures) in
    fresh_holds c.args.image.now c.requires _ _ _ c.modes-modes.ensures (rw k at c.scopes-scopes.ensures) c.bare.ensures
