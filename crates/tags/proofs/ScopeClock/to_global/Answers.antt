-- `tags::ScopeClock::to_global` meets its contract. Assumes nothing.
use Rattle.tags.proofs.Laws.{globals}
use Prim.Native.Nat.{◌<◌}
use Rattle.tags.specs.Views.{wide}
use borrow.Author.Rules.{rules}
use Rattle.tags.proofs.ScopeClock.to_global.Goals as goal

pub returns-then-is_identity : goal.returns-then-is_identity
returns-then-is_identity c = search globals

pub returns : goal.returns
returns c =
    let w : c.args.self.activation_global.0 < wide = search rules in
    search globals
