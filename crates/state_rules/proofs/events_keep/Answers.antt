-- `state_rules::events_keep` meets its contract. Assumes nothing.
use Rattle.std.specs.Prelude.{◌≡◌, true, false, get_or, refl}
use Rattle.std.proofs.Common.{rules, ◌∙◌, arith}
use Rattle.std.proofs.lemmas.Iterator.{cases_from_all, YieldsList-from_range}
use Rattle.std.specs.List.{range_with_len}
use Rattle.state_events.specs.Slots.{blank, events_of}
use Rattle.state_events.proofs.SlotLaws.{events_long}
use Rattle.state_scopes.specs.Scopes.{scopes_of}
use Rattle.state_rules.specs.Sound.{event_keeps}
use Rattle.state_rules.proofs.Ranges.{all_of, every_front}
use Rattle.state_rules.proofs.events_keep.Goals as goal

pub returns : goal.returns
returns c =
    let l = events_of c.args.events.now in
    let keeps = event_keeps c.args.image.now (scopes_of c.args.scopes.now) in
    all_of (λ i. keeps (get_or l i blank)) (range_with_len 0 c.args.n) _
    (cases_from_all _ _ _ (λ i. keeps (get_or l i blank) ≡ true) (λ i. keeps (get_or l i blank) ≡ false) c.all.ensures.ran (YieldsList-from_range 0 c.args.n c.args.n refl (omega arith))
    (λ x q k. search rules) (λ x q k. search rules)) ∙
    every_front keeps l blank c.args.n (rw events_long c.requires)
