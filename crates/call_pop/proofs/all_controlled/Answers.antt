-- `call_pop::all_controlled` meets its contract. Assumes nothing.
use Rattle.std.specs.Prelude.{◌≡◌, true, false, get_or, refl}
use Rattle.std.specs.List.{range_with_len}
use Rattle.std.proofs.Common.{rules, ◌∙◌, arith}
use Rattle.std.proofs.lemmas.Iterator.{cases_from_all, YieldsList-from_range}
use Rattle.tags.specs.Views.{of_global}
use Rattle.machine.specs.Heads.{controlled}
use Rattle.state_events.specs.Slots.{blank, events_of}
use Rattle.state_events.proofs.SlotLaws.{events_long}
use Rattle.call_pop.proofs.PopLaws.{all_of, every_front}
use Rattle.call_pop.proofs.all_controlled.Goals as goal

pub returns : goal.returns
returns c =
    let l = events_of c.args.events.now in
    let p = controlled (of_global c.args.t) in
    all_of (λ i. p (get_or l i blank)) (range_with_len 0 c.args.waiting) _
    (cases_from_all _ _ _ (λ i. p (get_or l i blank) ≡ true) (λ i. p (get_or l i blank) ≡ false) c.all.ensures.ran (YieldsList-from_range 0 c.args.waiting c.args.waiting refl (omega arith))
    (λ x q k. search rules) (λ x q k. search rules)) ∙
    every_front p l blank c.args.waiting (rw events_long c.requires)
