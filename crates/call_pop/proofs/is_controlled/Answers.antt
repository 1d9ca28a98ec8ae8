-- `call_pop::is_controlled` meets its contract. Assumes nothing.
use Rattle.std.proofs.Common.{ap, arith}
use Rattle.std.proofs.lemmas.Bool.Decides.{nat_tests}
use Rattle.tags.specs.Tags.{Tag, same_tag}
use Rattle.machine.specs.State.{at_head, in_queue}
use Rattle.machine.specs.Heads.{controlled}
use Rattle.call_pop.proofs.is_controlled.Goals as goal
use Rattle.call_pop.proofs.is_controlled.Goals.{then-s-ne-NONE, else-s-ne-NONE}

pub returns-then-ne : goal.returns-then-ne
unfolding controlled at_head in_queue same_tag
returns-then-ne c =
    elim c.if-s-ne-NONE.branch [
      | then-s-ne-NONE w ↦ grind (arith, nat_tests)
      | else-s-ne-NONE w ↦
          (let o = ap (λ (t : Tag). t.offset) w.as_global.ensures in
          let m = ap (λ (t : Tag). t.microstep) w.as_global.ensures in grind (arith, nat_tests))
    ]

pub returns-else-ne : goal.returns-else-ne
unfolding controlled at_head in_queue same_tag
returns-else-ne c =
    elim c.if-s-ne-NONE.branch [
      | then-s-ne-NONE w ↦ grind (arith, nat_tests)
      | else-s-ne-NONE w ↦
          (let o = ap (λ (t : Tag). t.offset) w.as_global.ensures in
          let m = ap (λ (t : Tag). t.microstep) w.as_global.ensures in grind (arith, nat_tests))
    ]
