-- Document 02, C-14: the case is there. The reset of the day `reset_stays_zero`, as 01 has it and the Rust, gives the scope that it turns inactive S from c.
-- Assumes nothing.
use Rattle.std.specs.Prelude.{◌≡◌, refl, true, false, List, [], ◌∷◌, map}
use Rattle.lists.specs.Walk.{done, refused}
use Rattle.tags.specs.Tags.{Tag, at}
use Rattle.machine.specs.State.{State, fresh}
use Rattle.machine.specs.Transition.{Step, transition}
use Rattle.machine.specs.Machine.{transit, run}
use Rattle.machine_rules_kept.specs.FromNothing.{old_clock_after, old_turned, old_transition}
use Rattle.machine_days.specs.Computed.{day_of}
use Rattle.machine_days.specs.DaysReset.{reset_stays_zero_image}

-- the state that the first call leaves: the inner scope 4 is active since (10,0)
unfoldable pub entered : State
unfolding day_of
entered = run reset_stays_zero_image (fresh reset_stays_zero_image) (transit 1 2 false (at 10 0) ∷ [])

-- S of each scope, where a transition is accepted
abbrev pub noted : Step → List Tag
noted (done t) = map (λ x. x.clock.S) t.scopes
noted (refused n) = []

pub noted_before : noted (old_transition reset_stays_zero_image 0 0 true (at 30 0) entered) ≡ at 0 0 ∷ at 0 0 ∷ at 0 0 ∷ at 0 0 ∷ at 20 0 ∷ []
unfolding day_of entered old_transition old_turned old_clock_after
noted_before = refl

pub noted_now : noted (transition reset_stays_zero_image 0 0 true (at 30 0) entered) ≡ at 0 0 ∷ at 0 0 ∷ at 0 0 ∷ at 0 0 ∷ at 0 0 ∷ []
unfolding day_of entered
noted_now = refl
