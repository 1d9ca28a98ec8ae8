-- `call_transition_resets::reset` meets its contract: nothing changes where no scope is in the set; else events, clocks and values, each by its function. Assumes nothing.
use Rattle.std.proofs.Common.{◌≡◌, ℕ, false, ◌∙◌, sym}
use Rattle.key_set.specs.Sets.{has}
use Rattle.key_set.proofs.Laws.{empty_has}
use Rattle.call_transition_plan.specs.Plans.{plan_in}
use Rattle.state_room.proofs.Parts.{holds_good}
use Rattle.call_transition_resets.proofs.ResetLaws.{holds_front, none_cleared, holds_cleared}
use Rattle.call_transition_resets.proofs.reset.Goals as goal

pub drop_events-room-requires : goal.drop_events-room-requires
drop_events-room-requires c = let p = c.requires.held in (holds_good _ p.state _ p.holds).waits

pub zero_clocks-requires : goal.zero_clocks-requires
zero_clocks-requires c = let p = c.requires.held in record { image_value = p.holds.table; scoped = holds_front _ p.state _ p.holds }

pub clear_actions-room-requires : goal.clear_actions-room-requires
clear_actions-room-requires c = let p = c.requires.held in (holds_good _ p.state _ p.holds).keeps

pub returns-then-not-is_empty : goal.returns-then-not-is_empty
returns-then-not-is_empty c =
    let a = c.args in
    λ s h. holds_cleared a.image.now a.plan.inside.words (plan_in a.image.now a.plan).inside c.requires.inner s _ h _ _ _ _ _ _
    c.zero_clocks.ensures c.drop_events-room.ensures.waits c.clear_actions-room.ensures.keeps c.clear_actions-room.ensures.result_value c.drop_events-room.ensures.counts_value

pub returns-else-not-is_empty : goal.returns-else-not-is_empty
returns-else-not-is_empty c =
    let a = c.args in
    let none : (i : ℕ) → has a.plan.inside.words i ≡ false = λ i. empty_has a.plan.inside.words (sym c.is_empty.ensures ∙ c.if-not-is_empty.false) i in
    λ s h. rw (none_cleared a.image.now a.plan.inside.words (plan_in a.image.now a.plan).inside c.requires.inner none s) h
