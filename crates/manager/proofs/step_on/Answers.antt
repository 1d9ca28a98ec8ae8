-- `manager::step_on` meets its contract: 11, or the call on rows. Assumes nothing.
use mathlib.Core.Logic.{inl, inr}
use mathlib.Core.List.{[]}
use Rattle.state_fresh.proofs.FreshLaws.{no_values, no_buckets}
use Rattle.call_perform.specs.Calls.{call_of}
use Rattle.call_perform.proofs.CallLaws.{idle_grown}
use Rattle.manager.specs.Views.{arrays_of}
use Rattle.manager.proofs.Packs.{sound_is}
use Rattle.manager.proofs.Calls.{call_eleven, call_kept, call_few, call_performs}
use borrow.Author.Rules.{rules}
use Rattle.std.proofs.lemmas.Bool.{not_from_false, not_from_true}
use Rattle.manager.proofs.step_on.Goals as goal

pub unpack-requires : goal.unpack-requires
unpack-requires c =
    record { no_scope = c.blank_rows.ensures; no_event_lem = c.blank_rows-2.ensures; no_value = no_values; no_bucket = no_buckets }

pub returns-then-not-sound : goal.returns-then-not-sound
returns-then-not-sound c =
    let a = c.args in
    let e = sound_is _ _ _ c.unpack.ensures c.keeps_rules-sound.ensures in
    record { result_value = call_eleven a.image.now (arrays_of a.m) e (call_of a.call a.keys.now) c.told.result _ (not_from_false _ c.if-not-sound.true) (c.told.ensures.0.0, c.told.ensures.1); actions_le_room_for_events = ((idle_grown c.told.result c.told.ensures.0 []).1, inr (c.told.ensures.0.0, c.told.ensures.1)) }

pub heads-heads-requires : goal.heads-heads-requires
heads-heads-requires c =
    let a = c.args in
    call_few a.image.now (arrays_of a.m) (sound_is _ _ _ c.unpack.ensures c.keeps_rules-sound.ensures) (not_from_true _ c.if-not-sound.false) _ c.unpack.ensures

pub perform-performed-requires : goal.perform-performed-requires
perform-performed-requires c =
    let a = c.args in
    record { kept = call_kept a.image.now (arrays_of a.m) (sound_is _ _ _ c.unpack.ensures c.keeps_rules-sound.ensures) (not_from_true _ c.if-not-sound.false) _ c.unpack.ensures; headed = c.heads-heads.ensures; actions_len = (search rules, search rules) }

pub returns : goal.returns
returns c =
    let a = c.args in
    record {
      result_value = call_performs a.image.now (arrays_of a.m) (sound_is _ _ _ c.unpack.ensures c.keeps_rules-sound.ensures) (not_from_true _ c.if-not-sound.false) _ c.unpack.ensures (call_of a.call a.keys.now) _ c.perform-performed.ensures.performs
          (c.left_by-manager.ensures a.keys.now _);
      actions_le_room_for_events = (c.perform-performed.ensures.grown.1, inl c.perform-performed.ensures.tells);
    }
