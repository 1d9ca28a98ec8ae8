-- `call_perform::perform` meets its contract: by the call. Assumes nothing.
use Rattle.std.specs.Prelude.{refl}
use Rattle.value_store.specs.Views.{call_of}
use Rattle.state_room.proofs.Holds.{kept_rules}
use Rattle.call_perform.proofs.CallLaws.{pop_tells, push_answers, pop_answers, ask_answers}
use Rattle.call_perform.proofs.ValueLaws.{value_answers}
use Rattle.call_perform.proofs.perform.Goals as goal

pub returns-in-Ok-clause-performs : goal.returns-in-Ok-clause-performs
returns-in-Ok-clause-performs c = λ s u.
    let t = c.told.ensures in
    rw c.in-Push.is (push_answers c.args.image.now s _ u c.in-Push.push c.args.keys.now c.in-Ok.ensures.pushes (rw (t.0.0, t.1)))

pub returns-in-Err-clause-performs : goal.returns-in-Err-clause-performs
returns-in-Err-clause-performs c = λ s u.
    let t = c.told-in-Err.ensures in
    rw c.in-Push.is (push_answers c.args.image.now s _ u c.in-Push.push c.args.keys.now c.in-Err.ensures.pushes (rw (t.0.0, t.1)))

pub returns-in-Pop-clause-performs : goal.returns-in-Pop-clause-performs
returns-in-Pop-clause-performs c = λ s u. rw c.in-Pop.is (pop_answers c.args.image.now s _ u c.pop_next_event-p.ensures.pops refl)

pub returns-in-Pop-clause-grown : goal.returns-in-Pop-clause-grown
returns-in-Pop-clause-grown c = (pop_tells c.requires.kept c.pop_next_event-p.ensures.pops).0

pub returns-in-Pop-clause-tells : goal.returns-in-Pop-clause-tells
returns-in-Pop-clause-tells c = rw c.in-Pop.is (refl, λ n. (n, (pop_tells c.requires.kept c.pop_next_event-p.ensures.pops).1 n))

pub returns-in-Ask-clause-performs : goal.returns-in-Ask-clause-performs
returns-in-Ask-clause-performs c = λ s u.
    let t = c.told-in-Ask.ensures in
    rw c.in-Ask.is (ask_answers c.args.image.now s _ u c.in-Ask.question (λ s q h. rw (t.0.0, t.1) (c.ask-answer.ensures s q h)))

pub returns-in-Value-clause-performs : goal.returns-in-Value-clause-performs
returns-in-Value-clause-performs c = λ s u.
    let t = c.told-in-Value.ensures in
    rw c.in-Value.is
    (value_answers c.args.image.now s (kept_rules c.requires.kept s u) _ u _ _ c.call_rows-c.result (call_of c.in-Value.call) c.call_rows-c.ensures
    (rw (t.0.0, t.1) c.value_answer.ensures))
