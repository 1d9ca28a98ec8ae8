-- `call_pop_ready::add_key` meets its contract. Assumes nothing.
use mathlib.Core.Path.{sym, ◌∙◌}
use Rattle.call_pop_ready.proofs.GatherLaws.{key_none, key_there, key_new, contains_any}
use Rattle.call_pop_ready.proofs.add_key.Goals as goal
use Rattle.call_pop_ready.proofs.add_key.Goals.{then-a-via-then-a, then-a-via-else-a+then-contains}

pub returns-then-a : goal.returns-then-a
returns-then-a c =
    let a = c.args in elim c.then-a.branch [
      | then-a-via-then-a w ↦ (let whole = key_none a.keys.now a.n a.a w.if-a.true in record { value = whole.0; keys_after = whole.1 })
      | then-a-via-else-a+then-contains w ↦
          (let whole = key_there a.keys.now a.n a.a w.if-a.false (sym (w.contains.ensures.value ∙ contains_any _ _) ∙ w.if-contains.true) in record { value = whole.0; keys_after = whole.1 })
    ]

pub returns : goal.returns
returns c = let a = c.args in let whole = key_new a.keys.now a.n a.a c.if-a.false (sym (c.contains.ensures.value ∙ contains_any _ _) ∙ c.if-contains.false) in record { value = whole.0; keys_after = whole.1 }
