-- `state_rules::clocks_within` meets its contract. Assumes nothing.
use Rattle.std.specs.Prelude.{◌≡◌, true, false, get_or, refl}
use Rattle.std.proofs.Common.{rules, ◌∙◌, arith}
use Rattle.std.proofs.lemmas.Iterator.{cases_from_all, YieldsList-from_range}
use Rattle.std.specs.List.{range_with_len}
use Rattle.tags.specs.Tags.{within_clock}
use Rattle.lists.specs.Held as H
use Rattle.state_scopes.specs.Scopes as scope
use Rattle.state_scopes.specs.Scopes.{Scope, most_scopes, scopes_of}
use Rattle.state_rules.proofs.Ranges.{all_of, every_front}
use Rattle.state_rules.proofs.clocks_within.Goals as goal

pub returns : goal.returns
returns c =
    let l = scopes_of c.args.scopes.now in
    all_of (λ i. within_clock (get_or l i scope.blank).clock) (range_with_len 0 c.args.n) _
    (cases_from_all _ _ _ (λ i. within_clock (get_or l i scope.blank).clock ≡ true) (λ i. within_clock (get_or l i scope.blank).clock ≡ false) c.all.ensures.ran (YieldsList-from_range 0 c.args.n c.args.n refl (omega arith))
    (λ x q k. search rules) (λ x q k. search rules)) ∙
    every_front (λ (x : Scope). within_clock x.clock) l scope.blank c.args.n (rw (H.things_length scope.decode scope.encode scope.scope_words most_scopes scope.encode_long c.args.scopes.now) c.requires)
