-- `table_broken_rules::missing_key` meets its contract: what is left of the fields decides. Assumes nothing.
use mathlib.Core.Path.{◌≡◌, refl, sym, ap, ◌∙◌}
use native.Mathlib.Omega.{arith}
use Rattle.lists.specs.Tests.{flag}
use Rattle.lists.specs.Scan.{scan_pass, scan_fail, scan_none}
use Rattle.table.specs.Rules.{key_count, key_exists}
use Rattle.table_broken_rules.specs.BrokenRules.{missing_key}
use Rattle.table_broken_rules.proofs.missing_key.Goals as goal

pub loop-j-init : goal.loop-j-init
unfolding missing_key
loop-j-init c = refl

pub loop-j-preserved : goal.loop-j-preserved
loop-j-preserved c =
    let exists = ap (key_exists _ _ _) (sym c.key_field.ensures) ∙ flag c.key_exists.ensures c.if-not-key_exists.false in
    c.loop-j.invariant ∙ scan_pass _ _ _ c.loop-j-test.true exists

pub returns-then-not-key_exists : goal.returns-then-not-key_exists
returns-then-not-key_exists c =
    let missing = ap (key_exists _ _ _) (sym c.key_field.ensures) ∙ flag c.key_exists.ensures c.if-not-key_exists.true in
    (sym (c.loop-j.invariant ∙ scan_fail _ _ _ c.loop-j-test.true missing), c.loop-j-test.true)

pub returns : goal.returns
returns c =
    let end : key_count ≡ c.loop-j.j = omega arith in
    (end ∙ sym (c.loop-j.invariant ∙ scan_none _ _ _ c.loop-j-test.false), tt)
