-- `day_rescue::stretch` meets its contract. Assumes nothing.
use native.Mathlib.Omega.{arith}
use borrow.Author.Rules.{rules}
use Rattle.day_rescue.proofs.WalkLaws.{stretch_none, size_some, size_inside, stretch_next, stretch_goes}
use Rattle.day_rescue.proofs.stretch.Goals as goal

pub loop-at-init : goal.loop-at-init
loop-at-init c = stretch_none _ _ c.requires.1 _ c.requires.0

pub next_size-requires : goal.next_size-requires
next_size-requires c = c.loop-at.invariant.inside

pub overflow_add-at : goal.overflow_add-at
overflow_add-at c = let h = size_inside _ _ c.requires.1 c.loop-at.invariant c.in-Some.ensures in search rules

pub overflow_add-records : goal.overflow_add-records
overflow_add-records c = let i = c.loop-at.invariant in let f = i.few in let h = i.inside in search rules

pub loop-at-smaller : goal.loop-at-smaller
loop-at-smaller c = let h = size_some _ _ c.requires.1 c.loop-at.invariant c.in-Some.ensures in omega (arith, h, c.loop-at-test.true)

pub loop-at-preserved : goal.loop-at-preserved
loop-at-preserved c = stretch_next _ _ c.requires.1 c.loop-at.invariant c.in-Some.ensures c.loop-at-test.true

pub returns-after-loop-at : goal.returns-after-loop-at
returns-after-loop-at c = record { stretched = c.loop-at.invariant; from_lt_end = λ l h. omega (arith, l, c.loop-at-test.false) }

pub returns-in_default : goal.returns-in_default
returns-in_default c = record { stretched = c.loop-at.invariant; from_lt_end = λ l h. stretch_goes _ _ c.requires.1 c.loop-at.invariant c.in_default.ensures h }
