use Rattle.std.proofs.Common.{refl, ap, ◌∙◌}
use Rattle.std.proofs.lemmas.Result.{err_from_is_err_and}
use Rattle.lists.specs.Walk.{refused}
use Rattle.tags.specs.Tags.{at, local_to_global}
use Rattle.exports.proofs.MapLaws.{by_clock, no_clock}
use Rattle.exports.proofs.mapped_global.Goals as goal

pub returns : goal.returns
returns c = by_clock local_to_global c.args.clock.now (at c.args.tag.0 c.args.tag.1) refl c.in_ok-clock_in.ensures.0 c.in_ok-clock_in.ensures.1 c.local_to_global.ensures

pub returns-in_err-clock_in : goal.returns-in_err-clock_in
returns-in_err-clock_in c =
    let p = err_from_is_err_and c.from_residual.result c.from_residual.ensures.1 in
    rw (p.1, p.2) (ap refused c.in_err-clock_in.ensures.1 ∙ no_clock local_to_global c.args.clock.now (at c.args.tag.0 c.args.tag.1) refl c.in_err-clock_in.ensures.0)
