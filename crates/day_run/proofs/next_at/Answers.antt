use Rattle.day_run.proofs.PartLaws.{next_few, next_broken, next_short, next_whole}
use borrow.Author.Rules.{rules}
use Rattle.day_run.proofs.next_at.Goals as goal

pub returns-then-left-lt-LENGTH_BYTES : goal.returns-then-left-lt-LENGTH_BYTES
returns-then-left-lt-LENGTH_BYTES c = let a = c.args in next_few a.bytes.now a.at c.requires (search rules)

pub returns-then-n-gt-MOST_BYTES : goal.returns-then-n-gt-MOST_BYTES
returns-then-n-gt-MOST_BYTES c =
    let a = c.args in next_broken a.bytes.now a.at c.requires (search rules) _ c.four_bytes-n.ensures (search rules)

pub returns-then-left-n : goal.returns-then-left-n
returns-then-left-n c =
    let a = c.args in next_short a.bytes.now a.at c.requires (search rules) _ c.four_bytes-n.ensures (search rules) (search rules)

pub returns : goal.returns
returns c =
    let a = c.args in next_whole a.bytes.now a.at c.requires (search rules) _ c.four_bytes-n.ensures (search rules) (search rules)
