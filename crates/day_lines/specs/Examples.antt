-- Document 01's worked lines, and some more, to the byte. Assumes nothing.
use Rattle.std.specs.Prelude.{◌≡◌, refl, true, false, [], ◌∷◌, Ok}
use Rattle.lists.specs.Lists.{keep, from}
use Rattle.lists.specs.Ranges.{those}
use Rattle.key_set.specs.Sets.{has, bit, keys_from}
use Rattle.table_rows.specs.Bytes.{be}
use Rattle.table_rows.specs.Kinds.{kinds, kind_of, count_place, count, place}
use Rattle.table_rows.specs.Rows.{row_place, field}
use Rattle.tags.specs.Tags.{at}
use Rattle.machine.specs.Machine.{ready}
use Rattle.day_lines.specs.Text.{text, decimal, decimal_in, joined, listed}
use Rattle.day_lines.specs.Lines.{by_level, entry_of, reaction_list, action_list, tag_text, head_text, ready_line, line_of, table_line}

pub accepted : table_line (Ok tt) ≡ 116 ∷ 97 ∷ 98 ∷ 108 ∷ 101 ∷ 32 ∷ 111 ∷ 107 ∷ 10 ∷ []
accepted = refl

-- no image here: a reaction that the table lacks reads as level 0
pub popped :
    line_of [] (ready (record { tag = at 5 0; terminal = false; work = true; network = false; held = false; reactions = 1 ∷ (0 ∷ []); actions = [] }))
    ≡ text "ready 5 0 terminal 0 work 1 network 0 held 0 reactions 0:0 actions -\n"
unfolding ready_line head_text tag_text reaction_list action_list by_level entry_of listed joined decimal decimal_in keep from those has bit keys_from be kinds kind_of count_place count place row_place field
popped = refl

pub largest : decimal 4611686018427387903 ≡ text "4611686018427387903"
unfolding decimal decimal_in
largest = refl
