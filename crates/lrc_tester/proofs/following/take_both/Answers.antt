use Rattle.std.proofs.Common.{[], ◌∷◌, ◌++◌}
use Rattle.lrc_tester.proofs.EventsNoted.{events_noted_second}
use Rattle.lrc_tester.proofs.following.take_both.Goals as goal

pub returns-then-take_note-clause-noted : goal.returns-then-take_note-clause-noted
returns-then-take_note-clause-noted c s g rows old =
    c.take_note-then-take_note.ensures.noted s (g ++ c.args.first ∷ []) rows (c.if-take_note.ensures.noted s g rows old)

pub returns-else-take_note-clause-noted : goal.returns-else-take_note-clause-noted
returns-else-take_note-clause-noted c s g rows old =
    events_noted_second s c.take_note.new.come g c.args.first c.args.second c.take_note.result c.if-take_note.false (c.take_note.ensures.noted s g rows old)
