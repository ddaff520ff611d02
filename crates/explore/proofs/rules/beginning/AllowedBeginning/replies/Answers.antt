use Rattle.std.proofs.Common.{◌≤◌, length, sym, subst}
use Rattle.conformance.specs.Follows.{calls_of}
use Rattle.explore.specs.Machines.{machine_rows}
use Rattle.explore.specs.OutcomeTelling.{AreOutcomeTellingReplies}
use Rattle.explore.proofs.ToldRows.{told_rows_few, told_rows_replies}
use Rattle.explore.proofs.rules.beginning.AllowedBeginning.replies.Goals as goal

pub replies_of_all-requires : goal.replies_of_all-requires
replies_of_all-requires c = λ p row at.
    subst (λ g. length (calls_of g p) ≤ length row.items) (sym c.deref.ensures.value)
    (told_rows_few c.requires.told.0 c.args.steps.now c.args.self.now.events.items c.requires.told.1 c.requires.told.2.beginning.begins p row at)

pub returns : goal.returns
returns c = λ s lawful tells.
    subst (λ g. AreOutcomeTellingReplies s c.args.telling g (machine_rows c.in_ok-replies.replies.items)) c.deref.ensures.value
    (told_rows_replies s c.args.telling c.deref.result.now c.args.steps.now c.in_ok-replies.replies.items lawful
    (record { long = c.in_ok-replies.ensures.long; each = c.in_ok-replies.ensures.each }))
