use Rattle.explore.proofs.Locksets.Noted.{lockset_noted_holds_none}
use Rattle.explore.proofs.text.walked_rows.WalkedRow.new.Goals as goal

pub returns-clause-held : goal.returns-clause-held
returns-clause-held c = λ q. lockset_noted_holds_none 32 q
