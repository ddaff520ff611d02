use Rattle.std.proofs.Common.{◌≡◌, ◌⊎◌, IsTrue}
use Rattle.base.specs.InOrderOnce.{Has}
use Rattle.explore.specs.declared.text.unranked_locks.TextAsk.{TextAsk}
use Rattle.explore.specs.WalkedWords.{walked_row_holds}
use Rattle.explore.proofs.text.unranked_locks.note_text_asks_for.Given as goal

abbrev pub invariant-loop-held : goal.invariant-loop-held
invariant-loop-held l = (x : TextAsk) → Has l.asks.items x → Has l.initial.asks.items x
    ⊎ ((x.processor ≡ l.processor) × (x.place ≡ l.at.place) × (x.asked ≡ l.asked) × IsTrue (walked_row_holds l.at x.held))
