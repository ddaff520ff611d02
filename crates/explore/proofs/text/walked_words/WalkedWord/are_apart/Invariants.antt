use Rattle.std.proofs.Common.{◌≢◌, ℕ, ◌<◌, Bool}
use Rattle.explore.specs.WalkedWords.{HasWalkedUser, IsWalkedApart}
use Rattle.explore.proofs.text.walked_words.WalkedWord.are_apart.Given as goal

abbrev pub invariant-loop-other : goal.invariant-loop-other
invariant-loop-other l = (q i : ℕ) (store : Bool) (held : ℕ → Bool) → q < l.other → q ≢ l.processor
    → HasWalkedUser l.self q l.row.phase i store held → IsWalkedApart l.row l.stores q i store held
