use Rattle.std.proofs.Common.{inl, inr, slice_index, arith}
use Rattle.explore.specs.WalkedWords.{walked_row_holds}
use Rattle.explore.proofs.TextWalks.UsesNoted.{uses_noted_unlocked}
use Rattle.explore.proofs.text.walked_words.WalkedUser.joined.Goals as goal

pub returns-clause-old : goal.returns-clause-old
returns-clause-old c = λ i store held user. record {
  until = let before = user.until in omega arith;
  stored = λ yes. let before = user.stored yes in let grown = c.stored_until_with.ensures.old in omega arith;
  unlocked = λ l lt. elim (user.unlocked l lt) [
    | inl has ↦ inl has
    | inr below ↦ (let grown = c.unlocked_until_with.ensures l lt in inr (omega arith))
  ];
}

pub returns-clause-new : goal.returns-clause-new
returns-clause-new c =
    let row = c.args.row.now in
    record {
      until = omega arith;
      stored = λ yes. c.stored_until_with.ensures.new yes;
      unlocked = λ l lt. uses_noted_unlocked (walked_row_holds row l) row.place (slice_index c.args.self.now.unlocked_until l) _ (c.unlocked_until_with.ensures l lt);
    }
