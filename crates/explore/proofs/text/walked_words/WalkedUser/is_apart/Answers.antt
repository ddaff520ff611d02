use Rattle.explore.proofs.TextWalks.UsesNoted.{uses_noted_locked, uses_noted_made}
use Rattle.explore.proofs.text.walked_words.WalkedUser.is_apart.Goals as goal

pub returns-then-conflicting_until-made : goal.returns-then-conflicting_until-made
returns-then-conflicting_until-made c = λ yes i store held user.
    uses_noted_made c.args.row.now c.args.stores c.args.processor c.args.self.now i store held c.conflicting_until.result user
    c.conflicting_until.ensures c.if-conflicting_until-made.true

pub returns-else-conflicting_until-made : goal.returns-else-conflicting_until-made
returns-else-conflicting_until-made c = λ yes i store held user.
    let lock = c.is_locked_since.ensures yes in
    uses_noted_locked c.args.row.now c.args.stores c.args.processor c.args.self.now i store held lock.0 user lock.1 lock.2 lock.3
