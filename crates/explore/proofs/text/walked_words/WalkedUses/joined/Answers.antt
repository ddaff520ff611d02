use Rattle.std.proofs.Common.{◌≡◌, Some, rules, sym, subst, ◌∙◌}
use Rattle.std.specs.BTreeMap.{get}
use Rattle.std.specs.Ordering.{nat_cmp}
use Rattle.std.proofs.lemmas.Option.{same_Some}
use Rattle.explore.specs.WalkedWords.{IsWalkedUser}
use Rattle.explore.proofs.text.walked_words.WalkedUses.joined.Goals as goal

pub returns-in-Some-clause-old : goal.returns-in-Some-clause-old
returns-in-Some-clause-old c = λ u there i store held user.
    let at : get nat_cmp c.args.self.now.phases c.args.row.now.phase ≡ Some c.in-Some.user = search rules in
    let same = same_Some u c.in-Some.user (sym there ∙ at) in
    c.joined.ensures.old i store held (subst (λ x. IsWalkedUser x i store held) same user)
