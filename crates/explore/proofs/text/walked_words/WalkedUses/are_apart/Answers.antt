use Rattle.std.proofs.Common.{◌≡◌, Some, rules, sym, subst, ◌∙◌}
use Rattle.std.specs.BTreeMap.{get}
use Rattle.std.specs.Ordering.{nat_cmp}
use Rattle.std.proofs.lemmas.Option.{same_Some}
use Rattle.explore.specs.WalkedWords.{IsWalkedUser}
use Rattle.explore.proofs.text.walked_words.WalkedUses.are_apart.Goals as goal

pub returns-in-Some : goal.returns-in-Some
returns-in-Some c = λ yes i store held used.
    let at : get nat_cmp c.args.self.now.phases c.args.row.now.phase ≡ Some c.in-Some.user = search rules in
    let same = same_Some used.user c.in-Some.user (sym used.at ∙ at) in
    c.is_apart.ensures yes i store held (subst (λ u. IsWalkedUser u i store held) same used.covered)
