use Rattle.std.proofs.Common.{ℕ, List, length, ap, subst, arith}
use Rattle.base.specs.InOrderOnce.{Has}
use Rattle.page.specs.Contents.{Contents}
use Rattle.page.proofs.page.Page.apply.Goals as goal

pub overwrite_page-requires-clause-in_range : goal.overwrite_page-requires-clause-in_range
overwrite_page-requires-clause-in_range c x has =
    let e = ap (λ (q : Contents). length q.words) c.self.view_is in
    let here = ap (λ (ws : List ℕ). length ws) c.deref_mut.ensures.value in
    let fits = c.requires.in_range x (subst (λ (ws : List (ℕ × ℕ)). Has ws x) c.words.ensures.words has) in
    omega arith

pub overwrite_page-requires-clause-few : goal.overwrite_page-requires-clause-few
overwrite_page-requires-clause-few c =
    let here = ap (λ (ws : List ℕ). length ws) c.deref_mut.ensures.value in
    omega (arith, c.self.invariant.0)
