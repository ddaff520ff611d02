use Rattle.std.proofs.Common.{rules, ◌≡◌, ◌==◌, ℕ, filter, not, refl, subst, sym}
use Rattle.std.proofs.lemmas.Fn.{filter_same}
use Rattle.base.specs.InOrderOnce.{Has}
use Rattle.judge.proofs.locksets.SetsHeld.{sets_held_without}
use Rattle.judge.proofs.locksets.held_locks.HeldLocks.remove.Goals as goal

pub returns-clause-same : goal.returns-clause-same
returns-clause-same c = λ has.
    let kept : c.retain.new.self.items ≡ filter (λ (q : ℕ). not (q == c.args.lock)) c.args.self.now.locks.items =
    filter_same _ (λ (q : ℕ). not (q == c.args.lock)) _ (λ x b f' k. search rules) c.args.self.now.locks.items
    c.retain.new.self.items c.retain.ensures.filtered in
    ((sets_held_without c.args.self.now.locks.items c.args.lock c.args.lock).0 (subst (λ xs. Has xs c.args.lock) kept has)).1 refl

pub returns-clause-others : goal.returns-clause-others
returns-clause-others c = λ l isnt.
    let kept : c.retain.new.self.items ≡ filter (λ (q : ℕ). not (q == c.args.lock)) c.args.self.now.locks.items =
    filter_same _ (λ (q : ℕ). not (q == c.args.lock)) _ (λ x b f' k. search rules) c.args.self.now.locks.items
    c.retain.new.self.items c.retain.ensures.filtered in
    let set = sets_held_without c.args.self.now.locks.items c.args.lock l in (
      λ has. (set.0 (subst (λ xs. Has xs l) kept has)).0,
      λ was. subst (λ xs. Has xs l) (sym kept) (set.1 (was, isnt)),
    )
