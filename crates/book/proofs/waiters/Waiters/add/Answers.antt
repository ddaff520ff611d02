use Rattle.std.proofs.Common.{◌≡◌, ℕ, ◌<◌, ◌⊎◌, ◌↔◌, List, true, slice_set, subst, arith}
use Rattle.base.specs.Limits.{most_processors}
use Rattle.base.specs.InOrderOnce.{Has}
use Rattle.book.specs.Waiters.{waiters_from}
use Rattle.book.proofs.Calling.WaitingPlaces.{waiting_place_added}
use Rattle.book.proofs.waiters.Waiters.add.Goals as goal

pub returns-then-processor-lt-MOST_PROCESSORS : goal.returns-then-processor-lt-MOST_PROCESSORS
returns-then-processor-lt-MOST_PROCESSORS c q =
    let marks = c.self.inside.marks in
    let new = waiters_from 0 (slice_set marks c.args.processor true) in
    let told = c.self.told in
    let added = waiting_place_added marks c.args.processor (omega arith) q in
    subst (λ (old : List ℕ). Has new q ↔ (((q ≡ c.args.processor) × (q < most_processors)) ⊎ Has old q)) c.self.view_is
    (subst (λ (n : ℕ). Has new q ↔ (((q ≡ c.args.processor) × (q < n)) ⊎ Has (waiters_from 0 marks) q)) told added)
