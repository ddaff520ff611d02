use Rattle.std.proofs.Common.{◌≡◌, ℕ, ◌↔◌, IsTrue, List, Bool, Some, true, false, nat_lt, slice_get, slice_index_or, subst, sym, ◌∙◌, arith}
use Rattle.std.proofs.lemmas.Bool.{ltb-true}
use Rattle.std.proofs.lemmas.Option.{slice_get-get_or, slice_get_past, get_or_from_slice_get, none-some}
use Rattle.base.specs.InOrderOnce.{Has}
use Rattle.book.proofs.Calling.WaitingPlaces.{waiting_place_marked}
use Rattle.book.proofs.waiters.Waiters.has.Goals as goal

pub returns-then-processor-lt-MOST_PROCESSORS : goal.returns-then-processor-lt-MOST_PROCESSORS
returns-then-processor-lt-MOST_PROCESSORS c =
    let marks = c.self.inside.marks in
    let p = c.args.processor in
    let marked = waiting_place_marked marks p in
    subst (λ (xs : List ℕ). IsTrue (slice_index_or marks p false) ↔ Has xs p) c.self.view_is (
      (λ yes. marked.1 (subst (λ (b : Bool). slice_get marks p ≡ Some b) yes (slice_get-get_or marks p false (omega arith)))),
      (λ has. get_or_from_slice_get marks p true false (marked.0 has)),
    )

pub returns-else-processor-lt-MOST_PROCESSORS : goal.returns-else-processor-lt-MOST_PROCESSORS
returns-else-processor-lt-MOST_PROCESSORS c =
    let marks = c.self.inside.marks in
    let p = c.args.processor in
    subst (λ (xs : List ℕ). IsTrue (nat_lt p 16) ↔ Has xs p) c.self.view_is (
      (λ yes. absurd (omega (arith, ltb-true p 16 yes, c.if-processor-lt-MOST_PROCESSORS.false))),
      (λ has. absurd (none-some true (sym (slice_get_past marks p (omega arith)) ∙ (waiting_place_marked marks p).0 has))),
    )
