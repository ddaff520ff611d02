use Rattle.std.proofs.Common.{ℕ, ◌≡◌, Some, List, slice_get, slice_set, sym, subst₂}
use Rattle.cluster.specs.declared.keeper.View.{View}
use Rattle.cluster.specs.KeptViews.{KeptWithViews, SeesKeptView}
use Rattle.cluster.proofs.LeavingCalls.{leaving_call_may_leave}
use Rattle.cluster.proofs.cluster.Cluster.give_entered_book.Goals as goal

pub leave-requires-clause-inside : goal.leave-requires-clause-inside
leave-requires-clause-inside g c =
    let call = c.requires.call in
    let P : ℕ → View → Type 0 =
    λ p v. (views : List View) → slice_get views p ≡ Some v → KeptWithViews call.1 views
    → (w : View) × SeesKeptView call.1 c.args.book p v w × KeptWithViews c.args.book (slice_set views p w) in (
      call.1,
      call.4,
      subst₂ P (sym call.3.place_is) (sym call.3.view_is) (leaving_call_may_leave call.0 call.1 call.2 c.args.book call.5),
    )
