use Rattle.std.proofs.Common.{◌≡◌, ◌↔◌, ◌<◌, ℕ, IsTrue, false, slice_index_or, vec_len}
use Rattle.causes.proofs.StandingWaits.{StandingWaitHoldsBelow}
use Rattle.causes.proofs.lock_holders.marks_of_lock_holder.Given as goal

abbrev pub invariant-loop-place : goal.invariant-loop-place
invariant-loop-place l = record {
  long : vec_len l.marks ≡ l.locks;
  marks : (m : ℕ) → m < l.locks → IsTrue (slice_index_or l.marks.items m false) ↔ StandingWaitHoldsBelow l.events l.by m l.place;
}
