-- What a call leaves of a processor.
use Rattle.std.proofs.Common.{ℕ, ◌≡◌, Bool, Option, Result, Ok, Err, OnErr, OnOk, IfOk, List, refl, sym, ap, subst, ◌∙◌}
use Rattle.std.specs.Result.{result_err}
use Rattle.journal.specs.declared.event.Event.{Event}
use Rattle.journal.specs.declared.event.Kind.TheVariants.{Load}
use Rattle.book.specs.declared.refused.Refused.{Refused}
use Rattle.cluster.specs.Copies.PageReplica.{PageReplica}
use Rattle.cluster.specs.Copies.Local.{Local, calls, local_noted}
use Rattle.cluster.specs.AccessDone.{FetchAccessDone}
use Rattle.cluster.specs.ProcessorCalls.{IsProcessorCall}
use Rattle.cluster.specs.NewClusters.{SharedCluster}
use Rattle.cluster.specs.Covers.{HasCoverage, IsCoverAllowed}
use Rattle.cluster.specs.CuttingCalls.{IsCuttingCall}
use Rattle.cluster.specs.WaitingCalls.{IsWaitingCall}
use Rattle.cluster.specs.declared.waited.Waited.{Waited}
use Rattle.test_crews.specs.Crews.Crews.{IsOf, StaysItself}

-- and of a call that enters the book it is what that promises
pub by_call : (c : SharedCluster) (first : Option Refused) (many : ℕ) (absent : Local → Type 0) (done : Local → Local → Type 0)
    (added : List Event) (old new : Local) (refused : Option Refused)
    → IsOf c old → IsProcessorCall first many absent done added old new refused → StaysItself c old new refused
by_call c first many absent done added old new refused own call = record {
  own = record {
    lock_is = call.same.lock ∙ own.lock_is;
    sizes_are = call.same.sizes ∙ own.sizes_are;
    allowed = call.allowed own.allowed;
    covers = call.covers;
  };
  number = call.same.number;
  kept = call.kept;
}

-- and so of a cut
pub by_cut : (c : SharedCluster) (old new : Local) (refused : Option Refused)
    → IsOf c old → IsCuttingCall old new refused → StaysItself c old new refused
by_cut c old new refused own call = record {
  own = record {
    lock_is = call.same.lock ∙ own.lock_is;
    sizes_are = call.same.sizes ∙ own.sizes_are;
    allowed = call.allowed own.allowed;
    covers = call.covers;
  };
  number = call.same.number;
  kept = λ _. call.calls_are;
}

-- and so of a wait
pub by_wait : (c : SharedCluster) (old new : Local) (answer : Result Waited Refused)
    → IsOf c old → IsWaitingCall old new answer → StaysItself c old new (result_err answer)
by_wait c old new answer own call = record {
  own = record {
    lock_is = ap (λ (m : Local). m.lock) call.kept ∙ own.lock_is;
    sizes_are = ap (λ (m : Local). m.sizes) call.kept ∙ own.sizes_are;
    allowed = call.allowed own.allowed;
    covers = call.covers;
  };
  number = ap (λ (m : Local). m.number) call.kept;
  kept = λ _. call.calls_are;
}

-- what it does by itself leaves which books are allowed
by_itself : (c : SharedCluster) (old new : Local) (block : List Event) (copies : List PageReplica) (stored : List Bool)
    → IsOf c old → new ≡ record old { block = block; copies = copies; stored = stored } → HasCoverage new → IsOf c new
by_itself c old new block copies stored own is covers = record {
  lock_is = ap (λ (m : Local). m.lock) is ∙ own.lock_is;
  sizes_are = ap (λ (m : Local). m.sizes) is ∙ own.sizes_are;
  allowed =
      subst IsCoverAllowed (sym is) (
        own.allowed.0,
        record {
          book = own.allowed.1.book;
          views = own.allowed.1.views;
          mine = own.allowed.1.mine;
          kept = own.allowed.1.kept;
        },
      );
  covers = covers;
}

-- a refused access leaves it as it was
by_refusal : (c : SharedCluster) (old new : Local) (refused : Option Refused) → IsOf c old → new ≡ old
    → StaysItself c old new refused
by_refusal c old new refused own is = record {
  own = subst (IsOf c) (sym is) own;
  number = ap (λ (m : Local). m.number) is;
  kept = λ _. ap calls is;
}

-- a load
pub by_load : (c : SharedCluster) (old new : Local) (a : ℕ) (r : Result ℕ Refused) → IsOf c old → OnErr r (new ≡ old)
    → IfOk r (λ v. new ≡ local_noted old (Load a v)) → HasCoverage new → StaysItself c old new (result_err r)
by_load c old new a (Ok v) own err ok covers = record {
  own = by_itself c old new (local_noted old (Load a v)).block old.copies old.stored own ok covers;
  number = ap (λ (m : Local). m.number) ok;
  kept = λ some. absurd (some refl);
}
by_load c old new a (Err e) own err ok covers = by_refusal c old new (result_err {T = ℕ} (Err e)) own err

-- a fetch
pub by_fetch : {A : Type 0} (c : SharedCluster) (old new : Local) (n : ℕ) (r : Result A Refused) → IsOf c old
    → OnErr r (new ≡ old) → OnOk r (FetchAccessDone old n new) → HasCoverage new → StaysItself c old new (result_err r)
by_fetch c old new n (Ok x) own err ok covers = record {
  own = by_itself c old new _ _ old.stored own ok.after covers;
  number = ap (λ (m : Local). m.number) ok.after;
  kept = λ some. absurd (some refl);
}
by_fetch {A} c old new n (Err e) own err ok covers = by_refusal c old new (result_err {T = A} (Err e)) own err
