use Rattle.std.proofs.Common.{◌≡◌, ◌∙◌, ℕ, ◌<◌, ◌⊎◌, ◌↔◌, List, sym, subst, arith}
use Rattle.std.proofs.lemmas.Bool.{true≢false}
use Rattle.std.proofs.lemmas.Option.{slice_get_within}
use Rattle.base.specs.Limits.{most_processors}
use Rattle.base.specs.InOrderOnce.{Has}
use Rattle.book.proofs.Calling.WaitingPlaces.{IsWaitingPlaceWithinMost, waiting_places_one_found, waiting_places_not_found}
use Rattle.book.proofs.done_waiting.all_done_waiting.Goals.{then-is_done_waiting, else-is_done_waiting}
use Rattle.book.proofs.done_waiting.all_done_waiting.Goals as goal

pub loop-p-preserved : goal.loop-p-preserved
loop-p-preserved c =
    let Q : ℕ → Type 0 = IsWaitingPlaceWithinMost c.args.awaits.now c.args.flags.now c.args.mail.now c.args.awaited in
    elim c.if-is_done_waiting.branch [
      | then-is_done_waiting w ↦ (let come = c.is_done_waiting.ensures.0 w.if-is_done_waiting.true in
          waiting_places_one_found Q c.loop-p.p c.loop-p.waiters c.if-is_done_waiting.waiters (λ q x. x.0) c.loop-p.invariant
          (λ q. subst (λ (ns : List ℕ). Has ns q ↔ (((q ≡ c.loop-p.p) × (q < most_processors)) ⊎ Has c.loop-p.waiters q))
          (sym w.waiters-is) (w.add.ensures q))
          (λ few. (few, come.0, come.1)))
      | else-is_done_waiting w ↦ waiting_places_not_found Q c.loop-p.p c.loop-p.waiters c.if-is_done_waiting.waiters c.loop-p.invariant w.waiters-is
          (λ x. true≢false (sym (c.is_done_waiting.ensures.1 (x.1, x.2)) ∙ w.if-is_done_waiting.false))
    ]

pub returns : goal.returns
returns c q =
    let found = c.loop-p.invariant q in
    let end = c.loop-p-test.false in (
      (λ has. (found.0 has).1),
      (λ x. (let lt = slice_get_within c.args.awaits.now q _ x.1 in found.1 (omega (arith, lt), x))),
    )
