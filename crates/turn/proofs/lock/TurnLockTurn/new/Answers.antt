use Rattle.std.proofs.Common.{◌∙◌, subst}
use Rattle.turn.specs.Chairs.{chair_lock_id, AreUnusedChairs}
use Rattle.turn.proofs.lock.TurnLockTurn.new.Goals as goal

pub returns : goal.returns
returns g c =
    let made = c.in_ok-lock.ensures in
    let dealt = c.deal-chairs.ensures in (
      made.seats,
      dealt.all ∙ made.seats,
      subst (λ (b : g.row.B.Denot). AreUnusedChairs
          (chair_lock_id c.in_ok-lock.lock.table.shared.table_id g.row.ENTRIES) (g.K.Keeper.first b) c.deal-chairs.result.items)
          made.book dealt.fresh,
    )
