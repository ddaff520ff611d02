use Rattle.std.proofs.Common.{◌≡◌, ◌∙◌, Some, ap, subst, sym, slice_get, arith}
use Rattle.std.proofs.lemmas.Bool.{ltb-true}
use Rattle.std.proofs.lemmas.Option.{slice_get-get_or}
use Rattle.journal.proofs.Order.HappensBefore.{happens_before_begins_within, happens_before_ends_within}
use Rattle.test_memory.proofs.reaching.reach_table.ReachTable.happens_before.Goals as goal

pub returns-else-first-len : goal.returns-else-first-len
returns-else-first-len c = λ j table.
    let found = c.in-Some.ensures.lookup in
    let row = c.in-Some.row.now in
    let at = slice_get-get_or c.deref.result.now c.args.second row found.3.0 ∙ ap Some (sym found.1) in
    let theirs =
    table.rows c.args.second row (subst (λ xs. slice_get xs c.args.second ≡ Some row) c.deref.ensures.value at) in
    let over = c.if-first-len.false in
    let long = theirs.long in
    let len = c.len.ensures in (
      λ t. (let lt = ltb-true c.args.first c.len.result t in absurd (omega arith)),
      λ h. (let lt = happens_before_begins_within j h in absurd (omega arith)),
    )

pub returns-in-None : goal.returns-in-None
returns-in-None c = λ j table. (
  λ t. absurd (cc t),
  λ h.
      let lt = happens_before_ends_within j h in
      let over = c.in-None.ensures.lookup.3 in
      let long = table.long in
      absurd (omega (arith, c.deref.ensures.len)),
)
