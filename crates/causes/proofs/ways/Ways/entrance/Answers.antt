use Rattle.std.proofs.Common.{◌≡◌, ℕ, ◌<◌, inl, inr, List, length, slice_get, slice_index_or, subst, sym, refl, ap, ◌∙◌, arith}
use Rattle.std.specs.Global.{Vec}
use Rattle.std.proofs.lemmas.Bool.{cases_eq, false≢true}
use Rattle.std.proofs.lemmas.Option.{same_Some, slice_get-get_or, slice_get_read, slice_get_within}
use Rattle.journal.specs.declared.event.Event.{Event}
use Rattle.journal.specs.Pasts.{UpTo}
use Rattle.causes.specs.declared.ways.Ways.{Ways}
use Rattle.causes.specs.HandOvers.{AreHandOvers}
use Rattle.causes.specs.Paths.{ArePathWays}
use Rattle.causes.proofs.ReachedPaths.{reached_path_up_to_longer}
use Rattle.causes.proofs.ways.Ways.entrance.Goals as goal

-- the row that is read has the event's entrances
row_read : (j : List Event) (x : Ways) (k : ℕ) (row : Vec ℕ) (places : List ℕ) → ArePathWays j x → k < length j
    → row ≡ slice_index_or x.hand_overs.items k row → places ≡ row.items → AreHandOvers j k places
row_read j x k row places tells lt read is =
    let long = tells.hand_overs.long in
    subst (AreHandOvers j k) (sym is)
    (tells.hand_overs.each k row
    (slice_get_read x.hand_overs.items (length x.hand_overs.items) k row refl (omega arith) read))

pub reaches-requires-clause-place : goal.reaches-requires-clause-place
reaches-requires-clause-place c =
    let events = c.args.events.now in
    let places = c.deref-entrance-items.result.now in
    let index = c.loop-entrance.entrance-index in
    let are =
    row_read events c.args.self.now c.args.place c.index.result.now places c.requires.tells c.requires.place
    c.index.ensures c.deref-entrance-items.ensures.value in
    let leads =
    are.each (slice_index_or places index 0) (index, slice_get-get_or places index 0 c.loop-entrance-test.true) in
    let before = leads.leads.edge.before in
    let within = c.requires.place in
    omega arith

pub returns-then-reaches : goal.returns-then-reaches
returns-then-reaches c =
    let events = c.args.events.now in
    let places = c.deref-entrance-items.result.now in
    let index = c.loop-entrance.entrance-index in
    let are =
    row_read events c.args.self.now c.args.place c.index.result.now places c.requires.tells c.requires.place
    c.index.ensures c.deref-entrance-items.ensures.value in (
      (are.each (slice_index_or places index 0) (index, slice_get-get_or places index 0 c.loop-entrance-test.true)).leads,
      c.reaches.ensures.0 c.if-reaches.true,
    )

pub loop-entrance-preserved : goal.loop-entrance-preserved
loop-entrance-preserved c = λ m n lt at up.
    let events = c.args.events.now in
    let places = c.deref-entrance-items.result.now in
    let index = c.loop-entrance.entrance-index in
    elim (cases_eq m index) [
      | inl is ↦
          (let here = slice_get-get_or places index 0 c.loop-entrance-test.true in
          let same : n ≡ slice_index_or places index 0 =
          same_Some n (slice_index_or places index 0) (sym at ∙ ap (slice_get places) is ∙ here) in
          false≢true (sym c.if-reaches.false
          ∙ c.reaches.ensures.1 (subst (λ k. UpTo events k c.args.from) same up)))
      | inr isnt ↦ c.loop-entrance.invariant m n (omega arith) at up
    ]

pub returns : goal.returns
returns c = λ i news up.
    let events = c.args.events.now in
    let places = c.deref-entrance-items.result.now in
    let are =
    row_read events c.args.self.now c.args.place c.index.result.now places c.requires.tells c.requires.place
    c.index.ensures c.deref-entrance-items.ensures.value in
    let x = are.all i news in
    let end = c.loop-entrance-test.false in
    let lt = slice_get_within places x.1.0 x.0 x.1.1 in
    c.loop-entrance.invariant x.1.0 x.0 (omega arith) x.1.1 (reached_path_up_to_longer events c.args.from i x.0 up x.2)
