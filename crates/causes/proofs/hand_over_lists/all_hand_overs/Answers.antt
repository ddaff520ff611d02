use Rattle.std.proofs.Common.{◌≡◌, ℕ, length, subst, sym, refl, arith}
use Rattle.std.specs.Global.{Vec}
use Rattle.std.proofs.lemmas.Option.{slice_get_read}
use Rattle.journal.proofs.Order.EventPlacesAndCounts.{event_place_inside}
use Rattle.causes.specs.HandOvers.{AreHandOvers}
use Rattle.causes.specs.News.{AreNewsRising}
use Rattle.causes.proofs.LastHandOvers.{hand_over_last_all}
use Rattle.causes.proofs.Rows.{AreRows, rows_next}
use Rattle.causes.proofs.hand_over_lists.all_hand_overs.Goals as goal

pub last_hand_overs-requires : goal.last_hand_overs-requires
last_hand_overs-requires c =
    let events = c.args.events.now in
    let place = c.loop-place.place in
    let rows = c.args.rows.now in
    let lt = c.loop-place-test.true in
    let long = c.requires.long in
    let read = c.index-rows-place.result in
    let there = slice_get_read rows (length rows) place read refl (omega arith) c.index-rows-place.is in
    let news : AreNewsRising events place c.deref.result.now =
    subst (AreNewsRising events place) (sym c.deref.ensures.value) (c.requires.news place read there) in
    record {
      tells = c.requires.tells;
      within = λ n has. (let edge = ((news.has n).0 has).leads.edge in event_place_inside events n edge.from edge.from_at);
      rising = news.order;
    }

pub loop-place-preserved : goal.loop-place-preserved
loop-place-preserved c =
    let events = c.args.events.now in
    let place = c.loop-place.place in
    let rows = c.args.rows.now in
    let lt = c.loop-place-test.true in
    let long = c.requires.long in
    let read = c.index-rows-place.result in
    let there = slice_get_read rows (length rows) place read refl (omega arith) c.index-rows-place.is in
    let news : AreNewsRising events place c.deref.result.now =
    subst (AreNewsRising events place) (sym c.deref.ensures.value) (c.requires.news place read there) in
    let old = c.loop-place.invariant in
    let last = c.loop-place.last in
    let row = c.in_ok-last_hand_overs.field-0 in
    let handed = λ (k : ℕ) (xs : Vec ℕ). AreHandOvers events k xs.items in
    let so_far : length last.items ≡ place = omega (arith, last.ok.0, old.long) in
    record {
      long = (let len = c.in_ok-push.ensures.len in let was = old.long in omega arith);
      rows =
          subst (AreRows handed) (sym c.in_ok-push.ensures.items)
          (rows_next handed last.items place row so_far old.rows
          (hand_over_last_all events place c.deref.result.now row.items news c.in_ok-last_hand_overs.ensures));
    }

pub returns : goal.returns
returns c =
    let end = c.loop-place-test.false in
    let top = c.loop-place.auto.place-end in
    record { long = omega (arith, c.loop-place.last.ok.0, c.loop-place.invariant.long); each = c.loop-place.invariant.rows }
