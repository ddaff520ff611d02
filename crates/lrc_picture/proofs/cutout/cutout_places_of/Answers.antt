use Rattle.std.proofs.Common.{ℕ, ◌+◌, slice_index_or, vec_len, ap, subst, sym, ◌∙◌, arith}
use Rattle.std.specs.Global.{Vec}
use Rattle.std.proofs.lemmas.Bool.{false≢true}
use Rattle.std.proofs.lemmas.Option.{slice_get-get_or}
use Rattle.causes.specs.Part.{IsInPart}
use Rattle.causes.specs.FinalWaits.{AreThoseInFinalWait}
use Rattle.causes.proofs.StandingWaits.{standing_wait_those_next, standing_wait_those_others}
use Rattle.journal.specs.declared.event.Event.{Event}
use Rattle.journal.specs.declared.event.Kind.TheVariants.{Load}
use Rattle.journal.specs.DidEvent.{event}
use Rattle.journal.proofs.Order.EventPlacesAndCounts.{event_place_same}
use Rattle.lrc_picture.specs.Cutout.{IsCutoutPlace}
use Rattle.lrc_picture.proofs.cutout.cutout_places_of.Goals as goal
use Rattle.lrc_picture.proofs.cutout.cutout_places_of.Goals.{then-has+in_ok-push, else-has}

pub loop-place-preserved : goal.loop-place-preserved
loop-place-preserved c =
    let n = c.loop-place.place in
    let part = c.args.part.now in
    let events = c.args.events.now in
    let P : ℕ → Type 0 = IsCutoutPlace part events in
    let old = c.loop-place.invariant in
    let few = old.few in
    let places = c.loop-place.places.items in
    let e : Event = slice_index_or events n (event 0 (Load 0 0)) in
    let at = slice_get-get_or events n (event 0 (Load 0 0)) c.loop-place-test.true in
    record {
      places = elim c.if-has.branch [
        | then-has+in_ok-push w ↦
            subst (λ (v : Vec ℕ). AreThoseInFinalWait P (n + 1) v.items) (sym w.places-is)
            (subst (AreThoseInFinalWait P (n + 1)) (sym w.in_ok-push.ensures.items)
            (standing_wait_those_next P n places (e, at, c.has.ensures.0 w.if-has.true) old.places))
        | else-has w ↦
            subst (λ (v : Vec ℕ). AreThoseInFinalWait P (n + 1) v.items) (sym w.places-is)
            (standing_wait_those_others P n places
            (λ is. false≢true
            (sym w.if-has.false ∙ c.has.ensures.1
            (subst (λ (f : Event). IsInPart part n f.processor) (event_place_same events n is.0 e is.1 at) is.2))) old.places)
      ];
      few = elim c.if-has.branch [
        | then-has+in_ok-push w ↦
            (let len = w.in_ok-push.ensures.len in
            let is = ap (λ (v : Vec ℕ). vec_len v) w.places-is in
            omega arith)
        | else-has w ↦ (let is = ap (λ (v : Vec ℕ). vec_len v) w.places-is in omega arith)
      ];
    }
