use Rattle.std.proofs.Common.{◌≡◌, ◌↔◌, ℕ, ◌+◌, ◌<◌, ◌≤◌, List, Some, inl, inr, length, slice_get, slice_index, slice_index_or, subst, sym, refl, ap, ◌∙◌, arith}
use Rattle.std.specs.Global.{Vec}
use Rattle.std.proofs.lemmas.Bool.{cases_lt, false≢true}
use Rattle.std.proofs.lemmas.Option.{slice_get_read, slice_get_within}
use Rattle.base.specs.InOrderOnce.{InOrder}
use Rattle.journal.specs.DidEvent.{event}
use Rattle.journal.specs.declared.event.Event.{Event}
use Rattle.journal.specs.Events.{event_interval_at}
use Rattle.journal.proofs.Order.EventPlacesAndCounts.{event_place_inside}
use Rattle.judge.specs.JudgedSizes.{most_judged_processors}
use Rattle.causes.specs.declared.index.Index.{Index}
use Rattle.causes.specs.declared.step.Step.{Step}
use Rattle.causes.specs.Index.{AreIndexedClosingsOf, IsIndex}
use Rattle.causes.specs.News.{IsNewsOfStep}
use Rattle.causes.proofs.FreshNews.{HasFreshNewsBelow, IsFreshNewsClosing, IsFreshNewsOnceIf, fresh_news_below_all, fresh_news_below_next, fresh_news_below_none, fresh_news_below_others, fresh_news_once_push}
use Rattle.causes.proofs.LookedUpIndex.{looked_up_closing_at, looked_up_closings_rise}
use Rattle.causes.proofs.news.add_news.Goals as goal
use Rattle.causes.proofs.news.add_news.Goals.{then-is_news_edge+in_ok-push, else-is_news_edge}

-- the row that is read has the places of q's closings
row_read : (j : List Event) (x : Index) (q : ℕ) (row : Vec ℕ) → IsIndex j x → q < most_judged_processors
    → row ≡ slice_index_or x.closings.items q row → AreIndexedClosingsOf j q row.items
row_read j x q row is lt read =
    let long = is.closings.long in
    is.closings.each q row (slice_get_read x.closings.items (length x.closings.items) q row refl (omega arith) read)

-- what is told of the places of a slice is told of the row that it is
told_of_row : (xs row : List ℕ) (known limit r : ℕ) → known ≡ limit → xs ≡ row
    → ((n i : ℕ) → slice_get xs n ≡ Some i → (n < r) ↔ (i < known))
    → (n i : ℕ) → slice_get row n ≡ Some i → (n < r) ↔ (i < limit)
told_of_row xs row known limit r same is tells =
    subst (λ ys. (n i : ℕ) → slice_get ys n ≡ Some i → (n < r) ↔ (i < limit)) is
    (subst (λ l. (n i : ℕ) → slice_get xs n ≡ Some i → (n < r) ↔ (i < l)) same tells)

-- what is news isn't among the first r closings, which stand before the place up to which q's events were known
late_news : {j : List Event} {x : Step} {q : ℕ} {row : List ℕ} (r : ℕ) → AreIndexedClosingsOf j q row
    → ((n i : ℕ) → slice_get row n ≡ Some i → (n < r) ↔ (i < slice_index x.before.items q))
    → (i : ℕ) → IsNewsOfStep j x q i → r ≤ event_interval_at j q i
late_news {j} {x} {q} {row} r are tells i new =
    let here = tells (event_interval_at j q i) i (looked_up_closing_at are new.closes) in
    let late = new.late in
    elim (cases_lt (event_interval_at j q i) r) [ inl lt ↦ (let below = here.0 lt in absurd (omega arith)) | inr le ↦ le ]

-- and it is among the first r ones, which are known now
known_news : {j : List Event} {x : Step} {q : ℕ} {row : List ℕ} (r : ℕ) → AreIndexedClosingsOf j q row
    → ((n i : ℕ) → slice_get row n ≡ Some i → (n < r) ↔ (i < slice_index x.after.items q))
    → (i : ℕ) → IsNewsOfStep j x q i → event_interval_at j q i < r
known_news {j} {x} {q} {row} r are tells i new =
    (tells (event_interval_at j q i) i (looked_up_closing_at are new.closes)).1 new.known

pub index_places_before-first-requires : goal.index_places_before-first-requires
index_places_before-first-requires c =
    let mine = row_read c.args.events.now c.args.index.now c.args.by c.index-closings.result.now c.requires.index c.requires.by
    c.index-closings.ensures in
    subst (InOrder (λ i m. i < m)) (sym c.deref-3.ensures.value) (looked_up_closings_rise mine)

pub index_places_before-end-requires : goal.index_places_before-end-requires
index_places_before-end-requires c =
    let mine = row_read c.args.events.now c.args.index.now c.args.by c.index-closings.result.now c.requires.index c.requires.by
    c.index-closings.ensures in
    subst (InOrder (λ i m. i < m)) (sym c.deref-4.ensures.value) (looked_up_closings_rise mine)

pub loop-number-init : goal.loop-number-init
loop-number-init c =
    let events = c.args.events.now in
    let x = c.args.step.now in
    let q = c.args.by in
    let row = c.index-closings.result.now in
    let first = c.index_places_before-first.result in
    let mine = row_read events c.args.index.now q row c.requires.index c.requires.by c.index-closings.ensures in
    let tells = told_of_row c.deref-3.result.now row.items c.known_in_cut-known.result (slice_index x.before.items q) first (c.known_in_cut-known.ensures ∙ ap (λ (xs : List ℕ). slice_index xs q) c.deref.ensures.value) c.deref-3.ensures.value
    c.index_places_before-first.ensures.before in
    record {
      from = omega arith;
      has = fresh_news_below_none events x q first c.args.places.now.items (late_news first mine tells);
      once = λ once apart. once;
    }

pub is_news_edge-requires-clause-to : goal.is_news_edge-requires-clause-to
is_news_edge-requires-clause-to c =
    slice_get_within c.args.events.now c.args.step.now.place c.requires.step.event c.requires.step.at

pub is_news_edge-requires-clause-from : goal.is_news_edge-requires-clause-from
is_news_edge-requires-clause-from c =
    let events = c.args.events.now in
    let q = c.args.by in
    let n = c.loop-number.number in
    let row = c.index-closings.result.now in
    let p = c.index-place.result.now in
    let mine = row_read events c.args.index.now q row c.requires.index c.requires.by c.index-closings.ensures in
    let lt = c.loop-number-test.true in
    let within = c.index_places_before-end.ensures.within in
    let long = ap (λ (xs : List ℕ). length xs) c.deref-4.ensures.value in
    let at = slice_get_read row.items (length row.items) n p refl (omega arith) c.index-place.ensures in
    let here = mine.each n p at in
    event_place_inside events p (event q here.closes.kind) here.closes.does

pub loop-number-preserved : goal.loop-number-preserved
loop-number-preserved c =
    let events = c.args.events.now in
    let x = c.args.step.now in
    let q = c.args.by in
    let n = c.loop-number.number in
    let row = c.index-closings.result.now in
    let p = c.index-place.result.now in
    let first = c.args.places.now.items in
    let places = c.loop-number.places.items in
    let was = c.loop-number.invariant in
    let mine = row_read events c.args.index.now q row c.requires.index c.requires.by c.index-closings.ensures in
    let lt = c.loop-number-test.true in
    let within = c.index_places_before-end.ensures.within in
    let long = ap (λ (xs : List ℕ). length xs) c.deref-4.ensures.value in
    let at = slice_get_read row.items (length row.items) n p refl (omega arith) c.index-place.ensures in
    let begins = told_of_row c.deref-3.result.now row.items c.known_in_cut-known.result (slice_index x.before.items q) c.index_places_before-first.result (c.known_in_cut-known.ensures ∙ ap (λ (xs : List ℕ). slice_index xs q) c.deref.ensures.value)
    c.deref-3.ensures.value c.index_places_before-first.ensures.before n p at in
    let ends = told_of_row c.deref-4.result.now row.items c.known_in_cut-now.result (slice_index x.after.items q) c.index_places_before-end.result (c.known_in_cut-now.ensures ∙ ap (λ (xs : List ℕ). slice_index xs q) c.deref-2.ensures.value)
    c.deref-4.ensures.value c.index_places_before-end.ensures.before n p at in
    let from = was.from in
    let here : IsFreshNewsClosing events x q n p = record {
      closing = mine.each n p at;
      late = elim (cases_lt p (slice_index x.before.items q)) [ inl below ↦ (let early = begins.1 below in absurd (omega arith)) | inr ge ↦ ge ];
      known = ends.0 lt;
    } in
    record {
      from = omega arith;
      has = elim c.if-is_news_edge.branch [
        | then-is_news_edge+in_ok-push w ↦
            subst (λ (v : Vec ℕ). HasFreshNewsBelow events x q (n + 1) first v.items) (sym w.places-is)
            (subst (HasFreshNewsBelow events x q (n + 1) first) (sym w.in_ok-push.ensures.items)
            (fresh_news_below_next first places here (w.if-is_news_edge.ensures.0 refl) was.has))
        | else-is_news_edge w ↦
            subst (λ (v : Vec ℕ). HasFreshNewsBelow events x q (n + 1) first v.items) (sym w.places-is)
            (fresh_news_below_others first places here (λ leads. false≢true (w.if-is_news_edge.ensures.1 leads)) was.has)
      ];
      once = elim c.if-is_news_edge.branch [
        | then-is_news_edge+in_ok-push w ↦
            subst (λ (v : Vec ℕ). IsFreshNewsOnceIf events q first v.items) (sym w.places-is)
            (subst (IsFreshNewsOnceIf events q first) (sym w.in_ok-push.ensures.items)
            (fresh_news_once_push first places here was.has was.once))
        | else-is_news_edge w ↦ subst (λ (v : Vec ℕ). IsFreshNewsOnceIf events q first v.items) (sym w.places-is) was.once
      ];
    }

pub returns-clause-has : goal.returns-clause-has
returns-clause-has c =
    let events = c.args.events.now in
    let x = c.args.step.now in
    let q = c.args.by in
    let row = c.index-closings.result.now in
    let mine = row_read events c.args.index.now q row c.requires.index c.requires.by c.index-closings.ensures in
    let ends = told_of_row c.deref-4.result.now row.items c.known_in_cut-now.result (slice_index x.after.items q) c.index_places_before-end.result (c.known_in_cut-now.ensures ∙ ap (λ (xs : List ℕ). slice_index xs q) c.deref-2.ensures.value)
    c.deref-4.ensures.value c.index_places_before-end.ensures.before in
    let over = c.loop-number-test.false in
    fresh_news_below_all events x q c.loop-number.number c.args.places.now.items c.loop-number.places.items
    (λ i new. (let few = known_news c.index_places_before-end.result mine ends i new in omega arith)) c.loop-number.invariant.has
