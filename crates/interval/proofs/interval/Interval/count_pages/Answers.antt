use Rattle.std.proofs.Common.{◌≡◌, ◌≤◌, ◌-◌, [], ◌∷◌, List, ℕ, map, length, ap, sym, ◌∙◌, subst, arith}
use Rattle.std.specs.List.{flat_map}
use Rattle.std.specs.Arc.{arc_value}
use Rattle.std.proofs.lemmas.List.{take_all, length-map}
use Rattle.std.proofs.lemmas.List.Concat.{flat_map_single}
use Rattle.page.specs.PageChanges.{PageChanges}
use Rattle.interval.specs.PageCounts.{PageCountsGrew, PageCountsHaveRoom}
use Rattle.interval.proofs.Counts.PageCountsGrow.{page_counts_grow-nil, page_counts_grow-one, page_counts_grow-out, page_counts_grow_next, page_counts_grow_within_room, page_counts_grow_room_next}
use Rattle.interval.proofs.Records.ReadItems.{ReadsItem, mapped_item}
use Rattle.interval.proofs.interval.Interval.count_pages.Goals as goal
use Rattle.interval.proofs.interval.Interval.count_pages.Goals.{then-base-page+then-page-base, else-base-page, else-base-page-via-then-base-page+else-page-base, else-base-page-via-else-base-page}

abbrev own : PageChanges → List ℕ
own r = r.page ∷ []

pub loop-record-init : goal.loop-record-init
loop-record-init c = page_counts_grow-nil _ _

pub overflow_add-counts : goal.overflow_add-counts
overflow_add-counts c =
    let items = map arc_value c.shared_records-record-items.result.now in
    let read : ReadsItem c.shared_records-record-items.result.now c.loop-record.record-index c.record-item.result =
    record { inside = c.loop-record-test.true; is = c.record-item.is } in
    let page : (arc_value c.record-item.result).page ≡ c.page-page.result =
    ap (λ (r : PageChanges). r.page) (sym c.deref.ensures) ∙ sym c.page-page.ensures in
    let Room : List ℕ → Type 0 = λ ps. PageCountsHaveRoom c.args.base ps c.args.counts.now in
    let whole =
    subst Room (sym (flat_map_single (λ (r : PageChanges). r.page) items
    ∙ ap (map (λ (r : PageChanges). r.page)) c.shared_records-record-items.ensures))
    c.requires in
    let room = page_counts_grow_room_next own (mapped_item arc_value read) whole c.loop-record.invariant in
    let Next : ℕ → Type 0 = λ p. PageCountsHaveRoom c.args.base (p ∷ []) c.loop-record.counts in
    let fits =
    page_counts_grow_within_room c.args.base c.page-page.result c.loop-record.counts c.if-base-page.true c.if-page-base.true
    (subst Next page room) in
    omega (arith, fits)

pub loop-record-preserved : goal.loop-record-preserved
loop-record-preserved c =
    let read : ReadsItem c.shared_records-record-items.result.now c.loop-record.record-index c.record-item.result =
    record { inside = c.loop-record-test.true; is = c.record-item.is } in
    let page : c.page-page.result ≡ (arc_value c.record-item.result).page =
    c.page-page.ensures ∙ ap (λ (r : PageChanges). r.page) c.deref.ensures in
    let Now : List ℕ → Type 0 =
    λ counts. PageCountsGrew c.args.base (c.page-page.result ∷ []) c.loop-record.counts counts in
    let one = elim c.if-base-page.branch as (λ b. Now c.if-base-page.counts) [
      | then-base-page+then-page-base w ↦ subst Now (sym w.counts-is)
          (page_counts_grow-one c.args.base c.page-page.result c.loop-record.counts w.if-base-page.true w.if-page-base.true)
      | else-base-page w ↦
          let out : c.args.base ≤ c.page-page.result
          → length c.loop-record.counts
          ≤ c.page-page.result - c.args.base = λ from. elim w.else-base-page.branch [
            | else-base-page-via-then-base-page+else-page-base v ↦ v.if-page-base.false
            | else-base-page-via-else-base-page v ↦ absurd (omega (arith, from, v.if-base-page.false))
          ] in
          subst Now (sym w.counts-is) (page_counts_grow-out c.args.base c.page-page.result c.loop-record.counts out)
    ] in
    let Next : ℕ → Type 0 = λ p. PageCountsGrew c.args.base (p ∷ []) c.loop-record.counts c.if-base-page.counts in
    page_counts_grow_next own (mapped_item arc_value read) c.loop-record.invariant (subst Next page one)

pub returns : goal.returns
returns c =
    let items = map arc_value c.shared_records-record-items.result.now in
    let long = length-map c.shared_records-record-items.result.now (arc_value {X = _} {Z = _}) in
    let all = take_all c.loop-record.record-index items (omega arith) in
    let pages =
    ap (flat_map own) all ∙ flat_map_single (λ (r : PageChanges). r.page) items
    ∙ ap (map (λ (r : PageChanges). r.page)) c.shared_records-record-items.ensures in
    let Done : List ℕ → Type 0 = λ ps. PageCountsGrew c.args.base ps c.args.counts.now c.loop-record.counts in
    subst Done pages c.loop-record.invariant
