use Rattle.std.proofs.Common.{◌≡◌, ◌+◌, ◌*◌, ℕ, List, slice_index_or, take, refl, sym, subst, arith}
use Rattle.std.specs.Global.{Vec}
use Rattle.std.proofs.lemmas.Bool.{false≢true}
use Rattle.std.proofs.lemmas.Option.{slice_get-get_or}
use Rattle.std.proofs.lemmas.Grind.{elements}
use Rattle.journal.specs.declared.event.Event.{Event}
use Rattle.journal.specs.declared.event.Kind.TheVariants.{Load}
use Rattle.journal.specs.DidEvent.{event}
use Rattle.journal.specs.Events.{event_interval_at, event_closes}
use Rattle.journal.proofs.Order.EventPlacesAndCounts.{event_place_same}
use Rattle.judge.specs.JudgedSizes.{judged_sizes_of}
use Rattle.causes.specs.declared.closed_records.PageRecord.{PageRecord}
use Rattle.causes.specs.Index.{IsIndexedClosing}
use Rattle.causes.specs.ClosedRecords.{AreClosedRecords, AreClosedRecordWordsBelow}
use Rattle.causes.proofs.EdgeLeadsOn.{edge_leads_count_within}
use Rattle.causes.proofs.RecordRows.{AreClosedRecordsBelow, record_row_content, record_row_number_is, record_row_some_words, record_row_stores, record_rows_all, record_rows_next, record_rows_quiet}
use Rattle.causes.proofs.closed_records.ClosedRecordIndex.records.Goals as goal
use Rattle.causes.proofs.closed_records.ClosedRecordIndex.records.Goals.{then-notice_stores_in+in_ok-words+in_ok-push, else-notice_stores_in}

-- the event at this place
abbrev here : List Event → ℕ → Event
here events place = slice_index_or events place (event 0 (Load 0 0))

pub notice_stores_in-requires-clause-interval : goal.notice_stores_in-requires-clause-interval
notice_stores_in-requires-clause-interval c =
    let events = c.args.events.now in
    let k = c.args.place in
    let is =
    record_row_number_is events c.args.self.now.numbers.items k c.index-interval.result.now c.requires.place c.requires.index.numbers
    c.index-interval.ensures in
    let lt = c.requires.place in
    let few = c.requires.few in
    let most = edge_leads_count_within event_closes events k (here events k).processor (omega arith) in
    omega arith

pub closed_record_words-requires-clause-by : goal.closed_record_words-requires-clause-by
closed_record_words-requires-clause-by c =
    let events = c.args.events.now in
    let k = c.args.place in
    let there = slice_get-get_or events k (event 0 (Load 0 0)) c.requires.place in
    let lt = (c.requires.within k (here events k) there).processor in
    let few = c.requires.tells.long.sizes.processors in
    omega arith

pub loop-page-preserved : goal.loop-page-preserved
loop-page-preserved c =
    let s = judged_sizes_of c.args.gaps.now.sizes in
    let j = c.args.events.now in
    let k = c.args.place in
    let e = here j k in
    let q = e.processor in
    let m = c.index-interval.result.now in
    let n = c.loop-page.page in
    let h = take (k + 1) j in
    let old = c.loop-page.records.items in
    let are = c.loop-page.invariant in
    let at = slice_get-get_or j k (event 0 (Load 0 0)) c.requires.place in
    let closes = c.requires.closes e at in
    let is =
    record_row_number_is j c.args.self.now.numbers.items k m c.requires.place c.requires.index.numbers c.index-interval.ensures in
    let closing : IsIndexedClosing j q m k =
    record { closes = record { kind = e.kind; does = at; closes = closes }; number = sym is } in
    let stores = record_row_stores s n closing in
    elim c.if-notice_stores_in.branch [
      | then-notice_stores_in+in_ok-words+in_ok-push w ↦
          (let some = stores.0 ((w.if-notice_stores_in.ensures h c.requires.tells).0 refl) in
          let words = w.in_ok-words.words in
          let below : AreClosedRecordWordsBelow j q m (n * s.words) s.words words.items =
          subst (λ size. AreClosedRecordWordsBelow j q m (n * size) size words.items) c.requires.index.size w.in_ok-words.ensures in
          let content = record_row_content s n closing (record_row_some_words s j q m n c.requires.within some) below in
          let x : PageRecord = record { page = n; words = words } in
          subst (λ (v : Vec PageRecord). AreClosedRecordsBelow s j q m (n + 1) v.items) (sym w.records-is)
          (subst (AreClosedRecordsBelow s j q m (n + 1)) (sym w.in_ok-push.ensures.items)
          (record_rows_next x refl content some are)))
      | else-notice_stores_in w ↦
          subst (λ (v : Vec PageRecord). AreClosedRecordsBelow s j q m (n + 1) v.items) (sym w.records-is)
          (record_rows_quiet s j q m n old
          (λ i stored. false≢true ((w.if-notice_stores_in.ensures h c.requires.tells).1 (stores.1 (i, stored)))) are)
    ]

pub returns : goal.returns
returns c = λ f there.
    let s = judged_sizes_of c.args.gaps.now.sizes in
    let j = c.args.events.now in
    let k = c.args.place in
    let e = here j k in
    let m = c.index-interval.result.now in
    let records = c.loop-page.records.items in
    let at = slice_get-get_or j k (event 0 (Load 0 0)) c.requires.place in
    let is =
    record_row_number_is j c.args.self.now.numbers.items k m c.requires.place c.requires.index.numbers c.index-interval.ensures in
    let end = c.loop-page-test.false in
    let top = c.loop-page.auto.page-end in
    let pages = c.pages-page-end.ensures in
    let last : c.loop-page.page ≡ s.pages = omega arith in
    let all =
    record_rows_all s j e.processor m records c.requires.within
    (subst (λ n. AreClosedRecordsBelow s j e.processor m n records) last c.loop-page.invariant) in
    subst (λ (g : Event). AreClosedRecords s j g.processor (event_interval_at j g.processor k) records)
    (event_place_same j k e f at there) (subst (λ i. AreClosedRecords s j e.processor i records) is all)

pub notice_stores_in-requires-clause-by : goal.notice_stores_in-requires-clause-by
notice_stores_in-requires-clause-by c = grind (arith, elements)
