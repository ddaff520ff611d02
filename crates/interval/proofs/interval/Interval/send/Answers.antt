use Rattle.std.proofs.Common.{◌++◌, map, ap, sym, ◌∙◌}
use Rattle.std.specs.Arc.{arc_value}
use Rattle.std.proofs.lemmas.List.{take_all, append-nil}
use Rattle.interval.specs.KeptClosings.{kept_closing_sent_record}
use Rattle.interval.proofs.Records.ReadItems.{ReadsItem}
use Rattle.interval.proofs.Records.FindAndPush.{push_after_find}
use Rattle.interval.proofs.interval.Interval.send.Goals as goal

pub loop-record-init : goal.loop-record-init
loop-record-init c = sym (append-nil c.args.sent.now.items)

pub loop-record-preserved : goal.loop-record-preserved
loop-record-preserved c =
    let read : ReadsItem c.shared_records-record-items.result.now c.loop-record.record-index c.record-item.result =
    record { inside = c.loop-record-test.true; is = c.record-item.is } in
    let more =
    push_after_find arc_value (kept_closing_sent_record (record { place = c.args.place; interval = c.args.self.now }))
    c.args.sent.now.items read c.loop-record.invariant in
    cc (more, c.in_ok-push.ensures.items, c.in_ok-announced.ensures)

pub returns : goal.returns
returns c =
    let all = take_all c.loop-record.record-index c.shared_records-record-items.result.now c.loop-record-test.false in
    let records = ap (map arc_value) all ∙ c.shared_records-record-items.ensures in
    c.loop-record.invariant
    ∙ ap (λ rs. c.args.sent.now.items
    ++ map (kept_closing_sent_record (record { place = c.args.place; interval = c.args.self.now })) rs)
    records
