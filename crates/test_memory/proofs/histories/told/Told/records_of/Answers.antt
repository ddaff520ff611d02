use Rattle.std.proofs.Common.{◌∙◌, ap, subst, Option}
use Rattle.std.specs.Arc.{arc_value}
use Rattle.page.specs.PageChanges.{PageChanges}
use Rattle.test_memory.specs.Histories.Records.{IsOpenIn}
use Rattle.test_memory.proofs.histories.Opened.{open_skipped, open_pushed}
use Rattle.test_memory.proofs.histories.told.Told.records_of.Goals.{in-Some+in_ok-new+in_ok-push, in_default}
use Rattle.test_memory.proofs.histories.told.Told.records_of.Goals as goal

pub loop-page-preserved : goal.loop-page-preserved
loop-page-preserved c = λ h p is.
    let s = c.args.self.now.sizes in
    let old = c.loop-page.invariant h p is in
    let now = c.in_ok-record.ensures h p is in
    elim c.match-branch-2.branch [
      | in-Some+in_ok-new+in_ok-push w ↦
          open_pushed arc_value s h p c.loop-page.page c.loop-page.records.items
          c.match-branch-2.records.items w.in_ok-new.field-0 w.in-Some.record old
          (subst (λ (o : Option PageChanges). IsOpenIn s h p c.loop-page.page o) w.in-Some.is now) w.in_ok-new.ensures.ok
          (ap (λ v. v.items) w.records-is ∙ w.in_ok-push.ensures.items)
      | in_default w ↦ rw (w.records-is)
          (open_skipped s h p c.loop-page.page _ old
          (subst (λ (o : Option PageChanges). IsOpenIn s h p c.loop-page.page o) w.in_default.is now))
    ]
