use Rattle.std.proofs.Common.{◌≡◌, ◌+◌, ◌++◌, [], ◌∷◌, List, Option, Some, IfSome, IfNone, map, take, slice_get, sym, ap, subst, arith}
use Rattle.std.proofs.lemmas.List.{map-append}
use Rattle.std.specs.Arc.{arc_value}
use Rattle.page.specs.PageChanges.{PageChanges}
use Rattle.page.specs.CarriedHarvests.{IsCarriedHarvest}
use Rattle.page.specs.Contents.{ContentsAreClean}
use Rattle.cluster.specs.Copies.PageReplica.{PageReplica}
use Rattle.cluster.specs.Copies.MarkedCopiesAndHarvests.{AreHarvestsOfCopies}
use Rattle.cluster.proofs.copies.LoopItems.{loop_item_at}
use Rattle.cluster.proofs.copies.UnmarkedCopies.{unmarked_copies_end, unmarked_copies_past, unmarked_copies_clean_next, unmarked_copies_harvest_next, unmarked_copies_everywhere}
use Rattle.cluster.proofs.copies.harvesting.harvest.Goals as goal
use Rattle.cluster.proofs.copies.harvesting.harvest.Goals.{in-Some+then-page-replicas, in_default, in-Some-2+in_ok-new+in_ok-push, in_default-2}

pub returns-in_err-record-clause-unmarked : goal.returns-in_err-record-clause-unmarked
returns-in_err-record-clause-unmarked c none =
    absurd (unmarked_copies_everywhere c.args.stored.now c.loop-page.next c.in-Some.page c.in-Some.ensures.some none)

pub returns-in_err-new-clause-unmarked : goal.returns-in_err-new-clause-unmarked
returns-in_err-new-clause-unmarked c none =
    absurd (unmarked_copies_everywhere c.args.stored.now c.loop-page.next c.in-Some.page c.in-Some.ensures.some none)

pub returns-in_err-push-clause-unmarked : goal.returns-in_err-push-clause-unmarked
returns-in_err-push-clause-unmarked c none =
    absurd (unmarked_copies_everywhere c.args.stored.now c.loop-page.next c.in-Some.page c.in-Some.ensures.some none)

pub loop-page-preserved : goal.loop-page-preserved
loop-page-preserved c =
    let xs = c.args.replicas.now in
    let page = c.in-Some.page in
    let copy : PageReplica = c.index-replicas-page.result in
    let at : slice_get xs page ≡ Some copy = loop_item_at xs page copy (omega arith) c.index-replicas-page.is in
    let rs : List PageChanges = map arc_value c.loop-page.records.items in
    let is = c.in-Some.ensures.some in
    let so_far = c.loop-page.invariant.harvests in
    let came = c.in_ok-record.ensures in
    record {
      within = let few = c.requires.few in omega arith;
      harvests = elim c.match-branch-2.branch [
        | in_default-2 w ↦
            (let P : Option PageChanges → Type 0 = λ o. IfNone o (ContentsAreClean copy.page) in
            let clean = subst P w.in_default-2.is came.none in
            rw (w.records-is)
            (unmarked_copies_clean_next xs c.args.stored.now c.requires c.loop-page.next rs so_far page is copy at clean))
        | in-Some-2+in_ok-new+in_ok-push w ↦
            (let r : PageChanges = w.in-Some-2.record in
            let P : Option PageChanges → Type 0 = λ o. IfSome o (IsCarriedHarvest page copy.page) in
            let harvest : IsCarriedHarvest page copy.page r = subst P w.in-Some-2.is came.some in
            let dirty : ¬ ContentsAreClean copy.page = λ clean. let none = came.clean clean in
            cc (none, w.in-Some-2.is, c.in_ok-record.was) in
            let more =
            unmarked_copies_harvest_next xs c.args.stored.now c.requires c.loop-page.next rs so_far page is copy at r dirty
            harvest in
            let now : map arc_value c.match-branch-2.records.items ≡ rs ++ r ∷ [] =
            rw (
              w.records-is,
              w.in_ok-push.ensures.items,
              map-append,
            ) (ap (λ (x : PageChanges). rs ++ x ∷ []) w.in_ok-new.ensures.ok)
            in
            let Q : List PageChanges → Type 0 = λ all. AreHarvestsOfCopies (take (page + 1) xs) all in
            subst Q (sym now) more)
      ];
    }

pub returns-clause-harvests : goal.returns-clause-harvests
returns-clause-harvests c =
    let xs = c.args.replicas.now in
    let marks = c.args.stored.now in
    let a = c.loop-page.next in
    let rs = map arc_value c.loop-page.records.items in
    let so_far = c.loop-page.invariant.harvests in
    elim c.match-first_from.branch [
      | in-Some+then-page-replicas w ↦
          unmarked_copies_past xs marks c.requires a rs so_far w.in-Some.page w.in-Some.ensures.some (omega arith)
      | in_default w ↦ unmarked_copies_end xs marks c.requires a rs so_far w.in_default.ensures.none
    ]
