use Rattle.std.proofs.Common.{◌≡◌, ◌+◌, [], ◌∷◌, ◌++◌, subst, sym, ap, ◌∙◌, min, arith}
use Rattle.judge.specs.declared.asked_places.AskedPlaces.{AskedPlaces}
use Rattle.judge.specs.AskedPlaces.{AreAskedPlaces}
use Rattle.judge.specs.JudgedSizes.{judged_sizes_of}
use Rattle.judge.proofs.AskedPlaces.{asked_places_add, asked_places_own, asked_places_start}
use Rattle.judge.proofs.TellingCuts.{cut_of_present}
use Rattle.judge.proofs.due_counts.DueCounts.asked_places.Goals as goal
use Rattle.judge.proofs.due_counts.DueCounts.asked_places.Goals.{then-processor-by+in_ok-add, else-processor-by}

pub loop-processor-init : goal.loop-processor-init
loop-processor-init c = λ j tells.
    asked_places_start (judged_sizes_of c.args.self.now.stored.sizes) j c.args.page c.args.by c.from_place-asked.result
    (c.from_place-asked.ensures.all_from ∙ tells.cuts.place) c.from_place-asked.ensures.fetched

pub loop-processor-preserved : goal.loop-processor-preserved
loop-processor-preserved c = λ j tells.
    let d = c.args.self.now in
    let s = judged_sizes_of d.stored.sizes in
    let n = c.args.page in
    let q = c.args.by in
    let p = c.loop-processor.processor in
    let old = c.loop-processor.asked in
    let were = c.loop-processor.invariant j tells in
    let Are : AskedPlaces → Type 0 = λ asked. AreAskedPlaces s j n q (p + 1) asked in
    elim c.if-processor-by.branch [
      | then-processor-by+in_ok-add w ↦
          (let present = tells.present in
          let lt = c.loop-processor-test.true in
          let cut = cut_of_present tells.cuts p (omega (arith, present, lt)) in
          let least = w.add.ensures.all_from ∙ ap (min old.all_from) (w.known_in-known.ensures ∙ w.of.ensures.entries q) in
          let more = w.in_ok-add.ensures.fetched ∙ ap (λ v. old.fetched.items ++ v ∷ []) w.known_in-fetched.ensures in
          subst Are (sym w.asked-is) (asked_places_add {old = old} {new = w.add.new.self} (λ is. w.if-processor-by.true (sym is)) cut
          (w.last_fetch.ensures j tells) least more were))
      | else-processor-by w ↦
          subst Are (sym w.asked-is) (asked_places_own s j n q p old w.if-processor-by.false were)
    ]

pub returns : goal.returns
returns c = λ j tells.
    let d = c.args.self.now in
    let over = c.loop-processor-test.false in
    let end = c.loop-processor.auto.processor-end in
    let is : c.loop-processor.processor ≡ d.stored.sizes.processors = omega (arith, over, end) in
    subst (λ count. AreAskedPlaces (judged_sizes_of d.stored.sizes) j c.args.page c.args.by count c.loop-processor.asked) is
    (c.loop-processor.invariant j tells)
