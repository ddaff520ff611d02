use Rattle.std.proofs.Common.{length, sym, subst, ◌∙◌, inl, inr, arith}
use Rattle.std.specs.Prelude.{None}
use Rattle.std.proofs.lemmas.Bool.{cases_eq, cases_lt, false≢true}
use Rattle.std.proofs.lemmas.List.{get_or_past}
use Rattle.std.proofs.lemmas.Option.{none-some, same_Some}
use Rattle.journal.specs.DidEvent.{event}
use Rattle.journal.specs.Races.{Conflict}
use Rattle.explore.specs.Nexts.{AreNextInConflict}
use Rattle.explore.proofs.search.neighbours.neighbour_of.Goals.{in-Some+else-other-processor, else-other-processor-via-then-other-processor+else-neighbours_conflict, else-other-processor-via-else-other-processor, in_default}
use Rattle.explore.proofs.search.neighbours.neighbour_of.Goals as goal

pub loop-other-preserved : goal.loop-other-preserved
loop-other-preserved c q b lt conflict =
    let n = c.loop-other.other in
    let xs = c.args.nexts.now in
    let p = c.args.processor in
    elim (cases_eq q n) [
      | inr isnt ↦ c.loop-other.invariant q b (omega arith) conflict
      | inl is ↦
          (let here = subst (λ m. AreNextInConflict xs p m c.args.kind b) is conflict in
          elim c.match-nexts-other.branch [
            | in-Some+else-other-processor w ↦ elim w.else-other-processor.branch [
              | else-other-processor-via-then-other-processor+else-neighbours_conflict v ↦
                  (let same = same_Some b w.in-Some.next (sym here.second ∙ w.in-Some.is) in
                  let told = subst (λ k. Conflict (event p c.args.kind) (event n k)) same here.conflict in
                  false≢true (sym v.if-neighbours_conflict.false ∙ (v.neighbours_conflict.ensures p n).1 told))
              | else-other-processor-via-else-other-processor v ↦ here.apart (sym v.if-other-processor.false)
            ]
            | in_default w ↦ w.in_default.not-Some b here.second
          ])
    ]

pub returns : goal.returns
returns c q b conflict = elim (cases_lt q (length c.args.nexts.now)) [
  | inl lt ↦ (let over = c.loop-other-test.false in c.loop-other.invariant q b (omega arith) conflict)
  | inr past ↦ none-some b (sym (get_or_past c.args.nexts.now q None past) ∙ conflict.second)
]

pub returns-then-not-accesses_a_word : goal.returns-then-not-accesses_a_word
returns-then-not-accesses_a_word c = λ q b conflict.
    false≢true (sym c.if-not-accesses_a_word.true ∙ c.accesses_a_word.ensures c.args.processor q b conflict.conflict)
