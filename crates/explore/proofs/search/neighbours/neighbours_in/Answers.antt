use Rattle.std.proofs.Common.{length, sym, subst, ◌∙◌, inl, inr, arith}
use Rattle.std.specs.Prelude.{None}
use Rattle.std.proofs.lemmas.Bool.{cases_eq, cases_lt}
use Rattle.std.proofs.lemmas.List.{get_or_past}
use Rattle.std.proofs.lemmas.Option.{none-some, same_Some}
use Rattle.explore.specs.Nexts.{AreNextInConflict}
use Rattle.explore.proofs.search.neighbours.neighbours_in.Goals.{in-Some+in_default-neighbour_of, in_default}
use Rattle.explore.proofs.search.neighbours.neighbours_in.Goals as goal

pub loop-processor-preserved : goal.loop-processor-preserved
loop-processor-preserved c p q a b lt conflict =
    let n = c.loop-processor.processor in
    let xs = c.args.nexts.now in
    elim (cases_eq p n) [
      | inr isnt ↦ c.loop-processor.invariant p q a b (omega arith) conflict
      | inl is ↦
          (let here = subst (λ m. AreNextInConflict xs m q a b) is conflict in
          elim c.match-nexts-processor.branch [
            | in-Some+in_default-neighbour_of w ↦
                (let same = same_Some a w.in-Some.kind (sym here.first ∙ w.in-Some.is) in
                let h = w.in_default-neighbour_of.ensures in
                h q b (subst (λ k. AreNextInConflict xs n q k b) same here))
            | in_default w ↦ w.in_default.not-Some a here.first
          ])
    ]

pub returns : goal.returns
returns c p q a b conflict = elim (cases_lt p (length c.args.nexts.now)) [
  | inl lt ↦ (let over = c.loop-processor-test.false in c.loop-processor.invariant p q a b (omega arith) conflict)
  | inr past ↦ none-some a (sym (get_or_past c.args.nexts.now p None past) ∙ conflict.first)
]
