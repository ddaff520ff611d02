use Rattle.std.proofs.Common.{◌-◌, inl, inr, length, slice_index_or, sym, ap, ◌∙◌, arith}
use Rattle.std.specs.Prelude.{None}
use Rattle.std.proofs.lemmas.Bool.{cases_eq, cases_lt}
use Rattle.std.proofs.lemmas.List.{get_or_past}
use Rattle.std.proofs.lemmas.Option.{none-some}
use Rattle.explore.proofs.state.found_states.last_next.Goals as goal

pub loop-behind-init : goal.loop-behind-init
loop-behind-init c = λ p k past is. none-some k (sym (get_or_past c.args.nexts.now p None (omega (arith, past))) ∙ is)

pub loop-behind-preserved : goal.loop-behind-preserved
loop-behind-preserved c = λ p k past is.
    let before = c.loop-behind-test.true in
    let here = length c.args.nexts.now - 1 - c.loop-behind.behind in
    elim (cases_eq p here) [
      | inl same ↦ c.in_default.not-Some k (ap (λ q. slice_index_or c.args.nexts.now q None) (sym same) ∙ is)
      | inr isnt ↦ c.loop-behind.invariant p k (omega (arith, past, isnt, before)) is
    ]

pub returns-in-Some : goal.returns-in-Some
returns-in-Some c =
    let before = c.loop-behind-test.true in
    let here = length c.args.nexts.now - 1 - c.loop-behind.behind in
    record {
      within = omega (arith, before);
      last = λ q k told. elim (cases_lt here q) [
        | inl lt ↦ absurd (c.loop-behind.invariant q k (omega (arith, lt, before)) told)
        | inr le ↦ omega (arith, le)
      ];
    }
