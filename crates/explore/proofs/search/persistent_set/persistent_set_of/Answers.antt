use Rattle.std.proofs.Common.{ℕ, ◌<◌, inl, inr, length, refl, subst, ◌∙◌}
use Rattle.std.specs.Prelude.{MatchOption}
use Rattle.std.proofs.lemmas.Bool.{cases_lt}
use Rattle.std.proofs.lemmas.List.{length-set}
use Rattle.explore.specs.PersistentSets.{IsPersistentMember}
use Rattle.explore.specs.PersistentSets.PersistentMember.{absent}
use Rattle.explore.proofs.Persistence.{persistence_settled}
use Rattle.explore.proofs.search.persistent_set.persistent_set_of.Goals as goal

pub returns-in_default-clause-set : goal.returns-in_default-clause-set
returns-in_default-clause-set c = λ s g given p member.
    let n = length c.args.steps.now in
    let all = subst (λ o. MatchOption o ((q : ℕ) → q < n → IsPersistentMember c.loop.members q → IsPersistentMember c.loop.settled q) (λ q. q < n))
    c.in_default.is c.first_unsettled.ensures in
    elim (cases_lt p n) [
      | inl lt ↦ c.loop.invariant.settled s g given p (all p lt member)
      | inr past ↦ absent past
    ]

pub loop-preserved : goal.loop-preserved
loop-preserved c = record {
  member = c.settle.ensures.keeps c.args.processor c.loop.invariant.member;
  settled = λ s g given. persistence_settled c.args.steps.now g c.args.nexts.now c.loop.members c.settle.new.members c.loop.settled c.in-Some.open
      c.settle.ensures.keeps (c.loop.invariant.settled s g given) (c.settle.ensures.settled c.if-not-settle.false s g c.args.nexts.now refl given);
  long = c.settle.ensures.long ∙ c.loop.invariant.long;
  settled_long = length-set c.loop.settled c.in-Some.open _ ∙ c.loop.invariant.settled_long;
}
