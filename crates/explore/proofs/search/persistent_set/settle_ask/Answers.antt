use Rattle.std.proofs.Common.{inl, inr, sym, ◌∙◌}
use Rattle.std.proofs.lemmas.Option.{none-some}
use Rattle.explore.specs.declared.text.facts.NumberedCalls.TheVariants.{Asks}
use Rattle.explore.proofs.Persistence.{persistence_all}
use Rattle.explore.proofs.search.persistent_set.settle_ask.Goals as goal

pub returns-in-Some-clause-settled : goal.returns-in-Some-clause-settled
returns-in-Some-clause-settled c = λ yes s rows g given. inl (record {
  holder = c.in-Some.holder;
  holds = (c.holder.ensures g given.knows.waiting c.in-Some.holder).0 c.in-Some.is;
  member = c.add_member.ensures.added yes;
})

pub returns-in-None-clause-settled : goal.returns-in-None-clause-settled
returns-in-None-clause-settled c = λ yes s rows g given. inr (
  λ q holds. none-some q (sym c.in-None.is ∙ (c.holder.ensures g given.knows.waiting q).1 holds),
  persistence_all Asks c.args.facts.now.ask_ends c.add_all_yet_to_call.new.members c.args.lock given given.told.asks
      (c.add_all_yet_to_call.ensures.all yes),
)
