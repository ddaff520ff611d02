use Rattle.std.proofs.Common.{◌+◌, ◌==◌, cond, [], ◌∷◌, ◌++◌, refl, sym, ap, ◌∙◌, subst}
use Rattle.journal.specs.declared.event.Event.{Event}
use Rattle.judge.proofs.StoredTables.{stored_tables_closes, stored_tables_inner, stored_tables_others}
use Rattle.judge.specs.declared.stored_counts.StoredCounts.{StoredCounts}
use Rattle.judge.specs.StoredCounts.{AreStoredCountsOf}
use Rattle.judge.proofs.stored_counts.StoredCounts.note.Goals as goal

pub returns-else-closes_interval : goal.returns-else-closes_interval
returns-else-closes_interval c = record {
  sizes = refl;
  tells = λ j tells long.
      (let e = c.args.event in
      let x = c.args.self.now in
      stored_tables_others j e x x.closed tells.long (λ q a v is. c.in_default.not-Store a v (ap (λ (y : Event). y.kind) is))
      (λ q lt. tells.closed q lt ∙ sym (stored_tables_inner j e q (sym c.closes_interval.ensures ∙ c.if-closes_interval.false))) tells);
}

pub returns-then-closes_interval : goal.returns-then-closes_interval
returns-then-closes_interval c = record {
  sizes = ap (λ (y : StoredCounts). y.sizes) c.close.ensures.rest;
  tells = λ j tells long.
      (let e = c.args.event in
      let x = c.args.self.now in
      let closed = c.close.new.self.closed in
      let closes = sym c.closes_interval.ensures ∙ c.if-closes_interval.true in
      subst (AreStoredCountsOf (j ++ e ∷ [])) (sym c.close.ensures.rest)
      (stored_tables_others j e x closed (c.close.ensures.long ∙ tells.long) (λ q a v is. c.in_default.not-Store a v (ap (λ (y : Event). y.kind) is))
      (λ q lt. c.close.ensures.counted q ∙ ap (λ n. n + cond (e.processor == q) 1 0) (tells.closed q lt)
      ∙ sym (stored_tables_closes j e q closes)) tells));
}
