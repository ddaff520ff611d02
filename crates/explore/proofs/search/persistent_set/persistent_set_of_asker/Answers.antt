use Rattle.std.proofs.Common.{Option, Some}
use Rattle.std.specs.Prelude.{None, IfSome}
use Rattle.explore.proofs.search.persistent_set.persistent_set_of_asker.Goals as goal

-- what two clauses say of an answer
both : {A : Type 0} {P Q R : A → Type 0} (o : Option A) → ((a : A) → P a → Q a → R a) → IfSome o P → IfSome o Q → IfSome o R
both None join first second = tt
both (Some a) join first second = join a first second

pub returns : goal.returns
returns c = both c.persistent_set_of.result (λ members member set s g given.
    let asked = (c.free_lock_asked.ensures g given.knows.waiting c.in_ok-free_lock_asked.field-0).0 c.in_ok-free_lock_asked.was in
    record {
      set = set s g given;
      processor = c.args.processor;
      lock = c.in_ok-free_lock_asked.field-0;
      asks = record { member = member; next = asked.0; free = asked.1 };
    }) c.persistent_set_of.ensures.member c.persistent_set_of.ensures.set
