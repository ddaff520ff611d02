use Rattle.std.proofs.Common.{refl, sym, ap, subst}
use Rattle.explore.specs.CallTables.{IsCallTableOf}
use Rattle.explore.specs.declared.state.flat_state.FlatState.{FlatState}
use Rattle.explore.proofs.state.found_states.FoundStates.with_calls.Goals as goal

pub keep_first-requires-clause-none : goal.keep_first-requires-clause-none
keep_first-requires-clause-none c = record {
  parts = record { calls_are = refl; once = c.new.ensures.once; none = c.new.ensures.none };
  states = c.with_hasher.ensures.empty;
  origins = c.new-3.ensures.none;
  in_order = c.new-3.ensures.in_order;
}

pub keep_first-requires-clause-first : goal.keep_first-requires-clause-first
keep_first-requires-clause-first c =
    (c.requires.0, subst (IsCallTableOf c.requires.0) (sym c.new.ensures.calls_are) c.requires.1, c.requires.2)

pub returns : goal.returns
returns c = record {
  found = λ s calls knows. c.in_ok-keep_first.ensures.found s (subst (IsCallTableOf s) (sym c.new.ensures.calls_are) calls) knows;
  telling = ap (λ (m : FlatState). m.telling) c.in_ok-keep_first.ensures.first;
  few = c.in_ok-keep_first.ensures.few;
}
