use Rattle.std.proofs.Common.{ℕ, ◌≡◌, ◌∷◌, [], List, map, length, refl, sym, ap, subst, slice_get, ◌∙◌, arith}
use Rattle.std.proofs.lemmas.Option.{slice_get_within}
use Rattle.lrc_script.specs.Plan.{Plan}
use Rattle.explore.specs.CallTables.{IsCallTableOf}
use Rattle.explore.specs.KeptStates.{AreFewStateParts, AreTrimmedMemories, IsKeptStateWithin, opened_state}
use Rattle.explore.specs.Machines.{MachineKnows}
use Rattle.explore.specs.declared.state.kept_state.KeptState.{KeptState}
use Rattle.explore.proofs.AddedStates.{added_state_alone, added_state_first, added_state_only}
use Rattle.explore.proofs.CountedStates.{counted_states_same_transitive}
use Rattle.explore.proofs.KeptStates.{kept_state_of_one_search, kept_state_parts_few_more}
use Rattle.explore.proofs.LikeMachines.{like_machine_knows}
use Rattle.explore.proofs.state.found_states.FoundStates.keep_first.Goals as goal

pub keep-requires-clause-known : goal.keep-requires-clause-known
keep-requires-clause-known c = record {
  plan = c.requires.first.0;
  table = c.requires.first.1;
  events = [];
  knows = like_machine_knows c.requires.first.0 [] c.args.self.now.first c.in_ok-copy.field-0 c.in_ok-copy.ensures c.requires.first.2;
}

pub keep-requires-clause-few : goal.keep-requires-clause-few
keep-requires-clause-few c =
    let none = c.requires.none.parts.none in
    record {
      memories = (let zeroth = none.memories in omega (arith, zeroth));
      replies = (let zeroth = none.replies in omega (arith, zeroth));
      asks = (let zeroth = none.asks in omega (arith, zeroth));
    }

pub returns : goal.returns
returns c =
    let x = c.args.self.now in
    let kept = c.in_ok-kept.ensures in
    let none = c.requires.none in
    let keys : c.insert_full.new.self.keys ≡ c.in_ok-kept.kept ∷ [] = added_state_alone _ x.states.keys c.insert_full.new.self.keys
    c.in_ok-kept.kept c.in_ok-insert_full.ensures.keys none.states _ c.in_ok-insert_full.ensures.stored.0 c.in_ok-insert_full.ensures.stored.1 in
    let table = λ (s : Plan) (calls : IsCallTableOf s x.parts.calls). subst (IsCallTableOf s) (sym kept.keeps.calls) calls in
    let one = λ (s : Plan) (knows : MachineKnows s [] x.first).
    kept_state_of_one_search s [] x.first c.in_ok-copy.field-0 knows (like_machine_knows s [] x.first c.in_ok-copy.field-0 c.in_ok-copy.ensures knows)
    (sym c.in_ok-copy.ensures.telling) in
    record {
      found = λ s calls knows. added_state_first s _ c.in_ok-kept.kept (record {
        calls = (s, table s calls);
        within = λ place k at.
            subst (IsKeptStateWithin c.keep.new.self) (added_state_only c.in_ok-kept.kept place k (ap (λ ks. slice_get ks place) (sym keys) ∙ at)) kept.within;
        once = kept.once;
        few =
            subst (λ ks. AreFewStateParts c.keep.new.self (length ks)) (sym keys)
            (kept_state_parts_few_more x.parts c.keep.new.self c.in_ok-kept.kept 0 kept.grown none.parts.none);
        trimmed =
            subst (λ (ws : List ℕ). AreTrimmedMemories c.keep.new.self (length ws)) c.in_ok-copy.ensures.memory
            (kept.trimmed (λ i v at. absurd (let within = slice_get_within x.parts.memories.keys i v at in let zeroth = none.parts.none.memories in omega (arith, within, zeroth))));
        in_order = none.in_order;
      }) keys none.origins
          (counted_states_same_transitive _ _ _ c.in_ok-copy.ensures (kept.like x.first (one s knows))) knows (table s calls);
      first = refl;
      few = (
          let one : length (map (opened_state c.keep.new.self x.first) c.insert_full.new.self.keys) ≡ 1 =
          ap (λ (ks : List KeptState). length (map (opened_state c.keep.new.self x.first) ks)) keys in
          omega (arith, one));
    }
