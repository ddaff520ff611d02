-- What free events lead to a state that was found.
-- A search passes over states after which an event is free. What lasts, lasts behind free events, so a state that was found has
-- it if one has that was passed over.
use Rattle.std.proofs.Common.{suc, inl, inr, List, [], ◌∷◌, ◌++◌, refl, sym, subst, append_assoc, append-nil}
use Rattle.std.specs.Global.{Vec}
use Rattle.base.proofs.JoinedLists.{joined_list_has-nil}
use Rattle.journal.specs.declared.event.Event.{Event}
use Rattle.lrc_script.specs.Plan.{Plan}
use Rattle.explore.specs.declared.prefixes.script_call.ScriptCall.{ScriptCall}
use Rattle.explore.specs.declared.state.flat_state.FlatState.{FlatState}
use Rattle.explore.specs.FlatSearch.{FlatSearchFollows, FlatSearchFollowsFree}
use Rattle.explore.specs.FoundStates.{IsFoundState}
use Rattle.explore.specs.FreeRun.{AreFreeInRun, IsFoundByFreeRun}
use Rattle.explore.specs.Prefixes.FlatBeginnings.{IsFlatBeginning}
use Rattle.explore.proofs.PrefixRuns.Beginnings.{prefix_beginning_front}
use Rattle.explore.proofs.Reduced.Reaching.{IsReached, IsReachingLasting}

module _ (s : Plan) (rows : List (Vec ScriptCall)) (states : List FlatState) where
  -- what is found is found soon
  pub soon_now : (g : List Event) → IsFoundState s states g → IsFoundByFreeRun s rows states g
  soon_now g found = record {
    more = [];
    free = λ e has. absurd (joined_list_has-nil e has);
    found = subst (IsFoundState s states) (sym (append-nil g)) found;
  }

  -- and behind the first of the free events, too
  soon_behind : (g : List Event) (e : Event) (more : List Event) → AreFreeInRun rows (e ∷ more) → IsFoundState s states (g ++ e ∷ more)
      → FlatSearchFollowsFree s rows (IsFoundByFreeRun s rows states) g
  soon_behind g e more free found =
      let joined = append_assoc g (e ∷ []) more in
      record {
        processor = e.processor;
        kind = e.kind;
        free = free e (0, refl);
        next = prefix_beginning_front s (g ++ e ∷ []) more (subst (IsFlatBeginning s) (sym joined) found.knows.beginning);
        found = record {
          more = more;
          free = λ f has. free f (suc has.0, has.1);
          found = subst (IsFoundState s states) (sym joined) found;
        };
      }

  -- so what is followed after a state that was found is followed wherever one is found soon
  pub soon_followed : ((h : List Event) → IsFoundState s states h → FlatSearchFollows s rows (IsFoundByFreeRun s rows states) h)
      → (h : List Event) → IsFoundByFreeRun s rows states h → FlatSearchFollows s rows (IsFoundByFreeRun s rows states) h
  soon_followed followed h soon = by soon.more soon.free soon.found
    where
      by : (more : List Event) → AreFreeInRun rows more → IsFoundState s states (h ++ more)
          → FlatSearchFollows s rows (IsFoundByFreeRun s rows states) h
      by [] free found = followed h (subst (IsFoundState s states) (append-nil h) found)
      by (e ∷ more) free found = inr (inl (soon_behind h e more free found))

  module _ (T : List Event → Type 0) (lasting : IsReachingLasting s rows T) where
    -- free events end nothing that lasts
    soon_lasts : (more g : List Event) → AreFreeInRun rows more → IsFlatBeginning s (g ++ more) → T g → T (g ++ more)
    soon_lasts [] g free begins has = subst T (sym (append-nil g)) has
    soon_lasts (e ∷ more) g free begins has =
        let joined = append_assoc g (e ∷ []) more in
        let all = subst (IsFlatBeginning s) (sym joined) begins in
        let next = prefix_beginning_front s (g ++ e ∷ []) more all in
        let free_one = free e (0, refl) in
        subst T joined (soon_lasts more (g ++ e ∷ []) (λ f has. free f (suc has.0, has.1)) all
        (lasting.stays g e.processor e.kind free_one.guarded next has))

    pub soon_reached : IsReached (IsFoundByFreeRun s rows states) T → IsReached (IsFoundState s states) T
    soon_reached r = record {
      events = r.events ++ r.found.more;
      found = r.found.found;
      has = soon_lasts r.found.more r.events r.found.free r.found.found.knows.beginning r.has;
    }
