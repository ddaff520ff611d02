use Rattle.std.proofs.Common.{ℕ, zero, suc, ◌≡◌, ◌<◌, [], List, Some, replicate, slice_get, slice_index_or, refl, sym, ap, subst, ◌∙◌, arith}
use Rattle.std.proofs.lemmas.List.{length-replicate}
use Rattle.base.proofs.SliceSets.{index-zeros}
use Rattle.lrc_script.specs.Plan.{plan_of}
use Rattle.explore.proofs.PrefixRuns.Beginnings.{prefix_beginning_empty}
use Rattle.explore.specs.Prefixes.ScriptCalls.{script_calls_shown_by}
use Rattle.explore.specs.declared.outcomes.telling.OutcomeTelling.{OutcomeTelling}
use Rattle.explore.specs.OutcomeTelling.{AreOutcomeTellingKept}
use Rattle.explore.proofs.ToldReplies.{told_reply_kept_first}
use Rattle.explore.proofs.state.flat_state.FlatState.new.Goals as goal

-- so many of one item have it at each place
always_empty : (n p : ℕ) → p < n → slice_get (replicate {A = List ℕ} n []) p ≡ Some []
always_empty zero p lt = absurd (omega arith)
always_empty (suc n) zero lt = refl
always_empty (suc n) (suc p) lt = always_empty n p (omega arith)

pub returns-clause-knows : goal.returns-clause-knows
returns-clause-knows c =
    let s = plan_of c.args.script.now in
    record {
      beginning = prefix_beginning_empty s;
      long = refl;
      done = λ p lt. index-zeros 16 p;
      shown = ap (λ (t : OutcomeTelling). t.shown) c.of_script.ensures;
      replies = subst (AreOutcomeTellingKept s c.of_script.result []) (sym c.in_ok-flat_state_no_replies.ensures) (record {
        long = length-replicate s.processors [];
        each = λ p lt.
            always_empty s.processors p lt
            ∙ ap Some (sym (told_reply_kept_first c.of_script.result p (slice_index_or s.sections p []) (script_calls_shown_by s p)));
      });
      memory = c.in_ok-vec.ensures.items_if_clones_equal (λ x is. is);
      waiting = c.new.ensures;
    }
