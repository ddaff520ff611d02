-- A beginning stays one where an event is left out that nothing behind it is reached from or conflicts with.
use Rattle.std.proofs.Common.{ℕ, suc, ◌≡◌, ◌≢◌, ◌+◌, List, [], ◌∷◌, ◌++◌, length, take, replicate, sym, ap, subst, ◌∙◌, append_assoc, append-nil, length-append, take_at, arith}
use Rattle.std.proofs.Math.Seq.{take-append_seam}
use Rattle.journal.specs.declared.event.Event.{Event}
use Rattle.journal.specs.Events.{EventAt, event_count, event_arrives, event_departs}
use Rattle.journal.specs.HappensBeforeEdges.{Link, HappensBefore}
use Rattle.journal.specs.HappensBeforeEdges.Link.{same, lets, meets}
use Rattle.journal.specs.HappensBeforeEdges.HappensBefore.{edge}
use Rattle.journal.specs.Races.{Conflict, Race}
use Rattle.journal.specs.WellFormed.{WellFormedNext}
use Rattle.journal.proofs.Order.EventPlacesAndCounts.{event_place_behind, event_place_at_end, event_place_longer}
use Rattle.journal.proofs.Order.HappensBefore.{happens_before_longer}
use Rattle.base.proofs.SlicesAndCounts.{slice_push_induction}
use Rattle.lrc_script.specs.Plan.{Plan}
use Rattle.lrc_script.specs.Lawful.{plan_addresses}
use Rattle.conformance.specs.Follows.{plan_sizes, calls_of}
use Rattle.conformance.proofs.FollowedCalls.{followed_calls-append, followed_calls_first-other}
use Rattle.explore.specs.Prefixes.FlatBeginnings.{IsFlatBeginning}
use Rattle.explore.specs.Prefixes.ScriptCalls.{IsScriptCallNext, script_calls_of_section, script_calls_shown_by}
use Rattle.explore.specs.Prefixes.PrefixLaws.{PrefixCanGoOn}
use Rattle.explore.proofs.PrefixRuns.Beginnings.{prefix_beginning_front, prefix_beginning_next}
use Rattle.explore.proofs.PrefixRuns.Removal.Places.{removal_place_item_out}
use Rattle.explore.proofs.PrefixRuns.Removal.Follows.{IsRemovalUnneededToFollow, removal_follows_left}
use Rattle.explore.proofs.PrefixRuns.Removal.Words.{removal_words_answers_left}

-- nothing in b is reached from the event x before it, or conflicts with it
pub record MayBeRemoved (a b : List Event) (x : Event) : Type 0 where
  pub unreached : (m : ℕ) → ¬ HappensBefore (a ++ x ∷ b) (length a) m
  pub unopposed : (m : ℕ) (f : Event) → EventAt b m f → ¬ Conflict x f

module _ (a b : List Event) (x : Event) (unreached : (m : ℕ) → ¬ HappensBefore (a ++ x ∷ b) (length a) m) where
  -- nothing leads from x to an event behind it
  pub removed_no_link : (m : ℕ) (f : Event) → EventAt b m f → ¬ Link (a ++ x ∷ b) (length a) (length a + suc m) x f
  removed_no_link m f at link =
      unreached (length a + suc m)
      (edge (record {
        before = omega arith;
        from = x;
        to = f;
        from_at = removal_place_item_out a b x;
        to_at = event_place_behind a (x ∷ b) (suc m) f at;
        link = link;
      }))

  -- so the events behind it are others'
  pub removed_others_behind : (m : ℕ) (f : Event) → EventAt b m f → f.processor ≢ x.processor
  removed_others_behind m f at is = removed_no_link m f at (same (sym is))

  -- and where it doesn't race with any of them, it may be left out
  pub removed_without_race : ((m : ℕ) → ¬ Race (a ++ x ∷ b) (length a) m) → MayBeRemoved a b x
  removed_without_race free = record {
    unreached = unreached;
    unopposed = λ m f at conflict. free (length a + suc m) (record {
      before = omega arith;
      first = x;
      second = f;
      first_at = removal_place_item_out a b x;
      second_at = event_place_behind a (x ∷ b) (suc m) f at;
      apart = λ is. removed_no_link m f at (same is);
      conflict = conflict;
      unordered = unreached (length a + suc m);
    });
  }

-- the last event behind it doesn't need it
pub removed_is_unneeded : (s : Plan) (a b : List Event) (x e : Event)
    → ((m : ℕ) → ¬ HappensBefore (a ++ x ∷ (b ++ e ∷ [])) (length a) m) → WellFormedNext (plan_sizes s) a x
    → IsRemovalUnneededToFollow (plan_sizes s) a b x e
removed_is_unneeded s a b x e unreached may = record {
  follows = may;
  away = λ m f at. removed_others_behind a (b ++ e ∷ []) x unreached m f (event_place_longer b (e ∷ []) m f at);
  apart = λ is. none (same is);
  lets = λ l. none (lets l);
  meets = λ arrives departs is. none (meets (record { arrives = arrives; departs = departs; episode = counts is }));
}
  where
    whole : List Event
    whole = a ++ x ∷ (b ++ e ∷ [])

    none : ¬ Link whole (length a) (length a + suc (length b)) x e
    none = removed_no_link a (b ++ e ∷ []) x unreached (length b) e (event_place_at_end b e)

    front : take (length a + suc (length b)) whole ≡ a ++ x ∷ b
    front =
        ap (take (length a + suc (length b))) (sym (append_assoc a (x ∷ b) (e ∷ [])))
        ∙ take_at (a ++ x ∷ b) (e ∷ []) (length a + suc (length b)) (length-append a (x ∷ b))

    counts : event_count event_arrives a x.processor ≡ event_count event_departs (a ++ x ∷ b) e.processor
        → event_count event_arrives (take (length a) whole) x.processor
        ≡ event_count event_departs (take (length a + suc (length b)) whole) e.processor
    counts is =
        ap (λ (es : List Event). event_count event_arrives es x.processor) (take-append_seam a (x ∷ (b ++ e ∷ []))) ∙ is
        ∙ ap (λ (es : List Event). event_count event_departs es e.processor) (sym front)

-- others' calls are the same without it
pub removed_calls_left : (a b : List Event) (x : Event) (r : ℕ) → x.processor ≢ r → calls_of (a ++ x ∷ b) r ≡ calls_of (a ++ b) r
removed_calls_left a b x r apart =
    followed_calls-append a (x ∷ b) r ∙ ap (λ ks. calls_of a r ++ ks) (followed_calls_first-other x.processor r x.kind b apart)
    ∙ sym (followed_calls-append a b r)

-- so what comes next may do so without it
removed_next_left : (s : Plan) (a b : List Event) (x e : Event) → IsRemovalUnneededToFollow (plan_sizes s) a b x e → ¬ Conflict x e
    → PrefixCanGoOn s (a ++ x ∷ b) e.processor e.kind → PrefixCanGoOn s (a ++ b) e.processor e.kind
removed_next_left s a b x e u apart next = record {
  may_follow = removal_follows_left (plan_sizes s) a b x e u next.may_follow;
  calls = record {
    call = next.calls.call;
    next = λ section at. subst
        (λ calls. IsScriptCallNext (script_calls_of_section section (script_calls_shown_by s e.processor)) calls e.kind)
        (removed_calls_left a b x e.processor u.apart) (next.calls.next section at);
  };
  answers = removal_words_answers_left (replicate (plan_addresses s) 0) a b x e.processor e.kind apart next.answers;
}

-- an event in a beginning may come next after what is before it
pub removed_follows_front : (s : Plan) (a b : List Event) (x : Event) → IsFlatBeginning s (a ++ x ∷ b)
    → PrefixCanGoOn s a x.processor x.kind
removed_follows_front s a b x h =
    ((prefix_beginning_next s a x.processor x.kind).0
    (prefix_beginning_front s (a ++ x ∷ []) b (subst (IsFlatBeginning s) (sym (append_assoc a (x ∷ []) b)) h))).1

-- a front behind x doesn't need it either
removed_front : (a b : List Event) (x e : Event) → MayBeRemoved a (b ++ e ∷ []) x → MayBeRemoved a b x
removed_front a b x e r = record {
  unreached = λ m h. r.unreached m (subst (λ es. HappensBefore es (length a) m) (append_assoc a (x ∷ b) (e ∷ []))
      (happens_before_longer (a ++ x ∷ b) (e ∷ []) h));
  unopposed = λ m f at. r.unopposed m f (event_place_longer b (e ∷ []) m f at);
}

-- a beginning stays one without it
pub removed : (s : Plan) (a b : List Event) (x : Event) → MayBeRemoved a b x → IsFlatBeginning s (a ++ x ∷ b)
    → IsFlatBeginning s (a ++ b)
removed s a b x =
    slice_push_induction (λ es. MayBeRemoved a es x → IsFlatBeginning s (a ++ x ∷ es) → IsFlatBeginning s (a ++ es))
    (λ r h. subst (IsFlatBeginning s) (sym (append-nil a)) (prefix_beginning_front s a (x ∷ []) h)) step b
  where
    step : (es : List Event) (e : Event)
        → (MayBeRemoved a es x → IsFlatBeginning s (a ++ x ∷ es) → IsFlatBeginning s (a ++ es))
        → MayBeRemoved a (es ++ e ∷ []) x → IsFlatBeginning s (a ++ x ∷ (es ++ e ∷ []))
        → IsFlatBeginning s (a ++ (es ++ e ∷ []))
    step es e ih r h =
        let both =
        (prefix_beginning_next s (a ++ x ∷ es) e.processor e.kind).0
        (subst (IsFlatBeginning s) (sym (append_assoc a (x ∷ es) (e ∷ []))) h) in
        let u = removed_is_unneeded s a es x e r.unreached (removed_follows_front s a (es ++ e ∷ []) x h).may_follow in
        subst (IsFlatBeginning s) (append_assoc a es (e ∷ []))
        ((prefix_beginning_next s (a ++ es) e.processor e.kind).1
        (ih (removed_front a es x e r) both.0, removed_next_left s a es x e u (r.unopposed (length es) e (event_place_at_end es e)) both.1))
