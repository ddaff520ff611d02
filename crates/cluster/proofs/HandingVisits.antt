-- A call that hands the block in.
use Rattle.std.proofs.Common.{ℕ, zero, suc, ◌≡◌, ◌+◌, ◌≤◌, Result, None, OnOk, OnErr, Err, Ok, List, [], ◌∷◌, ◌++◌, length, inl, inr, refl, sym, ap, subst, subst₂, take, ◌∙◌, append-nil, append_assoc}
use Rattle.std.proofs.lemmas.Bool.{cases_lt, eq-eqb}
use Rattle.std.proofs.lemmas.List.Elements.{filter-append}
use Rattle.journal.specs.declared.event.Event.{Event}
use Rattle.journal.specs.Events.{EventAt, events_of}
use Rattle.journal.specs.Log.{Log}
use Rattle.base.specs.Limits.{most_events}
use Rattle.book.specs.BookState.{BookState}
use Rattle.book.specs.Transitions.{transition_handed_in}
use Rattle.book.specs.declared.refused.Refused.{Refused}
use Rattle.book.specs.declared.refused.Refused.TheVariants.{JournalFull}
use Rattle.book.specs.Refusals.{IsFullRefusal}
use Rattle.book.specs.RepresentedHistory.{Represents}
use Rattle.turn.specs.declared.chair.ChairToken.{ChairToken}
use Rattle.cluster.specs.Copies.AfterNews.{handed_after_news}
use Rattle.cluster.proofs.copies.SoundHandingIn.{sound_handing_in}
use Rattle.cluster.specs.Copies.Local.{Local, calls}
use Rattle.cluster.specs.Copies.Sound.{IsSound}
use Rattle.cluster.specs.declared.keeper.View.{View}
use Rattle.cluster.specs.ProcessorRefusals.{processor_refusal_of_flush}
use Rattle.cluster.specs.ProcessorCalls.{IsProcessorCall, IsHandedByProcessorCall, ProcessorCallWaitsForNothing}
use Rattle.cluster.specs.Entering.{IsEnteringCallOf, entered}
use Rattle.cluster.proofs.LeavingCalls.{leaving_call_of_nothing, leaving_call_of_block}
use Rattle.cluster.specs.FaithfulJournals.{IsFaithfulJournalAudit, IsFaithful, IsJournalOf}
use Rattle.cluster.proofs.FaithfulHistory.{faithful_history, faithful_history_journal, faithful_history_taken, faithful_history_told_few}
use Rattle.cluster.proofs.Visiting.{Visit, visiting_processor_on, visit_left_as}
use Rattle.cluster.proofs.EndedCalls.{ended_call_entered_sound, ended_call_not_spent, ended_call_now_is, ended_call_done}

-- what was done had room
pub handing_visit_had_room : {A : Type 0} (a : A) (n : ℕ) → IsFullRefusal n (Ok a) → n ≤ most_events
handing_visit_had_room {A} a n full = elim (cases_lt most_events n) [
  | inl more ↦ (let no : ◌≡◌ {A = Result A Refused} (Ok a) (Err JournalFull) = full.1 more in absurd (cc no))
  | inr le ↦ le
]

module _ (m : Local) (sound : IsSound m) (b : BookState) where
  -- whatever it answers, it is a call of p
  pub handing_visit_call_answered : {A : Type 0} (r : Result A Refused) (block : List Event) (new : BookState) → block ≡ m.block
      → OnOk r (new ≡ transition_handed_in b block) → OnErr r (new ≡ b) → IsFullRefusal (length b.journal.events + length block) r
      → (es : List Event) × IsEnteringCallOf m b es new
  handing_visit_call_answered (Ok a) block new handing_visit_same ok err full = (
    m.block,
    rw (ok, handing_visit_same) (leaving_call_of_block m sound b (rw (← handing_visit_same) (handing_visit_had_room a (length b.journal.events
        + length block) full))),
  )
  handing_visit_call_answered (Err e) block new handing_visit_same ok err full = ([], rw err (leaving_call_of_nothing m b))

-- events of p are p's part
pub handing_visit_part_own : (es : List Event) (p : ℕ) → ((k : ℕ) (e : Event) → EventAt es k e → e.processor ≡ p) → events_of es p ≡ es
handing_visit_part_own [] p mine = refl
handing_visit_part_own (e ∷ es) p mine = rw (mine zero e refl, eq-eqb p p refl, handing_visit_part_own es p (λ k f at. mine (suc k) f at)) refl

-- handing in adds no call
pub handing_visit_calls : (m : Local) → IsSound m → calls (handed_after_news m) ≡ calls m
handing_visit_calls m sound =
    rw (filter-append, handing_visit_part_own m.block m.number (λ k e at. (sound.inner k e at).mine), append-nil) refl

-- a visit that handed the block in
pub record HandingVisit (m : Local) (b new : BookState) (after : ChairToken BookState View) : Type 0 where
  pub fits : length b.journal.events + length m.block ≤ most_events
  pub is : new ≡ transition_handed_in b m.block
  pub visit : Visit m b (transition_handed_in b m.block) after

-- as the book answered
pub handing_visit_made : {A : Type 0} {m : Local} {b new : BookState} {after : ChairToken BookState View} {block : List Event} (a : A)
    → Visit m b new after → block ≡ m.block → new ≡ transition_handed_in b block
    → IsFullRefusal (length b.journal.events + length block) (Ok a) → HandingVisit m b new after
handing_visit_made {b = b} {block = block} a handing_visit_of handing_visit_same ok full = record {
  fits = rw (← handing_visit_same) (handing_visit_had_room a (length b.journal.events + length block) full);
  is = rw (← handing_visit_same) ok;
  visit = visit_left_as handing_visit_of (rw (← handing_visit_same) ok);
}

module _ {m : Local} {b new : BookState} {after : ChairToken BookState View} (t : HandingVisit m b new after) where
  abbrev handing_visit_of : Visit m b (transition_handed_in b m.block) after
  handing_visit_of = t.visit

  -- the processor after its block was handed in
  abbrev handing_visit_now : Local
  handing_visit_now = record (visiting_processor_on after m) { block = [] }

  abbrev then : Local
  then = entered m handing_visit_of.finds.rest b.journal.base.cut

  abbrev handing_visit_history : List Event
  handing_visit_history = (m.seen ++ handing_visit_of.finds.rest) ++ m.block

  handing_visit_call : IsEnteringCallOf m b m.block (transition_handed_in b m.block)
  handing_visit_call = leaving_call_of_block m handing_visit_of.sound b t.fits

  handing_visit_told : Represents m.sizes handing_visit_history (transition_handed_in b m.block)
  handing_visit_told = handing_visit_call.told handing_visit_of.finds

  handing_visit_same : handing_visit_now ≡ handed_after_news then
  handing_visit_same = ended_call_now_is handing_visit_of m.block handing_visit_call handing_visit_now refl refl

  -- it is as it has to be
  pub handing_visit_sound : IsSound handing_visit_now
  handing_visit_sound =
      subst IsSound (sym handing_visit_same) (sound_handing_in then (ended_call_entered_sound m b handing_visit_of.sound handing_visit_of.finds b.journal.base.cut)
      handing_visit_told.well_formed (faithful_history_told_few m.sizes handing_visit_history (transition_handed_in b m.block) handing_visit_told (handing_visit_call.few handing_visit_of.finds)))

  pub handing_visit_done : {many : ℕ} → IsProcessorCall (processor_refusal_of_flush m) many ProcessorCallWaitsForNothing IsHandedByProcessorCall [] m handing_visit_now None
  handing_visit_done =
      ended_call_done handing_visit_of m.block handing_visit_call handing_visit_now refl (ended_call_not_spent handing_visit_of) refl handing_visit_sound handing_visit_same (ap calls handing_visit_same
      ∙ handing_visit_calls then (ended_call_entered_sound m b handing_visit_of.sound handing_visit_of.finds b.journal.base.cut) ∙ sym (append-nil (calls then)))

  -- and a journal like the book's is what an audit answers
  pub handing_visit_audit_done : (j : Log) → j ≡ record new.journal { room = j.room } → IsFaithfulJournalAudit m handing_visit_now j
  handing_visit_audit_done j copy =
      let ends : handing_visit_now.seen ≡ handing_visit_history = ap (λ (n : Local). n.seen) handing_visit_same in
      let ends_cut : handing_visit_now.cut ≡ b.journal.base.cut = ap (λ (n : Local). n.cut) handing_visit_same in
      let P : ℕ → List Event → Type 0 = λ c h. IsJournalOf m.sizes (take c h) h j in
      record {
        journal =
            subst₂ P (sym ends_cut) (sym ends) (subst (λ (c : List Event). IsJournalOf m.sizes c handing_visit_history j)
            (faithful_history_taken m.sizes handing_visit_history (transition_handed_in b m.block) handing_visit_told)
            (faithful_history_journal m.sizes handing_visit_history (transition_handed_in b m.block) j handing_visit_told
            (copy ∙ ap (λ (x : BookState). record x.journal { room = j.room }) t.is)));
        faithful =
            subst (IsFaithful m.sizes) (sym ends)
            (faithful_history m.sizes handing_visit_history handing_visit_told.well_formed (handing_visit_call.explained handing_visit_of.finds) (handing_visit_call.counted handing_visit_of.finds)
            (handing_visit_call.copied handing_visit_of.finds));
        begins = (handing_visit_of.finds.rest ++ m.block, ends ∙ append_assoc m.seen handing_visit_of.finds.rest m.block);
        calls_are = sym (append-nil (events_of handing_visit_now.seen m.number));
      }
