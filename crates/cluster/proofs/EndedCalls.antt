-- How a call that enters the book ends.
use Rattle.std.proofs.Common.{ℕ, ◌≡◌, ◌⊎◌, ◌↔◌, ◌+◌, ◌<◌, ◌≤◌, Result, Ok, Err, Option, Some, None, List, [], ◌++◌, length, inl, inr, refl, sym, ap, ap₂, subst, ◌∙◌, append-nil, arith}
use Rattle.std.proofs.lemmas.Bool.{lt-leb}
use Rattle.std.proofs.lemmas.Bool.Decides.{leb_tells}
use Rattle.std.proofs.lemmas.Option.{none-some}
use Rattle.std.proofs.lemmas.List.Elements.{filter-append}
use Rattle.journal.specs.declared.event.Event.{Event}
use Rattle.base.specs.Limits.{most_events}
use Rattle.std.specs.Result.{IsErrAnd, result_err}
use Rattle.turn.specs.declared.chair.ChairToken.{ChairToken}
use Rattle.cluster.specs.Copies.PageReplica.{PageReplica}
use Rattle.book.specs.BookState.{BookState}
use Rattle.book.specs.declared.refused.Refused.{Refused}
use Rattle.book.specs.declared.refused.Refused.TheVariants.{NotYet, JournalFull, NoMemory, SeatSpent}
use Rattle.book.specs.Refusals.{IsFullRefusal, IsRoomRefusal}
use Rattle.cluster.specs.Copies.Local.{Local, calls}
use Rattle.cluster.specs.Copies.Sound.{IsSound}
use Rattle.cluster.specs.Copies.AfterNews.{found_after_news, IsSameCopyAfterNews, AreSameCopiesAfterNews}
use Rattle.cluster.proofs.copies.SoundAfterOthers as entering
use Rattle.cluster.proofs.copies.WaitingToLearn.{waiting_to_learn_sound_with_room}
use Rattle.cluster.specs.ProcessorCalls.{IsProcessorCall, IsProcessorCallRefusedInside, IsSameAfterProcessorCall, IsSameProcessorOfCall, IsProcessorCallUnmade, ProcessorCallWaitsForNothing}
use Rattle.cluster.specs.declared.keeper.View.{View}
use Rattle.cluster.specs.ProcessorRefusals.{processor_refusal_of_flush}
use Rattle.cluster.specs.Entering.{FindsOnEntering, IsEnteringCallOf, EnteredAndDid, entered}
use Rattle.cluster.specs.Covers.{IsCoverAllowed}
use Rattle.cluster.proofs.CoveringHistories.{covers, covering_history_part_away}
use Rattle.cluster.proofs.FaithfulHistory.{faithful_history_told_long}
use Rattle.cluster.specs.KeptViews.{view_having_seen}
use Rattle.cluster.proofs.FoundBook.{found_book_sound}
use Rattle.cluster.proofs.LeavingCalls.{leaving_call_of_nothing}
use Rattle.cluster.proofs.Visiting.{Visit, visiting_processor_on, visit_processor_after, visit_allowed_after}

-- that a lock entry was spent, and events were cut off, changes nothing else
pub ended_call_entered_sound : (m : Local) (b : BookState) → IsSound m → (f : FindsOnEntering m b) (cut : ℕ) → IsSound (entered m f.rest cut)
ended_call_entered_sound m b sound f cut = entering.sound_after_others_entered (found_after_news m f.rest) (m.entries + 1) cut m.own_cut (found_book_sound m sound b f)

-- copies that are alike
pub ended_call_copies_alike : (xs : List PageReplica) → AreSameCopiesAfterNews xs xs
ended_call_copies_alike xs = record {
  all = refl;
  each =
      λ n c d a b. (let P : PageReplica → Type 0 = λ x. IsSameCopyAfterNews c x in let is : c ≡ d = cc (a, b) in subst P is (record {
        page = refl;
        missing = refl;
      }));
}

-- what others did is none of p's calls
pub ended_call_calls_entered : (m : Local) (b : BookState) (f : FindsOnEntering m b) (cut : ℕ) → calls (entered m f.rest cut) ≡ calls m
ended_call_calls_entered m b f cut = rw (filter-append, covering_history_part_away f.rest m.number f.away, append-nil)

-- what isn't there is nothing
pub ended_call_free_of : {A : Type 0} (first : Option A) (e : A) → first ≡ None → ¬ (first ≡ Some e)
ended_call_free_of first e none some = none-some e (sym none ∙ some)

-- what a `?` answers
pub ended_call_refused_with : {A : Type 0} (r : Result A Refused) (e : Refused) → IsErrAnd r (λ d. d ≡ e)
    → result_err r ≡ Some e
ended_call_refused_with (Ok a) e h = absurd h
ended_call_refused_with (Err d) e h = ap (λ (x : Refused). Some x) h

module _ {first : Option Refused} {many : ℕ} {absent : Local → Type 0} {done : Local → Local → Type 0}
    {added : List Event} {m : Local} where
  -- a call that is refused for a reason that the processor knows by itself
  pub ended_call_outside : (e : Refused) → IsSound m → first ≡ Some e → IsProcessorCall first many absent done added m m (Some e)
  ended_call_outside e sound is = record {
    same = record { lock = refl; number = refl; sizes = refl };
    outside = λ d there. (sym is ∙ there, refl);
    ok = λ none. absurd (none-some e (sym none));
    err = λ d none _. absurd (none-some e (sym none ∙ is));
    kept = λ _. refl;
    uncut = refl;
    covers = covers m sound;
    allowed = λ h. h;
  }

  -- a call that found no memory before it could enter
  pub ended_call_unmade : IsSound m → first ≡ None → ((l : Local) → ¬ absent l)
      → IsProcessorCall first many absent done added m m (Some NoMemory)
  ended_call_unmade sound free never = record {
    same = record { lock = refl; number = refl; sizes = refl };
    outside = λ d there. absurd (ended_call_free_of first d free there);
    ok = λ none. absurd (none-some NoMemory (sym none));
    err = λ d _ same. (let it : NoMemory ≡ d = cc same in inr (sym it, refl, never));
    kept = λ _. refl;
    uncut = refl;
    covers = covers m sound;
    allowed = λ h. h;
  }

-- who has entered as often as it may
pub ended_call_seat_spent : (m : Local) → m.entries ≡ m.lock.limit → processor_refusal_of_flush m ≡ Some SeatSpent
ended_call_seat_spent m all = rw all (elim (leb_tells m.lock.limit m.lock.limit) [
  | inl h ↦ rw (h.0) refl
  | inr h ↦ (let less = h.1 in absurd (omega arith))
])

pub ended_call_spent : {many : ℕ} {absent : Local → Type 0} {done : Local → Local → Type 0} {added : List Event} {m : Local}
    → IsSound m → m.entries ≡ m.lock.limit
    → IsProcessorCall (processor_refusal_of_flush m) many absent done added m m (Some SeatSpent)
ended_call_spent {m = m} sound all = ended_call_outside SeatSpent sound (ended_call_seat_spent m all)

-- who enters has an entry left
pub ended_call_not_spent : {m : Local} {b new : BookState} {after : ChairToken BookState View} → Visit m b new after
    → processor_refusal_of_flush m ≡ None
ended_call_not_spent {m} v = let less = v.some_left in rw (lt-leb m.lock.limit m.entries less) refl

-- a call that found the book and left it so, and may have made room in the copies' lists
module _ {m : Local} {b : BookState} {after : ChairToken BookState View} (v : Visit m b b after) (cs : List PageReplica)
    (alike : AreSameCopiesAfterNews m.copies cs) where
  abbrev pub ended_call_unchanged : Local
  ended_call_unchanged = record (visiting_processor_on after m) { copies = cs }

  abbrev cut : ℕ
  cut = b.journal.base.cut

  ended_call_adds_nothing : m.own_cut + (leaving_call_of_nothing m b).taken ≡ m.own_cut
  ended_call_adds_nothing = let cuts = (leaving_call_of_nothing m b).cuts in omega arith

  pub ended_call_unchanged_is : ended_call_unchanged ≡ record (entered m v.finds.rest cut) { copies = cs }
  ended_call_unchanged_is =
      visit_processor_after v [] (leaving_call_of_nothing m b) ended_call_unchanged refl
      ∙ ap₂ (λ (h : List Event) (o : ℕ). record (entered m v.finds.rest cut) { seen = h; own_cut = o; copies = cs })
      (append-nil (m.seen ++ v.finds.rest)) ended_call_adds_nothing

  pub ended_call_seen : ended_call_unchanged.seen ≡ m.seen ++ v.finds.rest
  ended_call_seen = ap (λ (n : Local). n.seen) ended_call_unchanged_is

  pub ended_call_sound : IsSound ended_call_unchanged
  ended_call_sound =
      subst IsSound (sym ended_call_unchanged_is)
      (waiting_to_learn_sound_with_room (entered m v.finds.rest cut) (ended_call_entered_sound m b v.sound v.finds cut) cs alike)

  pub ended_call_after : EnteredAndDid IsSameAfterProcessorCall m ended_call_unchanged
  ended_call_after = record {
    rest = v.finds.rest;
    away = v.finds.away;
    cut = cut;
    more = v.finds.kept.behind m.number (view_having_seen m.sizes m.seen m.cut m.own_cut) v.finds.at;
    after = record { copies = alike; same = ended_call_unchanged_is };
  }

  pub ended_call_keeps_calls : calls ended_call_unchanged ≡ calls m
  ended_call_keeps_calls = ap calls ended_call_unchanged_is ∙ ended_call_calls_entered m b v.finds cut

  pub ended_call_allowed : IsCoverAllowed ended_call_unchanged
  ended_call_allowed =
      visit_allowed_after v [] (leaving_call_of_nothing m b) ended_call_unchanged refl refl
      (ended_call_seen ∙ sym (append-nil (m.seen ++ v.finds.rest))) (ap (λ (n : Local). n.cut) ended_call_unchanged_is)
      (ap (λ (n : Local). n.own_cut) ended_call_unchanged_is ∙ sym ended_call_adds_nothing)

  pub ended_call_inside : {first : Option Refused} {many : ℕ} {absent : Local → Type 0} {done : Local → Local → Type 0}
      {added : List Event} (e : Refused) → first ≡ None → (e ≡ NotYet) ⊎ (e ≡ JournalFull) ⊎ (e ≡ NoMemory)
      → e ≡ NotYet ↔ absent ended_call_unchanged → (e ≡ NotYet → cs ≡ m.copies)
      → (¬ absent ended_call_unchanged → e ≡ JournalFull ↔ (most_events < length b.journal.events + many))
      → IsProcessorCall first many absent done added m ended_call_unchanged (Some e)
  ended_call_inside {first} {many} {absent} e free why not_yet early full = record {
    same = record { lock = ap (λ (n : Local). n.lock) ended_call_unchanged_is; number = refl; sizes = refl };
    outside = λ d there. absurd (ended_call_free_of first d free there);
    ok = λ none. absurd (none-some e (sym none));
    err =
        λ d _ is. (let P : Refused → Type 0 = λ x. IsProcessorCallRefusedInside many absent m ended_call_unchanged x
        ⊎ IsProcessorCallUnmade absent m ended_call_unchanged x in let it : e ≡ d = cc is in subst P it (inl inside));
    kept = λ _. ended_call_keeps_calls;
    uncut = ap (λ (n : Local). n.own_cut) ended_call_unchanged_is;
    covers = covers ended_call_unchanged ended_call_sound;
    allowed = λ _. ended_call_allowed;
  }
    where
      seen_is : length ended_call_unchanged.seen ≡ cut + length b.journal.events
      seen_is =
          ap (λ (h : List Event). length h) ended_call_seen
          ∙ faithful_history_told_long m.sizes (m.seen ++ v.finds.rest) b v.finds.kept.told

      inside : IsProcessorCallRefusedInside many absent m ended_call_unchanged e
      inside = record {
        entered = ended_call_after;
        why = why;
        not_yet = not_yet;
        early = early;
        full =
            λ there. (let both = full there in let long = seen_is in
            let off = ap (λ (n : Local). n.cut) ended_call_unchanged_is in
            ((λ h. let most = both.0 h in omega arith), λ h. both.1 (omega arith)));
      }

-- so a call that waits for nothing, and was refused room for so many events, or memory
pub ended_call_refused : {A : Type 0} {m : Local} {b : BookState} {after : ChairToken BookState View} {many : ℕ}
    {done : Local → Local → Type 0} {added : List Event} (v : Visit m b b after) (e : Refused) (n : ℕ)
    → IsRoomRefusal e → IsFullRefusal {A = A} n (Err e) → n ≡ length b.journal.events + many
    → IsProcessorCall (processor_refusal_of_flush m) many ProcessorCallWaitsForNothing done added m (visiting_processor_on after m) (Some e)
ended_call_refused {A} {m} {b} v e n only full same =
    ended_call_inside v m.copies (ended_call_copies_alike m.copies) e (ended_call_not_spent v) (inr only) (
      (λ late. elim only [ inl h ↦ absurd (cc (late, h)) | inr h ↦ absurd (cc (late, h)) ]),
      λ never. absurd never,
    ) (λ _. refl) (λ _. (
      (λ h. let more = full.0 (ap (λ (x : Refused). Err x) h) in omega arith),
      λ more. let is : ◌≡◌ {A = Result A Refused} (Err e) (Err JournalFull) = full.1 (omega arith) in cc is,
    ))

-- a call that was done, with these events, after which the processor has these parts
module _ {m : Local} {b new : BookState} {after : ChairToken BookState View} (v : Visit m b new after) (es : List Event)
    (call : IsEnteringCallOf m b es new) (n : Local) (own : n ≡ record (visiting_processor_on after n) { number = m.number; sizes = m.sizes })
  where
    abbrev then : Local
    then = entered m v.finds.rest new.journal.base.cut

    -- what it knows then, where its own cuts took off so many in all
    pub ended_call_now_by_cuts : (own_cut : ℕ) → m.own_cut + call.taken ≡ own_cut → n ≡ record n {
      lock = then.lock;
      entries = then.entries;
      number = then.number;
      sizes = then.sizes;
      seen = (m.seen ++ v.finds.rest) ++ es;
      cut = then.cut;
      own_cut = own_cut;
    }
    ended_call_now_by_cuts own_cut is =
        let P : ℕ → Type 0 = λ o. n ≡ record n {
          lock = then.lock;
          entries = then.entries;
          number = then.number;
          sizes = then.sizes;
          seen = (m.seen ++ v.finds.rest) ++ es;
          cut = then.cut;
          own_cut = o;
        } in
        subst P is (visit_processor_after v es call n own)

    -- and where the call took off none
    pub ended_call_now_is : new.journal.base.cut ≡ b.journal.base.cut → n ≡ record n {
      lock = then.lock;
      entries = then.entries;
      number = then.number;
      sizes = then.sizes;
      seen = (m.seen ++ v.finds.rest) ++ es;
      cut = then.cut;
      own_cut = then.own_cut;
    }
    ended_call_now_is same = ended_call_now_by_cuts m.own_cut (let cuts = call.cuts in omega arith)

    pub ended_call_cut_grows : m.cut ≤ then.cut
    ended_call_cut_grows =
        let first = v.finds.kept.behind m.number (view_having_seen m.sizes m.seen m.cut m.own_cut) v.finds.at in
        let grew = call.cuts in omega arith

    pub ended_call_few_seen : length n.seen ≤ most_events + n.cut
    ended_call_few_seen =
        let long = faithful_history_told_long m.sizes ((m.seen ++ v.finds.rest) ++ es) new (call.told v.finds) in
        let is = visit_processor_after v es call n own in
        let seen = ap (λ (x : Local). length x.seen) is in
        let off = ap (λ (x : Local). x.cut) is in
        let few = call.few v.finds in
        omega arith

    pub ended_call_now_allowed : IsCoverAllowed n
    ended_call_now_allowed =
        let is = visit_processor_after v es call n own in
        visit_allowed_after v es call n (ap (λ (x : Local). x.number) is) (ap (λ (x : Local). x.sizes) is)
        (ap (λ (x : Local). x.seen) is) (ap (λ (x : Local). x.cut) is) (ap (λ (x : Local). x.own_cut) is)

    -- it is the same processor
    pub ended_call_now_same : IsSameProcessorOfCall m n
    ended_call_now_same = record {
      lock = ap (λ (x : Local). x.lock) (visit_processor_after v es call n own);
      number = ap (λ (x : Local). x.number) (visit_processor_after v es call n own);
      sizes = ap (λ (x : Local). x.sizes) (visit_processor_after v es call n own);
    }

    pub ended_call_done : {first : Option Refused} {many : ℕ} {absent : Local → Type 0} {done : Local → Local → Type 0}
        {added : List Event} → first ≡ None → new.journal.base.cut ≡ b.journal.base.cut → IsSound n → done then n → calls n ≡ calls then ++ added
        → IsProcessorCall first many absent done added m n None
    ended_call_done {first} {many} {absent} {done} {added} free same good made all = record {
      same = ended_call_now_same;
      outside = λ d there. absurd (ended_call_free_of first d free there);
      ok =
          λ _. (
            record { rest = v.finds.rest; away = v.finds.away; cut = then.cut; more = ended_call_cut_grows; after = made },
            ended_call_few_seen,
            all ∙ ap (λ (xs : List Event). xs ++ added) (ended_call_calls_entered m b v.finds then.cut),
          );
      err = λ d _ is. absurd (none-some d is);
      kept = λ some. absurd (some refl);
      uncut = ap (λ (x : Local). x.own_cut) (ended_call_now_is same);
      covers = covers n good;
      allowed = λ _. ended_call_now_allowed;
    }
