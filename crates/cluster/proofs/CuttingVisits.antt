-- A call that cuts the journal.
use Rattle.std.proofs.Common.{ℕ, ◌≡◌, ◌+◌, ◌≤◌, Some, None, Result, Ok, Err, OnOk, OnErr, List, [], ◌++◌, length, take, drop, refl, sym, ap, ap₂, subst, subst₂, ◌∙◌, append-nil, append_assoc, arith}
use Rattle.std.proofs.lemmas.Option.{none-some, same_Some}
use Rattle.std.proofs.lemmas.List.{drop_all, take-append-drop, length-append, length-take-le}
use Rattle.std.proofs.Math.Seq.{drop-append_seam, take-append-add}
use Rattle.journal.specs.declared.event.Event.{Event}
use Rattle.journal.specs.declared.cut.CutFault.{CutFault}
use Rattle.journal.specs.declared.cut.CutFault.TheVariants.{Racy, NoEpisode, BaseFull, NoMemory}
use Rattle.journal.specs.Sizes.{Sizes, addresses}
use Rattle.journal.specs.WellFormed.{WellFormed}
use Rattle.journal.specs.EpisodeBases.{IsEpisodeBaseFront, NoEpisodeBaseFront, IsEpisodeBaseOf}
use Rattle.journal.specs.JournalCuts.{JournalMayBeCut, IsJournalCutRefusal}
use Rattle.journal.specs.Log.{Log}
use Rattle.journal.specs.Races.{RaceFree, IsFirstRace}
use Rattle.journal.specs.RacesFromBase.{IsFirstRaceFromBase}
use Rattle.journal.proofs.Journals.WellFormedStays.{well_formed_stays_front}
use Rattle.journal.proofs.FromBase.CutLaws.{same_cut_law, well_formed_cut_law, flat_cut_law, copy_cut_law}
use Rattle.journal.specs.PageImages.{Lawful}
use Rattle.cluster.specs.ClusterHistoryLaws.{ClusterFromBaseLaw, ClusterLeftLaw}
use Rattle.journal.specs.ExplainedAnswers.{Explained}
use Rattle.book.specs.BookCut.{WasBookCut, book_cut_refusal}
use Rattle.book.specs.BookState.{BookState}
use Rattle.book.specs.RepresentedHistory.{Represents}
use Rattle.book.specs.declared.refused.Refused.{Refused}
use Rattle.book.specs.declared.refused.Refused.TheVariants.{SeatSpent}
use Rattle.book.proofs.Told.WholeLaws.{whole_cut_law}
use Rattle.turn.specs.declared.chair.ChairToken.{ChairToken}
use Rattle.cluster.specs.Copies.Local.{Local, calls}
use Rattle.cluster.specs.Copies.Sound.{IsSound}
use Rattle.cluster.specs.declared.keeper.View.{View}
use Rattle.cluster.specs.CuttingCalls.{IsCuttingCall, IsCuttingCallRefusal, CuttingCallMayCutOff, WasCutOffByCuttingCall}
use Rattle.cluster.specs.Entering.{IsEnteringCallOf, entered}
use Rattle.cluster.specs.KeptViews.{view_having_seen}
use Rattle.cluster.proofs.copies.SoundAfterOthers as entering
use Rattle.cluster.specs.ProcessorRefusals.{processor_refusal_of_flush}
use Rattle.cluster.proofs.CoveringHistories.{covers}
use Rattle.cluster.proofs.FaithfulHistory.{faithful_history_taken}
use Rattle.cluster.proofs.LeavingCalls.{leaving_call_of_nothing}
use Rattle.cluster.proofs.EndedCalls.{ended_call_copies_alike, ended_call_calls_entered, ended_call_entered_sound, ended_call_free_of, ended_call_seat_spent, ended_call_not_spent, ended_call_now_by_cuts, ended_call_now_same, ended_call_few_seen, ended_call_now_allowed, ended_call_after, ended_call_unchanged_is, ended_call_keeps_calls, ended_call_allowed, ended_call_sound}
use Rattle.cluster.proofs.Visiting.{Visit, visiting_processor_on}

-- what is dropped makes a list no longer
length-drop_cutting_visit : {A : Type 0} (n : ℕ) (xs : List A) → length (drop n xs) ≤ length xs
length-drop_cutting_visit n xs =
    let both = ap length (take-append-drop n xs) in let long = length-append (take n xs) (drop n xs) in omega arith

module _ (m : Local) (b new : BookState) (was : WasBookCut b new) where
  cutting_visit_leaves_events : new.journal.events ≡ drop was.journal.taken b.journal.events
  cutting_visit_leaves_events = ap (λ (l : Log). l.events) was.journal.left

  cutting_visit_leaves_fewer : length new.journal.events ≤ length b.journal.events
  cutting_visit_leaves_fewer = let le = length-drop_cutting_visit was.journal.taken b.journal.events in let all = ap length cutting_visit_leaves_events in omega arith

  -- and by so many more are cut off
  pub cutting_visit_has_grown : new.journal.base.cut ≡ b.journal.base.cut + was.journal.taken
  cutting_visit_has_grown =
      let cut = was.journal.base.cut in
      let within = was.journal.may.place.within in
      cut ∙ ap (λ (n : ℕ). b.journal.base.cut + n) (length-take-le was.journal.taken b.journal.events within)

  -- it is a call of p, which adds nothing
  pub cutting_visit_is_call : IsEnteringCallOf m b [] new
  cutting_visit_is_call = record {
    mine = λ k e at. absurd (none-some e at);
    adds = drop_all (length b.journal.events) new.journal.events cutting_visit_leaves_fewer;
    room = ap (λ (l : Log). l.room) was.journal.left;
    told = λ f. rw append-nil (whole_cut_law m.sizes (m.seen ++ f.rest) b new f.kept.told was);
    explained = λ f. rw append-nil f.kept.explained;
    counted = λ f. rw append-nil f.kept.counted;
    copied = λ f. rw append-nil f.kept.copied;
    few = λ f. (let few = f.kept.few in let less = cutting_visit_leaves_fewer in omega arith);
    taken = was.journal.taken;
    cuts = cutting_visit_has_grown;
  }

-- whatever the book answers
pub cutting_visit_call_answered : {E : Type 0} (m : Local) (b new : BookState) (r : Result (Unit {0}) E) → OnOk r (WasBookCut b new)
    → OnErr r (new ≡ b) → (es : List Event) × IsEnteringCallOf m b es new
cutting_visit_call_answered m b new (Ok a) ok err = ([], cutting_visit_is_call m b new ok)
cutting_visit_call_answered m b new (Err e) ok err = ([], rw err (leaving_call_of_nothing m b))

module _ (s : Sizes) (h : List Event) (b : BookState) (told : Represents s h b) where
  abbrev cut : ℕ
  cut = b.journal.base.cut

  abbrev cutting_visit_taken : List Event
  cutting_visit_taken = told.holds.taken

  long : length cutting_visit_taken ≡ cut
  long = let is = told.holds.rest.base.after.cut in omega arith

  -- what is left of the history is the journal
  cutting_visit_left : drop cut h ≡ b.journal.events
  cutting_visit_left =
      ap₂ (λ (n : ℕ) (xs : List Event). drop n xs) (sym long) told.holds.rest.history
      ∙ drop-append_seam cutting_visit_taken b.journal.events

  -- and its front what was cut off, and the journal's
  cutting_visit_front : (n : ℕ) → take (cut + n) h ≡ cutting_visit_taken ++ take n b.journal.events
  cutting_visit_front n =
      ap₂ (λ (k : ℕ) (xs : List Event). take (k + n) xs) (sym long) told.holds.rest.history
      ∙ take-append-add cutting_visit_taken b.journal.events n

  base : IsEpisodeBaseOf s.processors (addresses s) cutting_visit_taken b.journal.base
  base =
      subst₂ (λ (p n : ℕ). IsEpisodeBaseOf p n cutting_visit_taken b.journal.base) told.sizes.processors told.sizes.addresses
      told.holds.rest.base

  cutting_visit_front_well : (n : ℕ) → WellFormed s (cutting_visit_taken ++ take n b.journal.events)
  cutting_visit_front_well n =
      let whole : h ≡ (cutting_visit_taken ++ take n b.journal.events) ++ drop n b.journal.events =
      told.holds.rest.history ∙ ap (λ (xs : List Event). cutting_visit_taken ++ xs) (sym (take-append-drop n b.journal.events))
      ∙ sym (append_assoc cutting_visit_taken (take n b.journal.events) (drop n b.journal.events)) in
      well_formed_stays_front s (cutting_visit_taken ++ take n b.journal.events) (drop n b.journal.events)
      (subst (WellFormed s) whole told.well_formed)

  cutting_visit_is_cut : (n : ℕ) → IsEpisodeBaseFront b.journal.processors b.journal.events n → IsEpisodeBaseFront s.processors (drop cut h) n
  cutting_visit_is_cut n place = subst₂ (λ (p : ℕ) (xs : List Event). IsEpisodeBaseFront p xs n) told.sizes.processors (sym cutting_visit_left) place

  pub cutting_visit_may_cut_off : (n : ℕ) → JournalMayBeCut b.journal n → CuttingCallMayCutOff s h cut n
  cutting_visit_may_cut_off n may = record { place = cutting_visit_is_cut n may.place; few = may.few }

  first_race : (n i k : ℕ) → IsFirstRaceFromBase b.journal.base (take n b.journal.events) i k
      → IsFirstRace (take (cut + n) h) (cut + i) (cut + k)
  first_race n i k first =
      let there =
      ((same_cut_law s b.journal.base cutting_visit_taken (take n b.journal.events) (cutting_visit_front_well n) base).first_race i k).1 first in
      let P : List Event → Type 0 = λ xs. IsFirstRace xs (cut + i) (cut + k) in
      let Q : ℕ → Type 0 = λ c. IsFirstRace (cutting_visit_taken ++ take n b.journal.events) (c + i) (c + k) in
      subst P (sym (cutting_visit_front n)) (subst Q long there)

  -- why the journal isn't cut
  pub cutting_visit_refuses : (e : CutFault) → IsJournalCutRefusal b.journal e → IsCuttingCallRefusal s h cut (book_cut_refusal e)
  cutting_visit_refuses (Racy i k) fault = (fault.0, cutting_visit_may_cut_off fault.0 fault.1, first_race fault.0 i k fault.2)
  cutting_visit_refuses NoEpisode none = subst₂ (λ (p : ℕ) (xs : List Event). NoEpisodeBaseFront p xs) told.sizes.processors (sym cutting_visit_left) none
  cutting_visit_refuses BaseFull fault = (fault.0, cutting_visit_is_cut fault.0 fault.1, fault.2)
  cutting_visit_refuses NoMemory fault = (fault.0, cutting_visit_may_cut_off fault.0 fault.1)

-- a call that cut
module _ {m : Local} {b new : BookState} {after : ChairToken BookState View} (v : Visit m b new after)
    (was : WasBookCut b new) where
  abbrev then : Local
  then = entered m v.finds.rest b.journal.base.cut

  abbrev cutting_visit_history : List Event
  cutting_visit_history = m.seen ++ v.finds.rest

  cutting_visit_call : IsEnteringCallOf m b [] new
  cutting_visit_call = cutting_visit_is_call m b new was

  abbrev cutting_visit_own_grown : ℕ
  cutting_visit_own_grown = m.own_cut + was.journal.taken

  cutting_visit_same : visiting_processor_on after m ≡ record then { cut = new.journal.base.cut; own_cut = cutting_visit_own_grown }
  cutting_visit_same =
      ended_call_now_by_cuts v [] cutting_visit_call (visiting_processor_on after m) refl cutting_visit_own_grown
      (let cuts = cutting_visit_call.cuts in let more = cutting_visit_has_grown m b new was in omega arith)
      ∙ ap (λ (h : List Event). record then { seen = h; cut = new.journal.base.cut; own_cut = cutting_visit_own_grown })
      (append-nil cutting_visit_history)

  pub cutting_visit_sound : IsSound (visiting_processor_on after m)
  cutting_visit_sound =
      subst IsSound (sym cutting_visit_same)
      (entering.sound_after_others_entered then then.entries new.journal.base.cut cutting_visit_own_grown
      (ended_call_entered_sound m b v.sound v.finds b.journal.base.cut))

  cutting_visit_race_free : RaceFree (take (b.journal.base.cut + was.journal.taken) cutting_visit_history)
  cutting_visit_race_free =
      let told = whole_cut_law m.sizes cutting_visit_history b new v.finds.kept.told was in
      let P : ℕ → Type 0 = λ n. RaceFree (take n cutting_visit_history) in
      subst P (cutting_visit_has_grown m b new was) (subst RaceFree (faithful_history_taken m.sizes cutting_visit_history new told) told.holds.rest.base.race_free)

  cutting_visit_was_cut_off : WasCutOffByCuttingCall then (visiting_processor_on after m)
  cutting_visit_was_cut_off = record {
    taken = was.journal.taken;
    may = cutting_visit_may_cut_off m.sizes cutting_visit_history b v.finds.kept.told was.journal.taken was.journal.may;
    race_free = cutting_visit_race_free;
    after = cutting_visit_same ∙ ap (λ (n : ℕ). record then { cut = n; own_cut = cutting_visit_own_grown }) (cutting_visit_has_grown m b new was);
  }

  pub cutting_visit_done : IsCuttingCall m (visiting_processor_on after m) None
  cutting_visit_done = record {
    same = ended_call_now_same v [] cutting_visit_call (visiting_processor_on after m) refl;
    outside = λ d there. absurd (ended_call_free_of (processor_refusal_of_flush m) d (ended_call_not_spent v) there);
    ok = λ _. (
      record {
        rest = v.finds.rest;
        away = v.finds.away;
        cut = b.journal.base.cut;
        more = v.finds.kept.behind m.number (view_having_seen m.sizes m.seen m.cut m.own_cut) v.finds.at;
        after = cutting_visit_was_cut_off;
      },
      ended_call_few_seen v [] cutting_visit_call (visiting_processor_on after m) refl,
    );
    err = λ e _ is. absurd (none-some e is);
    calls_are = ap calls cutting_visit_same ∙ ended_call_calls_entered m b v.finds new.journal.base.cut;
    covers = covers (visiting_processor_on after m) cutting_visit_sound;
    allowed = λ _. ended_call_now_allowed v [] cutting_visit_call (visiting_processor_on after m) refl;
  }

-- a call that was refused inside
pub cutting_visit_refused : {m : Local} {b : BookState} {after : ChairToken BookState View} (v : Visit m b b after) (e : CutFault)
    → IsJournalCutRefusal b.journal e → IsCuttingCall m (visiting_processor_on after m) (Some (book_cut_refusal e))
cutting_visit_refused {m} {b} {after} v e fault =
    let alike = ended_call_copies_alike m.copies in
    let now = visiting_processor_on after m in
    let is = ended_call_unchanged_is v m.copies alike in
    let P : Local → Type 0 = λ n. IsCuttingCallRefusal n.sizes n.seen n.cut (book_cut_refusal e) in
    let why = subst P (sym is) (cutting_visit_refuses m.sizes (m.seen ++ v.finds.rest) b v.finds.kept.told e fault) in
    let Q : Refused → Type 0 = λ r. IsCuttingCallRefusal now.sizes now.seen now.cut r in
    record {
      same = record { lock = v.same_lock; number = refl; sizes = refl };
      outside = λ d there. absurd (ended_call_free_of (processor_refusal_of_flush m) d (ended_call_not_spent v) there);
      ok = λ none. absurd (none-some (book_cut_refusal e) (sym none));
      err = λ d _ some. (ended_call_after v m.copies alike, subst Q (same_Some (book_cut_refusal e) d some) why);
      calls_are = ended_call_keeps_calls v m.copies alike;
      covers = covers now (ended_call_sound v m.copies alike);
      allowed = λ _. ended_call_allowed v m.copies alike;
    }

-- a call that has entered as often as it may
pub cutting_visit_spent : {m : Local} → IsSound m → m.entries ≡ m.lock.limit → IsCuttingCall m m (Some SeatSpent)
cutting_visit_spent {m} sound all = record {
  same = record { lock = refl; number = refl; sizes = refl };
  outside = λ d there. (sym (ended_call_seat_spent m all) ∙ there, refl);
  ok = λ none. absurd (none-some SeatSpent (sym none));
  err = λ d free _. absurd (ended_call_free_of (processor_refusal_of_flush m) SeatSpent free (ended_call_seat_spent m all));
  calls_are = refl;
  covers = covers m sound;
  allowed = λ h. h;
}

-- a valid copy, from what was kept of what was cut off
pub cutting_visits_from_base : ClusterFromBaseLaw
cutting_visits_from_base m h a n c cover within at valid here =
    let covered = cover.each h a in
    let told = a.kept.told in
    let whole : h ++ m.block ≡ told.holds.taken ++ (a.book.journal.events ++ m.block) =
    ap (λ (xs : List Event). xs ++ m.block) told.holds.rest.history
    ∙ append_assoc told.holds.taken a.book.journal.events m.block in
    let P : List Event → Type 0 = λ xs. Lawful m.sizes xs m.number n c.page.words in
    copy_cut_law m.sizes a.book.journal.base told.holds.taken (a.book.journal.events ++ m.block) m.number n c.page.words
    (subst (WellFormed m.sizes) whole covered.well_formed) (base m.sizes h a.book told) here within
    (subst P whole (covered.lawful n c at valid))

-- what is left of a faithful history is faithful from what was kept
pub cutting_visits_left_law : ClusterLeftLaw
cutting_visits_left_law s c h j of faithful =
    let base : IsEpisodeBaseOf s.processors (addresses s) c j.base =
    subst₂ (λ (p n : ℕ). IsEpisodeBaseOf p n c j.base) of.processors of.addresses_are of.holds.base in
    let well = subst (WellFormed s) of.holds.history faithful.well_formed in
    let explained = subst Explained of.holds.history faithful.explained in
    let both = (well_formed_cut_law s j.base c j.events base).0 well in
    let flat = flat_cut_law s j.base c j.events well explained base in
    record {
      cut = (both.0, flat.cut);
      memory = base.after.memory;
      well_formed = both.1;
      explained = (((same_cut_law s j.base c j.events well base).explained).0 explained).1;
      flat = flat.left;
      up_to = flat.up_to;
    }
