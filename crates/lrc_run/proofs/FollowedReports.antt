-- What the processors of a cluster have made at the end of a run, and what the report says of it.
use Rattle.std.proofs.Common.{ℕ, suc, ◌≡◌, ◌<◌, ◌↔◌, Bool, true, false, cond, Option, Some, None, List, [], ◌∷◌, ◌++◌, length, map, slice_get, slice_set, get_or, zero-add, ◌+◌, refl, sym, ap, subst, subst₂, ◌∙◌, inl, inr, append_assoc, append-nil, ne_eqb, arith}
use Rattle.std.specs.Prelude.{◌==◌, IsTrue, is_some, MatchOption}
use Rattle.std.specs.List.{sum_by}
use Rattle.std.proofs.lemmas.Bool.{cases_eq, cond-false}
use Rattle.std.proofs.lemmas.List.{length-set}
use Rattle.std.proofs.lemmas.List.Sums.{sum_by-append, sum_by-cons}
use Rattle.std.proofs.lemmas.Option.{same_Some, slice_get_within, slice_get-get_or, slice_get_read}
use Rattle.base.proofs.SliceSets.{slice_get-set_found, slice_get-set_other, slice_get-set_same}
use Rattle.journal.specs.declared.event.Event.{Event}
use Rattle.journal.specs.declared.event.Kind.TheVariants.{Arrive, Depart}
use Rattle.journal.specs.declared.event.Kind.{Kind}
use Rattle.journal.specs.Base.{Base}
use Rattle.journal.specs.EpisodeBases.{IsEpisodeBaseOf}
use Rattle.journal.specs.BaseLaws.{BaseLawSaysTheSame}
use Rattle.journal.specs.CopyAnswers.{AnswersCopies}
use Rattle.journal.specs.FetchesCountGaps.{FetchesCountGaps}
use Rattle.journal.specs.Events.{events_of}
use Rattle.journal.specs.RacesFromBase.{IsFirstRaceFromBase, RaceFreeFromBase}
use Rattle.journal.specs.Sizes.{Sizes, addresses}
use Rattle.journal.specs.Traffic.{messages, traffic_messages_of, records, traffic_records_of, words, traffic_words_fetched}
use Rattle.journal.specs.WellFormed.{WellFormed}
use Rattle.journal.proofs.FromBase.CutLaws.{same_cut_law}
use Rattle.lrc_script.specs.declared.script.Instruction.{Instruction}
use Rattle.lrc_script.specs.Lawful.{IsLawful}
use Rattle.lrc_script.specs.Plan.{Plan}
use Rattle.conformance.specs.Follows.{Follows, calls_of, call_kinds, load_of, plan_sizes}
use Rattle.conformance.proofs.Recomputing.Recomputed.{recomputed_law, recomputed_race_free_law}
use Rattle.cluster.specs.Copies.Local.{Local}
use Rattle.cluster.specs.NewClusters.{SharedCluster}
use Rattle.cluster.specs.Finishing.{AreAllToFinish, HasCallsToFinish, IsFinished, IsFinishingProcessor}
use Rattle.lrc_report.specs.declared.report.Report.{Report}
use Rattle.conformance.specs.CutInstructions.{HasNoCutInstruction}
use Rattle.lrc_run.specs.FollowedEnds.{FollowedEndHasBlocks, HasFollowedToEnd, HaveFollowedToEnd, IsFollowedEndReportAfter, IsFollowedEndReportWith}
use Rattle.lrc_run.specs.ReportLaws.{RaceFreeReportLaw}
use Rattle.conformance.specs.WantedAccess.{FetchesAreWanted}
use Rattle.conformance.specs.ScriptReports.{FetchesAreNeeded, ScriptReportHasRace}
use Rattle.lrc_run.specs.RunTurns.{HasSeenAllRunTurns}
use Rattle.lrc_run.specs.RunCalls.{HaveRunCallsOfWalks, AreRunCallsWanted, HasRunCallsOfLoads, HasRunCallsOfWalk, run_calls, new_at_run_call}
use Rattle.lrc_run.proofs.EndingBlocks.{ending_blocks_before_loads, ending_blocks_of_finished}

-- one that walked is its cluster's
pub followed_report_of_walked : (c : SharedCluster) (p : ℕ) (m : Local) (section : List Instruction) → HasRunCallsOfWalk (new_at_run_call c p) m section
    → IsFinishingProcessor c p m
followed_report_of_walked c p m section walks = record {
  lock = walks.makes.same.lock;
  number = walks.makes.same.number;
  sizes = walks.makes.same.sizes;
}

-- it made its section and the closing barrier
pub followed_report_of_walk : (c : SharedCluster) (p : ℕ) (m : Local) (section : List Instruction) → HasRunCallsOfWalk (new_at_run_call c p) m section
    → HasFollowedToEnd section [] m
followed_report_of_walk c p m section walks = record {
  own = walks.kinds;
  are = walks.are;
  made_is = walks.makes.more;
  wanted = walks.makes.wanted tt;
  uncut = walks.makes.uncut;
}

-- and then these loads
pub followed_report_of_loads : (section : List Instruction) (m n : Local) (shown : List (ℕ × ℕ)) → HasFollowedToEnd section [] m
    → HasRunCallsOfLoads m n shown
    → HasFollowedToEnd section shown n
followed_report_of_loads section m n shown walked loads = record {
  own = walked.own;
  are = walked.are;
  made_is = loads.more ∙ ap (λ ks. ks ++ map load_of shown) walked.made_is
      ∙ append_assoc walked.own (Arrive ∷ Depart ∷ []) (map load_of shown);
  wanted = loads.wanted walked.wanted;
  uncut = λ none. loads.uncut ∙ walked.uncut none;
}

-- a script's processor has a section
pub followed_report_walks_at : (s : Plan) (c : SharedCluster) (ms : List Local) → IsLawful s → c.sizes ≡ plan_sizes s → HaveRunCallsOfWalks c s.sections ms
    → (p : ℕ) (m : Local) → slice_get ms p ≡ Some m → (section : List Instruction) × HasRunCallsOfWalk (new_at_run_call c p) m section
followed_report_walks_at s c ms lawful sizes walked p m here =
    let within = slice_get_within ms p m here in
    let one_each = lawful.but_uneven.one_each in
    let same = ap (λ (x : Sizes). x.processors) sizes in
    let many = walked.all in
    let below : p < length s.sections = omega arith in
    let section = get_or s.sections p [] in
    (section, walked.each p section m (slice_get-get_or s.sections p [] below) here)

-- a script has a processor 0
pub followed_report_first_at : (s : Plan) (c : SharedCluster) (ms : List Local) (m : Local) → IsLawful s → c.sizes ≡ plan_sizes s
    → HaveRunCallsOfWalks c s.sections ms → m ≡ get_or ms 0 m → slice_get ms 0 ≡ Some m
followed_report_first_at s c ms m lawful sizes walked is =
    let some = lawful.but_uneven.sizes.some_processors in
    let same = ap (λ (x : Sizes). x.processors) sizes in
    let many = walked.all in
    slice_get_read ms (length ms) 0 m refl (omega arith) is

-- all have walked, and processor 0 has loaded what is shown
pub followed_report_of_shown : {s : Plan} {c : SharedCluster} {ms : List Local} (m n : Local) {shown : List (ℕ × ℕ)} → IsLawful s
    → c.sizes ≡ plan_sizes s → HaveRunCallsOfWalks c s.sections ms → slice_get ms 0 ≡ Some m → HasRunCallsOfLoads m n shown
    → map (λ (x : ℕ × ℕ). x.0) shown ≡ s.shown → HaveFollowedToEnd s c (slice_set ms 0 n) shown
followed_report_of_shown {s = s} {c = c} {ms = ms} m n {shown = shown} lawful sizes walked at loads shows = record {
  lawful = lawful;
  sizes = sizes;
  all = record { all = length-set ms 0 n ∙ walked.all; each = own };
  each = each;
  addresses_are = shows;
}
  where
    own : (p : ℕ) (x : Local) → slice_get (slice_set ms 0 n) p ≡ Some x → IsFinishingProcessor c p x
    own p x here = elim (cases_eq p 0) [
      | inl is ↦ (let P : ℕ → Type 0 = λ q. slice_get (slice_set ms 0 n) q ≡ Some x in
          let w = followed_report_walks_at s c ms lawful sizes walked 0 m at in
          let first = followed_report_of_walked c 0 m w.0 w.1 in
          let last : IsFinishingProcessor c 0 n = record {
            lock = loads.same.lock ∙ first.lock;
            number = loads.same.number ∙ first.number;
            sizes = loads.same.sizes ∙ first.sizes;
          } in
          let Q : ℕ → Type 0 = λ q. IsFinishingProcessor c q x in
          subst Q (sym is) (subst (IsFinishingProcessor c 0) (slice_get-set_found ms 0 n x (subst P is here)) last))
      | inr isnt ↦ (let w = followed_report_walks_at s c ms lawful sizes walked p x
          (sym (slice_get-set_other ms 0 p n isnt) ∙ here) in followed_report_of_walked c p x w.0 w.1)
    ]

    each : (p : ℕ) (section : List Instruction) (x : Local) → slice_get s.sections p ≡ Some section
        → slice_get (slice_set ms 0 n) p ≡ Some x → HasFollowedToEnd section (cond (p == 0) shown []) x
    each p section x its here = elim (cases_eq p 0) [
      | inl is ↦ (let P : ℕ → Type 0 = λ q. slice_get (slice_set ms 0 n) q ≡ Some x in
          let S : ℕ → Type 0 = λ q. slice_get s.sections q ≡ Some section in
          let first = followed_report_of_walk c 0 m section (walked.each 0 section m (subst S is its) at) in
          let last = followed_report_of_loads section m n shown first loads in
          let Q : ℕ → Type 0 = λ q. HasFollowedToEnd section (cond (q == 0) shown []) x in
          subst Q (sym is) (subst (HasFollowedToEnd section shown) (slice_get-set_found ms 0 n x (subst P is here)) last))
      | inr isnt ↦ (let there = sym (slice_get-set_other ms 0 p n isnt) ∙ here in
          let R : List (ℕ × ℕ) → Type 0 = λ loads. HasFollowedToEnd section loads x in
          subst R (sym (cond-false (p == 0) shown [] (ne_eqb p 0 isnt)))
          (followed_report_of_walk c p x section (walked.each p section x its there)))
    ]

-- a history with these processors' calls follows the script
pub followed_report_follows : (s : Plan) (c : SharedCluster) (ms : List Local) (shown : List (ℕ × ℕ)) (h : List Event)
    → HaveFollowedToEnd s c ms shown
    → ((p : ℕ) (m : Local) → slice_get ms p ≡ Some m → HasCallsToFinish h m) → Follows s h
followed_report_follows s c ms shown h all has p section at = record {
  own = its.own;
  loads = cond (p == 0) shown [];
  kinds_are = ap call_kinds (ap (events_of h) (sym (all.all.each p m here).number) ∙ (has p m here).calls_are) ∙ its.made_is;
  follows = its.are;
  addresses_are = shows (p == 0);
}
  where
    within : p < length ms
    within =
        let below = slice_get_within s.sections p section at in
        let one_each = all.lawful.but_uneven.one_each in
        let many = all.all.all in
        let sizes = ap (λ (x : Sizes). x.processors) all.sizes in
        omega arith

    m : Local
    m = get_or ms p (new_at_run_call c p)

    here : slice_get ms p ≡ Some m
    here = slice_get-get_or ms p (new_at_run_call c p) within

    its : HasFollowedToEnd section (cond (p == 0) shown []) m
    its = all.each p section m at here

    shows : (b : Bool) → map (λ (x : ℕ × ℕ). x.0) (cond b shown []) ≡ cond b s.shown []
    shows true = all.addresses_are
    shows false = refl

-- a history with the calls of processors whose fetches are wanted fetches only what accesses want
pub followed_report_needs_only : (s : Plan) (c : SharedCluster) (ms : List Local) (h : List Event) → c.sizes ≡ plan_sizes s → AreAllToFinish c ms
    → ((p : ℕ) (m : Local) → slice_get ms p ≡ Some m → HasCallsToFinish h m)
    → ((p : ℕ) (m : Local) → slice_get ms p ≡ Some m → AreRunCallsWanted m) → FetchesAreNeeded s h
followed_report_needs_only s c ms h sizes all has wanted p less =
    let many = all.all in
    let same = ap (λ (x : Sizes). x.processors) sizes in
    let within : p < length ms = omega arith in
    let m = get_or ms p (new_at_run_call c p) in
    let here = slice_get-get_or ms p (new_at_run_call c p) within in
    let its = all.each p m here in
    subst₂ FetchesAreWanted (ap (λ (x : Sizes). x.words) (its.sizes ∙ sizes))
    (sym (has p m here).calls_are ∙ ap (events_of h) its.number) (wanted p m here)

-- and so it is of processors that followed the script
followed_report_needed : (s : Plan) (c : SharedCluster) (ms : List Local) (shown : List (ℕ × ℕ)) (h : List Event)
    → HaveFollowedToEnd s c ms shown → ((p : ℕ) (m : Local) → slice_get ms p ≡ Some m → HasCallsToFinish h m)
    → FetchesAreNeeded s h
followed_report_needed s c ms shown h all has = followed_report_needs_only s c ms h all.sizes all.all has each
  where
    each : (p : ℕ) (m : Local) → slice_get ms p ≡ Some m → AreRunCallsWanted m
    each p m here =
        let within = slice_get_within ms p m here in
        let one_each = all.lawful.but_uneven.one_each in
        let same = ap (λ (x : Sizes). x.processors) all.sizes in
        let many = all.all.all in
        let below : p < length s.sections = omega arith in
        (all.each p (get_or s.sections p []) m (slice_get-get_or s.sections p [] below) here).wanted

-- what processor 0 called
pub followed_report_first_calls : (s : Plan) (c : SharedCluster) (ms : List Local) (shown : List (ℕ × ℕ)) (h : List Event)
    → HaveFollowedToEnd s c ms shown
    → ((p : ℕ) (m : Local) → slice_get ms p ≡ Some m → HasCallsToFinish h m)
    → (own : List Kind) × (calls_of h 0 ≡ own ++ Arrive ∷ Depart ∷ map load_of shown)
followed_report_first_calls s c ms shown h all has =
    let sizes = all.lawful.but_uneven.sizes.some_processors in
    let same = ap (λ (x : Sizes). x.processors) all.sizes in
    let many = all.all.all in
    let one_each = all.lawful.but_uneven.one_each in
    let some : 0 < length ms = omega arith in
    let listed : 0 < length s.sections = omega arith in
    let m = get_or ms 0 (new_at_run_call c 0) in
    let here = slice_get-get_or ms 0 (new_at_run_call c 0) some in
    let section = get_or s.sections 0 [] in
    let its = all.each 0 section m (slice_get-get_or s.sections 0 [] listed) here in
    (its.own, ap call_kinds (ap (events_of h) (sym (all.all.each 0 m here).number) ∙ (has 0 m here).calls_are) ∙ its.made_is)

-- by the first race of what is left from its base, if there is one, the history has a race
followed_report_has_race : (s : Sizes) (b : Base) (c j : List Event) (o : Option (ℕ × ℕ)) → BaseLawSaysTheSame s b c j
    → MatchOption o (RaceFreeFromBase b j) (λ r. IsFirstRaceFromBase b j r.0 r.1)
    → IsTrue (is_some o) ↔ ScriptReportHasRace (c ++ j)
followed_report_has_race s b c j None same free = ((λ t. absurd (cc)), λ r. absurd (same.race_free.1 free r.0 r.1 r.2))
followed_report_has_race s b c j (Some x) same first =
    ((λ t. (length c + x.0, length c + x.1, ((same.first_race x.0 x.1).1 first).race)), λ r. refl)

-- what was cut off counts as the base says, and what is left besides
followed_report_counts : (f : Event → ℕ) (c j : List Event) (told spent : ℕ) → told ≡ spent + sum_by f j → spent ≡ 0 + sum_by f c
    → told ≡ sum_by f (c ++ j)
followed_report_counts f c j told spent is before =
    let both = sum_by-append f c j in
    is ∙ ap (λ n. n + sum_by f j) (before ∙ zero-add (sum_by f c)) ∙ sym both

-- a list of no items
pub followed_report_nothing_of : (xs : List Event) → length xs ≡ 0 → xs ≡ []
followed_report_nothing_of [] none = refl
followed_report_nothing_of (x ∷ xs) none = absurd (omega arith)

-- processors of which each cut nothing off cut nothing off together
pub followed_report_no_sum : (ms : List Local) → ((p : ℕ) (m : Local) → slice_get ms p ≡ Some m → m.own_cut ≡ 0)
    → sum_by (λ (m : Local). m.own_cut) ms ≡ 0
followed_report_no_sum [] each = refl
followed_report_no_sum (m ∷ ms) each =
    let rest = followed_report_no_sum ms (λ p n at. each (suc p) n at) in
    let first = each 0 m refl in
    sum_by-cons (λ (n : Local). n.own_cut) m ms ∙ omega arith

-- and so it is where no section has a cut
followed_report_uncut : (s : Plan) (c : SharedCluster) (ms : List Local) (shown : List (ℕ × ℕ)) → HaveFollowedToEnd s c ms shown → HasNoCutInstruction s
    → sum_by (λ (m : Local). m.own_cut) ms ≡ 0
followed_report_uncut s c ms shown all none = followed_report_no_sum ms each
  where
    each : (p : ℕ) (m : Local) → slice_get ms p ≡ Some m → m.own_cut ≡ 0
    each p m here =
        let within = slice_get_within ms p m here in
        let one_each = all.lawful.but_uneven.one_each in
        let same = ap (λ (x : Sizes). x.processors) all.sizes in
        let many = all.all.all in
        let below : p < length s.sections = omega arith in
        let section = get_or s.sections p [] in
        let its = slice_get-get_or s.sections p [] below in
        (all.each p section m its here).uncut (none p section its)

-- the report of a finished cluster whose processors followed the script
pub followed_report_is : {s : Plan} {c : SharedCluster} {ms : List Local} {r : Report} (o : Option (ℕ × ℕ))
    → HaveFollowedToEnd s c ms r.shown.items → IsFinished c.sizes ms r.journal
    → MatchOption o (RaceFreeFromBase r.journal.base r.journal.events) (λ x. IsFirstRaceFromBase r.journal.base r.journal.events x.0 x.1)
    → r.racy ≡ is_some o → r.traffic.messages ≡ r.journal.base.spent.messages + messages r.journal.events
    → r.traffic.records ≡ r.journal.base.spent.records + records r.journal.events
    → r.traffic.words ≡ r.journal.base.spent.words + words r.journal.events → IsFollowedEndReportWith s r ms
followed_report_is {s = s} {c = c} {ms = ms} {r = r} o all finished race racy messages_are records_are words_are = record {
  is = record {
    processors = finished.journal.processors ∙ ap (λ (x : Sizes). x.processors) all.sizes;
    addresses_are = finished.journal.addresses_are ∙ ap addresses all.sizes;
    history = h;
    taken = taken;
    holds = finished.journal.holds;
    uncut = λ none. followed_report_nothing_of taken (finished.cuts ∙ followed_report_uncut s c ms r.shown.items all none);
    tells = record {
      well_formed = well_formed;
      explained = finished.faithful.explained;
      copied = subst (λ (x : Sizes). AnswersCopies x h) all.sizes finished.faithful.copied;
      counted = subst (λ (x : Sizes). FetchesCountGaps x h) all.sizes finished.faithful.counted;
      fetches = followed_report_needed s c ms r.shown.items h all finished.each;
      follows = follows;
      recomputed = recomputed_law s h well_formed follows;
      racy = let P : Bool → List Event → Type 0 = λ b h. IsTrue b ↔ ScriptReportHasRace h in
          subst₂ P (sym racy) (sym whole) (followed_report_has_race c.sizes r.journal.base taken left o same race);
      shown_addresses = all.addresses_are;
      replies = record {
        front = first.0 ++ Arrive ∷ Depart ∷ [];
        ends = first.1 ∙ sym (append_assoc first.0 (Arrive ∷ Depart ∷ []) (map load_of r.shown.items));
      };
      messages_are = followed_report_counts (λ e. traffic_messages_of e.kind) taken left r.traffic.messages r.journal.base.spent.messages
          messages_are
          base.after.messages_are ∙ ap messages (sym whole);
      records_are = followed_report_counts (λ e. traffic_records_of e.kind) taken left r.traffic.records r.journal.base.spent.records records_are
          base.after.records_are ∙ ap records (sym whole);
      words_are = followed_report_counts (λ e. traffic_words_fetched e.kind) taken left r.traffic.words r.journal.base.spent.words words_are
          base.after.words_are ∙ ap words (sym whole);
    };
  };
  each = finished.each;
  ends = ending_blocks_of_finished s c ms r.journal all.lawful.but_uneven.sizes.some_processors all.sizes all.all finished;
}
  where
    h : List Event
    h = finished.history

    taken : List Event
    taken = finished.taken

    left : List Event
    left = r.journal.events

    whole : h ≡ taken ++ left
    whole = finished.journal.holds.history

    base : IsEpisodeBaseOf r.journal.processors r.journal.addresses taken r.journal.base
    base = finished.journal.holds.base

    well_formed : WellFormed (plan_sizes s) h
    well_formed = subst (λ (x : Sizes). WellFormed x h) all.sizes finished.faithful.well_formed

    same : BaseLawSaysTheSame c.sizes r.journal.base taken left
    same = let B : ℕ → ℕ → Type 0 = λ p a. IsEpisodeBaseOf p a taken r.journal.base in
        same_cut_law c.sizes r.journal.base taken left (subst (WellFormed c.sizes) whole finished.faithful.well_formed)
        (subst₂ B finished.journal.processors finished.journal.addresses_are base)

    follows : Follows s h
    follows = followed_report_follows s c ms r.shown.items h all finished.each

    first : (own : List Kind) × (calls_of h 0 ≡ own ++ Arrive ∷ Depart ∷ map load_of r.shown.items)
    first = followed_report_first_calls s c ms r.shown.items h all finished.each

-- of the processors as they were before processor 0 loaded what is shown
pub followed_report_after : {s : Plan} {c : SharedCluster} {ms : List Local} (m n : Local) {r : Report} → IsLawful s
    → c.sizes ≡ plan_sizes s → HaveRunCallsOfWalks c s.sections ms → slice_get ms 0 ≡ Some m → HasRunCallsOfLoads m n r.shown.items
    → IsFollowedEndReportWith s r (slice_set ms 0 n) → IsFollowedEndReportAfter s r ms
followed_report_after {s = s} {c = c} {ms = ms} m n {r = r} lawful sizes walked at loads told =
    record { is = told.is; calls_are = calls_are; ends = ends }
  where
    h : List Event
    h = told.is.history

    last : HasCallsToFinish h n
    last = told.each 0 n (slice_get-set_same ms 0 n (slice_get_within ms 0 m at))

    number : (p : ℕ) (x : Local) → slice_get ms p ≡ Some x → x.number ≡ p
    number p x here =
        let w = followed_report_walks_at s c ms lawful sizes walked p x here in (followed_report_of_walked c p x w.0 w.1).number

    ends : HasSeenAllRunTurns ms 0 → FollowedEndHasBlocks s ms (map load_of r.shown.items) h
    ends ahead =
        let w = followed_report_walks_at s c ms lawful sizes walked 0 m at in
        ending_blocks_before_loads (walked.all ∙ ap (λ (x : Sizes). x.processors) sizes) number
        ((followed_report_of_walked c 0 m w.0 w.1).sizes ∙ sizes) at loads
        (λ k e here. (told.is.tells.well_formed k e here).processor) ahead told.ends

    first_are : calls_of h 0 ≡ run_calls m ++ map load_of r.shown.items
    first_are =
        let w = followed_report_walks_at s c ms lawful sizes walked 0 m at in
        let number = loads.same.number ∙ (followed_report_of_walked c 0 m w.0 w.1).number in
        ap call_kinds (ap (events_of h) (sym number) ∙ last.calls_are) ∙ loads.more

    calls_are : (p : ℕ) (x : Local) → slice_get ms p ≡ Some x
        → calls_of h p ≡ run_calls x ++ cond (p == 0) (map load_of r.shown.items) []
    calls_are p x here = elim (cases_eq p 0) [
      | inl is ↦ (let Q : ℕ → Type 0 = λ q. slice_get ms q ≡ Some x in
          let same = same_Some m x (sym at ∙ subst Q is here) in
          let P : ℕ → Type 0 = λ q. calls_of h q ≡ run_calls x ++ cond (q == 0) (map load_of r.shown.items) [] in
          let R : Local → Type 0 = λ y. calls_of h 0 ≡ run_calls y ++ map load_of r.shown.items in
          subst P (sym is) (subst R same first_are))
      | inr isnt ↦ (let w = followed_report_walks_at s c ms lawful sizes walked p x here in
          let number = (followed_report_of_walked c p x w.0 w.1).number in
          let own = told.each p x (slice_get-set_other ms 0 p n isnt ∙ here) in
          let none = cond-false (p == 0) (map load_of r.shown.items) [] (ne_eqb p 0 isnt) in
          ap call_kinds (ap (events_of h) (sym number) ∙ own.calls_are) ∙ sym (append-nil (run_calls x))
          ∙ ap (λ ks. run_calls x ++ ks) (sym none))
    ]

-- the report of a script that never races
pub race_free_followed_report : RaceFreeReportLaw
race_free_followed_report s r is never =
    let told = recomputed_race_free_law s is.history is.tells.well_formed is.tells.explained is.tells.follows never in
    (by_verdict r.racy (λ yes. let race = is.tells.racy.0 yes in told.0 race.0 race.1 race.2), told.1)
  where
    by_verdict : (b : Bool) → ¬ IsTrue b → b ≡ false
    by_verdict false none = refl
    by_verdict true none = absurd (none refl)
