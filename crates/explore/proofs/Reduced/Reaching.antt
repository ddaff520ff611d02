-- A search that follows one free event if there is one, or some asks before which others' events may be passed over, and else
-- all, misses no kind of end.
-- Let some prefix have a property that prefixes which are the same share, and that a free event or an ask doesn't end. From a
-- state that was found it is reached by some events. The free event that was followed there, or the first event that isn't passed
-- over, is one of them, and may as well come first; or none is, and then one may come behind them, so that it may come first again.
-- Either way what is left is reached from the next state, and prefixes are only so long.
use Rattle.std.proofs.Common.{ℕ, zero, suc, ◌≡◌, ◌≢◌, ◌+◌, ◌≤◌, ◌⊎◌, inl, inr, Bool, true, false, IsTrue, List, [], ◌∷◌, ◌++◌, length, replicate, slice_get, refl, sym, ap, subst, ◌∙◌, append_assoc, append-nil, length-append, arith}
use Rattle.std.specs.Global.{Vec}
use Rattle.std.proofs.lemmas.Bool.{cases_eq, false≢true}
use Rattle.std.proofs.lemmas.Option.{none-some, same_Some}
use Rattle.base.specs.Limits.{most_held}
use Rattle.journal.specs.declared.event.Event.{Event}
use Rattle.journal.specs.declared.event.Kind.{Kind}
use Rattle.journal.specs.declared.event.Kind.TheVariants.{Ask, Load}
use Rattle.journal.specs.DidEvent.{did, event}
use Rattle.journal.specs.Events.{EventAt}
use Rattle.journal.specs.ReplayMemory.{AnswersReplayMemory, memory_after}
use Rattle.lrc_script.specs.Plan.{Plan}
use Rattle.lrc_script.specs.Lawful.{plan_addresses}
use Rattle.conformance.specs.Follows.{calls_of}
use Rattle.explore.specs.declared.prefixes.script_call.ScriptCall.{ScriptCall}
use Rattle.explore.specs.declared.prefixes.script_call.ScriptCall.TheVariants.{Call, Adds}
use Rattle.explore.specs.FlatSearch.{ArePassedOver, FlatSearchFollows, FlatSearchFollowsAsks, IsAskFollowed}
use Rattle.explore.specs.FreeChoice.{IsFreeForChoice}
use Rattle.journal.proofs.Order.EventPlacesAndCounts.{event_place_longer}
use Rattle.explore.specs.Machines.{AreLawfulMachineSteps}
use Rattle.explore.specs.Prefixes.FlatBeginnings.{IsFlatBeginning}
use Rattle.explore.specs.Prefixes.ScriptCalls.{FitsScriptCall, last_reply_of_script_calls, replyless_script_call}
use Rattle.explore.proofs.Lengths.{history_length_few}
use Rattle.explore.proofs.MachineSteps.{machine_step_some_at}
use Rattle.explore.proofs.PrefixRuns.Beginnings.{prefix_beginning_front, prefix_beginning_next}
use Rattle.explore.proofs.Reduced.SameBeginnings.{IsSameBeginning, same_beginning_goes_on}
use Rattle.explore.proofs.Reduced.Swapping.{IsCalmInReducedSwap, HasNoReducedSwapRival, reduced_swapped_comes_first, reduced_swapped_no_ask}

-- one reply is the memory's
reduced_reaching_reply_once : (memory : List ℕ) (j k : Kind) → replyless_script_call j ≡ replyless_script_call k → AnswersReplayMemory memory j → AnswersReplayMemory memory k → j ≡ k
reduced_reaching_reply_once memory (Load a v) (Load b u) same one two =
    let place : a ≡ b = cc in
    let value : v ≡ u = same_Some v u (sym one ∙ ap (slice_get memory) place ∙ two) in
    cc
reduced_reaching_reply_once memory (Load a v) k same one two = absurd cc
reduced_reaching_reply_once memory j (Load b u) same one two = absurd cc
reduced_reaching_reply_once memory j k same one two = same

reduced_reaching_step_once : (reply : ℕ) (memory : List ℕ) (step : ScriptCall) (j k : Kind) → FitsScriptCall reply step j → FitsScriptCall reply step k
    → AnswersReplayMemory memory j → AnswersReplayMemory memory k → j ≡ k
reduced_reaching_step_once reply memory (Call c) j k first second one two = reduced_reaching_reply_once memory j k (first ∙ sym second) one two
reduced_reaching_step_once reply memory (Adds a v) j k first second one two = first ∙ sym second

-- a processor has one next event
pub reduced_reaching_event_once : (s : Plan) (g : List Event) (p : ℕ) (j k : Kind) → length s.sections ≡ s.processors
    → IsFlatBeginning s (did g p j) → IsFlatBeginning s (did g p k) → j ≡ k
reduced_reaching_event_once s g p j k long first second =
    let one = ((prefix_beginning_next s g p j).0 first).1 in
    let two = ((prefix_beginning_next s g p k).0 second).1 in
    let inside = one.may_follow.processor in
    let section = machine_step_some_at s.sections p (omega arith) in
    let here = one.calls.next section.0 section.1 in
    let there = two.calls.next section.0 section.1 in
    let same : there.step ≡ here.step = same_Some there.step here.step (sym there.at ∙ here.at) in
    reduced_reaching_step_once (last_reply_of_script_calls (calls_of g p)) (memory_after (replicate (plan_addresses s) 0) g) here.step j k here.is
    (subst (λ x. FitsScriptCall (last_reply_of_script_calls (calls_of g p)) x k) same there.is) one.answers two.answers

-- p's first event among some, or none of them is its
pub record ReducedReachingFirst (w : List Event) (p : ℕ) : Type 0 where
  pub before : List Event
  pub own : Event
  pub after : List Event
  pub are : w ≡ before ++ own ∷ after
  pub mine : own.processor ≡ p
  pub away : (m : ℕ) (f : Event) → EventAt before m f → f.processor ≢ p

pub reduced_reaching_first_of : (w : List Event) (p : ℕ) → ReducedReachingFirst w p ⊎ ((m : ℕ) (f : Event) → EventAt w m f → f.processor ≢ p)
reduced_reaching_first_of [] p = inr (λ m f at. absurd (none-some f at))
reduced_reaching_first_of (e ∷ w) p = elim (cases_eq e.processor p) [
  | inl is ↦ inl (record {
    before = [];
    own = e;
    after = w;
    are = refl;
    mine = is;
    away = λ m f at. absurd (none-some f at);
  })
  | inr isnt ↦ elim (reduced_reaching_first_of w p) [
    | inl found ↦ inl (record {
      before = e ∷ found.before;
      own = found.own;
      after = found.after;
      are = ap (λ xs. e ∷ xs) found.are;
      mine = found.mine;
      away = further e w found.before p isnt found.away;
    })
    | inr none ↦ inr (further e w w p isnt none)
  ]
]
  where
    further : (e : Event) (w xs : List Event) (p : ℕ) → e.processor ≢ p → ((m : ℕ) (f : Event) → EventAt xs m f → f.processor ≢ p)
        → (m : ℕ) (f : Event) → EventAt (e ∷ xs) m f → f.processor ≢ p
    further e w xs p isnt away zero f at = subst (λ (x : Event). x.processor ≢ p) (same_Some e f at) isnt
    further e w xs p isnt away (suc m) f at = away m f at

-- what stands before an event and behind it
pub record ReachingParted (w : List Event) (f : Event) : Type 0 where
  pub before : List Event
  pub after : List Event
  pub are : w ≡ before ++ f ∷ after

pub reaching_parted : (w : List Event) (m : ℕ) (f : Event) → EventAt w m f → ReachingParted w f
reaching_parted [] m f at = absurd (none-some f at)
reaching_parted (e ∷ w) zero f at = record { before = []; after = w; are = ap (λ x. x ∷ w) (same_Some e f at) }
reaching_parted (e ∷ w) (suc m) f at =
    let rest = reaching_parted w m f at in
    record { before = e ∷ rest.before; after = rest.after; are = ap (λ xs. e ∷ xs) rest.are }

reaching_over_or_not : (b : Bool) → IsTrue b ⊎ (b ≡ false)
reaching_over_or_not true = inl refl
reaching_over_or_not false = inr refl

-- the first among some events that isn't passed over, or there is none
record ReachingFirstOpen (passed : Event → Bool) (w : List Event) : Type 0 where
  before : List Event
  own : Event
  after : List Event
  are : w ≡ before ++ own ∷ after
  opens : passed own ≡ false
  over : ArePassedOver passed before

module _ (passed : Event → Bool) where
  reaching_over_more : (e : Event) (xs : List Event) → IsTrue (passed e) → ArePassedOver passed xs → ArePassedOver passed (e ∷ xs)
  reaching_over_more e xs own over zero f at = subst (λ x. IsTrue (passed x)) (same_Some e f at) own
  reaching_over_more e xs own over (suc i) f at = over i f at

  reaching_first_open : (w : List Event) → ReachingFirstOpen passed w ⊎ ArePassedOver passed w
  reaching_first_open [] = inr (λ i f at. absurd (none-some f at))
  reaching_first_open (e ∷ w) = elim (reaching_over_or_not (passed e)) [
    | inl over ↦ elim (reaching_first_open w) [
      | inl found ↦ inl (record {
        before = e ∷ found.before;
        own = found.own;
        after = found.after;
        are = ap (λ xs. e ∷ xs) found.are;
        opens = found.opens;
        over = reaching_over_more e found.before over found.over;
      })
      | inr all ↦ inr (reaching_over_more e w over all)
    ]
    | inr opens ↦ inl (record {
      before = [];
      own = e;
      after = w;
      are = refl;
      opens = opens;
      over = λ i f at. absurd (none-some f at);
    })
  ]

-- an ask accesses nothing
reaching_calm_ask : {rows : List (Vec ScriptCall)} (l : ℕ) → IsCalmInReducedSwap rows (Ask l)
reaching_calm_ask l w at = absurd (none-some w at)

-- the event behind some
reaching_at_behind : (xs : List Event) (e : Event) (ys : List Event) → EventAt (xs ++ e ∷ ys) (length xs) e
reaching_at_behind [] e ys = refl
reaching_at_behind (x ∷ xs) e ys = reaching_at_behind xs e ys

-- a property that is looked for
pub record IsReachingLasting (s : Plan) (rows : List (Vec ScriptCall)) (T : List Event → Type 0) : Type 0 where
  pub shared : (g h : List Event) → IsSameBeginning s g h → IsFlatBeginning s h → T g → T h
  pub stays : (g : List Event) (p : ℕ) (k : Kind) → IsCalmInReducedSwap rows k → IsFlatBeginning s (did g p k) → T g → T (did g p k)

-- what is left once the free event has come first
record IsReachingLeft (s : Plan) (T : List Event → Type 0) (h : List Event) : Type 0 where
  more : List Event
  begins : IsFlatBeginning s (h ++ more)
  has : T (h ++ more)

-- some beginning that was found has the property
pub record IsReached (V T : List Event → Type 0) : Type 0 where
  pub events : List Event
  pub found : V events
  pub has : T events

module _ (s : Plan) (rows : List (Vec ScriptCall)) (steps : AreLawfulMachineSteps s rows) (V T : List Event → Type 0)
    (lasting : IsReachingLasting s rows T)
    (closed : (h : List Event) → V h → FlatSearchFollows s rows V h) where
  reduced_reaching_left_first : (h w : List Event) (p : ℕ) (k : Kind) → IsCalmInReducedSwap rows k → IsFlatBeginning s (did h p k)
      → IsFlatBeginning s (h ++ w) → T (h ++ w) → (f : ReducedReachingFirst w p) → HasNoReducedSwapRival k f.before → IsReachingLeft s T (did h p k)
  reduced_reaching_left_first h w p k calm next whole has f no_rival =
      let parted : h ++ w ≡ (h ++ f.before) ++ f.own ∷ f.after =
      ap (λ xs. h ++ xs) f.are ∙ sym (append_assoc h f.before (f.own ∷ f.after)) in
      let joined : (h ++ f.before) ++ f.own ∷ f.after ≡ ((h ++ f.before) ++ f.own ∷ []) ++ f.after =
      sym (append_assoc (h ++ f.before) (f.own ∷ []) f.after) in
      let all = subst (IsFlatBeginning s) (parted ∙ joined) whole in
      let with_own = prefix_beginning_front s ((h ++ f.before) ++ f.own ∷ []) f.after all in
      let before = prefix_beginning_front s (h ++ f.before) (f.own ∷ []) with_own in
      let moved = reduced_swapped_comes_first s rows steps p k calm f.before h f.away no_rival next before in
      let mine = subst (λ q. IsFlatBeginning s (did (h ++ f.before) q f.own.kind)) f.mine with_own in
      let same : k ≡ f.own.kind = reduced_reaching_event_once s (h ++ f.before) p k f.own.kind steps.lawful.but_uneven.one_each moved.last mine in
      let is : event p k ≡ f.own = ap (event p) same ∙ ap (λ q. event q f.own.kind) (sym f.mine) in
      let own_same = subst (λ e. IsSameBeginning s ((h ++ f.before) ++ e ∷ []) (did h p k ++ f.before)) is moved.same in
      let on = same_beginning_goes_on s f.after ((h ++ f.before) ++ f.own ∷ []) (did h p k ++ f.before) own_same moved.first all in
      let end : (did h p k ++ f.before) ++ f.after ≡ did h p k ++ (f.before ++ f.after) =
      append_assoc (did h p k) f.before f.after in
      record {
        more = f.before ++ f.after;
        begins = subst (IsFlatBeginning s) end on.0;
        has = subst T end (lasting.shared _ _ on.1 on.0 (subst T (parted ∙ joined) has));
      }

  reduced_reaching_left_behind : (h w : List Event) (p : ℕ) (k : Kind) → IsCalmInReducedSwap rows k → IsFlatBeginning s (did h p k)
      → IsFlatBeginning s (h ++ w) → T (h ++ w) → ((m : ℕ) (f : Event) → EventAt w m f → f.processor ≢ p) → HasNoReducedSwapRival k w
      → IsReachingLeft s T (did h p k)
  reduced_reaching_left_behind h w p k calm next whole has away no_rival =
      let moved = reduced_swapped_comes_first s rows steps p k calm w h away no_rival next whole in
      record {
        more = w;
        begins = moved.first;
        has = lasting.shared _ _ moved.same moved.first (lasting.stays (h ++ w) p k calm moved.last has);
      }

  reduced_reaching_left : (h w : List Event) (p : ℕ) (k : Kind) → IsFreeForChoice rows k → IsFlatBeginning s (did h p k)
      → IsFlatBeginning s (h ++ w) → T (h ++ w) → IsReachingLeft s T (did h p k)
  reduced_reaching_left h w p k free next whole has = elim (reduced_reaching_first_of w p) [
    | inl f ↦ reduced_reaching_left_first h w p k free.guarded next whole has f (λ m e at l is. absurd (reduced_swapped_no_ask k l free.no_ask is))
    | inr away ↦ reduced_reaching_left_behind h w p k free.guarded next whole has away (λ m e at l is. absurd (reduced_swapped_no_ask k l free.no_ask is))
  ]

  -- who may ask for the lock next does nothing before that
  reaching_away_before_ask : (h w : List Event) (p l : ℕ) → IsFlatBeginning s (did h p (Ask l)) → IsFlatBeginning s (h ++ w) → HasNoReducedSwapRival (Ask l) w
      → (m : ℕ) (f : Event) → EventAt w m f → f.processor ≢ p
  reaching_away_before_ask h w p l next whole no_rival = elim (reduced_reaching_first_of w p) [
    | inl f ↦
        (let parted : h ++ w ≡ (h ++ f.before) ++ f.own ∷ f.after =
        ap (λ xs. h ++ xs) f.are ∙ sym (append_assoc h f.before (f.own ∷ f.after)) in
        let joined : (h ++ f.before) ++ f.own ∷ f.after ≡ ((h ++ f.before) ++ f.own ∷ []) ++ f.after =
        sym (append_assoc (h ++ f.before) (f.own ∷ []) f.after) in
        let all = subst (IsFlatBeginning s) (parted ∙ joined) whole in
        let with_own = prefix_beginning_front s ((h ++ f.before) ++ f.own ∷ []) f.after all in
        let before = prefix_beginning_front s (h ++ f.before) (f.own ∷ []) with_own in
        let rivals = subst (HasNoReducedSwapRival (Ask l)) f.are no_rival in
        let moved = reduced_swapped_comes_first s rows steps p (Ask l) (reaching_calm_ask l) f.before h f.away
        (λ m e at. rivals m e (event_place_longer f.before (f.own ∷ f.after) m e at)) next before in
        let mine = subst (λ q. IsFlatBeginning s (did (h ++ f.before) q f.own.kind)) f.mine with_own in
        let same : Ask l ≡ f.own.kind =
        reduced_reaching_event_once s (h ++ f.before) p (Ask l) f.own.kind steps.lawful.but_uneven.one_each moved.last mine in
        absurd (rivals (length f.before) f.own (reaching_at_behind f.before f.own f.after) l refl same))
    | inr away ↦ away
  ]

  -- among events that are passed over nobody asks for a lock whose asks aren't
  reaching_over_no_rival : (h w : List Event) (passed : Event → Bool) (p l : ℕ) → IsFlatBeginning s (h ++ w) → ArePassedOver passed w
      → IsAskFollowed s V passed h p l → HasNoReducedSwapRival (Ask l) w
  reaching_over_no_rival h w passed p l whole over asks m f at n is same =
      let cut = reaching_parted w m f at in
      let parted : h ++ w ≡ ((h ++ cut.before) ++ f ∷ []) ++ cut.after =
      ap (λ xs. h ++ xs) cut.are ∙ sym (append_assoc h cut.before (f ∷ cut.after)) ∙ sym (append_assoc (h ++ cut.before) (f ∷ []) cut.after) in
      let there = prefix_beginning_front s ((h ++ cut.before) ++ f ∷ []) cut.after (subst (IsFlatBeginning s) parted whole) in
      let kind : f.kind ≡ Ask l = sym same ∙ is in
      let asked = subst (λ c. IsFlatBeginning s (did (h ++ cut.before) f.processor c)) kind there in
      let opens = subst (λ c. passed (event f.processor c) ≡ false) (sym kind) (asks.rivals cut.before f.processor asked) in
      false≢true (sym opens ∙ over m f at)

  -- one of the asks that are followed, once it has come first
  record IsReachingAskLeft (h : List Event) : Type 0 where
    p : ℕ
    lock : ℕ
    next : IsFlatBeginning s (did h p (Ask lock))
    found : V (did h p (Ask lock))
    rest : IsReachingLeft s T (did h p (Ask lock))

  reaching_asked_left : (h w : List Event) → IsFlatBeginning s (h ++ w) → T (h ++ w) → FlatSearchFollowsAsks s V h → IsReachingAskLeft h
  reaching_asked_left h w whole has asks = elim (reaching_first_open asks.passed w) [
    | inl f ↦
        (let parted : h ++ w ≡ (h ++ f.before) ++ f.own ∷ f.after =
        ap (λ xs. h ++ xs) f.are ∙ sym (append_assoc h f.before (f.own ∷ f.after)) in
        let joined : (h ++ f.before) ++ f.own ∷ f.after ≡ ((h ++ f.before) ++ f.own ∷ []) ++ f.after =
        sym (append_assoc (h ++ f.before) (f.own ∷ []) f.after) in
        let with_own = prefix_beginning_front s ((h ++ f.before) ++ f.own ∷ []) f.after (subst (IsFlatBeginning s) (parted ∙ joined) whole) in
        let before = prefix_beginning_front s (h ++ f.before) (f.own ∷ []) with_own in
        let first = asks.first f.before f.own.processor f.own.kind f.over with_own f.opens in
        let l = first.0 in
        let own = first.2 in
        let none = reaching_over_no_rival h f.before asks.passed f.own.processor l before f.over own in
        record {
          p = f.own.processor;
          lock = l;
          next = own.next;
          found = own.found;
          rest = reduced_reaching_left_first h w f.own.processor (Ask l) (reaching_calm_ask l) own.next whole has (record {
            before = f.before;
            own = f.own;
            after = f.after;
            are = f.are;
            mine = refl;
            away = reaching_away_before_ask h f.before f.own.processor l own.next before none;
          }) none;
        })
    | inr over ↦
        (let own = asks.some in
        let none = reaching_over_no_rival h w asks.passed asks.processor asks.lock whole over own in
        record {
          p = asks.processor;
          lock = asks.lock;
          next = own.next;
          found = own.found;
          rest = reduced_reaching_left_behind h w asks.processor (Ask asks.lock) (reaching_calm_ask asks.lock) own.next whole has
              (reaching_away_before_ask h w asks.processor asks.lock own.next whole none) none;
        })
  ]

  reduced_reaching_longer : (h : List Event) (p : ℕ) (k : Kind) → IsFlatBeginning s (did h p k) → (n : ℕ) → most_held ≤ length h + suc n
      → most_held ≤ length (did h p k) + n
  reduced_reaching_longer h p k next n le = let long = length-append h (event p k ∷ []) in omega arith

  reach : (n : ℕ) (h w : List Event) → most_held ≤ length h + n → V h → IsFlatBeginning s (h ++ w) → T (h ++ w) → IsReached V T
  reach zero h w le found whole has =
      let few = history_length_few s h steps.lawful (prefix_beginning_front s h w whole) in absurd (omega arith)
  reach (suc n) h [] le found whole has = record { events = h; found = found; has = subst T (append-nil h) has }
  reach (suc n) h (e ∷ w) le found whole has = elim (closed h found) [
    | inl all ↦
        (let joined = sym (append_assoc h (e ∷ []) w) in
        let longer_whole = subst (IsFlatBeginning s) joined whole in
        let next = prefix_beginning_front s (h ++ e ∷ []) w longer_whole in
        reach n (h ++ e ∷ []) w (reduced_reaching_longer h e.processor e.kind next n le) (all e.processor e.kind next) longer_whole (subst T joined has))
    | inr some ↦ elim some [
      | inl one ↦
          (let rest = reduced_reaching_left h (e ∷ w) one.processor one.kind one.free one.next whole has in
          reach n (did h one.processor one.kind) rest.more (reduced_reaching_longer h one.processor one.kind one.next n le) one.found rest.begins
          rest.has)
      | inr asks ↦
          (let ask = reaching_asked_left h (e ∷ w) whole has asks in
          reach n (did h ask.p (Ask ask.lock)) ask.rest.more (reduced_reaching_longer h ask.p (Ask ask.lock) ask.next n le) ask.found
          ask.rest.begins ask.rest.has)
    ]
  ]

  -- where nothing was found at first, each beginning that has it shows that one was found
  pub reached : V [] → (g : List Event) → IsFlatBeginning s g → T g → IsReached V T
  reached start g begins has = reach most_held [] g (omega arith) start begins has
