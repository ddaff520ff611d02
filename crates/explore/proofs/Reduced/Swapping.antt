-- What may come next may still come after another processor's event. So two that may come next come in either order, and
-- if they don't conflict, and don't both ask for one lock, the two prefixes are the same.
use Rattle.std.proofs.Common.{ℕ, suc, ◌≡◌, ◌≢◌, ◌+◌, ◌<◌, ◌↔◌, ◌⊎◌, inl, inr, false, List, [], ◌∷◌, ◌++◌, length, replicate, Some, refl, sym, ap, subst, ◌∙◌, append_assoc, append-nil, length-append, arith}
use Rattle.std.specs.Global.{Vec}
use Rattle.std.proofs.lemmas.Bool.{cases_eq, cases_order, false≢true}
use Rattle.std.proofs.lemmas.List.{set_comm}
use Rattle.base.proofs.SliceSets.{slice_get-set_other}
use Rattle.base.specs.LastWrite.{wrote}
use Rattle.journal.specs.declared.event.Event.{Event}
use Rattle.journal.specs.declared.event.Kind.{Kind}
use Rattle.journal.specs.declared.event.Kind.TheVariants as kind
use Rattle.journal.specs.DidEvent.{did, event}
use Rattle.journal.specs.Events.{EventAt, event_address, event_count, event_arrives, event_departs, events_of}
use Rattle.journal.specs.ReplayMemory.{AnswersReplayMemory, replay_memory_write, memory_after}
use Rattle.journal.specs.Races.{Conflict}
use Rattle.journal.specs.Sizes.{Sizes}
use Rattle.journal.specs.WellFormed.{WellFormedAllArrived, WellFormedAllows, Does, LastIs, WellFormedNext}
use Rattle.journal.proofs.Order.EventPlacesAndCounts.{event_place_longer, event_place_inside, event_count-append, event_place_does_same}
use Rattle.journal.proofs.Times.TimesOfPlaces.{time_of_places_one_event}
use Rattle.journal.proofs.Journals.WellFormedStays.{well_formed_stays_holds_cases, well_formed_stays_holds_longer, well_formed_stays_last_cases, well_formed_stays_last_longer, well_formed_stays_last_now, well_formed_stays_last_shorter}
use Rattle.lrc_script.specs.Plan.{Plan}
use Rattle.lrc_script.specs.Lawful.{plan_addresses}
use Rattle.conformance.specs.Follows.{plan_sizes}
use Rattle.conformance.proofs.FollowedCalls.{followed_calls-others}
use Rattle.explore.specs.declared.prefixes.script_call.ScriptCall.{ScriptCall}
use Rattle.explore.specs.FreeChoice.{is_ask_in_free_choice}
use Rattle.explore.specs.TextGuards.{IsGuardedByText}
use Rattle.explore.specs.Machines.{AreLawfulMachineSteps}
use Rattle.explore.specs.Prefixes.FlatBeginnings.{IsFlatBeginning}
use Rattle.explore.specs.Prefixes.ScriptCalls.{IsScriptCallNext, script_calls_of_section, script_calls_shown_by}
use Rattle.explore.proofs.PrefixRuns.Beginnings.{prefix_beginning_front, prefix_beginning_next}
use Rattle.explore.proofs.Locksets.TextGuardLaw.{text_guard_law_no_conflict}
use Rattle.explore.proofs.Reduced.SameBeginnings.{SameBeginningAsksFirst, IsSameBeginning, same_beginning_after_that, same_beginning_away_one, same_beginning_as_itself, same_beginning_memory_did, same_beginning_other_way, same_beginning_part_others, same_beginning_part_own, same_beginning_goes_on}

-- two locks that may both be acquired next are two
reduced_swapped_not_both : (s : Sizes) (j : List Event) (p q l : ℕ) → p ≢ q → WellFormedAllows s j p (kind.Acquire l) → WellFormedAllows s j q (kind.Acquire l) → ⊥
reduced_swapped_not_both s j p q l apart a b = elim (cases_order a.0 b.0) [
  | inl is ↦
      (let there = subst (λ n. Does j n p (kind.Ask l)) is a.1.does in
      apart (event_place_does_same j b.0 p q (kind.Ask l) (kind.Ask l) there b.1.does).0)
  | inr other ↦ elim other [ inl lt ↦ b.2.first a.0 p lt a.1 | inr lt ↦ a.2.first b.0 q lt b.1 ]
]

module _ (s : Sizes) (j : List Event) (p q : ℕ) (k : Kind) (apart : p ≢ q) (may : WellFormedNext s j (event p k)) where
  reduced_swapped_allowed_after : (c : Kind) → WellFormedAllows s j q c → WellFormedAllows s (did j p k) q c
  reduced_swapped_allowed_after (kind.Ask l) a = λ holds. elim (well_formed_stays_holds_cases j (event p k) q l holds) [
    | inl old ↦ a old.0
    | inr now ↦ apart (ap (λ (e : Event). e.processor) now)
  ]
  reduced_swapped_allowed_after (kind.Acquire l) a = (
    a.0,
    well_formed_stays_last_longer j (event p k ∷ []) q a.0 (kind.Ask l) (same_beginning_away_one (event p k) q apart) a.1,
    record {
      free = λ r holds. elim (well_formed_stays_holds_cases j (event p k) r l holds) [
        | inl old ↦ a.2.free r old.0
        | inr now ↦
            (let takes = subst (WellFormedAllows s j p) (ap (λ (e : Event). e.kind) now) may.allowed in
            reduced_swapped_not_both s j p q l apart takes a)
      ];
      first = λ m r lt asks. elim (well_formed_stays_last_cases j (event p k) r m (kind.Ask l) asks) [
        | inl mine ↦
            (let within = event_place_inside j a.0 (event q (kind.Ask l)) a.1.does in
            let is = mine.1 in
            absurd (omega arith))
        | inr old ↦ a.2.first m r lt old.1
      ];
    },
  )
  reduced_swapped_allowed_after (kind.Release l) a = well_formed_stays_holds_longer j (event p k) q l (λ is. apart (ap (λ (e : Event). e.processor) is)) a
  reduced_swapped_allowed_after kind.Depart a =
      let sum = event_count-append event_departs j (event p k ∷ []) q in
      let none : event_count event_departs (event p k ∷ []) q ≡ 0 = elim (time_of_places_one_event event_departs (event p k) q) [
        | inl zero_more ↦ zero_more
        | inr one ↦ absurd (apart one.0)
      ] in
      let all : WellFormedAllArrived s (did j p k) (event_count event_departs (did j p k) q + 1) = λ r within.
      (let enough = a.2 r within in
      let more = event_count-append event_arrives j (event p k ∷ []) r in
      omega (arith, enough, more, sum, none)) in
      (a.0, well_formed_stays_last_longer j (event p k ∷ []) q a.0 kind.Arrive (same_beginning_away_one (event p k) q apart) a.1, all)
  reduced_swapped_allowed_after (kind.Await f) a = (
    a.0,
    a.1,
    a.2,
    well_formed_stays_last_longer j (event p k ∷ []) q a.0 (kind.Watch f) (same_beginning_away_one (event p k) q apart) a.3,
    event_place_longer j (event p k ∷ []) a.1 (event a.2 (kind.Set f)) a.4,
  )
  reduced_swapped_allowed_after _ a = a

  -- what may come next may still come after another's event
  pub reduced_swapped_follows_after : (c : Kind) → WellFormedNext s j (event q c) → WellFormedNext s (did j p k) (event q c)
  reduced_swapped_follows_after c other = record {
    processor = other.processor;
    in_range = other.in_range;
    answers = λ i b last. other.answers i b (well_formed_stays_last_shorter j (event p k ∷ []) q i b (same_beginning_away_one (event p k) q apart) last);
    allowed = reduced_swapped_allowed_after c other.allowed;
  }

-- a load answers the same after an event that doesn't conflict with it
reduced_swapped_answers_after : (m : List ℕ) (p q : ℕ) (k c : Kind) → ¬ Conflict (event p k) (event q c) → AnswersReplayMemory m c
    → AnswersReplayMemory (wrote m (replay_memory_write k)) c
reduced_swapped_answers_after m p q (kind.Store a v) (kind.Load w u) reduced_swapped_no_conflict word = elim (cases_eq w a) [
  | inl is ↦ absurd (reduced_swapped_no_conflict (record { address = a; first = refl; second = ap Some is; stores = inl refl }))
  | inr isnt ↦ slice_get-set_other m a w v isnt ∙ word
]
reduced_swapped_answers_after m p q (kind.Store a v) _ reduced_swapped_no_conflict word = word
reduced_swapped_answers_after m p q _ c reduced_swapped_no_conflict word = word

-- so an event that doesn't conflict with another's may come after it, as it might before
pub reduced_swapped_next_after : (s : Plan) (g : List Event) (p q : ℕ) (k c : Kind) → p ≢ q → ¬ Conflict (event p k) (event q c)
    → IsFlatBeginning s (did g p k) → IsFlatBeginning s (did g q c) → IsFlatBeginning s (did (did g p k) q c)
reduced_swapped_next_after s g p q k c apart reduced_swapped_no_conflict first second =
    let one = (prefix_beginning_next s g p k).0 first in
    let two = (prefix_beginning_next s g q c).0 second in
    (prefix_beginning_next s (did g p k) q c).1 (
      first,
      record {
        may_follow = reduced_swapped_follows_after (plan_sizes s) g p q k apart one.1.may_follow c two.1.may_follow;
        calls = record {
          call = two.1.calls.call;
          next = λ section at.
              subst (λ calls. IsScriptCallNext (script_calls_of_section section (script_calls_shown_by s q)) calls c) (sym (followed_calls-others g p q k apart))
              (two.1.calls.next section at);
        };
        answers = subst (λ m. AnswersReplayMemory m c) (sym (same_beginning_memory_did (replicate (plan_addresses s) 0) g p k))
            (reduced_swapped_answers_after (memory_after (replicate (plan_addresses s) 0) g) p q k c reduced_swapped_no_conflict two.1.answers);
      },
    )

-- writes that don't conflict commute
reduced_swapped_writes_commute : (m : List ℕ) (p q : ℕ) (k c : Kind) → ¬ Conflict (event p k) (event q c)
    → wrote (wrote m (replay_memory_write k)) (replay_memory_write c) ≡ wrote (wrote m (replay_memory_write c)) (replay_memory_write k)
reduced_swapped_writes_commute m p q (kind.Store a v) (kind.Store b u) reduced_swapped_no_conflict = elim (cases_eq a b) [
  | inl is ↦ absurd (reduced_swapped_no_conflict (record { address = b; first = ap Some is; second = refl; stores = inl refl }))
  | inr isnt ↦ set_comm m a b v u isnt
]
reduced_swapped_writes_commute m p q (kind.Store a v) _ reduced_swapped_no_conflict = refl
reduced_swapped_writes_commute m p q _ c reduced_swapped_no_conflict = refl

-- a free event is no ask
pub reduced_swapped_no_ask : (k : Kind) (l : ℕ) → is_ask_in_free_choice k ≡ false → kind.Ask l ≢ k
reduced_swapped_no_ask k l none is = false≢true (sym none ∙ ap is_ask_in_free_choice (sym is))

-- an event asks for the lock or doesn't
pub reduced_swapped_ask_or_not : (l : ℕ) (k : Kind) → (kind.Ask l ≡ k) ⊎ (kind.Ask l ≢ k)
reduced_swapped_ask_or_not l (kind.Ask m) = elim (cases_eq l m) [
  | inl is ↦ inl (ap kind.Ask is)
  | inr isnt ↦ inr (λ same. isnt (cc same))
]
reduced_swapped_ask_or_not l k = inr (λ is. reduced_swapped_no_ask _ l refl is)

-- after an event that doesn't ask for the lock, an open ask is an old one of another
reduced_swapped_old_ask : (j : List Event) (p r i l : ℕ) (k : Kind) → kind.Ask l ≢ k → LastIs (did j p k) r i (kind.Ask l)
    → (p ≢ r) × LastIs j r i (kind.Ask l)
reduced_swapped_old_ask j p r i l k none last = elim (well_formed_stays_last_cases j (event p k) r i (kind.Ask l) last) [
  | inl own ↦ absurd (none own.2)
  | inr old ↦ old
]

-- two old asks stay open and in order after events of others
reduced_swapped_two_old : (g : List Event) (e f : Event) (l r t i m : ℕ) → e.processor ≢ r → e.processor ≢ t → f.processor ≢ r
    → f.processor ≢ t → LastIs g r i (kind.Ask l) → LastIs g t m (kind.Ask l) → i < m
    → SameBeginningAsksFirst ((g ++ e ∷ []) ++ f ∷ []) l r t
reduced_swapped_two_old g e f l r t i m er et fr ft first second lt = record {
  first = i;
  second = m;
  asks = well_formed_stays_last_longer (g ++ e ∷ []) (f ∷ []) r i (kind.Ask l) (same_beginning_away_one f r fr)
      (well_formed_stays_last_longer g (e ∷ []) r i (kind.Ask l) (same_beginning_away_one e r er) first);
  other = well_formed_stays_last_longer (g ++ e ∷ []) (f ∷ []) t m (kind.Ask l) (same_beginning_away_one f t ft)
      (well_formed_stays_last_longer g (e ∷ []) t m (kind.Ask l) (same_beginning_away_one e t et) second);
  before = lt;
}

-- events of two processors in either order, of which the first doesn't ask for the lock
module _ (g : List Event) (p q : ℕ) (k c : Kind) (apart : p ≢ q) (l : ℕ) (none : kind.Ask l ≢ k) where
  reduced_swapped_asks_there : (r t : ℕ) → SameBeginningAsksFirst (did (did g p k) q c) l r t → SameBeginningAsksFirst (did (did g q c) p k) l r t
  reduced_swapped_asks_there r t a = elim (well_formed_stays_last_cases (did g p k) (event q c) t a.second (kind.Ask l) a.other) [
    | inl mine ↦ elim (well_formed_stays_last_cases (did g p k) (event q c) r a.first (kind.Ask l) a.asks) [
      | inl own ↦ (let lt = a.before in let one = mine.1 in let two = own.1 in absurd (omega arith))
      | inr old ↦
          (let was = reduced_swapped_old_ask g p r a.first l k none old.1 in
          let now : LastIs (did g q c) t (length g) (kind.Ask l) =
          subst (λ u. LastIs (did g q c) u (length g) (kind.Ask l)) mine.0
          (subst (LastIs (did g q c) q (length g)) (sym mine.2) (well_formed_stays_last_now g (event q c))) in
          record {
            first = a.first;
            second = length g;
            asks = well_formed_stays_last_longer (did g q c) (event p k ∷ []) r a.first (kind.Ask l) (same_beginning_away_one (event p k) r was.0)
                (well_formed_stays_last_longer g (event q c ∷ []) r a.first (kind.Ask l) (same_beginning_away_one (event q c) r old.0) was.1);
            other = well_formed_stays_last_longer (did g q c) (event p k ∷ []) t (length g) (kind.Ask l)
                (same_beginning_away_one (event p k) t (λ is. apart (is ∙ sym mine.0))) now;
            before = event_place_inside g a.first (event r (kind.Ask l)) was.1.does;
          })
    ]
    | inr later ↦
        (let second = reduced_swapped_old_ask g p t a.second l k none later.1 in
        elim (well_formed_stays_last_cases (did g p k) (event q c) r a.first (kind.Ask l) a.asks) [
          | inl own ↦
              (let lt = a.before in
              let within = event_place_inside g a.second (event t (kind.Ask l)) second.1.does in
              let two = own.1 in
              let long = length-append g (event p k ∷ []) in
              absurd (omega arith))
          | inr old ↦
              (let first = reduced_swapped_old_ask g p r a.first l k none old.1 in
              reduced_swapped_two_old g (event q c) (event p k) l r t a.first a.second old.0 later.0 first.0 second.0 first.1 second.1 a.before)
        ])
  ]

  reduced_swapped_asks_back : (r t : ℕ) → SameBeginningAsksFirst (did (did g q c) p k) l r t → SameBeginningAsksFirst (did (did g p k) q c) l r t
  reduced_swapped_asks_back r t a =
      let first = reduced_swapped_old_ask (did g q c) p r a.first l k none a.asks in
      let second = reduced_swapped_old_ask (did g q c) p t a.second l k none a.other in
      elim (well_formed_stays_last_cases g (event q c) t a.second (kind.Ask l) second.1) [
        | inl mine ↦ elim (well_formed_stays_last_cases g (event q c) r a.first (kind.Ask l) first.1) [
          | inl own ↦ (let lt = a.before in let one = mine.1 in let two = own.1 in absurd (omega arith))
          | inr old ↦
              (let within = event_place_inside g a.first (event r (kind.Ask l)) old.1.does in
              let long = length-append g (event p k ∷ []) in
              let now : LastIs (did (did g p k) q c) t (length (did g p k)) (kind.Ask l) =
              subst (λ u. LastIs (did (did g p k) q c) u (length (did g p k)) (kind.Ask l)) mine.0
              (subst (LastIs (did (did g p k) q c) q (length (did g p k))) (sym mine.2) (well_formed_stays_last_now (did g p k) (event q c))) in
              record {
                first = a.first;
                second = length (did g p k);
                asks = well_formed_stays_last_longer (did g p k) (event q c ∷ []) r a.first (kind.Ask l) (same_beginning_away_one (event q c) r old.0)
                    (well_formed_stays_last_longer g (event p k ∷ []) r a.first (kind.Ask l) (same_beginning_away_one (event p k) r first.0) old.1);
                other = now;
                before = omega arith;
              })
        ]
        | inr later ↦ elim (well_formed_stays_last_cases g (event q c) r a.first (kind.Ask l) first.1) [
          | inl own ↦
              (let lt = a.before in
              let within = event_place_inside g a.second (event t (kind.Ask l)) later.1.does in
              let two = own.1 in
              absurd (omega arith))
          | inr old ↦ reduced_swapped_two_old g (event p k) (event q c) l r t a.first a.second first.0 second.0 old.0 later.0 old.1 later.1 a.before
        ]
      ]

-- events of two processors in either order
module _ (g : List Event) (p q : ℕ) (k c : Kind) (apart : p ≢ q) where
  pub reduced_swapped_parts_either : (r : ℕ) → events_of (did (did g p k) q c) r ≡ events_of (did (did g q c) p k) r
  reduced_swapped_parts_either r = elim (cases_eq p r) [
    | inl is ↦
        (let isnt : q ≢ r = λ other. apart (is ∙ sym other) in
        let back : q ≢ p = λ other. apart (sym other) in
        same_beginning_part_others (did g p k) (event q c) r isnt
        ∙ subst (λ t. events_of (did g p k) t ≡ events_of (did (did g q c) p k) t) is
        (same_beginning_part_own g (event p k) ∙ ap (λ xs. xs ++ event p k ∷ []) (sym (same_beginning_part_others g (event q c) p back))
        ∙ sym (same_beginning_part_own (did g q c) (event p k))))
    | inr isnt ↦ elim (cases_eq q r) [
      | inl is ↦
          subst (λ t. events_of (did (did g p k) q c) t ≡ events_of (did (did g q c) p k) t) is
          (same_beginning_part_own (did g p k) (event q c) ∙ ap (λ xs. xs ++ event q c ∷ []) (same_beginning_part_others g (event p k) q apart)
          ∙ sym (same_beginning_part_own g (event q c)) ∙ sym (same_beginning_part_others (did g q c) (event p k) q apart))
      | inr other ↦
          same_beginning_part_others (did g p k) (event q c) r other ∙ same_beginning_part_others g (event p k) r isnt
          ∙ sym (same_beginning_part_others g (event q c) r other) ∙ sym (same_beginning_part_others (did g q c) (event p k) r isnt)
    ]
  ]

  -- which don't both ask for one lock
  pub reduced_swapped_asks_either : (l r t : ℕ) → (kind.Ask l ≡ k → kind.Ask l ≢ c)
      → SameBeginningAsksFirst (did (did g p k) q c) l r t ↔ SameBeginningAsksFirst (did (did g q c) p k) l r t
  reduced_swapped_asks_either l r t one = elim (reduced_swapped_ask_or_not l k) [
    | inl is ↦
        (let none = one is in
        let back : q ≢ p = λ other. apart (sym other) in
        (reduced_swapped_asks_back g q p c k back l none r t, reduced_swapped_asks_there g q p c k back l none r t))
    | inr none ↦ (reduced_swapped_asks_there g p q k c apart l none r t, reduced_swapped_asks_back g p q k c apart l none r t)
  ]

  pub reduced_swapped_same_either : (s : Plan) → ((l : ℕ) → kind.Ask l ≡ k → kind.Ask l ≢ c) → ¬ Conflict (event p k) (event q c) → IsSameBeginning s (did (did g p k) q c) (did (did g q c) p k)
  reduced_swapped_same_either s one reduced_swapped_no_conflict =
      let start = replicate (plan_addresses s) 0 in
      record {
        parts = reduced_swapped_parts_either;
        memory =
            same_beginning_memory_did start (did g p k) q c ∙ ap (λ m. wrote m (replay_memory_write c)) (same_beginning_memory_did start g p k)
            ∙ reduced_swapped_writes_commute (memory_after start g) p q k c reduced_swapped_no_conflict
            ∙ sym (same_beginning_memory_did start (did g q c) p k ∙ ap (λ m. wrote m (replay_memory_write k)) (same_beginning_memory_did start g q c));
        asks = λ l r t. reduced_swapped_asks_either l r t (one l);
      }

-- what is so where an event came before some others of which none is its processor's
pub record ReducedSwappedComesFirst (s : Plan) (g w : List Event) (p : ℕ) (k : Kind) : Type 0 where
  pub first : IsFlatBeginning s (did g p k ++ w)
  pub last : IsFlatBeginning s (did (g ++ w) p k)
  pub same : IsSameBeginning s (did (g ++ w) p k) (did g p k ++ w)

-- the event accesses no word but a guarded one
abbrev pub IsCalmInReducedSwap : List (Vec ScriptCall) → Kind → Type 0
IsCalmInReducedSwap rows k = (w : ℕ) → event_address k ≡ Some w → IsGuardedByText rows w

-- it asks for no lock that one of these asks for
abbrev pub HasNoReducedSwapRival : Kind → List Event → Type 0
HasNoReducedSwapRival k w = (m : ℕ) (f : Event) → EventAt w m f → (l : ℕ) → kind.Ask l ≡ k → kind.Ask l ≢ f.kind

module _ (s : Plan) (rows : List (Vec ScriptCall)) (steps : AreLawfulMachineSteps s rows) (p : ℕ) (k : Kind)
    (calm : IsCalmInReducedSwap rows k) where
  reduced_swapped_no_conflict : (g : List Event) (q : ℕ) (c : Kind) → p ≢ q → IsFlatBeginning s (did g p k) → IsFlatBeginning s (did g q c)
      → ¬ Conflict (event p k) (event q c)
  reduced_swapped_no_conflict g q c apart first second conflict =
      text_guard_law_no_conflict s rows steps g p q k c first second apart conflict (calm conflict.address conflict.first)

  -- it comes before others' as well as after them
  pub reduced_swapped_comes_first : (w g : List Event) → ((m : ℕ) (f : Event) → EventAt w m f → f.processor ≢ p) → HasNoReducedSwapRival k w
      → IsFlatBeginning s (did g p k) → IsFlatBeginning s (g ++ w) → ReducedSwappedComesFirst s g w p k
  reduced_swapped_comes_first [] g away no_rival next whole = record {
    first = subst (IsFlatBeginning s) (sym (append-nil (did g p k))) next;
    last = subst (λ x. IsFlatBeginning s (did x p k)) (sym (append-nil g)) next;
    same = subst (λ x. IsSameBeginning s (did x p k) (did g p k ++ [])) (sym (append-nil g))
        (subst (IsSameBeginning s (did g p k)) (sym (append-nil (did g p k))) (same_beginning_as_itself s (did g p k)));
  }
  reduced_swapped_comes_first (e ∷ w) g away no_rival next whole =
      let apart : p ≢ e.processor = λ is. away 0 e refl (sym is) in
      let back : e.processor ≢ p = away 0 e refl in
      let longer = subst (IsFlatBeginning s) (sym (append_assoc g (e ∷ []) w)) whole in
      let now = prefix_beginning_front s (g ++ e ∷ []) w longer in
      let still = reduced_swapped_no_conflict g e.processor e.kind apart next now in
      let still_back : ¬ Conflict e (event p k) = λ c. still (record {
        address = c.address;
        first = c.second;
        second = c.first;
        stores = elim c.stores [ inl is ↦ inr is | inr is ↦ inl is ];
      }) in
      let one = reduced_swapped_next_after s g p e.processor k e.kind apart still next now in
      let two = reduced_swapped_next_after s g e.processor p e.kind k back still_back now next in
      let more = reduced_swapped_comes_first w (g ++ e ∷ []) (λ m. away (suc m)) (λ m. no_rival (suc m)) two longer in
      let either = reduced_swapped_same_either g p e.processor k e.kind apart s (no_rival 0 e refl) still in
      let on = same_beginning_goes_on s w (did (g ++ e ∷ []) p k) (did g p k ++ e ∷ []) (same_beginning_other_way s _ _ either) one more.first in
      record {
        first = subst (IsFlatBeginning s) (append_assoc (did g p k) (e ∷ []) w) on.0;
        last = subst (λ x. IsFlatBeginning s (did x p k)) (append_assoc g (e ∷ []) w) more.last;
        same =
            subst (λ x. IsSameBeginning s (did x p k) (did g p k ++ e ∷ w)) (append_assoc g (e ∷ []) w)
            (subst (IsSameBeginning s (did ((g ++ e ∷ []) ++ w) p k)) (append_assoc (did g p k) (e ∷ []) w)
            (same_beginning_after_that s _ _ _ more.same on.1));
      }
