-- Whether an event may come next, and if not, the first reason why.
use Rattle.std.proofs.Common.{◌≡◌, ◌≢◌, ℕ, ◌+◌, ◌<◌, ◌≤◌, inl, inr, List, Bool, IsTrue, true, false, Option, Some, subst, sym, refl, ap, ◌∙◌, arith}
use Rattle.std.proofs.lemmas.Bool.{cases_eq, cases_lt, false≢true}
use Rattle.std.proofs.lemmas.Option.{same_Some, none-some}
use Rattle.journal.specs.declared.event.Event.{Event}
use Rattle.journal.specs.declared.event.Kind.{Kind}
use Rattle.journal.specs.declared.event.Kind.TheVariants.{Ask, Acquire, Release, Arrive, Depart, Watch, Await}
use Rattle.journal.specs.DidEvent.{event}
use Rattle.journal.specs.Sizes.{Sizes}
use Rattle.journal.specs.Events.{event_count, event_arrives, event_departs, event_takes}
use Rattle.journal.specs.WellFormed.{WellFormedAllows, WellFormedAnswer, Does, Holds, WellFormedKindInRange, LastIs}
use Rattle.journal.specs.AwaitedNext.{awaited_next}
use Rattle.journal.proofs.Order.EventPlacesAndCounts.{event_place_does_same}
use Rattle.journal.proofs.Journals.WellFormedStays.{well_formed_stays_last_unique}
use Rattle.judge.specs.declared.why.Why.{Why}
use Rattle.judge.specs.declared.why.Why.TheVariants.{NoSuchProcessor, OutOfRange, Waits, AsksWhatItHolds, NotAsked}
use Rattle.judge.specs.declared.why.Why.TheVariants.{HeldBy, AskedEarlier, NotHeld, NotArrived, NotSet}
use Rattle.judge.specs.LaxWellFormed.{LaxAllowed, MayFollowOrLax}
use Rattle.judge.specs.Why.{WhyAskedBehind, IsFirstTrueWhy, WhyIsInTurn, IsWhyVerdict, IsWhy, WhyMayTake, WhyWaitsFor, number, why_rank}
use Rattle.judge.specs.FrontTells.{FrontTellsFirstAsk, FrontTellsFlagSet, FrontTellsNobodyAsks}
use Rattle.judge.proofs.Refusing.{refusing_lax_allowed}

-- what has to hold for p to do this next, lax or not
abbrev VerdictAllows : Bool → Sizes → List Event → ℕ → Kind → Type 0
VerdictAllows true = LaxAllowed
VerdictAllows false = WellFormedAllows

-- what a processor waits for answers its call
verdict_answers_of : (a b : Kind) → ((k : Kind) → awaited_next a ≡ Some k → b ≡ k) → WellFormedAnswer a b
verdict_answers_of (Ask l) b f = f (Acquire l) refl
verdict_answers_of Arrive b f = f Depart refl
verdict_answers_of (Watch g) b f = f (Await g) refl
verdict_answers_of _ b f = tt

verdict_answers_all : (s : Sizes) (j : List Event) (e : Event) → WhyIsInTurn s j e → (i : ℕ) (a : Kind)
    → LastIs j e.processor i a → WellFormedAnswer a e.kind
verdict_answers_all s j e turn i a last =
    verdict_answers_of a e.kind
    (λ k waits. turn.answers k (record { place = i; kind = a; last = last; awaits = waits }))

-- an event in its turn that is allowed may come next
verdict_may_in : (lax : Bool) (s : Sizes) (j : List Event) (e : Event) → WhyIsInTurn s j e → VerdictAllows lax s j e.processor e.kind
    → MayFollowOrLax lax s j e
verdict_may_in true s j e turn allowed = record {
  processor = turn.processor;
  in_range = turn.in_range;
  answers = verdict_answers_all s j e turn;
  allowed = allowed;
}
verdict_may_in false s j e turn allowed = record {
  processor = turn.processor;
  in_range = turn.in_range;
  answers = verdict_answers_all s j e turn;
  allowed = allowed;
}

-- the reasons of an event in its turn are these at least
verdict_in_turn : (lax : Bool) (s : Sizes) (j : List Event) (e : Event) (v : Why) → WhyIsInTurn s j e → IsWhy lax s j e v
    → 3 ≤ why_rank v
verdict_in_turn lax s j e NoSuchProcessor turn is = absurd (let lt = turn.processor in omega arith)
verdict_in_turn lax s j e OutOfRange turn is = absurd (is turn.in_range)
verdict_in_turn lax s j e (Waits k) turn is = absurd (is.1 (turn.answers k is.0))
verdict_in_turn lax s j e _ turn is = omega arith

-- no such processor, or numbers out of range
pub verdict_no_processor : (lax : Bool) (s : Sizes) (j : List Event) (e : Event) → s.processors ≤ e.processor
    → IsFirstTrueWhy lax s j e NoSuchProcessor
verdict_no_processor lax s j e is = record { is_true = is; first = λ v w. (omega arith, λ same. omega arith) }

pub verdict_out_of_range : (lax : Bool) (s : Sizes) (j : List Event) (e : Event) → e.processor < s.processors
    → (¬ WellFormedKindInRange s e.kind) → IsFirstTrueWhy lax s j e OutOfRange
verdict_out_of_range lax s j e lt is = record { is_true = is; first = λ v w. (least v w, λ same. omega arith) }
  where
    least : (v : Why) → IsWhy lax s j e v → 1 ≤ why_rank v
    least NoSuchProcessor w = absurd (omega arith)
    least _ w = omega arith

-- its processor waits for another event
pub verdict_waits_for_other : (lax : Bool) (s : Sizes) (j : List Event) (e : Event) (k : Kind) → e.processor < s.processors
    → WellFormedKindInRange s e.kind → WhyWaitsFor j e.processor k → e.kind ≢ k → IsFirstTrueWhy lax s j e (Waits k)
verdict_waits_for_other lax s j e k lt range waits isnt =
    record { is_true = (waits, isnt); first = λ v w. (least v w, λ same. omega arith) }
  where
    least : (v : Why) → IsWhy lax s j e v → 2 ≤ why_rank v
    least NoSuchProcessor w = absurd (omega arith)
    least OutOfRange w = absurd (w range)
    least _ w = omega arith

-- what a processor waits for after its last event is one thing
pub verdict_waits_one : (j : List Event) (p : ℕ) (a b : Kind) → WhyWaitsFor j p a → WhyWaitsFor j p b → a ≡ b
verdict_waits_one j p a b x y =
    let one = well_formed_stays_last_unique j p x.place y.place x.kind y.kind x.last y.last in
    same_Some a b (sym x.awaits ∙ ap awaited_next one.1 ∙ y.awaits)

-- calls of a processor that waits for nothing
module _ (lax : Bool) (s : Sizes) (j : List Event) (p : ℕ) where
  pub verdict_asks_held : (l : ℕ) → WhyIsInTurn s j (event p (Ask l)) → Holds j p l
      → IsFirstTrueWhy lax s j (event p (Ask l)) AsksWhatItHolds
  verdict_asks_held l turn holds = record {
    is_true = (l, refl, holds);
    first = λ v w. (verdict_in_turn lax s j (event p (Ask l)) v turn w, λ same. omega arith);
  }

  pub verdict_asks_free : (l : ℕ) → WhyIsInTurn s j (event p (Ask l)) → (¬ Holds j p l) → MayFollowOrLax lax s j (event p (Ask l))
  verdict_asks_free l turn free = verdict_may_in lax s j (event p (Ask l)) turn (go lax)
    where
      go : (lax : Bool) → VerdictAllows lax s j p (Ask l)
      go true = free
      go false = free

  pub verdict_releases_held : (l : ℕ) → WhyIsInTurn s j (event p (Release l)) → Holds j p l
      → MayFollowOrLax lax s j (event p (Release l))
  verdict_releases_held l turn holds = verdict_may_in lax s j (event p (Release l)) turn (go lax)
    where
      go : (lax : Bool) → VerdictAllows lax s j p (Release l)
      go true = holds
      go false = holds

  pub verdict_releases_free : (l : ℕ) → WhyIsInTurn s j (event p (Release l)) → (¬ Holds j p l)
      → IsFirstTrueWhy lax s j (event p (Release l)) NotHeld
  verdict_releases_free l turn free =
      record { is_true = (l, refl, free); first = λ v w. (least v w, λ same. omega arith) }
    where
      least : (v : Why) → IsWhy lax s j (event p (Release l)) v → 7 ≤ why_rank v
      least NoSuchProcessor w =
          absurd (let le = verdict_in_turn lax s j (event p (Release l)) NoSuchProcessor turn w in omega arith)
      least OutOfRange w = absurd (let le = verdict_in_turn lax s j (event p (Release l)) OutOfRange turn w in omega arith)
      least (Waits k) w = absurd (let le = verdict_in_turn lax s j (event p (Release l)) (Waits k) turn w in omega arith)
      least AsksWhatItHolds w = absurd (let e = w.1 in cc)
      least NotAsked w = absurd (false≢true w.0)
      least (HeldBy q) w = absurd (let e = w.1 in cc)
      least (AskedEarlier q i) w = absurd (let e = w.1 in cc)
      least _ w = omega arith

-- who may take, and not lax, waits for it
pub verdict_may_waits : (lax : Bool) (j : List Event) (p : ℕ) (k : Kind) → lax ≡ false → WhyMayTake lax j p k → WhyWaitsFor j p k
verdict_may_waits lax j p k strict (inl waits) = waits
verdict_may_waits lax j p k strict (inr unasked) = absurd (false≢true (sym strict ∙ unasked.0))

-- a departure is waited for
pub verdict_may_depart : (lax : Bool) (j : List Event) (p : ℕ) → WhyMayTake lax j p Depart → WhyWaitsFor j p Depart
verdict_may_depart lax j p (inl waits) = waits
verdict_may_depart lax j p (inr unasked) = absurd (false≢true unasked.1)

-- takings of a processor that waits for them, or needs not
module _ (lax : Bool) (s : Sizes) (j : List Event) (p : ℕ) where
  -- what is refused of it is refused for what it lacks
  verdict_lacks : (k : Kind) (v : Why) → IsTrue (event_takes k) → WhyIsInTurn s j (event p k) → WhyMayTake lax j p k
      → IsWhy lax s j (event p k) v → 5 ≤ why_rank v
  verdict_lacks k NoSuchProcessor takes turn waits w =
      absurd (let le = verdict_in_turn lax s j (event p k) NoSuchProcessor turn w in omega arith)
  verdict_lacks k OutOfRange takes turn waits w =
      absurd (let le = verdict_in_turn lax s j (event p k) OutOfRange turn w in omega arith)
  verdict_lacks k (Waits b) takes turn waits w =
      absurd (let le = verdict_in_turn lax s j (event p k) (Waits b) turn w in omega arith)
  verdict_lacks k AsksWhatItHolds takes turn waits w =
      absurd (false≢true (subst (λ x. IsTrue (event_takes x)) w.1 takes))
  verdict_lacks k NotAsked takes turn waits w = absurd (w.1 waits)
  verdict_lacks k _ takes turn waits w = omega arith

  pub verdict_held_by : (l q : ℕ) → WhyIsInTurn s j (event p (Acquire l)) → WhyMayTake lax j p (Acquire l) → Holds j q l
      → IsFirstTrueWhy lax s j (event p (Acquire l)) (HeldBy q)
  verdict_held_by l q turn waits holds =
      record {
        is_true = (l, refl, holds);
        first = λ v w. (verdict_lacks (Acquire l) v refl turn waits w, λ same. omega arith);
      }

  pub verdict_not_arrived : (q : ℕ) → WhyIsInTurn s j (event p Depart) → WhyWaitsFor j p Depart → q < s.processors
      → event_count event_arrives j q ≤ event_count event_departs j p
      → ((r : ℕ) → r < q → event_count event_departs j p < event_count event_arrives j r)
      → IsFirstTrueWhy lax s j (event p Depart) (NotArrived q)
  verdict_not_arrived q turn waits lt few before =
      record { is_true = (refl, lt, few); first = λ v w. (least v w, least_number v w) }
    where
      least : (v : Why) → IsWhy lax s j (event p Depart) v → 8 ≤ why_rank v
      least (HeldBy r) w = absurd (let e = w.1 in cc)
      least (AskedEarlier r i) w = absurd (let e = w.1 in cc)
      least NotHeld w = absurd (let e = w.1 in cc)
      least (NotArrived r) w = omega arith
      least NotSet w = omega arith
      least v w = absurd (let le = verdict_lacks Depart v refl turn (inl waits) w in omega arith)

      least_number : (v : Why) → IsWhy lax s j (event p Depart) v → 8 ≡ why_rank v → q ≤ number v
      least_number (NotArrived r) w same = elim (cases_lt r q) [
        | inl below ↦ absurd (let up = before r below in let few_there = w.2 in omega arith)
        | inr le ↦ le
      ]
      least_number _ w same = absurd (omega arith)

  pub verdict_departs : WhyIsInTurn s j (event p Depart) → WhyWaitsFor j p Depart
      → ((r : ℕ) → r < s.processors → event_count event_departs j p < event_count event_arrives j r)
      → MayFollowOrLax lax s j (event p Depart)
  verdict_departs turn waits all = verdict_may_in lax s j (event p Depart) turn (go lax)
    where
      arrived : (a : Kind) → awaited_next a ≡ Some Depart → a ≡ Arrive
      arrived (Ask l) is = absurd (let e = same_Some (Acquire l) Depart is in cc)
      arrived Arrive is = refl
      arrived (Watch f) is = absurd (let e = same_Some (Await f) Depart is in cc)
      arrived _ is = absurd (none-some Depart is)

      last : LastIs j p waits.place Arrive
      last = subst (LastIs j p waits.place) (arrived waits.kind waits.awaits) waits.last

      enough : (q : ℕ) → q < s.processors → event_count event_departs j p + 1 ≤ event_count event_arrives j q
      enough q lt = let up = all q lt in omega arith

      go : (lax : Bool) → VerdictAllows lax s j p Depart
      go true = (waits.place, last, enough)
      go false = (waits.place, last, enough)

  pub verdict_not_set : (f : ℕ) → WhyIsInTurn s j (event p (Await f)) → WhyMayTake lax j p (Await f) → (¬ FrontTellsFlagSet j f)
      → IsFirstTrueWhy lax s j (event p (Await f)) NotSet
  verdict_not_set f turn waits unset =
      record {
        is_true = (f, refl, λ k q does. unset (k, q, does));
        first = λ v w. (least v w, λ same. omega arith);
      }
    where
      least : (v : Why) → IsWhy lax s j (event p (Await f)) v → 9 ≤ why_rank v
      least (HeldBy r) w = absurd (let e = w.1 in cc)
      least (AskedEarlier r i) w = absurd (let e = w.1 in cc)
      least NotHeld w = absurd (let e = w.1 in cc)
      least (NotArrived r) w = absurd (let e = w.0 in cc)
      least NotSet w = omega arith
      least v w = absurd (let le = verdict_lacks (Await f) v refl turn waits w in omega arith)

  pub verdict_awaits_set : (f : ℕ) → WhyIsInTurn s j (event p (Await f)) → WhyMayTake lax j p (Await f) → FrontTellsFlagSet j f
      → MayFollowOrLax lax s j (event p (Await f))
  verdict_awaits_set f turn may set = verdict_may_in lax s j (event p (Await f)) turn (go lax may)
    where
      watched : (a : Kind) → awaited_next a ≡ Some (Await f) → a ≡ Watch f
      watched (Ask l) is = absurd (let e = same_Some (Acquire l) (Await f) is in cc)
      watched Arrive is = absurd (let e = same_Some Depart (Await f) is in cc)
      watched (Watch g) is = let e = same_Some (Await g) (Await f) is in cc
      watched _ is = absurd (none-some (Await f) is)

      last : (waits : WhyWaitsFor j p (Await f)) → LastIs j p waits.place (Watch f)
      last waits = subst (LastIs j p waits.place) (watched waits.kind waits.awaits) waits.last

      go : (lax : Bool) → WhyMayTake lax j p (Await f) → VerdictAllows lax s j p (Await f)
      go true _ = set
      go false (inl waits) = (waits.place, set.0, set.1, last waits, set.2)
      go false (inr unasked) = absurd (false≢true unasked.0)

-- an acquire of a lock that nobody holds, lax
pub verdict_granted_lax : (s : Sizes) (j : List Event) (p l : ℕ) → WhyIsInTurn s j (event p (Acquire l)) → ((q : ℕ) → ¬ Holds j q l)
    → MayFollowOrLax true s j (event p (Acquire l))
verdict_granted_lax s j p l turn free = verdict_may_in true s j (event p (Acquire l)) turn free

-- acquires
module _ (s : Sizes) (j : List Event) (p l : ℕ) (turn : WhyIsInTurn s j (event p (Acquire l)))
    (waits : WhyWaitsFor j p (Acquire l)) (free : (q : ℕ) → ¬ Holds j q l) where
  verdict_asked : (a : Kind) → awaited_next a ≡ Some (Acquire l) → a ≡ Ask l
  verdict_asked (Ask m) is = let e = same_Some (Acquire m) (Acquire l) is in cc
  verdict_asked Arrive is = absurd (let e = same_Some Depart (Acquire l) is in cc)
  verdict_asked (Watch f) is = absurd (let e = same_Some (Await f) (Acquire l) is in cc)
  verdict_asked _ is = absurd (none-some (Acquire l) is)

  verdict_last_ask : LastIs j p waits.place (Ask l)
  verdict_last_ask = subst (LastIs j p waits.place) (verdict_asked waits.kind waits.awaits) waits.last

  -- its ask is the first that is open
  pub verdict_granted : (i : ℕ) → FrontTellsFirstAsk j l p i → MayFollowOrLax false s j (event p (Acquire l))
  verdict_granted i x =
      verdict_may_in false s j (event p (Acquire l)) turn (
        waits.place,
        verdict_last_ask,
        record {
          free = free;
          first = λ k q lt is.
              (let le = x.first q k is in
              let one = well_formed_stays_last_unique j p i waits.place (Ask l) (Ask l) x.asks verdict_last_ask in
              let same = one.0 in
              omega arith);
        },
      )

  -- there is one
  pub verdict_some_ask : FrontTellsNobodyAsks j l → ⊥
  verdict_some_ask none = none p waits.place verdict_last_ask

  -- another processor's is
  pub verdict_behind : (q i : ℕ) → q ≢ p → FrontTellsFirstAsk j l q i
      → IsFirstTrueWhy false s j (event p (Acquire l)) (AskedEarlier q i)
  verdict_behind q i isnt x = record { is_true = (l, refl, is_behind, refl); first = λ v w. (least v w, least_place v w) }
    where
      before : i < waits.place
      before = elim (cases_eq i waits.place) [
        | inl is ↦ absurd (isnt (event_place_does_same j waits.place q p (Ask l) (Ask l)
            (subst (λ n. Does j n q (Ask l)) is x.asks.does) verdict_last_ask.does).0)
        | inr apart ↦ (let le = x.first p waits.place verdict_last_ask in omega arith)
      ]

      is_behind : WhyAskedBehind j p l q i
      is_behind = record { place = waits.place; asked = verdict_last_ask; earlier = x.asks; before = before }

      least : (v : Why) → IsWhy false s j (event p (Acquire l)) v → 6 ≤ why_rank v
      least (HeldBy r) w =
          absurd (free r (subst (Holds j r) (let e = w.1 in let same : w.0 ≡ l = cc in same) w.2))
      least (AskedEarlier r k) w = omega arith
      least NotHeld w = omega arith
      least (NotArrived r) w = omega arith
      least NotSet w = omega arith
      least v w = absurd (let le = verdict_lacks false s j p (Acquire l) v refl turn (inl waits) w in omega arith)

      least_place : (v : Why) → IsWhy false s j (event p (Acquire l)) v → 6 ≡ why_rank v → i ≤ number v
      least_place (AskedEarlier r k) w same =
          x.first r k (subst (λ m. LastIs j r k (Ask m)) (let e = w.1 in let one : w.0 ≡ l = cc in one) w.2.earlier)
      least_place _ w same = absurd (omega arith)

-- other calls of a processor that waits for nothing may come next
verdict_free_allowed : (s : Sizes) (j : List Event) (p : ℕ) (k : Kind) → ((l : ℕ) → k ≢ Ask l) → ((l : ℕ) → k ≢ Release l)
    → event_takes k ≡ false → WellFormedAllows s j p k
verdict_free_allowed s j p (Ask l) asks releases quiet = absurd (asks l refl)
verdict_free_allowed s j p (Release l) asks releases quiet = absurd (releases l refl)
verdict_free_allowed s j p (Acquire l) asks releases quiet = absurd (false≢true (sym quiet))
verdict_free_allowed s j p Depart asks releases quiet = absurd (false≢true (sym quiet))
verdict_free_allowed s j p (Await f) asks releases quiet = absurd (false≢true (sym quiet))
verdict_free_allowed s j p _ asks releases quiet = tt

pub calls : (lax : Bool) (s : Sizes) (j : List Event) (e : Event) → WhyIsInTurn s j e → ((l : ℕ) → e.kind ≢ Ask l)
    → ((l : ℕ) → e.kind ≢ Release l) → event_takes e.kind ≡ false → MayFollowOrLax lax s j e
calls lax s j e turn asks releases quiet = verdict_may_in lax s j e turn (go lax)
  where
    allowed : WellFormedAllows s j e.processor e.kind
    allowed = verdict_free_allowed s j e.processor e.kind asks releases quiet

    go : (lax : Bool) → VerdictAllows lax s j e.processor e.kind
    go true = refusing_lax_allowed s j e.processor e.kind allowed
    go false = allowed

-- a kind that is none of the three takes nothing
pub verdict_quiet_kind : (k : Kind) → ((l : ℕ) → k ≢ Acquire l) → k ≢ Depart → ((f : ℕ) → k ≢ Await f) → event_takes k ≡ false
verdict_quiet_kind (Acquire l) acquires verdict_departs awaits = absurd (acquires l refl)
verdict_quiet_kind Depart acquires verdict_departs awaits = absurd (verdict_departs refl)
verdict_quiet_kind (Await f) acquires verdict_departs awaits = absurd (awaits f refl)
verdict_quiet_kind _ acquires verdict_departs awaits = refl

-- what is waited for takes
verdict_awaited_takes : (a k : Kind) → awaited_next a ≡ Some k → IsTrue (event_takes k)
verdict_awaited_takes (Ask l) k is = subst (λ b. IsTrue (event_takes b)) (same_Some (Acquire l) k is) refl
verdict_awaited_takes Arrive k is = subst (λ b. IsTrue (event_takes b)) (same_Some Depart k is) refl
verdict_awaited_takes (Watch f) k is = subst (λ b. IsTrue (event_takes b)) (same_Some (Await f) k is) refl
verdict_awaited_takes _ k is = absurd (none-some k is)

pub verdict_waits_takes : (j : List Event) (p : ℕ) (k : Kind) → WhyWaitsFor j p k → IsTrue (event_takes k)
verdict_waits_takes j p k waits = verdict_awaited_takes waits.kind k waits.awaits

-- and so does what may be taken
pub verdict_may_takes : (lax : Bool) (j : List Event) (p : ℕ) (k : Kind) → WhyMayTake lax j p k → IsTrue (event_takes k)
verdict_may_takes lax j p k (inl waits) = verdict_waits_takes j p k waits
verdict_may_takes lax j p (Acquire l) (inr unasked) = refl
verdict_may_takes lax j p (Await f) (inr unasked) = refl
verdict_may_takes lax j p _ (inr unasked) = absurd (false≢true unasked.1)

-- an event of a processor that waits for it, or for nothing, is in its turn
pub verdict_turn_for : (s : Sizes) (j : List Event) (e : Event) (k : Kind) → e.processor < s.processors
    → WellFormedKindInRange s e.kind → WhyWaitsFor j e.processor k → e.kind ≡ k → WhyIsInTurn s j e
verdict_turn_for s j e k lt range waits is = record {
  processor = lt;
  in_range = range;
  answers = λ b other. is ∙ verdict_waits_one j e.processor k b waits other;
}

pub verdict_turn_idle : (s : Sizes) (j : List Event) (e : Event) → e.processor < s.processors → WellFormedKindInRange s e.kind
    → ((k : Kind) → ¬ WhyWaitsFor j e.processor k) → WhyIsInTurn s j e
verdict_turn_idle s j e lt range idle =
    record { processor = lt; in_range = range; answers = λ b waits. absurd (idle b waits) }

-- what is said of an event by its kind
pub verdict_by_kind : (lax : Bool) (s : Sizes) (j : List Event) (e : Event) (k : Kind) (o : Option Why) → e.kind ≡ k
    → WhyIsInTurn s j e
    → (WhyIsInTurn s j (event e.processor k) → IsWhyVerdict lax s j (event e.processor k) o) → IsWhyVerdict lax s j e o
verdict_by_kind lax s j e k o is turn verdict =
    subst (λ x. IsWhyVerdict lax s j (event e.processor x) o) (sym is)
    (verdict (subst (λ x. WhyIsInTurn s j (event e.processor x)) is turn))
