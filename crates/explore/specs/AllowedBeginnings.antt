-- What may come next after a beginning that the rules of the memory allow.
use Rattle.std.specs.Prelude.{ℕ, ◌≡◌, ◌↔◌, ◌++◌, ◌⊎◌, Bool, true, false, Option, Some, None, List, [], ◌∷◌, length, map, slice_index_or}
use Rattle.base.specs.InOrderOnce.{Has, IsOnce}
use Rattle.journal.specs.declared.event.Event.{Event}
use Rattle.journal.specs.declared.event.Kind.{Kind}
use Rattle.journal.specs.declared.event.Kind.TheVariants.{Ask, Set, Await}
use Rattle.journal.specs.DidEvent.{did, event}
use Rattle.journal.specs.WellFormed.{WellFormedNext}
use Rattle.judge.specs.declared.kept_stores.KeptStores.{KeptStores}
use Rattle.judge.specs.KeptStores.{AreKeptStoresOf}
use Rattle.lrc_script.specs.Lawful.{IsLawful, plan_addresses}
use Rattle.lrc_script.specs.Plan.{Plan}
use Rattle.conformance.specs.Follows.{plan_sizes}
use Rattle.explore.specs.declared.rules.beginning.AllowedBeginning.{AllowedBeginning}
use Rattle.explore.specs.AllowedRuns.{IsAllowedRunBeginning}
use Rattle.explore.specs.Prefixes.ScriptCalls.{ScriptCallsNext, replyless_script_call}
use Rattle.explore.specs.KeptWaiting.{TellsKeptWaiting}

-- p may make this call next, a load with any reply
pub record AllowedBeginningMayCall (s : Plan) (g : List Event) (p : ℕ) (k : Kind) : Type 0 where
  pub may_follow : WellFormedNext (plan_sizes s) g (event p k)
  pub calls : ScriptCallsNext s g p k

-- the events of a beginning
abbrev pub allowed_beginning_events : AllowedBeginning → List Event
allowed_beginning_events b = b.events.items

-- the rules allow the beginning, and who waits for what is as it says
pub record TellsAllowedBeginning (s : Plan) (b : AllowedBeginning) : Type 0 where
  pub beginning : IsAllowedRunBeginning s (allowed_beginning_events b)
  pub waiting : TellsKeptWaiting (allowed_beginning_events b) b.waiting

-- of a lawful script, p may do this next
pub record AllowedBeginningMayGoOn (s : Plan) (b : AllowedBeginning) (p : ℕ) (k : Kind) : Type 0 where
  pub lawful : IsLawful s
  pub tells : TellsAllowedBeginning s b
  pub next : IsAllowedRunBeginning s (did (allowed_beginning_events b) p k)

-- of each processor its next call, a load without a reply, if it may make it
abbrev pub AreAllowedBeginningCalls : Plan → List Event → List (Option Kind) → Type 0
AreAllowedBeginningCalls s g nexts = (p : ℕ) (k : Kind) → (slice_index_or nexts p None ≡ Some (replyless_script_call k)) ↔ AllowedBeginningMayCall s g p k

-- loads are without replies
abbrev pub AreAllowedBeginningCallsPlain : List (Option Kind) → Type 0
AreAllowedBeginningCallsPlain nexts = (p : ℕ) (c : Kind) → slice_index_or nexts p None ≡ Some c → replyless_script_call c ≡ c

-- whether an event commutes with all that other processors may do: it is no ask, set or await
abbrev pub allowed_beginning_call_commutes : Kind → Bool
allowed_beginning_call_commutes (Ask l) = false
allowed_beginning_call_commutes (Set f) = false
allowed_beginning_call_commutes (Await f) = false
allowed_beginning_call_commutes _ = true

-- of these calls one is chosen that commutes with all that others may do
pub record IsAllowedBeginningCallChosen (nexts chosen : List (Option Kind)) : Type 0 where
  pub processor : ℕ
  pub call : Kind
  pub at : slice_index_or nexts processor None ≡ Some call
  pub commutes : allowed_beginning_call_commutes call ≡ true
  pub chosen_at : slice_index_or chosen processor None ≡ Some call
  pub only : (p : ℕ) (c : Kind) → slice_index_or chosen p None ≡ Some c → (p ≡ processor) × (c ≡ call)

-- or all are
abbrev pub IsAllowedBeginningChoice : List (Option Kind) → List (Option Kind) → Type 0
IsAllowedBeginningChoice nexts chosen = (chosen ≡ nexts) ⊎ IsAllowedBeginningCallChosen nexts chosen

-- the event is one of these calls, and may come next
pub record IsAllowedBeginningEventChosen (s : Plan) (g : List Event) (chosen : List (Option Kind)) (e : Event) : Type 0 where
  pub chosen_at : slice_index_or chosen e.processor None ≡ Some (replyless_script_call e.kind)
  pub next : IsAllowedRunBeginning s (g ++ e ∷ [])

-- behind the old beginnings g is put with each of these events
pub record AreAllowedBeginningsPutBehind (s : Plan) (g : List Event) (events : List Event) (old new : List AllowedBeginning) : Type 0 where
  pub more : List AllowedBeginning
  pub behind : new ≡ old ++ more
  pub known : (b : AllowedBeginning) → Has more b → TellsAllowedBeginning s b
  pub are : map allowed_beginning_events more ≡ map (λ (e : Event). g ++ e ∷ []) events

-- the events that are so, each once
pub record AreAllowedBeginningEventsChosen (P : Event → Type 0) (events : List Event) : Type 0 where
  pub once : IsOnce events
  pub each : (e : Event) → Has events e ↔ P e

-- p's event is this call, and may come next
pub record IsAllowedBeginningEventOfCall (s : Plan) (g : List Event) (p : ℕ) (call : Kind) (e : Event) : Type 0 where
  pub mine : e.processor ≡ p
  pub call_is : replyless_script_call e.kind ≡ call
  pub next : IsAllowedRunBeginning s (g ++ e ∷ [])

-- behind the old beginnings is g with each event of p's call that may come next, each once
pub record IsAllowedBeginningCallFollowed (s : Plan) (g : List Event) (p : ℕ) (call : Kind) (old new : List AllowedBeginning) : Type 0 where
  pub events : List Event
  pub chosen : AreAllowedBeginningEventsChosen (IsAllowedBeginningEventOfCall s g p call) events
  pub lengthened : AreAllowedBeginningsPutBehind s g events old new

-- behind them is g with each event of the chosen calls that may come next, each once
pub record AreAllowedBeginningCallsFollowed (s : Plan) (g : List Event) (calls : List (Option Kind)) (old new : List AllowedBeginning) : Type 0 where
  pub events : List Event
  pub chosen : AreAllowedBeginningEventsChosen (IsAllowedBeginningEventChosen s g calls) events
  pub lengthened : AreAllowedBeginningsPutBehind s g events old new

-- after a beginning of a lawful script, of which the sources are these, p may make this call next
pub record MayFollowAllowedBeginningCall (s : Plan) (b : AllowedBeginning) (sources : KeptStores) (p : ℕ) (call : Kind) : Type 0 where
  pub lawful : IsLawful s
  pub tells : TellsAllowedBeginning s b
  pub sources_tell : AreKeptStoresOf (allowed_beginning_events b) sources
  pub processors : sources.processors ≡ s.processors
  pub addresses : sources.addresses ≡ plan_addresses s
  pub plain : replyless_script_call call ≡ call
  pub may : AllowedBeginningMayCall s (allowed_beginning_events b) p call

-- and each of these calls
pub record MayFollowAllowedBeginningCalls (s : Plan) (b : AllowedBeginning) (sources : KeptStores) (calls : List (Option Kind)) : Type 0 where
  pub lawful : IsLawful s
  pub tells : TellsAllowedBeginning s b
  pub sources_tell : AreKeptStoresOf (allowed_beginning_events b) sources
  pub processors : sources.processors ≡ s.processors
  pub addresses : sources.addresses ≡ plan_addresses s
  pub long : length calls ≡ 16
  pub plain : AreAllowedBeginningCallsPlain calls
  pub may : (p : ℕ) (call : Kind) → slice_index_or calls p None ≡ Some call → AllowedBeginningMayCall s (allowed_beginning_events b) p call
