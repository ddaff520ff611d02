-- Whether a history follows its script, and if not, how.
use Rattle.std.specs.Prelude.{ℕ, Bool, true, false, ◌≡◌, ◌==◌, ◌+◌, ◌<◌, ◌≤◌, cond, fold, map, Option, Some, None, List, [], ◌∷◌, ◌++◌, length, take, slice_get}
use Rattle.journal.specs.declared.event.Event.{Event}
use Rattle.journal.specs.declared.event.Kind.{Kind}
use Rattle.journal.specs.declared.event.Kind.TheVariants as kind
use Rattle.journal.specs.DidEvent.{event}
use Rattle.lrc_script.specs.declared.script.Instruction.{Instruction}
use Rattle.lrc_script.specs.Plan.{Plan}
use Rattle.conformance.specs.Follows.{calls_of, Follows, FollowsSection}
use Rattle.conformance.specs.ScriptBegins.{BeginsScript}
use Rattle.explore.specs.Prefixes.ScriptCalls.{last_reply_of_script_calls, script_calls_of_all, script_calls_shown_by}
use Rattle.lrc_tester.specs.declared.following.Come.{Come}
use Rattle.lrc_tester.specs.declared.following.Following.{Following}
use Rattle.lrc_tester.specs.declared.following.Following.TheVariants as following
use Rattle.lrc_tester.specs.declared.following.Stray.{Stray}
use Rattle.lrc_tester.specs.declared.next.Next.{Next}
use Rattle.lrc_tester.specs.declared.next.Next.TheVariants as next

-- the last of these calls
abbrev pub last_call : List Kind → Option Kind
last_call kinds = fold (λ _ k. Some k) None kinds

-- it asks for this lock
abbrev pub is_ask_for : ℕ → Option Kind → Bool
is_ask_for l (Some (kind.Ask m)) = m == l
is_ask_for l _ = false

-- it watches this flag
abbrev pub is_watch_for : ℕ → Option Kind → Bool
is_watch_for f (Some (kind.Watch g)) = g == f
is_watch_for f _ = false

-- the ask or the watch that was left out before this call, if its processor made that one last
abbrev pub left_out_ask : Option Kind → Kind → List Kind
left_out_ask last (kind.Acquire l) = cond (is_ask_for l last) [] (kind.Ask l ∷ [])
left_out_ask last (kind.Await f) = cond (is_watch_for f last) [] (kind.Watch f ∷ [])
left_out_ask last _ = []

-- one event more, and right before it the ask or the watch that was left out
abbrev pub with_ask : List Event → Event → List Event
with_ask g e = (g ++ map (event e.processor) (left_out_ask (last_call (calls_of g e.processor)) e.kind)) ++ e ∷ []

-- the events with each ask and watch that was left out put in right before its acquire or await
abbrev pub with_asks : List Event → List Event
with_asks h = fold with_ask [] h

-- a history that follows the script as it is written does so with the asks put in, too
abbrev pub WrittenAsksLaw : Type 0
WrittenAsksLaw = (s : Plan) (h : List Event) → Follows s h → Follows s (with_asks h)

-- processor p has called all that its section says
abbrev pub FollowsItsSection : Plan → List Event → ℕ → Type 0
FollowsItsSection s h p = (section : List Instruction) → slice_get s.sections p ≡ Some section
    → FollowsSection section (script_calls_shown_by s p) (calls_of h p)

-- after n calls, all of the instructions before this one are made, and of this one not all
pub record IsInstructionNext (section : List Instruction) (n i : ℕ) : Type 0 where
  pub inside : i < length section
  pub before : length (script_calls_of_all (take i section)) ≤ n
  pub left : n < length (script_calls_of_all (take (i + 1) section))

-- after n calls a processor with this section, which shows so many words at the end, does this next
abbrev pub IsNextAfter : List Instruction → ℕ → ℕ → Next → Type 0
IsNextAfter section shown n (next.Instruction i) = IsInstructionNext section n i
IsNextAfter section shown n next.Closing =
    (length (script_calls_of_all section) ≤ n) × (n < length (script_calls_of_all section) + 2)
IsNextAfter section shown n (next.Shown i) = (i < shown) × (n ≡ length (script_calls_of_all section) + 2 + i)
IsNextAfter section shown n next.Nothing = length (script_calls_of_all section) + 2 + shown ≤ n

-- after these events p does this next
abbrev pub IsNext : Plan → List Event → ℕ → Next → Type 0
IsNext s g p x = (section : List Instruction) → slice_get s.sections p ≡ Some section
    → IsNextAfter section (length (script_calls_shown_by s p)) (length (calls_of g p)) x

-- all calls begin the sections, and p is the least that hasn't called all of its
pub record IsUnfinished (s : Plan) (h : List Event) (p : ℕ) : Type 0 where
  pub begins : BeginsScript s h
  pub unfinished : ¬ FollowsItsSection s h p
  pub before : (q : ℕ) → q < p → FollowsItsSection s h q

-- what stands before this place begins the script, and with the event there it doesn't
pub record IsStray (s : Plan) (h : List Event) (place : ℕ) : Type 0 where
  pub inside : place < length h
  pub begins : BeginsScript s (with_asks (take place h))
  pub strays : ¬ BeginsScript s (with_asks (take (place + 1) h))

-- the event there is this processor's, which has made so many calls before it
pub record IsStrayMet (s : Plan) (h : List Event) (x : Stray) : Type 0 where
  pub stray : IsStray s h x.place
  pub of : (e : Event) → slice_get h x.place ≡ Some e → e.processor ≡ x.processor
  pub made : x.processor < length s.sections → x.made ≡ length (calls_of (with_asks (take x.place h)) x.processor)

-- what is so by the answer
abbrev pub IsFollowing : Plan → List Event → Following → Type 0
IsFollowing s h following.Follows = Follows s (with_asks h)
IsFollowing s h (following.Strays place x) = IsStray s h place
    × ((e : Event) → slice_get h place ≡ Some e → IsNext s (with_asks (take place h)) e.processor x)
IsFollowing s h (following.Unfinished p x) = IsUnfinished s (with_asks h) p × IsNext s (with_asks h) p x

-- p has made so many calls in these events, this was the last one, and its last load returned that
pub record HasComeSoFar (g : List Event) (p : ℕ) (x : Come) : Type 0 where
  pub made : x.made ≡ length (calls_of g p)
  pub reply : x.reply ≡ last_reply_of_script_calls (calls_of g p)
  pub last : x.last ≡ last_call (calls_of g p)

-- these events begin the script, and each processor has come so far in them
pub record HaveCome (s : Plan) (come : List Come) (g : List Event) : Type 0 where
  pub long : length come ≡ length s.sections
  pub begins : BeginsScript s g
  pub each : (p : ℕ) (x : Come) → slice_get come p ≡ Some x → HasComeSoFar g p x

-- with its last event the history begins the script, and each has come so far; or it doesn't begin it
abbrev pub IsEventNoted : Plan → List Come → List Event → Bool → Type 0
IsEventNoted s come g true = HaveCome s come g
IsEventNoted s come g false = ¬ BeginsScript s g
