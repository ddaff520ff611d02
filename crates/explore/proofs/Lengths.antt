-- How long beginnings of a lawful script are.
-- Each event is a call of its processor, a processor's calls are no more than its steps, and an instruction has two
-- steps at most. So a journal can hold them all.
use Rattle.std.proofs.Common.{ℕ, zero, suc, ◌≡◌, ◌≢◌, ◌+◌, ◌*◌, ◌<◌, ◌≤◌, inl, inr, List, [], ◌∷◌, ◌++◌, Bool, true, false, cond, ◌==◌, length, slice_index_or, refl, sym, ap, subst, length-append, append-nil, arith}
use Rattle.std.proofs.lemmas.Bool.{cases_eq}
use Rattle.std.proofs.lemmas.Option.{slice_get-get_or}
use Rattle.std.proofs.lemmas.List.Elements.{All-get_or}
use Rattle.base.specs.Limits.{most_held}
use Rattle.base.proofs.SlicesAndCounts.{slice_push_induction}
use Rattle.journal.specs.declared.event.Event.{Event}
use Rattle.journal.specs.declared.event.Kind.{Kind}
use Rattle.journal.specs.EventsInRange.{EventProcessorsInRange}
use Rattle.journal.proofs.Order.EventPlacesAndCounts.{event_place_at_end, event_place_longer}
use Rattle.lrc_script.specs.declared.script.Instruction.{Instruction}
use Rattle.lrc_script.specs.declared.script.Instruction.TheVariants.{Load, Store, Add, Acquire, Release, Barrier, Set, Await, Cut}
use Rattle.lrc_script.specs.Plan.{Plan}
use Rattle.lrc_script.specs.Lawful.{IsLawful, IsLawfulSection}
use Rattle.conformance.specs.ScriptBegins.{BeginsSection}
use Rattle.conformance.specs.Follows.{calls_of, FollowsSection}
use Rattle.conformance.specs.FlatRuns.{FlatRunHasNoFetch}
use Rattle.conformance.proofs.FollowedCalls.{followed_calls-own, followed_calls-others}
use Rattle.explore.specs.Prefixes.FlatBeginnings.{IsFlatBeginning}
use Rattle.explore.specs.Prefixes.ScriptCalls.{script_call_loads, script_calls_of_section, script_calls_shown_by, script_calls_of_one, script_calls_of_all}
use Rattle.explore.proofs.PrefixRuns.SectionCalls.{section_calls_follows_length}

-- steps of instructions
step_length_two : (i : Instruction) → length (script_calls_of_one i) ≤ 2
step_length_two (Load a) = omega arith
step_length_two (Store a v) = omega arith
step_length_two (Add a v) = omega arith
step_length_two (Acquire l) = omega arith
step_length_two (Release l) = omega arith
step_length_two Barrier = omega arith
step_length_two (Set f) = omega arith
step_length_two (Await f) = omega arith
step_length_two Cut = omega arith

steps_length_few : (is : List Instruction) → length (script_calls_of_all is) ≤ 2 * length is
steps_length_few [] = omega arith
steps_length_few (i ∷ is) =
    let one = step_length_two i in
    let rest = steps_length_few is in
    let both = length-append (script_calls_of_one i) (script_calls_of_all is) in
    omega arith

pub length_of_load_steps : (shown : List ℕ) → length (script_call_loads shown) ≡ length shown
length_of_load_steps [] = refl
length_of_load_steps (a ∷ shown) = ap suc (length_of_load_steps shown)

pub section_length_few : (section : List Instruction) (shown : List ℕ) → length section ≤ 10000 → length shown ≤ 64
    → length (script_calls_of_section section shown) ≤ 20066
section_length_few section shown few shows =
    let own = steps_length_few section in
    let loads = length_of_load_steps shown in
    let both = length-append (script_calls_of_all section) (script_calls_of_section [] shown) in
    omega arith

-- calls that begin a section
pub length_of_begun_section_few : (section : List Instruction) (shown : List ℕ) (kinds : List Kind) → BeginsSection section shown kinds
    → length kinds ≤ length (script_calls_of_section section shown)
length_of_begun_section_few section shown kinds begins =
    let whole = section_calls_follows_length section shown (kinds ++ begins.rest)
    (record { rest = []; follows = subst (FollowsSection section shown) (sym (append-nil (kinds ++ begins.rest))) begins.follows }) in
    let long = whole.0 begins.follows in
    let both = length-append kinds begins.rest in
    omega arith

-- the sum of the first n
abbrev pub lengths_total : (ℕ → ℕ) → ℕ → ℕ
lengths_total f zero = 0
lengths_total f (suc n) = lengths_total f n + f n

lengths_total_zero : (n : ℕ) → lengths_total (λ _. 0) n ≡ 0
lengths_total_zero zero = refl
lengths_total_zero (suc n) = let rest = lengths_total_zero n in omega arith

lengths_total_same : (f h : ℕ → ℕ) (n : ℕ) → ((q : ℕ) → q < n → h q ≡ f q) → lengths_total h n ≡ lengths_total f n
lengths_total_same f h zero same = refl
lengths_total_same f h (suc n) same =
    let rest = lengths_total_same f h n (λ q lt. same q (omega arith)) in
    let one = same n (omega arith) in
    omega arith

lengths_total_more : (f h : ℕ → ℕ) (n p : ℕ) → p < n → h p ≡ suc (f p) → ((q : ℕ) → p ≢ q → h q ≡ f q)
    → lengths_total h n ≡ suc (lengths_total f n)
lengths_total_more f h zero p lt more others = absurd (omega arith)
lengths_total_more f h (suc n) p lt more others = elim (cases_eq p n) [
  | inl is ↦
      (let rest = lengths_total_same f h n (λ q less. others q (λ same. absurd (omega arith))) in
      let one = subst (λ m. h m ≡ suc (f m)) is more in
      omega arith)
  | inr isnt ↦
      (let rest = lengths_total_more f h n p (omega arith) more others in
      let one = others n isnt in
      omega arith)
]

pub lengths_total_few : (f : ℕ → ℕ) (n most : ℕ) → ((q : ℕ) → q < n → f q ≤ most) → lengths_total f n ≤ n * most
lengths_total_few f zero most few = omega arith
lengths_total_few f (suc n) most few =
    let rest = lengths_total_few f n most (λ q lt. few q (omega arith)) in
    let one = few n (omega arith) in
    omega arith

-- each event is its processor's call
pub length_total : (n : ℕ) (g : List Event) → FlatRunHasNoFetch g → EventProcessorsInRange n g
    → length g ≡ lengths_total (λ p. length (calls_of g p)) n
length_total n = slice_push_induction (λ (g : List Event). FlatRunHasNoFetch g → EventProcessorsInRange n g
    → length g ≡ lengths_total (λ p. length (calls_of g p)) n) (λ none within. sym (lengths_total_zero n)) step
  where
    step : (g : List Event) (e : Event)
        → (FlatRunHasNoFetch g → EventProcessorsInRange n g → length g ≡ lengths_total (λ p. length (calls_of g p)) n)
        → FlatRunHasNoFetch (g ++ e ∷ []) → EventProcessorsInRange n (g ++ e ∷ [])
        → length (g ++ e ∷ []) ≡ lengths_total (λ p. length (calls_of (g ++ e ∷ []) p)) n
    step g e old none within =
        let before = old (λ i f at. none i f (event_place_longer g (e ∷ []) i f at)) (λ i f at. within i f (event_place_longer g (e ∷ []) i f at)) in
        let call = none (length g) e (event_place_at_end g e) in
        let mine : length (calls_of (g ++ e ∷ []) e.processor) ≡ suc (length (calls_of g e.processor)) =
        (let own = ap (λ (ks : List Kind). length ks) (followed_calls-own g e.processor e.kind call) in
        let both = length-append (calls_of g e.processor) (e.kind ∷ []) in omega arith) in
        let more = lengths_total_more (λ p. length (calls_of g p)) (λ p. length (calls_of (g ++ e ∷ []) p)) n e.processor
        (within (length g) e (event_place_at_end g e)) mine
        (λ q apart. ap (λ (ks : List Kind). length ks) (followed_calls-others g e.processor q e.kind apart)) in
        let longer = length-append g (e ∷ []) in
        omega arith

pub shown_length_few : (s : Plan) (p : ℕ) → IsLawful s → length (script_calls_shown_by s p) ≤ 64
shown_length_few s p lawful = go (p == 0)
  where
    go : (b : Bool) → length (cond b s.shown []) ≤ 64
    go true = lawful.but_uneven.most_shown
    go false = omega arith

-- no processor calls more than its section says
pub calls_length_few : (s : Plan) (g : List Event) (p : ℕ) → IsLawful s → IsFlatBeginning s g → p < s.processors
    → length (calls_of g p) ≤ 20066
calls_length_few s g p lawful begins lt =
    let long = lawful.but_uneven.one_each in
    let within : p < length s.sections = omega arith in
    let section = slice_index_or s.sections p [] in
    let is = All-get_or (IsLawfulSection s) s.sections p [] within lawful.but_uneven.sections in
    let begun = length_of_begun_section_few section (script_calls_shown_by s p) (calls_of g p) (begins.begins p section (slice_get-get_or s.sections p [] within)) in
    let few = section_length_few section (script_calls_shown_by s p) is.most (shown_length_few s p lawful) in
    omega arith

-- the processors of a beginning
pub length_processors_of : (s : Plan) (g : List Event) → IsFlatBeginning s g → EventProcessorsInRange s.processors g
length_processors_of s g begins i e at = (begins.well_formed i e at).processor

-- a journal can hold a beginning
pub history_length_few : (s : Plan) (g : List Event) → IsLawful s → IsFlatBeginning s g → length g < most_held
history_length_few s g lawful begins =
    let is = length_total s.processors g begins.no_fetch (length_processors_of s g begins) in
    let few = lengths_total_few (λ p. length (calls_of g p)) s.processors 20066 (λ q lt. calls_length_few s g q lawful begins lt) in
    let most = lawful.but_uneven.sizes.most_processors in
    omega arith
