-- What is said of a trace that follows its script, or doesn't.
use Rattle.std.proofs.Common.{ℕ, ◌≡◌, ◌+◌, ◌↔◌, Bool, true, false, List, [], ◌∷◌, ◌++◌, fold, map, take, drop, refl, sym, ap, subst, ◌∙◌, append-nil, append_assoc}
use Rattle.std.specs.Prelude.{IsTrue}
use Rattle.std.proofs.lemmas.List.{take-append-drop}
use Rattle.std.proofs.lemmas.List.Sums.{fold-append}
use Rattle.journal.specs.declared.event.Event.{Event}
use Rattle.journal.specs.DidEvent.{event}
use Rattle.journal.specs.Sizes.{Sizes}
use Rattle.lrc_script.specs.Plan.{Plan}
use Rattle.conformance.specs.Follows.{calls_of, Follows, plan_sizes}
use Rattle.conformance.specs.ScriptBegins.{BeginsScript}
use Rattle.explore.proofs.PrefixRuns.Beginnings.{prefix_beginning_of_followed, prefix_beginning_script_front}
use Rattle.lrc_tester.specs.declared.following.Following.{Following}
use Rattle.lrc_tester.specs.declared.following.Following.TheVariants as following
use Rattle.lrc_tester.specs.declared.follows_command.Answer.TheVariants as answer
use Rattle.lrc_tester.specs.Commands.{IsFollowingTrace, IsFollowsAnswer}
use Rattle.lrc_tester.specs.Following.{IsFollowing, IsStray, last_call, left_out_ask, with_ask, with_asks}

-- what asks are put into only grows
followed_asks_front : (g es : List Event) → (more : List Event) × (fold with_ask g es ≡ g ++ more)
followed_asks_front g [] = ([], sym (append-nil g))
followed_asks_front g (e ∷ es) =
    let rest = followed_asks_front (with_ask g e) es in
    let asks = map (event e.processor) (left_out_ask (last_call (calls_of g e.processor)) e.kind) in
    (asks ++ e ∷ rest.0, rest.1 ∙ append_assoc (g ++ asks) (e ∷ []) rest.0 ∙ append_assoc g asks (e ∷ rest.0))

-- so with its first events the asks come that are put into these
followed_asks_taken : (h : List Event) (n : ℕ) → (more : List Event) × (with_asks h ≡ with_asks (take n h) ++ more)
followed_asks_taken h n =
    let front = followed_asks_front (with_asks (take n h)) (drop n h) in
    (front.0, ap with_asks (sym (take-append-drop n h)) ∙ fold-append with_ask [] (take n h) (drop n h) ∙ front.1)

-- no event of it strays
followed_no_stray : (s : Plan) (h : List Event) (place : ℕ) → Follows s (with_asks h) → ¬ IsStray s h place
followed_no_stray s h place follows is =
    let front = followed_asks_taken h (place + 1) in
    is.strays (prefix_beginning_script_front s (with_asks (take (place + 1) h)) front.0
    (subst (BeginsScript s) front.1 (prefix_beginning_of_followed s (with_asks h) follows)))

-- what is answered says exactly whether it follows
pub followed_exactly : (s : Plan) (sizes : Sizes) (h : List Event) (f : Following) → plan_sizes s ≡ sizes → IsFollowing s h f
    → (answer.Following f ≡ answer.Following following.Follows) ↔ IsFollowingTrace s sizes h
followed_exactly s sizes h following.Follows same is = (λ e. record { sizes_are = same; follows = is }, λ t. refl)
followed_exactly s sizes h (following.Strays place x) same is = (λ e. absurd cc, λ t. absurd (followed_no_stray s h place t.follows is.0))
followed_exactly s sizes h (following.Unfinished p x) same is = (λ e. absurd cc, λ t. absurd (is.0.unfinished (t.follows p)))

-- so does the command's
pub followed_answer : (b : Bool) (s : Plan) (sizes : Sizes) (h : List Event) → IsTrue b ↔ IsFollowingTrace s sizes h → IsFollowsAnswer b s sizes h
followed_answer true s sizes h exactly = exactly.0 refl
followed_answer false s sizes h exactly = λ t. let e : false ≡ true = exactly.1 t in absurd cc
