use Rattle.std.proofs.Common.{◌≡◌, ℕ, ◌+◌, ◌-◌, ◌<◌, ◌≤◌, List, [], length, take, drop, slice_index, subst, sym, refl, ap, ◌∙◌, arith}
use Rattle.std.proofs.lemmas.List.{get_or-take, length-take}
use Rattle.std.proofs.lemmas.Grind.{get_or_after_one}
use Rattle.journal.specs.ClockEntry.{entry}
use Rattle.journal.proofs.event_clocks.EventClocks.let_go.Goals as goal

-- without the first timestamp, each stands a place earlier
entry-rest : (xs ys : List (List ℕ)) (gone n q : ℕ) → ys ≡ drop 1 xs → gone + 1 ≤ n
    → entry ys (n - (gone + 1)) q ≡ entry xs (n - gone) q
entry-rest xs ys gone n q is le =
    let place : 1 + (n - (gone + 1)) ≡ n - gone = omega arith in
    ap (λ zs. entry zs (n - (gone + 1)) q) is
    ∙ ap (λ (x : List ℕ). slice_index x q) (get_or_after_one xs (n - (gone + 1)) [])
    ∙ ap (λ m. entry xs m q) place

-- what is so of each of the first counts is so of each that was taken
taken_past : (counts : List ℕ) (n gone : ℕ) → ((p : ℕ) → p < n → gone < slice_index counts p) → (i : ℕ)
    → i < length (take n counts) → gone < slice_index (take n counts) i
taken_past counts n gone all i h =
    let long = length-take n counts in
    let lt : i < n = omega arith in
    subst (λ x. gone < x) (sym (get_or-take n counts i 0 lt)) (all i lt)

pub returns-then-event_clocks_are_past-clause-goes : goal.returns-then-event_clocks_are_past-clause-goes
returns-then-event_clocks_are_past-clause-goes c = λ all. refl

pub returns-then-event_clocks_are_past-clause-episodes : goal.returns-then-event_clocks_are_past-clause-episodes
returns-then-event_clocks_are_past-clause-episodes c = λ n q le. (
  omega arith,
  entry-rest c.args.self.now.episodes.items c.pop_front.new.self.items c.args.self.now.gone n q
      c.pop_front.ensures.rest le,
)

pub returns-else-event_clocks_are_past-clause-left : goal.returns-else-event_clocks_are_past-clause-left
returns-else-event_clocks_are_past-clause-left c = λ p lt le. le

pub returns-else-event_clocks_are_past-clause-goes : goal.returns-else-event_clocks_are_past-clause-goes
returns-else-event_clocks_are_past-clause-goes c = λ all.
    (let past =
    c.event_clocks_are_past.ensures.1
    (taken_past c.args.self.now.departures c.args.self.now.present c.args.self.now.gone all) in
    let not_past = c.if-event_clocks_are_past.false in
    absurd (cc (past, not_past)))
