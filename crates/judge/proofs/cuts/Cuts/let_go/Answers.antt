use Rattle.std.proofs.Common.{◌<◌, List, ℕ, length, slice_index, subst, sym, arith}
use Rattle.judge.proofs.cuts.Cuts.let_go.Goals as goal

pub returns-then-episode_counts_are_past-clause-left : goal.returns-then-episode_counts_are_past-clause-left
returns-then-episode_counts_are_past-clause-left c = λ p present le.
    let v = c.args.self.now.departures in
    let gone = c.args.self.now.gone in
    let long = c.requires.long.departures in
    let is = c.deref.ensures.value in
    let inside : p < length v.items = omega (arith, v.ok.0, long) in
    let past = c.episode_counts_are_past.ensures.0 c.if-episode_counts_are_past.true p
    (subst (λ (xs : List ℕ). p < length xs) (sym is) inside) in
    let more : gone < slice_index v.items p = subst (λ (xs : List ℕ). gone < slice_index xs p) is past in
    omega arith

pub returns-else-episode_counts_are_past-clause-goes : goal.returns-else-episode_counts_are_past-clause-goes
returns-else-episode_counts_are_past-clause-goes c = λ all.
    let v = c.args.self.now.departures in
    let gone = c.args.self.now.gone in
    let long = c.requires.long.departures in
    let is = c.deref.ensures.value in
    let past = c.episode_counts_are_past.ensures.1 (λ i h.
    (let inside = subst (λ (xs : List ℕ). i < length xs) is h in
    subst (λ (xs : List ℕ). gone < slice_index xs i) (sym is) (all i (omega (arith, v.ok.0, long, inside))))) in
    let not_past = c.if-episode_counts_are_past.false in
    absurd (cc (past, not_past))
