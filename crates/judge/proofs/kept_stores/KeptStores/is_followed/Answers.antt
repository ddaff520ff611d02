use Rattle.std.proofs.Common.{◌≤◌, inl, inr, subst, ◌∙◌, arith}
use Rattle.std.proofs.lemmas.Bool.{cases_eq, false≢true}
use Rattle.judge.specs.CutRows.{cut_entry}
use Rattle.judge.specs.declared.kept_store.KeptStore.{KeptStore}
use Rattle.judge.specs.KeptInPasts.{IsLastKeptInPast, IsLastKeptInPastOf}
use Rattle.judge.specs.KeptStores.{kept_stores_of}
use Rattle.judge.proofs.kept_stores.LastKept.{last_kept_one}
use Rattle.judge.proofs.kept_stores.KeptStores.is_followed.Goals as goal
use Rattle.judge.proofs.kept_stores.KeptStores.is_followed.Goals.{in-Some+else-store-known_in, in_default}

pub loop-other-preserved : goal.loop-other-preserved
loop-other-preserved c = λ j tells r y lt last.
    let s = c.args.self.now in
    let p = c.args.processor in
    let of = kept_stores_of s c.args.address in
    let n = c.loop-other.other in
    let inside = c.loop-other-test.true in
    elim (cases_eq r n) [
      | inl same ↦
          (let mine = subst (λ q. IsLastKeptInPast j p (of q) y) same last in
          let told = c.last_store.ensures j tells in
          elim c.match-last_store.branch [
            | in-Some+else-store-known_in w ↦
                (let x = w.in-Some.last in
                let found = subst (IsLastKeptInPastOf j p (of n)) w.in-Some.is told in
                let one = last_kept_one j p (of n) x y (tells.kept.stores c.args.address n inside).rising found mine in
                let known = w.known_in.ensures ∙ w.row.ensures.entries c.args.by in
                let over = w.if-store-known_in.false in
                subst (λ (z : KeptStore). cut_entry s.known.cuts z.cut c.args.by ≤ c.args.store.place) one (omega (arith, known, over)))
            | in_default w ↦
                (let none = subst (IsLastKeptInPastOf j p (of n)) w.in_default.is told in
                absurd (none y mine.has mine.past))
          ])
      | inr isnt ↦ c.loop-other.invariant j tells r y (omega arith) last
    ]

pub returns : goal.returns
returns c = λ j tells. (
  λ wrong. absurd (false≢true wrong),
  λ f. (let below = f.below in
      let over = c.loop-other-test.false in
      let le = c.loop-other.invariant j tells f.by f.store (omega arith) f.last in
      let counts = f.counts in
      absurd (omega arith)),
)
