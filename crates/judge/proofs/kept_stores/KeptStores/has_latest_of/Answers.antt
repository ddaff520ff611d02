use Rattle.std.proofs.Common.{inl, inr, subst, refl, arith}
use Rattle.std.proofs.lemmas.Bool.{cases_eq, false≢true}
use Rattle.journal.specs.declared.event.Kind.TheVariants.{Store}
use Rattle.journal.specs.DidEvent.{event}
use Rattle.journal.specs.WellFormed.{Does}
use Rattle.judge.specs.KeptInPasts.{IsKeptStoreFollowed, IsLastKeptInPastOf}
use Rattle.judge.specs.KeptStores.{kept_stores_of}
use Rattle.judge.specs.StoresInPasts.{IsLatestInPast}
use Rattle.judge.proofs.kept_stores.AnsweringKept.{answering_kept_value}
use Rattle.judge.proofs.kept_stores.ChoosingKept.{choosing_kept_followed, choosing_kept_given, choosing_kept_latest, choosing_kept_nothing, choosing_kept_place, choosing_kept_store}
use Rattle.judge.proofs.kept_stores.KeptStores.has_latest_of.Goals as goal
use Rattle.judge.proofs.kept_stores.KeptStores.has_latest_of.Goals.{in-Some+else-store-value, else-store-value-via-then-store-value+else-not-is_followed, else-store-value-via-else-store-value, in_default}

pub returns-then-not-is_followed : goal.returns-then-not-is_followed
returns-then-not-is_followed c = λ j tells.
    let s = c.args.self.now in
    let p = c.args.processor in
    let a = c.args.address in
    let of = kept_stores_of s a in
    let given = choosing_kept_given j s p a tells c.requires.processor in
    let q = c.loop-by.by in
    let x = c.in-Some.store in
    let inside = c.loop-by-test.true in
    let last = c.in-Some.ensures j tells in
    let free : ¬ IsKeptStoreFollowed s.processors j s.known.cuts p of q x = λ f. false≢true ((c.if-not-is_followed.ensures j tells).1 f) in
    let does = (choosing_kept_store s.processors j s.known.cuts p a of given q x inside last).does in (
      λ _. (
        q,
        x.place,
        choosing_kept_latest s.processors j s.known.cuts p a of given q x inside last free,
        subst (λ v. Does j x.place q (Store a v)) c.if-store-value.true does,
      ),
      λ _. refl,
    )

pub loop-by-preserved : goal.loop-by-preserved
loop-by-preserved c = λ j tells q i lt latest does.
    let s = c.args.self.now in
    let p = c.args.processor in
    let a = c.args.address in
    let of = kept_stores_of s a in
    let given = choosing_kept_given j s p a tells c.requires.processor in
    let n = c.loop-by.by in
    let inside = c.loop-by-test.true in
    let told = c.last_store.ensures j tells in
    elim (cases_eq q n) [
      | inl same ↦
          (let mine = subst (λ r. IsLatestInPast j p a r i) same latest in
          let stored = subst (λ r. Does j i r (Store a c.args.value)) same does in
          elim c.match-last_store.branch [
            | in-Some+else-store-value w ↦
                (let x = w.in-Some.store in
                let last = subst (IsLastKeptInPastOf j p (of n)) w.in-Some.is told in
                elim w.else-store-value.branch [
                  | else-store-value-via-then-store-value+else-not-is_followed v ↦
                      choosing_kept_followed s.processors j s.known.cuts p a of given n x inside last
                      ((v.if-not-is_followed.ensures j tells).0 refl) i mine
                  | else-store-value-via-else-store-value v ↦
                      (let place = choosing_kept_place s.processors j s.known.cuts p a of given n i x last mine in
                      let kept = (choosing_kept_store s.processors j s.known.cuts p a of given n x inside last).does in
                      v.if-store-value.false (answering_kept_value j i n a x.value c.args.value
                      (subst (λ m. Does j m n (Store a x.value)) place kept) stored))
                ])
            | in_default w ↦
                choosing_kept_nothing s.processors j s.known.cuts p a of given n
                (subst (IsLastKeptInPastOf j p (of n)) w.in_default.is told) i mine
          ])
      | inr isnt ↦ c.loop-by.invariant j tells q i (omega arith) latest does
    ]

pub returns : goal.returns
returns c = λ j tells. (
  λ wrong. absurd (false≢true wrong),
  λ h. (let below = tells.processors h.1 (event h.0 (Store c.args.address c.args.value)) h.3 in
      let over = c.loop-by-test.false in
      absurd (c.loop-by.invariant j tells h.0 h.1 (omega arith) h.2 h.3)),
)
