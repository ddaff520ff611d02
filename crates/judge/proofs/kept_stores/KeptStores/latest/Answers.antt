use Rattle.std.proofs.Common.{◌+◌, ℕ, Option, MatchOption, subst, sym, arith}
use Rattle.std.specs.Global.{Vec}
use Rattle.journal.specs.declared.event.Kind.TheVariants.{Store}
use Rattle.journal.specs.DidEvent.{event}
use Rattle.journal.specs.WellFormed.{Does}
use Rattle.judge.specs.declared.flat_memory.FlatStore.{FlatStore}
use Rattle.judge.specs.declared.kept_store.KeptStore.{KeptStore}
use Rattle.judge.specs.StoresInPasts.{IsLatestInPast}
use Rattle.judge.proofs.kept_stores.AnsweringKept.{answering_kept_stores, answering_kept_stores_of}
use Rattle.judge.proofs.kept_stores.FoundLatest.{AreFoundLatest, found_latest_next, found_latest_none}
use Rattle.judge.proofs.kept_stores.KeptStores.latest.Goals as goal
use Rattle.judge.proofs.kept_stores.KeptStores.latest.Goals.{in-Some+in_ok-push, in_default}

pub loop-by-preserved : goal.loop-by-preserved
loop-by-preserved c = λ j tells.
    let p = c.args.processor in
    let a = c.args.address in
    let n = c.loop-by.by in
    let old = c.loop-by.latest.items in
    let were = c.loop-by.invariant j tells in
    let Told : Option KeptStore → Type 0 = λ o. MatchOption o ((i : ℕ) → ¬ IsLatestInPast j p a n i)
    (λ x. IsLatestInPast j p a n x.place × Does j x.place n (Store a x.value)) in
    let told : Told c.latest_by.result = c.latest_by.ensures j tells in
    elim c.match-latest_by.branch [
      | in-Some+in_ok-push w ↦
          (let x = w.in-Some.field-0 in
          let found = subst Told w.in-Some.is told in
          subst (λ (v : Vec FlatStore). AreFoundLatest j p a (n + 1) v.items) (sym w.latest-is)
          (subst (AreFoundLatest j p a (n + 1)) (sym w.in_ok-push.ensures.items)
          (found_latest_next j p a n x.place x.value old found.0 found.1 were)))
      | in_default w ↦
          subst (λ (v : Vec FlatStore). AreFoundLatest j p a (n + 1) v.items) (sym w.latest-is)
          (found_latest_none j p a n old (subst Told w.in_default.is told) were)
    ]

pub returns : goal.returns
returns c = λ j tells w.
    let p = c.args.processor in
    let a = c.args.address in
    let are = c.loop-by.invariant j tells in
    record {
      has = λ x. (
        λ h. (let f = (are.has x).0 h in answering_kept_stores_of j p a w x f.is f.does),
        λ l. (let both = answering_kept_stores j p a w x l in
            let below = tells.processors x.place (event x.by (Store a x.value)) both.1 in
            let over = c.loop-by-test.false in
            (are.has x).1 (record { below = omega arith; is = both.0; does = both.1 })),
      );
      order = are.order;
    }
