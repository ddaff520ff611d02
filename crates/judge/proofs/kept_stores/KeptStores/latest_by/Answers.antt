use Rattle.std.proofs.Common.{ℕ, MatchOption, Option, subst, sym, refl}
use Rattle.std.proofs.lemmas.Bool.{false≢true}
use Rattle.journal.specs.declared.event.Kind.TheVariants.{Store}
use Rattle.journal.specs.WellFormed.{Does}
use Rattle.judge.specs.declared.kept_store.KeptStore.{KeptStore}
use Rattle.judge.specs.KeptInPasts.{IsLastKeptInPastOf}
use Rattle.judge.specs.KeptStores.{kept_stores_of}
use Rattle.judge.specs.StoresInPasts.{IsLatestInPast}
use Rattle.judge.proofs.kept_stores.ChoosingKept.{choosing_kept_followed, choosing_kept_given, choosing_kept_latest, choosing_kept_nothing, choosing_kept_store}
use Rattle.judge.proofs.kept_stores.KeptStores.latest_by.Goals as goal

pub returns-in_err-store : goal.returns-in_err-store
returns-in_err-store c = λ j tells.
    let s = c.args.self.now in
    let p = c.args.processor in
    let a = c.args.address in
    let q = c.args.by in
    let of = kept_stores_of s a in
    let given = choosing_kept_given j s p a tells c.requires.processor in
    let none = subst (IsLastKeptInPastOf j p (of q)) c.in_err-store.was (c.last_store.ensures j tells) in
    subst (λ (o : Option KeptStore). MatchOption o ((i : ℕ) → ¬ IsLatestInPast j p a q i)
    (λ x. IsLatestInPast j p a q x.place × Does j x.place q (Store a x.value))) (sym c.from_residual.ensures)
    (choosing_kept_nothing s.processors j s.known.cuts p a of given q none)

pub returns-then-is_followed : goal.returns-then-is_followed
returns-then-is_followed c = λ j tells.
    let s = c.args.self.now in
    let p = c.args.processor in
    let a = c.args.address in
    let given = choosing_kept_given j s p a tells c.requires.processor in
    choosing_kept_followed s.processors j s.known.cuts p a (kept_stores_of s a) given c.args.by c.in_ok-store.store c.requires.by
    (c.in_ok-store.ensures j tells) ((c.if-is_followed.ensures j tells).0 refl)

pub returns-else-is_followed : goal.returns-else-is_followed
returns-else-is_followed c = λ j tells.
    let s = c.args.self.now in
    let p = c.args.processor in
    let a = c.args.address in
    let of = kept_stores_of s a in
    let given = choosing_kept_given j s p a tells c.requires.processor in
    let x = c.in_ok-store.store in
    let last = c.in_ok-store.ensures j tells in (
      choosing_kept_latest s.processors j s.known.cuts p a of given c.args.by x c.requires.by last
          (λ f. false≢true ((c.if-is_followed.ensures j tells).1 f)),
      (choosing_kept_store s.processors j s.known.cuts p a of given c.args.by x c.requires.by last).does,
    )
