use Rattle.std.proofs.Common.{◌≡◌, inl, inr, false, Option, Some, MatchOption, subst, sym, ◌∙◌, arith}
use Rattle.std.specs.Prelude.{None, is_some}
use Rattle.std.proofs.lemmas.Bool.{cases_eq, false≢true}
use Rattle.journal.specs.declared.event.Kind.TheVariants.{Store}
use Rattle.journal.specs.DidEvent.{event}
use Rattle.judge.specs.declared.kept_store.KeptStore.{KeptStore}
use Rattle.judge.specs.StoresInPasts.{IsLatestInPast}
use Rattle.judge.proofs.kept_stores.KeptStores.has_latest.Goals as goal

-- what is so where there is none
nothing : (o : Option KeptStore) (P : Type 0) (Q : KeptStore → Type 0) → is_some o ≡ false → MatchOption o P Q → P
nothing None P Q is h = h
nothing (Some x) P Q is h = absurd (false≢true (sym is))

pub loop-by-preserved : goal.loop-by-preserved
loop-by-preserved c = λ j tells q i lt latest.
    let p = c.args.processor in
    let a = c.args.address in
    let n = c.loop-by.by in
    elim (cases_eq q n) [
      | inl same ↦ nothing c.latest_by.result _ _ (sym c.is_some.ensures ∙ c.if-is_some.false) (c.latest_by.ensures j tells) i
          (subst (λ r. IsLatestInPast j p a r i) same latest)
      | inr isnt ↦ c.loop-by.invariant j tells q i (omega arith) latest
    ]

pub returns : goal.returns
returns c = λ j tells. (
  λ wrong. absurd (false≢true wrong),
  λ h. (let below = tells.processors h.1 (event h.0 (Store c.args.address h.2.value)) h.2.does in
      let over = c.loop-by-test.false in
      absurd (c.loop-by.invariant j tells h.0 h.1 (omega arith) h.2)),
)
