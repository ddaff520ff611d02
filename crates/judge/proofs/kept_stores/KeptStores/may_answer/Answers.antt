use Rattle.std.proofs.Common.{◌↔◌, ℕ, inl, inr, Bool, true, false, refl}
use Rattle.std.specs.Prelude.{IsTrue, not}
use Rattle.std.proofs.lemmas.Bool.{eqb-true, false≢true}
use Rattle.journal.specs.declared.event.Kind.TheVariants.{Store}
use Rattle.journal.specs.WellFormed.{Does}
use Rattle.judge.specs.StoresInPasts.{IsLatestInPast}
use Rattle.judge.proofs.kept_stores.AnsweringKept.{answering_kept_found, answering_kept_none, answering_kept_one, answering_kept_other}
use Rattle.judge.proofs.kept_stores.KeptStores.may_answer.Goals as goal

pub returns-then-has_latest_of : goal.returns-then-has_latest_of
returns-then-has_latest_of c = λ j tells. (
  λ _. (let h = (c.if-has_latest_of.ensures j tells).0 refl in
      answering_kept_one j c.args.processor c.args.address c.args.value h.0 h.1 h.2 h.3),
  λ _. refl,
)

-- where the one excludes the other, and is the only thing that does
excludes : {H A : Type 0} (b : Bool) → (IsTrue b ↔ H) → (H → ¬ A) → ((¬ H) → A) → IsTrue (not b) ↔ A
excludes true is never always = ((λ wrong. absurd (false≢true wrong)), (λ a. absurd (never (is.0 refl) a)))
excludes false is never always = ((λ _. always (λ h. false≢true (is.1 h))), (λ _. refl))

pub returns-then-value-eq0 : goal.returns-then-value-eq0
returns-then-value-eq0 c = λ j tells.
    let p = c.args.processor in
    let a = c.args.address in
    let v = c.args.value in
    let others : (r m : ℕ) → IsLatestInPast j p a r m → ¬ Does j m r (Store a v) = λ r m l does. false≢true ((c.if-has_latest_of.ensures j tells).1 (r, m, l, does)) in
    excludes c.has_latest.result (c.has_latest.ensures j tells)
    (λ h. answering_kept_other j p a v h.0 h.1 h.2 others)
    (λ none. (answering_kept_none j p a v (λ q i l. none (q, i, l))).1 c.if-value-eq0.true)

pub returns-else-value-eq0 : goal.returns-else-value-eq0
returns-else-value-eq0 c = λ j tells. (
  λ wrong. absurd (c.if-value-eq0.false (eqb-true c.args.value 0 wrong)),
  λ answer. elim answer [
    | inl untouched ↦ absurd (c.if-value-eq0.false untouched.0)
    | inr l ↦
        (let found = answering_kept_found j c.args.processor c.args.address c.args.value l in
        absurd (false≢true ((c.if-has_latest_of.ensures j tells).1 (l.by, l.place, found.0, found.1))))
  ],
)
