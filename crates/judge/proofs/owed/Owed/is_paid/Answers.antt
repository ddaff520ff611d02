use Rattle.std.proofs.Common.{◌≡◌, ℕ, [], ◌∷◌, ◌++◌, List, length, subst, sym, ◌∙◌}
use Rattle.journal.specs.declared.event.Event.{Event}
use Rattle.journal.specs.declared.event.Kind.{Kind}
use Rattle.journal.specs.declared.event.Kind.TheVariants.{Load}
use Rattle.journal.specs.DidEvent.{event}
use Rattle.journal.specs.Sizes.{Sizes}
use Rattle.journal.specs.WellFormed.{WellFormedKindInRange}
use Rattle.judge.specs.declared.models.MemoryModel.{MemoryModel}
use Rattle.judge.specs.Models.{IsModelAnswer}
use Rattle.judge.specs.Owed.{IsOwedRacy}
use Rattle.judge.proofs.owed.Owed.is_paid.Goals as goal

address_same : (a v b w : ℕ) → Load a v ≡ Load b w → a ≡ b
address_same a v b w is = cc

value_same : (a v b w : ℕ) → Load a v ≡ Load b w → v ≡ w
value_same a v b w is = cc

-- what the load owes is what a load of this address and value owes
one_load : (m : MemoryModel) (s : Sizes) (j : List Event) (p a v : ℕ) (k : Kind) → k ≡ Load a v
    → IsModelAnswer m s (j ++ event p (Load a v) ∷ []) (length j) a v
    → (b w : ℕ) → k ≡ Load b w → IsModelAnswer m s (j ++ event p k ∷ []) (length j) b w
one_load m s j p a v k is answer b w same =
    let both = sym is ∙ same in
    subst (λ x. IsModelAnswer m s (j ++ event p k ∷ []) (length j) x w) (address_same a v b w both)
    (subst (λ x. IsModelAnswer m s (j ++ event p k ∷ []) (length j) a x) (value_same a v b w both)
    (subst (λ x. IsModelAnswer m s (j ++ event p x ∷ []) (length j) a v) (sym is) answer))

pub returns-in-Load : goal.returns-in-Load
returns-in-Load c = λ m s j owed within racy.
    let p = c.args.event.processor in
    let k = c.args.event.kind in
    let a = c.in-Load.address in
    let v = c.in-Load.value in
    let lt = subst (WellFormedKindInRange s) c.in-Load.is within.kind in
    let tells = c.may_answer.ensures m s j owed within.processor lt
    (subst (λ x. IsOwedRacy j (event p x) c.args.is_racy) c.in-Load.is racy) in (
      λ yes_is. one_load m s j p a v k c.in-Load.is (tells.0 yes_is),
      λ all. tells.1 (subst (λ x. IsModelAnswer m s (j ++ event p x ∷ []) (length j) a v) c.in-Load.is (all a v c.in-Load.is)),
    )
