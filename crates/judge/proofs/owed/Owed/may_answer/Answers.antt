use Rattle.std.proofs.Common.{◌≡◌, suc, ◌≤◌, [], ◌∷◌, ◌++◌, List, Some, length, replicate, slice_get, take, subst, sym, arith, length-append}
use Rattle.std.proofs.lemmas.List.{take_all}
use Rattle.std.proofs.Math.Seq.{take-append_seam}
use Rattle.journal.specs.declared.event.Event.{Event}
use Rattle.journal.specs.declared.event.Kind.TheVariants.{Load}
use Rattle.journal.specs.DidEvent.{event}
use Rattle.journal.specs.Sizes.{addresses}
use Rattle.journal.specs.Races.{RaceFree}
use Rattle.journal.specs.ReplayMemory.{memory_after}
use Rattle.judge.specs.Models.{IsModelAnswer}
use Rattle.judge.specs.Owed.{AreOwedBy, IsOwedRacy}
use Rattle.judge.proofs.FlatAnswers.{flat_answer_memory}
use Rattle.judge.proofs.Flattening.{flattened_found}
use Rattle.judge.proofs.owed.Owed.may_answer.Goals as goal

-- all events up to and with the last one
whole : (j : List Event) (e : Event) → take (suc (length j)) (j ++ e ∷ []) ≡ j ++ e ∷ []
whole j e =
    let long = length-append j (e ∷ []) in
    let le : length (j ++ e ∷ []) ≤ suc (length j) = omega arith in
    take_all (suc (length j)) (j ++ e ∷ []) le

pub returns-then-is_racy : goal.returns-then-is_racy
returns-then-is_racy c = λ m s j owed few within racy.
    let a = c.args.address in
    let v = c.args.value in
    let e = event c.args.processor (Load a v) in
    let o = subst (AreOwedBy m s j) c.in-RaceFree.is owed in
    let none = subst (IsOwedRacy j e) c.if-is_racy.true racy in (
      λ yes_is. subst (λ x. IsModelAnswer x s (j ++ e ∷ []) (length j) a v) (sym o.0)
          (λ free. absurd (none (subst RaceFree (whole j e) free))),
      λ answer. c.if-is_racy.true,
    )

pub returns-else-is_racy : goal.returns-else-is_racy
returns-else-is_racy c = λ m s j owed few within racy.
    let p = c.args.processor in
    let a = c.args.address in
    let v = c.args.value in
    let e = event p (Load a v) in
    let o = subst (AreOwedBy m s j) c.in-RaceFree.is owed in
    let free = subst (IsOwedRacy j e) c.if-is_racy.false racy in
    let tells = c.has.ensures j (addresses s) o.1 within in
    let last = flattened_found (addresses s) j a within in
    let answers = flat_answer_memory j p a v free (addresses s) last.0 within last.1 in (
      λ yes_is. subst (λ x. IsModelAnswer x s (j ++ e ∷ []) (length j) a v) (sym o.0) (λ so. answers.0 (tells.0 yes_is)),
      λ answer. tells.1 (answers.1
          (subst (λ x. IsModelAnswer x s (j ++ e ∷ []) (length j) a v) o.0 answer (subst RaceFree (sym (whole j e)) free))),
    )

pub returns-in-Sequential : goal.returns-in-Sequential
returns-in-Sequential c = λ m s j owed few within racy.
    let a = c.args.address in
    let v = c.args.value in
    let e = event c.args.processor (Load a v) in
    let o = subst (AreOwedBy m s j) c.in-Sequential.is owed in
    let tells = c.has-in-Sequential.ensures j (addresses s) o.1 within in
    let P : List Event → Type 0 = λ xs. slice_get (memory_after (replicate (addresses s) 0) xs) a ≡ Some v in
    let front = take-append_seam j (e ∷ []) in (
      λ yes_is. subst (λ x. IsModelAnswer x s (j ++ e ∷ []) (length j) a v) (sym o.0) (subst P (sym front) (tells.0 yes_is)),
      λ answer. tells.1 (subst P front (subst (λ x. IsModelAnswer x s (j ++ e ∷ []) (length j) a v) o.0 answer)),
    )
