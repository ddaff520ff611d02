use Rattle.std.proofs.Common.{ℕ, suc, ◌≡◌, ◌≤◌, ◌∷◌, ◌++◌, [], Bool, List, true, false, length, take, subst, sym, refl, ◌∙◌, arith, length-append}
use Rattle.std.proofs.lemmas.List.{take_all}
use Rattle.std.proofs.lemmas.Bool.{false≢true}
use Rattle.journal.specs.declared.event.Event.{Event}
use Rattle.journal.specs.DidEvent.{event}
use Rattle.journal.specs.Races.{RaceFree}
use Rattle.journal.specs.Sizes.{Sizes}
use Rattle.journal.specs.WellFormed.{WellFormedKindInRange}
use Rattle.judge.specs.Models.{IsModelAnswer}
use Rattle.judge.specs.declared.models.MemoryModel.{MemoryModel}
use Rattle.judge.specs.declared.models.MemoryModel.TheVariants as model
use Rattle.judge.specs.Owed.{IsOwedRacy, PermitsOwed}
use Rattle.judge.specs.JudgedSizes.{judged_sizes_of}
use Rattle.lrc_check.proofs.LyingTraces.{lying_same_load}
use Rattle.lrc_check.proofs.trace_judge.TraceJudge.unexplained.Goals as goal

-- all events up to and with the last one
whole : (j : List Event) (e : Event) → take (suc (length j)) (j ++ e ∷ []) ≡ j ++ e ∷ []
whole j e =
    let long = length-append j (e ∷ []) in
    let le : length (j ++ e ∷ []) ≤ suc (length j) = omega arith in
    take_all (suc (length j)) (j ++ e ∷ []) le

-- a load that lies under race-free has no race
free_of_races : (m : MemoryModel) (s : Sizes) (j : List Event) (e : Event) (racy : Bool) (a v : ℕ) → IsOwedRacy j e racy
    → ¬ IsModelAnswer m s (j ++ e ∷ []) (length j) a v → m ≡ model.RaceFree → RaceFree (j ++ e ∷ [])
free_of_races m s j e false a v free wrong same = free
free_of_races m s j e true a v raced wrong same =
    absurd (wrong (subst (λ x. IsModelAnswer x s (j ++ e ∷ []) (length j) a v) (sym same)
    (λ free. absurd (raced (subst RaceFree (whole j e) free)))))

pub is_paid-requires : goal.is_paid-requires
is_paid-requires c =
    let x = c.args.self.now in
    let next = c.requires.1 in (x.model, judged_sizes_of x.sizes, c.requires.0, next.judged.owed, next.within)

pub permitted-requires : goal.permitted-requires
permitted-requires c =
    let x = c.args.self.now in
    let next = c.requires.1 in
    let s = judged_sizes_of x.sizes in (
      x.model,
      s,
      c.requires.0,
      next.judged.owed,
      next.within.processor,
      subst (WellFormedKindInRange s) c.in-Load.is next.within.kind,
    )

pub returns-then-is_paid : goal.returns-then-is_paid
returns-then-is_paid c = λ j next.
    let x = c.args.self.now in
    let paid = c.if-is_paid.ensures x.model (judged_sizes_of x.sizes) j next.judged.owed next.within next.racy_is in
    paid.0 refl

pub returns : goal.returns
returns c = λ j next.
    let x = c.args.self.now in
    let s = judged_sizes_of x.sizes in
    let e = c.args.event in
    let a = c.in-Load.address in
    let v = c.in-Load.field-1 in
    let paid = c.if-is_paid.ensures x.model s j next.judged.owed next.within next.racy_is in
    let wrong : ¬ IsModelAnswer x.model s (j ++ e ∷ []) (length j) a v =
    (λ owed. false≢true (paid.1 (λ b w is.
    lying_same_load (IsModelAnswer x.model s (j ++ e ∷ []) (length j)) a v b w (sym c.in-Load.is ∙ is) owed))) in
    let free = free_of_races x.model s j e c.args.is_racy a v next.racy_is wrong in
    record {
      address = a;
      value = v;
      loads = c.in-Load.is;
      place = sym next.place_is;
      wrong = wrong;
      permitted =
          subst (λ k. PermitsOwed x.model (j ++ event e.processor k ∷ []) (length j) a c.in_ok-permitted.permitted) (sym c.in-Load.is)
          (c.in_ok-permitted.ensures x.model s j next.judged.owed next.within.processor
          (subst (WellFormedKindInRange s) c.in-Load.is next.within.kind) v
          (λ same. subst (λ k. RaceFree (j ++ event e.processor k ∷ [])) c.in-Load.is (free same)));
    }
