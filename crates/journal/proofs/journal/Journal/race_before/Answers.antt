use Rattle.std.proofs.Common.{◌≡◌, ℕ, ◌+◌, ◌-◌, ◌==◌, ◌⊎◌, ◌≢◌, cond, take, sym, subst, arith}
use Rattle.std.proofs.Common.{inl, inr, arith}
use Rattle.std.proofs.lemmas.Bool.{cases_eq}
use Rattle.std.proofs.lemmas.Bool.Decides.{nat_tests}
use Rattle.std.proofs.lemmas.Grind.{common_steps}
use Rattle.journal.specs.declared.journal.Journal.TheInside.{Inside}
use Rattle.journal.specs.JournalInvariant.{journal_invariant_log}
use Rattle.journal.specs.Log.{Log}
use Rattle.journal.specs.RacesFromBase.{RaceFreeFromBase, IsFirstRaceFromBase}
use Rattle.journal.proofs.FromBase.OpeningAsBase.{opening_as_base_race_free, opening_as_base_first_race}
use Rattle.journal.proofs.Journals.JournalMemory.{journal_memory_processors_part, journal_memory_addresses_part, journal_memory_addresses_in_base, journal_memory_checked}
use Rattle.journal.proofs.journal.Journal.race_before.Goals as goal

-- where the checked events begin
begins : (j : Inside) (log : Log) → journal_invariant_log j ≡ log → (first : ℕ) → first ≡ cond (log.base.cut == 0) log.processors 0
    → ((j.kept.cut ≡ 0) × (first ≡ j.processors)) ⊎ ((j.kept.cut ≢ 0) × (first ≡ 0))
begins j log is first e =
    let here : first ≡ cond (j.kept.cut == 0) j.processors 0 =
    subst (λ (l : Log). first ≡ cond (l.base.cut == 0) l.processors 0) (sym is) e in
    elim (cases_eq j.kept.cut 0) [
      | inl none ↦ inl (none, grind (arith, nat_tests))
      | inr some ↦ inr (some, grind (arith, nat_tests))
    ]

pub first_race_of-requires-clause-addresses : goal.first_race_of-requires-clause-addresses
first_race_of-requires-clause-addresses c =
    rw c.deref.ensures.value (journal_memory_addresses_part c.self.inside.addresses c.first-first.result
    (c.self.inside.processors + c.args.count - c.first-first.result) c.self.inside.events.items
    c.self.invariant.in_range)

pub first_race_of-requires-clause-processors : goal.first_race_of-requires-clause-processors
first_race_of-requires-clause-processors c =
    rw c.deref.ensures.value (journal_memory_processors_part c.self.inside.processors c.first-first.result
    (c.self.inside.processors + c.args.count - c.first-first.result) c.self.inside.events.items
    c.self.invariant.by_processors)

pub returns-in_err-first-clause-in_range : goal.returns-in_err-first-clause-in_range
returns-in_err-first-clause-in_range c = journal_memory_addresses_in_base c.self.inside c.self.invariant c.args.self.now c.self.view_is

pub returns-in-Some-clause-in_range : goal.returns-in-Some-clause-in_range
returns-in-Some-clause-in_range c = journal_memory_addresses_in_base c.self.inside c.self.invariant c.args.self.now c.self.view_is

pub returns-in-None-clause-in_range : goal.returns-in-None-clause-in_range
returns-in-None-clause-in_range c = journal_memory_addresses_in_base c.self.inside c.self.invariant c.args.self.now c.self.view_is

pub returns-in-None-clause-race : goal.returns-in-None-clause-race
returns-in-None-clause-race c =
    let j = c.self.inside in
    let here =
    journal_memory_checked j c.self.invariant c.first-first.result c.args.count c.deref.result.now c.deref.ensures.value (begins j
    c.args.self.now c.self.view_is c.first-first.result c.first-first.ensures.value) in
    let none = rw c.in-None.is at c.in_ok-first.ensures in
    subst (λ (l : Log). RaceFreeFromBase l.base (take c.args.count l.events)) c.self.view_is (opening_as_base_race_free _ _ _ _ here none)

pub overflow_sub-result : goal.overflow_sub-result
overflow_sub-result c =
    let j = c.self.inside in
    let here =
    journal_memory_checked j c.self.invariant c.first-first.result c.args.count c.deref.result.now c.deref.ensures.value (begins j
    c.args.self.now c.self.view_is c.first-first.result c.first-first.ensures.value) in
    let some = rw c.in-Some.is at c.in_ok-first.ensures in
    (opening_as_base_first_race _ _ _ _ here _ _ some).0

pub overflow_sub-result-in-Some : goal.overflow_sub-result-in-Some
overflow_sub-result-in-Some c =
    let j = c.self.inside in
    let here =
    journal_memory_checked j c.self.invariant c.first-first.result c.args.count c.deref.result.now c.deref.ensures.value (begins j
    c.args.self.now c.self.view_is c.first-first.result c.first-first.ensures.value) in
    let some = rw c.in-Some.is at c.in_ok-first.ensures in
    (opening_as_base_first_race _ _ _ _ here _ _ some).1

pub returns-in-Some-clause-race : goal.returns-in-Some-clause-race
returns-in-Some-clause-race c =
    let j = c.self.inside in
    let size = j.processors - c.first-first.result in
    let here =
    journal_memory_checked j c.self.invariant c.first-first.result c.args.count c.deref.result.now c.deref.ensures.value (begins j
    c.args.self.now c.self.view_is c.first-first.result c.first-first.ensures.value) in
    let some = rw c.in-Some.is at c.in_ok-first.ensures in
    subst (λ (l : Log). IsFirstRaceFromBase l.base (take c.args.count l.events) (c.in-Some.first - size)
    (c.in-Some.second - size))
    c.self.view_is (opening_as_base_first_race _ _ _ _ here _ _ some).2

pub first_race_of-requires-clause-few : goal.first_race_of-requires-clause-few
first_race_of-requires-clause-few c = grind (arith, common_steps)

pub overflow_add-events : goal.overflow_add-events
overflow_add-events c = grind (arith, common_steps)
