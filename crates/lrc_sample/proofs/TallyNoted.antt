-- A tally of one run more.
use Rattle.std.proofs.Common.{◌≡◌, ◌≢◌, ◌∙◌, ◌+◌, ◌<◌, ◌≤◌, ℕ, inl, inr, zero, suc, Bool, true, false, cond, List, [], ◌∷◌, ◌++◌, Some, Option, length, slice_get, slice_set, slice_index_or, ap, sym, subst, refl, arith}
use Rattle.std.specs.List.{sum_by}
use Rattle.std.proofs.lemmas.Bool.{cases_eq}
use Rattle.std.proofs.lemmas.Option.{none-some, same_Some, slice_get-get_or, slice_get_within}
use Rattle.std.proofs.lemmas.List.{length-append}
use Rattle.std.proofs.lemmas.List.Sums.{sum_by-set, sum_by_push, get_or-le-sum_by}
use Rattle.base.specs.InOrderOnce.{Has}
use Rattle.base.proofs.SlicesAndCounts.{slice_push_cases, slice_get-last}
use Rattle.base.proofs.JoinedLists.{joined_list_in_order-append, joined_list_in_order_single}
use Rattle.base.proofs.SliceSets.{slice_get-set_found, slice_get-set_other, slice_get-set_same}
use Rattle.conformance.specs.declared.schedule.Schedule.{Schedule}
use Rattle.lrc_sample.specs.declared.outcome.SampleOutcome.{SampleOutcome}
use Rattle.lrc_sample.specs.declared.tally.TallyLine.{TallyLine}
use Rattle.lrc_sample.specs.Tally.{IsTallyShown, IsTallyOfOutcome, TallyCountsOutcomes, tally_counts_of_kind, tally_place_of_seed, tally_times_of, tally_times_of_kind}
use Rattle.lrc_sample.specs.TallyOrder.{IsTallyOrderAsSeen, IsTallyOrderStarted}
use Rattle.lrc_sample.proofs.TallyLines.{tally_line_counted, tally_line_again, tally_line_new, tally_line_other_outcome, tally_line_runs_before, tally_line_stays}

-- what a line was before one of them counted one run more
record WasTallyNotedLine (lines : List TallyLine) (j : ℕ) (a : TallyLine) : Type 0 where
  line : TallyLine
  at : slice_get lines j ≡ Some line
  outcome : line.outcome ≡ a.outcome
  seed : line.seed ≡ a.seed

tally_noted_line_was : (lines : List TallyLine) (k : ℕ) (line : TallyLine) → slice_get lines k ≡ Some line → (j : ℕ) (a : TallyLine)
    → slice_get (slice_set lines k (tally_line_counted line)) j ≡ Some a → WasTallyNotedLine lines j a
tally_noted_line_was lines k line at j a has = elim (cases_eq j k) [
  | inl is ↦
      (let same : tally_line_counted line ≡ a = slice_get-set_found lines k (tally_line_counted line) a (subst (λ n. slice_get (slice_set lines k (tally_line_counted line)) n ≡ Some a) is has) in
      record {
        line = line;
        at = ap (slice_get lines) is ∙ at;
        outcome = ap (λ (x : TallyLine). x.outcome) same;
        seed = ap (λ (x : TallyLine). x.seed) same;
      })
  | inr isnt ↦ record {
    line = a;
    at = sym (slice_get-set_other lines k j (tally_line_counted line) isnt) ∙ has;
    outcome = refl;
    seed = refl;
  }
]

-- and a line of an outcome is still there
tally_noted_line_becomes : (lines : List TallyLine) (k : ℕ) (line : TallyLine) → slice_get lines k ≡ Some line → (j : ℕ) (a : TallyLine)
    → slice_get lines j ≡ Some a
    → (b : TallyLine) × (Has (slice_set lines k (tally_line_counted line)) b × (b.outcome ≡ a.outcome))
tally_noted_line_becomes lines k line at j a has = elim (cases_eq j k) [
  | inl is ↦
      (let same : line ≡ a = same_Some line a (sym at ∙ ap (slice_get lines) (sym is) ∙ has) in
      (tally_line_counted line, ((k, slice_get-set_same lines k (tally_line_counted line) (slice_get_within lines k line at)), ap (λ (x : TallyLine). x.outcome) same)))
  | inr isnt ↦ (a, ((j, slice_get-set_other lines k j (tally_line_counted line) isnt ∙ has), refl))
]

-- the item that is there
pub tally_noted_item_at : (lines : List TallyLine) (k : ℕ) (line d : TallyLine) → slice_get lines k ≡ Some line
    → slice_index_or lines k d ≡ line
tally_noted_item_at lines k line d at =
    same_Some _ _ (sym (slice_get-get_or lines k d (slice_get_within lines k line at)) ∙ at)

-- no line counts more than all of them
pub tally_noted_times_few : (lines : List TallyLine) (k : ℕ) (line : TallyLine) → slice_get lines k ≡ Some line
    → line.times ≤ sum_by tally_times_of lines
tally_noted_times_few lines k line at =
    let few = get_or-le-sum_by tally_times_of lines k line (slice_get_within lines k line at) in
    let is = ap tally_times_of (tally_noted_item_at lines k line line at) in
    omega (arith, few, is)

-- what one more run of a line counts in a kind of outcomes
tally_noted_kind_counted : (kind : SampleOutcome → Bool) (line : TallyLine) (o : SampleOutcome) → line.outcome ≡ o
    → tally_times_of_kind kind (tally_line_counted line) ≡ tally_times_of_kind kind line + tally_counts_of_kind kind o
tally_noted_kind_counted kind line o same =
    counted (kind line.outcome) ∙ ap (λ x. cond (kind line.outcome) line.times 0 + cond (kind x) 1 0) same
  where
    counted : (b : Bool) → cond b (line.times + 1) 0 ≡ cond b line.times 0 + cond b 1 0
    counted true = refl
    counted false = refl

-- a run that came to what the line at k has
pub tally_noted_again : (os : List SampleOutcome) (lines : List TallyLine) (o : SampleOutcome) (k : ℕ) (line : TallyLine)
    → slice_get lines k ≡ Some line → line.outcome ≡ o → TallyCountsOutcomes os lines
    → TallyCountsOutcomes (os ++ o ∷ []) (slice_set lines k (tally_line_counted line))
tally_noted_again os lines o k line at same is = record { each = each; once = once; all = all; sum = sum; kinds = kinds }
  where
    each : (a : TallyLine) → Has (slice_set lines k (tally_line_counted line)) a → IsTallyOfOutcome (os ++ o ∷ []) a
    each a (j, has) = elim (cases_eq j k) [
      | inl here ↦
          (let now : tally_line_counted line ≡ a = slice_get-set_found lines k (tally_line_counted line) a (subst (λ n. slice_get (slice_set lines k (tally_line_counted line)) n ≡ Some a) here has) in
          subst (IsTallyOfOutcome (os ++ o ∷ [])) now (tally_line_again os o line same (is.each line (k, at))))
      | inr there ↦
          (let old : slice_get lines j ≡ Some a = sym (slice_get-set_other lines k j (tally_line_counted line) there) ∙ has in
          tally_line_other_outcome os o a (λ e. there (is.once j k a line old at (e ∙ sym same))) (is.each a (j, old)))
    ]

    once : (i j : ℕ) (a b : TallyLine) → slice_get (slice_set lines k (tally_line_counted line)) i ≡ Some a
        → slice_get (slice_set lines k (tally_line_counted line)) j ≡ Some b → a.outcome ≡ b.outcome → i ≡ j
    once i j a b first second e =
        let x = tally_noted_line_was lines k line at i a first in
        let y = tally_noted_line_was lines k line at j b second in
        is.once i j x.line y.line x.at y.at (x.outcome ∙ e ∙ sym y.outcome)

    all : (x : SampleOutcome) → Has (os ++ o ∷ []) x
        → (b : TallyLine) × (Has (slice_set lines k (tally_line_counted line)) b × (b.outcome ≡ x))
    all x (i, has) = elim (slice_push_cases os o i x has) [
      | inl old ↦
          (let r = is.all x (i, old.1) in
          let b = tally_noted_line_becomes lines k line at r.1.0.0 r.0 r.1.0.1 in
          (b.0, (b.1.0, b.1.1 ∙ r.1.1)))
      | inr new ↦
          (let b = tally_noted_line_becomes lines k line at k line at in
          (b.0, (b.1.0, b.1.1 ∙ same ∙ new.1)))
    ]

    sum : sum_by tally_times_of (slice_set lines k (tally_line_counted line)) ≡ length (os ++ o ∷ [])
    sum =
        let set = sum_by-set tally_times_of lines k (tally_line_counted line) line (slice_get_within lines k line at) in
        let it = ap tally_times_of (tally_noted_item_at lines k line line at) in
        omega (arith, set, it, is.sum, length-append os (o ∷ []))

    kinds : (kind : SampleOutcome → Bool)
        → sum_by (tally_times_of_kind kind) (slice_set lines k (tally_line_counted line)) ≡ sum_by (tally_counts_of_kind kind) (os ++ o ∷ [])
    kinds kind =
        let set = sum_by-set (tally_times_of_kind kind) lines k (tally_line_counted line) line (slice_get_within lines k line at) in
        let it = ap (tally_times_of_kind kind) (tally_noted_item_at lines k line line at) in
        omega (arith, set, it, is.kinds kind, tally_noted_kind_counted kind line o same, sum_by_push (tally_counts_of_kind kind) os o)

-- it keeps the order of the first runs
tally_noted_seen_again : (lines : List TallyLine) (k : ℕ) (line : TallyLine) → slice_get lines k ≡ Some line → IsTallyOrderAsSeen lines
    → IsTallyOrderAsSeen (slice_set lines k (tally_line_counted line))
tally_noted_seen_again lines k line at seen i j a b less first second =
    let x = tally_noted_line_was lines k line at i a first in
    let y = tally_noted_line_was lines k line at j b second in
    let lt = seen i j x.line y.line less x.at y.at in
    omega (arith, lt, ap tally_place_of_seed x.seed, ap tally_place_of_seed y.seed)

-- the line that was found at k counts one run more
pub tally_noted_again_at : (os : List SampleOutcome) (lines : List TallyLine) (o : SampleOutcome) (k : ℕ) (d now : TallyLine)
    → now ≡ slice_index_or lines k d
    → ((line : TallyLine) × ((slice_get lines k ≡ Some line) × (line.outcome ≡ o))) → IsTallyOrderStarted os lines
    → IsTallyOrderStarted (os ++ o ∷ []) (slice_set lines k (tally_line_counted now))
tally_noted_again_at os lines o k d now read found is =
    let same : found.0 ≡ now = sym (tally_noted_item_at lines k found.0 d found.1.0) ∙ sym read in
    subst (λ l. IsTallyOrderStarted (os ++ o ∷ []) (slice_set lines k (tally_line_counted l))) same record {
      tally = tally_noted_again os lines o k found.0 found.1.0 found.1.1 is.tally;
      seen = tally_noted_seen_again lines k found.0 found.1.0 is.seen;
    }

-- so it doesn't count too many
pub tally_noted_few_at : (lines : List TallyLine) (o : SampleOutcome) (k : ℕ) (d now : TallyLine) → now ≡ slice_index_or lines k d
    → ((line : TallyLine) × ((slice_get lines k ≡ Some line) × (line.outcome ≡ o)))
    → now.times ≤ sum_by tally_times_of lines
tally_noted_few_at lines o k d now read found =
    let same = ap tally_times_of (sym (tally_noted_item_at lines k found.0 d found.1.0) ∙ sym read) in
    omega (arith, same, tally_noted_times_few lines k found.0 found.1.0)

-- the line of a first run
abbrev pub tally_noted_line : SampleOutcome → Option ℕ → Schedule → TallyLine
tally_noted_line o seed schedule = record { outcome = o; times = 1; seed = seed; schedule = schedule }

-- a run that came to what no line has
tally_noted_new : (os : List SampleOutcome) (lines : List TallyLine) (o : SampleOutcome) (seed : Option ℕ) (schedule : Schedule)
    → ((k : ℕ) (line : TallyLine) → slice_get lines k ≡ Some line → line.outcome ≢ o) → tally_place_of_seed seed ≡ length os
    → TallyCountsOutcomes os lines → TallyCountsOutcomes (os ++ o ∷ []) (lines ++ tally_noted_line o seed schedule ∷ [])
tally_noted_new os lines o seed schedule none place is = record { each = each; once = once; all = all; sum = sum; kinds = kinds }
  where
    unseen : ¬ Has os o
    unseen has = let r = is.all o has in none r.1.0.0 r.0 r.1.0.1 r.1.1

    each : (a : TallyLine) → Has (lines ++ tally_noted_line o seed schedule ∷ []) a → IsTallyOfOutcome (os ++ o ∷ []) a
    each a (j, has) = elim (slice_push_cases lines (tally_noted_line o seed schedule) j a has) [
      | inl old ↦ tally_line_other_outcome os o a (none j a old.1) (is.each a (j, old.1))
      | inr last ↦ subst (IsTallyOfOutcome (os ++ o ∷ [])) last.1 (tally_line_new os o seed schedule unseen place)
    ]

    once : (i j : ℕ) (a b : TallyLine) → slice_get (lines ++ tally_noted_line o seed schedule ∷ []) i ≡ Some a
        → slice_get (lines ++ tally_noted_line o seed schedule ∷ []) j ≡ Some b → a.outcome ≡ b.outcome → i ≡ j
    once i j a b first second e = elim (slice_push_cases lines (tally_noted_line o seed schedule) i a first) [
      | inl x ↦
          elim (slice_push_cases lines (tally_noted_line o seed schedule) j b second) [
            | inl y ↦ is.once i j a b x.1 y.1 e
            | inr y ↦ absurd (none i a x.1 (e ∙ sym (ap (λ (l : TallyLine). l.outcome) y.1)))
          ]
      | inr x ↦
          elim (slice_push_cases lines (tally_noted_line o seed schedule) j b second) [
            | inl y ↦ absurd (none j b y.1 (sym e ∙ sym (ap (λ (l : TallyLine). l.outcome) x.1)))
            | inr y ↦ x.0 ∙ sym y.0
          ]
    ]

    all : (x : SampleOutcome) → Has (os ++ o ∷ []) x → (b : TallyLine) × (Has (lines ++ tally_noted_line o seed schedule ∷ []) b × (b.outcome ≡ x))
    all x (i, has) = elim (slice_push_cases os o i x has) [
      | inl old ↦
          (let r = is.all x (i, old.1) in (r.0, ((r.1.0.0, tally_line_stays lines (tally_noted_line o seed schedule) r.1.0.0 r.0 r.1.0.1), r.1.1)))
      | inr last ↦ (tally_noted_line o seed schedule, ((length lines, slice_get-last lines (tally_noted_line o seed schedule)), last.1))
    ]

    sum : sum_by tally_times_of (lines ++ tally_noted_line o seed schedule ∷ []) ≡ length (os ++ o ∷ [])
    sum = omega (arith, sum_by_push tally_times_of lines (tally_noted_line o seed schedule), is.sum, length-append os (o ∷ []))

    kinds : (kind : SampleOutcome → Bool)
        → sum_by (tally_times_of_kind kind) (lines ++ tally_noted_line o seed schedule ∷ []) ≡ sum_by (tally_counts_of_kind kind) (os ++ o ∷ [])
    kinds kind =
        omega (arith, sum_by_push (tally_times_of_kind kind) lines (tally_noted_line o seed schedule), is.kinds kind, sum_by_push (tally_counts_of_kind kind) os o)

-- and it is seen last
tally_noted_seen_new : (os : List SampleOutcome) (lines : List TallyLine) (new : TallyLine) → tally_place_of_seed new.seed ≡ length os → IsTallyOrderStarted os lines
    → IsTallyOrderAsSeen (lines ++ new ∷ [])
tally_noted_seen_new os lines new place is =
    joined_list_in_order-append (λ (a b : TallyLine). tally_place_of_seed a.seed < tally_place_of_seed b.seed) lines (new ∷ []) is.seen
    (joined_list_in_order_single (λ (a b : TallyLine). tally_place_of_seed a.seed < tally_place_of_seed b.seed) new) before
  where
    before : (a b : TallyLine) → Has lines a → Has (new ∷ []) b → tally_place_of_seed a.seed < tally_place_of_seed b.seed
    before a b has (zero, at) =
        let line = is.tally.each a has in
        let lt = tally_line_runs_before os a (tally_place_of_seed a.seed) line (0, line.first) in
        let last = ap (λ (l : TallyLine). tally_place_of_seed l.seed) (same_Some new b at) in
        omega (arith, lt, last, place)
    before a b has (suc k, at) = absurd (none-some b at)

-- both
pub tally_noted_new_at : (os : List SampleOutcome) (lines : List TallyLine) (o : SampleOutcome) (seed : Option ℕ) (schedule : Schedule)
    → ((k : ℕ) (line : TallyLine) → slice_get lines k ≡ Some line → line.outcome ≢ o) → tally_place_of_seed seed ≡ length os
    → IsTallyOrderStarted os lines → IsTallyOrderStarted (os ++ o ∷ []) (lines ++ tally_noted_line o seed schedule ∷ [])
tally_noted_new_at os lines o seed schedule none place is = record {
  tally = tally_noted_new os lines o seed schedule none place is.tally;
  seen = tally_noted_seen_new os lines (tally_noted_line o seed schedule) place is;
}

-- the line that counts one run more keeps its schedule, and the runs before theirs
pub tally_noted_shown_again : (schedules : List (List ℕ)) (turns : List ℕ) (lines : List TallyLine) (o : SampleOutcome) (k : ℕ)
    (d now : TallyLine) → now ≡ slice_index_or lines k d
    → ((line : TallyLine) × ((slice_get lines k ≡ Some line) × (line.outcome ≡ o))) → IsTallyShown schedules lines
    → IsTallyShown (schedules ++ turns ∷ []) (slice_set lines k (tally_line_counted now))
tally_noted_shown_again schedules turns lines o k d now read found shown a (j, has) =
    tally_line_stays schedules turns (tally_place_of_seed a.seed) a.schedule.turns.items (elim (cases_eq j k) [
      | inl here ↦
          (let same : found.0 ≡ now = sym (tally_noted_item_at lines k found.0 d found.1.0) ∙ sym read in
          let is : tally_line_counted now ≡ a = slice_get-set_found lines k (tally_line_counted now) a
          (subst (λ n. slice_get (slice_set lines k (tally_line_counted now)) n ≡ Some a) here has) in
          let P : TallyLine → Type 0 = λ l. slice_get schedules (tally_place_of_seed l.seed) ≡ Some l.schedule.turns.items in
          let was : P now = subst P same (shown found.0 (k, found.1.0)) in
          subst P is was)
      | inr there ↦ shown a (j, sym (slice_get-set_other lines k j (tally_line_counted now) there) ∙ has)
    ])

-- the line of a first run has that run's
pub tally_noted_shown_new : (schedules : List (List ℕ)) (lines : List TallyLine) (o : SampleOutcome) (seed : Option ℕ)
    (schedule : Schedule) → IsTallyShown schedules lines → tally_place_of_seed seed ≡ length schedules
    → IsTallyShown (schedules ++ schedule.turns.items ∷ []) (lines ++ tally_noted_line o seed schedule ∷ [])
tally_noted_shown_new schedules lines o seed schedule shown place a (j, has) =
    let all = schedules ++ schedule.turns.items ∷ [] in
    elim (slice_push_cases lines (tally_noted_line o seed schedule) j a has) [
      | inl old ↦ tally_line_stays schedules schedule.turns.items (tally_place_of_seed a.seed) a.schedule.turns.items (shown a (j, old.1))
      | inr last ↦
          (let P : TallyLine → Type 0 = λ l. slice_get all (tally_place_of_seed l.seed) ≡ Some l.schedule.turns.items in
          subst P last.1 (ap (slice_get all) place ∙ slice_get-last schedules schedule.turns.items))
    ]

-- no line up to this one has the outcome
pub tally_noted_none_more : (lines : List TallyLine) (o : SampleOutcome) (n : ℕ) (item : TallyLine)
    → ((k : ℕ) (line : TallyLine) → k < n → slice_get lines k ≡ Some line → line.outcome ≢ o)
    → slice_get lines n ≡ Some item → item.outcome ≢ o → (k : ℕ) (line : TallyLine) → k < n + 1
    → slice_get lines k ≡ Some line → line.outcome ≢ o
tally_noted_none_more lines o n item before at other k line less here = elim (cases_eq k n) [
  | inl is ↦
      (let same : item ≡ line = same_Some item line (sym at ∙ subst (λ m. slice_get lines m ≡ Some line) is here) in
      subst (λ (l : TallyLine). l.outcome ≢ o) same other)
  | inr isnt ↦ before k line (omega (arith, less, isnt)) here
]
