-- Where judging a history ends, and where it goes on.
use Rattle.std.proofs.Common.{◌≡◌, ℕ, ◌+◌, ◌<◌, ◌≤◌, Bool, true, false, cond, List, [], ◌∷◌, ◌++◌, Option, Some, count_by, drop, length, take, subst, sym, refl, ap, ◌∙◌, arith, length-append, zero-add}
use Rattle.std.specs.Prelude.{None, MatchOption, is_some}
use Rattle.std.proofs.lemmas.List.{drop-append-le, length-drop, take-append-le, take_all}
use Rattle.std.proofs.lemmas.List.Sums.{count_by-le-length}
use Rattle.std.proofs.Math.Seq.{drop-append_seam, take-append_seam}
use Rattle.base.proofs.SlicesAndCounts.{slice_count_by-append}
use Rattle.journal.specs.declared.event.Event.{Event}
use Rattle.journal.specs.Sizes.{Sizes}
use Rattle.journal.specs.Races.{RaceFree}
use Rattle.journal.proofs.Order.EventPlacesAndCounts.{event_place_inside}
use Rattle.judge.specs.declared.models.MemoryModel.{MemoryModel}
use Rattle.judge.specs.declared.models.MemoryModel.TheVariants as model
use Rattle.judge.specs.declared.sizes.Sizes.{Sizes as JudgedSizes}
use Rattle.judge.specs.JudgedSizes.{judged_sizes_of}
use Rattle.judge.proofs.NearestRaceSteps.{nearest_race_longer}
use Rattle.lrc_check.specs.declared.checked.Lie.{Lie}
use Rattle.lrc_check.specs.declared.checked.Rules.{Rules}
use Rattle.lrc_check.specs.declared.checked.Checked.{Checked}
use Rattle.lrc_check.specs.declared.checked.TraceVerdict.{TraceVerdict}
use Rattle.lrc_check.specs.declared.checked.TraceVerdict.TheVariants as verdict
use Rattle.lrc_check.specs.declared.trace_judge.TraceJudge.{TraceJudge}
use Rattle.lrc_check.specs.CheckVerdicts.{IsCheckVerdictLie, IsCheckVerdictOf, IsCheckVerdictRace, IsCheckVerdictWhole, check_verdict_race_events, is_load_in_check_verdict, unjudged_in_check_verdict}
use Rattle.lrc_check.specs.Faithful.{IsFaithfulAndCounted}
use Rattle.lrc_check.specs.HistoryJudge.{HasEndedEarly, IsHistoryEnd, IsHistoryEndWithin, is_unjudged_next}
use Rattle.lrc_check.specs.TraceJudge.{IsTraceJudgeOf}
use Rattle.lrc_check.proofs.CheckedHistories.{checked_history_by_rules, checked_history_lie, checked_history_lie_by_rules, checked_history_race, checked_history_race_free, checked_history_racy}
use Rattle.lrc_check.proofs.JudgedRaces.{judged_race_at_end}

-- one event more
history_end_long : (j : List Event) (e : Event) → length (j ++ e ∷ []) ≡ length j + 1
history_end_long j e = (let long = length-append j (e ∷ []) in omega arith)

history_end_all : (j : List Event) (e : Event) → take (length j + 1) (j ++ e ∷ []) ≡ j ++ e ∷ []
history_end_all j e =
    let long = history_end_long j e in
    let le : length (j ++ e ∷ []) ≤ length j + 1 = omega arith in
    take_all (length j + 1) (j ++ e ∷ []) le

-- judging by the rules went on up to here, and the judge told this of the next event
pub record HasReadNext (r : Rules) (t : JudgedSizes) (j : List Event) (e : Event) (x y : TraceJudge) (o : Option Lie) : Type 0 where
  pub judged : IsTraceJudgeOf j x
  pub model : x.model ≡ r.model
  pub lax : x.lax ≡ r.lax
  pub sizes : x.sizes ≡ t
  pub told : MatchOption o (IsTraceJudgeOf (j ++ e ∷ []) y)
      (λ l. IsCheckVerdictLie x.model x.lax (judged_sizes_of x.sizes) (j ++ e ∷ []) l
      × IsCheckVerdictRace (check_verdict_race_events l (j ++ e ∷ [])) y.race)

-- the same of the history that ends with it
history_end_told : (r : Rules) (t : JudgedSizes) (j : List Event) (e : Event) (x y : TraceJudge) (o : Option Lie) → HasReadNext r t j e x y o
    → MatchOption o (IsTraceJudgeOf (take (length j + 1) (j ++ e ∷ [])) y)
    (λ l. IsCheckVerdictLie x.model x.lax (judged_sizes_of x.sizes) (take (length j + 1) (j ++ e ∷ [])) l
    × IsCheckVerdictRace (check_verdict_race_events l (take (length j + 1) (j ++ e ∷ []))) y.race)
history_end_told r t j e x y o h =
    subst (λ xs. MatchOption o (IsTraceJudgeOf xs y)
    (λ l. IsCheckVerdictLie x.model x.lax (judged_sizes_of x.sizes) xs l × IsCheckVerdictRace (check_verdict_race_events l xs) y.race))
    (sym (history_end_all j e)) h.told

-- the next event is the second one of the first race, which ends the judging
pub history_end_racy : (r : Rules) (t : JudgedSizes) (j : List Event) (e : Event) (x y : TraceJudge) (o : Option Lie) (race : ℕ × ℕ)
    → HasReadNext r t j e x y o → r.ends_at_race ≡ true → x.race ≡ None → y.race ≡ Some race
    → IsHistoryEnd r (judged_sizes_of t) (j ++ e ∷ []) (record { count = length j + 1; race = Some race; verdict = verdict.Racy })
history_end_racy r t j e x y o race h ends none same =
    let now = j ++ e ∷ [] in
    let front = take-append_seam j (e ∷ []) in
    let free = subst RaceFree (sym front) (checked_history_race_free j x none h.judged) in
    let lt : length j < length now = (let long = history_end_long j e in omega arith) in
    let accepted = subst (IsFaithfulAndCounted r.model r.lax (judged_sizes_of t)) (sym front)
    (checked_history_by_rules r t j x h.model h.lax h.sizes h.judged) in
    let nearest = checked_history_race x.model x.lax (judged_sizes_of x.sizes) now (length j) y o race lt free (history_end_told r t j e x y o h) same in
    record {
      says = checked_history_racy r now (length j) race e ends lt (history_end_all j e ∙ ap (λ (xs : List Event). xs ++ e ∷ []) (sym front)) accepted free nearest;
      all = sym (history_end_long j e);
      ended = tt;
    }

-- the next event is a lie
pub history_end_lie : (r : Rules) (t : JudgedSizes) (j : List Event) (e : Event) (x y : TraceJudge) (l : Lie) → HasReadNext r t j e x y (Some l)
    → IsHistoryEnd r (judged_sizes_of t) (j ++ e ∷ []) (record { count = length j + 1; race = y.race; verdict = verdict.Lie l })
history_end_lie r t j e x y l h =
    let now = j ++ e ∷ [] in
    let lt : length j < length now = (let long = history_end_long j e in omega arith) in
    let told = history_end_told r t j e x y (Some l) h in
    record {
      says = checked_history_lie r (judged_sizes_of t) now (length j) y.race l lt
          (checked_history_lie_by_rules r t (take (length j + 1) now) x l h.model h.lax h.sizes told.0) told.1;
      all = sym (history_end_long j e);
      ended = tt;
    }

-- what ended the judging is true however the history goes on
pub history_end_within : (r : Rules) (s : Sizes) (j es : List Event) (x : Checked) → IsHistoryEndWithin r s j x → IsHistoryEndWithin r s (j ++ es) x
history_end_within r s j es x h = record {
  says = record {
    within = (let long = length-append j es in let within = h.says.within in omega arith);
    verdict = subst (λ xs. IsCheckVerdictOf r.model r.lax s xs x.race x.verdict) (sym (take-append-le x.count j es h.says.within)) h.says.verdict;
    whole = whole_is x.verdict h.ended;
    ends = h.says.ends;
  };
  ended = h.ended;
}
  where
    whole_is : (v : TraceVerdict) → HasEndedEarly v → IsCheckVerdictWhole (j ++ es) x.count v
    whole_is (verdict.Faithful traffic unjudged) ended = absurd ended
    whole_is (verdict.Lie y) ended = tt
    whole_is verdict.Racy ended = tt

-- a load
abbrev history_end_is_load : Event → Bool
history_end_is_load e = is_load_in_check_verdict e.kind

history_end_count_one : (e : Event) → count_by history_end_is_load (e ∷ []) ≡ cond (is_load_in_check_verdict e.kind) 1 0
history_end_count_one e = go (is_load_in_check_verdict e.kind) refl
  where
    go : (b : Bool) → is_load_in_check_verdict e.kind ≡ b → count_by history_end_is_load (e ∷ []) ≡ cond b 1 0
    go true h = rw h refl
    go false h = rw h refl

-- how many loads are left out after the next event, under race-free
history_end_race_free_next : (j : List Event) (e : Event) (before after : Option (ℕ × ℕ)) → IsCheckVerdictRace j before
    → IsCheckVerdictRace (j ++ e ∷ []) after → unjudged_in_check_verdict model.RaceFree after (j ++ e ∷ [])
    ≡ unjudged_in_check_verdict model.RaceFree before j + cond (is_unjudged_next model.RaceFree (is_some after) e.kind) 1 0
history_end_race_free_next j e None None free still = refl
history_end_race_free_next j e (Some r) None raced free = absurd (free r.0 r.1 (nearest_race_longer j e r.0 r.1 raced).race)
history_end_race_free_next j e None (Some r) free raced =
    ap (λ n. count_by history_end_is_load (drop n (j ++ e ∷ []))) (judged_race_at_end j e r.0 r.1 free raced)
    ∙ ap (count_by history_end_is_load) (drop-append_seam j (e ∷ [])) ∙ history_end_count_one e
    ∙ sym (zero-add (cond (is_load_in_check_verdict e.kind) 1 0))
history_end_race_free_next j e (Some r) (Some s) was raced =
    let still = nearest_race_longer j e r.0 r.1 was in
    let le = still.least_second s.0 s.1 raced.race in
    let ge = raced.least_second r.0 r.1 still.race in
    let same : s.1 ≡ r.1 = omega arith in
    let lt = event_place_inside j r.1 was.race.second was.race.second_at in
    ap (λ n. count_by history_end_is_load (drop n (j ++ e ∷ []))) same
    ∙ ap (count_by history_end_is_load) (drop-append-le r.1 j (e ∷ []) (omega arith))
    ∙ slice_count_by-append history_end_is_load (drop r.1 j) (e ∷ [])
    ∙ ap (λ n. count_by history_end_is_load (drop r.1 j) + n) (history_end_count_one e)

-- and under any model
pub history_end_unjudged_next : (m : MemoryModel) (j : List Event) (e : Event) (before after : Option (ℕ × ℕ)) → IsCheckVerdictRace j before
    → IsCheckVerdictRace (j ++ e ∷ []) after → unjudged_in_check_verdict m after (j ++ e ∷ [])
    ≡ unjudged_in_check_verdict m before j + cond (is_unjudged_next m (is_some after) e.kind) 1 0
history_end_unjudged_next model.RaceFree j e before after was is = history_end_race_free_next j e before after was is
history_end_unjudged_next model.HappensBefore j e before after was is = refl
history_end_unjudged_next model.LazyRelease j e before after was is = refl
history_end_unjudged_next model.Sequential j e before after was is = refl

-- no more loads than events are left out
pub history_end_unjudged_few : (m : MemoryModel) (j : List Event) (race : Option (ℕ × ℕ)) → unjudged_in_check_verdict m race j ≤ length j
history_end_unjudged_few model.RaceFree j None = omega arith
history_end_unjudged_few model.RaceFree j (Some r) =
    let few = count_by-le-length history_end_is_load (drop r.1 j) in
    let short = length-drop r.1 j in
    omega arith
history_end_unjudged_few model.HappensBefore j race = omega arith
history_end_unjudged_few model.LazyRelease j race = omega arith
history_end_unjudged_few model.Sequential j race = omega arith
