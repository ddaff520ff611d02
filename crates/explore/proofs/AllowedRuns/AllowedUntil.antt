-- Whether a run by the rules ends with some words, and what the search for one knows.
-- The replies that are told of a whole run, by whatever detail, end with the words that it shows. So two runs of which the same is told end with the
-- same words, and it is enough to find what is told of each.
use Rattle.std.proofs.Common.{ℕ, ◌≡◌, ◌-◌, ◌↔◌, inl, inr, List, [], ◌∷◌, ◌++◌, Some, drop, length, map, slice_get, slice_index_or, refl, sym, ap, ap₂, subst, ◌∙◌, append_assoc, length-append, arith}
use Rattle.std.proofs.lemmas.List.{drop_at, length-map}
use Rattle.std.proofs.lemmas.Option.{get_or_from_slice_get, same_Some}
use Rattle.base.specs.InOrderOnce.{Has}
use Rattle.base.proofs.JoinedLists.{joined_list_has-map, joined_list_has-nil}
use Rattle.journal.specs.declared.event.Event.{Event}
use Rattle.journal.specs.declared.event.Kind.{Kind}
use Rattle.journal.specs.declared.event.Kind.TheVariants as kind
use Rattle.lrc_script.specs.declared.script.Instruction.{Instruction}
use Rattle.lrc_script.specs.Lawful.{IsLawful}
use Rattle.lrc_script.specs.Plan.{Plan}
use Rattle.conformance.specs.Follows.{Follows, calls_of, load_of}
use Rattle.conformance.specs.ScriptReports.{AreRepliesOfScriptReport}
use Rattle.explore.specs.declared.rules.search.AllowedSearch.{AllowedSearch}
use Rattle.explore.specs.declared.goal.Goal.{Goal}
use Rattle.explore.specs.declared.goal.Goal.TheVariants.{All, Until}
use Rattle.explore.specs.declared.outcomes.telling.Detail.{Detail}
use Rattle.explore.specs.AllowedRuns.{IsAllowedRun}
use Rattle.explore.specs.AllowedSearch.{IsAllowedSearchStep, IsAllowedSearched, allowed_search_found}
use Rattle.explore.specs.AllowedUntil.{AreAllowedUntilWords, IsAllowedUntilRun}
use Rattle.explore.specs.AllowedSearchEnds.{AllowedSearchFoundNone, AreAllowedUntilLoads, IsAllowedRunOfGoal}
use Rattle.explore.specs.OutcomeTelling.{AreOutcomeTellingReplies, outcome_telling_of_script, outcome_telling_replies, outcome_telling_steps}
use Rattle.explore.specs.Prefixes.ScriptCalls.{script_calls_of_section, script_calls_shown_by}
use Rattle.explore.proofs.MachineSteps.{machine_step_some_at}
use Rattle.explore.proofs.ToldReplies.{told_replies_end_shown, told_replies_some_rows}
use Rattle.explore.proofs.AllowedRuns.SearchByRules.{rules_search_finds_all}
use Rattle.explore.proofs.PrefixRuns.SectionCalls.{section_calls_follows_length}

-- as many words are shown as the script shows
allowed_until_many : (s : Plan) (shown : List (ℕ × ℕ)) → map (λ (x : ℕ × ℕ). x.0) shown ≡ s.shown → length shown ≡ length s.shown
allowed_until_many s shown addresses =
    sym (length-map shown (λ (x : ℕ × ℕ). x.0)) ∙ ap (λ (xs : List ℕ). length xs) addresses

-- they are the last calls
allowed_until_last : (s : Plan) (calls : List Kind) (shown : List (ℕ × ℕ)) → AreRepliesOfScriptReport calls shown
    → map (λ (x : ℕ × ℕ). x.0) shown ≡ s.shown → drop (length calls - length s.shown) calls ≡ map load_of shown
allowed_until_last s calls shown last addresses =
    let many = allowed_until_many s shown addresses in
    let long = ap (λ (ks : List Kind). length ks) last.ends ∙ length-append last.front (map load_of shown) in
    let loads = length-map shown load_of in
    ap (λ (ks : List Kind). drop (length calls - length s.shown) ks) last.ends
    ∙ drop_at last.front (map load_of shown) (length calls - length s.shown) (omega (arith, many, long, loads))

-- a load is among them exactly if it shows its word
allowed_until_load : (shown : List (ℕ × ℕ)) (address w : ℕ) → Has (map load_of shown) (kind.Load address w) ↔ Has shown (address, w)
allowed_until_load shown address w = (
  λ has. let one = (joined_list_has-map load_of shown (kind.Load address w)).0 has in subst (Has shown) (same one.0 one.2) one.1,
  λ has. (joined_list_has-map load_of shown (kind.Load address w)).1 ((address, w), has, refl),
)
  where
    same : (x : ℕ × ℕ) → load_of x ≡ kind.Load address w → x ≡ (address, w)
    same (a, v) is =
        let first : a ≡ address = cc in
        let second : v ≡ w = cc in
        ap₂ (λ (b u : ℕ). (b, u)) first second

allowed_until_loads : (words shown : List (ℕ × ℕ)) → AreAllowedUntilLoads words (map load_of shown) ↔ AreAllowedUntilWords words shown
allowed_until_loads words shown = (
  λ are address word w asked. (
    λ has. (are address word w asked).0 ((allowed_until_load shown address w).1 has),
    λ is. (allowed_until_load shown address w).0 ((are address word w asked).1 is),
  ),
  λ are address word w asked. (
    λ has. (are address word w asked).0 ((allowed_until_load shown address w).0 has),
    λ is. (allowed_until_load shown address w).1 ((are address word w asked).1 is),
  ),
)

-- a whole run shows words
allowed_until_shown : (s : Plan) (g : List Event) → IsLawful s → Follows s g
    → (shown : List (ℕ × ℕ)) × (map (λ (x : ℕ × ℕ). x.0) shown ≡ s.shown) × AreRepliesOfScriptReport (calls_of g 0) shown
allowed_until_shown s g lawful follows =
    let long = lawful.but_uneven.one_each in
    let some = lawful.but_uneven.sizes.some_processors in
    let section = machine_step_some_at s.sections 0 (omega (arith, long, some)) in
    let own = follows 0 section.0 section.1 in (
      own.loads,
      own.addresses_are,
      record {
        front = own.own ++ kind.Arrive ∷ kind.Depart ∷ [];
        ends = own.kinds_are ∙ sym (append_assoc own.own (kind.Arrive ∷ kind.Depart ∷ []) (map load_of own.loads));
      },
    )

-- the last calls of a whole run that the rules allow tell whether it ends with some words
pub allowed_until_told : (s : Plan) (words : List (ℕ × ℕ)) (g : List Event) → IsLawful s → IsAllowedRun s g
    → AreAllowedUntilLoads words (drop (length (calls_of g 0) - length s.shown) (calls_of g 0)) ↔ IsAllowedUntilRun s words g
allowed_until_told s words g lawful run = (
  λ are.
      let of = allowed_until_shown s g lawful run.follows in
      let last = allowed_until_last s (calls_of g 0) of.0 of.2 of.1 in
      record {
        run = run;
        shown = of.0;
        addresses = of.1;
        replies = of.2;
        ends = (allowed_until_loads words of.0).0 (subst (AreAllowedUntilLoads words) last are);
      },
  λ ends.
      let last = allowed_until_last s (calls_of g 0) ends.shown ends.replies ends.addresses in
      subst (AreAllowedUntilLoads words) (sym last) ((allowed_until_loads words ends.shown).1 ends.ends),
)

-- pairs of which both parts are the same
allowed_until_pairs : (xs ys : List (ℕ × ℕ)) → map (λ (x : ℕ × ℕ). x.0) xs ≡ map (λ (x : ℕ × ℕ). x.0) ys
    → map (λ (x : ℕ × ℕ). x.1) xs ≡ map (λ (x : ℕ × ℕ). x.1) ys → xs ≡ ys
allowed_until_pairs [] [] first second = refl
allowed_until_pairs [] (y ∷ ys) first second = absurd (let none : [] ≡ y.0 ∷ map (λ (x : ℕ × ℕ). x.0) ys = first in cc)
allowed_until_pairs (x ∷ xs) [] first second = absurd (let none : x.0 ∷ map (λ (x : ℕ × ℕ). x.0) xs ≡ [] = first in cc)
allowed_until_pairs ((a, v) ∷ xs) ((b, w) ∷ ys) first second =
    let address : a ≡ b = cc in
    let word : v ≡ w = cc in
    let addresses : map (λ (x : ℕ × ℕ). x.0) xs ≡ map (λ (x : ℕ × ℕ). x.0) ys = cc in
    let words : map (λ (x : ℕ × ℕ). x.1) xs ≡ map (λ (x : ℕ × ℕ). x.1) ys = cc in
    ap₂ (λ (z : ℕ × ℕ) zs. z ∷ zs) (ap₂ (λ (c u : ℕ). (c, u)) address word) (allowed_until_pairs xs ys addresses words)

-- what is told of a whole run ends with the words that it shows
allowed_until_row : (s : Plan) (d : Detail) (g : List Event) (replies : List (List ℕ)) (row : List ℕ) (shown : List (ℕ × ℕ)) → IsLawful s
    → IsAllowedRun s g → AreOutcomeTellingReplies s (outcome_telling_of_script s d) g replies → slice_get replies 0 ≡ Some row
    → map (λ (x : ℕ × ℕ). x.0) shown ≡ s.shown → AreRepliesOfScriptReport (calls_of g 0) shown
    → drop (length row - length s.shown) row ≡ map (λ (x : ℕ × ℕ). x.1) shown
allowed_until_row s d g replies row shown lawful run are at addresses last =
    let some = lawful.but_uneven.sizes.some_processors in
    let sections = lawful.but_uneven.one_each in
    let section = machine_step_some_at s.sections 0 (omega (arith, some, sections)) in
    let many = allowed_until_many s shown addresses in
    let whole = (section_calls_follows_length section.0 (script_calls_shown_by s 0) (calls_of g 0) (run.beginning.begins 0 section.0 section.1)).0
    (run.follows 0 section.0 section.1) in
    let steps : length (calls_of g 0) ≡ length (outcome_telling_steps s 0) = whole ∙ ap (λ (is : List Instruction). length (script_calls_of_section is (script_calls_shown_by s 0))) (own section.0 section.1) in
    let front = outcome_telling_replies (outcome_telling_of_script s d) 0 (outcome_telling_steps s 0) 0 last.front in
    let is = same_Some row _ (sym at ∙ are.each 0 (omega (arith, some))) ∙ told_replies_end_shown s d last.front shown (calls_of g 0) last.ends steps many in
    let long = ap (λ (xs : List ℕ). length xs) is ∙ length-append front (map (λ (x : ℕ × ℕ). x.1) shown) in
    let words = length-map shown (λ (x : ℕ × ℕ). x.1) in
    ap (λ (xs : List ℕ). drop (length row - length s.shown) xs) is
    ∙ drop_at front (map (λ (x : ℕ × ℕ). x.1) shown) (length row - length s.shown) (omega (arith, long, words, many))
  where
    own : (section : List Instruction) → slice_get s.sections 0 ≡ Some section → section ≡ slice_index_or s.sections 0 []
    own section at = sym (get_or_from_slice_get s.sections 0 section [] at)

-- two runs of which the same is told end with the same words
allowed_until_same : (s : Plan) (d : Detail) (words : List (ℕ × ℕ)) (g h : List Event) (replies : List (List ℕ)) → IsLawful s → IsAllowedRun s h
    → AreOutcomeTellingReplies s (outcome_telling_of_script s d) g replies → AreOutcomeTellingReplies s (outcome_telling_of_script s d) h replies
    → IsAllowedUntilRun s words g → IsAllowedUntilRun s words h
allowed_until_same s d words g h replies lawful run told_g told_h ends =
    let some = lawful.but_uneven.sizes.some_processors in
    let long = told_g.long in
    let row = machine_step_some_at replies 0 (omega (arith, some, long)) in
    let of = allowed_until_shown s h lawful run.follows in
    let one = allowed_until_row s d g replies row.0 ends.shown lawful ends.run told_g row.1 ends.addresses ends.replies in
    let other = allowed_until_row s d h replies row.0 of.0 lawful run told_h row.1 of.1 of.2 in
    record {
      run = run;
      shown = of.0;
      addresses = of.1;
      replies = of.2;
      ends = subst (AreAllowedUntilWords words) (allowed_until_pairs ends.shown of.0 (ends.addresses ∙ sym of.1) (sym one ∙ other)) ends.ends;
    }

-- before the first beginning nothing is found
pub allowed_goal_start : (s : Plan) (d : Detail) (goal : Goal) (x : AllowedSearch) → allowed_search_found x ≡ [] → AllowedSearchFoundNone s d goal x
allowed_goal_start s d goal x none g replies has told ends =
    joined_list_has-nil replies (subst (λ found. Has found replies) none has)

-- one more beginning isn't a run that is looked for
pub allowed_goal_next : (s : Plan) (d : Detail) (goal : Goal) (g : List Event) (x y : AllowedSearch) → IsLawful s
    → IsAllowedSearchStep s d g x y → ¬ IsAllowedRunOfGoal s goal g → AllowedSearchFoundNone s d goal x → AllowedSearchFoundNone s d goal y
allowed_goal_next s d All g x y lawful step isnt none h replies has told ends = ends
allowed_goal_next s d (Until words) g x y lawful step isnt none h replies has told ends = elim (step.each replies has) [
  | inl was ↦ none h replies was told ends
  | inr own ↦ isnt (allowed_until_same s d words.now h g replies lawful own.0 told own.1 ends)
]

-- where nothing is left to be looked at, no run is
pub allowed_goal_never : (s : Plan) (d : Detail) (goal : Goal) (n : ℕ) (x : AllowedSearch) → IsAllowedSearched s d n x
    → AllowedSearchFoundNone s d goal x → x.pending.items ≡ [] → (g : List Event) → ¬ IsAllowedRunOfGoal s goal g
allowed_goal_never s d All n x searched none empty g ends = ends
allowed_goal_never s d (Until words) n x searched none empty g ends =
    let t = outcome_telling_of_script s d in
    let told = told_replies_some_rows s.processors (λ p. outcome_telling_replies t p (outcome_telling_steps s p) 0 (calls_of g p)) in
    none g told.0 (rules_search_finds_all s d n x searched empty told.0 (g, ends.run, told.1)) told.1 ends
