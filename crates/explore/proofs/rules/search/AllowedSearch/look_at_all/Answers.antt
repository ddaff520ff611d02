use Rattle.std.proofs.Common.{◌≡◌, [], ◌∷◌, ◌++◌, ◌<◌, List, length, vec_len, refl, sym, subst, ◌∙◌, inl, inr, append-nil, arith}
use Rattle.std.proofs.lemmas.Bool.{eq-eqb, eqb-true, false≢true}
use Rattle.base.specs.InOrderOnce.{Has}
use Rattle.base.proofs.JoinedLists.{joined_list_has-append, joined_list_has-cons}
use Rattle.lrc_script.specs.Plan.{plan_of}
use Rattle.explore.specs.declared.rules.beginning.AllowedBeginning.{AllowedBeginning}
use Rattle.explore.specs.declared.rules.search.AllowedSearch.{AllowedSearch}
use Rattle.explore.specs.AllowedBeginnings.{allowed_beginning_events}
use Rattle.explore.specs.AllowedSearch.{IsAllowedSearched}
use Rattle.explore.specs.AllowedSearchEnds.{IsAllowedEnd, IsAllowedRunOfGoal, IsAllowedSearchedTo}
use Rattle.explore.proofs.MachineSteps.{machine_step_some_at}
use Rattle.explore.proofs.AllowedRuns.AllowedUntil.{allowed_goal_never, allowed_goal_next}
use Rattle.explore.proofs.AllowedRuns.SearchByRules.{rules_search_next, rules_search_one_more, rules_search_same, rules_search_seen_many}
use Rattle.explore.proofs.rules.search.AllowedSearch.look_at_all.Goals.{then-is_empty, else-is_empty}
use Rattle.explore.proofs.rules.search.AllowedSearch.look_at_all.Goals as goal

-- where no beginning is counted there is none
none_left : (bs : List AllowedBeginning) → length bs ≡ 0 → bs ≡ []
none_left [] is = refl
none_left (b ∷ bs) is = absurd (omega arith)

-- the one that is taken was there
taken : (bs rest : List AllowedBeginning) (b : AllowedBeginning) → bs ≡ rest ++ b ∷ [] → Has bs b
taken bs rest b is =
    subst (λ cs. Has cs b) (sym is) ((joined_list_has-append rest (b ∷ []) b).1 (inr ((joined_list_has-cons b [] b).1 (inl refl))))

pub is_goal_met-requires-clause-told : goal.is_goal_met-requires-clause-told
is_goal_met-requires-clause-told g c =
    let b = c.in-Some.beginning in
    c.loop-looked.invariant.searched.known b (taken c.loop-looked.self.pending.items c.pop.new.self.items b c.in-Some.ensures.items)

pub returns-then-branch-clause-looked : goal.returns-then-branch-clause-looked
returns-then-branch-clause-looked g c =
    let s = plan_of c.args.script.now in
    let b = c.in-Some.beginning in
    let has = taken c.loop-looked.self.pending.items c.pop.new.self.items b c.in-Some.ensures.items in
    let within = c.loop-looked-test.true in
    record {
      looked_at = rules_search_one_more s c.args.detail c.loop-looked.looked c.loop-looked.self b c.loop-looked.invariant.searched has;
      few = omega (arith, within);
      end = (c.loop-looked.invariant.searched.known b has, c.in_ok-is_goal_met-in-Some.ensures.0 c.if-branch.true);
    }

pub look_at-requires-clause-told : goal.look_at-requires-clause-told
look_at-requires-clause-told g c =
    let b = c.in-Some.beginning in
    c.loop-looked.invariant.searched.known b (taken c.loop-looked.self.pending.items c.pop.new.self.items b c.in-Some.ensures.items)

pub loop-looked-preserved : goal.loop-looked-preserved
loop-looked-preserved g c =
    let s = plan_of c.args.script.now in
    let b = c.in-Some.beginning in
    let left : AllowedSearch = record { pending = c.pop.new.self; outcomes = c.loop-looked.self.outcomes } in
    record {
      searched = rules_search_next s c.args.detail c.loop-looked.looked b c.pop.new.self.items c.loop-looked.self left c.look_at.new.self
          c.loop-looked.invariant.searched c.in-Some.ensures.items refl refl c.in_ok-look_at-in-Some.ensures;
      none = allowed_goal_next s c.args.detail c.args.goal (allowed_beginning_events b) left c.look_at.new.self c.requires.steps.lawful c.in_ok-look_at-in-Some.ensures
          (λ ends. false≢true (sym c.if-branch.false ∙ c.in_ok-is_goal_met-in-Some.ensures.1 ends)) c.loop-looked.invariant.none;
    }

pub returns-in-None-clause-looked : goal.returns-in-None-clause-looked
returns-in-None-clause-looked g c =
    let s = plan_of c.args.script.now in
    let x = c.loop-looked.self in
    let within = c.loop-looked-test.true in
    let zero_long : vec_len x.pending ≡ 0 = c.in-None.ensures.cases.0 in
    record {
      looked_at = rules_search_seen_many s c.args.detail c.loop-looked.looked x c.loop-looked.invariant.searched;
      few = omega (arith, within);
      end = allowed_goal_never s c.args.detail c.args.goal c.loop-looked.looked x c.loop-looked.invariant.searched c.loop-looked.invariant.none
          (none_left x.pending.items (omega (arith, zero_long)));
    }

pub returns-in-None-clause-searched : goal.returns-in-None-clause-searched
returns-in-None-clause-searched g c =
    let x = c.loop-looked.self in
    let bs : List AllowedBeginning = c.pop.new.self.items in
    let was : x.pending.items ≡ bs ++ [] = c.in-None.ensures.items in
    let same : bs ≡ x.pending.items = sym (◌∙◌ {A = List AllowedBeginning} was (append-nil bs)) in
    let zero_long : vec_len x.pending ≡ 0 = c.in-None.ensures.cases.0 in (
      rules_search_same (plan_of c.args.script.now) c.args.detail c.loop-looked.looked x _ same refl c.loop-looked.invariant.searched,
      same ∙ none_left x.pending.items (omega (arith, zero_long)),
    )

pub returns-clause-looked : goal.returns-clause-looked
returns-clause-looked g c =
    let s = plan_of c.args.script.now in
    let x = c.loop-looked.self in
    let P = IsAllowedRunOfGoal s c.args.goal in
    let past = c.loop-looked-test.false in
    let reached : c.loop-looked.looked ≡ c.args.most = omega (arith, past) in
    let searched = subst (λ n. IsAllowedSearched s c.args.detail n x) reached c.loop-looked.invariant.searched in
    record {
      looked_at = rules_search_seen_many s c.args.detail c.args.most x searched;
      few = omega arith;
      end = elim c.if-is_empty.branch [
        | then-is_empty w ↦
            (let zero_long : vec_len x.pending ≡ 0 = eqb-true (vec_len x.pending) 0 (sym c.is_empty.ensures ∙ w.if-is_empty.true) in
            subst (IsAllowedEnd s P c.args.most) (sym w.end-is)
            (allowed_goal_never s c.args.detail c.args.goal c.args.most x searched c.loop-looked.invariant.none
            (none_left x.pending.items (omega (arith, zero_long)))))
        | else-is_empty w ↦
            (let some = machine_step_some_at x.pending.items 0 (more x.pending.items
            (λ none. let zero_long : vec_len x.pending ≡ 0 = omega (arith, none) in
            false≢true (sym w.if-is_empty.false ∙ c.is_empty.ensures ∙ eq-eqb (vec_len x.pending) 0 zero_long))) in
            subst (IsAllowedEnd s P c.args.most) (sym w.end-is)
            (rules_search_one_more s c.args.detail c.args.most x some.0 searched (0, some.1)))
      ];
    }
  where
    more : (bs : List AllowedBeginning) → (length bs ≡ 0 → ⊥) → 0 < length bs
    more [] isnt = absurd (isnt refl)
    more (b ∷ bs) isnt = omega arith

pub returns-clause-searched : goal.returns-clause-searched
returns-clause-searched g c =
    let s = plan_of c.args.script.now in
    let x = c.loop-looked.self in
    let past = c.loop-looked-test.false in
    let reached : c.loop-looked.looked ≡ c.args.most = omega (arith, past) in
    let searched = subst (λ n. IsAllowedSearched s c.args.detail n x) reached c.loop-looked.invariant.searched in
    elim c.if-is_empty.branch [
      | then-is_empty w ↦
          (let zero_long : vec_len x.pending ≡ 0 = eqb-true (vec_len x.pending) 0 (sym c.is_empty.ensures ∙ w.if-is_empty.true) in
          subst (IsAllowedSearchedTo s c.args.detail x c.args.most) (sym w.end-is)
          (searched, none_left x.pending.items (omega (arith, zero_long))))
      | else-is_empty w ↦ subst (IsAllowedSearchedTo s c.args.detail x c.args.most) (sym w.end-is) searched
    ]
