use Rattle.std.proofs.Common.{◌≡◌, ◌+◌, ◌++◌, cond, Bool, true, false, List, [], ◌∷◌, drop, slice_index_or, append_assoc, append-nil, sym, ap, ◌∙◌}
use Rattle.std.specs.Global.{Vec}
use Rattle.std.proofs.lemmas.List.{drop_all, drop_more}
use Rattle.judge.specs.declared.stored_steps.StoredStep.{StoredStep}
use Rattle.judge.specs.AskedPlaces.{asked_steps_from, is_asked_between}
use Rattle.judge.proofs.stored_steps.asked_steps.Goals as goal
use Rattle.judge.proofs.stored_steps.asked_steps.Goals.{then-has_between+in_ok-push, else-has_between}

-- a step stays, or goes
one_more : (b : Bool) (left now rest whole : List StoredStep) (x : StoredStep) → now ≡ cond b (left ++ x ∷ []) left
    → left ++ cond b (x ∷ rest) rest ≡ whole → now ++ rest ≡ whole
one_more true left now rest whole x is told = ap (λ xs. xs ++ rest) is ∙ append_assoc left (x ∷ []) rest ∙ told
one_more false left now rest whole x is told = ap (λ xs. xs ++ rest) is ∙ told

pub loop-step-preserved : goal.loop-step-preserved
loop-step-preserved c =
    let steps = c.args.steps.now in
    let asked = c.args.asked.now in
    let index = c.loop-step.step-index in
    let from = c.loop-step.from in
    let left = c.loop-step.left.items in
    let d : StoredStep = record { place = 0; before = record { records = 0; words = 0 } } in
    let x : StoredStep = slice_index_or steps index d in
    let is : ◌≡◌ {A = List StoredStep} c.if-has_between.left.items (cond (is_asked_between asked from x.place) (left ++ x ∷ []) left) =
    elim c.if-has_between.branch [
      | then-has_between+in_ok-push w ↦
          ap (λ (v : Vec StoredStep). v.items) w.left-is ∙ w.in_ok-push.ensures.items
          ∙ sym (ap (λ b. cond b (left ++ x ∷ []) left) (sym c.has_between.ensures ∙ w.if-has_between.true))
      | else-has_between w ↦
          ap (λ (v : Vec StoredStep). v.items) w.left-is
          ∙ sym (ap (λ b. cond b (left ++ x ∷ []) left) (sym c.has_between.ensures ∙ w.if-has_between.false))
    ] in
    let told = sym (ap (λ xs. left ++ asked_steps_from asked from xs) (drop_more steps index d c.loop-step-test.true))
    ∙ c.loop-step.invariant in
    one_more (is_asked_between asked from x.place) left c.if-has_between.left.items (asked_steps_from asked (x.place + 1) (drop (index + 1) steps))
    (asked_steps_from asked 0 steps) x is told

pub returns : goal.returns
returns c =
    let steps = c.args.steps.now in
    let asked = c.args.asked.now in
    let left = c.loop-step.left.items in
    sym (append-nil left)
    ∙ sym (ap (λ xs. left ++ asked_steps_from asked c.loop-step.from xs) (drop_all c.loop-step.step-index steps c.loop-step-test.false))
    ∙ c.loop-step.invariant
