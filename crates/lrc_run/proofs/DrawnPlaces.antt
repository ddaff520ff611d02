-- Turns that are drawn, one after another.
use Rattle.std.proofs.Common.{ℕ, zero, suc, ◌≡◌, ◌+◌, ◌*◌, ◌<◌, ◌≤◌, Bool, Some, List, [], ◌∷◌, ◌++◌, inl, inr, length, refl, sym, ap, ap₂, subst, take, drop, get_or, slice_get, slice_index_or, ◌∙◌, append_assoc, append-nil, arith}
use Rattle.std.proofs.lemmas.List.Elements.{All-append, All-cons, All-nil, All-take, All-drop}
use Rattle.std.proofs.lemmas.List.Sums.{sum_by_push}
use Rattle.std.proofs.lemmas.Option.{get_or_from_slice_get, slice_get_within}
use Rattle.base.proofs.SlicesAndCounts.{slice_take-suc_at}
use Rattle.rand_pcg.specs.Lcg.{Lcg}
use Rattle.lrc_script.specs.declared.script.Instruction.{Instruction}
use Rattle.lrc_script.specs.Lawful.{IsLawful}
use Rattle.lrc_script.specs.Plan.{Plan}
use Rattle.cluster.specs.Copies.Local.{Local}
use Rattle.conformance.specs.Draws.{Drawing, drawing, draws_turns_about, draws_walk, drawing_after, drawing_of, drawn_tries, drawn_turns, next_drawing}
use Rattle.conformance.specs.DrawnRuns.{HasArrivedAtDrawnEnd, drawing_after_of, drawn_tries_of, drawn_turns_of}
use Rattle.conformance.specs.declared.progress.TurnProgress.{TurnProgress}
use Rattle.lrc_run.specs.declared.steps.pace.Pace.{Pace}
use Rattle.lrc_run.specs.DrawnOrders.{AreDrawnOrderProcessors, pace_drawing}
use Rattle.lrc_run.specs.DrawnTurns.{HasDrawnNoTurn, HasDrawnTurn, HaveWandered}
use Rattle.lrc_run.specs.RunTurns.{AreRunTurnsTaken}
use Rattle.lrc_run.proofs.TurnWays.{turn_ways_taken-append, turn_way_seen_same}

-- one place more
module _ (walks : Bool) (m : ℕ) where
  drawing_after-push : (d : Drawing) (places : List ℕ) (place : ℕ)
      → drawing_after walks m d (places ++ place ∷ []) ≡ next_drawing walks m place (drawing_after walks m d places)
  drawing_after-push d [] place = refl
  drawing_after-push d (k ∷ ks) place = drawing_after-push (next_drawing walks m k d) ks place

  drawn_turns-push : (d : Drawing) (places : List ℕ) (place : ℕ)
      → drawn_turns walks m d (places ++ place ∷ [])
      ≡ drawn_turns walks m d places ++ slice_index_or (drawing_after walks m d places).order place 0 ∷ []
  drawn_turns-push d [] place = refl
  drawn_turns-push d (k ∷ ks) place =
      ap (λ ps. slice_index_or d.order k 0 ∷ ps) (drawn_turns-push (next_drawing walks m k d) ks place)

  drawn_tries-push : (d : Drawing) (places : List ℕ) (place : ℕ)
      → drawn_tries walks m d (places ++ place ∷ [])
      ≡ drawn_tries walks m d places ++ take (place + 1) (drawing_after walks m d places).order
  drawn_tries-push d [] place = append-nil (take (place + 1) d.order)
  drawn_tries-push d (k ∷ ks) place =
      ap (λ ps. take (k + 1) d.order ++ ps) (drawn_tries-push (next_drawing walks m k d) ks place)
      ∙ sym (append_assoc (take (k + 1) d.order) (drawn_tries walks m (next_drawing walks m k d) ks) _)

-- the turns and tries so far, and the next drawing
pub record IsWandering (s : Plan) (seed : ℕ) (pace : Pace) (turns : List ℕ) (old new : List Local) (start all : List TurnProgress)
    : Type 0 where
  pub walks : pace.walks ≡ draws_walk seed
  pub about : pace.turns ≡ draws_turns_about s.sections
  pub places : List ℕ
  pub turns_are : turns ≡ drawn_turns_of s seed places
  pub due : pace_drawing pace ≡ drawing_after_of s seed places
  pub tried : AreRunTurnsTaken s.sections (drawn_tries_of s seed places) old new start all

-- a drawing is its order and its generator
drawing_same : (pace : Pace) (d : Drawing) → pace.order.items ≡ d.order → pace.generator ≡ d.generator → pace_drawing pace ≡ d
drawing_same pace d order generator = ap₂ (λ (xs : List ℕ) (g : Lcg). drawing (xs, g)) order generator

-- before the first
pub wandering_start : (s : Plan) (seed : ℕ) (pace : Pace) (turns : List ℕ) (ms : List Local) (all : List TurnProgress)
    → (n : ℕ) → n ≡ s.processors → pace.walks ≡ draws_walk seed → pace.turns ≡ draws_turns_about s.sections
    → pace.order.items ≡ (drawing_of seed n).order → pace.generator ≡ (drawing_of seed n).generator
    → turns ≡ [] → IsWandering s seed pace turns ms ms all all
wandering_start s seed pace turns ms all n many walks about order generator none = record {
  walks = walks;
  about = about;
  places = [];
  turns_are = none;
  due = drawing_same pace (drawing_of seed n) order generator ∙ ap (drawing_of seed) many;
  tried = (turn_way_seen_same ms, refl);
}

-- after one more
pub wandering_more : {s : Plan} {seed : ℕ} {pace next : Pace} {turns more : List ℕ} {ms ns os : List Local}
    {start all to : List TurnProgress} → next.walks ≡ pace.walks → next.turns ≡ pace.turns
    → IsWandering s seed pace turns ms ns start all → HasDrawnTurn s.sections pace next turns more ns os all to
    → IsWandering s seed next more ms os start to
wandering_more {s = s} {seed = seed} {pace = pace} {next = next} {turns = turns} {ms = ms} {ns = ns} {os = os} {start = start} {all = all} {to = to} walks about was turn =
    let w = draws_walk seed in
    let m = draws_turns_about s.sections in
    let d = drawing_of seed s.processors in
    let place = turn.place in
    let order : pace.order.items ≡ (drawing_after w m d was.places).order = ap (λ (x : Drawing). x.order) was.due in
    let due_by : pace_drawing next ≡ next_drawing w m place (drawing_after w m d was.places) =
    drawing_same next (next_drawing pace.walks pace.turns place (pace_drawing pace)) turn.order_is turn.generator_is ∙ ap (λ b. next_drawing b pace.turns place (pace_drawing pace)) was.walks
    ∙ ap₂ (λ k x. next_drawing w k place x) was.about was.due in
    let P : List ℕ → Type 0 = λ ps. AreRunTurnsTaken s.sections ps ms os start to in
    record {
      walks = walks ∙ was.walks;
      about = about ∙ was.about;
      places = was.places ++ place ∷ [];
      turns_are = turn.more_is ∙ ap₂ (λ ps xs. ps ++ slice_index_or xs place 0 ∷ []) was.turns_are order
          ∙ sym (drawn_turns-push w m d was.places place);
      due = due_by ∙ sym (drawing_after-push w m d was.places place);
      tried = subst P (ap (λ xs. drawn_tries w m d was.places ++ take (place + 1) xs) order ∙ sym (drawn_tries-push w m d was.places place))
          (turn_ways_taken-append s.sections (drawn_tries w m d was.places) (take (place + 1) pace.order.items) ms ns os start all to was.tried
          turn.tried);
    }

-- and when there is none more
pub wandering_end : {s : Plan} {seed : ℕ} {pace : Pace} {turns more : List ℕ} {ms ns os : List Local}
    {start all to : List TurnProgress} → IsWandering s seed pace turns ms ns start all
    → HasDrawnNoTurn s.sections pace turns more ns os all to → HaveWandered s seed more ms os start to
wandering_end {s = s} {seed = seed} {pace = pace} {ms = ms} {ns = ns} {os = os} {start = start} {all = all} {to = to} was none =
    let tries = drawn_tries_of s seed was.places in
    let order : pace.order.items ≡ (drawing_after_of s seed was.places).order = ap (λ (x : Drawing). x.order) was.due in
    let P : List ℕ → Type 0 = λ ps. AreRunTurnsTaken s.sections ps ms os start to in
    record {
      places = was.places;
      turns_are = none.more_is ∙ was.turns_are;
      tried = elim none.tried [
        | inl out ↦ inl (subst P (append-nil tries) (turn_ways_taken-append s.sections tries [] ms ns os start all to was.tried out.0), out.1)
        | inr whole ↦ inr (subst P (ap (λ xs. tries ++ xs) order)
            (turn_ways_taken-append s.sections tries pace.order.items ms ns os start all to was.tried whole))
      ];
    }

-- the sections' turns so far are summed up, and they are few
pub record AreDrawnTurnsSummed (s : Plan) (p turns : ℕ) : Type 0 where
  pub sum : turns ≡ draws_turns_about (take p s.sections)
  pub few : turns ≤ 1 + p * 10001

-- of one section more
pub record IsDrawnTurnsSum (s : Plan) (p sum : ℕ) : Type 0 where
  pub summed : AreDrawnTurnsSummed s (p + 1) sum
  pub small : sum < 1000000

pub drawn_turns_summed_more : (s : Plan) (p turns : ℕ) (section : List Instruction) → IsLawful s → slice_get s.sections p ≡ Some section
    → AreDrawnTurnsSummed s p turns → IsDrawnTurnsSum s p (turns + (length section + 1))
drawn_turns_summed_more s p turns section lawful at was =
    let but = lawful.but_uneven in
    let sections = s.sections in
    let within = slice_get_within sections p section at in
    let one_each = but.one_each in
    let most = but.sizes.most_processors in
    let here : get_or sections p section ≡ section = get_or_from_slice_get sections p section section at in
    let short : length section ≤ 10000 = subst (λ xs. length xs ≤ 10000) here (but.sections p section within).most in
    let f : List Instruction → ℕ = λ xs. length xs + 1 in
    let more = slice_take-suc_at sections p section at in
    let next : p + 1 ≡ suc p = omega arith in
    let sum = was.sum in
    let few = was.few in
    let pushed = sum_by_push f (take p sections) section in
    let whole : turns + (length section + 1) ≡ draws_turns_about (take p sections ++ section ∷ []) = omega (arith, sum, pushed) in
    record {
      summed = record {
        sum = subst (λ k. turns + (length section + 1) ≡ draws_turns_about (take k sections)) (sym next)
            (whole ∙ ap draws_turns_about (sym more));
        few = omega (arith, few, short);
      };
      small = omega (arith, few, short, within, one_each, most);
    }

-- no processor before this place has yet to arrive
abbrev pub HaveArrivedBelow : List (List Instruction) → List TurnProgress → ℕ → Type 0
HaveArrivedBelow sections all k = (p : ℕ) (section : List Instruction) (at : TurnProgress) → p < k → slice_get sections p ≡ Some section
    → slice_get all p ≡ Some at → HasArrivedAtDrawnEnd section at

-- an order of which one came last
pub drawn_order_pushed_below : (n : ℕ) (xs left ys : List ℕ) (place x : ℕ) → place < length xs
    → left ≡ take place xs ++ drop (place + 1) xs → x ≡ slice_index_or xs place x → ys ≡ left ++ x ∷ [] → AreDrawnOrderProcessors n xs
    → AreDrawnOrderProcessors n ys
drawn_order_pushed_below n xs left ys place x within left_is is pushed below =
    let P : ℕ → Type 0 = λ p. p < n in
    let rest = All-append P (take place xs) (drop (place + 1) xs) (All-take P place xs below) (All-drop P (place + 1) xs below) in
    let last : x < n = subst P (sym is) (below place x within) in
    subst (AreDrawnOrderProcessors n) (sym pushed) (All-append P left (x ∷ []) (subst (AreDrawnOrderProcessors n) (sym left_is) rest)
    (All-cons P x [] last (All-nil P)))

-- as many as there are at the front
pub drawn_order_whole : (ys rest : List ℕ) (n : ℕ) → n ≡ length ys → take n (ys ++ rest) ≡ ys
drawn_order_whole [] rest zero e = refl
drawn_order_whole [] rest (suc n) e = absurd (omega (arith, e))
drawn_order_whole (y ∷ ys) rest zero e = absurd (omega (arith, e))
drawn_order_whole (y ∷ ys) rest (suc n) e = ap (λ zs. y ∷ zs) (drawn_order_whole ys rest n (omega (arith, e)))
