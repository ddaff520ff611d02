-- Turns one after another, and where the processors are after them.
use Rattle.std.proofs.Common.{ℕ, zero, suc, ◌≡◌, ◌<◌, Bool, true, false, Option, Some, List, [], ◌∷◌, ◌++◌, length, get_or, slice_get, slice_set, refl, sym, ap, subst, subst₂, ◌∙◌, inl, inr, append-nil, arith}
use Rattle.std.proofs.lemmas.Bool.{cases_eq}
use Rattle.std.proofs.lemmas.Option.{same_Some, slice_get-get_or, slice_get_within}
use Rattle.std.proofs.lemmas.List.{length-set}
use Rattle.base.proofs.SliceSets.{slice_get-set_found, slice_get-set_other, slice_get-set_same}
use Rattle.journal.specs.declared.event.Kind.{Kind}
use Rattle.journal.specs.Sizes.{Sizes}
use Rattle.lrc_script.specs.declared.script.Instruction.{Instruction}
use Rattle.lrc_script.specs.Lawful.{IsLawful}
use Rattle.lrc_script.specs.Plan.{Plan}
use Rattle.conformance.specs.Follows.{call_kinds, plan_sizes}
use Rattle.turn.specs.Chairs.{ChairLockId}
use Rattle.cluster.specs.Copies.Local.{Local, calls}
use Rattle.cluster.specs.ProcessorCalls.{IsSameProcessorOfCall}
use Rattle.cluster.specs.NewClusters.{SharedCluster}
use Rattle.conformance.specs.declared.progress.TurnProgress.{TurnProgress}
use Rattle.conformance.specs.declared.progress.TurnProgress.TheVariants.{Next, Passed, Waits}
use Rattle.rand_pcg.specs.Lcg.{Lcg}
use Rattle.conformance.specs.OrderedTurns.{ordered_turns_of_seed}
use Rattle.conformance.specs.RoundOrders.{round_order_drawn, round_order_generator_after, round_order_generator}
use Rattle.conformance.specs.ScriptTurns.{script_turn_instruction}
use Rattle.lrc_run.specs.RunSteps.{AreAtRunSteps, IsAtRunStep}
use Rattle.lrc_run.specs.RunTurns.{AreRunTurnRounds, AreRunTurnsSeenAhead, AreRunTurnsSeenOn, AreRunTurnsTaken, AreRunTurns, HasSeenAllRunTurns, HaveGoneOnInRunTurns, SeesRunTurnsOf, IsRunTurnAlone, IsTurnOfRun, HasOnlySeenRunTurns, RunTurnMakes}
use Rattle.lrc_run.specs.RunCalls.{IsRunCallUnderway, HasRunCallsUnless, SeesNoFewerRunCalls, IsRunCallOfTake, new_at_run_call}
use Rattle.lrc_run.proofs.RunCuts.{run_cuts_none_more}
use Rattle.lrc_run.proofs.CallsInBlock.{calls_in_block_seen}
use Rattle.lrc_run.proofs.MoreCalls.{sees_more_calls_same_processor, sees_more_calls_same, sees_more_calls_then, makes_more_calls_same_wanted}
use Rattle.lrc_run.proofs.StepsAfterTurns.{step_after_turn_instruction, step_after_turn_look, step_after_turn_turned}

-- one turn more
pub turn_way_more : {sections : List (List Instruction)} (ps : List ℕ) {p : ℕ} (ms : List Local) {ns os : List Local}
    (all : List TurnProgress) {to end : List TurnProgress} → AreRunTurns sections ps ms ns all to
    → IsTurnOfRun sections p ns os to end → AreRunTurns sections (ps ++ p ∷ []) ms os all end
turn_way_more {sections = sections} [] {p = p} ms {os = os} all {end = end} first next =
    let P : List Local → List TurnProgress → Type 0 = λ xs ys. IsTurnOfRun sections p xs os ys end in
    (os, end, subst₂ P first.0 first.1 next, (refl, refl))
turn_way_more (q ∷ ps) ms all first next =
    (first.0, first.1, first.2, turn_way_more ps first.0 first.1 first.3 next)

-- whoever goes on is the same processor
turn_way_same : (m x : Local) (i : Instruction) (done : Bool) → IsRunCallUnderway m x i done → IsSameProcessorOfCall m x
turn_way_same m x i true way = way.makes.same
turn_way_same m x i false way = way.makes.same

turn_way_sees : (m x : Local) (i : Instruction) (done : Bool) → IsRunCallUnderway m x i done → SeesNoFewerRunCalls m x
turn_way_sees m x i true way = way.makes.sees
turn_way_sees m x i false way = way.makes.sees

pub turn_way_taken_same : (section : List Instruction) (m x : Local) (at to : TurnProgress) → RunTurnMakes section m at x to
    → IsSameProcessorOfCall m x
turn_way_taken_same section m x (Next n) to turn = turn_way_same m x (script_turn_instruction section n) turn.done turn.way
turn_way_taken_same section m x (Waits n) to turn = turn.takes.same
turn_way_taken_same section m x Passed to turn = record {
  lock = ap (λ (l : Local). l.lock) turn.0;
  number = ap (λ (l : Local). l.number) turn.0;
  sizes = ap (λ (l : Local). l.sizes) turn.0;
}

-- and has seen no less
pub turn_way_taken_sees : (section : List Instruction) (m x : Local) (at to : TurnProgress) → RunTurnMakes section m at x to → SeesNoFewerRunCalls m x
turn_way_taken_sees section m x (Next n) to turn = turn_way_sees m x (script_turn_instruction section n) turn.done turn.way
turn_way_taken_sees section m x (Waits n) to turn = turn.takes.sees
turn_way_taken_sees section m x Passed to turn = ([], ap (λ (l : Local). l.seen) turn.0 ∙ sym (append-nil m.seen))

-- where it is after its turn
pub turn_way_at : (l m x : Local) (section : List Instruction) (at to : TurnProgress) → IsAtRunStep l m section at
    → RunTurnMakes section m at x to → IsAtRunStep l x section to
turn_way_at l m x section (Next n) to at turn = subst (λ (y : TurnProgress). IsAtRunStep l x section y) (sym turn.to_is)
    (step_after_turn_instruction l m x section n turn.done at.0 at.1 turn.way)
turn_way_at l m x section (Waits n) to at turn = subst (λ (y : TurnProgress). IsAtRunStep l x section y) (sym turn.to_is)
    (step_after_turn_look l m x section n turn.taken at turn.takes)
turn_way_at l m x section Passed to at turn =
    let P : Local → TurnProgress → Type 0 = λ y z. IsAtRunStep l y section z in subst₂ P (sym turn.0) (sym turn.1) at

-- who saw on was before
pub turn_way_was_at : (ms ns : List Local) (p : ℕ) (n : Local) → AreRunTurnsSeenOn ms ns → slice_get ns p ≡ Some n
    → (m : Local) × (slice_get ms p ≡ Some m)
turn_way_was_at ms ns p n on here =
    let within = slice_get_within ns p n here in
    let same = on.all in
    (get_or ms p n, slice_get-get_or ms p n (omega arith))

-- nothing else changed
turn_way_makes_seen : {C : Type 0} (l m n : Local) (kinds : List Kind) → HasRunCallsUnless C l m kinds → HasOnlySeenRunTurns m n → HasRunCallsUnless C l n kinds
turn_way_makes_seen l m n kinds makes on = record {
  same = sees_more_calls_same_processor l m n makes.same on.same;
  sees = sees_more_calls_then l m n makes.sees on.sees;
  more = ap call_kinds on.calls_are ∙ makes.more;
  noted = calls_in_block_seen l m n kinds makes.same on.same makes.sees on.sees on.calls_are on.block_is makes.noted;
  wanted = λ was. makes_more_calls_same_wanted m n on.same on.calls_are (makes.wanted was);
  uncut = λ none. on.uncut ∙ makes.uncut none;
}

turn_way_seen_at : (l m n : Local) (section : List Instruction) (at : TurnProgress) → IsAtRunStep l m section at → HasOnlySeenRunTurns m n
    → IsAtRunStep l n section at
turn_way_seen_at l m n section (Next k) is on = (
  record {
    kinds = is.0.kinds;
    are = is.0.are;
    makes = turn_way_makes_seen l m n is.0.kinds is.0.makes on;
    cuts = run_cuts_none_more l m n _ is.0.cuts (record { number = on.same.number; uncut = on.uncut });
  },
  is.1,
)
turn_way_seen_at l m n section (Waits k) is on =
    let begun = is.0.begins in
    let between = is.0.between in (
      record {
        between = between;
        done = is.0.done;
        begins = record {
          first = begun.first;
          last = begun.last;
          are = begun.are;
          waits = begun.waits;
          makes = record {
            same = sees_more_calls_same_processor between m n begun.makes.same on.same;
            sees = sees_more_calls_then between m n begun.makes.sees on.sees;
            more = ap call_kinds on.calls_are ∙ begun.makes.more;
            noted = calls_in_block_seen between m n (begun.first ∷ []) begun.makes.same on.same begun.makes.sees on.sees on.calls_are on.block_is
                begun.makes.noted;
            wanted = λ was. makes_more_calls_same_wanted m n on.same on.calls_are (begun.makes.wanted was);
            uncut = on.uncut ∙ begun.makes.uncut;
          };
          handed = on.block_is ∙ begun.handed;
          awaits = on.awaits_is ∙ begun.awaits;
        };
      },
      is.1,
    )
turn_way_seen_at l m n section Passed is on =
    record {
      kinds = is.kinds;
      are = is.are;
      makes = turn_way_makes_seen l m n _ is.makes on;
      cuts = run_cuts_none_more l m n section is.cuts (record { number = on.same.number; uncut = on.uncut });
    }

pub turn_way_seen : (c : SharedCluster) (sections : List (List Instruction)) (ms ns : List Local) (all : List TurnProgress)
    → AreAtRunSteps c sections ms all → AreRunTurnsSeenOn ms ns → AreAtRunSteps c sections ns all
turn_way_seen c sections ms ns all way on = record {
  many = on.all ∙ way.many;
  long = way.long;
  each = λ p section n at its here there.
      let before = turn_way_was_at ms ns p n on here in
      turn_way_seen_at (new_at_run_call c p) before.0 n section at (way.each p section before.0 at its before.1 there)
      (on.each p before.0 n before.1 here);
}

-- where all are after a turn of one's own
pub turn_way_after_own : (c : SharedCluster) (sections : List (List Instruction)) (p : ℕ) (ms ns : List Local) (all to : List TurnProgress)
    → AreAtRunSteps c sections ms all → IsRunTurnAlone sections p ms ns all to → AreAtRunSteps c sections ns to
turn_way_after_own c sections p ms ns all to way turn =
    let P : List Local → List TurnProgress → Type 0 = λ xs ys. AreAtRunSteps c sections xs ys in
    subst₂ P (sym turn.new_is) (sym turn.to_is)
    (step_after_turn_turned p turn.section turn.before turn.after turn.at turn.next way turn.section_is
    turn.before_is turn.at_is
    (λ start at. turn_way_at start turn.before turn.after turn.section turn.at turn.next at turn.takes))

-- where all are after a turn
pub turn_way_after_turn : (c : SharedCluster) (sections : List (List Instruction)) (p : ℕ) (ms ns : List Local) (all to : List TurnProgress)
    → AreAtRunSteps c sections ms all → IsTurnOfRun sections p ms ns all to → AreAtRunSteps c sections ns to
turn_way_after_turn c sections p ms ns all to way turn =
    turn_way_seen c sections turn.turned ns to (turn_way_after_own c sections p turn.seen turn.turned all to
    (turn_way_seen c sections ms turn.seen all way turn.first) turn.turn) turn.last

-- and after more of them
pub turn_ways_after_turns : (c : SharedCluster) (sections : List (List Instruction)) (ps : List ℕ) (ms ns : List Local)
    (all to : List TurnProgress) → AreAtRunSteps c sections ms all → AreRunTurns sections ps ms ns all to
    → AreAtRunSteps c sections ns to
turn_ways_after_turns c sections [] ms ns all to way turned =
    let P : List Local → List TurnProgress → Type 0 = λ xs ys. AreAtRunSteps c sections xs ys in
    subst₂ P (sym turned.0) (sym turned.1) way
turn_ways_after_turns c sections (p ∷ ps) ms ns all to way turned =
    turn_ways_after_turns c sections ps turned.0 ns turned.1 to (turn_way_after_turn c sections p ms turned.0 all turned.1 way turned.2)
    turned.3

-- where all are after rounds
pub turn_way_rounds : {c : SharedCluster} (s : Plan)
    (orders : ℕ → List ℕ) (k : ℕ) {ms ns : List Local} {start all : List TurnProgress} → AreAtRunSteps c s.sections ms start
    → AreRunTurnRounds s orders k ms start ns all → AreAtRunSteps c s.sections ns all
turn_way_rounds {c = c} s orders zero way rounds =
    let P : List Local → List TurnProgress → Type 0 = λ xs ys. AreAtRunSteps c s.sections xs ys in
    subst₂ P (sym rounds.0) (sym rounds.1) way
turn_way_rounds {c = c} s orders (suc k) {ns = ns} {all = all} way rounds =
    let round = rounds.3 in
    turn_way_seen c s.sections round.turned ns all (turn_ways_after_turns c s.sections (orders k) rounds.0 round.turned rounds.1 all
    (turn_way_rounds s orders k way rounds.2) round.turns) round.seen.on

-- who did nothing saw on
pub turn_way_sees_more : (m n : Local) → m ≡ n → HasOnlySeenRunTurns m n
turn_way_sees_more m n e = record {
  same = record {
    lock = ap (λ (x : Local). x.lock) (sym e);
    number = ap (λ (x : Local). x.number) (sym e);
    sizes = ap (λ (x : Local). x.sizes) (sym e);
  };
  sees = sees_more_calls_same m n (ap (λ (x : Local). x.seen) (sym e));
  calls_are = ap calls (sym e);
  block_is = ap (λ (x : Local). x.block) (sym e);
  awaits_is = ap (λ (x : Local). x.awaits) (sym e);
  uncut = ap (λ (x : Local). x.own_cut) (sym e);
}

-- and who saw on twice saw on
turn_way_sees_more_then : (l m n : Local) → HasOnlySeenRunTurns l m → HasOnlySeenRunTurns m n → HasOnlySeenRunTurns l n
turn_way_sees_more_then l m n first next = record {
  same = sees_more_calls_same_processor l m n first.same next.same;
  sees = sees_more_calls_then l m n first.sees next.sees;
  calls_are = next.calls_are ∙ first.calls_are;
  block_is = next.block_is ∙ first.block_is;
  awaits_is = next.awaits_is ∙ first.awaits_is;
  uncut = next.uncut ∙ first.uncut;
}

pub turn_way_same_on : (ms : List Local) → AreRunTurnsSeenOn ms ms
turn_way_same_on ms = record {
  all = refl;
  each = λ p m n here there. turn_way_sees_more m n (same_Some m n (sym here ∙ there));
}

pub turn_way_seen_same : (ms : List Local) → AreRunTurnsSeenAhead ms ms
turn_way_seen_same ms = record { on = turn_way_same_on ms; ahead = λ h. h }

pub turn_way_on_then : (ms ns os : List Local) → AreRunTurnsSeenOn ms ns → AreRunTurnsSeenOn ns os → AreRunTurnsSeenOn ms os
turn_way_on_then ms ns os first next = record {
  all = next.all ∙ first.all;
  each = λ p m o here there.
      let between = turn_way_was_at ns os p o next there in
      turn_way_sees_more_then m between.0 o (first.each p m between.0 here between.1) (next.each p between.0 o between.1 there);
}

pub turn_way_seen_then : (ms ns os : List Local) → AreRunTurnsSeenAhead ms ns → AreRunTurnsSeenAhead ns os → AreRunTurnsSeenAhead ms os
turn_way_seen_then ms ns os first next =
    record { on = turn_way_on_then ms ns os first.on next.on; ahead = λ h. next.ahead (first.ahead h) }

-- where all are between two rounds, and the generator then
pub record IsOnTurnWayBetweenRounds (c : SharedCluster) (s : Plan) (seed : Option ℕ) (old new : List Local) (start all : List TurnProgress)
    (generator : Option Lcg) : Type 0 where
  pub gone : HaveGoneOnInRunTurns c s seed old new start all
  pub drawn_is : generator ≡ round_order_generator_after seed s.processors gone.count

-- before the first one
pub turn_way_before_rounds : (c : SharedCluster) (s : Plan) (seed : Option ℕ) (ms : List Local) (all : List TurnProgress)
    (generator : Option Lcg) → AreAtRunSteps c s.sections ms all → generator ≡ round_order_generator seed
    → IsOnTurnWayBetweenRounds c s seed ms ms all all generator
turn_way_before_rounds c s seed ms all generator way is =
    record { gone = record { way = way; count = 0; rounds = (refl, refl) }; drawn_is = is }

-- and after one more
pub turn_way_next_round : {c : SharedCluster} {s : Plan} {seed : Option ℕ} {ms ns turned os : List Local}
    {start all to : List TurnProgress} {old new : Option Lcg} {n : ℕ} (list : List ℕ) → c.sizes ≡ plan_sizes s
    → n ≡ c.sizes.processors → IsOnTurnWayBetweenRounds c s seed ms ns start all old → list ≡ (round_order_drawn old n).0
    → new ≡ (round_order_drawn old n).1 → AreRunTurns s.sections list ns turned all to → AreRunTurnsSeenAhead turned os
    → IsOnTurnWayBetweenRounds c s seed ms os start to new
turn_way_next_round {c = c} {s = s} {seed = seed} {ns = ns} {turned = turned} {os = os} {all = all} {to = to} {new = new} list sizes many was order state turns seen =
    let count = many ∙ ap (λ (x : Sizes). x.processors) sizes in
    let gone = was.gone in
    let k = gone.count in
    let P : Option Lcg → ℕ → Type 0 = λ g m. list ≡ (round_order_drawn g m).0 in
    let Q : Option Lcg → ℕ → Type 0 = λ g m. new ≡ (round_order_drawn g m).1 in
    let order_is : list ≡ ordered_turns_of_seed s seed k = subst₂ P was.drawn_is count order in
    let R : List ℕ → Type 0 = λ ps. AreRunTurns s.sections ps ns turned all to in
    record {
      gone = record {
        way = turn_way_seen c s.sections turned os to (turn_ways_after_turns c s.sections list ns turned all to gone.way turns) seen.on;
        count = suc k;
        rounds = (ns, all, gone.rounds, record { turned = turned; turns = subst R order_is turns; seen = seen });
      };
      drawn_is = subst₂ Q was.drawn_is count state;
    }

-- a turn, told as one of those that are taken
pub turn_way_one_taken : (sections : List (List Instruction)) (p : ℕ) (ms ns os : List Local) (all to : List TurnProgress)
    → AreRunTurnsSeenAhead ms ns → IsTurnOfRun sections p ns os all to → AreRunTurnsTaken sections (p ∷ []) ms os all to
turn_way_one_taken sections p ms ns os all to on turn = (ns, os, to, on, turn, (turn_way_seen_same os, refl))

-- those who saw on first take the same turns
turn_ways_taken_after : (sections : List (List Instruction)) (ps : List ℕ) (ms ns os : List Local) (all to : List TurnProgress)
    → AreRunTurnsSeenAhead ms ns → AreRunTurnsTaken sections ps ns os all to → AreRunTurnsTaken sections ps ms os all to
turn_ways_taken_after sections [] ms ns os all to on taken = (turn_way_seen_then ms ns os on taken.0, taken.1)
turn_ways_taken_after sections (p ∷ ps) ms ns os all to on taken =
    (taken.0, taken.1, taken.2, turn_way_seen_then ms ns taken.0 on taken.3, taken.4, taken.5)

-- turns that are taken, and then more of them
pub turn_ways_taken-append : (sections : List (List Instruction)) (ps qs : List ℕ) (ms ns os : List Local) (all to end : List TurnProgress)
    → AreRunTurnsTaken sections ps ms ns all to → AreRunTurnsTaken sections qs ns os to end → AreRunTurnsTaken sections (ps ++ qs) ms os all end
turn_ways_taken-append sections [] qs ms ns os all to end first next =
    let P : List TurnProgress → Type 0 = λ xs. AreRunTurnsTaken sections qs ms os xs end in
    subst P first.1 (turn_ways_taken_after sections qs ms ns os to end first.0 next)
turn_ways_taken-append sections (p ∷ ps) qs ms ns os all to end first next = (
  first.0,
  first.1,
  first.2,
  first.3,
  first.4,
  turn_ways_taken-append sections ps qs first.1 ns os first.2 to end first.5 next,
)

-- where all are after turns that are taken
pub turn_ways_taken : (c : SharedCluster) (sections : List (List Instruction)) (ps : List ℕ) (ms ns : List Local)
    (all to : List TurnProgress) → AreAtRunSteps c sections ms all → AreRunTurnsTaken sections ps ms ns all to
    → AreAtRunSteps c sections ns to
turn_ways_taken c sections [] ms ns all to way taken =
    let P : List TurnProgress → Type 0 = λ xs. AreAtRunSteps c sections ns xs in
    subst P (sym taken.1) (turn_way_seen c sections ms ns all way taken.0.on)
turn_ways_taken c sections (p ∷ ps) ms ns all to way taken =
    turn_ways_taken c sections ps taken.1 ns taken.2 to
    (turn_way_after_turn c sections p taken.0 taken.1 all taken.2 (turn_way_seen c sections ms taken.0 all way taken.3.on) taken.4) taken.5

-- who looked in vain saw on
pub turn_way_look_seen : (m n : Local) (taken : Bool) → IsRunCallOfTake m n taken → taken ≡ false → HasOnlySeenRunTurns m n
turn_way_look_seen m n taken took vain =
    let none = took.no vain in
    record {
      same = took.same;
      sees = took.sees;
      calls_are = none.calls_are;
      block_is = none.block_is;
      awaits_is = none.awaits_is;
      uncut = took.uncut;
    }

-- and so all did, if one of them
pub turn_way_one_seen : (ms : List Local) (p : ℕ) (m x : Local) → slice_get ms p ≡ Some m → HasOnlySeenRunTurns m x
    → AreRunTurnsSeenOn ms (slice_set ms p x)
turn_way_one_seen ms p m x here on = record { all = length-set ms p x; each = each }
  where
    each : (q : ℕ) (y z : Local) → slice_get ms q ≡ Some y → slice_get (slice_set ms p x) q ≡ Some z → HasOnlySeenRunTurns y z
    each q y z before after = elim (cases_eq q p) [
      | inl is ↦ (let M : ℕ → Type 0 = λ k. slice_get ms k ≡ Some y in
          let N : ℕ → Type 0 = λ k. slice_get (slice_set ms p x) k ≡ Some z in
          let one = same_Some m y (sym here ∙ subst M is before) in
          let two = slice_get-set_found ms p x z (subst N is after) in
          let P : Local → Local → Type 0 = λ a b. HasOnlySeenRunTurns a b in
          subst₂ P one two on)
      | inr isnt ↦ turn_way_sees_more y z (same_Some y z (sym before ∙ sym (slice_get-set_other ms p q x isnt) ∙ after))
    ]

-- what is put where it was changes nothing
pub turn_way_set_same : {A : Type 0} (xs : List A) (p : ℕ) (x y : A) → slice_get xs p ≡ Some x → y ≡ x → slice_set xs p y ≡ xs
turn_way_set_same [] p x y here is = refl
turn_way_set_same (z ∷ xs) zero x y here is = ap (λ w. w ∷ xs) (is ∙ sym (same_Some z x here))
turn_way_set_same (z ∷ xs) (suc p) x y here is = ap (λ ws. z ∷ ws) (turn_way_set_same xs p x y here is)

-- a script has some processor
pub turn_way_some_of : (s : Plan) (c : SharedCluster) (ms : List Local) (all : List TurnProgress) → IsLawful s → c.sizes ≡ plan_sizes s
    → AreAtRunSteps c s.sections ms all → 0 < length ms
turn_way_some_of s c ms all lawful sizes way =
    let some = lawful.but_uneven.sizes.some_processors in
    let same = ap (λ (x : Sizes). x.processors) sizes in
    let many = way.many in
    omega arith

-- who caught up alone saw on
pub turn_way_sees_turns_on : (ms ns : List Local) (p q : ℕ) → SeesRunTurnsOf ms p q ns → AreRunTurnsSeenOn ms ns
turn_way_sees_turns_on ms ns p q up =
    let P : List Local → Type 0 = λ xs. AreRunTurnsSeenOn ms xs in
    subst P (sym up.new_is) (turn_way_one_seen ms p up.before up.after up.before_is up.on)

-- what stands where, once one was changed
turn_way_changed : (ms : List Local) (p : ℕ) (x : Local) (P : Local → Type 0) → P x → ((q : ℕ) (y : Local) → slice_get ms q ≡ Some y
    → P y) → (q : ℕ) (y : Local) → slice_get (slice_set ms p x) q ≡ Some y → P y
turn_way_changed ms p x P new others q y here = elim (cases_eq q p) [
  | inl is ↦ (let N : ℕ → Type 0 = λ k. slice_get (slice_set ms p x) k ≡ Some y in
      subst P (slice_get-set_found ms p x y (subst N is here)) new)
  | inr isnt ↦ others q y (sym (slice_get-set_other ms p q x isnt) ∙ here)
]

-- those of one lock are of it still, once one of them had its turn
pub turn_way_locks : {lock : ChairLockId} (ms : List Local) (p : ℕ) {m : Local} (x : Local) (section : List Instruction) (at to : TurnProgress) → slice_get ms p ≡ Some m → RunTurnMakes section m at x to
    → ((q : ℕ) (y : Local) → slice_get ms q ≡ Some y → y.lock ≡ lock) → (q : ℕ) (y : Local)
    → slice_get (slice_set ms p x) q ≡ Some y → y.lock ≡ lock
turn_way_locks {lock = lock} ms p {m = m} x section at to here takes locks =
    turn_way_changed ms p x (λ y. y.lock ≡ lock) ((turn_way_taken_same section m x at to takes).lock ∙ locks p m here) locks

-- the first of those who are there
turn_way_first_of : (ms : List Local) (q : ℕ) (x : Local) → slice_get ms q ≡ Some x → (m : Local) × (slice_get ms 0 ≡ Some m)
turn_way_first_of ms q x here =
    let within = slice_get_within ms q x here in
    (get_or ms 0 x, slice_get-get_or ms 0 x (omega arith))

-- who caught up with the first has seen all, if that had
turn_way_sees_turns_latest : (ms ns : List Local) (p : ℕ) → SeesRunTurnsOf ms p 0 ns → HasSeenAllRunTurns ms 0 → HasSeenAllRunTurns ns p
turn_way_sees_turns_latest ms ns p up ahead m at q x here =
    let within = slice_get_within ms p up.before up.before_is in
    let M : List Local → Type 0 = λ xs. slice_get xs p ≡ Some m in
    let X : List Local → Type 0 = λ xs. slice_get xs q ≡ Some x in
    let mine = slice_get-set_found ms p up.after m (subst M up.new_is at) in
    let P : Local → Type 0 = λ y. SeesNoFewerRunCalls y up.after in
    let first = turn_way_first_of ms p up.before up.before_is in
    let all = turn_way_changed ms p up.after P (sees_more_calls_same up.after up.after refl)
    (λ k y there. sees_more_calls_then y first.0 up.after (ahead first.0 first.1 k y there) (up.beyond first.0 first.1)) q x
    (subst X up.new_is here) in
    let Q : Local → Type 0 = λ y. SeesNoFewerRunCalls x y in
    subst Q mine all

-- and then the first has, once it caught up with who had its turn then
turn_way_sees_turns_ahead : {sections : List (List Instruction)} {ms ns os : List Local} {p : ℕ} {all to : List TurnProgress}
    → HasSeenAllRunTurns ms p → IsRunTurnAlone sections p ms ns all to → SeesRunTurnsOf ns 0 p os → HasSeenAllRunTurns os 0
turn_way_sees_turns_ahead {ms = ms} {ns = ns} {p = p} {all = all} latest turn up m at q x here =
    let within = slice_get_within ms p turn.before turn.before_is in
    let M : List Local → Type 0 = λ xs. slice_get xs 0 ≡ Some m in
    let X : List Local → Type 0 = λ xs. slice_get xs q ≡ Some x in
    let mine = slice_get-set_found ns 0 up.after m (subst M up.new_is at) in
    let there : slice_get ns p ≡ Some turn.after =
    ap (λ xs. slice_get xs p) turn.new_is ∙ slice_get-set_same ms p turn.after within in
    let beyond = up.beyond turn.after there in
    let sees = turn_way_taken_sees turn.section turn.before turn.after turn.at turn.next turn.takes in
    let P : Local → Type 0 = λ y. SeesNoFewerRunCalls y turn.after in
    let turned = λ (k : ℕ) (y : Local) (is : slice_get ns k ≡ Some y).
    turn_way_changed ms p turn.after P (sees_more_calls_same turn.after turn.after refl)
    (λ i z has. sees_more_calls_then z turn.before turn.after (latest turn.before turn.before_is i z has) sees) k y
    (ap (λ xs. slice_get xs k) (sym turn.new_is) ∙ is) in
    let Q : Local → Type 0 = λ y. SeesNoFewerRunCalls y up.after in
    let all = turn_way_changed ns 0 up.after Q (sees_more_calls_same up.after up.after refl)
    (λ k y is. sees_more_calls_then y turn.after up.after (turned k y is) beyond) q x (subst X up.new_is here) in
    let R : Local → Type 0 = λ y. SeesNoFewerRunCalls x y in
    subst R mine all

-- a turn between two looks
pub turn_way_in_hand : {sections : List (List Instruction)} {ms seen turned ns : List Local} {p : ℕ}
    {all to : List TurnProgress} → SeesRunTurnsOf ms p 0 seen → IsRunTurnAlone sections p seen turned all to
    → SeesRunTurnsOf turned 0 p ns → IsTurnOfRun sections p ms ns all to
turn_way_in_hand {ms = ms} {seen = seen} {turned = turned} {ns = ns} {p = p} before turn after = record {
  seen = seen;
  turned = turned;
  first = turn_way_sees_turns_on ms seen p 0 before;
  turn = turn;
  last = turn_way_sees_turns_on turned ns 0 p after;
  latest = turn_way_sees_turns_latest ms seen p before;
  ahead = λ ahead. turn_way_sees_turns_ahead (turn_way_sees_turns_latest ms seen p before ahead) turn after;
}
