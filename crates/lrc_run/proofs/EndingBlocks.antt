-- How the history ends: with the blocks that are open.
use Rattle.std.proofs.Common.{ℕ, suc, ◌≡◌, ◌<◌, Some, List, [], ◌∷◌, ◌++◌, length, map, slice_get, slice_set, refl, sym, ap, ap₂, subst₂, ◌∙◌, append_assoc, arith}
use Rattle.std.specs.List.{flat_map}
use Rattle.std.proofs.lemmas.Option.{none-some, same_Some}
use Rattle.journal.specs.declared.event.Event.{Event}
use Rattle.journal.specs.declared.event.Kind.{Kind}
use Rattle.journal.specs.DidEvent.{event}
use Rattle.journal.specs.Log.{Log}
use Rattle.journal.specs.Sizes.{Sizes}
use Rattle.lrc_script.specs.Plan.{Plan}
use Rattle.conformance.specs.Follows.{plan_sizes}
use Rattle.conformance.specs.OpenBlocks.{OpenBlockNotesAll, OpenBlock, open_block_handed_in, open_block}
use Rattle.conformance.proofs.SameTurns.NotedBlocks.{noted_block_calls_go_on}
use Rattle.cluster.specs.Copies.Local.{Local}
use Rattle.cluster.specs.NewClusters.{SharedCluster}
use Rattle.cluster.specs.Finishing.{AreAllToFinish, IsFinished}
use Rattle.lrc_run.specs.FollowedEnds.{FollowedEndHasBlocks}
use Rattle.lrc_run.specs.RunTurns.{HasSeenAllRunTurns}
use Rattle.lrc_run.specs.RunCalls.{HasRunCallsAndFetches, SeesOwnRunCalls, run_calls_open}
use Rattle.lrc_run.proofs.TurnStages.{AreTurnStageEventsOfThese, turn_stages_goes_on, turn_stages_is, turn_stages_own, turn_stages_part, turn_stages_part_seen, turn_stages_these_front}
use Rattle.lrc_run.proofs.CallsInBlock.{calls_in_block_own_kinds}

-- the first of some processors, and the others
ending_blocks_first : (ms : List Local) → 0 < length ms → (m : Local) × (others : List Local) × (ms ≡ m ∷ others)
ending_blocks_first [] some = absurd (omega (arith, some))
ending_blocks_first (m ∷ ms) some = (m, ms, refl)

-- a finished cluster's history ends with the open blocks
pub ending_blocks_of_finished : (s : Plan) (c : SharedCluster) (ms : List Local) (j : Log) → 0 < s.processors → c.sizes ≡ plan_sizes s
    → AreAllToFinish c ms → (fin : IsFinished c.sizes ms j) → FollowedEndHasBlocks s ms [] fin.history
ending_blocks_of_finished s c ms j some sizes all fin = record {
  front = front;
  goes_on = fin.goes_on;
  first = parts.0;
  others = parts.1;
  all = parts.2;
  last = open_block front (map (λ (e : Event). e.kind) parts.0.block);
  noted = refl;
  is = fin.in_turn.1 ∙ ap (λ xs. front ++ flat_map (λ (m : Local). m.block) xs) parts.2
      ∙ sym (append_assoc front parts.0.block (flat_map (λ (m : Local). m.block) parts.1))
      ∙ ap (λ es. (front ++ es) ++ flat_map (λ (m : Local). m.block) parts.1)
      (sym (calls_in_block_own_kinds 0 parts.0.block (fin.own 0 parts.0 (here 0 parts.0 refl))));
  own = λ p m at. fin.own (suc p) m (here (suc p) m at);
}
  where
    front : List Event
    front = fin.in_turn.0

    parts : (m : Local) × (others : List Local) × (ms ≡ m ∷ others)
    parts =
        let many : length ms ≡ s.processors = all.all ∙ ap (λ (x : Sizes). x.processors) sizes in
        ending_blocks_first ms (omega (arith, some, many))

    here : (p : ℕ) (m : Local) → slice_get (parts.0 ∷ parts.1) p ≡ Some m → slice_get ms p ≡ Some m
    here p m at = ap (λ xs. slice_get xs p) parts.2 ∙ at

-- what goes on from what each has seen is the front of it
pub ending_blocks_from_front : {s : Plan} {ms : List Local} {kinds : List Kind} {h : List Event} (ends : FollowedEndHasBlocks s ms kinds h)
    → (rest : List Event) × (h ≡ ends.front ++ rest)
ending_blocks_from_front {s = s} {kinds = kinds} ends =
    let start = open_block ends.front (map (λ (e : Event). e.kind) ends.first.block) in
    let more = noted_block_calls_go_on (plan_sizes s) 0 kinds start ends.last ends.noted in
    let pending = map (event 0) ends.last.pending in
    let blocks = flat_map (λ (m : Local). m.block) ends.others in (
      more.0 ++ (pending ++ blocks),
      ends.is ∙ append_assoc ends.last.history pending blocks ∙ ap (λ es. es ++ (pending ++ blocks)) more.1
          ∙ append_assoc ends.front more.0 (pending ++ blocks),
    )

-- so it does where processor 0, which had seen all, made some calls more
pub ending_blocks_before_loads : {s : Plan} {ms : List Local} {m n : Local} {kinds : List Kind} {h : List Event}
    → length ms ≡ s.processors → ((q : ℕ) (x : Local) → slice_get ms q ≡ Some x → x.number ≡ q) → m.sizes ≡ plan_sizes s
    → slice_get ms 0 ≡ Some m → HasRunCallsAndFetches m n kinds → AreTurnStageEventsOfThese s.processors h → HasSeenAllRunTurns ms 0
    → FollowedEndHasBlocks s (slice_set ms 0 n) [] h → FollowedEndHasBlocks s ms kinds h
ending_blocks_before_loads {ms = []} {m = m} many number sizes at made these latest ends = absurd (none-some m at)
ending_blocks_before_loads {s = s} {ms = (x ∷ xs)} {m = m} {n = n} {kinds = kinds} {h = h} many number sizes at made these latest ends = record {
  front = m.seen;
  goes_on = turn_stages_goes_on s.processors 0 (x ∷ xs) (n ∷ xs) m n ends.front at refl made.sees made.same.number latest many number
      ends.goes_on few;
  first = m;
  others = xs;
  all = ap (λ y. y ∷ xs) (same_Some x m at);
  last = run_calls_open n;
  noted = subst₂ (λ sizes p. OpenBlockNotesAll sizes p kinds (run_calls_open m) (run_calls_open n)) sizes (number 0 m at)
      (made.noted own);
  is = ends.is
      ∙ ap₂ (λ (b : OpenBlock) (ls : List Local). open_block_handed_in 0 b ++ flat_map (λ (l : Local). l.block) ls)
      (ends.noted ∙ ap₂ (λ (es : List Event) (l : Local). open_block es (map (λ (e : Event). e.kind) l.block)) (whole ∙ seen) (sym first))
      (sym others);
  own = λ p l here. ends.own p l (ap (λ ls. slice_get ls p) (sym others) ∙ here);
}
  where
    few : AreTurnStageEventsOfThese s.processors ends.front
    few = let rest = ending_blocks_from_front ends in turn_stages_these_front s.processors h ends.front rest.0 rest.1 these

    first : n ≡ ends.first
    first = let all = ends.all in cc

    others : xs ≡ ends.others
    others = let all = ends.all in cc

    part : List Event
    part = turn_stages_part s.processors 0 (x ∷ xs) (n ∷ xs) m n ends.front at refl made.sees made.same.number latest many number ends.goes_on
        few

    whole : ends.front ≡ m.seen ++ part
    whole = turn_stages_is s.processors 0 (x ∷ xs) (n ∷ xs) m n ends.front at refl made.sees made.same.number latest many number
        ends.goes_on few

    seen : m.seen ++ part ≡ n.seen
    seen = turn_stages_part_seen s.processors 0 (x ∷ xs) (n ∷ xs) m n ends.front at refl made.sees made.same.number latest many number
        ends.goes_on few

    own : SeesOwnRunCalls m n
    own = (
      part,
      λ k e found. turn_stages_own s.processors 0 (x ∷ xs) (n ∷ xs) m n ends.front at refl made.sees made.same.number latest many number
          ends.goes_on few k e found ∙ sym (number 0 m at),
      sym seen,
    )
