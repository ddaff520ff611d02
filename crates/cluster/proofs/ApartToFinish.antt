-- The processors at the end, taken apart.
use Rattle.std.proofs.Common.{append-nil, ℕ, ◌≡◌, ◌⊎◌, ◌<◌, Some, List, [], ◌∷◌, ◌++◌, length, map, take, sum_by, slice_get, slice_index_or, inl, inr, sym, ap, subst, subst₂, ◌∙◌, arith}
use Rattle.std.specs.List.{flat_map}
use Rattle.std.proofs.Math.Seq.{take-length}
use Rattle.std.proofs.lemmas.List.{length_push, length-map}
use Rattle.std.proofs.lemmas.Option.{slice_get_within, slice_get-get_or}
use Rattle.journal.specs.declared.event.Event.{Event}
use Rattle.journal.specs.Sizes.{Sizes}
use Rattle.journal.specs.Log.{Log}
use Rattle.base.proofs.SlicesAndCounts.{slice_push_cases}
use Rattle.turn.specs.Chairs.{lock, chair_place, chair_view, IsChairOutside, AreChairsInOrder}
use Rattle.turn.specs.declared.chair.ChairToken.{ChairToken}
use Rattle.book.specs.BookState.{BookState}
use Rattle.cluster.specs.Copies.Local.{Local}
use Rattle.cluster.specs.declared.keeper.View.{View}
use Rattle.cluster.specs.NewClusters.{SharedCluster}
use Rattle.cluster.specs.KeptViews.{KeptViewsInvariant, KeptWithViews, ExtendsView, all_kept_views_cut, view_having_seen}
use Rattle.cluster.specs.Finishing.{AreAllToFinish, IsDismantledToFinish, AreDismantledToFinish, AreBlocksToFinish, IsFinishing, IsFinished, IsToFinish}
use Rattle.cluster.proofs.FinishingLastBlocks.{last_blocks_mapped_at}
use Rattle.cluster.proofs.FaithfulHistory.{faithful_history, faithful_history_journal}
use Rattle.cluster.proofs.Sums.{same_sums}

-- one more is taken apart
pub apart_to_finish_more : (ms : List Local) (cs : List (ChairToken BookState View)) (bs : List (List Event)) (m : Local)
    (c : ChairToken BookState View) (b : List Event) → AreDismantledToFinish ms cs bs → IsDismantledToFinish m c b
    → AreDismantledToFinish (ms ++ m ∷ []) (cs ++ c ∷ []) (bs ++ b ∷ [])
apart_to_finish_more ms cs bs m c b are one = record {
  chairs = let x = length_push cs c in let y = length_push ms m in let z = are.chairs in omega arith;
  blocks_are = let x = length_push bs b in let y = length_push ms m in let z = are.blocks_are in omega arith;
  each = each;
}
  where
    each : (p : ℕ) (n : Local) (d : ChairToken BookState View) (block : List Event) → slice_get (ms ++ m ∷ []) p ≡ Some n
        → slice_get (cs ++ c ∷ []) p ≡ Some d → slice_get (bs ++ b ∷ []) p ≡ Some block → IsDismantledToFinish n d block
    each p n d block u v w = go (slice_push_cases ms m p n u) (slice_push_cases cs c p d v) (slice_push_cases bs b p block w)
      where
        chairs : length cs ≡ length ms
        chairs = are.chairs

        blocks : length bs ≡ length ms
        blocks = are.blocks_are

        go : ((p < length ms) × (slice_get ms p ≡ Some n)) ⊎ ((p ≡ length ms) × (m ≡ n))
            → ((p < length cs) × (slice_get cs p ≡ Some d)) ⊎ ((p ≡ length cs) × (c ≡ d))
            → ((p < length bs) × (slice_get bs p ≡ Some block)) ⊎ ((p ≡ length bs) × (b ≡ block)) → IsDismantledToFinish n d block
        go (inl x) (inl y) (inl z) = are.each p n d block x.1 y.1 z.1
        go (inr x) (inr y) (inr z) =
            subst (λ (k : Local). IsDismantledToFinish k d block) x.1
            (subst₂ (λ (k : ChairToken BookState View) (l : List Event). IsDismantledToFinish m k l) y.1 z.1 one)
        go (inl x) (inr y) z = let less = x.0 in let same = y.0 in absurd (omega (arith, less, same, chairs))
        go (inl x) (inl y) (inr z) = let less = x.0 in let same = z.0 in absurd (omega (arith, less, same, blocks))
        go (inr x) (inl y) z = let less = y.0 in let same = x.0 in absurd (omega (arith, less, same, chairs))
        go (inr x) (inr y) (inl z) = let less = z.0 in let same = x.0 in absurd (omega (arith, less, same, blocks))

module _ (c : SharedCluster) (ms : List Local) (cs : List (ChairToken BookState View)) (bs : List (List Event))
    (all : AreAllToFinish c ms) (are : AreDismantledToFinish ms cs bs) where
  -- the parts of the processor at this place
  record ApartToFinishAt (p : ℕ) (m : Local) : Type 0 where
    pub chair : ChairToken BookState View
    pub at : slice_get cs p ≡ Some chair
    pub apart : (block : List Event) → slice_get bs p ≡ Some block → IsDismantledToFinish m chair block
    pub block : List Event
    pub block_at : slice_get bs p ≡ Some block

  apart_to_finish_chair_at : (xs : List (ChairToken BookState View)) (p : ℕ) → p < length xs
      → (d : ChairToken BookState View) × (slice_get xs p ≡ Some d)
  apart_to_finish_chair_at [] p within = absurd (omega (arith, within))
  apart_to_finish_chair_at (x ∷ xs) p within = (slice_index_or (x ∷ xs) p x, slice_get-get_or (x ∷ xs) p x within)

  apart_to_finish_at : (p : ℕ) (m : Local) → slice_get ms p ≡ Some m → ApartToFinishAt p m
  apart_to_finish_at p m at =
      let within = slice_get_within ms p m at in
      let chairs = are.chairs in
      let blocks = are.blocks_are in
      let chair = apart_to_finish_chair_at cs p (omega arith) in
      let there = slice_get-get_or bs p [] (omega arith) in
      record {
        chair = chair.0;
        at = chair.1;
        apart = λ block here. are.each p m chair.0 block at chair.1 here;
        block = slice_index_or bs p [];
        block_at = there;
      }

  apart_to_finish_local_at : (xs : List Local) (p : ℕ) → p < length xs → (m : Local) × (slice_get xs p ≡ Some m)
  apart_to_finish_local_at [] p within = absurd (omega (arith, within))
  apart_to_finish_local_at (x ∷ xs) p within = (slice_index_or (x ∷ xs) p x, slice_get-get_or (x ∷ xs) p x within)

  -- their chairs are all of the lock's
  pub apart_to_finish_all_chairs : (n : ℕ) → n ≡ c.sizes.processors → AreChairsInOrder c.lock n cs
  apart_to_finish_all_chairs n same = (are.chairs ∙ all.all ∙ sym same, each)
    where
      each : (p : ℕ) (d : ChairToken BookState View) → slice_get cs p ≡ Some d
          → (lock d ≡ c.lock) × (chair_place d ≡ p) × IsChairOutside d
      each p d at =
          let within = slice_get_within cs p d at in
          let chairs = are.chairs in
          let blocks = are.blocks_are in
          let m = apart_to_finish_local_at ms p (omega arith) in
          let there = slice_get-get_or bs p [] (omega arith) in
          let apart = are.each p m.0 d (slice_index_or bs p []) m.1 at there in
          let mine = all.each p m.0 m.1 in
          (apart.lock_is ∙ mine.lock, apart.chair.place_is ∙ mine.number, apart.outside)

  -- their blocks
  pub apart_to_finish_all_blocks : AreBlocksToFinish ms bs
  apart_to_finish_all_blocks = record {
    all = are.blocks_are;
    each = λ p m block at there. (let x = apart_to_finish_at p m at in (x.apart block there).block_is);
  }

  module _ (b : BookState) (some : 0 < c.sizes.processors) (kept : KeptWithViews b (map chair_view cs)) where
    apart_to_finish_goes_on : (p : ℕ) (m : Local) → slice_get ms p ≡ Some m → ExtendsView kept.0 kept.1 p (view_having_seen m.sizes m.seen m.cut m.own_cut)
    apart_to_finish_goes_on p m at =
        let x = apart_to_finish_at p m at in
        let a = x.apart x.block x.block_at in
        let P : View → Type 0 = λ v. ExtendsView kept.0 kept.1 p v in
        subst P a.chair.view_is (kept.2.each p (chair_view x.chair) (last_blocks_mapped_at chair_view cs p x.chair x.at))

    apart_to_finish_sizes : kept.0 ≡ c.sizes
    apart_to_finish_sizes =
        let long = all.all in
        let m = apart_to_finish_local_at ms 0 (omega (arith, long, some)) in
        sym (apart_to_finish_goes_on 0 m.0 m.1).shape ∙ (all.each 0 m.0 m.1).sizes

    apart_to_finish_start : KeptViewsInvariant c.sizes kept.1 b (map chair_view cs)
    apart_to_finish_start = let P : Sizes → Type 0 = λ s. KeptViewsInvariant s kept.1 b (map chair_view cs) in subst P apart_to_finish_sizes kept.2

    -- what the chairs' own cuts took off, the processors' did
    apart_to_finish_own_cuts : all_kept_views_cut (map chair_view cs) ≡ sum_by (λ (m : Local). m.own_cut) ms
    apart_to_finish_own_cuts =
        same_sums (λ (v : View). v.own_cut) (λ (m : Local). m.own_cut) (map chair_view cs) ms
        (length-map cs chair_view ∙ are.chairs) own
      where
        own : (p : ℕ) (v : View) (m : Local) → slice_get (map chair_view cs) p ≡ Some v → slice_get ms p ≡ Some m
            → v.own_cut ≡ m.own_cut
        own p v m here at =
            let x = apart_to_finish_at p m at in
            let is : chair_view x.chair ≡ v = cc (last_blocks_mapped_at chair_view cs p x.chair x.at, here) in
            ap (λ (w : View). w.own_cut) (sym is ∙ (x.apart x.block x.block_at).chair.view_is)

    -- so all blocks are to come
    pub finishing_starts_apart : IsFinishing c.sizes ms 0 kept.1 b
    finishing_starts_apart = record {
      told = apart_to_finish_start.told;
      explained = apart_to_finish_start.explained;
      counted = apart_to_finish_start.counted;
      copied = apart_to_finish_start.copied;
      cuts = sym apart_to_finish_start.cuts ∙ apart_to_finish_own_cuts;
      room = let long = all.all in let owing = apart_to_finish_start.owing in rw (long) (omega arith);
      sound =
          λ p m at. (let x = apart_to_finish_at p m at in let a = x.apart x.block x.block_at in let mine = all.each p m at in
          (a.sound, mine.number, mine.sizes));
      done = λ p m before at. absurd (omega (arith, before));
      to_come = λ p m after at. to_come p m at;
      in_turn = (kept.1, sym (append-nil kept.1));
      goes_on = to_come;
    }
      where
        to_come : (p : ℕ) (m : Local) → slice_get ms p ≡ Some m → IsToFinish kept.1 m
        to_come p m at = let g = apart_to_finish_goes_on p m at in let mine = all.each p m at in record {
          rest = g.rest;
          begins = g.begins;
          away = λ k e here is. g.away k e here (is ∙ mine.number);
        }

-- what is finished
pub finished_apart : (s : Sizes) (ms : List Local) (h : List Event) (b : BookState) (j : Log) → IsFinishing s ms (length ms) h b
    → j ≡ record b.journal { room = j.room } → IsFinished s ms j
finished_apart s ms h b j fin same = record {
  history = h;
  taken = fin.told.holds.taken;
  journal = faithful_history_journal s h b j fin.told same;
  cuts =
      (let after = fin.told.holds.rest.base.after.cut in let cuts = fin.cuts in
      let whole : sum_by (λ (m : Local). m.own_cut) (take (length ms) ms) ≡ sum_by (λ (m : Local). m.own_cut) ms =
      ap (λ (xs : List Local). sum_by (λ (m : Local). m.own_cut) xs) (take-length ms) in
      omega arith);
  faithful = faithful_history s h fin.told.well_formed fin.explained fin.counted fin.copied;
  each = λ p m at. fin.done p m (slice_get_within ms p m at) at;
  in_turn = (
    fin.in_turn.0,
    fin.in_turn.1 ∙ ap (λ (xs : List Local). fin.in_turn.0 ++ flat_map (λ (m : Local). m.block) xs) (take-length ms),
  );
  goes_on = fin.goes_on;
  own = λ p m at k e here. (let sound = fin.sound p m at in (sound.0.inner k e here).mine ∙ sound.1);
}
