-- The laws of what is left after a cut.
use Rattle.std.proofs.Common.{◌≡◌, ℕ, ◌+◌, ◌<◌, inl, inr, ◌↔◌, List, ◌++◌, length, replicate, subst, sym, refl}
use Rattle.std.proofs.lemmas.List.{length-replicate}
use Rattle.journal.specs.declared.event.Event.{Event}
use Rattle.journal.specs.declared.event.Kind.TheVariants.{Load}
use Rattle.journal.specs.DidEvent.{event}
use Rattle.journal.specs.Sizes.{Sizes, addresses}
use Rattle.journal.specs.Events.{EventAt}
use Rattle.journal.specs.HappensBeforeEdges.{HappensBefore}
use Rattle.journal.specs.WellFormed.{Does, WellFormed}
use Rattle.journal.specs.Pasts.{InPast}
use Rattle.journal.specs.ExplainedAnswers.{Explained}
use Rattle.journal.specs.ReplayMemory.{memory_after, Replays}
use Rattle.journal.specs.PageImages.{Lawful}
use Rattle.journal.specs.Base.{Base}
use Rattle.journal.specs.WellFormedFromBase.{IsAwayFromBase}
use Rattle.journal.specs.ExplainedAnswersFromBase.{ExplainedFromBase}
use Rattle.journal.specs.PageImagesFromBase.{LawfulPageImageFromBase}
use Rattle.journal.specs.EpisodeBases.{IsEpisodeBaseOf}
use Rattle.journal.specs.BaseLaws.{BaseLawSaysTheSame, SameBaseLaw, WellFormedBaseLaw, BaseLawReplays, FlatBaseLaw, CopyBaseLaw, CutTwiceBaseLaw, NoBaseLaw}
use Rattle.base.proofs.LastWritten.{length-written}
use Rattle.journal.proofs.Order.EventPlacesAndCounts.{event_place_inside, event_place_behind}
use Rattle.journal.proofs.Journals.WellFormedStays.{well_formed_stays_front, well_formed_stays_last_or_none}
use Rattle.journal.proofs.Flat.FlatBeforeRace.{flat_race_free, flat_race_free_from_base, flat_before_race_from_base}
use Rattle.journal.proofs.FromBase.OrderOfLeft.{IsEvenOrderOfLeft, order_of_left_same, order_of_left_past, order_of_left_past_back}
use Rattle.journal.proofs.FromBase.CutBeforeLeft.{CutBeforeLeftCase, cut_before_left_case, cut_before_left_even, cut_before_left_present, cut_before_left}
use Rattle.journal.proofs.FromBase.WellFormedAfterCut.{well_formed_after_cut, well_formed_after_cut_back}
use Rattle.journal.proofs.FromBase.RacesAcrossCut.{race_across_cut_from_base, race_across_cut_back, race_across_cut_none, race_across_cut_free, first_race}
use Rattle.journal.proofs.FromBase.ExplainedByLast.{explained_by_last_same}
use Rattle.journal.proofs.FromBase.PageCopies.{page_copy_lawful_from_base}
use Rattle.journal.proofs.FromBase.CutAgain.{cut_again_replays, cut_again_base_after}
use Rattle.journal.proofs.FromBase.Uncut.{uncut_base, uncut_order, uncut_past, uncut_race, uncut_explained, uncut_well_formed, uncut_lawful}

module _ (s : Sizes) (b : Base) (c j : List Event) (well : WellFormed s (c ++ j))
    (base : IsEpisodeBaseOf s.processors (addresses s) c b) where
  cut_law_well_formed : WellFormed s c
  cut_law_well_formed = well_formed_stays_front s c j well

  cut_law_case : CutBeforeLeftCase s.processors b c
  cut_law_case = cut_before_left_case s c b cut_law_well_formed base

  cut_law_even : (n : ℕ) × IsEvenOrderOfLeft b c j n
  cut_law_even = cut_before_left_even s.processors c j b cut_law_case (cut_before_left_present s c j well)

  cut_law_before : (i k : ℕ) → i < length c → k < length j → HappensBefore (c ++ j) i (length c + k)
  cut_law_before = cut_before_left s c j b well cut_law_case

  cut_law_explained : Explained (c ++ j) ↔ (Explained c × ExplainedFromBase b j)
  cut_law_explained = explained_by_last_same s c j b cut_law_even.0 cut_law_well_formed base cut_law_even.1 cut_law_before

  cut_law_memory : Replays (memory_after (replicate (addresses s) 0) c) j ↔ Replays b.memory j
  cut_law_memory = (
    (λ h. subst (λ ws. Replays ws j) (sym base.after.memory) h),
    (λ h. subst (λ ws. Replays ws j) base.after.memory h),
  )

  cut_law_replays : Replays (replicate (addresses s) 0) (c ++ j)
      ↔ (Replays (replicate (addresses s) 0) c × Replays b.memory j)
  cut_law_replays =
      let parts = cut_again_replays (replicate (addresses s) 0) c j in
      ((λ h. let both = parts.0 h in (both.0, cut_law_memory.0 both.1)), (λ both. parts.1 (both.0, cut_law_memory.1 both.1)))

  pub cut_law_says_the_same : BaseLawSaysTheSame s b c j
  cut_law_says_the_same = record {
    cut_before = cut_law_before;
    order = order_of_left_same b c j cut_law_even.0 cut_law_even.1;
    pasts = λ p i. (order_of_left_past b c j cut_law_even.0 cut_law_even.1 p i, order_of_left_past_back b c j cut_law_even.0 cut_law_even.1 p i);
    races = λ i k. (race_across_cut_from_base b c j cut_law_even.0 cut_law_even.1 i k, race_across_cut_back b c j cut_law_even.0 cut_law_even.1 i k);
    first_race = first_race b c j cut_law_even.0 cut_law_even.1 (race_across_cut_none c j cut_law_before base.race_free);
    race_free = race_across_cut_free b c j cut_law_even.0 cut_law_even.1 (race_across_cut_none c j cut_law_before base.race_free);
    explained = cut_law_explained;
    replays = cut_law_replays;
  }

  cut_law_in_range : (i p a v : ℕ) → Does j i p (Load a v) → a < length b.memory
  cut_law_in_range i p a v does =
      let lt = (well (length c + i) (event p (Load a v)) (event_place_behind c j i (event p (Load a v)) does)).in_range in
      rw (base.after.memory, length-written, length-replicate) lt

  pub cut_law_replays_from_base : Explained (c ++ j) → BaseLawReplays s b c j
  cut_law_replays_from_base all = let parts = cut_law_explained.0 all in record {
    cut =
        flat_race_free (addresses s) c (λ i p a v does. (cut_law_well_formed i (event p (Load a v)) does).in_range) parts.0
        base.race_free;
    left = λ free. flat_race_free_from_base b j cut_law_in_range parts.1 free;
    up_to = λ i k first. flat_before_race_from_base b j i k cut_law_in_range parts.1 first;
  }

  cut_law_known : (p m : ℕ) (e : Event) → EventAt j m e → e.processor ≡ p → (i : ℕ) → i < length c → InPast (c ++ j) p i
  cut_law_known p m e at mine i lt =
      record {
        own = length c + m;
        event = e;
        at = event_place_behind c j m e at;
        mine = mine;
        reaches = inr (cut_law_before i m lt (event_place_inside j m e at));
      }

  pub cut_law_copy_from_base : (p n : ℕ) (page : List ℕ) → ¬ IsAwayFromBase j p → n < s.pages → Lawful s (c ++ j) p n page
      → LawfulPageImageFromBase s b j p n page
  cut_law_copy_from_base p n page present lt lawful = elim (well_formed_stays_last_or_none j p) [
    | inr away ↦ absurd (present away)
    | inl x ↦ page_copy_lawful_from_base s c j b cut_law_even.0 cut_law_even.1 base.race_free base.after.memory cut_law_before p
        (cut_law_known p x.0 (event p x.1) x.2.does refl) n page lawful lt
  ]

pub same_cut_law : SameBaseLaw
same_cut_law s b c j well base = cut_law_says_the_same s b c j well base

pub well_formed_cut_law : WellFormedBaseLaw
well_formed_cut_law s b c j base = (
  (λ well. let cut = well_formed_stays_front s c j well in
      (cut, well_formed_after_cut s c b cut (cut_before_left_case s c b cut base) base j well)),
  (λ both. well_formed_after_cut_back s c b both.0 (cut_before_left_case s c b both.0 base) base j both.1),
)

pub flat_cut_law : FlatBaseLaw
flat_cut_law s b c j well cut_law_explained base = cut_law_replays_from_base s b c j well base cut_law_explained

pub copy_cut_law : CopyBaseLaw
copy_cut_law s b c j p n page well base present lt lawful = cut_law_copy_from_base s b c j well base p n page present lt lawful

pub cut_twice_law : CutTwiceBaseLaw
cut_twice_law s b after c d well base ends free kept = cut_again_base_after s c d b after well base ends free kept

pub no_cut_law : NoBaseLaw
no_cut_law s j = record {
  base = uncut_base s.processors (addresses s);
  order = uncut_order (addresses s) j;
  pasts = uncut_past (addresses s) j;
  well_formed = uncut_well_formed s j;
  explained = uncut_explained (addresses s) j;
  races = uncut_race (addresses s) j;
  copies = λ p n page lt. uncut_lawful s j p n page lt;
}
