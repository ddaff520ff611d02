-- Where nothing was cut off, what is said from the base is what is said without one.
use Rattle.std.proofs.Common.{◌≡◌, ℕ, ◌<◌, inl, inr, ◌↔◌, List, [], replicate, subst, subst₂, sym, refl, ap, ◌∙◌, zero-add, arith}
use Rattle.std.proofs.lemmas.Option.{none-some}
use Rattle.journal.specs.declared.event.Event.{Event}
use Rattle.journal.specs.declared.event.Kind.TheVariants.{Store}
use Rattle.journal.specs.DidEvent.{event}
use Rattle.journal.specs.Sizes.{Sizes, addresses}
use Rattle.journal.specs.HappensBeforeEdges.{HappensBefore}
use Rattle.journal.specs.WellFormed.{WellFormed}
use Rattle.journal.specs.Pasts.{InPast}
use Rattle.journal.specs.ExplainedAnswers.{IsAnswer, Explained}
use Rattle.journal.specs.Races.{Race}
use Rattle.journal.specs.Base.{Base, no_base}
use Rattle.journal.specs.HappensBeforeFromBase.{HappensBeforeFromBase, InPastFromBase}
use Rattle.journal.specs.WellFormedFromBase.{WellFormedFromBase}
use Rattle.journal.specs.ExplainedAnswersFromBase.{IsAnswerFromBase, ExplainedFromBase}
use Rattle.journal.specs.RacesFromBase.{RaceFromBase}
use Rattle.journal.specs.PageImages.{page_image_after, Lawful}
use Rattle.journal.specs.PageImagesFromBase.{base_page_image, LawfulPageImageFromBase}
use Rattle.journal.specs.EpisodeBases.{IsEpisodeBaseOf}
use Rattle.base.proofs.SliceSets.{index-zeros}
use Rattle.journal.proofs.Journals.WellFormedStays.{well_formed_stays_start}
use Rattle.journal.proofs.FromBase.OrderOfLeft.{IsEvenOrderOfLeft, order_of_left_before, order_of_left_before_back, order_of_left_past, order_of_left_past_back}
use Rattle.journal.proofs.FromBase.CutBeforeLeft.{CutBeforeLeftCase}
use Rattle.journal.proofs.FromBase.CutBeforeLeft.CutBeforeLeftCase.{none}
use Rattle.journal.proofs.FromBase.BaseAppend.{base_append_nothing}
use Rattle.journal.proofs.FromBase.WellFormedAfterCut.{well_formed_after_cut, well_formed_after_cut_back}
use Rattle.journal.proofs.FromBase.PageCopies.{page_copy_kept}
use Rattle.journal.proofs.FromBase.RacesAcrossCut.{race_across_cut_from_base, race_across_cut_back}

-- no events leave no base
pub uncut_base : (processors size : ℕ) → IsEpisodeBaseOf processors size [] (no_base size)
uncut_base processors size = record {
  after = base_append_nothing (no_base size);
  ends = inl refl;
  race_free = λ i k r. none-some r.first r.first_at;
}

pub uncut_even : (size : ℕ) (j : List Event) → IsEvenOrderOfLeft (no_base size) [] j 0
uncut_even size j = record { arrivals = λ m e at. refl; departures = λ m e at. omega arith }

module _ (size : ℕ) (j : List Event) where
  pub uncut_order : (i k : ℕ) → HappensBefore j i k ↔ HappensBeforeFromBase (no_base size) j i k
  uncut_order i k = (
    (λ h. order_of_left_before (no_base size) [] j 0 (uncut_even size j) i k
        (subst₂ (HappensBefore j) (sym (zero-add i)) (sym (zero-add k)) h)),
    (λ h. subst₂ (HappensBefore j) (zero-add i) (zero-add k) (order_of_left_before_back (no_base size) [] j 0 (uncut_even size j) h)),
  )

  pub uncut_past : (p i : ℕ) → InPast j p i ↔ InPastFromBase (no_base size) j p i
  uncut_past p i = (
    (λ x. order_of_left_past (no_base size) [] j 0 (uncut_even size j) p i (subst (InPast j p) (sym (zero-add i)) x)),
    (λ x. subst (InPast j p) (zero-add i) (order_of_left_past_back (no_base size) [] j 0 (uncut_even size j) p i x)),
  )

  pub uncut_race : (i k : ℕ) → Race j i k ↔ RaceFromBase (no_base size) j i k
  uncut_race i k = (
    (λ r. race_across_cut_from_base (no_base size) [] j 0 (uncut_even size j) i k
        (subst₂ (Race j) (sym (zero-add i)) (sym (zero-add k)) r)),
    (λ r. subst₂ (Race j) (zero-add i) (zero-add k) (race_across_cut_back (no_base size) [] j 0 (uncut_even size j) i k r)),
  )

  uncut_answer_from : (k a v : ℕ) → IsAnswer j k a v → IsAnswerFromBase (no_base size) j k a v
  uncut_answer_from k a v (inl x) =
      inl (x.0 ∙ sym (index-zeros size a), λ i q w does h. x.1 i q w does ((uncut_order i k).1 h))
  uncut_answer_from k a v (inr l) =
      inr (record {
        place = l.place;
        by = l.by;
        stores = l.stores;
        before = (uncut_order l.place k).0 l.before;
        latest = λ i q w does h on. l.latest i q w does ((uncut_order i k).1 h)
            ((uncut_order l.place i).1 on);
      })

  uncut_answer_back : (k a v : ℕ) → IsAnswerFromBase (no_base size) j k a v → IsAnswer j k a v
  uncut_answer_back k a v (inl x) = inl (x.0 ∙ index-zeros size a, λ i q w does h. x.1 i q w does ((uncut_order i k).0 h))
  uncut_answer_back k a v (inr l) =
      inr (record {
        place = l.place;
        by = l.by;
        stores = l.stores;
        before = (uncut_order l.place k).1 l.before;
        latest = λ i q w does h on. l.latest i q w does ((uncut_order i k).0 h)
            ((uncut_order l.place i).0 on);
      })

  pub uncut_explained : Explained j ↔ ExplainedFromBase (no_base size) j
  uncut_explained = (
    (λ all k p a v does. uncut_answer_from k a v (all k p a v does)),
    (λ all k p a v does. uncut_answer_back k a v (all k p a v does)),
  )

pub uncut_well_formed : (s : Sizes) (j : List Event) → WellFormed s j ↔ WellFormedFromBase s (no_base (addresses s)) j
uncut_well_formed s j = (
  well_formed_after_cut s [] b (well_formed_stays_start s) sort (uncut_base s.processors (addresses s)) j,
  well_formed_after_cut_back s
      [] b (well_formed_stays_start s) sort (uncut_base s.processors (addresses s)) j,
)
  where
    b : Base
    b = no_base (addresses s)

    sort : CutBeforeLeftCase s.processors b []
    sort = none refl refl refl

-- a page of no base is zeros
uncut_zero_page : (s : Sizes) (n : ℕ) → n < s.pages → replicate s.words 0 ≡ base_page_image s (no_base (addresses s)) n
uncut_zero_page s n lt =
    page_copy_kept s [] n [] (λ i k r. none-some r.first r.first_at) (λ i.
    (λ has. absurd (none-some i has.1), λ x. absurd (none-some (event x.by (Store x.address x.value)) x.does)))
    (λ x y i k less at to. absurd (none-some i at)) lt

pub uncut_lawful : (s : Sizes) (j : List Event) (p n : ℕ) (page : List ℕ) → n < s.pages
    → Lawful s j p n page ↔ LawfulPageImageFromBase s (no_base (addresses s)) j p n page
uncut_lawful s j p n page lt = (
  (λ x. record {
    order = x.order;
    each =
        λ i. (
          (λ has. let y = (x.each i).0 has in ((uncut_past (addresses s) j p i).0 y.0, y.1)),
          (λ y. (x.each i).1 ((uncut_past (addresses s) j p i).1 y.0, y.1)),
        );
    once = x.once;
    extends = λ m o i k less at to h. x.extends m o i k less at to ((uncut_order (addresses s) j k i).1 h);
    gives = x.gives ∙ ap (λ (ws : List ℕ). page_image_after s j ws x.order) (uncut_zero_page s n lt);
  }),
  (λ x. record {
    order = x.order;
    each =
        λ i. (
          (λ has. let y = (x.each i).0 has in ((uncut_past (addresses s) j p i).1 y.0, y.1)),
          (λ y. (x.each i).1 ((uncut_past (addresses s) j p i).0 y.0, y.1)),
        );
    once = x.once;
    extends = λ m o i k less at to h. x.extends m o i k less at to ((uncut_order (addresses s) j k i).0 h);
    gives = x.gives ∙ ap (λ (ws : List ℕ). page_image_after s j ws x.order) (sym (uncut_zero_page s n lt));
  }),
)
