-- The history that a journal holds.
use Rattle.std.proofs.Common.{ℕ, List, [], ◌++◌, take, drop, subst, subst₂, sym, ap, ◌∙◌, append_assoc, arith}
use Rattle.std.proofs.lemmas.List.{take-append-drop, length-take-le}
use Rattle.journal.specs.declared.event.Event.{Event}
use Rattle.journal.specs.Sizes.{addresses}
use Rattle.journal.specs.WellFormed.{WellFormed}
use Rattle.journal.specs.Base.{Base}
use Rattle.journal.specs.EpisodeBases.{EndsBaseEpisode, IsEpisodeBaseOf}
use Rattle.journal.specs.Log.{Log, LogHoldsRestOfHistory}
use Rattle.journal.specs.HistoryLaws.{HistoryLawUncut, HistoryLaw}
use Rattle.journal.proofs.Journals.WellFormedStays.{well_formed_stays_front}
use Rattle.journal.proofs.FromBase.Uncut.{uncut_base}
use Rattle.journal.proofs.FromBase.CutAgain.{cut_again_base_after}

-- of a new journal nothing was cut off
pub history_after_no_cut_law : HistoryLawUncut
history_after_no_cut_law log h x = record {
  history = sym x.history;
  base = subst (IsEpisodeBaseOf log.processors log.addresses []) (sym x.whole) (uncut_base log.processors log.addresses);
  few = (let none = ap (λ (b : Base). b.cut) x.whole in omega arith);
}

-- a cut leaves the history as it was
pub history_after_cut_law : HistoryLaw
history_after_cut_law s old new c h of well x was = subst (λ (l : Log). LogHoldsRestOfHistory l (c ++ taken) h) (sym was.left) (record {
  history =
      x.history ∙ ap (λ (xs : List Event). c ++ xs) (sym (take-append-drop was.taken old.events))
      ∙ sym (append_assoc c taken (drop was.taken old.events));
  base =
      subst₂ (λ (p n : ℕ). IsEpisodeBaseOf p n (c ++ taken) new.base) (sym of.processors) (sym of.addresses_are)
      (cut_again_base_after s c taken old.base new.base well_taken base ends was.race_free was.base);
  few =
      (let cut = was.base.cut in let few = was.may.few in
      let long = length-take-le was.taken old.events was.may.place.within in omega arith);
})
  where
    taken : List Event
    taken = take was.taken old.events

    base : IsEpisodeBaseOf s.processors (addresses s) c old.base
    base = subst₂ (λ (p n : ℕ). IsEpisodeBaseOf p n c old.base) of.processors of.addresses_are x.base

    ends : EndsBaseEpisode s.processors taken
    ends = subst (λ p. EndsBaseEpisode p taken) of.processors was.may.place.ends

    well_taken : WellFormed s (c ++ taken)
    well_taken =
        well_formed_stays_front s (c ++ taken) (drop was.taken old.events) (subst (WellFormed s) (x.history
        ∙ ap (λ (xs : List Event). c ++ xs) (sym (take-append-drop was.taken old.events))
        ∙ sym (append_assoc c taken (drop was.taken old.events)))
        well)
