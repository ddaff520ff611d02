-- What C hands in, and what it stands for.
use Rattle.std.specs.Prelude.{ℕ, ◌==◌, ◌<◌, All, List, [], ◌∷◌, None, false, slice_index_or}
use Rattle.journal.specs.declared.event.Event.{Event}
use Rattle.journal.specs.declared.event.Kind.{Kind}
use Rattle.journal.specs.declared.event.Kind.TheVariants.{Load, Store, Fetch, Ask, Acquire, Release, Arrive, Depart, Set, Watch, Await}
use Rattle.journal.specs.Sizes.{Sizes}
use Rattle.judge.specs.declared.models.MemoryModel.{MemoryModel}
use Rattle.judge.specs.declared.models.MemoryModel.TheVariants as model
use Rattle.lrc_check.specs.declared.checked.Rules.{Rules}
use Rattle.c_library.specs.declared.given.GivenEvent.{GivenEvent}
use Rattle.c_library.specs.declared.given.GivenRules.{GivenRules}
use Rattle.c_library.specs.declared.given.GivenSizes.{GivenSizes}

-- as the definitions of journals have them
abbrev pub given_sizes : GivenSizes → Sizes
given_sizes s = record { processors = s.processors; pages = s.pages; words = s.words; locks = s.locks; flags = s.flags }

-- the kinds of events, in the order of their numbers
abbrev pub given_kinds_of : GivenEvent → List Kind
given_kinds_of e =
    Load e.number e.value ∷ (Store e.number e.value ∷ (Fetch e.writers e.number e.records e.words ∷ (Ask e.number
    ∷ (Acquire e.number ∷ (Release e.number ∷ (Arrive ∷ (Depart ∷ (Set e.number ∷ (Watch e.number ∷ (Await e.number
    ∷ []))))))))))

-- the kind that its number names
abbrev pub given_kind_of : GivenEvent → Kind
given_kind_of e = slice_index_or (given_kinds_of e) e.kind (Await e.number)

abbrev pub given_event_of : GivenEvent → Event
given_event_of e = record { processor = e.processor; kind = given_kind_of e }

-- there is such a kind
abbrev pub HasGivenKind : GivenEvent → Type 0
HasGivenKind e = e.kind < 11

abbrev pub HaveGivenKinds : List GivenEvent → Type 0
HaveGivenKinds es = All HasGivenKind es

-- the model that its number names
abbrev pub given_model_of : ℕ → MemoryModel
given_model_of m = slice_index_or (model.RaceFree ∷ (model.HappensBefore ∷ (model.LazyRelease ∷ []))) m model.Sequential

abbrev pub given_rules_of : GivenRules → Rules
given_rules_of r = record { model = given_model_of r.model; lax = r.lax == 1; ends_at_race = r.ends_at_race == 1; locksets = None; all_races = false }

-- each number has a meaning
pub record AreGivenRules (r : GivenRules) : Type 0 where
  pub model : r.model < 4
  pub lax : r.lax < 2
  pub ends_at_race : r.ends_at_race < 2
