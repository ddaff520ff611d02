-- What C is told of a history.
use Rattle.std.specs.Prelude.{ℕ, ◌+◌, List, [], ◌∷◌, Option, Some, None, option_map, replicate, slice_set}
use Rattle.journal.specs.declared.traffic.Traffic.{Traffic}
use Rattle.judge.specs.declared.flat_memory.FlatStore.{FlatStore}
use Rattle.judge.specs.declared.ill_formed.IllFormed.{IllFormed}
use Rattle.judge.specs.declared.miscounted.Miscounted.{Miscounted}
use Rattle.judge.specs.declared.permitted.Permitted.{Permitted}
use Rattle.judge.specs.declared.permitted.Permitted.TheVariants.{One, Latest, Heard, Last}
use Rattle.judge.specs.declared.why.Why.{Why}
use Rattle.judge.specs.declared.why.Why.TheVariants.{HeldBy, AskedEarlier, NotArrived}
use Rattle.judge.specs.Why.{why_rank}
use Rattle.lrc_check.specs.declared.checked.Checked.{Checked}
use Rattle.lrc_check.specs.declared.checked.Lie.{Lie}
use Rattle.lrc_check.specs.declared.checked.Lie.TheVariants as lie
use Rattle.lrc_check.specs.declared.checked.TraceVerdict.{TraceVerdict}
use Rattle.lrc_check.specs.declared.checked.TraceVerdict.TheVariants as verdict
use Rattle.lrc_check.specs.declared.checked.Unexplained.{Unexplained}
use Rattle.c_library.specs.declared.told_verdict.TheConstants.{NONE}
use Rattle.c_library.specs.declared.told_verdict.ToldLie.{ToldLie}
use Rattle.c_library.specs.declared.told_verdict.ToldRace.{ToldRace}
use Rattle.c_library.specs.declared.told_verdict.ToldTraffic.{ToldTraffic}
use Rattle.c_library.specs.declared.told_verdict.ToldVerdict.{ToldVerdict}

-- the number, or the greatest one for none
abbrev pub told_verdict_number : Option ℕ → ℕ
told_verdict_number None = NONE
told_verdict_number (Some n) = n

-- whom a reason names
abbrev pub told_verdict_other : Why → ℕ
told_verdict_other (HeldBy q) = q
told_verdict_other (AskedEarlier q i) = q
told_verdict_other (NotArrived q) = q
told_verdict_other _ = NONE

-- the earlier place that it names
abbrev pub told_verdict_earlier : Why → ℕ
told_verdict_earlier (AskedEarlier q i) = i
told_verdict_earlier _ = NONE

-- there is no lie
abbrev pub told_verdict_no_lie : ToldLie
told_verdict_no_lie = record {
  why = 0;
  place = NONE;
  other = NONE;
  earlier = NONE;
  writers = 0;
  records = 0;
  words = 0;
  stores = replicate 16 NONE;
  last = NONE;
}

abbrev pub told_verdict_no_traffic : ToldTraffic
told_verdict_no_traffic = record { messages = 0; records = 0; words = 0 }

abbrev pub told_verdict_ill_formed : IllFormed → ToldLie
told_verdict_ill_formed x =
    record told_verdict_no_lie { why = 3 + why_rank x.why; place = x.place; other = told_verdict_other x.why; earlier = told_verdict_earlier x.why }

-- of each processor the place of this store, if it is that one's
abbrev pub told_verdict_store : Option FlatStore → List ℕ
told_verdict_store None = replicate 16 NONE
told_verdict_store (Some x) = slice_set (replicate 16 NONE) x.by x.place

-- these places, and of each processor that of its store among these
abbrev pub told_verdict_places_with : List ℕ → List FlatStore → List ℕ
told_verdict_places_with places [] = places
told_verdict_places_with places (x ∷ stores) = told_verdict_places_with (slice_set places x.by x.place) stores

abbrev pub told_verdict_stores : List FlatStore → List ℕ
told_verdict_stores stores = told_verdict_places_with (replicate 16 NONE) stores

-- a load, by its place and by what it may answer
abbrev pub told_verdict_load : ℕ → Permitted → ToldLie
told_verdict_load place (One store) = record told_verdict_no_lie { why = 1; place = place; stores = told_verdict_store store }
told_verdict_load place (Latest latest) = record told_verdict_no_lie { why = 1; place = place; stores = told_verdict_stores latest.items }
told_verdict_load place (Heard latest unordered) = record told_verdict_no_lie { why = 1; place = place; stores = told_verdict_stores latest.items }
told_verdict_load place (Last store) = record told_verdict_no_lie { why = 1; place = place; last = told_verdict_number (option_map (λ x. x.place) store) }

abbrev pub told_verdict_unexplained : Unexplained → ToldLie
told_verdict_unexplained x = told_verdict_load x.place x.permitted

abbrev pub told_verdict_miscounted : Miscounted → ToldLie
told_verdict_miscounted x =
    record told_verdict_no_lie { why = 2; place = x.place; writers = x.writers; records = x.records; words = x.words }

abbrev pub told_verdict_lie : Lie → ToldLie
told_verdict_lie (lie.IllFormed x) = told_verdict_ill_formed x
told_verdict_lie (lie.Unexplained x) = told_verdict_unexplained x
told_verdict_lie (lie.Miscounted x) = told_verdict_miscounted x

abbrev pub told_verdict_race : Option (ℕ × ℕ) → ToldRace
told_verdict_race None = record { first = NONE; second = NONE }
told_verdict_race (Some r) = record { first = r.0; second = r.1 }

abbrev pub told_verdict_traffic : Traffic → ToldTraffic
told_verdict_traffic t = record { messages = t.messages; records = t.records; words = t.words }

-- by how many events were judged, and their race
abbrev pub told_verdict : ℕ → ToldRace → TraceVerdict → ToldVerdict
told_verdict judged race (verdict.Faithful spent unjudged) =
    record { verdict = 0; judged = judged; lie = told_verdict_no_lie; race = race; traffic = told_verdict_traffic spent; unjudged = unjudged }
told_verdict judged race (verdict.Lie x) =
    record { verdict = 1; judged = judged; lie = told_verdict_lie x; race = race; traffic = told_verdict_no_traffic; unjudged = 0 }
told_verdict judged race verdict.Racy =
    record { verdict = 2; judged = judged; lie = told_verdict_no_lie; race = race; traffic = told_verdict_no_traffic; unjudged = 0 }

-- all that was found, as C is told it
abbrev pub told_verdict_of : Checked → ToldVerdict
told_verdict_of x = told_verdict x.count (told_verdict_race x.race) x.verdict
