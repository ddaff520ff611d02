-- What was found of a trace, as JSON.
use Rattle.std.specs.Prelude.{ℕ, suc, ◌≡◌, ◌==◌, Bool, true, false, ◌&&◌, Option, Some, None, is_some, List, [], ◌∷◌, ◌++◌, codes, cond, flat_map, length, map}
use Rattle.std.specs.Global.{Vec}
use Rattle.serde_json.specs.Data.{Data, Members, boolean, no_members, null, object, put, string}
use Rattle.journal.specs.declared.event.Event.{Event}
use Rattle.journal.specs.declared.traffic.Traffic.{Traffic}
use Rattle.judge.specs.declared.flat_memory.FlatStore.{FlatStore}
use Rattle.judge.specs.declared.locksets.lockset_finder.Unprotected.{Unprotected}
use Rattle.judge.specs.declared.locksets.watched_word.Guarded.{Guarded}
use Rattle.judge.specs.declared.locksets.watched_word.PairedAccess.{PairedAccess}
use Rattle.judge.specs.declared.models.MemoryModel.{MemoryModel}
use Rattle.judge.specs.declared.models.MemoryModel.TheVariants as model
use Rattle.causes.specs.declared.apart.RaceApart.{RaceApart}
use Rattle.causes.specs.declared.waits_at_end.Wait.{Wait}
use Rattle.causes.specs.declared.waits_at_end.Wait.TheVariants as wait
use Rattle.lrc_check.specs.ToldLines.{told_event, told_label}
use Rattle.lrc_check.specs.declared.checked.Lie.{Lie}
use Rattle.lrc_check.specs.declared.checked.Lie.TheVariants as lie
use Rattle.lrc_check.specs.declared.checked.Rules.{Rules}
use Rattle.lrc_check.specs.declared.checked.TraceVerdict.{TraceVerdict}
use Rattle.lrc_check.specs.declared.checked.TraceVerdict.TheVariants as verdict
use Rattle.lrc_check.specs.declared.checking_traces.JudgedTrace.{JudgedTrace}
use Rattle.lrc_check.specs.declared.told_events.KnownEvent.{KnownEvent}
use Rattle.lrc_check.specs.declared.told_events.ToldEvents.{ToldEvents}
use Rattle.lrc_check.specs.declared.told_races.ToldRace.{ToldRace}
use Rattle.lrc_json.specs.EventJson.{json_event, json_place}
use Rattle.serde_json.specs.Written.{members_have_float}
use Rattle.lrc_json.specs.declared.members.Members.{Members as Object}
use Rattle.lrc_json.specs.PutTogether.{json_count, json_line, json_list, json_number, json_telling, members_so_far}

-- an event with its label; null if none is known
abbrev pub json_event_if : List ℕ → ℕ → Option Event → Data
json_event_if label place None = null
json_event_if label place (Some e) = object (json_event place e label)

-- the event of the trace at a place
abbrev pub json_told_event : ToldEvents → ℕ → Data
json_told_event t place = json_event_if (told_label t place) place (told_event t place)

-- an event is put at a key if it is known
abbrev pub with_event_if : List ℕ → List ℕ → ℕ → Option Event → Members → Members
with_event_if key label place None ms = ms
with_event_if key label place (Some e) ms = put key (object (json_event place e label)) ms

abbrev pub with_known_event : ToldEvents → List ℕ → ℕ → Members → Members
with_known_event t key place ms = with_event_if key (told_label t place) place (told_event t place) ms

-- numbers
abbrev pub json_numbers : List ℕ → Data
json_numbers ns = json_list (map json_number ns)

-- the last event of the first access's processor that had been heard of, if there is one
abbrev pub with_heard : Option ℕ → Members → Members
with_heard None ms = ms
with_heard (Some place) ms = put (codes "heard") (json_number place) ms

-- what keeps the accesses of a race apart
abbrev pub with_apart : RaceApart → Members → Members
with_apart a ms =
    put (codes "second_locks") (json_numbers a.second_locks.items) (put (codes "first_locks") (json_numbers a.first_locks.items) (with_heard a.heard ms))

abbrev pub with_apart_if : Option RaceApart → Members → Members
with_apart_if None ms = ms
with_apart_if (Some a) ms = with_apart a ms

-- a race by the places of its accesses
abbrev pub json_race : ToldEvents → ℕ × ℕ → Option RaceApart → Members
json_race t race apart =
    with_apart_if apart (with_known_event t (codes "second") race.1 (with_known_event t (codes "first") race.0 (json_telling (codes "race"))))

-- a lie at a place
abbrev pub json_lie_at : ToldEvents → ℕ → List ℕ → Members
json_lie_at t place reason = put (codes "reason") (string reason) (put (codes "event") (json_told_event t place) (json_telling (codes "lie")))

-- the events of stores
abbrev pub json_stores : ToldEvents → List FlatStore → List Data
json_stores t stores = map (λ (x : FlatStore). json_told_event t x.place) stores

-- a lie, and what kind it is: of the reason's text and the stores no more is said
abbrev pub IsLieJson : ToldEvents → Lie → Members → Type 0
IsLieJson t (lie.IllFormed x) ms = (because : List ℕ) × (ms ≡ put (codes "because") (string because) (json_lie_at t x.place (codes "form")))
IsLieJson t (lie.Unexplained x) ms = (zero : Bool) × (stores : List FlatStore)
    × (ms ≡ put (codes "stores") (json_list (json_stores t stores)) (put (codes "zero") (boolean zero) (json_lie_at t x.place (codes "answer"))))
IsLieJson t (lie.Miscounted x) ms = ms ≡ put (codes "words") (json_number x.words)
    (put (codes "records") (json_number x.records) (put (codes "writers") (json_number x.writers) (json_lie_at t x.place (codes "count"))))

-- unless memory ran out, the members are those of the lie, and none has a float
abbrev pub HasLieMembers : ToldEvents → Lie → Object → Type 0
HasLieMembers t l x = x.fault ≡ None → IsLieJson t l (members_so_far x) × (members_have_float (members_so_far x) ≡ false)

-- a model's name
abbrev pub json_model : MemoryModel → List ℕ
json_model model.RaceFree = codes "race-free"
json_model model.HappensBefore = codes "happens-before"
json_model model.LazyRelease = codes "lazy-release"
json_model model.Sequential = codes "sequential"

abbrev pub json_traffic : Traffic → Members
json_traffic t = put (codes "words") (json_count t.words) (put (codes "records") (json_count t.records) (put (codes "messages") (json_count t.messages) no_members))

-- how the judging ended
abbrev pub with_verdict : TraceVerdict → Members → Members
with_verdict (verdict.Faithful traffic unjudged) ms =
    put (codes "traffic") (object (json_traffic traffic)) (put (codes "unjudged") (json_number unjudged) (put (codes "faithful") (boolean true) ms))
with_verdict (verdict.Lie x) ms = put (codes "faithful") (boolean false) ms
with_verdict verdict.Racy ms = ms

abbrev pub is_verdict_faithful : TraceVerdict → Bool
is_verdict_faithful (verdict.Faithful traffic unjudged) = true
is_verdict_faithful _ = false

-- a number is put at a key, if there is one
abbrev pub with_number_if : List ℕ → Option ℕ → Members → Members
with_number_if key None ms = ms
with_number_if key (Some n) ms = put key (json_number n) ms

-- for what a processor waits
abbrev pub with_wait : Wait → Members → Members
with_wait wait.Nothing ms = ms
with_wait (wait.Lock lock holder earlier) ms = with_number_if (codes "holder") holder (put (codes "lock") (json_number lock) ms)
with_wait (wait.Flag flag set) ms = put (codes "flag") (json_number flag) ms
with_wait (wait.Barrier absent) ms = put (codes "absent") (json_numbers absent.items) (put (codes "barrier") (boolean true) ms)

abbrev pub json_wait : ℕ → Wait → Members
json_wait p w = with_wait w (put (codes "processor") (json_number p) no_members)

-- a processor that waits for nothing isn't told
abbrev pub json_wait_if : ℕ → Wait → List Data
json_wait_if p wait.Nothing = []
json_wait_if p w = object (json_wait p w) ∷ []

-- for what processors wait, from this one on
abbrev pub json_waits : ℕ → List Wait → List Data
json_waits p [] = []
json_waits p (w ∷ ws) = json_wait_if p w ++ json_waits (suc p) ws

-- the circles of processors that wait for each other, if there are some
abbrev pub json_circles : List (Vec ℕ) → List Data
json_circles circles = map (λ (c : Vec ℕ). json_numbers c.items) circles

abbrev pub with_circles : List (Vec ℕ) → Members → Members
with_circles [] ms = ms
with_circles (c ∷ cs) ms = put (codes "circles") (json_list (json_circles (c ∷ cs))) ms

-- who waits at the end, if somebody does
abbrev pub with_waits : List Data → List (Vec ℕ) → Members → Members
with_waits [] circles ms = ms
with_waits (d ∷ ds) circles ms = with_circles circles (put (codes "waits") (json_list (d ∷ ds)) ms)

-- how many words race, if all were asked for and the trace is faithful, and how many of these are left out
abbrev pub with_racing : Rules → JudgedTrace → Members → Members
with_racing rules judged ms = cond (rules.all_races && is_verdict_faithful judged.found.verdict)
    (put (codes "left_out") (json_number judged.races.left_out) (put (codes "racing") (json_number (length judged.racing.items)) ms)) ms

-- what was judged, and how that ended
abbrev pub json_checked_end : Rules → JudgedTrace → Members
json_checked_end rules judged =
    with_number_if (codes "unfinished") judged.unfinished
    (with_waits (json_waits 0 judged.waits.items) judged.circles.items
    (with_racing rules judged (with_verdict judged.found.verdict
    (put (codes "racy") (boolean (is_some judged.found.race)) (put (codes "lax") (boolean rules.lax)
    (put (codes "model") (string (json_model rules.model)) (put (codes "events") (json_number judged.found.count) (json_telling (codes "end")))))))))

-- an access, by its event if that is known
abbrev pub json_access_if : List ℕ → PairedAccess → Option Event → Members
json_access_if label a None = json_place a.place a.processor
json_access_if label a (Some e) = json_event a.place e label

abbrev pub json_access : ToldEvents → PairedAccess → Members
json_access t a = json_access_if (told_label t a.place) a (told_event t a.place)

-- two accesses that hold a lock in common, and which one
abbrev pub with_guarded : ToldEvents → Guarded → Members → Members
with_guarded t g ms =
    put (codes "lock") (json_number g.lock)
    (put (codes "guarded") (json_list (object (json_access t g.accesses.0) ∷ object (json_access t g.accesses.1) ∷ [])) ms)

abbrev pub with_guarded_if : ToldEvents → Option Guarded → Members → Members
with_guarded_if t None ms = ms
with_guarded_if t (Some g) ms = with_guarded t g ms

-- whether somebody forgot the word's lock, or it is handed over
abbrev pub json_unprotected_name : Option Guarded → List ℕ
json_unprotected_name (Some g) = codes "unprotected"
json_unprotected_name None = codes "handed"

-- a word that needs a lock and has none
abbrev pub json_unprotected : ToldEvents → Unprotected → Members
json_unprotected t x =
    with_guarded_if t x.guarded (put (codes "second") (object (json_access t x.unguarded.1)) (put (codes "first") (object (json_access t x.unguarded.0))
    (put (codes "address") (json_number x.address) (json_telling (json_unprotected_name x.guarded)))))

-- an access of a race, if it is known
abbrev pub with_racing_access : List ℕ → Option KnownEvent → Members → Members
with_racing_access key None ms = ms
with_racing_access key (Some x) ms = put key (object (json_event x.place x.event x.label.items)) ms

-- of the first race of the trace, which ends at this place, what keeps its accesses apart
abbrev pub with_first_apart : Option (ℕ × ℕ) → Option RaceApart → ℕ → Members → Members
with_first_apart (Some race) (Some a) second ms = cond (second == race.1) (with_apart a ms) ms
with_first_apart _ _ second ms = ms

-- a race that is told with others
abbrev pub json_told_race : JudgedTrace → ToldRace → Members
json_told_race judged race =
    with_first_apart judged.found.race judged.race race.word.second
    (with_racing_access (codes "second") race.second (with_racing_access (codes "first") race.first
    (put (codes "words") (json_number race.words) (put (codes "address") (json_number race.word.address) (json_telling (codes "race"))))))

-- the lines of all races that are told
abbrev pub json_races : JudgedTrace → List ToldRace → List ℕ
json_races judged races = flat_map (λ race. json_line (json_told_race judged race)) races

-- the line of the first race, if not all words that race were asked for
abbrev pub json_first_race : ToldEvents → Option (ℕ × ℕ) → Option RaceApart → ℕ → List ℕ
json_first_race t None apart racing = []
json_first_race t (Some race) apart racing = cond (racing == 0) (json_line (json_race t race apart)) []

-- the line of a lie, if it is one
abbrev pub IsLieLine : ToldEvents → TraceVerdict → List ℕ → Type 0
IsLieLine t (verdict.Lie x) bytes = (ms : Members) × IsLieJson t x ms × (bytes ≡ json_line ms)
IsLieLine t _ bytes = bytes ≡ []

-- the lines of words that need a lock and have none
abbrev pub json_unprotected_lines : ToldEvents → List Unprotected → List ℕ
json_unprotected_lines t words = flat_map (λ x. json_line (json_unprotected t x)) words

-- a line for each race that is told, one for a lie, one for each such word, and one at the end
pub record IsCheckedJson (t : ToldEvents) (rules : Rules) (judged : JudgedTrace) (text : List ℕ) : Type 0 where
  pub lie_line : List ℕ
  pub lie_is : IsLieLine t judged.found.verdict lie_line
  pub is : text ≡ json_races judged judged.races.races.items ++ (json_first_race t judged.found.race judged.race (length judged.racing.items)
      ++ (lie_line ++ (json_unprotected_lines t judged.unprotected.items ++ json_line (json_checked_end rules judged))))
