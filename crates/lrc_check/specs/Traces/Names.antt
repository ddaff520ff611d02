-- The names of what events did, and the numbers behind them.
use Rattle.std.specs.Prelude.{ℕ, if◌then◌else◌, List, [], ◌∷◌, codes, Option, Some, None}
use Rattle.std.specs.Str.{bytes_eq}
use Rattle.journal.specs.declared.event.Kind.{Kind}
use Rattle.journal.specs.declared.event.Kind.TheVariants as kind
use Rattle.lrc_check.specs.declared.traces.event_name.EventName.{EventName}
use Rattle.lrc_check.specs.declared.traces.event_name.EventName.TheVariants.{Load, Store, Fetch, Ask, Acquire, Release, Arrive, Depart, Set, Watch, Await}

-- how a name is written
abbrev pub trace_name_word : EventName → List ℕ
trace_name_word Load = codes "load"
trace_name_word Store = codes "store"
trace_name_word Fetch = codes "fetch"
trace_name_word Ask = codes "ask"
trace_name_word Acquire = codes "acquire"
trace_name_word Release = codes "release"
trace_name_word Arrive = codes "arrive"
trace_name_word Depart = codes "depart"
trace_name_word Set = codes "set"
trace_name_word Watch = codes "watch"
trace_name_word Await = codes "await"

-- how many numbers stand behind it
abbrev pub trace_name_operand_count : EventName → ℕ
trace_name_operand_count Load = 2
trace_name_operand_count Store = 2
trace_name_operand_count Fetch = 4
trace_name_operand_count Arrive = 0
trace_name_operand_count Depart = 0
trace_name_operand_count _ = 1

-- the numbers of what an event did, in their order on its line
abbrev pub trace_name_numbers : Kind → List ℕ
trace_name_numbers (kind.Load a v) = a ∷ v ∷ []
trace_name_numbers (kind.Store a v) = a ∷ v ∷ []
trace_name_numbers (kind.Fetch writers page records words) = page ∷ writers ∷ records ∷ words ∷ []
trace_name_numbers (kind.Ask l) = l ∷ []
trace_name_numbers (kind.Acquire l) = l ∷ []
trace_name_numbers (kind.Release l) = l ∷ []
trace_name_numbers kind.Arrive = []
trace_name_numbers kind.Depart = []
trace_name_numbers (kind.Set f) = f ∷ []
trace_name_numbers (kind.Watch f) = f ∷ []
trace_name_numbers (kind.Await f) = f ∷ []

-- the name that is written so
abbrev pub trace_name_of_word : List ℕ → Option EventName
trace_name_of_word w =
    if bytes_eq w (codes "load") then Some Load else
    if bytes_eq w (codes "store") then Some Store else
    if bytes_eq w (codes "fetch") then Some Fetch else
    if bytes_eq w (codes "ask") then Some Ask else
    if bytes_eq w (codes "acquire") then Some Acquire else
    if bytes_eq w (codes "release") then Some Release else
    if bytes_eq w (codes "arrive") then Some Arrive else
    if bytes_eq w (codes "depart") then Some Depart else
    if bytes_eq w (codes "set") then Some Set else
    if bytes_eq w (codes "watch") then Some Watch else
    if bytes_eq w (codes "await") then Some Await else None

-- what an event of this name and these numbers did
abbrev pub trace_name_meaning : EventName → List ℕ → Option Kind
trace_name_meaning Load (a ∷ v ∷ []) = Some (kind.Load a v)
trace_name_meaning Store (a ∷ v ∷ []) = Some (kind.Store a v)
trace_name_meaning Fetch (n ∷ w ∷ r ∷ d ∷ []) = Some (kind.Fetch w n r d)
trace_name_meaning Ask (l ∷ []) = Some (kind.Ask l)
trace_name_meaning Acquire (l ∷ []) = Some (kind.Acquire l)
trace_name_meaning Release (l ∷ []) = Some (kind.Release l)
trace_name_meaning Arrive [] = Some kind.Arrive
trace_name_meaning Depart [] = Some kind.Depart
trace_name_meaning Set (f ∷ []) = Some (kind.Set f)
trace_name_meaning Watch (f ∷ []) = Some (kind.Watch f)
trace_name_meaning Await (f ∷ []) = Some (kind.Await f)
trace_name_meaning _ _ = None
