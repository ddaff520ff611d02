-- What each work answers.
use Rattle.std.specs.Prelude.{ℕ, List, codes, ◌≡◌, ◌↔◌, IsTrue, MatchOption, ◌+◌, length}
use Rattle.journal.specs.Log.{Log}
use Rattle.journal.specs.ReplayMemory.{Replays as replays}
use Rattle.journal.specs.RacesFromBase.{RaceFreeFromBase, IsFirstRaceFromBase}
use Rattle.journal.specs.Traffic.{messages, records, words}
use Rattle.bench.specs.declared.work.Work.{Work}
use Rattle.bench.specs.declared.work.Work.TheVariants as work
use Rattle.bench.specs.declared.work.WorkAnswer.{WorkAnswer}
use Rattle.bench.specs.declared.work.WorkAnswer.TheVariants.{Events, FirstRace, Replays, Traffic}

-- the answer is of this work on the journal
abbrev pub IsAnswerOf : Work → Log → WorkAnswer → Type 0
IsAnswerOf work.FirstRace j (FirstRace o) =
    MatchOption o (RaceFreeFromBase j.base j.events) (λ r. IsFirstRaceFromBase j.base j.events r.0 r.1)
IsAnswerOf work.Replay j (Replays r) = IsTrue r ↔ replays j.base.memory j.events
IsAnswerOf work.Traffic j (Traffic t) =
    (t.messages ≡ j.base.spent.messages + messages j.events)
    × (t.records ≡ j.base.spent.records + records j.events)
    × (t.words ≡ j.base.spent.words + words j.events)
IsAnswerOf work.Build j (Events n) = n ≡ length j.events
IsAnswerOf work.Append j (Events n) = n ≡ length j.events
IsAnswerOf work.Copy j (Events n) = n ≡ length j.events
IsAnswerOf _ j _ = ⊥

-- the word that names the work
abbrev pub work_name : Work → List ℕ
work_name work.Build = codes "build"
work_name work.Append = codes "append"
work_name work.FirstRace = codes "first_race"
work_name work.Replay = codes "replay"
work_name work.Traffic = codes "traffic"
work_name work.Copy = codes "copy"
