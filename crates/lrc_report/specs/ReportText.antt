-- The lines of a report.
use Rattle.std.specs.Prelude.{ℕ, ◌+◌, Bool, List, [], ◌∷◌, ◌++◌, if◌then◌else◌, codes, nat_lt}
use Rattle.std.specs.List.{flat_map}
use Rattle.std.specs.Fmt.{decimal}
use Rattle.journal.specs.declared.event.Event.{Event}
use Rattle.journal.specs.declared.event.Kind.{Kind}
use Rattle.journal.specs.declared.event.Kind.TheVariants.{Load, Store, Fetch, Ask, Acquire, Release, Arrive, Depart, Set, Watch, Await}
use Rattle.journal.specs.declared.traffic.Traffic.{Traffic}
use Rattle.journal.specs.Log.{Log}
use Rattle.lrc_report.specs.declared.report.Report.{Report}

-- a shown address with its word
abbrev pub report_word_text : ℕ × ℕ → List ℕ
report_word_text x = codes "word " ++ decimal x.0 ++ codes " " ++ decimal x.1 ++ codes "\n"

-- the messages, records and words
abbrev pub report_traffic_text : Traffic → List ℕ
report_traffic_text t =
    codes "traffic " ++ decimal t.messages ++ codes " " ++ decimal t.records ++ codes " " ++ decimal t.words
    ++ codes "\n"

-- whether there is a race
abbrev pub report_verdict_text : Bool → List ℕ
report_verdict_text racy = if racy then codes "verdict racy\n" else codes "verdict race-free\n"

-- what an event did
abbrev pub report_kind_text : Kind → List ℕ
report_kind_text (Load a v) = codes " load " ++ decimal a ++ codes " " ++ decimal v ++ codes "\n"
report_kind_text (Store a v) = codes " store " ++ decimal a ++ codes " " ++ decimal v ++ codes "\n"
report_kind_text (Fetch writers page records words) =
    codes " fetch " ++ decimal page ++ codes " " ++ decimal writers ++ codes " " ++ decimal records ++ codes " "
    ++ decimal words ++ codes "\n"
report_kind_text (Ask l) = codes " ask " ++ decimal l ++ codes "\n"
report_kind_text (Acquire l) = codes " acquire " ++ decimal l ++ codes "\n"
report_kind_text (Release l) = codes " release " ++ decimal l ++ codes "\n"
report_kind_text Arrive = codes " arrive\n"
report_kind_text Depart = codes " depart\n"
report_kind_text (Set f) = codes " set " ++ decimal f ++ codes "\n"
report_kind_text (Watch f) = codes " watch " ++ decimal f ++ codes "\n"
report_kind_text (Await f) = codes " await " ++ decimal f ++ codes "\n"

-- the place of an event, and its processor
abbrev pub report_event_head_text : ℕ → ℕ → List ℕ
report_event_head_text i p = codes "event " ++ decimal i ++ codes " " ++ decimal p

-- the event at this place
abbrev pub report_event_text : ℕ → Event → List ℕ
report_event_text i e = report_event_head_text i e.processor ++ report_kind_text e.kind

-- a line for each event, the first at this place
abbrev pub report_events_text : ℕ → List Event → List ℕ
report_events_text i [] = []
report_events_text i (e ∷ es) = report_event_text i e ++ report_events_text (i + 1) es

-- the shown words, the verdict and the traffic
abbrev pub report_summary_text : Report → List ℕ
report_summary_text r = flat_map report_word_text r.shown.items ++ report_verdict_text r.racy ++ report_traffic_text r.traffic

-- how many events were cut off, if any was
abbrev pub report_cut_text : ℕ → List ℕ
report_cut_text n = if nat_lt 0 n then codes "cut " ++ decimal n ++ codes "\n" else []

-- how many events were cut off, if any was, and a line for each that is left, numbered on from there
abbrev pub report_left_text : Log → List ℕ
report_left_text j = report_cut_text j.base.cut ++ report_events_text j.base.cut j.events

-- the lines of the journal, if they are asked for
abbrev pub report_journal_text : Report → Bool → List ℕ
report_journal_text r journal = if journal then report_left_text r.journal else []

-- a report, with its journal if that is asked for
abbrev pub report_text : Report → Bool → List ℕ
report_text r journal = report_summary_text r ++ report_journal_text r journal
