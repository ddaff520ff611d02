-- What is told of an event.
use Rattle.std.specs.Prelude.{ℕ, ◌-◌, ◌==◌, if◌then◌else◌, List, [], ◌∷◌, ◌++◌, codes, find, length, nat_lt, Option, Some, None, option_map, slice_get, slice_index_or, take}
use Rattle.journal.specs.declared.event.Event.{Event}
use Rattle.lrc_report.specs.ReportText.{report_event_text}
use Rattle.lrc_script.specs.LineReading.{parts_of_read_line}
use Rattle.lrc_check.specs.Traces.Labels.{trace_event_label}
use Rattle.lrc_check.specs.declared.told_events.KnownEvent.{KnownEvent}
use Rattle.lrc_check.specs.declared.told_events.ToldEvents.{ToldEvents}

-- of the known events the first one of this place
abbrev pub told_known_event : List KnownEvent → ℕ → Option KnownEvent
told_known_event known place = find (λ x. x.place == place) known

-- and its label, without a byte if there is none
abbrev pub told_known_label : Option KnownEvent → List ℕ
told_known_label None = []
told_known_label (Some x) = x.label.items

-- the event at a place, if it is at hand, or is known from before those
abbrev pub told_event : ToldEvents → ℕ → Option Event
told_event t place =
    if nat_lt place t.gone then option_map (λ x. x.event) (told_known_event t.before.now place)
    else slice_get t.events.now (place - t.gone)

-- the label of the event at this index among those at hand
abbrev pub told_label_at : ToldEvents → ℕ → List ℕ
told_label_at t index =
    if t.headed then trace_event_label t.labels.now index else slice_index_or (parts_of_read_line 10 t.labels.now) index []

-- the label of the event at a place, if it is at hand, or is known from before those
abbrev pub told_label : ToldEvents → ℕ → List ℕ
told_label t place =
    if nat_lt place t.gone then told_known_label (told_known_event t.before.now place) else told_label_at t (place - t.gone)

-- a label, as it stands behind what it labels
abbrev pub told_line_label_mark : List ℕ → List ℕ
told_line_label_mark [] = []
told_line_label_mark (b ∷ label) = codes "  " ++ b ∷ label

-- a line with this label
abbrev pub told_line_labelled : List ℕ → List ℕ → List ℕ
told_line_labelled line label = take (length line - 1) line ++ told_line_label_mark label ++ codes "\n"

abbrev pub told_line_of_event : List ℕ → ℕ → Option Event → List ℕ
told_line_of_event label place None = []
told_line_of_event label place (Some e) = told_line_labelled (report_event_text place e) label

-- the line of the event at a place, if it is known, with its own label
abbrev pub told_line : ToldEvents → ℕ → List ℕ
told_line t place = told_line_of_event (told_label t place) place (told_event t place)
