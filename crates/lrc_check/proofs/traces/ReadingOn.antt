-- A trace whose lines are read on.
use Rattle.std.proofs.Common.{◌≡◌, ℕ, List, [], ◌∷◌, ◌++◌, Option, Some, sym, ap, ◌∙◌, append_assoc}
use Rattle.journal.specs.declared.event.Event.{Event}
use Rattle.lrc_check.specs.declared.traces.trace.Trace.{Trace}
use Rattle.lrc_check.specs.Traces.Begun.{BeginsWithTraceBegun, IsTraceLeft, IsTraceReadOn, trace_begun_events, trace_begun_sizes, trace_begun_text}
use Rattle.lrc_check.specs.Traces.Sizes.{trace_sizes_of}
use Rattle.lrc_check.specs.Traces.TraceLines.{TraceLineRead}
use Rattle.lrc_check.proofs.traces.TraceWalk.{trace_walk_added, trace_walk_left, trace_walk_sizes_kept}

-- and then on
pub reading_on_further : (gone : ℕ) (a b c : Option Trace) → IsTraceReadOn gone a b → IsTraceReadOn gone b c → IsTraceReadOn gone a c
reading_on_further gone a b c first second = record {
  left = second.left;
  sizes = trace_walk_sizes_kept (trace_begun_sizes a) (trace_begun_sizes b) (trace_begun_sizes c) first.sizes second.sizes;
  events = (
    first.events.0 ++ second.events.0,
    second.events.1 ∙ ap (λ (x : List Event). x ++ second.events.0) first.events.1
        ∙ append_assoc (trace_begun_events a) first.events.0 second.events.0,
  );
  begun = λ front h. second.begun front (first.begun front h);
}

-- one event more
pub reading_on_added : (gone : ℕ) (t u : Trace) (line : List ℕ) → u.sizes ≡ t.sizes → IsTraceLeft gone (Some t)
    → TraceLineRead (trace_sizes_of t.sizes) gone t.events.items line u.events.items → IsTraceReadOn gone (Some t) (Some u)
reading_on_added gone t u line same left a = record {
  left = rw same (trace_walk_left (trace_sizes_of t.sizes) gone t.events.items u.events.items line left a);
  sizes = ap (λ s. Some s) same;
  events = (a.event ∷ [], a.after_is);
  begun = λ front h. rw same (trace_walk_added (trace_sizes_of t.sizes) gone front t.events.items u.events.items line h a);
}

-- what was read is a beginning of a text that goes on
pub reading_on_begins : (front : List Event) (begun : Option Trace) (text rest : List ℕ) → trace_begun_text front begun ++ rest ≡ text
    → BeginsWithTraceBegun front begun text
reading_on_begins front begun text rest same = (rest, sym same)

-- the same of the same text
pub reading_on_begins_same : (front : List Event) (begun : Option Trace) (x y : List ℕ) → x ≡ y → BeginsWithTraceBegun front begun x
    → BeginsWithTraceBegun front begun y
reading_on_begins_same front begun x y same h = (h.0, sym same ∙ h.1)
