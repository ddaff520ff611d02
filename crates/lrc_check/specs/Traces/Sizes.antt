-- The sizes of a trace.
use Rattle.std.specs.Prelude.{◌≤◌}
use Rattle.journal.specs.Sizes.{Sizes}
use Rattle.judge.specs.JudgedSizes.{AreStreamedSizes}
use Rattle.lrc_script.specs.Plan.{Plan, plan_of_sizes}
use Rattle.lrc_check.specs.declared.traces.trace.TraceSizes.{TraceSizes}

-- the sizes in memory
abbrev pub trace_sizes_of : TraceSizes → Sizes
trace_sizes_of s = record {
  processors = s.processors;
  pages = s.pages;
  words = s.words;
  locks = s.locks;
  flags = s.flags;
}

-- the sizes that a trace may have: those of a history that is judged as it comes, with a processor, a page and a word at
-- least
pub record AreTraceSizes (s : Sizes) : Type 0 where
  pub streamed : AreStreamedSizes s
  pub some_processors : 1 ≤ s.processors
  pub some_pages : 1 ≤ s.pages
  pub some_words : 1 ≤ s.words

-- the sizes, as a script that has no section says them
abbrev pub trace_sizes_as_script : Sizes → Plan
trace_sizes_as_script s = plan_of_sizes s.processors s.pages s.words s.locks s.flags
