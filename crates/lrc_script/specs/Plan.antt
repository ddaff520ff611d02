use Rattle.std.specs.Prelude.{ℕ, List, [], map}
use Rattle.std.specs.Global.{Vec}
use Rattle.lrc_script.specs.declared.script.Instruction.{Instruction}
use Rattle.lrc_script.specs.declared.script.Script.{Script}

-- what a script says, without where it lies in memory
pub record Plan : Type 0 where
  pub processors : ℕ
  pub pages : ℕ
  pub words : ℕ
  pub locks : ℕ
  pub flags : ℕ
  pub sections : List (List Instruction)
  pub shown : List ℕ

-- what a cluster line says: sizes alone
abbrev pub plan_of_sizes : ℕ → ℕ → ℕ → ℕ → ℕ → Plan
plan_of_sizes p n w l g = record { processors = p; pages = n; words = w; locks = l; flags = g; sections = []; shown = [] }

-- the instructions of sections in memory
abbrev pub plan_sections : List (Vec Instruction) → List (List Instruction)
plan_sections sections = map (λ section. section.items) sections

-- what the script in memory says
abbrev pub plan_of : Script → Plan
plan_of s = record {
  processors = s.processors;
  pages = s.pages;
  words = s.words;
  locks = s.locks;
  flags = s.flags;
  sections = plan_sections s.sections.items;
  shown = s.shown.items;
}
