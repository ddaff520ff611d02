-- Scripts drawn from a generator: what each draw takes from it, and what it gives.
use Rattle.std.specs.Prelude.{ℕ, zero, suc, ◌+◌, ◌*◌, ◌%◌, ◌≤◌, ◌==◌, nat_lt, if◌then◌else◌, List, [], ◌∷◌, ◌++◌}
use Rattle.std.specs.List.{range_with_len}
use Rattle.rand_core.specs.Pcg32Seed.{pcg32_seed}
use Rattle.rand_pcg.specs.Lcg.{Lcg}
use Rattle.rand_pcg.specs.Pcg.{pcg32, pcg32_of_seed}
use Rattle.lrc_tester.specs.declared.drawing.draw.Style.{Style}
use Rattle.lrc_tester.specs.declared.drawing.draw.Style.TheVariants.{Guarded, Free}
use Rattle.lrc_tester.specs.declared.drawing.draw.DrawSizes.{DrawSizes}
use Rattle.lrc_script.specs.declared.script.Instruction.{Instruction}
use Rattle.lrc_script.specs.declared.script.Instruction.TheVariants.{Load, Store, Add, Acquire, Release, Barrier}
use Rattle.lrc_script.specs.Plan.{Plan}

-- the generator's next word, modulo m
unfoldable pub below : ℕ → Lcg → ℕ × Lcg
below m g = ((pcg32 g).0 % m, (pcg32 g).1)

-- the sizes, and how many barriers a section has
abbrev pub shape : Lcg → DrawSizes × Lcg
shape g =
    let p = below 4 g in let n = below 3 p.1 in let w = below 4 n.1 in let l = below 3 w.1 in let b = below 3 l.1 in
    (record { processors = 1 + p.0; pages = 1 + n.0; words = 1 + w.0; locks = 1 + l.0; barriers = b.0 }, b.1)

-- an addition under the lock of its address
abbrev pub group : DrawSizes → Lcg → List Instruction × Lcg
group s g =
    let a = below (s.pages * s.words) g in let v = below 8 a.1 in
    (Acquire (a.0 % s.locks) ∷ Add a.0 v.0 ∷ Release (a.0 % s.locks) ∷ [], v.1)

-- a load, a store or an addition
abbrev pub access : ℕ → ℕ → Lcg → Instruction × Lcg
access kind a g =
    if nat_lt kind 2 then (Load a, g)
    else (let v = below 8 g in (if nat_lt kind 4 then Store a v.0 else Add a v.0, v.1))

-- an item of a drawn kind: the last of six is a group
abbrev pub item : DrawSizes → Lcg → List Instruction × Lcg
item s g =
    let kind = below 6 g in
    if kind.0 == 5 then group s kind.1
    else (let a = below (s.pages * s.words) kind.1 in let i = access kind.0 a.0 a.1 in (i.0 ∷ [], i.1))

abbrev pub piece : Style → DrawSizes → Lcg → List Instruction × Lcg
piece Guarded s g = group s g
piece Free s g = item s g

-- that many pieces
unfoldable pub pieces : ℕ → Style → DrawSizes → Lcg → List Instruction × Lcg
pieces zero style s g = ([], g)
pieces (suc n) style s g = let one = piece style s g in let rest = pieces n style s one.1 in (one.0 ++ rest.0, rest.1)

-- below that many pieces are in a phase
abbrev pub most_pieces : Style → ℕ
most_pieces Guarded = 5
most_pieces Free = 9

unfoldable pub phase : Style → DrawSizes → Lcg → List Instruction × Lcg
phase style s g = let n = below (most_pieces style) g in pieces n.0 style s n.1

-- that many barriers, each with a phase behind it
unfoldable pub more_phases : ℕ → Style → DrawSizes → Lcg → List Instruction × Lcg
more_phases zero style s g = ([], g)
more_phases (suc n) style s g =
    let one = phase style s g in
    let rest = more_phases n style s one.1 in
    (Barrier ∷ one.0 ++ rest.0, rest.1)

unfoldable pub section : Style → DrawSizes → Lcg → List Instruction × Lcg
section style s g =
    let first = phase style s g in
    let rest = more_phases s.barriers style s first.1 in
    (first.0 ++ rest.0, rest.1)

-- that many sections
unfoldable pub drawn_sections : ℕ → Style → DrawSizes → Lcg → List (List Instruction) × Lcg
drawn_sections zero style s g = ([], g)
drawn_sections (suc n) style s g =
    let one = section style s g in
    let rest = drawn_sections n style s one.1 in
    (one.0 ∷ rest.0, rest.1)

-- the script that the draws give, which shows all addresses
unfoldable pub drawn : Style → Lcg → Plan
drawn style g =
    let s = shape g in
    record {
      processors = s.0.processors;
      pages = s.0.pages;
      words = s.0.words;
      locks = s.0.locks;
      flags = 0;
      sections = (drawn_sections s.0.processors style s.0 s.1).0;
      shown = range_with_len 0 (s.0.pages * s.0.words);
    }

-- the generator made from a number
unfoldable pub seeded : ℕ → Lcg
seeded k = pcg32_of_seed (pcg32_seed 16 k)

-- sizes as they are drawn
pub record IsShape (s : DrawSizes) : Type 0 where
  pub some_processors : 1 ≤ s.processors
  pub most_processors : s.processors ≤ 4
  pub some_pages : 1 ≤ s.pages
  pub most_pages : s.pages ≤ 3
  pub some_words : 1 ≤ s.words
  pub most_words : s.words ≤ 4
  pub some_locks : 1 ≤ s.locks
  pub most_locks : s.locks ≤ 3
  pub most_barriers : s.barriers ≤ 2
