-- Draws one after the other, as a loop does.
use Rattle.std.proofs.Common.{◌≡◌, ℕ, suc, ◌*◌, List, [], ◌∷◌, ◌++◌, refl, sym, ap, ◌∙◌, append_assoc}
use Rattle.std.proofs.lemmas.List.{append-nil}
use Rattle.rand_pcg.specs.Lcg.{Lcg}
use Rattle.lrc_tester.specs.declared.drawing.draw.Style.{Style}
use Rattle.lrc_tester.specs.declared.drawing.draw.DrawSizes.{DrawSizes}
use Rattle.lrc_script.specs.declared.script.Instruction.{Instruction}
use Rattle.lrc_script.specs.declared.script.Instruction.TheVariants.{Barrier}
use Rattle.std.specs.List.{range_with_len}
use Rattle.lrc_script.specs.Plan.{Plan}
use Rattle.lrc_tester.specs.Drawing.Draw.{below, shape, most_pieces, piece, pieces, phase, more_phases, section, drawn_sections, drawn, seeded}

-- draws of one after the other
pub record IsRepeated {X : Type 0} (one : Lcg → List X × Lcg) (many : ℕ → Lcg → List X × Lcg) : Type 0 where
  pub none : (g : Lcg) → many 0 g ≡ ([], g)
  pub more : (n : ℕ) (g : Lcg) → many (suc n) g ≡ ((one g).0 ++ (many n (one g).1).0, (many n (one g).1).1)

pub pieces_repeated : (style : Style) (s : DrawSizes) → IsRepeated (piece style s) (λ n. pieces n style s)
unfolding pieces
pieces_repeated style s = record { none = λ g. refl; more = λ n g. refl }

-- a barrier and a phase
abbrev pub next_phase : Style → DrawSizes → Lcg → List Instruction × Lcg
next_phase style s g = (Barrier ∷ (phase style s g).0, (phase style s g).1)

pub phases_repeated : (style : Style) (s : DrawSizes) → IsRepeated (next_phase style s) (λ n. more_phases n style s)
unfolding more_phases
phases_repeated style s = record { none = λ g. refl; more = λ n g. refl }

abbrev pub one_section : Style → DrawSizes → Lcg → List (List Instruction) × Lcg
one_section style s g = ((section style s g).0 ∷ [], (section style s g).1)

pub sections_repeated : (style : Style) (s : DrawSizes) → IsRepeated (one_section style s) (λ n. drawn_sections n style s)
unfolding drawn_sections
sections_repeated style s = record { none = λ g. refl; more = λ n g. refl }

-- what was drawn before, and what so many draws still give
pub record IsAhead {X : Type 0} (many : ℕ → Lcg → List X × Lcg) (left : ℕ) (before : List X) (g : Lcg) (all : List X)
    (end : Lcg) : Type 0 where
  pub items : before ++ (many left g).0 ≡ all
  pub state : (many left g).1 ≡ end

pub ahead_more : {X : Type 0} (one : Lcg → List X × Lcg) (many : ℕ → Lcg → List X × Lcg) (left next : ℕ)
    (before now : List X) (g h : Lcg) (all : List X) (end : Lcg)
    → IsRepeated one many → left ≡ suc next → now ≡ before ++ (one g).0 → h ≡ (one g).1
    → IsAhead many left before g all end → IsAhead many next now h all end
ahead_more {X} one many left next before now g h all end law step added stepped ahead =
    let whole : many left g ≡ ((one g).0 ++ (many next (one g).1).0, (many next (one g).1).1) =
    ap (λ (n : ℕ). many n g) step ∙ law.more next g in
    let rest : many next h ≡ many next (one g).1 = ap (many next) stepped in
    record {
      items =
          ap (λ (xs : List X). xs ++ (many next h).0) added ∙ append_assoc before (one g).0 (many next h).0
          ∙ ap (λ (p : List X × Lcg). before ++ ((one g).0 ++ p.0)) rest
          ∙ sym (ap (λ (p : List X × Lcg). before ++ p.0) whole) ∙ ahead.items;
      state = ap (λ (p : List X × Lcg). p.1) rest ∙ sym (ap (λ (p : List X × Lcg). p.1) whole) ∙ ahead.state;
    }

pub ahead_none : {X : Type 0} (one : Lcg → List X × Lcg) (many : ℕ → Lcg → List X × Lcg) (left : ℕ) (before : List X)
    (g : Lcg) (all : List X) (end : Lcg)
    → IsRepeated one many → left ≡ 0 → IsAhead many left before g all end → (before ≡ all) × (g ≡ end)
ahead_none {X} one many left before g all end law none ahead =
    let whole : many left g ≡ ([], g) = ap (λ (n : ℕ). many n g) none ∙ law.none g in (
      sym (append-nil before) ∙ sym (ap (λ (p : List X × Lcg). before ++ p.0) whole)
          ∙ ahead.items,
      sym (ap (λ (p : List X × Lcg). p.1) whole) ∙ ahead.state,
    )

pub phase_is : (style : Style) (s : DrawSizes) (g : Lcg) (m n : ℕ) (h : Lcg) → m ≡ most_pieces style → n ≡ (below m g).0
    → h ≡ (below m g).1 → pieces n style s h ≡ phase style s g
unfolding phase
phase_is style s g m n h most count state =
    ap (λ (k : ℕ). pieces k style s h) count ∙ ap (λ (x : Lcg). pieces (below m g).0 style s x) state
    ∙ ap (λ (k : ℕ). pieces (below k g).0 style s (below k g).1) most

-- a plan of a shape
abbrev pub plan_with : DrawSizes → List (List Instruction) → List ℕ → Plan
plan_with s sections shown =
    record {
      processors = s.processors;
      pages = s.pages;
      words = s.words;
      locks = s.locks;
      flags = 0;
      sections = sections;
      shown = shown;
    }

abbrev plan_behind : Style → DrawSizes → Lcg → Plan
plan_behind style s h = plan_with s (drawn_sections s.processors style s h).0 (range_with_len 0 (s.pages * s.words))

pub drawn_is : (style : Style) (k : ℕ) (g : Lcg) (s : DrawSizes) (h : Lcg) (sections : List (List Instruction))
    (shown : List ℕ)
    → g ≡ seeded k → s ≡ (shape g).0 → h ≡ (shape g).1 → sections ≡ (drawn_sections s.processors style s h).0
    → shown ≡ range_with_len 0 (s.pages * s.words) → plan_with s sections shown ≡ drawn style (seeded k)
unfolding drawn
drawn_is style k g s h sections shown seed shape-is state sections-are shown-are =
    ap (λ (x : List (List Instruction)). plan_with s x shown) sections-are
    ∙ ap (λ (x : List ℕ). plan_with s (drawn_sections s.processors style s h).0 x) shown-are
    ∙ ap (λ (x : Lcg). plan_behind style s x) state
    ∙ ap (λ (x : DrawSizes). plan_behind style x (shape g).1) shape-is
    ∙ ap (λ (x : Lcg). plan_behind style (shape x).0 (shape x).1) seed
