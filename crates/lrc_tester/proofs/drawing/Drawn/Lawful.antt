-- Drawn scripts are lawful.
use Rattle.std.proofs.Common.{◌≡◌, ℕ, zero, suc, ◌+◌, ◌*◌, ◌^◌, ◌%◌, ◌<◌, ◌≤◌, Bool, true, false, cond, eqb, ltb, List, [], ◌∷◌, ◌++◌, length, refl, sym, ap, subst, ◌∙◌, arith}
use Rattle.std.specs.Prelude.{All}
use Rattle.std.specs.List.{AllByRecursion, range_with_len}
use Rattle.std.proofs.lemmas.List.Elements.{All-from_recursion, All-weaker}
use Rattle.std.proofs.lemmas.List.FromFn.{length-range_with_len}
use Rattle.std.proofs.Math.Nat.{mul-le-mul}
use Rattle.lrc_tester.proofs.drawing.Drawn.Safe.{IsSafe, safe-append, safe_none, safe_plain, safe_group, longer, safe_barrier}
use Rattle.lrc_tester.proofs.drawing.Drawn.Repeated.{plan_with}
use Rattle.rand_pcg.specs.Lcg.{Lcg}
use Rattle.lrc_tester.specs.declared.drawing.draw.Style.{Style}
use Rattle.lrc_tester.specs.declared.drawing.draw.Style.TheVariants.{Guarded, Free}
use Rattle.lrc_tester.specs.declared.drawing.draw.DrawSizes.{DrawSizes}
use Rattle.lrc_script.specs.declared.script.Instruction.{Instruction}
use Rattle.lrc_script.specs.declared.script.Instruction.TheVariants.{Load, Store, Add, Barrier}
use Rattle.lrc_script.specs.Plan.{Plan}
use Rattle.lrc_script.specs.Lawful.{plan_addresses, barriers, IsInstructionInRange, IsLawfulSection, IsLawfullyEven, IsLawful}
use Rattle.lrc_tester.specs.Drawing.Draw.{below, shape, group, access, item, piece, pieces, most_pieces, phase, more_phases, section, drawn_sections, drawn, IsShape}

below_lt : (m : ℕ) (g : Lcg) → 0 < m → (below m g).0 < m
unfolding below
below_lt m g some = omega (arith, some)

pub shape_small : (g : Lcg) → IsShape (shape g).0
shape_small g =
    let p = below 4 g in let n = below 3 p.1 in let w = below 4 n.1 in let l = below 3 w.1 in let b = below 3 l.1 in
    record {
      some_processors = omega arith;
      most_processors = omega (arith, below_lt 4 g (omega arith));
      some_pages = omega arith;
      most_pages = omega (arith, below_lt 3 p.1 (omega arith));
      some_words = omega arith;
      most_words = omega (arith, below_lt 4 n.1 (omega arith));
      some_locks = omega arith;
      most_locks = omega (arith, below_lt 3 w.1 (omega arith));
      most_barriers = omega (arith, below_lt 3 l.1 (omega arith));
    }

-- ---- each draw is safe in a script of this shape

mod_lt : (a m : ℕ) → 1 ≤ m → a % m < m
mod_lt a m some = omega (arith, some)

-- how many addresses there are
pub record HasSpace (sh : DrawSizes) : Type 0 where
  pub some : 0 < sh.pages * sh.words
  pub most : sh.pages * sh.words ≤ 12

space : (sh : DrawSizes) → IsShape sh → HasSpace sh
space sh h =
    let least : 1 * 1 ≤ sh.pages * sh.words = mul-le-mul h.some_pages h.some_words in
    let greatest : sh.pages * sh.words ≤ 3 * 4 = mul-le-mul h.most_pages h.most_words in
    record { some = omega (arith, least); most = omega (arith, greatest) }

small_value : (g : Lcg) → (below 8 g).0 < 2 ^ 32
small_value g = omega (arith, below_lt 8 g (omega arith))

group_safe : (sh : DrawSizes) (sections : List (List Instruction)) (shown : List ℕ) (g : Lcg) → IsShape sh
    → IsSafe (plan_with sh sections shown) 3 0 (group sh g).0
group_safe sh sections shown g h =
    let s = plan_with sh sections shown in
    let a = below (sh.pages * sh.words) g in
    safe_group s (a.0 % sh.locks) a.0 (below 8 a.1).0 (mod_lt a.0 sh.locks h.some_locks)
    (below_lt (sh.pages * sh.words) g (space sh h).some) (small_value a.1)

access_safe : (s : Plan) (kind a : ℕ) (g : Lcg) → a < plan_addresses s → IsSafe s 1 0 ((access kind a g).0 ∷ [])
access_safe s kind a g lt = kind_cases (ltb kind 2) (ltb kind 4)
  where
    kind_cases : (first second : Bool)
        → IsSafe s 1 0 ((cond {A = Instruction × Lcg} first (Load a, g)
        (cond second (Store a (below 8 g).0) (Add a (below 8 g).0), (below 8 g).1)).0
        ∷ [])
    kind_cases true second = safe_plain s (Load a) lt (λ before. tt) (λ l held. refl) refl
    kind_cases false true =
        safe_plain s (Store a (below 8 g).0) (lt, small_value g) (λ before. tt) (λ l held. refl) refl
    kind_cases false false =
        safe_plain s (Add a (below 8 g).0) (lt, small_value g) (λ before. tt) (λ l held. refl) refl

item_safe : (sh : DrawSizes) (sections : List (List Instruction)) (shown : List ℕ) (g : Lcg) → IsShape sh
    → IsSafe (plan_with sh sections shown) 3 0 (item sh g).0
item_safe sh sections shown g h = kind_cases (eqb (below 6 g).0 5)
  where
    kind_cases : (b : Bool)
        → IsSafe (plan_with sh sections shown) 3 0 (cond {A = List Instruction × Lcg} b (group sh (below 6 g).1) (let
        a = below (sh.pages * sh.words) (below 6 g).1 in
        let i = access (below 6 g).0 a.0 a.1 in (i.0 ∷ [], i.1))).0
    kind_cases true = group_safe sh sections shown (below 6 g).1 h
    kind_cases false =
        let a = below (sh.pages * sh.words) (below 6 g).1 in
        longer (plan_with sh sections shown) 1 3 0 _ (omega arith) (access_safe (plan_with sh sections shown)
        (below 6 g).0 a.0 a.1 (below_lt (sh.pages * sh.words) (below 6 g).1 (space sh h).some))

piece_safe : (style : Style) (sh : DrawSizes) (sections : List (List Instruction)) (shown : List ℕ) (g : Lcg) → IsShape sh
    → IsSafe (plan_with sh sections shown) 3 0 (piece style sh g).0
piece_safe Guarded sh sections shown g h = group_safe sh sections shown g h
piece_safe Free sh sections shown g h = item_safe sh sections shown g h

pieces_safe : (n : ℕ) (style : Style) (sh : DrawSizes) (sections : List (List Instruction)) (shown : List ℕ) (g : Lcg)
    → IsShape sh → IsSafe (plan_with sh sections shown) (n * 3) 0 (pieces n style sh g).0
unfolding pieces
pieces_safe zero style sh sections shown g h = safe_none (plan_with sh sections shown)
pieces_safe (suc n) style sh sections shown g h =
    let s = plan_with sh sections shown in
    let one = piece style sh g in
    longer s (3 + n * 3) (suc n * 3) 0 _ (omega arith) (safe-append s 3 (n * 3) 0 0 one.0 (pieces n style sh one.1).0
    (piece_safe style sh sections shown g h) (pieces_safe n style sh sections shown one.1 h))

few_pieces : (style : Style) (g : Lcg) → (below (most_pieces style) g).0 ≤ 8
few_pieces Guarded g = omega (arith, below_lt 5 g (omega arith))
few_pieces Free g = omega (arith, below_lt 9 g (omega arith))

phase_safe : (style : Style) (sh : DrawSizes) (sections : List (List Instruction)) (shown : List ℕ) (g : Lcg) → IsShape sh
    → IsSafe (plan_with sh sections shown) 24 0 (phase style sh g).0
unfolding phase
phase_safe style sh sections shown g h =
    let n = below (most_pieces style) g in
    longer (plan_with sh sections shown) (n.0 * 3) 24 0 _ (omega (arith, few_pieces style g))
    (pieces_safe n.0 style sh sections shown n.1 h)

phases_safe : (n : ℕ) (style : Style) (sh : DrawSizes) (sections : List (List Instruction)) (shown : List ℕ) (g : Lcg)
    → IsShape sh → IsSafe (plan_with sh sections shown) (n * 25) n (more_phases n style sh g).0
unfolding more_phases
phases_safe zero style sh sections shown g h = safe_none (plan_with sh sections shown)
phases_safe (suc n) style sh sections shown g h =
    let s = plan_with sh sections shown in
    let one = phase style sh g in
    let rest = (more_phases n style sh one.1).0 in
    let first =
    safe-append s 1 24 1 0 (Barrier ∷ []) one.0 (safe_barrier s) (phase_safe style sh sections shown g h) in
    let all =
    safe-append s 25 (n * 25) 1 n (Barrier ∷ one.0) rest first (phases_safe n style sh sections shown one.1 h) in
    longer s (25 + n * 25) (suc n * 25) (suc n) _ (omega arith)
    (subst (λ (k : ℕ). IsSafe s (25 + n * 25) k ((Barrier ∷ one.0) ++ rest)) (omega arith) all)

section_safe : (style : Style) (sh : DrawSizes) (sections : List (List Instruction)) (shown : List ℕ) (g : Lcg)
    → IsShape sh → IsSafe (plan_with sh sections shown) 74 sh.barriers (section style sh g).0
unfolding section
section_safe style sh sections shown g h =
    let s = plan_with sh sections shown in
    let first = phase style sh g in
    let all =
    safe-append s 24 (sh.barriers * 25) 0 sh.barriers first.0 (more_phases sh.barriers style sh first.1).0
    (phase_safe style sh sections shown g h) (phases_safe sh.barriers style sh sections shown first.1 h) in
    longer s (24 + sh.barriers * 25) 74 sh.barriers _ (omega (arith, h.most_barriers)) (subst
    (λ (k : ℕ). IsSafe s (24 + sh.barriers * 25) k (first.0 ++ (more_phases sh.barriers style sh first.1).0))
    (omega arith) all)

-- ---- the whole script

sections_safe : (n : ℕ) (style : Style) (sh : DrawSizes) (sections : List (List Instruction)) (shown : List ℕ) (g : Lcg)
    → IsShape sh
    → (length (drawn_sections n style sh g).0 ≡ n)
    × AllByRecursion (IsSafe (plan_with sh sections shown) 74 sh.barriers) (drawn_sections n style sh g).0
unfolding drawn_sections
sections_safe zero style sh sections shown g h = (refl, tt)
sections_safe (suc n) style sh sections shown g h =
    let one = section style sh g in
    let rest = sections_safe n style sh sections shown one.1 h in
    (ap suc rest.0, (section_safe style sh sections shown g h, rest.1))

section_from_safe : (s : Plan) (count : ℕ) (is : List Instruction) → IsSafe s 74 count is → IsLawfulSection s is
section_from_safe s count is h =
    record {
      most = omega (arith, h.short);
      in_range = All-from_recursion (IsInstructionInRange s) is h.in_range;
      holding = h.may [] (λ l. refl);
    }

range_below : (n a : ℕ) → AllByRecursion (λ x. x < a + n) (range_with_len a n)
range_below zero a = tt
range_below (suc n) a = (
  omega arith,
  subst (λ (k : ℕ). AllByRecursion (λ x. x < k) (range_with_len (a + 1) n)) (omega arith)
      (range_below n (a + 1)),
)

range_from_zero : (n : ℕ) → AllByRecursion (λ x. x < n) (range_with_len 0 n)
range_from_zero n =
    subst (λ (k : ℕ). AllByRecursion (λ x. x < k) (range_with_len 0 n)) (omega arith) (range_below n 0)

even_from : (s : Plan) (count : ℕ) → All (λ is. barriers is ≡ count) s.sections → IsLawfullyEven s
even_from s count h = λ k d lt. h k d lt ∙ sym (h 0 [] (omega (arith, lt)))

pub drawn_lawful : (style : Style) (g : Lcg) → IsLawful (drawn style g)
unfolding drawn
drawn_lawful style g =
    let sh = (shape g).0 in
    let h = shape_small g in
    let room = space sh h in
    let sections = (drawn_sections sh.processors style sh (shape g).1).0 in
    let shown = range_with_len 0 (sh.pages * sh.words) in
    let s = plan_with sh sections shown in
    let safe = sections_safe sh.processors style sh sections shown (shape g).1 h in
    let each = All-from_recursion (IsSafe s 74 sh.barriers) sections safe.1 in
    record {
      but_uneven = record {
        sizes = record {
          some_processors = h.some_processors;
          most_processors = omega (arith, h.most_processors);
          some_pages = h.some_pages;
          most_pages = omega (arith, h.most_pages);
          some_words = h.some_words;
          most_words = omega (arith, h.most_words);
          locks = omega (arith, h.most_locks);
          flags = omega arith;
        };
        one_each = safe.0;
        sections =
            All-weaker (IsSafe s 74 sh.barriers) (IsLawfulSection s) (λ is k. section_from_safe s sh.barriers is k) sections
            each;
        some_shown = omega (arith, length-range_with_len 0 (sh.pages * sh.words), room.some);
        most_shown = omega (arith, length-range_with_len 0 (sh.pages * sh.words), room.most);
        shown = All-from_recursion (λ a. a < sh.pages * sh.words) shown (range_from_zero (sh.pages * sh.words));
      };
      even =
          even_from s sh.barriers (All-weaker (IsSafe s 74 sh.barriers) (λ is. barriers is ≡ sh.barriers)
          (λ is k. k.barriers_are) sections each);
    }

pub lawful_from : (style : Style) (g : Lcg) (s : Plan) → s ≡ drawn style g → IsLawful s
lawful_from style g s e = subst IsLawful (sym e) (drawn_lawful style g)
