use Rattle.std.specs.Prelude.{◌≡◌, ℕ, ◌*◌, ◌^◌, ◌<◌, ◌≤◌, ◌==◌, Bool, true, false, if◌then◌else◌, List, [], ◌∷◌, ◌++◌, length, fold, All, count_by, slice_index_or, Option, Some, None}
use Rattle.lrc_script.specs.declared.script.Instruction.{Instruction}
use Rattle.lrc_script.specs.declared.script.Instruction.TheVariants.{Load, Store, Add, Acquire, Release, Barrier, Set, Await, Cut}
use Rattle.lrc_script.specs.Plan.{Plan}

-- how many words the pages have together: addresses are below it
abbrev pub plan_addresses : Plan → ℕ
plan_addresses s = s.pages * s.words

-- the sizes that a script may have
pub record AreLawfulSizes (s : Plan) : Type 0 where
  pub some_processors : 1 ≤ s.processors
  pub most_processors : s.processors ≤ 16
  pub some_pages : 1 ≤ s.pages
  pub most_pages : s.pages ≤ 64
  pub some_words : 1 ≤ s.words
  pub most_words : s.words ≤ 64
  pub locks : s.locks ≤ 32
  pub flags : s.flags ≤ 32

-- the address that an instruction names
abbrev pub instruction_address : Instruction → Option ℕ
instruction_address (Load a) = Some a
instruction_address (Store a v) = Some a
instruction_address (Add a v) = Some a
instruction_address _ = None

-- the lock that it names
abbrev pub instruction_lock : Instruction → Option ℕ
instruction_lock (Acquire l) = Some l
instruction_lock (Release l) = Some l
instruction_lock _ = None

-- the flag that it names
abbrev pub instruction_flag : Instruction → Option ℕ
instruction_flag (Set f) = Some f
instruction_flag (Await f) = Some f
instruction_flag _ = None

-- an address, a lock and a flag are the cluster's, and a value is a word
abbrev pub IsInstructionInRange : Plan → Instruction → Type 0
IsInstructionInRange s (Load a) = a < plan_addresses s
IsInstructionInRange s (Store a v) = (a < plan_addresses s) × (v < 2 ^ 32)
IsInstructionInRange s (Add a v) = (a < plan_addresses s) × (v < 2 ^ 32)
IsInstructionInRange s (Acquire l) = l < s.locks
IsInstructionInRange s (Release l) = l < s.locks
IsInstructionInRange s Barrier = Unit {0}
IsInstructionInRange s (Set f) = f < s.flags
IsInstructionInRange s (Await f) = f < s.flags
IsInstructionInRange s Cut = Unit {0}

-- whether a section holds the lock after an instruction, by whether it held it before
abbrev pub still_holds : ℕ → Bool → Instruction → Bool
still_holds l held (Acquire m) = if m == l then true else held
still_holds l held (Release m) = if m == l then false else held
still_holds l held _ = held

-- whether a section holds the lock after these instructions
abbrev pub holds : List Instruction → ℕ → Bool
holds is l = fold (still_holds l) false is

-- after these instructions the section doesn't hold a lock that it acquires, and holds one that it releases
abbrev pub IsLawfulAfter : List Instruction → Instruction → Type 0
IsLawfulAfter before (Acquire l) = holds before l ≡ false
IsLawfulAfter before (Release l) = holds before l ≡ true
IsLawfulAfter before _ = Unit {0}

-- the instructions that one processor may have
pub record IsLawfulSection (s : Plan) (is : List Instruction) : Type 0 where
  pub most : length is ≤ 10000
  pub in_range : All (IsInstructionInRange s) is
  pub holding : (before : List Instruction) (i : Instruction) (after : List Instruction)
      → is ≡ before ++ i ∷ after → IsLawfulAfter before i

-- all that the grammar asks of a script, except that each section has as many barriers
pub record IsLawfulButUneven (s : Plan) : Type 0 where
  pub sizes : AreLawfulSizes s
  pub one_each : length s.sections ≡ s.processors
  pub sections : All (IsLawfulSection s) s.sections
  pub some_shown : 1 ≤ length s.shown
  pub most_shown : length s.shown ≤ 64
  pub shown : All (λ a. a < plan_addresses s) s.shown

-- whether an instruction is a barrier
abbrev pub is_barrier : Instruction → Bool
is_barrier Barrier = true
is_barrier _ = false

-- how many barriers a section has
abbrev pub barriers : List Instruction → ℕ
barriers is = count_by is_barrier is

-- each section has as many barriers as section 0
abbrev pub IsLawfullyEven : Plan → Type 0
IsLawfullyEven s = All (λ is. barriers is ≡ barriers (slice_index_or s.sections 0 [])) s.sections

-- all that the grammar asks of a script
pub record IsLawful (s : Plan) : Type 0 where
  pub but_uneven : IsLawfulButUneven s
  pub even : IsLawfullyEven s
