-- What each fault says of the bytes.
use Rattle.std.specs.Prelude.{◌≡◌, ◌≢◌, ℕ, suc, ◌^◌, ◌<◌, ◌≤◌, ◌⊎◌, true, false, List, [], ◌∷◌, ◌++◌, length, take, slice_index_or, codes, Contains, IsSomeAnd, Any}
use Rattle.std.specs.List.{flat_map, AllByRecursion}
use Rattle.std.specs.Fmt.{decimal}
use Rattle.lrc_script.specs.declared.fault.ScriptFault.{ScriptFault}
use Rattle.lrc_script.specs.declared.fault.ScriptFault.TheVariants.{Truncated, BadLine, BadNumber, BadSize, OutOfRange, BadLock, BadFlag, AlreadyHeld, NotHeld, TooLong, Uneven, NoMemory}
use Rattle.lrc_script.specs.declared.script.Instruction.{Instruction}
use Rattle.lrc_script.specs.declared.script.Instruction.TheVariants.{Acquire, Release}
use Rattle.lrc_script.specs.Plan.{Plan, plan_of_sizes}
use Rattle.lrc_script.specs.Lawful.{plan_addresses, instruction_address, instruction_lock, instruction_flag, holds, barriers, AreLawfulSizes, IsLawfulButUneven}
use Rattle.lrc_script.specs.ScriptLines.{script_cluster_line, script_section_lines, script_line_bytes, script_section_line, script_instruction_line, script_show_line, text}
use Rattle.lrc_script.specs.ScriptFront.{ScriptFront, Nothing, Headed, Within, Whole, IsScriptFrontLawful, script_front_lines, script_front_text}

-- a word has a byte, and no space
pub record IsWordOfLine (w : List ℕ) : Type 0 where
  pub some : 0 < length w
  pub no_space : AllByRecursion (λ b. b ≢ 32) w

-- the line is this word and these words, with one space before each
pub record IsLineSplit (line word : List ℕ) (words : List (List ℕ)) : Type 0 where
  pub first : IsWordOfLine word
  pub others : AllByRecursion IsWordOfLine words
  pub whole : line ≡ word ++ flat_map (λ w. 32 ∷ w) words

-- which first words are allowed behind these lines, and with how many words after it
abbrev pub AllowsScriptLine : ScriptFront → List ℕ → ℕ → Type 0
AllowsScriptLine Nothing word n = (word ≡ codes "cluster") × ((n ≡ 4) ⊎ (n ≡ 5))
AllowsScriptLine (Headed s) word n = (word ≡ codes "p") × (n ≡ 1)
AllowsScriptLine (Within s is) word n =
    ((word ≡ codes "p") × (n ≡ 1))
    ⊎ ((word ≡ codes "show") × (1 ≤ n) × (suc (length s.sections) ≡ s.processors))
    ⊎ ((i : Instruction) × (word ≡ (script_instruction_line i).word) × (n ≡ length (script_instruction_line i).numbers))
AllowsScriptLine (Whole s) word n = ⊥

-- the section isn't the next one, or is past the last
abbrev pub IsScriptFaultOutOfTurn : ScriptFront → ℕ → Type 0
IsScriptFaultOutOfTurn (Headed s) k = k ≢ 0
IsScriptFaultOutOfTurn (Within s is) k = (k ≢ suc (length s.sections)) ⊎ (s.processors ≤ k)
IsScriptFaultOutOfTurn _ k = ⊥

-- the numbers aren't sizes that a script may have; no flags are written with four numbers
abbrev pub AreScriptFaultSizes : List ℕ → Type 0
AreScriptFaultSizes (p ∷ n ∷ w ∷ l ∷ []) = AreLawfulSizes (plan_of_sizes p n w l 0) → ⊥
AreScriptFaultSizes (p ∷ n ∷ w ∷ l ∷ g ∷ []) = (g ≡ 0) ⊎ (AreLawfulSizes (plan_of_sizes p n w l g) → ⊥)
AreScriptFaultSizes _ = ⊥

-- the line is an instruction with this property
abbrev pub IsScriptInstructionLine : List ℕ → (Instruction → Type 0) → Type 0
IsScriptInstructionLine line P = (i : Instruction) × (line ≡ script_line_bytes (script_instruction_line i)) × P i

-- the line shows addresses with this property
abbrev pub IsScriptShowLine : List ℕ → (List ℕ → Type 0) → Type 0
IsScriptShowLine line P = (shown : List ℕ) × (line ≡ script_line_bytes (script_show_line shown)) × P shown

-- what a fault says of a line behind these sizes, sections and instructions
abbrev pub ScriptFaultSaysWithin : ScriptFault → Plan → List Instruction → List ℕ → Type 0
ScriptFaultSaysWithin OutOfRange s is line =
    IsScriptInstructionLine line (λ i. IsSomeAnd (instruction_address i) (λ a. plan_addresses s ≤ a))
    ⊎ IsScriptShowLine line (Any (λ a. plan_addresses s ≤ a))
ScriptFaultSaysWithin BadLock s is line = IsScriptInstructionLine line (λ i. IsSomeAnd (instruction_lock i) (λ l. s.locks ≤ l))
ScriptFaultSaysWithin BadFlag s is line = IsScriptInstructionLine line (λ i. IsSomeAnd (instruction_flag i) (λ f. s.flags ≤ f))
ScriptFaultSaysWithin AlreadyHeld s is line = IsScriptInstructionLine line (λ i. (l : ℕ) × (i ≡ Acquire l) × (holds is l ≡ true))
ScriptFaultSaysWithin NotHeld s is line = IsScriptInstructionLine line (λ i. (l : ℕ) × (i ≡ Release l) × (holds is l ≡ false))
ScriptFaultSaysWithin TooLong s is line = IsScriptInstructionLine line (λ i. 10000 ≤ length is) ⊎ IsScriptShowLine line (λ shown. 64 < length shown)
ScriptFaultSaysWithin _ s is line = ⊥

-- what a fault says of a line behind these lines
abbrev pub ScriptFaultSays : ScriptFault → ScriptFront → List ℕ → Type 0
ScriptFaultSays BadLine f line =
    ((word : List ℕ) (words : List (List ℕ)) → IsLineSplit line word words → AllowsScriptLine f word (length words) → ⊥)
    ⊎ ((k : ℕ) × (line ≡ script_line_bytes (script_section_line k)) × IsScriptFaultOutOfTurn f k)
ScriptFaultSays BadNumber f line =
    (word : List ℕ) × (words : List (List ℕ)) × IsLineSplit line word words × AllowsScriptLine f word (length words)
    × (w : List ℕ) × Contains words w × ((n : ℕ) → n < 2 ^ 32 → w ≢ decimal n)
ScriptFaultSays BadSize Nothing line =
    (ns : List ℕ) × (line ≡ script_line_bytes (record { word = codes "cluster"; numbers = ns })) × AreScriptFaultSizes ns
ScriptFaultSays fault (Within s is) line = ScriptFaultSaysWithin fault s is line
ScriptFaultSays _ f line = ⊥

-- some script that is lawful but for evenness has a text that begins so
abbrev pub BeginsScriptText : List ℕ → Type 0
BeginsScriptText bytes = (s : Plan) × IsLawfulButUneven s × (more : List ℕ) × (text s ≡ bytes ++ more)

abbrev pub HasNoLineFeed : List ℕ → Type 0
HasNoLineFeed bytes = AllByRecursion (λ b. b ≢ 10) bytes

-- line n of the bytes is the first line of rest, behind these lines
pub record IsAtScriptLine (bytes : List ℕ) (n : ℕ) (f : ScriptFront) (rest : List ℕ) : Type 0 where
  pub begun : IsScriptFrontLawful f
  pub whole : bytes ≡ script_front_text f ++ rest
  pub number : n ≡ suc (length (script_front_lines f))

-- the fault's own line stands in the bytes, and no lawful script has it there
pub record IsScriptFaultOfLine (fault : ScriptFault) (f : ScriptFront) (rest : List ℕ) : Type 0 where
  pub line : List ℕ
  pub more : List ℕ
  pub rest_is : rest ≡ line ++ 10 ∷ more
  pub one_line : HasNoLineFeed line
  pub says : ScriptFaultSays fault f line
  pub never : BeginsScriptText (script_front_text f ++ (line ++ 10 ∷ [])) → ⊥

-- the bytes end where a line has to be, or their last line has no line feed
pub record IsScriptFaultTruncated (f : ScriptFront) (rest : List ℕ) : Type 0 where
  pub no_line : HasNoLineFeed rest
  pub not_over : (s : Plan) → f ≡ Whole s → 0 < length rest

-- a line stands there
pub record HasLine (rest : List ℕ) : Type 0 where
  pub line : List ℕ
  pub more : List ℕ
  pub rest_is : rest ≡ line ++ 10 ∷ more
  pub one_line : HasNoLineFeed line

abbrev pub IsScriptFaultBehind : ScriptFault → ScriptFront → List ℕ → Type 0
IsScriptFaultBehind Truncated f rest = IsScriptFaultTruncated f rest
IsScriptFaultBehind NoMemory f rest = HasLine rest
IsScriptFaultBehind fault f rest = IsScriptFaultOfLine fault f rest

-- line n has the fault: the lines before it begin the text of a script, and the fault says what is wrong
pub record IsScriptFaultAt (bytes : List ℕ) (n : ℕ) (fault : ScriptFault) : Type 0 where
  pub front : ScriptFront
  pub rest : List ℕ
  pub at : IsAtScriptLine bytes n front rest
  pub begins : BeginsScriptText (script_front_text front)
  pub behind : IsScriptFaultBehind fault front rest

-- how many barriers section k has
abbrev pub barriers_in_section : Plan → ℕ → ℕ
barriers_in_section s k = barriers (slice_index_or s.sections k [])

-- line n is the head of the first section with another number of barriers than section 0
pub record IsScriptFaultUnevenAtLine (s : Plan) (n : ℕ) : Type 0 where
  pub section : ℕ
  pub within : section < length s.sections
  pub differs : barriers_in_section s section ≢ barriers_in_section s 0
  pub first : (k : ℕ) → k < section → barriers_in_section s k ≡ barriers_in_section s 0
  pub line : n ≡ suc (length (script_cluster_line s ∷ script_section_lines 0 (take section s.sections)))

-- the bytes are the text of a script that is lawful but for evenness, and line n says where it is uneven
pub record IsScriptFaultUneven (bytes : List ℕ) (n : ℕ) : Type 0 where
  pub script : Plan
  pub lawful : IsLawfulButUneven script
  pub text_is : bytes ≡ text script
  pub uneven : IsScriptFaultUnevenAtLine script n

abbrev pub IsScriptFault : List ℕ → ℕ → ScriptFault → Type 0
IsScriptFault bytes n Uneven = IsScriptFaultUneven bytes n
IsScriptFault bytes n fault = IsScriptFaultAt bytes n fault
