-- What reading a line does, as a function of its bytes.
use Rattle.std.specs.Prelude.{◌≡◌, ℕ, ◌+◌, ◌^◌, ◌==◌, nat_lt, nat_le, Bool, false, not, ◌&&◌, ◌||◌, if◌then◌else◌, List, [], ◌∷◌, ◌++◌, length, slice_index, codes, Option, Some, None, is_some, unwrap_or, Result, Ok, Err}
use Rattle.std.specs.Borrow.{Bor}
use Rattle.std.specs.Char.{is_ascii_digit}
use Rattle.std.specs.List.{slice_split, list_all, list_any}
use Rattle.std.specs.Str.{bytes_eq}
use Rattle.std.specs.Str.Parse.{digits_value}
use Rattle.lrc_script.specs.declared.fault.ScriptFault.{ScriptFault}
use Rattle.lrc_script.specs.declared.fault.ScriptFault.TheVariants.{BadLine, BadNumber, BadSize, OutOfRange, BadLock, BadFlag, AlreadyHeld, NotHeld, TooLong, NoMemory}
use Rattle.lrc_script.specs.declared.line.FewOnLine.{FewOnLine}
use Rattle.lrc_script.specs.declared.line.FewOnLine.TheVariants as few
use Rattle.lrc_script.specs.declared.line.LineKeyword.{LineKeyword}
use Rattle.lrc_script.specs.declared.line.LineKeyword.TheVariants as keyword
use Rattle.lrc_script.specs.declared.script.Instruction.{Instruction}
use Rattle.lrc_script.specs.declared.script.Instruction.TheVariants as instruction
use Rattle.lrc_script.specs.declared.read_so_far.ReadSoFar.{ReadSoFar}
use Rattle.lrc_script.specs.declared.read_so_far.ReadSoFar.TheVariants as progress
use Rattle.lrc_script.specs.Plan.{Plan, plan_of_sizes, plan_of}
use Rattle.lrc_script.specs.Lawful.{plan_addresses, instruction_address, instruction_lock, instruction_flag, holds}
use Rattle.lrc_script.specs.ScriptFaults.{HasNoLineFeed}
use Rattle.lrc_script.specs.ScriptLines.{script_line_space}
use Rattle.lrc_script.specs.ScriptFront.{ScriptFront, Nothing, Headed, Within, Whole}

-- a function that runs out of memory may answer so; any other answer, seen by view, is what reading gives
abbrev pub LineReadFails : {Y : Type 0} → ScriptFault → Result Y ScriptFault → Type 0
LineReadFails NoMemory read = Unit {0}
LineReadFails f read = read ≡ Err f

abbrev pub LineReadGives : {X Y : Type 0} → (X → Y) → Result X ScriptFault → Result Y ScriptFault → Type 0
LineReadGives view (Ok x) read = read ≡ Ok (view x)
LineReadGives view (Err e) read = LineReadFails e read

-- reading leads there
abbrev pub LineReadGoesTo : {Y : Type 0} → Y → Result Y ScriptFault → Type 0
LineReadGoesTo y read = read ≡ Ok y

-- what stands between the separators: of a line the words, which stand between its spaces
abbrev pub parts_of_read_line : ℕ → List ℕ → List (List ℕ)
parts_of_read_line separator bytes = slice_split (λ b. b == separator) bytes

-- the parts of what stands behind a separator, if there is one
abbrev pub parts_behind_in_read_line : ℕ → Option (Bor (List ℕ)) → List (List ℕ)
parts_behind_in_read_line separator None = []
parts_behind_in_read_line separator (Some rest) = parts_of_read_line separator rest.now

-- the bytes are a line, its line feed, and the rest
pub record IsLineReadOff (bytes line rest : List ℕ) : Type 0 where
  pub bytes_are : bytes ≡ line ++ 10 ∷ rest
  pub one_line : HasNoLineFeed line

abbrev pub line_read_word_has_bytes : List ℕ → Bool
line_read_word_has_bytes w = nat_lt 0 (length w)

abbrev pub line_read_keyword : List ℕ → Option LineKeyword
line_read_keyword w =
    if bytes_eq w (codes "cluster") then Some keyword.Cluster else
    if bytes_eq w (codes "p") then Some keyword.Section else
    if bytes_eq w (codes "load") then Some keyword.Load else
    if bytes_eq w (codes "store") then Some keyword.Store else
    if bytes_eq w (codes "add") then Some keyword.Add else
    if bytes_eq w (codes "acquire") then Some keyword.Acquire else
    if bytes_eq w (codes "release") then Some keyword.Release else
    if bytes_eq w (codes "barrier") then Some keyword.Barrier else
    if bytes_eq w (codes "set") then Some keyword.Set else
    if bytes_eq w (codes "await") then Some keyword.Await else
    if bytes_eq w (codes "cut") then Some keyword.Cut else
    if bytes_eq w (codes "show") then Some keyword.Show else None

-- digits, with no zero at the front of others
abbrev pub is_line_read_as_decimal : List ℕ → Bool
is_line_read_as_decimal w =
    not (length w == 0) && not ((slice_index w 0 == 48) && nat_lt 1 (length w)) && list_all is_ascii_digit w

-- the number below 2 ^ 32 that digits write
abbrev pub line_read_digit_sum : List ℕ → Option ℕ
line_read_digit_sum w =
    if list_all is_ascii_digit w && nat_lt (digits_value 10 w) (2 ^ 32) then Some (digits_value 10 w) else None

-- the number below 2 ^ 32 that is written so
abbrev pub line_read_number : List ℕ → Option ℕ
line_read_number w = if is_line_read_as_decimal w && nat_lt (digits_value 10 w) (2 ^ 32) then Some (digits_value 10 w) else None

-- the numbers that words are, behind these, or the fault of the first that is none
abbrev pub line_read_numbers_after : List ℕ → List (List ℕ) → Result (List ℕ) ScriptFault
line_read_numbers_after ns [] = Ok ns
line_read_numbers_after ns (w ∷ ws) =
    if is_some (line_read_number w) then line_read_numbers_after (ns ++ unwrap_or (line_read_number w) 0 ∷ []) ws else Err BadNumber

-- a number may begin here: there is a word, and no zero at its front
abbrev pub line_read_may_begin_number : List ℕ → Bool
line_read_may_begin_number [] = false
line_read_may_begin_number (b ∷ []) = not (b == script_line_space)
line_read_may_begin_number (b ∷ c ∷ bytes) = not (b == script_line_space) && not ((b == 48) && not (c == script_line_space))

-- the first word of a line is this number, and these words stand behind it
abbrev pub LineReadBeginsWithNumber : List ℕ → ℕ → List (List ℕ) → Type 0
LineReadBeginsWithNumber line n words =
    (w : List ℕ) × (parts_of_read_line script_line_space line ≡ w ∷ words) × (line_read_number w ≡ Some n)

-- the first word of a line is no number
abbrev pub LineReadBeginsWithNoNumber : List ℕ → Type 0
LineReadBeginsWithNoNumber line =
    (w : List ℕ) (words : List (List ℕ)) → parts_of_read_line script_line_space line ≡ w ∷ words → line_read_number w ≡ None

-- the numbers of a line that has few
abbrev pub line_read_few : FewOnLine → List ℕ
line_read_few few.Zero = []
line_read_few (few.One ns) = ns
line_read_few (few.Two ns) = ns

infixl 10 ◌>>=◌
abbrev pub ◌>>=◌ : {A B : Type 0} → Result A ScriptFault → (A → Result B ScriptFault) → Result B ScriptFault
(Ok x) >>= f = f x
(Err e) >>= f = Err e

-- which sizes a script may have
abbrev pub are_line_read_sizes : Plan → Bool
are_line_read_sizes s =
    nat_le 1 s.processors && nat_le s.processors 16 && nat_le 1 s.pages && nat_le s.pages 64
    && nat_le 1 s.words && nat_le s.words 64 && nat_le s.locks 32 && nat_le s.flags 32

-- how many numbers the instruction of a keyword takes
abbrev pub is_line_read_with : LineKeyword → ℕ → Bool
is_line_read_with keyword.Load n = n == 1
is_line_read_with keyword.Store n = n == 2
is_line_read_with keyword.Add n = n == 2
is_line_read_with keyword.Acquire n = n == 1
is_line_read_with keyword.Release n = n == 1
is_line_read_with keyword.Barrier n = n == 0
is_line_read_with keyword.Set n = n == 1
is_line_read_with keyword.Await n = n == 1
is_line_read_with keyword.Cut n = n == 0
is_line_read_with _ n = false

-- which keywords are allowed at this point, with that many numbers
abbrev pub is_read_line_due : ScriptFront → LineKeyword → ℕ → Bool
is_read_line_due Nothing keyword.Cluster n = (n == 4) || (n == 5)
is_read_line_due Nothing _ n = false
is_read_line_due (Headed s) keyword.Section n = n == 1
is_read_line_due (Headed s) _ n = false
is_read_line_due (Within s is) keyword.Section n = n == 1
is_read_line_due (Within s is) keyword.Show n = nat_le 1 n && (length s.sections + 1 == s.processors)
is_read_line_due (Within s is) k n = is_line_read_with k n
is_read_line_due (Whole s) k n = false

abbrev pub line_read_sizes : Bool → Plan → Result ScriptFront ScriptFault
line_read_sizes are s = if are then Ok (Headed s) else Err BadSize

-- the numbers of a cluster line
abbrev pub line_read_cluster : List ℕ → Result ScriptFront ScriptFault
line_read_cluster (p ∷ n ∷ w ∷ l ∷ []) = line_read_sizes (are_line_read_sizes (plan_of_sizes p n w l 0)) (plan_of_sizes p n w l 0)
line_read_cluster (p ∷ n ∷ w ∷ l ∷ g ∷ []) = line_read_sizes (nat_lt 0 g && are_line_read_sizes (plan_of_sizes p n w l g)) (plan_of_sizes p n w l g)
line_read_cluster _ = Err BadLine

-- the section is whole
abbrev pub line_read_section_closed : Plan → List Instruction → Plan
line_read_section_closed s is = record s { sections = s.sections ++ is ∷ [] }

-- the numbers of the first section line
abbrev pub line_read_first_section : Plan → List ℕ → Result ScriptFront ScriptFault
line_read_first_section s (k ∷ []) = if k == 0 then Ok (Within s []) else Err BadLine
line_read_first_section s _ = Err BadLine

-- the numbers of another section line
abbrev pub line_read_next_section : Plan → List Instruction → List ℕ → Result ScriptFront ScriptFault
line_read_next_section s is (k ∷ []) =
    if (k == length s.sections + 1) && nat_lt k s.processors then Ok (Within (line_read_section_closed s is) []) else Err BadLine
line_read_next_section s is _ = Err BadLine

-- the numbers of the show line
abbrev pub line_read_shown : Plan → List Instruction → List ℕ → Result ScriptFront ScriptFault
line_read_shown s is ns =
    if list_any (λ a. nat_le (plan_addresses s) a) ns then Err OutOfRange else
    if nat_lt 64 (length ns) then Err TooLong else Ok (Whole (record (line_read_section_closed s is) { shown = ns }))

-- the instruction of a keyword with these numbers
abbrev pub line_read_as_instruction : LineKeyword → List ℕ → Option Instruction
line_read_as_instruction keyword.Load (a ∷ []) = Some (instruction.Load a)
line_read_as_instruction keyword.Store (a ∷ v ∷ []) = Some (instruction.Store a v)
line_read_as_instruction keyword.Add (a ∷ v ∷ []) = Some (instruction.Add a v)
line_read_as_instruction keyword.Acquire (l ∷ []) = Some (instruction.Acquire l)
line_read_as_instruction keyword.Release (l ∷ []) = Some (instruction.Release l)
line_read_as_instruction keyword.Barrier [] = Some instruction.Barrier
line_read_as_instruction keyword.Set (f ∷ []) = Some (instruction.Set f)
line_read_as_instruction keyword.Await (f ∷ []) = Some (instruction.Await f)
line_read_as_instruction keyword.Cut [] = Some instruction.Cut
line_read_as_instruction _ _ = None

abbrev pub line_read_takes_held : List Instruction → Instruction → Bool
line_read_takes_held is (instruction.Acquire l) = holds is l
line_read_takes_held is _ = false

abbrev pub line_read_gives_unheld : List Instruction → Instruction → Bool
line_read_gives_unheld is (instruction.Release l) = not (holds is l)
line_read_gives_unheld is _ = false

abbrev pub is_line_read_past : Option ℕ → ℕ → Bool
is_line_read_past None count = false
is_line_read_past (Some place) count = nat_le count place

-- why an instruction can't stand after these, by the order of the tests
abbrev pub line_read_refusal : Plan → List Instruction → Instruction → Option ScriptFault
line_read_refusal s is i =
    if is_line_read_past (instruction_address i) (plan_addresses s) then Some OutOfRange else
    if is_line_read_past (instruction_lock i) s.locks then Some BadLock else
    if is_line_read_past (instruction_flag i) s.flags then Some BadFlag else
    if line_read_takes_held is i then Some AlreadyHeld else
    if line_read_gives_unheld is i then Some NotHeld else
    if nat_le 10000 (length is) then Some TooLong else None

abbrev pub line_read_instruction : Plan → List Instruction → Instruction → Option ScriptFault → Result ScriptFront ScriptFault
line_read_instruction s is i None = Ok (Within s (is ++ i ∷ []))
line_read_instruction s is i (Some f) = Err f

abbrev pub line_read_with_instruction : Plan → List Instruction → Option Instruction → Result ScriptFront ScriptFault
line_read_with_instruction s is None = Err BadLine
line_read_with_instruction s is (Some i) = line_read_instruction s is i (line_read_refusal s is i)

-- what a line of this keyword and these numbers makes of what stands before it
unfoldable pub line_read_step : ScriptFront → LineKeyword → List ℕ → Result ScriptFront ScriptFault
line_read_step Nothing k ns = line_read_cluster ns
line_read_step (Headed s) k ns = line_read_first_section s ns
line_read_step (Within s is) keyword.Section ns = line_read_next_section s is ns
line_read_step (Within s is) keyword.Show ns = line_read_shown s is ns
line_read_step (Within s is) k ns = line_read_with_instruction s is (line_read_as_instruction k ns)
line_read_step (Whole s) k ns = Err BadLine

-- the line is no instruction of a section
abbrev pub IsOtherLineRead : ScriptFront → LineKeyword → List ℕ → Type 0
IsOtherLineRead (Within s is) k ns = line_read_as_instruction k ns ≡ None
IsOtherLineRead _ k ns = Unit {0}

unfoldable pub line_read_after_keyword : ScriptFront → Option LineKeyword → List (List ℕ) → Result ScriptFront ScriptFault
line_read_after_keyword f None ws = Err BadLine
line_read_after_keyword f (Some k) ws = if is_read_line_due f k (length ws) then line_read_numbers_after [] ws >>= line_read_step f k else Err BadLine

-- what a line of this keyword, if it is one, and these numbers makes of what stands before it
unfoldable pub line_read_after_numbers : ScriptFront → Option LineKeyword → List ℕ → Result ScriptFront ScriptFault
line_read_after_numbers f None ns = Err BadLine
line_read_after_numbers f (Some k) ns = if is_read_line_due f k (length ns) then line_read_step f k ns else Err BadLine

abbrev pub line_read_after_words : ScriptFront → List (List ℕ) → Result ScriptFront ScriptFault
line_read_after_words f [] = Err BadLine
line_read_after_words f (w ∷ ws) = if list_all line_read_word_has_bytes (w ∷ ws) then line_read_after_keyword f (line_read_keyword w) ws else Err BadLine

-- what a line makes of what stands before it
abbrev pub line_read_after : ScriptFront → List ℕ → Result ScriptFront ScriptFault
line_read_after f line = line_read_after_words f (parts_of_read_line script_line_space line)

-- what stands before the next line
abbrev pub line_read_front : ReadSoFar → ScriptFront
line_read_front progress.Start = Nothing
line_read_front (progress.Headed s) = Headed (plan_of s)
line_read_front (progress.Within s section) = Within (plan_of s) section.instructions.items
line_read_front (progress.Whole s) = Whole (plan_of s)
