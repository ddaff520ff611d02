-- Reading from line to line through the bytes of a script.
use Rattle.std.proofs.Common.{◌≡◌, ◌≢◌, ℕ, ◌+◌, ◌<◌, ◌≤◌, map, List, [], ◌∷◌, ◌++◌, length, Ok, Err, refl, sym, ap, subst, ◌∙◌, append_assoc, arith}
use Rattle.std.specs.Prelude.{All}
use Rattle.std.specs.Global.{Vec}
use Rattle.std.specs.List.{flat_map}
use Rattle.std.proofs.lemmas.List.{append-nil, length-append, length-map, get_or-map}
use Rattle.std.proofs.lemmas.List.Elements.{All-weaker}
use Rattle.std.proofs.lemmas.List.Concat.{flat_map-append}
use Rattle.lrc_script.specs.declared.fault.ScriptFault.{ScriptFault}
use Rattle.lrc_script.specs.declared.fault.ScriptFault.TheVariants.{Truncated, NoMemory}
use Rattle.lrc_script.specs.declared.script.Instruction.{Instruction}
use Rattle.lrc_script.specs.Plan.{Plan}
use Rattle.lrc_script.specs.Lawful.{IsLawfulSection, IsLawfulButUneven, IsLawful}
use Rattle.lrc_script.specs.ScriptLines.{ScriptLine, script_line_text, script_line_bytes, text}
use Rattle.lrc_script.specs.ScriptFront.{ScriptFront, Nothing, Whole, IsScriptFrontLawful, script_front_lines, script_front_text}
use Rattle.lrc_script.specs.ScriptFaults.{IsAtScriptLine, IsScriptFaultAt, IsScriptFault, IsScriptFaultUnevenAtLine, IsScriptFaultUneven}
use Rattle.lrc_script.specs.LineReading.{LineReadFails, IsLineReadOff, line_read_after}
use Rattle.lrc_script.proofs.Reading.Separators.{HasNoSeparator}
use Rattle.lrc_script.proofs.Front.FrontTexts.{front_text_never_goes_on, front_text_never_begins, front_text_ends, front_text_injective}
use Rattle.lrc_script.proofs.Faults.RefusedLines.{no_refused_line_adds, refused_line_says, refused_line_fault_behind, refused_line_fault_from}
use Rattle.lrc_script.proofs.Front.FilledFront.{filled_front_begins_text}

pub script_walk_start : (bytes : List ℕ) → IsAtScriptLine bytes 1 Nothing bytes
script_walk_start bytes = record { begun = tt; whole = refl; number = refl }

pub script_walk_next : {bytes : List ℕ} {n : ℕ} {f : ScriptFront} (g : ScriptFront) {now line rest : List ℕ} → IsAtScriptLine bytes n f now
    → IsLineReadOff now line rest → line_read_after f line ≡ Ok g → IsAtScriptLine bytes (n + 1) g rest
script_walk_next {f = f} g {line = line} {rest = rest} at cut read =
    let a = no_refused_line_adds f line g at.begun read in
    let lines = a.adds.lines_are in
    let front : script_front_text g ≡ script_front_text f ++ (script_line_text a.added ++ []) =
    ap (flat_map script_line_text) lines ∙ flat_map-append script_line_text (script_front_lines f) (a.added ∷ []) in
    let added : script_line_text a.added ++ [] ≡ line ++ 10 ∷ [] =
    append-nil (script_line_text a.added) ∙ ap (λ (x : List ℕ). x ++ 10 ∷ []) (sym a.line_is) in
    let front' : script_front_text g ≡ script_front_text f ++ (line ++ 10 ∷ []) =
    front ∙ ap (λ (x : List ℕ). script_front_text f ++ x) added in
    let joined' : script_front_text g ++ rest ≡ script_front_text f ++ (line ++ 10 ∷ rest) =
    ap (λ (x : List ℕ). x ++ rest) front' ∙ append_assoc (script_front_text f) (line ++ 10 ∷ []) rest
    ∙ ap (λ (x : List ℕ). script_front_text f ++ x) (append_assoc line (10 ∷ []) rest) in
    record {
      begun = a.adds.begun;
      whole = at.whole ∙ ap (λ (x : List ℕ). script_front_text f ++ x) cut.bytes_are ∙ sym joined';
      number =
          omega (
            arith,
            at.number,
            ap (λ (ls : List ScriptLine). length ls) lines,
            length-append (script_front_lines f)
                (a.added ∷ []),
          );
    }

-- the bytes are no lawful script's text
abbrev pub IsNoScriptText : List ℕ → Type 0
IsNoScriptText bytes = (s : Plan) → IsLawful s → bytes ≢ text s

pub script_walk_refused_fault : {bytes : List ℕ} {n : ℕ} {f : ScriptFront} {now line rest : List ℕ} (g : ScriptFault)
    → IsAtScriptLine bytes n f now → IsLineReadOff now line rest → line_read_after f line ≡ Err g → IsScriptFaultAt bytes n g × IsNoScriptText bytes
script_walk_refused_fault {f = f} {now = now} {line = line} {rest = rest} g at cut read = (
  record {
    front = f;
    rest = now;
    at = at;
    begins = filled_front_begins_text f at.begun;
    behind = refused_line_fault_behind g f now (record {
      line = line;
      more = rest;
      rest_is = cut.bytes_are;
      one_line = cut.one_line;
      says = refused_line_says f line g read;
      never = front_text_never_begins f line g at.begun cut.one_line read;
    });
  },
  λ s lawful same. front_text_never_goes_on f line rest g s at.begun cut.one_line read lawful.but_uneven
      (sym same ∙ at.whole ∙ ap (λ (x : List ℕ). script_front_text f ++ x) cut.bytes_are),
)

pub script_walk_truncated_fault : (bytes : List ℕ) (n : ℕ) (f : ScriptFront) (rest : List ℕ) → IsAtScriptLine bytes n f rest → HasNoSeparator 10 rest
    → ((s : Plan) → f ≡ Whole s → 0 < length rest) → IsScriptFault bytes n Truncated × IsNoScriptText bytes
script_walk_truncated_fault bytes n f rest at clean over = (
  record {
    front = f;
    rest = rest;
    at = at;
    begins = filled_front_begins_text f at.begun;
    behind = record { no_line = clean; not_over = over };
  },
  λ s lawful same.
      let ends = front_text_ends f rest s at.begun clean lawful.but_uneven (sym same ∙ at.whole) in
      omega (arith, over s ends.0, ap (λ (x : List ℕ). length x) ends.1),
)

pub script_walk_memory_fault : (bytes : List ℕ) (n : ℕ) (f : ScriptFront) (now line rest : List ℕ) → IsAtScriptLine bytes n f now
    → IsLineReadOff now line rest → IsScriptFault bytes n NoMemory
script_walk_memory_fault bytes n f now line rest at cut = record {
  front = f;
  rest = now;
  at = at;
  begins = filled_front_begins_text f at.begun;
  behind = record { line = line; more = rest; rest_is = cut.bytes_are; one_line = cut.one_line };
}

-- where nothing is left, the bytes are the text of a script that is lawful but for evenness
pub script_walk_whole_text : (bytes : List ℕ) (n : ℕ) (f : ScriptFront) (rest : List ℕ) (s : Plan) → IsAtScriptLine bytes n f rest
    → (f ≡ Whole s) × (rest ≡ []) → IsLawfulButUneven s × (bytes ≡ text s)
script_walk_whole_text bytes n f rest s at ends =
    let whole : bytes ≡ script_front_text (Whole s) ++ [] =
    at.whole ∙ ap (λ (g : ScriptFront). script_front_text g ++ rest) ends.0 ∙ ap (λ (x : List ℕ). text s ++ x) ends.1 in
    (subst IsScriptFrontLawful ends.0 at.begun, whole ∙ append-nil (text s))

-- the text of an uneven script is no lawful script's
pub script_walk_uneven_fault : (bytes : List ℕ) (s : Plan) (n : ℕ) → IsLawfulButUneven s → bytes ≡ text s → IsScriptFaultUnevenAtLine s n
    → IsScriptFaultUneven bytes n × IsNoScriptText bytes
script_walk_uneven_fault bytes s n lawful text-is h = (
  record { script = s; lawful = lawful; text_is = text-is; uneven = h },
  λ t lawful' same.
      let one : s ≡ t = front_text_injective s t lawful lawful'.but_uneven (sym text-is ∙ same) in
      let u = subst (λ (x : Plan). IsScriptFaultUnevenAtLine x n) one h in
      u.differs (lawful'.even u.section [] u.within),
)

script_walk_lines_have_bytes : (ls : List ScriptLine) → length ls ≤ length (flat_map script_line_text ls)
script_walk_lines_have_bytes [] = omega arith
script_walk_lines_have_bytes (l ∷ ls) =
    omega (
      arith,
      script_walk_lines_have_bytes ls,
      length-append (script_line_text l) (flat_map script_line_text ls),
      length-append (script_line_bytes l)
          (10 ∷ []),
    )

-- there are no more lines than bytes
pub script_walk_line_number_fits : (bytes : List ℕ) (n : ℕ) (f : ScriptFront) (now line rest : List ℕ) → IsAtScriptLine bytes n f now
    → IsLineReadOff now line rest → n ≤ length bytes
script_walk_line_number_fits bytes n f now line rest at cut =
    omega (
      arith,
      at.number,
      script_walk_lines_have_bytes (script_front_lines f),
      ap (λ (x : List ℕ). length x) at.whole,
      length-append
          (script_front_text f) now,
      ap (λ (x : List ℕ). length x) cut.bytes_are,
      length-append line (10 ∷ rest),
    )

pub script_walk_rest_shorter : (now line rest : List ℕ) → IsLineReadOff now line rest → length rest < length now
script_walk_rest_shorter now line rest cut =
    omega (arith, ap (λ (x : List ℕ). length x) cut.bytes_are, length-append line (10 ∷ rest))

-- what a line that fails says, whatever the error
pub script_walk_failed_fault : {bytes : List ℕ} {n : ℕ} {f : ScriptFront} {now line rest : List ℕ} (g : ScriptFault)
    → IsAtScriptLine bytes n f now → IsLineReadOff now line rest → LineReadFails g (line_read_after f line)
    → IsScriptFault bytes n g × (g ≢ NoMemory → IsNoScriptText bytes)
script_walk_failed_fault {bytes = bytes} {n = n} {f = f} {now = now} {line = line} {rest = rest} NoMemory at cut read =
    (script_walk_memory_fault bytes n f now line rest at cut, λ h. absurd (h refl))
script_walk_failed_fault {bytes = bytes} {n = n} g at cut read =
    let r = script_walk_refused_fault g at cut read in (refused_line_fault_from bytes n g r.0, λ h. r.1)

-- what is read has one script
pub script_walk_one_script : (bytes : List ℕ) (t : Plan) → IsLawful t × (bytes ≡ text t) → (s : Plan) → IsLawful s
    → bytes ≡ text s → t ≡ s
script_walk_one_script bytes t found s lawful same = front_text_injective t s found.0.but_uneven lawful.but_uneven (sym found.1 ∙ same)

-- ---- sections in memory

script_walk_section_lengths : (sections : List (Vec Instruction))
    → All (λ is. length is ≤ 10000) (map (λ section. section.items) sections)
    → All (λ section. length section.items ≤ 10000) sections
script_walk_section_lengths sections h =
    λ k d lt. subst (λ (is : List Instruction). length is ≤ 10000)
    (get_or-map (λ section. section.items) sections k d [] lt)
    (h k [] (omega (arith, lt, length-map sections (λ (section : Vec Instruction). section.items))))

-- what looking for an uneven section needs
pub script_walk_sections_fit : (s : Plan) (sections : List (Vec Instruction))
    → s.sections ≡ map (λ section. section.items) sections → IsLawfulButUneven s
    → (length sections ≤ 16) × All (λ section. length section.items ≤ 10000) sections
script_walk_sections_fit s sections e h =
    let each : All (λ is. length is ≤ 10000) s.sections =
    All-weaker (IsLawfulSection s) (λ is. length is ≤ 10000) (λ is k. k.most) s.sections h.sections in (
      omega (
        arith,
        ap (λ (xs : List (List Instruction)). length xs) e,
        length-map sections
            (λ (section : Vec Instruction). section.items),
        h.one_each,
        h.sizes.most_processors,
      ),
      script_walk_section_lengths sections (subst (All (λ is. length is ≤ 10000)) e each),
    )
