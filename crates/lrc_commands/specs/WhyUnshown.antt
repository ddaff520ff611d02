-- Why a script doesn't show an address.
use Rattle.std.specs.Prelude.{ℕ, ◌≡◌, ◌*◌, ◌<◌, ◌≤◌, length}
use Rattle.lrc_script.specs.Plan.{Plan}
use Rattle.lrc_commands.specs.declared.fault.WhyUnshown.{WhyUnshown}
use Rattle.lrc_commands.specs.declared.fault.WhyUnshown.TheVariants as why

-- it is outside of the script's sizes; or one more could be shown, or as many are as may be
abbrev pub IsWhyUnshown : Plan → ℕ → WhyUnshown → Type 0
IsWhyUnshown s address why.LeftOut = (address < s.pages * s.words) × (length s.shown < 64)
IsWhyUnshown s address why.Full = (address < s.pages * s.words) × (64 ≤ length s.shown)
IsWhyUnshown s address (why.Outside addresses) = (addresses ≡ s.pages * s.words) × (addresses ≤ address)
