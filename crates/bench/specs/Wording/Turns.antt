-- How the promises about turns speak.
use Rattle.std.specs.Prelude.{◌≡◌, ◌≤◌, ◌<◌, List, Bool, true, false, ℕ, ◌*◌, length}
use Rattle.bench.specs.Words.{ControlFlow, Continue, Break, Header}
use Rattle.gap.specs.Wording.Written.{Wrote}
use Rattle.editor.specs.Rules.Bytes.{quarter}
use Rattle.window.specs.Rules.Core.{Lent}
use Rattle.bench.specs.declared.Next.{Next}
use Rattle.bench.specs.declared.Turn.{Turn}
use Rattle.bench.specs.Rules.Run.{State, Turned, screen_size}

-- What the code goes on from, with the stores as they are then.
abbrev pub state_from : Next → Lent → State
state_from from b = record { going = true; at = from.at; session = from.session; lent = b }

-- Whether a turn goes on, and what it hands on, either way.
abbrev pub goes_on : ControlFlow Next Next → Bool
goes_on (Continue next) = true
goes_on (Break last) = false

abbrev pub handed_on : ControlFlow Next Next → Next
handed_on (Continue next) = next
handed_on (Break last) = last

-- What a turn of the code leaves, with the stores as they are then.
abbrev pub state_of : Turn → Lent → State
state_of t b = record { going = goes_on t.next; at = (handed_on t.next).at; session = (handed_on t.next).session; lent = b }

-- A screen that can be printed: as many rows and columns as tabled.
pub record Printable (h w : ℕ) (screen : List ℕ) : Type 0 where
  pub rows : h ≤ 64
  pub columns : w ≤ 256
  pub long : length screen ≡ h * w

-- A turn of the code leaves the state and prints the bytes that a turn of the definitions does.
pub record Does (turned : Turned) (t : Turn) (b : Lent) (old new : List ℕ) : Type 0 where
  pub state : state_of t b ≡ turned.state
  pub prints : Wrote 0 turned.printed old t.printed new

-- Where the program goes on it is further along in the input, and never behind its end: so it ends.
pub record Onward (from : Next) (end : ℕ) (t : Turn) : Type 0 where
  pub further : (next : Next) → t.next ≡ Continue next → from.at < next.at
  pub inside : (handed_on t.next).at ≤ end

-- The lent stores have the lengths of those that the program starts from. (`fresh`, Run.)
pub record AsAsked (h : Header) (b : Lent) : Type 0 where
  pub text : length b.stores.text ≡ h.store
  pub recall : length b.stores.recall ≡ h.store
  pub held : length b.stores.held ≡ h.store
  pub side : length b.stores.side ≡ 4 * quarter
  pub screen : length b.screen ≡ screen_size h.rows h.columns
