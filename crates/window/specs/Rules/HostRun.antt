-- A host at work: opening and keys in numbers, record and stores handed on as they came back, and its terminal. These are the benches of
-- Terminal and Machine, with the host's calls in place of the core's.
use Rattle.std.specs.Prelude.{List, [], ◌∷◌, cond, ℕ, take}
use Rattle.window.specs.Words.{Key}
use Rattle.window.specs.Rules.Core.{Lent}
use Rattle.window.specs.Rules.Terminal.{repaint}
use Rattle.window.specs.Rules.Sending.{SendOutcome, sending}
use Rattle.window.specs.Rules.Machine.{Machine, feed}
use Rattle.window.specs.Rules.Host.{Given, KeyNumbers, key_of, names, host_opened, host_pressed}

-- The keys that numbers name, in their order; those that name none are left out.
unfoldable pub keys_named : List KeyNumbers → List Key
keys_named [] = []
keys_named (x ∷ xs) = cond (names x) (key_of x ∷ keys_named xs) (keys_named xs)

-- A key is called with record and stores as they came back.
abbrev pub pressed_again : KeyNumbers → Given → Given
pressed_again x g = host_pressed g.back x g.lent

-- ---- A terminal that is given the named rows

-- What the last call gave, and what the terminal shows.
pub record HostBench : Type 0 where
  pub given : Given
  pub terminal : List ℕ

-- At opening the terminal is given the full screen.
abbrev pub host_opened_bench : ℕ → ℕ → ℕ → Lent → HostBench
host_opened_bench n H W b = record { given = host_opened n H W b; terminal = (host_opened n H W b).lent.screen }

-- After a key the rows that the answer names are painted.
abbrev pub host_shown : Given → List ℕ → HostBench
host_shown g terminal =
    record { given = g; terminal = repaint g.back.columns g.said.first g.said.last g.lent.screen terminal }

unfoldable pub host_struck : KeyNumbers → HostBench → HostBench
host_struck x at = host_shown (pressed_again x at.given) at.terminal

unfoldable pub host_typed : List KeyNumbers → HostBench → HostBench
host_typed [] at = at
host_typed (x ∷ xs) at = host_typed xs (host_struck x at)

-- ---- A terminal at the end of a line

-- What the last call gave, the host's buffer, and the terminal.
pub record HostLine : Type 0 where
  pub given : Given
  pub buffer : List ℕ
  pub terminal : Machine

-- After a call, whatever it answered, the routine is called with the answer's numbers, and as many bytes as it counts are sent.
abbrev pub host_bytes : Given → List ℕ → SendOutcome
host_bytes g buffer =
    sending g.back.rows g.back.columns g.said.first g.said.last g.said.row g.said.column g.lent.screen buffer

abbrev pub host_received : Given → SendOutcome → Machine → HostLine
host_received g p m =
    record { given = g; buffer = p.buffer; terminal = feed g.back.rows g.back.columns (take p.count p.buffer) m }

unfoldable pub host_opened_line : ℕ → ℕ → ℕ → Lent → List ℕ → Machine → HostLine
host_opened_line n H W b buffer m = let g = host_opened n H W b in host_received g (host_bytes g buffer) m

-- The buffer is lent again as it was left.
unfoldable pub host_struck_line : KeyNumbers → HostLine → HostLine
host_struck_line x at = let g = pressed_again x at.given in host_received g (host_bytes g at.buffer) at.terminal

unfoldable pub host_typed_line : List KeyNumbers → HostLine → HostLine
host_typed_line [] at = at
host_typed_line (x ∷ xs) at = host_typed_line xs (host_struck_line x at)
