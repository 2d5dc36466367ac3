-- The checks of each call, in order: theorems say with them when each number is given. (01, refusals: order; 02, M-100, M-106: refusals.)
use Rattle.std.specs.Prelude.{List, [], ◌∷◌, ◌&&◌, ℕ, leb, length, take}
use Rattle.gap.specs.Rules.Checks.{Check, check}
use Rattle.window.specs.Words.{Key, Session}
use Rattle.gap.specs.Rules.Sequence.{every}
use Rattle.gap.specs.Rules.Layout.{allowed, printable}
use Rattle.gap.specs.Rules.LineLimits.{lines_fit}
use Rattle.editor.specs.Rules.Refusals.{SIZE, LONG, TEXT, SESSION, KEY, ROOM, LINE}
use Rattle.editor.specs.Rules.LongLines.{longest_line}
use Rattle.editor.specs.Rules.Keys.{sound_key, pressed, finished_checks}
use Rattle.editor.specs.Rules.Bytes.{quarter}
use Rattle.window.specs.declared.host.Record.{Record}
use Rattle.window.specs.Rules.Core.{Lent, T, tabled, is_session, held}
use Rattle.window.specs.Rules.Sequences.{sent_screen}
use Rattle.window.specs.Rules.Sending.{sendable}
use Rattle.window.specs.Rules.Host.{is_host_session, host_held, KeyNumbers, key_of, names}

-- The checks of opening, in order.
abbrev pub opening_checks : ℕ → ℕ → ℕ → Lent → List Check
opening_checks n H W b =
    check SIZE (tabled H W b)
    ∷ check LONG (leb n (T b.stores))
    ∷ check TEXT (every allowed (take n b.stores.text))
    ∷ check LINE (lines_fit longest_line (take n b.stores.text))
    ∷ []

-- The checks of a key, in order; what comes behind KEY is about the finished texts.
abbrev pub key_checks : Session → Key → Lent → List Check
key_checks s k b =
    check SIZE (tabled s.frame.h s.frame.w b)
    ∷ check SESSION (is_session s b.stores)
    ∷ check KEY (sound_key (held s b.stores).mode k)
    ∷ finished_checks (T b.stores) quarter (pressed k (held s b.stores)).state

-- The checks of a key at the host's boundary, in order: a mode that is none is no session, and numbers that name no key are no sound key.
abbrev pub host_key_checks : Record → KeyNumbers → Lent → List Check
host_key_checks n x b =
    check SIZE (tabled n.rows n.columns b)
    ∷ check SESSION (is_host_session n b.stores)
    ∷ check KEY (names x && sound_key (host_held n b.stores).mode (key_of x))
    ∷ finished_checks (T b.stores) quarter (pressed (key_of x) (host_held n b.stores)).state

-- The checks of the routine for terminals, in order.
abbrev pub send_checks : ℕ → ℕ → ℕ → ℕ → ℕ → ℕ → List ℕ → List ℕ → List Check
send_checks H W first last row column screen buffer =
    check SIZE (sendable H W first last row column screen)
    ∷ check TEXT (every printable screen)
    ∷ check ROOM (leb (length (sent_screen W first last row column screen)) (length buffer))
    ∷ []
