-- The terminal of the third demand, and the plain document that it must show.
use Rattle.std.specs.Prelude.{◌≡◌, ◌≤◌, List, [], ◌∷◌, ◌++◌, true, cond, ℕ, suc, ◌-◌, ◌*◌, eqb, take, drop}
use Rattle.window.specs.Words.{Key, Frame, Session}
use Rattle.gap.specs.Rules.Sequence.{part}
use Rattle.editor.specs.Rules.Plain.{Plain, opening, Outcome, refused, done}
use Rattle.editor.specs.Rules.Keys.{key}
use Rattle.editor.specs.Rules.Bytes.{quarter, stores_of, SoundPlain}
use Rattle.window.specs.Rules.Window.{virtual, window, visible, policy}
use Rattle.window.specs.Rules.Core.{Lent, Called, rows_and_columns, session_of, start, opened, keyed}

-- ---- On bytes

-- The named rows are painted from the screen, the others stay; first = 0 names none.
unfoldable pub repaint : ℕ → ℕ → ℕ → List ℕ → List ℕ → List ℕ
repaint W first last screen terminal =
    cond (eqb first 0) terminal
    (take ((first - 1) * W) terminal ++ (part ((first - 1) * W) ((suc last - first) * W) screen ++ drop (last * W) terminal))

-- A bench: what the last call gave, and what the terminal shows.
pub record Bench : Type 0 where
  pub called : Called
  pub terminal : List ℕ

-- At opening the terminal is given the full screen.
abbrev pub opened_bench : ℕ → ℕ → ℕ → Lent → Bench
opened_bench n H W b = record { called = opened n H W b; terminal = (opened n H W b).lent.screen }

-- A key is called with record and stores as they came back, and its named rows go to the terminal.
abbrev pub given : Called → List ℕ → Bench
given o terminal =
    record {
      called = o;
      terminal = repaint o.session.frame.w o.answer.first o.answer.last o.lent.screen terminal;
    }

unfoldable pub struck : Key → Bench → Bench
struck k at = given (keyed at.called.session k at.called.lent) at.terminal

unfoldable pub typed : List Key → Bench → Bench
typed [] at = at
typed (k ∷ ks) at = typed ks (struck k at)

-- ---- On the plain document

-- A plain state and the window through which it is seen.
pub record View : Type 0 where
  pub plain : Plain
  pub frame : Frame

abbrev pub opening_view : ℕ → ℕ → ℕ → Lent → View
opening_view n H W b = record { plain = opening (take n b.stores.text); frame = start H W }

-- The view after a key, and after a list of keys; a refused one changes nothing.
abbrev pub looked : View → Outcome → View
looked v (refused n) = v
looked v (done did) = record { plain = did.state; frame = policy v.frame (virtual did.state) }

unfoldable pub viewed : ℕ → List Key → View → View
viewed T [] v = v
viewed T (k ∷ ks) v = viewed T ks (looked v (key T quarter k v.plain))

-- What a terminal should show of it.
abbrev pub picture : View → List ℕ
picture v = window v.frame (virtual v.plain)

-- ---- A bench that shows a view

-- A good view: a sound plain state for stores of length size, and a tabled window that shows its cursor.
pub record Good (size : ℕ) (v : View) : Type 0 where
  pub low : 1 ≤ size
  pub high : size ≤ 65536
  pub sound : SoundPlain size quarter v.plain
  pub tabled : rows_and_columns v.frame.h v.frame.w ≡ true
  pub seen : visible v.frame (virtual v.plain) ≡ true

-- A view as record and stores, with any screen.
abbrev pub record_of : View → Session
record_of v = session_of v.plain v.frame

abbrev pub stores_with : ℕ → View → List ℕ → Lent
stores_with size v screen = record { stores = stores_of size quarter v.plain; screen = screen }

-- Record, stores and terminal all hold the view: the terminal shows its window.
pub record Showing (size : ℕ) (v : View) (at : Bench) : Type 0 where
  pub session : at.called.session ≡ record_of v
  pub lent : at.called.lent ≡ stores_with size v (picture v)
  pub terminal : at.terminal ≡ picture v
