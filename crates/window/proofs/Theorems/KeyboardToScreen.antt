-- Keyboard bytes in, screen bytes out: from a good open, whatever bytes arrive in whatever pieces, the terminal shows the window of the plain
-- document after the keys that the bytes read as. (02, M-107.)
use mathlib.Core.Path.{◌≡◌, refl, ap, ap₂, subst, ◌∙◌}
use mathlib.Core.Logic.{⊎_elim}
use mathlib.Core.Bool.{true}
use mathlib.Core.List.{List, [], ◌∷◌, map}
use Prim.Native.Nat.{ℕ, ◌≤◌}
use native.Mathlib.Omega.{arith}
use lib.Dec.{eqb, leb}
use lib.ListN.{take}
use borrow.Author.Tests.{eqb-true, leb-true, le-leb}
use Rattle.gap.specs.Rules.Layout.{printable}
use Rattle.gap.proofs.Laws.Tests.{and_right, or_cases, cond-true}
use Rattle.editor.specs.Rules.Plain.{opening}
use Rattle.editor.specs.Rules.Keys.{keys}
use Rattle.editor.specs.Rules.Bytes.{quarter}
use Rattle.keyboard.specs.Rules.Streams.{joined, press_all}
use Rattle.keyboard.specs.Wording.Begun.{of_terminal}
use Rattle.keyboard.proofs.Theorems.Readings.{sent-exactly}
use Rattle.keyboard.proofs.Theorems.OneReading.{AllSent, read-sent, host-pressed}
use Rattle.window.specs.Words.{Key, Insert, Function, Recall, Quote, Find, Replace, Mark, Cut, Paste, Newline, Tab}
use Rattle.window.specs.Rules.Core.{Lent, T, opened}
use Rattle.window.specs.Rules.Terminal.{opening_view, viewed}
use Rattle.window.specs.Rules.Machine.{Machine, Line, opened_line, struck_line, typed_line, showing, Ready}
use Rattle.window.specs.Rules.Host.{numbers_of_key, of_byte, host_opened}
use Rattle.window.specs.Rules.HostRun.{keys_named, HostLine, host_opened_line, host_typed_line}
use Rattle.window.specs.Rules.Receiving.{keys_read, received_line, host_struck_key, host_received_line}
use Rattle.window.proofs.Theorems.Line.{demand-three-line}
use Rattle.window.proofs.Theorems.HostTerminal.{host-demand-three-line}
use Rattle.window.proofs.Theorems.OverAndBack.{key-over}

-- ---- The core

pressed-line : (ks : List Key) (at : Line) → press_all struck_line ks at ≡ typed_line ks at
unfolding press_all typed_line
pressed-line [] at = refl
pressed-line (k ∷ ks) at = pressed-line ks (struck_line k at)

module _ (n H W : ℕ) (b : Lent) (accepts : (opened n H W b).answer.code ≡ 0) (buffer : List ℕ) (m : Machine) (ready : Ready H W buffer m) where
  pub keyboard-to-screen : (pieces : List (List ℕ))
      → ((received_line pieces (opened_line n H W b buffer m)).terminal
      ≡ showing (viewed (T b.stores) (keys_read (joined pieces)) (opening_view n H W b)))
      × ((viewed (T b.stores) (keys_read (joined pieces)) (opening_view n H W b)).plain
      ≡ keys (T b.stores) quarter (keys_read (joined pieces)) (opening (take n b.stores.text)))
  keyboard-to-screen pieces =
      let ks = keys_read (joined pieces) in
      let line = opened_line n H W b buffer m in
      let shown = demand-three-line n H W b accepts buffer m ready ks in (
        ap (λ h. h.at.terminal) (host-pressed struck_line pieces line) ∙ (ap (λ at. at.terminal) (pressed-line ks line) ∙ shown.0),
        shown.1,
      )

-- ---- The host's boundary

host-pressed-line : (ks : List Key) (at : HostLine) → press_all host_struck_key ks at ≡ host_typed_line (map numbers_of_key ks) at
unfolding press_all host_typed_line
host-pressed-line [] at = refl
host-pressed-line (k ∷ ks) at = host-pressed-line ks (host_struck_key k at)

-- A key that terminals send can be pressed.
of-byte : (k : Key) → of_terminal k ≡ true → of_byte k ≡ true
of-byte (Insert b) inside =
    let ten : eqb b 10 ≡ true → b ≤ 255 = λ same. omega (arith, eqb-true b 10 same) in
    let printed : printable b ≡ true → b ≤ 255 = λ shown. omega (arith, leb-true b 126 (and_right (leb 32 b) (leb b 126) shown)) in
    le-leb b 255 (⊎_elim ten printed (or_cases (eqb b 10) (printable b) inside))
of-byte (Function action way place) inside = refl
of-byte Recall inside = refl
of-byte Quote inside = refl
of-byte (Find way) inside = refl
of-byte Replace inside = refl
of-byte Mark inside = refl
of-byte Cut inside = refl
of-byte Paste inside = refl
of-byte Newline inside = refl
of-byte Tab inside = refl

-- So its numbers name it.
all_named : (ks : List Key) → AllSent ks → keys_named (map numbers_of_key ks) ≡ ks
unfolding keys_named
all_named [] sent = refl
all_named (k ∷ ks) sent =
    let over = key-over k (of-byte k ((sent-exactly k).1 sent.0)) in
    cond-true _ _ over.0 ∙ ap₂ ◌∷◌ over.1 (all_named ks sent.1)

module _ (n H W : ℕ) (b : Lent) (accepts : (host_opened n H W b).said.code ≡ 0) (buffer : List ℕ) (m : Machine) (ready : Ready H W buffer m) where
  pub host-keyboard-to-screen : (pieces : List (List ℕ))
      → ((host_received_line pieces (host_opened_line n H W b buffer m)).terminal
      ≡ showing (viewed (T b.stores) (keys_read (joined pieces)) (opening_view n H W b)))
      × ((viewed (T b.stores) (keys_read (joined pieces)) (opening_view n H W b)).plain
      ≡ keys (T b.stores) quarter (keys_read (joined pieces)) (opening (take n b.stores.text)))
  host-keyboard-to-screen pieces =
      let ks = keys_read (joined pieces) in
      let line = host_opened_line n H W b buffer m in
      let same = all_named ks (read-sent (joined pieces)) in
      let shown = host-demand-three-line n H W b accepts buffer m ready (map numbers_of_key ks) in (
        ap (λ h. h.at.terminal) (host-pressed host_struck_key pieces line)
            ∙ (ap (λ at. at.terminal) (host-pressed-line ks line)
            ∙ (shown.0 ∙ ap (λ ks. showing (viewed (T b.stores) ks (opening_view n H W b))) same)),
        subst
            (λ ks. (viewed (T b.stores) ks (opening_view n H W b)).plain ≡ keys (T b.stores) quarter ks (opening (take n b.stores.text)))
            same shown.1,
      )
