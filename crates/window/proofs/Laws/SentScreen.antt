-- All that is sent for a screen, and a simple terminal that reads it. (02, M-100: proved.)
use mathlib.Core.Path.{◌≡◌, ap, ◌∙◌}
use mathlib.Core.Bool.{true}
use mathlib.Core.List.{List}
use Prim.Native.Nat.{ℕ, ◌*◌}
use lib.ListN.{length}
use Rattle.gap.specs.Rules.Sequence.{every}
use Rattle.gap.specs.Rules.Layout.{printable}
use Rattle.window.specs.Rules.Terminal.{repaint}
use Rattle.window.specs.Rules.Sequences.{sent_spot, sent_rows, sent_column, sent_screen}
use Rattle.window.specs.Rules.Sending.{sendable}
use Rattle.window.specs.Rules.Machine.{Machine, cells, machine, feed}
use Rattle.window.proofs.Laws.Sendable.{sendable-facts, sent-on}
use Rattle.window.proofs.Laws.Machine.{feed-append, feed-spot}
use Rattle.window.proofs.Laws.SentRows.{feed-rows}

module _ (H W first last row column : ℕ) (screen : List ℕ)
    (fit : sendable H W first last row column screen ≡ true) (printed : every printable screen ≡ true) where
  -- A terminal that showed some screen of this size, no sequence begun, shows it repainted, its cursor where it was sent.
  pub sent-shown : (m : Machine) → length m.shows ≡ H * W → m.reading ≡ cells
      → feed H W (sent_screen W first last row column screen) m
      ≡ machine (repaint W first last screen m.shows) row (sent_column W column)
  unfolding sent_screen
  sent-shown m size ready =
      let facts = sendable-facts H W first last row column screen fit in
      let rows = feed-rows H W screen facts.wide facts.long printed first last m facts.ordered facts.inside size ready in
      let sent = sent-on W column facts.wide in
      feed-append H W (sent_rows W first last screen) (sent_spot row (sent_column W column)) m
      ∙ (feed-spot H W row (sent_column W column) (feed H W (sent_rows W first last screen) m) facts.top facts.bottom sent.0 sent.1 rows.ready
      ∙ ap (λ s. machine s row (sent_column W column)) rows.bytes)
