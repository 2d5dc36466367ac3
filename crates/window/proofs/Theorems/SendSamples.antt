-- The definitions give each example of M-100.
use mathlib.Core.Path.{◌≡◌, refl}
use mathlib.Core.Bool.{true, ◌&&◌}
use Rattle.gap.specs.Rules.Sequence.{same_bytes, part, patch, counted}
use Rattle.gap.specs.Rules.Strings.{bytes}
use Rattle.gap.specs.Rules.Nearest.{nearest}
use Rattle.gap.specs.Rules.Decimal.{digits_in, decimal}
use Rattle.window.specs.Rules.Window.{joined}
use Rattle.window.specs.Rules.Sequences.{sent_spot, sent_row, sent_rows, sent_screen}
use Rattle.window.specs.Rules.Sending.{sendable, sending}
use Rattle.window.specs.Rules.Machine.{step, feed}
use Rattle.window.specs.Tables.SendSamples.{all_sent, send_samples, all_read, read_samples}

pub samples-right : (all_sent send_samples && all_read read_samples) ≡ true
unfolding same_bytes part patch counted bytes nearest digits_in decimal joined sent_spot sent_row sent_rows sent_screen sendable sending step feed all_sent all_read
samples-right = refl
